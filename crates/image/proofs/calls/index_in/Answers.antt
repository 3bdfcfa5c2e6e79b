-- `index_in`: page 0, and then the root page.
-- Assumes nothing.
use Rattle.std.proofs.lemmas.Result.{err_from_is_err_and}
use Rattle.std.specs.Prelude.{Err, Ok}
use Prim.Native.Nat.{ℕ}
use mathlib.Core.Path.{◌≡◌, sym, ap, ◌∙◌, subst}
use Rattle.device.specs.Calls.{refusal}
use Rattle.image.specs.Descent.{root_read}
use Rattle.image.specs.Calls.{index_from, index_call}
use Rattle.image.specs.Marks.{Marked}
use Rattle.image.proofs.Read.{root-facts, no-root, root-same}
use Rattle.image.proofs.calls.index_in.Goals as goal

pub index_ok-requires : goal.index_ok-requires
index_ok-requires c =
    let f = root-facts _ _ (sym c.root_in.ensures ∙ c.in_ok-root.was) in
    (f.0, f.1, c.requires)

pub returns-then-not-index_ok : goal.returns-then-not-index_ok
unfolding index_call index_from
returns-then-not-index_ok c =
    let e : index_call c.args.image.now ≡ Err (refusal 4) = rw (sym c.root_in.ensures ∙ c.in_ok-root.was, sym c.index_ok.ensures.value ∙ c.if-not-index_ok.true) in
    record { value = e ∙ sym (ap Err c.of.ensures); marks_after = λ root f. absurd (no-root c.args.image.now (refusal 4) e root f) }

pub returns-in_err-root : goal.returns-in_err-root
unfolding index_call index_from
returns-in_err-root c =
    let p = err_from_is_err_and c.from_residual.result c.from_residual.ensures.1 in
    let e : index_call c.args.image.now ≡ Err c.in_err-root.field-0.0 = rw (sym c.root_in.ensures ∙ c.in_err-root.was) in
    record { value = rw (p.1, p.2) e; marks_after = λ root f. absurd (no-root c.args.image.now c.in_err-root.field-0.0 e root f) }

opens : (c : goal.After-result-1) → index_call c.args.image.now ≡ Ok c.in_ok-root.root
unfolding index_call index_from
opens c = rw (sym c.root_in.ensures ∙ c.in_ok-root.was, sym c.index_ok.ensures.value ∙ c.if-not-index_ok.false)

pub invariant_of-result : goal.invariant_of-result
unfolding index_call index_from
invariant_of-result c = record { is_opened = rw (sym c.root_in.ensures ∙ c.in_ok-root.was, sym c.index_ok.ensures.value ∙ c.if-not-index_ok.false) }

pub returns-clause-marks_after : goal.returns-clause-marks_after
returns-clause-marks_after c =
    λ root f.
    subst (λ (r : ℕ). Marked c.args.image.now r (root_read r) c.index_ok.new.marks) (root-same c.args.image.now c.in_ok-root.root root (opens c) f) (c.index_ok.ensures.marks_after c.if-not-index_ok.false)
