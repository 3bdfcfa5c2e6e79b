-- `nth_cut`: cut number r, where the tape is a small one and the choices have room.
-- Assumes nothing.
use Rattle.std.proofs.lemmas.Result.{err_from_is_err_and}
use Rattle.std.specs.Prelude.{Err}
use Prim.Native.Nat.{ℕ, ◌*◌}
use mathlib.Core.Path.{◌≡◌, sym, ap, ◌∙◌}
use native.Mathlib.Omega.{arith}
use lib.ListN.{length}
use Rattle.device.specs.Tape.{decode, well_formed}
use Rattle.cuts.specs.Says.{Small, bad-choices}
use Rattle.cuts.proofs.Calls.{said, whole-lines, small_is, nth-refuses, nth-over, says-nth}
use Rattle.cuts.proofs.nth_cut.Goals as goal
use Rattle.cuts.proofs.nth_cut.Goals.{In_ok-count}

small : (c : In_ok-count) → Small c.args.image.now c.args.tape.now × (c.in_ok-count.count ≡ length (decode (length c.args.image.now) c.args.tape.now))
small c = small_is _ _ _ (sym c.small_tape.ensures ∙ c.in_ok-count.was)

pub returns-then-choices-image : goal.returns-then-choices-image
returns-then-choices-image c =
    let a = c.args in
    let s = said _ _ (says-nth a.image.now a.tape.now a.r a.choices.now _ (bad-choices (small (goal.at.returns-then-choices-image c).In_ok-count).0 c.if-choices-image.true)) in
    record { value = ap Err c.of.ensures ∙ s.0; choices_after = s.1 }

pub find_cut-requires : goal.find_cut-requires
find_cut-requires c =
    let a = c.args in
    let k = small (goal.at.find_cut-requires c).In_ok-count in
    let whole = whole-lines _ k.0.size in
    let e : 64 * length a.choices.now ≡ length a.image.now = ap (λ (n : ℕ). 64 * n) c.if-choices-image.false ∙ whole.0 in
    record { choices_len_bound = omega (arith, whole.1, c.if-choices-image.false); tape_value = (ap (λ (n : ℕ). well_formed (decode n a.tape.now)) e ∙ k.0.formed, ap (λ (n : ℕ). length (decode n a.tape.now)) e ∙ sym k.1, omega (arith, k.0.few, k.1)) }

pub returns-in_err-count : goal.returns-in_err-count
returns-in_err-count c =
    let p = err_from_is_err_and c.from_residual.result c.from_residual.ensures.1 in
    let s = said _ _ (nth-refuses _ _ _ _ _ (sym c.small_tape.ensures ∙ c.in_err-count.was)) in
    record { value = rw (p.1, p.2) s.0; choices_after = s.1 }

pub returns : goal.returns
returns c =
    let a = c.args in
    let o = nth-over a.image.now a.tape.now a.r a.choices.now (small (goal.at.returns c).In_ok-count).0 c.if-choices-image.false c.find_cut.result c.find_cut.ensures.value in
    record { value = o.0; choices_after = c.find_cut.ensures.choices_after ∙ o.1 }
