-- `judge_keys`: what is noted says which keys are there, the marks stand for what was read for the keys so far, and what the edits that are left come to is what all come to.
-- Assumes nothing.
use Rattle.std.specs.Prelude.{Bool, Result}
use Rattle.std.proofs.lemmas.Result.{err_from_is_err_and}
use Prim.Native.Nat.{◌<◌}
use mathlib.Core.Path.{◌≡◌, refl, sym, ap, ◌∙◌, subst}
use mathlib.Core.List.{List, [], ◌∷◌, ◌++◌}
use native.Mathlib.Omega.{arith}
use lib.ListN.{get_or, take, length-set}
use lib.Dec.{eqb}
use Rattle.device.specs.declared.Refusal.{Refusal}
use Rattle.image.specs.Descent.{root_read, nodes_after, records_for}
use Rattle.image.specs.Marks.{Marked}
use Rattle.edit.proofs.Heads.{head-fits}
use Rattle.preview.specs.Noted.{kind_noted, presence, there_by, fault_by}
use Rattle.preview.proofs.ReadAgain.{records-steady, first-nodes}
use Rattle.preview.proofs.Judging.{marks-none, upto-start, upto-end, one_more, upto-stop, upto_next, looked-value, looked-marks}
use Rattle.preview.proofs.keys.judge_keys.Goals as goal
use Rattle.preview.proofs.keys.judge_keys.Goals.{After-is_there}

pub loop-at-init : goal.loop-at-init
loop-at-init c =
    let a = c.args in
    let img = a.index.now.image.now in
    let root = a.index.now.root in
    (omega arith, refl, [], upto-start (records_for img root) (records-steady img root) a.list.now _ _ c.requires.0, marks-none img root (nodes_after img root (root_read root) []) a.marks.now (subst (λ (ns : List _). Marked img root ns a.marks.now) (sym (first-nodes img root)) c.requires.1))

pub long_at-key-requires : goal.long_at-key-requires
long_at-key-requires c = omega (arith, head-fits c.loop-at.invariant.3.ahead c.loop-at-test.true _ refl)

-- what is to be said of the edit, by what is noted
says : (c : After-is_there) (there : Result Bool Refusal) → c.is_there.result ≡ there →
    let l = c.loop-at in
    let a = c.args in
    let k = c.long_at-key.result in
    fault_by l.n (eqb (get_or a.list.now l.at 0) 1) there ≡
    fault_by l.n (eqb (get_or a.list.now l.at 0) 1) (there_by (kind_noted (take l.n l.noted) k) (presence k (records_for a.index.now.image.now a.index.now.root l.invariant.2 k)))
says c there is = ap (fault_by c.loop-at.n (eqb (get_or c.args.list.now c.loop-at.at 0) 1)) (sym is ∙ looked-value c.is_there.ensures c.loop-at.invariant.2 c.loop-at.invariant.4)

pub returns-in_err-there-clause-value : goal.returns-in_err-there-clause-value
unfolding fault_by
returns-in_err-there-clause-value c =
    let p = err_from_is_err_and c.from_residual.result c.from_residual.ensures.1 in
    rw (p.1, p.2) (upto-stop c.loop-at.invariant.3 c.loop-at-test.true _ refl _ c.long_at-key.ensures _ refl _ (says (goal.at.returns-in_err-there-clause-value c).After-is_there _ c.in_err-there.was) _ refl)

pub returns-in_err-key_fault-clause-value : goal.returns-in_err-key_fault-clause-value
returns-in_err-key_fault-clause-value c =
    let p = err_from_is_err_and c.from_residual-in_err-key_fault.result c.from_residual-in_err-key_fault.ensures.1 in
    rw (p.1, p.2) (upto-stop c.loop-at.invariant.3 c.loop-at-test.true _ refl _ c.long_at-key.ensures _ refl _ (sym c.in_err-key_fault.was ∙ c.key_fault.ensures ∙ says (goal.at.returns-in_err-key_fault-clause-value c).After-is_there _ c.in_ok-there.was) _ refl)

pub bounds-list-at-in-loop-at : goal.bounds-list-at-in-loop-at
bounds-list-at-in-loop-at c = omega (arith, head-fits c.loop-at.invariant.3.ahead c.loop-at-test.true _ refl)

pub loop-at-preserved : goal.loop-at-preserved
loop-at-preserved c =
    let l = c.loop-at in
    let more = c.loop-at-test.true in
    let k = c.long_at-key.result in
    let room : l.n < 16 = omega (arith, one_more l.invariant.3 more) in (
      head-fits l.invariant.3.ahead more _ c.wide.ensures.0,
      length-set l.noted l.n _ ∙ l.invariant.1,
      l.invariant.2 ++ k ∷ [],
      upto_next l.invariant.3 more _ c.wide.ensures.0 _ c.long_at-key.ensures _ refl _ (sym c.in_ok-key_fault.was ∙ c.key_fault.ensures ∙ says (goal.at.loop-at-preserved c).After-is_there _ c.in_ok-there.was) refl (omega (arith, l.invariant.1)),
      looked-marks c.is_there.ensures l.invariant.2 l.invariant.4 c.in_ok-there.there c.in_ok-there.was (λ x e. l.invariant.3.looked k x e),
    )

pub returns-clause-value : goal.returns-clause-value
returns-clause-value c = (upto-end c.loop-at.invariant.3 c.loop-at-test.false).0

pub returns-clause-marks_after : goal.returns-clause-marks_after
returns-clause-marks_after c q =
    let img = c.args.index.now.image.now in
    let root = c.args.index.now.root in
    let marks = c.loop-at.marks in
    subst (λ (ks : List _). Marked img root (nodes_after img root (root_read root) ks) marks) (upto-end c.loop-at.invariant.3 c.loop-at-test.false).1 c.loop-at.invariant.4.named
