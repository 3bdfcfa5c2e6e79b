-- `judge`: what is judged from the next edit on is the whole.
-- Assumes nothing.
use Rattle.std.specs.Prelude.{Err}
use Prim.Native.Nat.{◌+◌, ◌-◌}
use mathlib.Core.Path.{refl, sym, ap, ◌∙◌}
use native.Mathlib.Omega.{arith}
use Rattle.device.specs.declared.Cause.{Cause}
use Rattle.edit.proofs.Judging.{none-named, some-named, judged-none, judged-start, judged-end, judged-past, judged-fault, judged-next, faultless-in}
use Rattle.edit.proofs.judge.Goals as goal

pub returns-then-list-eq0 : goal.returns-then-list-eq0
returns-then-list-eq0 c = ap Err c.of.ensures ∙ sym (judged-none c.args.list.now c.if-list-eq0.true)

pub loop-at-init : goal.loop-at-init
loop-at-init c = (omega arith, omega arith, judged-start c.args.list.now c.if-list-eq0.false)

pub returns-then-edit-gt15 : goal.returns-then-edit-gt15
returns-then-edit-gt15 c = sym (judged-past c.args.list.now c.loop-at.at c.loop-at-test.true (16 - c.loop-at.edit) c.loop-at.edit (omega arith)) ∙ c.loop-at.invariant.2

pub returns-in-Some : goal.returns-in-Some
returns-in-Some c =
    let loop = c.loop-at in
    let named = some-named _ _ c.in-Some.ensures in
    ap (λ (cause : Cause). Err (record { cause = cause; edit = loop.edit })) (sym named.1)
    ∙ sym (judged-fault c.args.list.now loop.at c.loop-at-test.true _ loop.edit (15 - loop.edit) (omega arith) _ refl named.0) ∙ loop.invariant.2

pub bounds-list-at : goal.bounds-list-at
bounds-list-at c = omega (arith, (faultless-in c.args.list.now c.loop-at.at (none-named _ c.in_default.ensures) (omega arith)))

pub loop-at-preserved : goal.loop-at-preserved
loop-at-preserved c =
    let loop = c.loop-at in (
      omega (arith, (faultless-in c.args.list.now loop.at (none-named _ c.in_default.ensures) (omega arith)), c.wide.ensures.0),
      omega arith,
      sym (judged-next c.args.list.now loop.at c.loop-at-test.true (16 - loop.edit) loop.edit (16 - (loop.edit + 1)) (omega arith) (loop.at + 10 + c.wide.result) (none-named _ c.in_default.ensures) (omega (arith, c.wide.ensures.0))) ∙ loop.invariant.2,
    )

pub returns : goal.returns
returns c = sym (judged-end c.args.list.now c.loop-at.at (16 - c.loop-at.edit) c.loop-at.edit c.loop-at-test.false) ∙ c.loop-at.invariant.2
