-- `claim`: what is left to be marked of the pages from the i-th on, with the marks, is the whole.
-- Assumes nothing.
use mathlib.Core.Path.{sym}
use mathlib.Core.List.{[]}
use native.Mathlib.Omega.{arith}
use Rattle.page.specs.Layout.{rec_of}
use Rattle.image.proofs.CodeMarks.{claiming-ends, claiming-past, claiming-twice, claiming-on}
use Rattle.image.proofs.node.claim.Goals as goal

pub returns-then-n-child-clause-value : goal.returns-then-n-child-clause-value
returns-then-n-child-clause-value c =
    sym (claiming-past c.loop-i.invariant (rec_of 0 []) (omega (arith, c.count-i-end.ensures, c.loop-i-test.true)) _ c.child_at-child.ensures c.if-n-child.true)

pub returns-then-marks-child-ne0-clause-value : goal.returns-then-marks-child-ne0-clause-value
returns-then-marks-child-ne0-clause-value c =
    sym (claiming-twice c.loop-i.invariant (rec_of 0 []) (omega (arith, c.count-i-end.ensures, c.loop-i-test.true)) _ c.child_at-child.ensures c.if-n-child.false c.if-marks-child-ne0.true)

pub loop-i-preserved : goal.loop-i-preserved
loop-i-preserved c =
    claiming-on c.loop-i.invariant (rec_of 0 []) (omega (arith, c.count-i-end.ensures, c.loop-i-test.true)) _ c.child_at-child.ensures c.if-n-child.false c.if-marks-child-ne0.false

pub returns-clause-value : goal.returns-clause-value
returns-clause-value c = sym (claiming-ends c.loop-i.invariant (omega (arith, c.count-i-end.ensures, c.loop-i-test.false))).0

pub returns-clause-marks_after : goal.returns-clause-marks_after
returns-clause-marks_after c = λ t. (claiming-ends c.loop-i.invariant (omega (arith, c.count-i-end.ensures, c.loop-i-test.false))).1
