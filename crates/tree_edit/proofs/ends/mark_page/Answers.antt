-- `mark_page`: the marks, with those that are left, are those of the page and of all that it names.
-- Assumes nothing.
use Prim.Native.Nat.{◌<◌}
use mathlib.Core.Path.{◌∙◌}
use native.Mathlib.Omega.{arith}
use lib.ListN.{length, length-set}
use Rattle.page.specs.Page.{records}
use Rattle.tree_edit.proofs.Places.{names-read}
use Rattle.tree_edit.proofs.Marked.{page-low, mark-first, named-two, named-low, mark-next, mark-last}
use Rattle.tree_edit.proofs.ends.mark_page.Goals as goal
use Rattle.tree_edit.proofs.ends.mark_page.Goals.{In-loop-i}

pub laid_page-page-requires : goal.laid_page-page-requires
laid_page-page-requires c = names-read c.requires.0

pub bounds-marks-q : goal.bounds-marks-q
bounds-marks-q c = page-low _ _ c.requires.0 c.requires.1 _ c.laid_page-page.ensures

pub loop-i-init : goal.loop-i-init
loop-i-init c = (simp length-set c.told-marks, mark-first _ _ c.requires.0 c.requires.1 _ c.laid_page-page.ensures _)

-- a record more is left
left : (c : In-loop-i) → c.loop-i.i < length (records c.laid_page-page.result.bytes.now)
left c = omega (arith, c.count-i-end.ensures, c.loop-i-test.true)

pub child_at-named-requires : goal.child_at-named-requires
child_at-named-requires c =
    let h = left (goal.at.child_at-named-requires c).In-loop-i in
    (h, named-two _ _ c.requires.0 c.requires.1 _ c.laid_page-page.ensures _ h)

pub bounds-marks-named : goal.bounds-marks-named
bounds-marks-named c =
    named-low _ _ c.requires.0 c.requires.1 _ c.laid_page-page.ensures _ (left (goal.at.bounds-marks-named c).In-loop-i) _ c.child_at-named.ensures

pub loop-i-preserved : goal.loop-i-preserved
loop-i-preserved c =
    let l = c.loop-i in
    (simp length-set l.invariant.0, mark-next _ _ c.requires.0 c.requires.1 _ c.laid_page-page.ensures l.i (left (goal.at.loop-i-preserved c).In-loop-i) _ c.child_at-named.ensures l.marks ∙ l.invariant.1)

pub returns : goal.returns
returns c =
    let l = c.loop-i in
    mark-last _ _ c.requires.0 c.requires.1 _ c.laid_page-page.ensures l.marks l.i (omega (arith, c.count-i-end.ensures, c.loop-i-test.false)) ∙ l.invariant.1
