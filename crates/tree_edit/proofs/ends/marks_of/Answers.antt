-- `marks_of`: the marks, with those under the index pages that are left, are those of all reached pages.
-- Assumes nothing.
use Prim.Native.Nat.{◌<◌}
use mathlib.Core.Path.{◌∙◌}
use native.Mathlib.Omega.{arith}
use lib.ListN.{length}
use Rattle.page.specs.Page.{records}
use Rattle.tree_edit.proofs.Places.{names-read}
use Rattle.tree_edit.proofs.Marked.{marks-all, marks-most, one-small, one-marked, root-low, top-first, index-two, index-names, index-small, top-next, top-last}
use Rattle.tree_edit.proofs.ends.marks_of.Goals as goal
use Rattle.tree_edit.proofs.ends.marks_of.Goals.{In-loop-i}

pub height_of-requires : goal.height_of-requires
height_of-requires c = c.requires.top.fits

pub laid_page-page-requires : goal.laid_page-page-requires
laid_page-page-requires c = names-read c.requires.top

pub mark_page-requires : goal.mark_page-requires
mark_page-requires c = (c.requires.top, one-small _ _ c.requires _ c.height_of.ensures c.if-height_of-eq1.true)

pub returns-then-height_of-eq1 : goal.returns-then-height_of-eq1
returns-then-height_of-eq1 c =
    let all = one-marked _ _ c.requires _ c.height_of.ensures c.if-height_of-eq1.true _ c.mark_page.ensures in
    record { marks = marks-all _ c.requires.small _ all; by_index = marks-most _ c.requires.small _ all }

pub bounds-marks-root : goal.bounds-marks-root
bounds-marks-root c = root-low _ _ c.requires _ c.height_of.ensures c.if-height_of-eq1.false _ c.laid_page-page.ensures

pub loop-i-init : goal.loop-i-init
loop-i-init c = top-first _ _ c.requires _ c.height_of.ensures c.if-height_of-eq1.false _ c.laid_page-page.ensures

-- a record more is left
left : (c : In-loop-i) → c.loop-i.i < length (records c.laid_page-page.result.bytes.now)
left c = omega (arith, c.count-i-end.ensures, c.loop-i-test.true)

pub child_at-requires : goal.child_at-requires
child_at-requires c =
    let h = left (goal.at.child_at-requires c).In-loop-i in
    (h, index-two _ _ c.requires _ c.height_of.ensures c.if-height_of-eq1.false _ c.laid_page-page.ensures _ h)

pub mark_page-requires-in-loop-i : goal.mark_page-requires-in-loop-i
mark_page-requires-in-loop-i c =
    let h = left (goal.at.mark_page-requires-in-loop-i c).In-loop-i in
    (index-names _ _ c.requires _ c.height_of.ensures c.if-height_of-eq1.false _ c.laid_page-page.ensures _ h _ c.child_at.ensures, index-small _ _ c.requires _ c.height_of.ensures c.if-height_of-eq1.false _ c.laid_page-page.ensures _ h _ c.child_at.ensures)

pub loop-i-preserved : goal.loop-i-preserved
loop-i-preserved c =
    top-next _ _ c.requires _ c.height_of.ensures c.if-height_of-eq1.false _ c.laid_page-page.ensures _ (left (goal.at.loop-i-preserved c).In-loop-i) _ c.child_at.ensures _ _ c.mark_page-in-loop-i.ensures ∙ c.loop-i.invariant

pub returns : goal.returns
returns c =
    let l = c.loop-i in
    let all = top-last _ _ c.requires _ c.height_of.ensures c.if-height_of-eq1.false _ c.laid_page-page.ensures l.marks l.i (omega (arith, c.count-i-end.ensures, c.loop-i-test.false)) l.invariant in
    record { marks = marks-all _ c.requires.small _ all; by_index = marks-most _ c.requires.small _ all }
