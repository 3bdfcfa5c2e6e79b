-- `fill_made`: an unused header, the records filled in one after the other, the header line written.
-- Assumes nothing.
use mathlib.Core.Path.{◌∙◌}
use native.Mathlib.Omega.{arith}
use Rattle.page.proofs.Facts.{ok-is}
use Rattle.page.proofs.Made.{between-end}
use Rattle.page_edit.proofs.Filled.{left-all, left-room, left-next, left-none, new-next, old-few, old-next, old-stands, room-unused, filled-page}
use Rattle.page_edit.proofs.fill_made.Goals as goal
use Rattle.page_edit.proofs.fill_made.Goals.{then-k-i, else-k-i}

pub loop-k-init : goal.loop-k-init
loop-k-init c = left-all _ _ _ (room-unused _ _ _ _ c.unused-h.ensures c.requires.1.few c.requires.1.room)

-- the k-th is the new one
pub append_new-h-requires : goal.append_new-h-requires
append_new-h-requires c =
    let l = c.loop-k in
    let next = new-next c.requires.1 _ c.loop-k-test.true c.if-k-i.true in
    (omega (arith, c.requires.0), c.requires.1.good, left-room _ _ _ next l.invariant)

-- the k-th is an old one
pub overflow_mul-old_slot : goal.overflow_mul-old_slot
overflow_mul-old_slot c = omega (arith, old-few c.requires.1 _ c.loop-k-test.true c.if-k-i.false _ c.old_slot.ensures)

pub overflow_add-old_slot : goal.overflow_add-old_slot
overflow_add-old_slot c = omega (arith, old-few c.requires.1 _ c.loop-k-test.true c.if-k-i.false _ c.old_slot.ensures)

pub number_at-at-requires : goal.number_at-at-requires
number_at-at-requires c =
    omega (arith, old-few c.requires.1 _ c.loop-k-test.true c.if-k-i.false _ c.old_slot.ensures, (ok-is _ c.requires.1.ok).body.whole)

pub append_copy-h-requires : goal.append_copy-h-requires
append_copy-h-requires c =
    let l = c.loop-k in
    let next = old-next c.requires.1 _ c.loop-k-test.true c.if-k-i.false _ c.old_slot.ensures _ c.number_at-at.ensures.0 in
    let there = old-stands c.requires.1 _ c.loop-k-test.true c.if-k-i.false _ c.old_slot.ensures _ c.number_at-at.ensures.0 in
    (omega (arith, c.requires.0), (ok-is _ c.requires.1.ok).body.whole, there, left-room _ _ _ next l.invariant)

pub loop-k-preserved : goal.loop-k-preserved
loop-k-preserved c =
    let l = c.loop-k in
    elim c.if-k-i.branch [
      | then-k-i w ↦
          let next = new-next c.requires.1 _ c.loop-k-test.true w.if-k-i.true in
          rw (w.h-is, w.page-is) (left-next _ _ _ _ _ next l.invariant w.append_new-h.ensures)
      | else-k-i w ↦
          let next = old-next c.requires.1 _ c.loop-k-test.true w.if-k-i.false _ w.old_slot.ensures _ w.number_at-at.ensures.0 in
          rw (w.h-is, w.page-is) (left-next _ _ _ _ _ next l.invariant w.append_copy-h.ensures)
    ]

pub returns : goal.returns
returns c =
    let l = c.loop-k in
    let none = between-end _ l.k c.args.to (omega arith) in
    c.write.ensures ∙ filled-page _ _ _ _ _ _ _ c.unused-h.ensures (left-none _ none l.invariant)
