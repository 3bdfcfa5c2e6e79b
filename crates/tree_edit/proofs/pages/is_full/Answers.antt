-- `is_full` tests what `is_full` says.
-- Assumes nothing.
use Prim.Native.Nat.{◌-◌}
use mathlib.Core.Path.{sym, ap, ◌∙◌}
use native.Mathlib.Omega.{arith}
use lib.Dec.{leb}
use borrow.Author.Tests.{lt-ltb}
use Rattle.page.specs.Layout.{slot_count, read_head}
use Rattle.page.proofs.Facts.{ok-is}
use Rattle.tree_edit.proofs.Room.{full-bytes, full-count, full-not}
use Rattle.tree_edit.proofs.pages.is_full.Goals as goal

pub number_at-requires : goal.number_at-requires
number_at-requires c = omega (arith, (ok-is _ c.args.page.laid).body.whole)

pub overflow_sub-number_at : goal.overflow_sub-number_at
unfolding read_head
overflow_sub-number_at c = omega (arith, c.number_at.ensures.0, (ok-is _ c.args.page.laid).body.head.low)

pub returns-then-number_at-s : goal.returns-then-number_at-s
returns-then-number_at-s c =
    lt-ltb (c.number_at.result - 64) c.args.s c.if-number_at-s.true ∙ sym (full-bytes _ _ _ _ c.number_at.ensures.0 c.if-number_at-s.true)

pub returns-then-ins : goal.returns-then-ins
returns-then-ins c = ap (leb slot_count) c.count.ensures ∙ sym (full-count _ _ _ _ c.number_at.ensures.0 c.if-number_at-s.false c.if-ins.true)

pub returns-else-ins : goal.returns-else-ins
returns-else-ins c = c.if-ins.false ∙ sym (full-not _ _ _ _ c.number_at.ensures.0 c.if-number_at-s.false c.if-ins.false)
