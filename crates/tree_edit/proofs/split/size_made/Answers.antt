-- `size_made`: of the new record, or of the record of the old slot.
-- Assumes nothing.
use mathlib.Core.Path.{◌≡◌, sym, ◌∙◌}
use native.Mathlib.Omega.{arith}
use Rattle.page.proofs.Made.{old_slot}
use Rattle.tree_edit.proofs.Sized.{size-new, old-less, size-old, slot-before, slot-after, slot_same}
use Rattle.tree_edit.proofs.split.size_made.Goals as goal
use Rattle.tree_edit.proofs.split.size_made.Goals.{Joined-new, then-new+then-new-k, else-new, else-new-via-then-new+else-new-k, else-new-via-else-new}

pub returns-then-k-new : goal.returns-then-k-new
returns-then-k-new c = c.size_of.ensures ∙ size-new c.requires.0 _ c.requires.1 c.if-k-new.true

-- the slot that the code takes
slot_is : (c : Joined-new) → old_slot c.args.new.ins c.args.new.at c.args.k ≡ c.if-new.old
slot_is c =
    let new = c.args.new in
    elim c.if-new.branch [
      | then-new+then-new-k w ↦ slot-after new.ins new.at c.args.k (omega (arith, w.if-new-k.true)) w.if-new.true ∙ sym w.old-is
      | else-new w ↦
          (elim w.else-new.branch [
            | else-new-via-then-new+else-new-k w' ↦ slot-before new.ins new.at c.args.k (omega (arith, w'.if-new-k.false, c.if-k-new.false))
            | else-new-via-else-new w' ↦ slot_same new.ins new.at c.args.k w'.if-new.false
          ]) ∙ sym w.old-is
    ]

pub size_at-requires : goal.size_at-requires
size_at-requires c =
    (old-less c.requires.0 _ c.requires.1 c.if-k-new.false _ (slot_is (goal.at.size_at-requires c).Joined-new))

pub returns : goal.returns
returns c =
    c.size_at.ensures ∙ size-old c.requires.0 _ c.requires.1 c.if-k-new.false _ (slot_is (goal.at.returns c).Joined-new)
