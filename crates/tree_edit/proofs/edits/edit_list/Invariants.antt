-- `edit_list`: what the edits that are left come to is what all come to.
-- Assumes nothing.
use Prim.Native.Nat.{◌-◌, ◌≤◌}
use mathlib.Core.Path.{◌≡◌}
use lib.ListN.{length}
use Rattle.image.specs.PageZero.{page_count}
use Rattle.edit.specs.EditList.{edits_of, edit_list}
use Rattle.tree.specs.Whole.{edits_from}
use Rattle.tree_edit.specs.Steps.{state_of}
use Rattle.tree_edit.proofs.EditsLeft.{Left}
use Rattle.tree_edit.proofs.edits.edit_list.Given as goal

abbrev pub invariant-loop-at : goal.invariant-loop-at
invariant-loop-at l = (length l.work ≡ length l.initial.work) × (l.at ≤ length l.list) × Left (page_count l.initial.work) l.before l.list (edits_from 0 (edits_of (edit_list l.list)) (state_of l.before l.initial.work l.initial.tree)) l.work l.tree l.at l.number

abbrev pub decreases-loop-at : goal.decreases-loop-at
decreases-loop-at l = length l.list - l.at
