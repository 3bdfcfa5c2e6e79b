-- `judge`: what is judged from the next edit on is the whole.
-- Assumes nothing.
use Prim.Native.Nat.{◌-◌, ◌≤◌}
use mathlib.Core.Path.{◌≡◌}
use lib.ListN.{length, drop}
use Rattle.edit.specs.EditList.{edits_in, edit_list}
use Rattle.edit.specs.Judged.{judged_of}
use Rattle.edit.proofs.judge.Given as goal

abbrev pub invariant-loop-at : goal.invariant-loop-at
invariant-loop-at l = (l.at ≤ length l.list) × (l.edit ≤ 16) × (judged_of (edits_in (16 - l.edit) l.edit (drop l.at l.list)) ≡ judged_of (edit_list l.list))

abbrev pub decreases-loop-at : goal.decreases-loop-at
decreases-loop-at l = length l.list - l.at
