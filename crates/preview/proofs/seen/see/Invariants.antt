-- `see`: what the edits that are left make of what is seen so far, or of the image's answer, is what all of them make of the image's answer, whatever that is.
-- Assumes nothing.
use Rattle.std.specs.Prelude.{Option, Result}
use Prim.Native.Nat.{◌-◌, ◌≤◌}
use mathlib.Core.Path.{◌≡◌}
use lib.ListN.{length}
use Rattle.image.specs.declared.Part.{Part}
use Rattle.device.specs.declared.Refusal.{Refusal}
use Rattle.edit.specs.EditList.{edits_of, edit_list}
use Rattle.edit.proofs.Heads.{Ahead}
use Rattle.preview.specs.Calls.{in_image, seen_from, seen}
use Rattle.preview.proofs.Walk.{seen_by}
use Rattle.preview.proofs.seen.see.Given as goal

abbrev pub invariant-loop-at : goal.invariant-loop-at
invariant-loop-at l =
    (l.at ≤ length l.list) × (A : Ahead l.list l.at)
    × ((stored : Result (Option Part) Refusal) → seen_from l.key l.at (seen_by l.last (in_image stored)) A.edits ≡ seen stored l.key (edits_of (edit_list l.list)))

abbrev pub decreases-loop-at : goal.decreases-loop-at
decreases-loop-at l = length l.list - l.at
