-- The transaction's tape, on either device and for any edits that meet the five laws: it follows the method. So, run, it leaves its work image; cut anywhere,
-- recovery finds the old table or the new one.
-- Assumes nothing.
use Prim.Native.Nat.{ℕ, ◌+◌, ◌≤◌}
use mathlib.Core.Path.{◌≡◌, refl, subst}
use mathlib.Core.Bool.{Bool, true}
use mathlib.Core.List.{List, ◌∷◌}
use native.Mathlib.Omega.{arith}
use lib.ListN.{length, get_or}
use borrow.Author.Tests.{leb-true}
use Rattle.device.specs.Tape.{flush, barrier, malformed}
use Rattle.device.specs.Cut.{after, Closed}
use Rattle.image.specs.PageZero.{log_most}
use Rattle.image.specs.Image.{sound}
use Rattle.image.specs.Table.{table}
use Rattle.journal.specs.Changes.{stage_a, changed_pages, same_root}
use Rattle.journal.specs.Tape.{Taken, new_headers, by_log, room_in_log, taken_for}
use Rattle.journal.specs.Edited.{Edited}
use Rattle.journal.specs.Commit.{commit_store, commit_line, Names}
use Rattle.journal.specs.Holds.{CutHolds}
use Rattle.journal.specs.declared.Way.{Way}
use Rattle.journal.proofs.Crash.{safe-closed}
use Rattle.journal.proofs.Follows.{Follows, follows-commit, follows-cut}
use Rattle.journal.proofs.Chosen.{choose-all}
use Rattle.journal.proofs.OnePlace.{root-follows, header-follows}
use Rattle.journal.proofs.ByLog.{log-follows}

module _ (way : Way) (a w : List ℕ) (s : sound a ≡ true) (d : Edited a w) (room : room_in_log (changed_pages a w) ≡ true) where
  few : length (changed_pages a w) ≤ log_most
  unfolding room_in_log
  few = leb-true (length (changed_pages a w)) log_most room

  by-log : (same : Bool) → same_root a w ≡ same → (ps : List ℕ) → changed_pages a w ≡ ps → 1 ≤ length ps → Follows a w (by_log way (stage_a a w) w same (new_headers w ps))
  by-log same e ps f some = subst (λ (qs : List ℕ). Follows a w (by_log way (stage_a a w) w same (new_headers w qs))) f (log-follows way a w s d same e (rw f some) few)

  abbrev x : Taken
  x = taken_for way a w

  pub taken-follows : Follows a w x
  unfolding taken_for
  taken-follows =
      choose-all way (stage_a a w) w (λ same ps t. same_root a w ≡ same → changed_pages a w ≡ ps → Follows a w t) (λ same e f. root-follows a w s d f) (λ line p e f. header-follows a w s d p f e)
      (λ same p ps e f. by-log same e (p ∷ ps) f (omega arith)) (same_root a w) (changed_pages a w) refl refl

  -- the tape run leaves the work image, which is sound, with the table of w
  pub taken-run : after a x.tape ≡ x.work
  taken-run = taken-follows.safe.leaves

  pub taken-sound : (sound x.work ≡ true) × (table x.work ≡ table w)
  taken-sound = (taken-follows.safe.is_sound, taken-follows.same_table)

  -- nothing is pending at its end
  pub taken-closed : Closed x.tape
  taken-closed = safe-closed a x.tape x.work s taken-follows.safe

  -- "The commit store is the one changed place's store, or the mark's first store.", its flush comes next, and then a barrier
  pub taken-commit :
      (get_or x.tape x.commit_at malformed ≡ commit_store w (length (changed_pages a w)) x.place)
      × (get_or x.tape (x.commit_at + 1) malformed ≡ flush (commit_line x.place))
      × (get_or x.tape (x.commit_at + 2) malformed ≡ barrier)
  taken-commit = follows-commit a w x taken-follows

  pub taken-place : Names a w x.place
  taken-place = taken-follows.names

  -- cut before the commit store is issued, once it is durable, and between
  pub taken-cut : (f : ℕ → ℕ) (c : ℕ) → CutHolds (table a) (table w) a x.tape x.commit_at (commit_line x.place) f c
  taken-cut = follows-cut a w x taken-follows s
