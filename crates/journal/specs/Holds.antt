-- What an image that a failure leaves holds: what its recovery would give.
-- Assumes nothing.
use Rattle.std.specs.Prelude.{ℕ, suc, ◌≤◌, ◌≡◌, ◌⊎◌, true, List, take, drop}
use Rattle.device.specs.Tape.{Op}
use Rattle.device.specs.Cut.{cut_image, durable}
use Rattle.page.specs.Layout.{Rec}
use Rattle.image.specs.PageZero.{page_count, page_zero}
use Rattle.image.specs.declared.PageZero.TheVariants.{Waiting}
use Rattle.image.specs.Image.{sound}
use Rattle.image.specs.Table.{table}
use Rattle.journal.specs.Recovery.{logged, logged_ok, replay_from, recovery_tape, replayable}
use Rattle.journal.specs.declared.Way.{Way}

-- the replayed image
abbrev pub replay : List ℕ → List ℕ
replay img = replay_from img (page_zero img)

-- the mark of a waits, with k logged headers and the root `root`
pub record Waits (a : List ℕ) (k root : ℕ) : Type 0 where
  pub zero : page_zero a ≡ Waiting k root
  pub ok : logged_ok (page_count a) (logged k a) ≡ true

-- recovery's tape
abbrev pub tape_of : Way → List ℕ → List Op
tape_of way img = recovery_tape way img (page_zero img)

-- a recovery of the image gives a sound store with the table t
pub record Holds (t : List Rec) (img : List ℕ) : Type 0 where
  pub is_replayable : replayable img (page_zero img) ≡ true
  pub is_sound : sound (replay img) ≡ true
  pub is_table : table (replay img) ≡ t

-- What a cut of the commands cs over the image a holds, after c of them: command `at` is the commit store, to line l, and the tables before
-- and after are old and new.
pub record CutHolds (old new : List Rec) (a : List ℕ) (cs : List Op) (at l : ℕ) (f : ℕ → ℕ) (c : ℕ) : Type 0 where
  -- the commit store is not issued
  pub unissued : c ≤ at → Holds old (cut_image a f c cs)
  -- it is durable
  pub committed : durable l (drop (suc at) (take c cs)) ≡ true → Holds new (cut_image a f c cs)
  pub between : Holds old (cut_image a f c cs) ⊎ Holds new (cut_image a f c cs)
