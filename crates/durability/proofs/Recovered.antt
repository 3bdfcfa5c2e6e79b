-- What a recovery answers, case by case.
-- Assumes nothing.
use Rattle.std.specs.Prelude.{Ok}
use Prim.Native.Nat.{ℕ, ◌≤◌}
use mathlib.Core.Path.{◌≡◌, refl, sym, ap, ◌∙◌}
use mathlib.Core.Logic.{inl, inr}
use mathlib.Core.Bool.{Bool, true, false}
use mathlib.Core.List.{List}
use native.Mathlib.Omega.{arith}
use lib.ListN.{length}
use lib.Dec.{eqb, leb}
use borrow.Author.Tests.{leb-true, le-leb, eq-eqb}
use Rattle.codec.specs.Lists.{splice, pick}
use Rattle.device.specs.Tape.{tape_bytes, flush_count}
use Rattle.device.specs.Calls.{is_image_size, work_size, tape_short}
use Rattle.image.specs.PageZero.{page_zero}
use Rattle.image.specs.Image.{sound}
use Rattle.journal.specs.Recovery.{replay_from, recovery_tape, replayable}
use Rattle.journal.specs.declared.Way.{Way}
use Rattle.recovery.specs.Calls.{Called, refused_with, accepted_with, recover_call}
use Rattle.journal.specs.declared.Redone.{Redone}
use Rattle.durability.specs.Demand.{Allowed}

pub refused-not : (k : ℕ) (work tape : List ℕ) (e : Redone) → (refused_with k work tape).answer ≡ Ok e → ⊥
unfolding refused_with
refused-not k work tape e q = let z : ◌≡◌ {A = ℕ} 0 1 = cc in omega arith

-- the image can be replayed, and its replay is sound
module _ (way : Way) (a : List ℕ) (size : is_image_size (length a) ≡ true) (ready : replayable a (page_zero a) ≡ true) (good : sound (replay_from a (page_zero a)) ≡ true) where
  -- then only the two buffers decide
  pub by-room : (work tape : List ℕ) → recover_call way a work tape
      ≡ pick (eqb (length work) (length a))
      (pick (leb (length (tape_bytes (recovery_tape way a (page_zero a)))) (length tape)) (accepted_with (recovery_tape way a (page_zero a)) (replay_from a (page_zero a)) tape) (refused_with tape_short a tape))
      (refused_with work_size work tape)
  unfolding recover_call
  by-room work tape = rw (size, ready, good)

  -- refused with 2 or 13, or accepted
  pub only-room : (work tape : List ℕ) → Allowed (recover_call way a work tape).answer
  unfolding Allowed refused_with accepted_with
  only-room work tape = rw (by-room work tape) (go (eqb (length work) (length a)) (leb (length (tape_bytes (recovery_tape way a (page_zero a)))) (length tape)))
    where
      go : (b c : Bool) → Allowed (pick b (pick c (accepted_with (recovery_tape way a (page_zero a)) (replay_from a (page_zero a)) tape) (refused_with tape_short a tape)) (refused_with work_size work tape)).answer
      go false c = inl refl
      go true false = inr refl
      go true true = tt

  -- accepted: the bytes used, the tape, and its flushes
  pub accepted-tape : (work tape : List ℕ) (e : Redone) → (recover_call way a work tape).answer ≡ Ok e →
      (e.bytes ≡ length (tape_bytes (recovery_tape way a (page_zero a))))
      × ((recover_call way a work tape).tape ≡ splice tape 0 (tape_bytes (recovery_tape way a (page_zero a))))
      × (length (tape_bytes (recovery_tape way a (page_zero a))) ≤ length tape)
      × (e.flushes ≡ flush_count (recovery_tape way a (page_zero a)))
  unfolding accepted_with
  accepted-tape work tape e q =
      rw (by-room work tape) (go (eqb (length work) (length a)) (leb (length (tape_bytes (recovery_tape way a (page_zero a)))) (length tape)) refl (ap (λ (r : Called). r.answer) (sym (by-room work tape)) ∙ q))
    where
      go : (b c : Bool) → leb (length (tape_bytes (recovery_tape way a (page_zero a)))) (length tape) ≡ c →
          (pick b (pick c (accepted_with (recovery_tape way a (page_zero a)) (replay_from a (page_zero a)) tape) (refused_with tape_short a tape)) (refused_with work_size work tape)).answer ≡ Ok e →
          (e.bytes ≡ length (tape_bytes (recovery_tape way a (page_zero a))))
          × ((pick b (pick c (accepted_with (recovery_tape way a (page_zero a)) (replay_from a (page_zero a)) tape) (refused_with tape_short a tape)) (refused_with work_size work tape)).tape ≡ splice tape 0 (tape_bytes (recovery_tape way a (page_zero a))))
          × (length (tape_bytes (recovery_tape way a (page_zero a))) ≤ length tape)
          × (e.flushes ≡ flush_count (recovery_tape way a (page_zero a)))
      go false c r s = absurd (refused-not work_size work tape e s)
      go true false r s = absurd (refused-not tape_short a tape e s)
      go true true r s = (bytes s, refl, leb-true _ _ r, flushes s)
        where
          bytes : (accepted_with (recovery_tape way a (page_zero a)) (replay_from a (page_zero a)) tape).answer ≡ Ok e → e.bytes ≡ length (tape_bytes (recovery_tape way a (page_zero a)))
          bytes s = cc

          flushes : (accepted_with (recovery_tape way a (page_zero a)) (replay_from a (page_zero a)) tape).answer ≡ Ok e → e.flushes ≡ flush_count (recovery_tape way a (page_zero a))
          flushes s = cc

  -- given a work buffer of the image's length and room on the tape, it is accepted
  pub accepts : (work tape : List ℕ) → length work ≡ length a → length (tape_bytes (recovery_tape way a (page_zero a))) ≤ length tape →
      recover_call way a work tape ≡ accepted_with (recovery_tape way a (page_zero a)) (replay_from a (page_zero a)) tape
  accepts work tape w t = by-room work tape ∙ rw (eq-eqb (length work) (length a) w, le-leb (length (tape_bytes (recovery_tape way a (page_zero a)))) (length tape) t)
