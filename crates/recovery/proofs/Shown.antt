-- Each way out of the call: what it answers and leaves there is what the definition says.
-- Assumes nothing.
use Rattle.std.specs.Prelude.{Err, Ok, Result}
use Prim.Native.Nat.{ℕ}
use mathlib.Core.Path.{◌≡◌, refl, sym, ap, ◌∙◌}
use mathlib.Core.Bool.{Bool, true, false, ◌&&◌}
use mathlib.Core.List.{List, []}
use lib.ListN.{length}
use lib.Dec.{leb}
use borrow.Author.Tests.{eq-eqb, ne_eqb, le-leb}
use native.Mathlib.Omega.{arith}
use Rattle.journal.specs.declared.Redone.{Redone}
use Rattle.device.specs.declared.Cause.{Cause}
use Rattle.codec.specs.Lists.{pick}
use Rattle.codec.proofs.Lists.{splice-sets}
use Rattle.device.specs.Tape.{tape_bytes, how_many}
use Rattle.device.specs.Calls.{image_size, work_size, unsound, tape_short, refusal, is_image_size, of_cause}
use Rattle.device.specs.declared.Refusal.{Refusal}
use Rattle.image.specs.PageZero.{page_count, page_zero}
use Rattle.image.specs.Image.{tree_ok, sound_from, sound}
use Rattle.image.specs.declared.PageZero.{PageZero}
use Rattle.image.specs.declared.PageZero.TheVariants.{Wrong, Waiting, Ready}
use Rattle.journal.specs.Recovery.{logged, logged_ok, replayed, replay_from, recovery_tape, replayable}
use Rattle.tape_write.specs.Calls.{redo_call}
use Rattle.journal.specs.declared.Way.{Way}
use Rattle.recovery.specs.Calls.{Called, refused_with, accepted_with, recover_call}
use Rattle.recovery.proofs.Replay.{new-sound}

-- the answer and the buffers are those of the result y
abbrev pub Shows : Result Redone Refusal → List ℕ → List ℕ → Called → Type 0
Shows r work tape y = (r ≡ y.answer) × ((work ≡ y.work) × (tape ≡ y.tape))

-- what a recovery answers when writing its tape came to r
abbrev pub answered : Result Redone Cause → Result Redone Refusal
answered (Ok done) = Ok done
answered (Err cause) = Err (of_cause cause)

module _ (way : Way) (a work tape : List ℕ) where
  -- ---- the sizes

  pub size-shows : is_image_size (length a) ≡ false → (r : Refusal) → r ≡ refusal image_size → Shows (Err r) work tape (recover_call way a work tape)
  unfolding recover_call refused_with
  size-shows e r q = rw e (ap Err q, (refl, refl))

  module _ (size : is_image_size (length a) ≡ true) where
    pub work-shows : (length work ≡ length a → ⊥) → (r : Refusal) → r ≡ refusal work_size → Shows (Err r) work tape (recover_call way a work tape)
    unfolding recover_call refused_with
    work-shows ne r q = rw (size, ne_eqb (length work) (length a) ne) (ap Err q, (refl, refl))

    module _ (same : length work ≡ length a) where
      -- ---- 4

      refused-shows : (replayable a (page_zero a) && sound (replay_from a (page_zero a))) ≡ false → (r : Refusal) → r ≡ refusal unsound → Shows (Err r) work tape (recover_call way a work tape)
      unfolding recover_call refused_with
      refused-shows e r q = rw (size, eq-eqb (length work) (length a) same, e) (ap Err q, (refl, refl))

      pub wrong-shows : page_zero a ≡ Wrong → (r : Refusal) → r ≡ refusal unsound → Shows (Err r) work tape (recover_call way a work tape)
      unfolding replayable
      wrong-shows z = refused-shows (rw z)

      -- ---- else

      abbrev ended : Called
      ended = pick (leb (length (tape_bytes (recovery_tape way a (page_zero a)))) (length tape)) (accepted_with (recovery_tape way a (page_zero a)) (replay_from a (page_zero a)) tape) (refused_with tape_short a tape)

      goes_on : (replayable a (page_zero a) && sound (replay_from a (page_zero a))) ≡ true → recover_call way a work tape ≡ ended
      unfolding recover_call
      goes_on e = rw (size, eq-eqb (length work) (length a) same, e)

      -- ---- mark 0

      module _ (root : ℕ) (z : page_zero a ≡ Ready root) where
        sound-is : (replayable a (page_zero a) && sound (replay_from a (page_zero a))) ≡ tree_ok a root
        unfolding replayable replay_from sound sound_from
        sound-is = ap (λ (x : PageZero). replayable a x && sound (replay_from a x)) z ∙ rw (size, z)

        pub kept-refused : tree_ok a root ≡ false → (r : Refusal) → r ≡ refusal unsound → Shows (Err r) work tape (recover_call way a work tape)
        kept-refused e = refused-shows (sound-is ∙ e)

        pub kept-accepted : tree_ok a root ≡ true → (x : List ℕ) → x ≡ a → Shows (Ok (record { bytes = 0; flushes = 0 })) x tape (recover_call way a work tape)
        unfolding replay_from recovery_tape accepted_with tape_bytes how_many
        kept-accepted e x q =
            rw (goes_on (sound-is ∙ e), z, le-leb 0 (length tape) (omega arith), splice-sets tape 0 [] (omega arith)) (refl, (q, refl))

      -- ---- a mark that waits

      module _ (k root : ℕ) (z : page_zero a ≡ Waiting k root) where
        abbrev new : List ℕ
        new = replayed (logged k a) root a

        pub log-refused : logged_ok (page_count a) (logged k a) ≡ false → (r : Refusal) → r ≡ refusal unsound → Shows (Err r) work tape (recover_call way a work tape)
        unfolding replayable
        log-refused e = refused-shows (ap (λ (x : PageZero). replayable a x && sound (replay_from a (page_zero a))) z ∙ rw e)

        module _ (ok : logged_ok (page_count a) (logged k a) ≡ true) where
          sound-new : (replayable a (page_zero a) && sound (replay_from a (page_zero a))) ≡ tree_ok new root
          unfolding replayable replay_from
          sound-new = ap (λ (x : PageZero). replayable a x && sound (replay_from a x)) z ∙ rw ok (new-sound a k root size (record { zero = z; ok = ok }))

          pub tree-refused : tree_ok new root ≡ false → (r : Refusal) → r ≡ refusal unsound → Shows (Err r) work tape (recover_call way a work tape)
          tree-refused e = refused-shows (sound-new ∙ e)

          redo-meets : tree_ok new root ≡ true → Shows (answered (redo_call way a k root tape).answer) (redo_call way a k root tape).work (redo_call way a k root tape).tape (recover_call way a work tape)
          unfolding redo_call accepted_with refused_with
          redo-meets e = rw (goes_on (sound-new ∙ e), z) (go (leb (length (tape_bytes (recovery_tape way a (Waiting k root)))) (length tape)) refl)
            where
              go : (b : Bool) → leb (length (tape_bytes (recovery_tape way a (Waiting k root)))) (length tape) ≡ b →
                  Shows (answered (redo_call way a k root tape).answer) (redo_call way a k root tape).work (redo_call way a k root tape).tape
                  (pick (leb (length (tape_bytes (recovery_tape way a (Waiting k root)))) (length tape)) (accepted_with (recovery_tape way a (Waiting k root)) (replay_from a (Waiting k root)) tape) (refused_with tape_short a tape))
              go true f = rw f (refl, (refl, refl))
              go false f = rw f (refl, (refl, refl))

          pub redone : tree_ok new root ≡ true → (r v : Result Redone Cause) → r ≡ v → (x t : List ℕ) →
              (r ≡ (redo_call way a k root tape).answer) × ((x ≡ (redo_call way a k root tape).work) × (t ≡ (redo_call way a k root tape).tape)) →
              Shows (answered v) x t (recover_call way a work tape)
          redone e r v q x t (f, (g, h)) = let m = redo-meets e in (ap answered (sym q ∙ f) ∙ m.0, (g ∙ m.1.0, h ∙ m.1.1))
