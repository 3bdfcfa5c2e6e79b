-- Recoveries, refused or cut: the table that a recovery would give stays, and one that completes gives it.
-- Assumes nothing.
use Rattle.std.specs.Prelude.{Err, Ok, Result}
use Prim.Native.Nat.{ℕ, ◌≤◌}
use mathlib.Core.Path.{◌≡◌, refl, sym, ap, ◌∙◌, subst}
use mathlib.Core.Bool.{true}
use mathlib.Core.List.{List, [], ◌∷◌}
use lib.ListN.{length, take}
use Rattle.device.specs.declared.Refusal.{Refusal}
use Rattle.codec.specs.Lists.{splice}
use Rattle.device.specs.Tape.{decode, tape_bytes, flush_count}
use Rattle.device.specs.Cut.{after, cut_image}
use Rattle.page.specs.Layout.{Rec}
use Rattle.image.specs.Image.{sound}
use Rattle.image.specs.Table.{table}
use Rattle.journal.specs.Holds.{replay, tape_of, Holds}
use Rattle.journal.specs.declared.Way.{Way}
use Rattle.journal.proofs.Holds.{holds-size}
use Rattle.journal.proofs.Replay.{recovery-run, recovery-cut}
use Rattle.journal.proofs.Fitting.{recovery-decode}
use Rattle.journal.proofs.Stated.{front-back}
use Rattle.transaction.specs.Calls.{commands_on}
use Rattle.recovery.specs.Calls.{Called, accepted_with, recover_call}
use Rattle.journal.specs.declared.Redone.{Redone}
use Rattle.durability.specs.Demand.{Attempt, cut_by, attempted, attempted_all, Allowed, AllAllowed}
use Rattle.durability.proofs.Recovered.{only-room, accepted-tape, accepts}

module _ (t : List Rec) (img : List ℕ) (h : Holds t img) where
  pub holds-allowed : (way : Way) (work tape : List ℕ) → Allowed (recover_call way img work tape).answer
  holds-allowed way = only-room way img (holds-size img h) h.is_replayable h.is_sound

  -- given room, it is accepted
  pub holds-accepted : (way : Way) (work tape : List ℕ) → length work ≡ length img → length (tape_bytes (tape_of way img)) ≤ length tape → (e : Redone) × ((recover_call way img work tape).answer ≡ Ok e)
  unfolding accepted_with
  holds-accepted way work tape w r = (_, ap (λ (x : Called). x.answer) (accepts way img (holds-size img h) h.is_replayable h.is_sound work tape w r))

  -- an accepted recovery's bytes say its commands
  pub commands-are : (way : Way) (work tape : List ℕ) (e : Redone) → (recover_call way img work tape).answer ≡ Ok e → commands_on img e.bytes (recover_call way img work tape).tape ≡ tape_of way img
  commands-are way work tape e q =
      let r = accepted-tape way img (holds-size img h) h.is_replayable h.is_sound work tape e q in
      ap (λ (b : List ℕ). decode (length img) (take e.bytes b)) r.1
      ∙ ap (λ (n : ℕ). decode (length img) (take n (splice tape 0 (tape_bytes (tape_of way img))))) r.0
      ∙ ap (decode (length img)) (front-back tape (tape_bytes (tape_of way img)) r.2)
      ∙ recovery-decode way img h

  -- and its answer counts their flushes
  pub flushes-are : (way : Way) (work tape : List ℕ) (e : Redone) → (recover_call way img work tape).answer ≡ Ok e → e.flushes ≡ flush_count (tape_of way img)
  flushes-are way work tape e q = (accepted-tape way img (holds-size img h) h.is_replayable h.is_sound work tape e q).3

  -- refused or cut, it leaves an image that holds the same
  pub attempt-holds : (x : Attempt) → Holds t (attempted img x)
  unfolding cut_by
  attempt-holds x = go (recover_call x.way img x.work x.tape).answer refl
    where
      go : (r : Result Redone Refusal) → (recover_call x.way img x.work x.tape).answer ≡ r → Holds t (cut_by img r (recover_call x.way img x.work x.tape).tape x.stop x.choices)
      go (Ok e) q =
          subst (Holds t) (ap (cut_image img x.choices x.stop) (sym (commands-are x.way x.work x.tape e q))) (recovery-cut x.way img x.choices x.stop h)
      go (Err r) q = h

  -- one that completes gives the sound store with the table t
  pub completed : (way : Way) (work tape : List ℕ) (e : Redone) → (recover_call way img work tape).answer ≡ Ok e →
      (sound (after img (commands_on img e.bytes (recover_call way img work tape).tape)) ≡ true) × (table (after img (commands_on img e.bytes (recover_call way img work tape).tape)) ≡ t)
  completed way work tape e q =
      let same : after img (commands_on img e.bytes (recover_call way img work tape).tape) ≡ replay img = ap (after img) (commands-are way work tape e q) ∙ recovery-run way img h in
      (ap sound same ∙ h.is_sound, ap table same ∙ h.is_table)

pub attempts-hold : (xs : List Attempt) (t : List Rec) (img : List ℕ) → Holds t img → Holds t (attempted_all img xs)
unfolding attempted_all
attempts-hold [] t img h = h
attempts-hold (x ∷ xs) t img h = attempts-hold xs t (attempted img x) (attempt-holds t img h x)

pub attempts-allowed : (xs : List Attempt) (t : List Rec) (img : List ℕ) → Holds t img → AllAllowed img xs
unfolding AllAllowed
attempts-allowed [] t img h = tt
attempts-allowed (x ∷ xs) t img h = (holds-allowed t img h x.way x.work x.tape, attempts-allowed xs t (attempted img x) (attempt-holds t img h x))
