-- The tapes without line stores are of words alone, and the two calls answer alike but for 13, and leave the same image but for log lines.
-- Assumes nothing.
use Rattle.std.specs.Prelude.{Err, Ok}
use Prim.Native.Nat.{ℕ, ◌≤◌}
use mathlib.Core.Path.{◌≡◌, refl, sym, ap, ◌∙◌, subst}
use mathlib.Core.Logic.{◌⊎◌, inl, inr}
use mathlib.Core.Bool.{Bool, true, false, ◌&&◌}
use mathlib.Core.List.{List}
use lib.ListN.{length}
use lib.Dec.{eqb, leb}
use borrow.Author.Tests.{leb-true, leb-false, le-leb}
use Rattle.codec.specs.Lists.{pick, All}
use Rattle.codec.proofs.Tests.{first, second}
use Rattle.device.specs.Tape.{tape_bytes, flush_count}
use Rattle.device.specs.Calls.{is_image_size, image_size, work_size, unsound, tape_short, refusal}
use Rattle.device.specs.declared.Refusal.{Refusal}
use Rattle.device.proofs.Calls.{not-accepted}
use Rattle.image.specs.PageZero.{log_most, page_zero}
use Rattle.image.specs.Image.{sound}
use Rattle.image.specs.Table.{table}
use Rattle.image.proofs.Answers.{check_sound}
use Rattle.edit.specs.EditList.{Edit}
use Rattle.edit.proofs.Parsing.{list-proper}
use Rattle.journal.specs.Changes.{changed_pages}
use Rattle.journal.specs.Way.{IsWord}
use Rattle.journal.specs.Order.{Grouped}
use Rattle.journal.specs.Log.{SameButLog}
use Rattle.journal.specs.Tape.{commit_of, room_in_log, taken_for}
use Rattle.journal.specs.Recovery.{replay_from, recovery_tape, replayable}
use Rattle.journal.specs.Holds.{replay, Holds}
use Rattle.journal.specs.declared.Way.{Way}
use Rattle.journal.specs.declared.Way.TheVariants.{ByWords}
use Rattle.journal.specs.declared.Commit.{Commit}
use Rattle.journal.specs.declared.CommitPlace.{CommitPlace}
use Rattle.journal.specs.declared.CommitPlace.TheVariants.{Header, Root, Log}
use Rattle.journal.proofs.Groups.{taken-grouped, recovery-grouped}
use Rattle.journal.proofs.Devices as devices
use Rattle.journal.proofs.Devices.{taken-words, words-place, same_back, taken-work}
use Rattle.tree.specs.State.{State}
use Rattle.tree.specs.Whole.{edited_image}
use Rattle.tree.proofs.Accepted.{edits-accepted}
use Rattle.transaction.specs.Calls as transaction
use Rattle.transaction.specs.Calls.{commands_on, transaction_call}
use Rattle.transaction.specs.Answers.{Begun, Done, Answers, bad-size, bad-work, bad-image, bad-list, bad-edit, no-log, no-tape, accepted}
use Rattle.transaction.proofs.Answers.{call-answers, answers-call}
use Rattle.transaction.proofs.Demand2.{was-sound, target, target-edited, answer-is, commands-are, demand-2}
use Rattle.recovery.specs.Calls.{Called, refused_with, accepted_with, recover_call}
use Rattle.journal.specs.declared.Redone.{Redone}
use Rattle.durability.specs.Devices.{TransactionGroups, RecoveryGroups, WordTape, TransactionWords, RecoveryWords, transaction_says, recovery_says, AtTape, Alike, refused, at-tape, BothCalls, BothRecoveries}
use Rattle.durability.proofs.Recovered.{refused-not}
use Rattle.durability.proofs.Attempts as attempts

-- ---- the transaction without line stores

module _ (a work tape bytes : List ℕ) (c : Commit) (e : (transaction_call ByWords a work tape bytes).answer ≡ Ok c) where
  abbrev w : List ℕ
  w = target ByWords a work tape bytes c e

  place_is : c.place ≡ (taken_for ByWords a w).place
  unfolding commit_of
  place_is = ap (λ (x : Commit). x.place) (answer-is ByWords a work tape bytes c e)

  by_place : (p : CommitPlace) → (taken_for ByWords a w).place ≡ p → (p ≡ Root) ⊎ (p ≡ Log)
  by_place (Header p) q = absurd (words-place a w p q)
  by_place Root q = inl refl
  by_place Log q = inr refl

  transaction-word : WordTape (commands_on a c.bytes (transaction_call ByWords a work tape bytes).tape) c.flushes × ((c.place ≡ Root) ⊎ (c.place ≡ Log))
  transaction-word = (
    record {
      words = subst (All IsWord) (sym (commands-are ByWords a work tape bytes c e)) (taken-words a w (was-sound ByWords a work tape bytes c e) (target-edited ByWords a work tape bytes c e));
      counts = (demand-2 ByWords a work tape bytes c e).flushes;
    },
    by_place c.place (sym place_is),
  )

pub transaction-words : TransactionWords
transaction-words = transaction-word

-- ---- both transactions

module _ (v u : Way) (a work s t bytes : List ℕ) where
  abbrev R : transaction.Called
  R = transaction_call v a work s bytes

  abbrev Q : transaction.Called
  Q = transaction_call u a work t bytes

  abbrev AlikeHere : Type 0
  AlikeHere = Alike SameButLog (transaction_says R.answer) (transaction_says Q.answer) R.work Q.work

  -- the same ground refuses both
  both-refused : (x : Refusal) (m : List ℕ) → R ≡ record { answer = Err x; work = m; tape = s } → Q ≡ record { answer = Err x; work = m; tape = t } → AlikeHere
  unfolding transaction_says
  both-refused x m e f =
      refused x (ap (λ (r : transaction.Called). transaction_says r.answer) e) (ap (λ (r : transaction.Called). transaction_says r.answer) f)
      (ap (λ (r : transaction.Called). r.work) e ∙ sym (ap (λ (r : transaction.Called). r.work) f))

  -- past 12
  module _ (B : Begun a work) (es : List Edit) (st : State) (D : Done a bytes es st) (few : length (changed_pages a (edited_image a st)) ≤ 15) where
    abbrev new : List ℕ
    new = edited_image a st

    -- the call of either device is accepted, or refused with 13
    abbrev Ends : Way → List ℕ → Type 0
    Ends way tape =
        (transaction_call way a work tape bytes ≡ transaction.accepted_with (taken_for way a new) tape) ⊎ (transaction_call way a work tape bytes ≡ transaction.refused_with tape_short 0 a tape)

    ends : (way : Way) (tape : List ℕ) → Ends way tape
    ends way tape = go (leb used (length tape)) refl
      where
        used : ℕ
        used = length (tape_bytes (taken_for way a new).tape)

        go : (b : Bool) → leb used (length tape) ≡ b → Ends way tape
        go true e = inl (answers-call way a work tape bytes _ (accepted B es st D few (leb-true used (length tape) e)))
        go false e = inr (answers-call way a work tape bytes _ (no-tape B es st D few (leb-false used (length tape) e)))

    end-at : (way : Way) (tape : List ℕ) → Ends way tape → AtTape (transaction_says (transaction_call way a work tape bytes).answer)
    unfolding AtTape transaction_says transaction.accepted_with transaction.refused_with
    end-at way tape (inl e) = rw e tt
    end-at way tape (inr e) = rw e refl

    -- accepted, work is the edited image but for log lines
    left : (way : Way) (tape : List ℕ) → Ends way tape → transaction_says (transaction_call way a work tape bytes).answer ≡ Ok tt → SameButLog (transaction_call way a work tape bytes).work new
    unfolding transaction_says transaction.accepted_with transaction.refused_with room_in_log
    left way tape (inr e) h = absurd (not-accepted (refusal tape_short) (sym (ap (λ (r : transaction.Called). transaction_says r.answer) e) ∙ h))
    left way tape (inl e) h =
        let sa = check_sound a B.checked in
        let d = edits-accepted a sa es (list-proper bytes es D.reads) st D.makes in
        subst (λ (x : List ℕ). SameButLog x new) (sym (ap (λ (r : transaction.Called). r.work) e)) (taken-work way a new sa d (le-leb (length (changed_pages a new)) log_most few))

    both-at-tape : AlikeHere
    both-at-tape =
        let e = ends v s in
        let f = ends u t in
        at-tape (end-at v s e) (end-at u t f) (λ h k. same_back R.work Q.work new (left v s e h) (left u t f k))

  both-call : AlikeHere
  unfolding transaction.refused_with
  both-call = go R (call-answers v a work s bytes) refl
    where
      go : (r : transaction.Called) → Answers v a work s bytes r → R ≡ r → AlikeHere
      go _ (bad-size e) q = both-refused _ work q (answers-call u a work t bytes _ (bad-size e))
      go _ (bad-work e other) q = both-refused _ work q (answers-call u a work t bytes _ (bad-work e other))
      go _ (bad-image e same x c) q = both-refused x work q (answers-call u a work t bytes _ (bad-image e same x c))
      go _ (bad-list B k i f) q = both-refused _ work q (answers-call u a work t bytes _ (bad-list B k i f))
      go _ (bad-edit B es reads k i low g) q = both-refused _ a q (answers-call u a work t bytes _ (bad-edit B es reads k i low g))
      go _ (no-log B es st D many) q = both-refused _ a q (answers-call u a work t bytes _ (no-log B es st D many))
      go _ (no-tape B es st D few long) q = both-at-tape B es st D few
      go _ (accepted B es st D few fits) q = both-at-tape B es st D few

pub both-calls : BothCalls
both-calls = both-call

-- ---- recoveries

module _ (a work : List ℕ) where
  abbrev ok : Bool
  ok = replayable a (page_zero a) && sound (replay_from a (page_zero a))

  -- once 1, 2 and 4 do not hold: accepted or refused with 13, by the length of the tape
  abbrev fits : Way → List ℕ → Bool
  fits way tape = leb (length (tape_bytes (recovery_tape way a (page_zero a)))) (length tape)

  abbrev on_tape : Way → List ℕ → Bool → Called
  on_tape way tape b = pick b (accepted_with (recovery_tape way a (page_zero a)) (replay_from a (page_zero a)) tape) (refused_with tape_short a tape)

  -- by the three tests, which no device and no tape has a part in
  abbrev decided : Way → List ℕ → Bool → Bool → Bool → Called
  decided way tape b c d = pick b (pick c (pick d (on_tape way tape (fits way tape)) (refused_with unsound work tape)) (refused_with work_size work tape)) (refused_with image_size work tape)

  decides : (way : Way) (tape : List ℕ) → recover_call way a work tape ≡ decided way tape (is_image_size (length a)) (eqb (length work) (length a)) ok
  unfolding recover_call
  decides way tape = refl

  -- accepted, the image can be replayed, and its replay is sound
  accepted-holds : (way : Way) (tape : List ℕ) (e : Redone) → (recover_call way a work tape).answer ≡ Ok e → Holds (table (replay a)) a
  accepted-holds way tape e q = go (is_image_size (length a)) (eqb (length work) (length a)) ok refl (ap (λ (r : Called). r.answer) (sym (decides way tape)) ∙ q)
    where
      go : (b c d : Bool) → ok ≡ d → (decided way tape b c d).answer ≡ Ok e → Holds (table (replay a)) a
      go false c d z h = absurd (refused-not image_size work tape e h)
      go true false d z h = absurd (refused-not work_size work tape e h)
      go true true false z h = absurd (refused-not unsound work tape e h)
      go true true true z h =
          record {
            is_replayable = first (replayable a (page_zero a)) (sound (replay_from a (page_zero a))) z;
            is_sound = second (replayable a (page_zero a)) (sound (replay_from a (page_zero a))) z;
            is_table = refl;
          }

  on-at : (way : Way) (tape : List ℕ) (b : Bool) → AtTape (recovery_says (on_tape way tape b).answer)
  unfolding AtTape recovery_says accepted_with refused_with
  on-at way tape true = tt
  on-at way tape false = refl

  on-work : (way : Way) (tape : List ℕ) (b : Bool) → recovery_says (on_tape way tape b).answer ≡ Ok tt → (on_tape way tape b).work ≡ replay a
  unfolding recovery_says accepted_with refused_with
  on-work way tape true h = refl
  on-work way tape false h = absurd (not-accepted (refusal tape_short) h)

  recover-both : (v u : Way) (s t : List ℕ) →
      let r = recover_call v a work s in
      let q = recover_call u a work t in
      Alike (λ (m n : List ℕ). m ≡ n) (recovery_says r.answer) (recovery_says q.answer) r.work q.work
  unfolding recovery_says refused_with
  recover-both v u s t = rw (decides v s, decides u t) (go (is_image_size (length a)) (eqb (length work) (length a)) ok)
    where
      go : (b c d : Bool) → Alike (λ (m n : List ℕ). m ≡ n) (recovery_says (decided v s b c d).answer) (recovery_says (decided u t b c d).answer) (decided v s b c d).work (decided u t b c d).work
      go false c d = refused (refusal image_size) refl refl refl
      go true false d = refused (refusal work_size) refl refl refl
      go true true false = refused (refusal unsound) refl refl refl
      go true true true = at-tape (on-at v s (fits v s)) (on-at u t (fits u t)) (λ h k. on-work v s (fits v s) h ∙ sym (on-work u t (fits u t) k))

pub both-recoveries : BothRecoveries
both-recoveries v u a work s t = recover-both a work v u s t

pub recovery-words : RecoveryWords
recovery-words a work tape e q =
    let h = accepted-holds a work ByWords tape e q in
    let cs = attempts.commands-are (table (replay a)) a h ByWords work tape e q in
    record {
      words = subst (All IsWord) (sym cs) (devices.recovery-words a h);
      counts = attempts.flushes-are (table (replay a)) a h ByWords work tape e q ∙ ap flush_count (sym cs);
    }

-- ---- the groups of flushes, on both devices

pub transaction-groups : TransactionGroups
transaction-groups way a work tape bytes c e = subst Grouped (sym (commands-are way a work tape bytes c e)) (taken-grouped way a (target way a work tape bytes c e))

pub recovery-groups : RecoveryGroups
recovery-groups way a work tape e q =
    let h = accepted-holds a work way tape e q in
    subst Grouped (sym (attempts.commands-are (table (replay a)) a h way work tape e q)) (recovery-grouped way a)
