-- Each way out of the call: what it answers and leaves there is what the definition says.
-- Assumes nothing.
use Rattle.std.specs.Prelude.{Result, Err, Ok}
use Prim.Native.Nat.{ℕ}
use mathlib.Core.Path.{◌≡◌, refl, sym, ap, ◌∙◌, subst}
use mathlib.Core.Bool.{Bool, true, false}
use mathlib.Core.List.{List}
use lib.ListN.{length}
use lib.Dec.{leb}
use Rattle.journal.specs.declared.Commit.{Commit}
use Rattle.device.specs.declared.Cause.{Cause}
use Rattle.device.specs.Tape.{tape_bytes}
use Rattle.device.specs.Calls.{image_size, work_size, refusal, is_image_size, of_cause, number_in}
use Rattle.device.specs.declared.Refusal.{Refusal}
use Rattle.image.specs.Calls.{check_call}
use Rattle.edit.specs.EditList.{Edit, Listed, listed, edits_of, edit_list}
use Rattle.edit.specs.Judged.{judged_of}
use Rattle.device.proofs.Causes.{refusal-numbered}
use Rattle.edit.proofs.Judging.{faulty-listed}
use Rattle.journal.specs.Changes.{changed_pages}
use Rattle.journal.specs.Tape.{room_in_log, taken_for}
use Rattle.journal.specs.declared.Way.{Way}
use Rattle.tree.specs.State.{State}
use Rattle.tree.specs.Whole.{finished, stopped, edits_on, edited_image}
use Rattle.tape_write.specs.Calls.{commit_call}
use Rattle.transaction.specs.Calls.{Called, refused_with, accepted_with, committed, outcome_of, list_of, transaction_call}
use Rattle.transaction.specs.Answers.{Answers, bad-size, bad-work, bad-image}
use Rattle.transaction.proofs.Answers.{begun-call, answers-call}

-- ---- the tape

-- what a transaction answers and leaves when writing its tape came to r
abbrev pub answered : List ℕ → Result Commit Cause → List ℕ → List ℕ → Called
answered a (Ok d) work tape = record { answer = Ok d; work = work; tape = tape }
answered a (Err cause) work tape = record { answer = Err (of_cause cause); work = a; tape = tape }

-- the answer and the buffers are those of the result y
abbrev pub Shows : Called → Called → Type 0
Shows x y = (x.answer ≡ y.answer) × ((x.work ≡ y.work) × (x.tape ≡ y.tape))

pub shows : (x y : Called) → x ≡ y → Shows x y
shows x y e = (ap (λ (r : Called). r.answer) e, (ap (λ (r : Called). r.work) e, ap (λ (r : Called). r.tape) e))

module _ (way : Way) (a w tape : List ℕ) where
  commit-meets : answered a (commit_call way a w tape).answer (commit_call way a w tape).work (commit_call way a w tape).tape ≡ committed way a w tape
  unfolding commit_call committed accepted_with refused_with
  commit-meets = go (room_in_log (changed_pages a w)) refl (leb (length (tape_bytes (taken_for way a w).tape)) (length tape)) refl
    where
      go : (b : Bool) → room_in_log (changed_pages a w) ≡ b → (c : Bool) → leb (length (tape_bytes (taken_for way a w).tape)) (length tape) ≡ c →
          answered a (commit_call way a w tape).answer (commit_call way a w tape).work (commit_call way a w tape).tape ≡ committed way a w tape
      go true e true f = rw (e, f)
      go true e false f = rw (e, f)
      go false e c f = rw e

  pub commit-shows : (r s : Result Commit Cause) → r ≡ s → (work t : List ℕ) →
      (r ≡ (commit_call way a w tape).answer) × ((work ≡ (commit_call way a w tape).work) × (t ≡ (commit_call way a w tape).tape)) →
      Shows (answered a s work t) (committed way a w tape)
  commit-shows r s q work t (e, (f, g)) =
      shows (answered a s work t) (committed way a w tape)
      ((λ d. answered a ((sym q ∙ e) d) (f d) (g d)) ∙ commit-meets)

-- ---- each way out

-- a refusal that names no edit, with work put back
pub refused-shows : (q : Refusal) (a t : List ℕ) (y : Called) → Shows (record { answer = Err q; work = a; tape = t }) y →
    (r : Refusal) → r ≡ q → (work : List ℕ) → work ≡ a → Shows (record { answer = Err r; work = work; tape = t }) y
refused-shows k a t y (e, (f, g)) r q work z = (ap Err q ∙ e, (z ∙ f, g))

module _ (way : Way) (a tape : List ℕ) (es : List Edit) where
  pub stopped-shows : (r : Refusal) → edits_on a es ≡ stopped (number_in r) r.edit → (work : List ℕ) → work ≡ a →
      Shows (record { answer = Err r; work = work; tape = tape }) (outcome_of way a tape (edits_on a es))
  unfolding outcome_of refused_with
  stopped-shows r e work z = rw e (ap Err (sym (refusal-numbered r)), (z, refl))

  pub finished-shows : (st : State) → edits_on a es ≡ finished st → (w : List ℕ) → w ≡ edited_image a st → (x : Called) → Shows x (committed way a w tape) →
      Shows x (outcome_of way a tape (edits_on a es))
  unfolding outcome_of
  finished-shows st e w z x h = subst (Shows x) (ap (λ (v : List ℕ). committed way a v tape) z ∙ ap (outcome_of way a tape) (sym e)) h

module _ (way : Way) (a work tape : List ℕ) where
  pub faulty-shows : (l : Listed) (r : Refusal) → judged_of l ≡ Err r → Shows (record { answer = Err r; work = work; tape = tape }) (list_of way a work tape l)
  unfolding list_of refused_with
  faulty-shows l r e = let f = faulty-listed l r e in rw f.2 (ap Err (sym f.3), (refl, refl))

  pub listed-shows : (l : Listed) → l ≡ listed (edits_of l) → (x : Called) → Shows x (outcome_of way a tape (edits_on a (edits_of l))) → Shows x (list_of way a work tape l)
  unfolding list_of
  listed-shows l e x h = subst (λ (v : Listed). Shows x (list_of way a work tape v)) (sym e) h

  module _ (bytes : List ℕ) where
    -- a refusal of the call that leaves work and tape
    call-refused : (k : ℕ) → Answers way a work tape bytes (refused_with k 0 work tape) → (r : Refusal) → r ≡ refusal k →
        Shows (record { answer = Err r; work = work; tape = tape }) (transaction_call way a work tape bytes)
    unfolding refused_with
    call-refused k h r q =
        let y = transaction_call way a work tape bytes in
        refused-shows (refusal k) work tape y (shows (refused_with k 0 work tape) y (sym (answers-call way a work tape bytes (refused_with k 0 work tape) h))) r q work refl

    pub size-shows : is_image_size (length a) ≡ false → (r : Refusal) → r ≡ refusal image_size → Shows (record { answer = Err r; work = work; tape = tape }) (transaction_call way a work tape bytes)
    size-shows e = call-refused image_size (bad-size e)

    pub work-shows : is_image_size (length a) ≡ true → (length work ≡ length a → ⊥) → (r : Refusal) → r ≡ refusal work_size →
        Shows (record { answer = Err r; work = work; tape = tape }) (transaction_call way a work tape bytes)
    work-shows e ne = call-refused work_size (bad-work e ne)

    module _ (size : is_image_size (length a) ≡ true) (same : length work ≡ length a) where
      pub unsound-shows : (r : Refusal) → check_call a ≡ Err r → Shows (record { answer = Err r; work = work; tape = tape }) (transaction_call way a work tape bytes)
      unsound-shows r e = shows _ _ (sym (answers-call way a work tape bytes _ (bad-image size same r e)))

      pub checked-shows : check_call a ≡ Ok tt → (x : Called) → Shows x (list_of way a work tape (edit_list bytes)) → Shows x (transaction_call way a work tape bytes)
      checked-shows e x h = subst (Shows x) (sym (begun-call way a work tape bytes (record { size = size; same = same; checked = e }))) h
