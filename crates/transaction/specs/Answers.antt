-- What the transaction call answers on either device: each refusal with its ground, the first that holds, and acceptance where none does.
-- Assumes nothing.
use Rattle.std.specs.Prelude.{ℕ, ◌≤◌, ◌<◌, ◌≡◌, true, false, List, length, Err, Ok}
use Rattle.device.specs.Tape.{tape_bytes}
use Rattle.device.specs.Calls.{is_image_size}
use Rattle.device.specs.declared.Refusal.{Refusal}
use Rattle.image.specs.Calls.{check_call}
use Rattle.edit.specs.EditList.{Edit, listed, edit_list}
use Rattle.edit.specs.Reads.{ListFault}
use Rattle.journal.specs.Changes.{changed_pages}
use Rattle.journal.specs.Tape.{taken_for}
use Rattle.journal.specs.declared.Way.{Way}
use Rattle.tree.specs.State.{State}
use Rattle.tree.specs.Whole.{finished, edits_on, edited_image}
use Rattle.tree.specs.Grounds.{Grounds}
use Rattle.transaction.specs.Calls.{Called, refused_with, accepted_with}

-- 1, 2 and check's refusals do not hold
pub record Begun (a work : List ℕ) : Type 0 where
  pub size : is_image_size (length a) ≡ true
  pub same : length work ≡ length a
  pub checked : check_call a ≡ Ok tt

-- nor do 5 to 11 and 19: the list is read as the edits es, which lead to the state st
pub record Done (a bytes : List ℕ) (es : List Edit) (st : State) : Type 0 where
  pub reads : edit_list bytes ≡ listed es
  pub makes : edits_on a es ≡ finished st

-- the result with its ground, the first that holds: "1; 2 if the work buffer's length isn't the image's; check's; then the list, first faulty edit: ..
-- Then edit by edit: .. Then 12 more than 15 changed headers where the log is needed; 13 tape too short."
pub data Answers (way : Way) (a work tape bytes : List ℕ) : Called → Type 0 where
  bad-size : is_image_size (length a) ≡ false → Answers way a work tape bytes (refused_with 1 0 work tape)
  bad-work : is_image_size (length a) ≡ true → (length work ≡ length a → ⊥) → Answers way a work tape bytes (refused_with 2 0 work tape)
  bad-image : is_image_size (length a) ≡ true → length work ≡ length a → (r : Refusal) → check_call a ≡ Err r →
      Answers way a work tape bytes (record { answer = Err r; work = work; tape = tape })
  bad-list : Begun a work → (k i : ℕ) → ListFault bytes k i → Answers way a work tape bytes (refused_with k i work tape)
  bad-edit : Begun a work → (es : List Edit) → edit_list bytes ≡ listed es → (k i : ℕ) → 8 ≤ k → Grounds a es k i → Answers way a work tape bytes (refused_with k i a tape)
  no-log : Begun a work → (es : List Edit) (st : State) → Done a bytes es st → 15 < length (changed_pages a (edited_image a st)) → Answers way a work tape bytes (refused_with 12 0 a tape)
  no-tape : Begun a work → (es : List Edit) (st : State) → Done a bytes es st → length (changed_pages a (edited_image a st)) ≤ 15 →
      length tape < length (tape_bytes (taken_for way a (edited_image a st)).tape) → Answers way a work tape bytes (refused_with 13 0 a tape)
  accepted : Begun a work → (es : List Edit) (st : State) → Done a bytes es st → length (changed_pages a (edited_image a st)) ≤ 15 →
      length (tape_bytes (taken_for way a (edited_image a st)).tape) ≤ length tape → Answers way a work tape bytes (accepted_with (taken_for way a (edited_image a st)) tape)
