-- What a transaction answers, and what it leaves in work and tape (document 01, 'Each call and when it says no'), by the way in which the
-- device writes a line (document 02 (d), "Refused: as in the present calls.").
-- Assumes nothing.
use Rattle.std.specs.Prelude.{ℕ, Bool, true, false, List, length, take, eqb, leb, Err, Ok, Result}
use Rattle.device.specs.declared.Refusal.{Refusal}
use Rattle.journal.specs.declared.Commit.{Commit}
use Rattle.codec.specs.Lists.{splice, pick}
use Rattle.device.specs.Tape.{Op, decode, tape_bytes}
use Rattle.device.specs.Calls.{image_size, work_size, log_full, tape_short, is_image_size, Answer, refusal_at}
use Rattle.image.specs.Calls.{check_call}
use Rattle.edit.specs.EditList.{Listed, listed, faulty, edit_list}
use Rattle.journal.specs.Changes.{changed_pages}
use Rattle.journal.specs.Tape.{Taken, commit_of, room_in_log, taken_for}
use Rattle.journal.specs.declared.Way.{Way}
use Rattle.tree.specs.Whole.{Outcome, finished, stopped, edits_on, edited_image}

-- whether the answer is an acceptance
unfoldable pub is_accepted : Result Commit Refusal → Bool
is_accepted (Ok c) = true
is_accepted (Err r) = false

-- the answer, and the two buffers that the call is lent
pub record Called : Type 0 where
  pub answer : Result Commit Refusal
  pub work : List ℕ
  pub tape : List ℕ

-- the commands that the first `bytes` bytes of a tape hold, those that an accepted call used
abbrev pub commands_on : List ℕ → ℕ → List ℕ → List Op
commands_on a bytes tape = decode (length a) (take bytes tape)

-- "A refusal gives its number and edit number from 0 (0 unless 5 to 11 in a transaction). The tape stays."; 19 too has its edit's (document 02 (g))
unfoldable pub refused_with : ℕ → ℕ → List ℕ → List ℕ → Called
refused_with k i work tape = record { answer = Err (refusal_at k i); work = work; tape = tape }

-- the accepted transaction: "Tape bytes past those used stay."
unfoldable pub accepted_with : Taken → List ℕ → Called
accepted_with t tape =
    let bytes = tape_bytes t.tape in
    record {
      answer = Ok (commit_of t);
      work = t.work;
      tape = splice tape 0 bytes;
    }

-- "Then 12 more than 15 changed headers where the log is needed; 13 tape too short. From 8 on, work holds the image"
unfoldable pub committed : Way → List ℕ → List ℕ → List ℕ → Called
committed way a w tape =
    let t = taken_for way a w in
    pick (room_in_log (changed_pages a w))
    (pick (leb (length (tape_bytes t.tape)) (length tape)) (accepted_with t tape) (refused_with tape_short 0 a tape))
    (refused_with log_full 0 a tape)

unfoldable pub outcome_of : Way → List ℕ → List ℕ → Outcome → Called
outcome_of way a tape (stopped k i) = refused_with k i a tape
outcome_of way a tape (finished st) = committed way a (edited_image a st) tape

unfoldable pub list_of : Way → List ℕ → List ℕ → List ℕ → Listed → Called
list_of way a work tape (faulty k i) = refused_with k i work tape
list_of way a work tape (listed es) = outcome_of way a tape (edits_on a es)

unfoldable pub checked_of : Way → List ℕ → List ℕ → List ℕ → List ℕ → Answer → Called
checked_of way a work tape bytes (Err r) = record { answer = Err r; work = work; tape = tape }
checked_of way a work tape bytes (Ok done) = list_of way a work tape (edit_list bytes)

-- "Transaction: 1; 2 if the work buffer's length isn't the image's; check's; then the list, ..."
unfoldable pub transaction_call : Way → List ℕ → List ℕ → List ℕ → List ℕ → Called
transaction_call way a work tape bytes =
    pick (is_image_size (length a))
    (pick (eqb (length work) (length a)) (checked_of way a work tape bytes (check_call a)) (refused_with work_size 0 work tape))
    (refused_with image_size 0 work tape)
