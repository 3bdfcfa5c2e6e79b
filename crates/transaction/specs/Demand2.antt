-- Demand 2 of the call on either device: what an accepted transaction leaves in its buffers, whatever they held (document 01, 'The plain ledger', and the desk's second demand).
-- That a refusal comes exactly if its ground is the first that holds is said in Answers.
-- Assumes nothing.
use Rattle.std.specs.Prelude.{ℕ, ◌≤◌, ◌≡◌, true, List, length, take, drop, Ok}
use Rattle.device.specs.Tape.{flush_count}
use Rattle.device.specs.Cut.{after}
use Rattle.device.specs.Calls.{accepted, run_call}
use Rattle.image.specs.Image.{sound}
use Rattle.image.specs.Table.{table}
use Rattle.edit.specs.EditList.{listed, edits_of, edit_list}
use Rattle.edit.specs.Ledger.{apply_edits}
use Rattle.journal.specs.declared.Way.{Way}
use Rattle.journal.specs.declared.Commit.{Commit}
use Rattle.transaction.specs.Calls.{Called, commands_on, transaction_call}

-- the transaction on the image a, lent work, tape and the edit list, is accepted with the answer c and leaves r
pub record Makes (a tape bytes : List ℕ) (c : Commit) (r : Called) : Type 0 where
  pub was_sound : sound a ≡ true
  -- the list has no fault; work is sound, and its table is the ledger's after the list: "each edit in order"
  pub reads : edit_list bytes ≡ listed (edits_of (edit_list bytes))
  pub is_sound : sound r.work ≡ true
  pub is_table : table r.work ≡ apply_edits (edits_of (edit_list bytes)) (table a)
  -- "on acceptance, the image after all the tape's stores": the commands on the tape give work, and the device's run does so in any buffer of the image's length
  pub leaves : after a (commands_on a c.bytes r.tape) ≡ r.work
  pub runs : (buffer : List ℕ) → length buffer ≡ length a → run_call a buffer (take c.bytes r.tape) ≡ accepted r.work
  -- "the number of flushes in the answer is the number of flush commands on the tape"
  pub flushes : c.flushes ≡ flush_count (commands_on a c.bytes r.tape)
  -- "Tape bytes past those used stay."
  pub used : c.bytes ≤ length tape
  pub past : drop c.bytes r.tape ≡ drop c.bytes tape

abbrev pub Demand2 : Type 0
Demand2 =
    (way : Way) (a work tape bytes : List ℕ) (c : Commit) → (transaction_call way a work tape bytes).answer ≡ Ok c → Makes a tape bytes c (transaction_call way a work tape bytes)
