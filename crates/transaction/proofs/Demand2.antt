-- Demand 2 of the call: an accepted transaction leaves a sound work image with the ledger's table, which its tape gives.
-- Assumes nothing.
use Rattle.std.specs.Prelude.{Ok}
use Prim.Native.Nat.{ℕ, ◌≤◌}
use mathlib.Core.Path.{◌≡◌, sym, ap, ◌∙◌}
use mathlib.Core.Logic.{◌⊎◌}
use mathlib.Core.Bool.{true, false}
use mathlib.Core.List.{List, [], ◌∷◌}
use native.Mathlib.Nat.{not-suc-le-zero}
use native.Mathlib.Omega.{arith}
use lib.ListN.{length, take, drop}
use borrow.Author.Tests.{le-leb}
use Rattle.codec.specs.Lists.{All, splice}
use Rattle.codec.proofs.Lists.{drop-splice}
use Rattle.device.specs.Tape.{tape_bytes, well_formed, flush_count}
use Rattle.device.specs.Cut.{after}
use Rattle.device.specs.Calls.{accepted, run_call}
use Rattle.device.proofs.Calls.{run-accepts}
use Rattle.device.proofs.Encode.{writable-formed}
use Rattle.image.specs.PageZero.{log_most}
use Rattle.image.specs.Image.{sound}
use Rattle.image.specs.Table.{table}
use Rattle.image.proofs.Answers.{check_sound}
use Rattle.edit.specs.EditList.{Edit, listed, edits_of, edit_list}
use Rattle.edit.specs.Reads.{Proper}
use Rattle.edit.specs.Ledger.{apply_edits}
use Rattle.edit.proofs.Parsing.{list-whole, list-proper}
use Rattle.journal.specs.Changes.{changed_pages, same_root}
use Rattle.journal.specs.Tape.{Taken, commit_of, room_in_log, taken_for}
use Rattle.journal.specs.Edited.{Edited}
use Rattle.journal.specs.declared.Way.{Way}
use Rattle.journal.specs.declared.Commit.{Commit}
use Rattle.journal.proofs.Taken.{taken-run, taken-sound}
use Rattle.journal.proofs.Fitting.{taken-fits}
use Rattle.journal.proofs.Stated.{commit-reads}
use Rattle.tree.specs.Whole.{finished, edits_on, edited_image}
use Rattle.tree.proofs.Accepted.{edits-accepted, edits-table}
use Rattle.tree.proofs.Changed.{place-changed}
use Rattle.transaction.specs.Calls.{Called, accepted_with, commands_on, transaction_call}
use Rattle.transaction.specs.Demand2.{Makes, Demand2}
use Rattle.transaction.proofs.Answers.{Acceptance, call-accepted}

module _ (way : Way) (a work tape bytes : List ℕ) (c : Commit) (e : (transaction_call way a work tape bytes).answer ≡ Ok c) where
  pub acceptance : Acceptance way a work tape bytes
  acceptance = call-accepted way a work tape bytes c e

  pub was-sound : sound a ≡ true
  was-sound = check_sound a acceptance.begun.checked

  proper : All Proper acceptance.list
  proper = list-proper bytes acceptance.list acceptance.done.reads

  -- its edited image, and the transaction to it
  abbrev pub target : List ℕ
  target = edited_image a acceptance.state

  abbrev taken : Taken
  taken = taken_for way a target

  pub target-edited : Edited a target
  target-edited = edits-accepted a was-sound acceptance.list proper acceptance.state acceptance.done.makes

  -- the edits made are those of the list
  list-is : acceptance.list ≡ edits_of (edit_list bytes)
  list-is = sym (ap edits_of acceptance.done.reads)

  pub target-table : table target ≡ apply_edits (edits_of (edit_list bytes)) (table a)
  target-table =
      edits-table a was-sound acceptance.list proper acceptance.state acceptance.done.makes ∙ ap (λ (es : List Edit). apply_edits es (table a)) list-is

  pub room : room_in_log (changed_pages a target) ≡ true
  unfolding room_in_log
  room = le-leb (length (changed_pages a target)) log_most acceptance.few

  -- a header or the root word differs
  pub place-differs : (1 ≤ length (changed_pages a target)) ⊎ (same_root a target ≡ false)
  place-differs = go acceptance.list (list-whole bytes acceptance.list acceptance.done.reads).some proper acceptance.done.makes
    where
      go : (es : List Edit) → 1 ≤ length es → All Proper es → edits_on a es ≡ finished acceptance.state → (1 ≤ length (changed_pages a target)) ⊎ (same_root a target ≡ false)
      go [] some P q = absurd (not-suc-le-zero some)
      go (x ∷ es) some P q = place-changed a was-sound x es P acceptance.state q

  -- the answer, and what the buffers hold
  pub answer-is : c ≡ commit_of taken
  unfolding accepted_with
  answer-is =
      let r : Ok c ≡ (accepted_with taken tape).answer = sym e ∙ ap (λ (x : Called). x.answer) acceptance.result in
      cc

  work-is : (transaction_call way a work tape bytes).work ≡ taken.work
  unfolding accepted_with
  work-is = ap (λ (x : Called). x.work) acceptance.result

  tape-is : (transaction_call way a work tape bytes).tape ≡ splice tape 0 (tape_bytes taken.tape)
  unfolding accepted_with
  tape-is = ap (λ (x : Called). x.tape) acceptance.result

  bytes-are : c.bytes ≡ length (tape_bytes taken.tape)
  unfolding commit_of
  bytes-are = ap (λ (x : Commit). x.bytes) answer-is

  -- the bytes used say the commands
  pub commands-are : commands_on a c.bytes (transaction_call way a work tape bytes).tape ≡ taken.tape
  commands-are =
      ap (commands_on a c.bytes) tape-is
      ∙ ap (λ (x : Commit). commands_on a x.bytes (splice tape 0 (tape_bytes taken.tape))) answer-is
      ∙ (commit-reads way a target was-sound target-edited room tape acceptance.fits).0

  leaves : after a (commands_on a c.bytes (transaction_call way a work tape bytes).tape) ≡ (transaction_call way a work tape bytes).work
  leaves = ap (after a) commands-are ∙ taken-run way a target was-sound target-edited room ∙ sym work-is

  pub formed : well_formed (commands_on a c.bytes (transaction_call way a work tape bytes).tape) ≡ true
  formed = ap well_formed commands-are ∙ writable-formed (length a) taken.tape (taken-fits way a target was-sound target-edited room)

  runs : (buffer : List ℕ) → length buffer ≡ length a → run_call a buffer (take c.bytes (transaction_call way a work tape bytes).tape) ≡ accepted (transaction_call way a work tape bytes).work
  runs buffer same =
      run-accepts a buffer (take c.bytes (transaction_call way a work tape bytes).tape) acceptance.begun.size same formed ∙ ap accepted leaves

  flushes : c.flushes ≡ flush_count (commands_on a c.bytes (transaction_call way a work tape bytes).tape)
  unfolding commit_of
  flushes = ap (λ (x : Commit). x.flushes) answer-is ∙ ap flush_count (sym commands-are)

  past : drop c.bytes (transaction_call way a work tape bytes).tape ≡ drop c.bytes tape
  past = ap (drop c.bytes) tape-is ∙ drop-splice tape 0 (tape_bytes taken.tape) (omega (arith, acceptance.fits)) c.bytes (omega (arith, bytes-are))

  makes : Makes a tape bytes c (transaction_call way a work tape bytes)
  makes =
      let s = taken-sound way a target was-sound target-edited room in
      record {
        was_sound = was-sound;
        reads = acceptance.done.reads ∙ ap listed list-is;
        is_sound = ap sound work-is ∙ s.0;
        is_table = ap table work-is ∙ s.1 ∙ target-table;
        leaves = leaves;
        runs = runs;
        flushes = flushes;
        used = omega (arith, bytes-are, acceptance.fits);
        past = past;
      }

pub demand-2 : Demand2
demand-2 = makes
