-- What a recovery answers, and what it leaves in work and tape (document 01, 'Each call and when it says no'), by the way in which the device
-- writes a line.
-- Assumes nothing.
use Rattle.std.specs.Prelude.{ℕ, ◌&&◌, List, length, eqb, leb, Err, Ok, Result}
use Rattle.device.specs.declared.Refusal.{Refusal}
use Rattle.journal.specs.declared.Redone.{Redone}
use Rattle.codec.specs.Lists.{splice, pick}
use Rattle.device.specs.Tape.{Op, tape_bytes, flush_count}
use Rattle.device.specs.Calls.{is_image_size, image_size, work_size, unsound, tape_short, refusal}
use Rattle.image.specs.PageZero.{page_zero}
use Rattle.image.specs.Image.{sound}
use Rattle.journal.specs.Recovery.{replay_from, recovery_tape, replayable}
use Rattle.journal.specs.declared.Way.{Way}

-- the answer, and the two buffers that the call is lent
pub record Called : Type 0 where
  pub answer : Result Redone Refusal
  pub work : List ℕ
  pub tape : List ℕ

unfoldable pub refused_with : ℕ → List ℕ → List ℕ → Called
refused_with k work tape = record { answer = Err (refusal k); work = work; tape = tape }

-- "Its answer gives bytes and flushes."
unfoldable pub accepted_with : List Op → List ℕ → List ℕ → Called
accepted_with cs work tape =
    let bytes = tape_bytes cs in
    record { answer = Ok (record { bytes = length bytes; flushes = flush_count cs }); work = work; tape = splice tape 0 bytes }

-- "Recovery: 1; 2; 4 if page 0 or mark is wrong, logged page numbers repeat or leave 1 to N-1, or the replayed image is unsound;
-- 13, work then holding the image. Accepted, work is the replayed image"
unfoldable pub recover_call : Way → List ℕ → List ℕ → List ℕ → Called
recover_call way a work tape =
    let zero = page_zero a in
    let new = replay_from a zero in
    let cs = recovery_tape way a zero in
    pick (is_image_size (length a))
    (pick (eqb (length work) (length a))
    (pick (replayable a zero && sound new)
    (pick (leb (length (tape_bytes cs)) (length tape)) (accepted_with cs new tape) (refused_with tape_short a tape))
    (refused_with unsound work tape))
    (refused_with work_size work tape))
    (refused_with image_size work tape)
