-- `flush_headers`: the flushes that are left, over what is written, are the whole.
-- Assumes nothing.
use Prim.Native.Nat.{◌+◌, ◌-◌, ◌*◌}
use mathlib.Core.Path.{◌≡◌}
use lib.Seq.{sets}
use Rattle.device.specs.Tape.{tape_bytes}
use Rattle.journal.specs.Recovery.{lines_from, logged}
use Rattle.tape_write.specs.Lines.{line_flushes}
use Rattle.tape_write.proofs.headers.flush_headers.Given as goal

abbrev pub invariant-loop-i : goal.invariant-loop-i
invariant-loop-i l = sets l.tape (l.at + 4 * l.i) (tape_bytes (line_flushes l.own (l.i + 1) (lines_from (l.log.count - l.i) (l.i + 1) l.log.src.now))) ≡ sets l.initial.tape l.at (tape_bytes (line_flushes l.own 1 (logged l.log.count l.log.src.now)))
