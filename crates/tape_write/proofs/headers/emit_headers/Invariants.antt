-- `emit_headers`: the stores that are left, over what is written, are the whole.
-- Assumes nothing.
use Prim.Native.Nat.{◌+◌, ◌-◌}
use mathlib.Core.Path.{◌≡◌}
use lib.Seq.{sets}
use Rattle.device.specs.Tape.{tape_bytes}
use Rattle.journal.specs.Recovery.{lines_from, logged}
use Rattle.tape_write.specs.Lines.{line_stores}
use Rattle.tape_write.specs.Sizes.{lines_bytes}
use Rattle.tape_write.proofs.headers.emit_headers.Given as goal

abbrev pub invariant-loop-i : goal.invariant-loop-i
invariant-loop-i l = sets l.tape (l.at + lines_bytes l.way l.i) (tape_bytes (line_stores l.way l.own (l.i + 1) (lines_from (l.log.count - l.i) (l.i + 1) l.src))) ≡ sets l.initial.tape l.at (tape_bytes (line_stores l.way l.own 1 (logged l.log.count l.src)))
