-- `read_full`: what is read lies in the buffer.
use Rattle.std.proofs.Common.{◌≤◌, length}
use Rattle.sheet.proofs.read_full.Given as goal

abbrev pub invariant-loop : goal.invariant-loop
invariant-loop l = l.done ≤ length l.buffer
