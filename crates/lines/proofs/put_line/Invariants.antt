-- `put_line`: the fields that are left to put.
-- Assumes nothing.
use Rattle.lines.proofs.Writing.{Putting}
use Rattle.lines.proofs.put_line.Given as goal

abbrev pub invariant-loop-w : goal.invariant-loop-w
invariant-loop-w l = Putting l.fields l.w-index l.at l.dst
