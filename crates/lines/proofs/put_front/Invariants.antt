-- `put_front`: what is left to put, in front of what was put, is the whole.
-- Assumes nothing.
use mathlib.Core.Path.{◌≡◌}
use mathlib.Core.List.{◌++◌}
use lib.ListN.{length, drop}
use Rattle.lines.specs.Columns.{front}
use Rattle.lines.proofs.put_front.Given as goal

abbrev pub invariant-loop-i : goal.invariant-loop-i
invariant-loop-i l = front l.i l.left ++ drop l.i l.dst ≡ front (length l.initial.dst) l.n
