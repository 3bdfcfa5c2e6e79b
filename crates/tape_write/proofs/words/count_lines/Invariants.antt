-- `count_lines`: the lines counted and those still to come are the whole.
-- Assumes nothing.
use Prim.Native.Nat.{◌+◌, ◌≤◌}
use mathlib.Core.Path.{◌≡◌}
use lib.ListN.{length, drop}
use Rattle.tape_write.specs.Words.{lines_past}
use Rattle.tape_write.proofs.words.count_lines.Given as goal

abbrev pub invariant-loop-k : goal.invariant-loop-k
invariant-loop-k l = (l.lines ≤ l.k-index) × (l.lines + length (lines_past l.last (drop l.k-index l.words)) ≡ length (lines_past 0 l.words))
