-- `value_of`: what is left to read, after what was read, is the whole.
-- Assumes nothing.
use Prim.Native.Nat.{◌+◌, ◌*◌, ◌^◌, ◌≤◌}
use mathlib.Core.Path.{◌≡◌}
use lib.ListN.{drop}
use Rattle.lines.specs.Columns.{value, value_from}
use Rattle.lines.proofs.value_of.Given as goal

abbrev pub invariant-loop-c : goal.invariant-loop-c
invariant-loop-c l = (l.n + 23 ≤ 23 * 10 ^ l.c-index) × (value_from l.n (drop l.c-index l.columns) ≡ value l.columns)
