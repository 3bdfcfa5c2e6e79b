-- `count_commands`: the commands left are well formed as all are, and with those counted they are all.
-- Assumes nothing.
use Prim.Native.Nat.{◌+◌, ◌-◌, ◌≤◌}
use mathlib.Core.Path.{◌≡◌}
use lib.ListN.{length, drop}
use Rattle.device.specs.Tape.{decode, well_formed}
use Rattle.device.proofs.count_commands.Given as goal

abbrev pub invariant-loop-at : goal.invariant-loop-at
invariant-loop-at l =
    (l.at ≤ length l.tape) × (l.count ≤ l.at)
    × (well_formed (decode l.n (drop l.at l.tape)) ≡ well_formed (decode l.n l.tape))
    × (l.count + length (decode l.n (drop l.at l.tape)) ≡ length (decode l.n l.tape))

abbrev pub decreases-loop-at : goal.decreases-loop-at
decreases-loop-at l = length l.tape - l.at
