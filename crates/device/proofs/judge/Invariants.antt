-- `judge`: the commands left are well formed as all are, with those counted they are all, and with what is noted they come to what is to be told.
-- Assumes nothing.
use Prim.Native.Nat.{◌+◌, ◌-◌, ◌≤◌}
use mathlib.Core.Path.{◌≡◌}
use lib.ListN.{length, take, drop}
use Rattle.device.specs.Tape.{decode, well_formed}
use Rattle.device.proofs.Counts.{Noting}
use Rattle.device.proofs.judge.Given as goal

abbrev pub invariant-loop-at : goal.invariant-loop-at
invariant-loop-at l =
    (l.at ≤ length l.tape) × (l.count ≤ l.at) × (length l.flushes ≡ length l.initial.flushes)
    × (well_formed (decode l.n (drop l.at l.tape)) ≡ well_formed (decode l.n l.tape))
    × (l.count + length (decode l.n (drop l.at l.tape)) ≡ length (decode l.n l.tape))
    × Noting l.flushes l.fence l.at (take (l.c - l.count) (decode l.n (drop l.at l.tape))) (take l.c (decode l.n l.tape))

abbrev pub decreases-loop-at : goal.decreases-loop-at
decreases-loop-at l = length l.tape - l.at
