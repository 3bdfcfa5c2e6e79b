-- `play`: the stores left, made over what is there, are all stores made.
-- Assumes nothing.
use Prim.Native.Nat.{◌-◌, ◌≤◌}
use mathlib.Core.Path.{◌≡◌}
use mathlib.Core.Bool.{true}
use lib.ListN.{length, drop}
use Rattle.device.specs.Tape.{decode, well_formed}
use Rattle.device.specs.Cut.{after}
use Rattle.device.proofs.play.Given as goal

abbrev pub invariant-loop-at : goal.invariant-loop-at
invariant-loop-at l =
    (l.at ≤ length l.tape) × (length l.work ≡ length l.initial.work) × (well_formed (decode (length l.initial.work) (drop l.at l.tape)) ≡ true)
    × (after l.work (decode (length l.initial.work) (drop l.at l.tape)) ≡ after l.initial.work (decode (length l.initial.work) l.tape))

abbrev pub decreases-loop-at : goal.decreases-loop-at
decreases-loop-at l = length l.tape - l.at
