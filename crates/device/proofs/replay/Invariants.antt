-- `replay`: what is kept of the commands left, made over what is there, is what is kept of all.
-- Assumes nothing.
use Prim.Native.Nat.{◌-◌, ◌/◌}
use lib.ListN.{length, get_or}
use Rattle.device.specs.Tape.{decode}
use Rattle.device.specs.Cut.{cut_image}
use Rattle.device.specs.Counts.{flush_done}
use Rattle.device.proofs.Turns.{Replaying}
use Rattle.device.proofs.replay.Given as goal

abbrev pub invariant-loop-done : goal.invariant-loop-done
invariant-loop-done l =
    let n = length l.initial.work in
    Replaying n l.tape (length l.flushes / 2) (flush_done l.flushes l.fence) (cut_image l.initial.work (λ line. get_or l.initial.left line 0) l.c (decode n l.tape)) l.at (l.c - l._done) l.work l.left
