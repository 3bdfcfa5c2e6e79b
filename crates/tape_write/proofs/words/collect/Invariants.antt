-- `collect`: the words that are collected and those still to come are the whole.
-- Assumes nothing.
use Prim.Native.Nat.{◌+◌, ◌-◌, ◌≤◌}
use lib.ListN.{length}
use Rattle.tape_write.specs.Words.{differing}
use Rattle.tape_write.proofs.Collecting.{Collects}
use Rattle.tape_write.proofs.words.collect.Given as goal

abbrev pub invariant-loop-k : goal.invariant-loop-k
invariant-loop-k l = (l.n + (l.to - l.k) ≤ length l.words) × Collects l.words l.n (differing l.image l.work (l.to - l.k) l.k) l.initial.words l.count (differing l.image l.work (l.to - l.from) l.from)
