-- `seek`: one command after the other, as long as enough cuts are left.
-- Assumes nothing.
use Prim.Native.Nat.{◌-◌}
use mathlib.Core.Path.{◌≡◌}
use lib.ListN.{length}
use Rattle.cuts.proofs.Seeking.{Walk}
use Rattle.cuts.proofs.seek.Given as goal

abbrev pub invariant-loop-product : goal.invariant-loop-product
invariant-loop-product l =
    (length l.pending ≡ length l.initial.pending) × (length l.unflushed ≡ length l.initial.pending) × (length l.named ≡ 12) × Walk (length l.initial.pending) l.tape l.r l.at l.commands l.rest l.product l.later l.pending l.unflushed l.named

abbrev pub decreases-loop-product : goal.decreases-loop-product
decreases-loop-product l = length l.tape - l.at
