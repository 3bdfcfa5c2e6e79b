-- `split_point`: the search from the m-th record on, after those before it, gives the split point.
-- Assumes nothing.
use Prim.Native.Nat.{◌-◌}
use lib.ListN.{length}
use Rattle.tree_edit.specs.Steps.{made_by}
use Rattle.tree_edit.proofs.Sized.{Searched}
use Rattle.tree_edit.proofs.split.split_point.Given as goal

abbrev pub invariant-loop-seen : goal.invariant-loop-seen
invariant-loop-seen l = Searched (made_by l.new l.value l.page.bytes.now) l.total l.seen l.m

abbrev pub decreases-loop-seen : goal.decreases-loop-seen
decreases-loop-seen l = length (made_by l.new l.value l.page.bytes.now) - l.m
