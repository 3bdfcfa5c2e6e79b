-- `count_leaves`: the last leaf so far and what is left of both make as many leaves as there are.
-- Assumes nothing.
use lib.ListN.{length}
use Rattle.merge.specs.Cursors.{left_of}
use Rattle.merge.proofs.Counting.{Counting}
use Rattle.merge.proofs.leaves.count_leaves.Given as goal

abbrev pub invariant-loop-at : goal.invariant-loop-at
invariant-loop-at l = Counting l.books.first.image.now l.books.second.image.now l.at l.leaves l.n l.s

abbrev pub decreases-loop-at : goal.decreases-loop-at
decreases-loop-at l = length (left_of l.books.first.image.now l.books.second.image.now l.at)
