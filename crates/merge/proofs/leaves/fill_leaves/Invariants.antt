-- `fill_leaves`: the leaves that are left to be put, put over what is there, are the whole.
-- Assumes nothing.
use Rattle.merge.proofs.Putting.{Putting}
use Rattle.merge.proofs.leaves.fill_leaves.Given as goal

abbrev pub invariant-loop-i : goal.invariant-loop-i
invariant-loop-i l = Putting l.books.first.image.now l.books.second.image.now l.initial.out l.out l.seps l.fn.first l.at l.next l.i
