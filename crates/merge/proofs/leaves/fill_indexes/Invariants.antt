-- `fill_indexes`: the index pages that are left to be put, put over what is there, are the whole.
-- Assumes nothing.
use lib.ListN.{length}
use Rattle.merge.proofs.Indexed.{Indexing}
use Rattle.merge.proofs.leaves.fill_indexes.Given as goal

abbrev pub invariant-loop-i : goal.invariant-loop-i
invariant-loop-i l = Indexing l.initial.out l.out l.tops l.seps (length l.initial.tops) l.first l.i
