-- `fill_leaf`: the records that the leaf has so far and what is left of both make the leaves that there were to fill.
-- Assumes nothing.
use lib.ListN.{length}
use Rattle.merge.specs.Cursors.{left_of}
use Rattle.merge.proofs.Filling.{InLeaf}
use Rattle.merge.proofs.leaves.fill_leaf.Given as goal

abbrev pub invariant-loop-page : goal.invariant-loop-page
invariant-loop-page l = InLeaf l.books.first.image.now l.books.second.image.now l.own l.initial.at l.initial.h l.initial.page l.at l.h l.page

abbrev pub decreases-loop-page : goal.decreases-loop-page
decreases-loop-page l = length (left_of l.books.first.image.now l.books.second.image.now l.at)
