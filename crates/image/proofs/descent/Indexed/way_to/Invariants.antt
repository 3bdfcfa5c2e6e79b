-- `way_to` goes down page by page: what is left of the way, from where it is, is the whole way.
-- Assumes nothing.
use Rattle.image.proofs.CodeWays.{Going}
use Rattle.image.proofs.descent.Indexed.way_to.Given as goal

abbrev pub invariant-loop-height : goal.invariant-loop-height
invariant-loop-height l = Going l.self.image.now l.self.root l.key l.fn.marks l.height l.only l.place l.marks

abbrev pub decreases-loop-height : goal.decreases-loop-height
decreases-loop-height l = l.height
