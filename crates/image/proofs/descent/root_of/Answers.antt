-- `root_of` reads word 1.
-- Assumes nothing.
use Rattle.image.specs.PageZero.{root_of}
use Rattle.image.proofs.descent.root_of.Goals as goal

pub returns : goal.returns
unfolding root_of
returns c = c.long_at.ensures
