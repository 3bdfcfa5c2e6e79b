-- `size_of`: 16 and the length rounded up.
-- Assumes nothing.
use native.Mathlib.Omega.{arith}
use Rattle.page.specs.Layout.{up8}
use Rattle.page.proofs.laid.size_of.Goals as goal

pub returns : goal.returns
unfolding up8
returns c = omega arith
