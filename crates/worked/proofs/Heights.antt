-- The claims: every row of the two heights holds.
-- Assumes nothing.
use mathlib.Core.Path.{refl}
use Rattle.worked.specs.Row.{HoldsFrom}
use Rattle.worked.specs.HeightRows.{leaves_from, twenty-eight-leaves, full-index, packed-index, root-split, copied-split, two-nodes, full-second, slot-zero, one-second, node-lost}
use Rattle.worked.proofs.Open.{opened}

root-split-holds : HoldsFrom (full-index 35) root-split
unfolding opened leaves_from twenty-eight-leaves full-index
root-split-holds = refl

copied-split-holds : HoldsFrom (packed-index 36) copied-split
unfolding opened leaves_from twenty-eight-leaves full-index packed-index
copied-split-holds = refl

slot-zero-holds : HoldsFrom full-second slot-zero
unfolding opened two-nodes full-second
slot-zero-holds = refl

node-lost-holds : HoldsFrom one-second node-lost
unfolding opened two-nodes one-second
node-lost-holds = refl

pub heights-on-paper :
    HoldsFrom (full-index 35) root-split × HoldsFrom (packed-index 36) copied-split × HoldsFrom full-second slot-zero × HoldsFrom one-second node-lost
heights-on-paper = (root-split-holds, copied-split-holds, slot-zero-holds, node-lost-holds)
