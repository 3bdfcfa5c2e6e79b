-- `leaves_ok` tests what it says: what is left to test of the leaves from the i-th on is the whole test.
-- Assumes nothing.
use mathlib.Core.Path.{◌≡◌}
use mathlib.Core.Bool.{◌&&◌}
use lib.ListN.{length, drop}
use lib.Dec.{eqb}
use Rattle.codec.specs.Lists.{all_b}
use Rattle.page.specs.Page.{records}
use Rattle.image.specs.Image.{children, places, leaf_at}
use Rattle.image.proofs.tree.leaves_ok.Given as goal

abbrev pub invariant-loop-i : goal.invariant-loop-i
invariant-loop-i l =
    all_b (leaf_at l.image l.only) (places l.lo (drop l.i (records l.page.bytes.now)) l.at.below)
    ≡ all_b (leaf_at l.image (l.alone && eqb (length (children l.image l.at.page)) 1)) (places l.at.from (children l.image l.at.page) l.at.below)
