-- `fill_node`: what is left to be filled in, filled in over what is there, is the whole.
-- Assumes nothing.
use Prim.Native.Nat.{◌+◌}
use mathlib.Core.Path.{◌≡◌}
use lib.ListN.{length, drop}
use Rattle.page.specs.Layout.{page_size}
use Rattle.page_edit.proofs.Filled.{Left}
use Rattle.image.specs.Fresh.{named}
use Rattle.merge.proofs.leaves.fill_node.Given as goal

abbrev pub invariant-loop-i : goal.invariant-loop-i
invariant-loop-i l =
    record { long : length l.page ≡ page_size; left : Left l.initial.h l.initial.page (named (0 + l.fn.k) (drop 0 l.seps)) l.h l.page (named (l.i + l.fn.k) (drop l.i l.seps)) }
