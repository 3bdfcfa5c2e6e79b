-- `free_below`: the free pages below those looked at are all of them.
-- Assumes nothing.
use Prim.Native.Nat.{◌-◌}
use mathlib.Core.Path.{◌≡◌}
use Rattle.tree_edit.specs.Steps.{unmarked}
use Rattle.tree_edit.proofs.pages.free_below.Given as goal

abbrev pub invariant-loop-p : goal.invariant-loop-p
invariant-loop-p l = unmarked l.before (l.p - 1) ≡ unmarked l.before (l.top - 1)
