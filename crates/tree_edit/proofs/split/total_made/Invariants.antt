-- `total_made`: the sum, with the sizes that are left, is the whole.
-- Assumes nothing.
use Prim.Native.Nat.{◌+◌}
use mathlib.Core.Path.{◌≡◌}
use lib.ListN.{drop}
use Rattle.page.specs.Operations.{sizes}
use Rattle.tree_edit.specs.Steps.{made_by}
use Rattle.tree_edit.proofs.split.total_made.Given as goal

abbrev pub invariant-loop-k : goal.invariant-loop-k
invariant-loop-k l = l.sum + sizes (drop l.k (made_by l.new l.value l.page.bytes.now)) ≡ sizes (made_by l.new l.value l.page.bytes.now)
