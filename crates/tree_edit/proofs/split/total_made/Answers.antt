-- `total_made`: the sum, with the sizes that are left, is the whole.
-- Assumes nothing.
use Prim.Native.Nat.{◌<◌}
use native.Mathlib.Omega.{arith}
use lib.ListN.{length}
use Rattle.tree_edit.specs.Steps.{made_by}
use Rattle.tree_edit.proofs.Sized.{made-listed, made-small, sizes-next, sizes-none}
use Rattle.tree_edit.proofs.split.total_made.Goals as goal
use Rattle.tree_edit.proofs.split.total_made.Goals.{In-loop-k}

-- one record more is left
left : (c : In-loop-k) → let a = c.args in c.loop-k.k < length (made_by a.new a.value.now a.page.bytes.now)
left c = omega (arith, c.loop-k-test.true, c.made_count-k-end.ensures, made-listed c.requires)

pub size_made-sum-requires : goal.size_made-sum-requires
size_made-sum-requires c = (c.requires, left (goal.at.size_made-sum-requires c).In-loop-k)

pub overflow_add-sum : goal.overflow_add-sum
overflow_add-sum c =
    omega (arith, c.loop-k.invariant, c.size_made-sum.ensures, sizes-next c.requires c.loop-k.k (left (goal.at.overflow_add-sum c).In-loop-k), made-small c.requires)

pub loop-k-preserved : goal.loop-k-preserved
loop-k-preserved c =
    omega (arith, c.loop-k.invariant, c.size_made-sum.ensures, sizes-next c.requires c.loop-k.k (left (goal.at.loop-k-preserved c).In-loop-k))

pub returns : goal.returns
returns c =
    let l = c.loop-k in
    omega (arith, l.invariant, sizes-none (made_by c.args.new c.args.value.now c.args.page.bytes.now) l.k (omega (arith, c.loop-k-test.false, c.made_count-k-end.ensures, made-listed c.requires)))
