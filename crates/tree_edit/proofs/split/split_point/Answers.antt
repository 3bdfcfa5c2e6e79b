-- `split_point`: the search from the m-th record on, after those before it, gives the split point.
-- Assumes nothing.
use native.Mathlib.Omega.{arith}
use Rattle.tree_edit.proofs.Sized.{made-few, made-small, search-starts, search-ends, search-left, search-goes-on}
use Rattle.tree_edit.proofs.split.split_point.Goals as goal

pub loop-seen-init : goal.loop-seen-init
loop-seen-init c = search-starts _ _ c.total_made-total.ensures

pub overflow_mul-seen : goal.overflow_mul-seen
overflow_mul-seen c = omega (arith, c.loop-seen.invariant.rest, c.loop-seen.invariant.all, made-small c.requires)

pub size_made-seen-requires : goal.size_made-seen-requires
size_made-seen-requires c = (c.requires, search-left c.loop-seen.invariant (omega (arith, c.loop-seen-test.true)))

pub overflow_add-seen : goal.overflow_add-seen
overflow_add-seen c =
    let next = search-goes-on c.loop-seen.invariant (omega (arith, c.loop-seen-test.true)) _ c.size_made-seen.ensures in
    omega (arith, next.rest, next.all, made-small c.requires)

pub overflow_add-m : goal.overflow_add-m
overflow_add-m c = omega (arith, search-left c.loop-seen.invariant (omega (arith, c.loop-seen-test.true)), made-few c.requires)

pub loop-seen-smaller : goal.loop-seen-smaller
loop-seen-smaller c = omega (arith, search-left c.loop-seen.invariant (omega (arith, c.loop-seen-test.true)))

pub loop-seen-preserved : goal.loop-seen-preserved
loop-seen-preserved c = search-goes-on c.loop-seen.invariant (omega (arith, c.loop-seen-test.true)) _ c.size_made-seen.ensures

pub returns : goal.returns
returns c = search-ends c.loop-seen.invariant (omega (arith, c.loop-seen-test.false))
