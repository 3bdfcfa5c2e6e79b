-- `fill_leaves`: the leaves that are left to be put, put over what is there, are the whole.
-- Assumes nothing.
use Prim.Native.Nat.{◌+◌, ◌*◌, ◌≤◌}
use mathlib.Core.Path.{refl, ◌∙◌}
use native.Mathlib.Omega.{arith}
use lib.ListN.{length}
use Rattle.page.specs.Layout.{page_size}
use Rattle.page.proofs.Images.{lent, length-lent, back}
use Rattle.merge.proofs.Putting.{put-starts, put_next, put-ends}
use Rattle.merge.proofs.leaves.fill_leaves.Goals as goal
use Rattle.merge.proofs.leaves.fill_leaves.Goals.{In-loop-i}

pub loop-i-init : goal.loop-i-init
loop-i-init c = put-starts c.args.first c.requires.second_value c.begin-at.ensures

-- the next page lies in the image
inside : (c : In-loop-i) → page_size * (c.loop-i.i + c.args.first) + page_size ≤ length c.loop-i.out
inside c = omega (arith, c.loop-i-test.true, c.loop-i.invariant.long, c.requires.first_value)

pub loop-i-preserved : goal.loop-i-preserved
loop-i-preserved c =
    let l = c.loop-i in
    let n = l.i + c.args.first in
    let page = c.fill_leaf-at.new.page in
    let fits = inside (goal.at.loop-i-preserved c).In-loop-i in
    let long = c.fill_leaf-at.auto.page in
    put_next l.invariant (omega (arith, l.auto.seps)) fits (lent l.out n) c.fill_leaf-at.ensures _ _ (back l.out n page page fits long refl) (long ∙ length-lent l.out n fits) c.min-next.ensures

pub returns-clause-out_after : goal.returns-clause-out_after
returns-clause-out_after c = (put-ends c.loop-i.invariant (omega (arith, c.loop-i.auto.seps))).0
