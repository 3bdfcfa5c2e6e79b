-- `edit_list`: what the edits that are left come to is what all come to.
-- Assumes nothing.
use Prim.Native.Nat.{ℕ, ◌/◌}
use mathlib.Core.Path.{refl, sym, ◌∙◌, subst}
use native.Mathlib.Omega.{arith}
use Rattle.page.specs.Layout.{page_size}
use Rattle.tree.specs.Good.{Good}
use Rattle.tree_edit.specs.Steps.{state_of}
use Rattle.tree_edit.proofs.Said.{said-refused, said-done, said-low}
use Rattle.edit.proofs.Heads.{head-fits}
use Rattle.tree_edit.proofs.EditsLeft.{left-all, left_end, one_more, left-proper, left-stop, left-next}
use Rattle.tree_edit.proofs.edits.edit_list.Goals as goal

pub loop-at-init : goal.loop-at-init
loop-at-init c =
    (refl, omega arith, left-all _ _ _ _ _ c.requires.0 c.requires.1 _ c.requires.2)

pub overflow_add-b : goal.overflow_add-b
overflow_add-b c = omega (arith, head-fits c.loop-at.invariant.2.ahead c.loop-at-test.true _ refl)

pub overflow_add-at : goal.overflow_add-at
overflow_add-at c = omega (arith, head-fits c.loop-at.invariant.2.ahead c.loop-at-test.true _ refl)

pub bounds-list-at : goal.bounds-list-at
bounds-list-at c = omega (arith, head-fits c.loop-at.invariant.2.ahead c.loop-at-test.true _ refl)

pub overflow_add-e : goal.overflow_add-e
overflow_add-e c = omega (arith, head-fits c.loop-at.invariant.2.ahead c.loop-at-test.true _ c.wide.ensures.0)

pub overflow_add-at-in-loop-at : goal.overflow_add-at-in-loop-at
overflow_add-at-in-loop-at c = omega (arith, head-fits c.loop-at.invariant.2.ahead c.loop-at-test.true _ c.wide.ensures.0)

pub long_at-key-requires : goal.long_at-key-requires
long_at-key-requires c = omega (arith, head-fits c.loop-at.invariant.2.ahead c.loop-at-test.true _ c.wide.ensures.0)

pub bounds-list-at-in-loop-at : goal.bounds-list-at-in-loop-at
bounds-list-at-in-loop-at c = omega arith

pub slice_bounds-edit-count : goal.slice_bounds-edit-count
slice_bounds-edit-count c = omega arith

pub slice_bounds-edit-start : goal.slice_bounds-edit-start
slice_bounds-edit-start c = omega (arith, head-fits c.loop-at.invariant.2.ahead c.loop-at-test.true _ c.wide.ensures.0)

pub slice_bounds-edit-end : goal.slice_bounds-edit-end
slice_bounds-edit-end c = omega (arith, head-fits c.loop-at.invariant.2.ahead c.loop-at-test.true _ c.wide.ensures.0)

pub edit-requires : goal.edit-requires
edit-requires c =
    let l = c.loop-at in
    (subst (λ (m : ℕ). Good (m / page_size) (state_of c.args.before.now l.work l.tree)) (sym l.invariant.0) l.invariant.2.good, l.invariant.2.low, left-proper l.invariant.2 c.loop-at-test.true _ c.wide.ensures.0 _ c.long_at-key.ensures)

pub shape_of-work-in-Err : goal.shape_of-work-in-Err
shape_of-work-in-Err c = c.edit.auto.work ∙ c.loop-at.invariant.0

pub returns-in-Err : goal.returns-in-Err
returns-in-Err c = left-stop c.loop-at.invariant.2 c.loop-at-test.true _ c.wide.ensures.0 _ c.long_at-key.ensures _ (said-refused c.edit.ensures _ c.in-Err.is)

pub overflow_add-number : goal.overflow_add-number
overflow_add-number c = omega (arith, one_more c.loop-at.invariant.2 c.loop-at-test.true)

pub loop-at-smaller : goal.loop-at-smaller
loop-at-smaller c = omega (arith, head-fits c.loop-at.invariant.2.ahead c.loop-at-test.true _ c.wide.ensures.0)

pub loop-at-preserved : goal.loop-at-preserved
loop-at-preserved c =
    let loop-test = c.loop-at-test in
    let l = c.loop-at in
    (c.edit.auto.work ∙ l.invariant.0, head-fits l.invariant.2.ahead loop-test.true _ c.wide.ensures.0, left-next l.invariant.2 loop-test.true _ c.wide.ensures.0 _ c.long_at-key.ensures _ _ (said-done c.edit.ensures _ c.in-Ok.is) (said-low c.edit.ensures _ c.in-Ok.is))

pub shape_of-work : goal.shape_of-work
shape_of-work c = c.loop-at.invariant.0

pub returns : goal.returns
returns c = left_end c.loop-at.invariant.2 c.loop-at-test.false
