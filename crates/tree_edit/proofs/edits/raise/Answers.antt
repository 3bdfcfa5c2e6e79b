-- `raise`: the index page takes what stands for the leaf, the top page what stands for the index page, and the tree is what `upward` says.
-- Assumes nothing.
use native.Mathlib.Omega.{arith}
use Rattle.std.proofs.lemmas.Result.{err_from_is_err_and}
use Rattle.tree_edit.proofs.Said.{says-refused, turned-refused, turned-done, turned-low}
use Rattle.tree_edit.proofs.Above.{index-stops, top-stops}
use Rattle.tree_edit.proofs.edits.raise.Goals as goal

pub absorb-requires : goal.absorb-requires
absorb-requires c = (c.requires.absorb, c.requires.low)

pub returns-in_err-above : goal.returns-in_err-above
returns-in_err-above c =
    let p = err_from_is_err_and c.from_residual.result c.from_residual.ensures.1 in
    rw (p.1, p.2) (says-refused _ (index-stops c.args.root c.args.way _ _ (turned-refused c.absorb.ensures _ c.in_err-above.was)))

pub returns-in_err-top : goal.returns-in_err-top
returns-in_err-top c =
    let p = err_from_is_err_and c.from_residual-in_err-top.result c.from_residual-in_err-top.ensures.1 in
    let above = turned-done c.absorb.ensures _ c.in_ok-above.was in
    rw (p.1, p.2) (says-refused _ (top-stops c.args.root c.args.way _ _ c.if-way-eq1.false _ above (turned-refused c.absorb-2.ensures _ c.in_err-top.was)))

pub root_step-requires : goal.root_step-requires
root_step-requires c =
    (c.requires.one_high c.if-way-eq1.true c.absorb.new.work c.in_ok-above.above (turned-done c.absorb.ensures _ c.in_ok-above.was), omega arith, omega arith, turned-low c.absorb.ensures _ c.in_ok-above.was)
