-- `put_under`: the leaf takes the record, and the pages above what stands for the leaf.
-- Assumes nothing.
use Rattle.std.proofs.lemmas.Result.{err_from_is_err_and}
use mathlib.Core.Path.{◌≡◌, ap, ◌∙◌}
use mathlib.Core.Bool.{Bool}
use Rattle.page.specs.Layout.{leaf_kind}
use Rattle.page.specs.PageFormat.{format1}
use Rattle.tree.specs.Edits.{no_keep, put}
use Rattle.tree_edit.specs.Steps.{state_of, filled_above, rec_by}
use Rattle.tree_edit.proofs.Places.{on-none, leaf-takes}
use Rattle.tree_edit.proofs.Above.{upward-stops, put-after, raises}
use Rattle.tree_edit.proofs.Said.{says-refused, turned-refused, turned-done, turned-low}
use Rattle.tree_edit.proofs.edits.put_under.Goals as goal
use Rattle.tree_edit.proofs.edits.put_under.Goals.{After-is_filled-full}

pub is_filled-full-requires : goal.is_filled-full-requires
is_filled-full-requires c = on-none c.requires.0

pub put_record-requires : goal.put_record-requires
put_record-requires c = (leaf-takes c.requires.0 _ _ c.requires.1, c.requires.2)

-- as the code tests the pages above
tested : (c : After-is_filled-full) → let a = c.args in
    put format1 no_keep leaf_kind c.is_filled-full.result a.new.ins a.new.at (rec_by a.new a.value.now) a.way.leaf.page (state_of a.before.now a.work.now a.t)
    ≡ put format1 no_keep leaf_kind (filled_above a.work.now a.t.root a.way) a.new.ins a.new.at (rec_by a.new a.value.now) a.way.leaf.page (state_of a.before.now a.work.now a.t)
tested c =
    let a = c.args in
    ap (λ (b : Bool). put format1 no_keep leaf_kind b a.new.ins a.new.at (rec_by a.new a.value.now) a.way.leaf.page (state_of a.before.now a.work.now a.t)) c.is_filled-full.ensures

pub raise-requires : goal.raise-requires
raise-requires c =
    raises c.requires.0 c.args.before.now c.put_record.new.work c.in_ok-below.below _ (turned-done c.put_record.ensures _ c.in_ok-below.was) (put-after c.requires.0 c.args.new c.args.value.now c.requires.1 _) (turned-low c.put_record.ensures _ c.in_ok-below.was)

pub returns-in_err-below : goal.returns-in_err-below
returns-in_err-below c =
    let p = err_from_is_err_and c.from_residual.result c.from_residual.ensures.1 in
    rw (p.1, p.2) (says-refused _ (upward-stops c.args.t.root c.args.way _ _ (turned-refused c.put_record.ensures _ c.in_err-below.was ∙ tested (goal.at.returns-in_err-below c).After-is_filled-full)))

pub returns : goal.returns
returns c =
    rw (turned-done c.put_record.ensures _ c.in_ok-below.was ∙ tested (goal.at.returns c).After-is_filled-full) at c.raise.ensures
