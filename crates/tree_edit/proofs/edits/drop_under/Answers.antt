-- `drop_under`: the leaf loses the record, and the pages above take what stands for the leaf.
-- Assumes nothing.
use mathlib.Core.Path.{◌≡◌, ap, ◌∙◌}
use mathlib.Core.Bool.{Bool}
use Rattle.page.specs.PageFormat.{format1}
use Rattle.tree.specs.Edits.{dropped}
use Rattle.tree_edit.specs.Steps.{state_of, turn_of, only_below}
use Rattle.tree_edit.proofs.Places.{on-none, leaf-read}
use Rattle.tree_edit.proofs.Above.{drop-after, raises}
use Rattle.tree_edit.proofs.edits.drop_under.Goals as goal
use Rattle.tree_edit.proofs.edits.drop_under.Goals.{After-drop_record-below}

pub is_only-only-requires : goal.is_only-only-requires
is_only-only-requires c = on-none c.requires.0

pub drop_record-below-requires : goal.drop_record-below-requires
drop_record-below-requires c = let r = leaf-read c.requires.0 in (r.0, r.1, c.requires.1, c.requires.2)

-- what stands for the leaf is what the definition says
turned : (c : After-drop_record-below) → let a = c.args in
    turn_of a.before.now c.drop_record-below.new.work a.t.root c.drop_record-below.result
    ≡ dropped format1 (only_below a.work.now a.t.root a.way) a.j a.way.leaf.page (state_of a.before.now a.work.now a.t)
turned c =
    let a = c.args in
    (c.drop_record-below.ensures a.before.now).same
    ∙ ap (λ (b : Bool). dropped format1 b a.j a.way.leaf.page (state_of a.before.now a.work.now a.t)) c.is_only-only.ensures

pub raise-requires : goal.raise-requires
raise-requires c =
    raises c.requires.0 c.args.before.now c.drop_record-below.new.work c.drop_record-below.result _ (turned (goal.at.raise-requires c).After-drop_record-below) (drop-after c.requires.0 c.args.j c.requires.1 _) (c.drop_record-below.ensures c.args.before.now).low
