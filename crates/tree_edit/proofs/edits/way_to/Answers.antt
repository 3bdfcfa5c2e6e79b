-- `way_to`: the height, the index page, the leaf.
-- Assumes nothing.
use mathlib.Core.Path.{◌∙◌}
use Rattle.tree_edit.proofs.Places.{way-ok, index-root, index-under, way-is}
use Rattle.tree_edit.proofs.edits.way_to.Goals as goal
use Rattle.tree_edit.proofs.edits.way_to.Goals.{then-height-eq1, else-height-eq1}

pub height_of-height-requires : goal.height_of-height-requires
height_of-height-requires c = (way-ok c.requires c.args.key).names-root.fits

pub child_of-index-requires : goal.child_of-index-requires
child_of-index-requires c = (way-ok c.requires c.args.key).names-root

pub child_of-leaf-requires : goal.child_of-leaf-requires
child_of-leaf-requires c =
    let K = way-ok c.requires c.args.key in
    elim c.if-height-eq1.branch [
      | then-height-eq1 w ↦ rw w.index-is K.names-root
      | else-height-eq1 w ↦ rw (w.index-is ∙ w.child_of-index.ensures ∙ index-under _ _ _ _ c.height_of-height.ensures w.if-height-eq1.false) K.names-index
    ]

pub returns : goal.returns
returns c =
    elim c.if-height-eq1.branch [
      | then-height-eq1 w ↦ way-is _ _ _ _ c.height_of-height.ensures _ (w.index-is ∙ index-root _ _ _ _ c.height_of-height.ensures w.if-height-eq1.true) _ c.child_of-leaf.ensures
      | else-height-eq1 w ↦ way-is _ _ _ _ c.height_of-height.ensures _ (w.index-is ∙ w.child_of-index.ensures ∙ index-under _ _ _ _ c.height_of-height.ensures w.if-height-eq1.false) _ c.child_of-leaf.ensures
    ]
