-- `update_edit`: refused where the key is missing, or else put in place of its record.
-- Assumes nothing.
use Rattle.tree_edit.proofs.Said.{says-refused, says_same}
use Rattle.tree_edit.proofs.Places.{good_none, way-on, leaf-read}
use Rattle.tree_edit.proofs.Routed.{update-there, update-missing, can-update}
use Rattle.tree_edit.proofs.edits.update_edit.Goals as goal

pub way_to-way-requires : goal.way_to-way-requires
way_to-way-requires c = good_none c.requires.0

pub laid_page-requires : goal.laid_page-requires
laid_page-requires c = leaf-read (way-on c.requires.0 _ _ c.way_to-way.ensures)

pub returns-in_default : goal.returns-in_default
returns-in_default c = says-refused _ (update-missing c.requires.0 _ _ c.way_to-way.ensures _ c.laid_page.ensures _ c.find.ensures _ c.in_default.is c.args.value.now)

pub put_under-requires : goal.put_under-requires
put_under-requires c =
    (way-on c.requires.0 _ _ c.way_to-way.ensures, can-update c.requires.0 _ _ c.way_to-way.ensures _ c.laid_page.ensures _ c.find.ensures _ c.requires.2.high c.requires.2.short _ c.in-Ok.is, c.requires.1)

pub returns : goal.returns
returns c = says_same c.put_under.ensures _ (update-there c.requires.0 _ _ c.way_to-way.ensures _ c.laid_page.ensures _ c.find.ensures _ c.in-Ok.is c.args.value.now)
