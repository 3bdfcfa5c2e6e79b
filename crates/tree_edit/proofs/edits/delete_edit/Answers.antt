-- `delete_edit`: refused where the key is missing, or else dropped.
-- Assumes nothing.
use Rattle.tree_edit.proofs.Said.{says-refused, says_same}
use Rattle.tree_edit.proofs.Places.{good_none, way-on, leaf-read}
use Rattle.tree_edit.proofs.Routed.{delete-there, delete-missing, found-less}
use Rattle.tree_edit.proofs.edits.delete_edit.Goals as goal

pub way_to-way-requires : goal.way_to-way-requires
way_to-way-requires c = good_none c.requires.0

pub laid_page-requires : goal.laid_page-requires
laid_page-requires c = leaf-read (way-on c.requires.0 _ _ c.way_to-way.ensures)

pub returns-in_default : goal.returns-in_default
returns-in_default c = says-refused _ (delete-missing c.requires.0 _ _ c.way_to-way.ensures _ c.laid_page.ensures _ c.find.ensures _ c.in_default.is)

pub drop_under-requires : goal.drop_under-requires
drop_under-requires c =
    (way-on c.requires.0 _ _ c.way_to-way.ensures, found-less c.requires.0 _ _ c.way_to-way.ensures _ c.laid_page.ensures _ c.find.ensures _ c.in-Ok.is, c.requires.1)

pub returns : goal.returns
returns c = says_same c.drop_under.ensures _ (delete-there c.requires.0 _ _ c.way_to-way.ensures _ c.laid_page.ensures _ c.find.ensures _ c.in-Ok.is)
