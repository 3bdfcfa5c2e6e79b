-- `insert_edit`: refused where the key is there, or else put in its place.
-- Assumes nothing.
use Rattle.tree_edit.proofs.Said.{says-refused, says_same}
use Rattle.tree_edit.proofs.Places.{good_none, way-on, leaf-read}
use Rattle.tree_edit.proofs.Routed.{insert-present, insert-missing, can-insert}
use Rattle.tree_edit.proofs.edits.insert_edit.Goals as goal

pub way_to-way-requires : goal.way_to-way-requires
way_to-way-requires c = good_none c.requires.0

pub laid_page-requires : goal.laid_page-requires
laid_page-requires c = leaf-read (way-on c.requires.0 _ _ c.way_to-way.ensures)

pub put_under-requires : goal.put_under-requires
put_under-requires c =
    (way-on c.requires.0 _ _ c.way_to-way.ensures, can-insert c.requires.0 _ _ c.way_to-way.ensures _ c.laid_page.ensures _ c.find.ensures _ c.requires.2.high c.requires.2.short _ c.in-Err.is, c.requires.1)

pub returns-in-Ok : goal.returns-in-Ok
returns-in-Ok c = says-refused _ (insert-present c.requires.0 _ _ c.way_to-way.ensures _ c.laid_page.ensures _ c.find.ensures _ c.in-Ok.is c.args.value.now)

pub returns-in-Err : goal.returns-in-Err
returns-in-Err c = says_same c.put_under.ensures _ (insert-missing c.requires.0 _ _ c.way_to-way.ensures _ c.laid_page.ensures _ c.find.ensures _ c.in-Err.is c.args.value.now)
