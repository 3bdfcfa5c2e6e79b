-- `put_record`: in place where there is room, or else moved, as `put` says.
-- Assumes nothing.
use Rattle.tree_edit.proofs.Said.{turns-is, turns_same}
use Rattle.tree_edit.proofs.Copied.{page-fits}
use Rattle.tree_edit.proofs.Moved.{put-room, put-moved, put-placed}
use Rattle.tree_edit.proofs.turns.put_record.Goals as goal

pub laid_page-requires : goal.laid_page-requires
laid_page-requires c = (page-fits c.requires.0, c.requires.0.put.ok)

pub returns-then-is_full : goal.returns-then-is_full
returns-then-is_full c =
    turns_same c.move_records.ensures _ (put-moved c.requires.0 _ _ c.laid_page.ensures _ c.size_of.ensures c.is_full.ensures c.args.kind c.args.full c.if-is_full.true)

pub put_in_place-requires : goal.put_in_place-requires
put_in_place-requires c =
    record { page_size_in_bounds = (page-fits c.requires.0, c.requires.0.put); p_value = put-room c.requires.0 _ _ c.laid_page.ensures _ c.size_of.ensures c.is_full.ensures c.if-is_full.false }

pub returns : goal.returns
returns c =
    turns-is _ (put-placed c.requires.0 _ _ c.laid_page.ensures _ c.size_of.ensures c.is_full.ensures c.args.kind c.args.full c.if-is_full.false _ c.put_in_place.ensures) c.requires.1
