-- `is_filled`: by the height and the numbers of records.
-- Assumes nothing.
use Rattle.tree_edit.proofs.Places.{on-way, names-read}
use Rattle.tree_edit.proofs.edits.is_filled.Goals as goal

pub laid_page-requires : goal.laid_page-requires
laid_page-requires c = names-read (on-way c.requires).names-root

pub laid_page-requires-then-count-ge28 : goal.laid_page-requires-then-count-ge28
laid_page-requires-then-count-ge28 c = names-read (on-way c.requires).names-index
