-- `is_only`: by the numbers of records.
-- Assumes nothing.
use Rattle.tree_edit.proofs.Places.{on-way, names-read}
use Rattle.tree_edit.proofs.edits.is_only.Goals as goal

pub laid_page-requires : goal.laid_page-requires
laid_page-requires c = names-read (on-way c.requires).names-root

pub laid_page-requires-then-count-eq1 : goal.laid_page-requires-then-count-eq1
laid_page-requires-then-count-eq1 c = names-read (on-way c.requires).names-index
