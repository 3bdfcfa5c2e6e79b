-- `entry_value`: two bytes.
-- Assumes nothing.
use Rattle.tree_edit.proofs.Absorbed.{value-is}
use Rattle.tree_edit.proofs.pages.entry_value.Goals as goal

pub returns : goal.returns
returns c = value-is _ _ c.put_number.ensures
