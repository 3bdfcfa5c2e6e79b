-- `made_count`: an insert makes one more.
-- Assumes nothing.
use native.Mathlib.Omega.{arith}
use Rattle.page.proofs.Listed.{few-listed}
use Rattle.tree_edit.proofs.pages.made_count.Goals as goal

pub overflow_add-result : goal.overflow_add-result
overflow_add-result c = grind (arith, few-listed _ c.args.page.laid)
