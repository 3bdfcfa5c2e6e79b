-- `copy_page`: no page, or the records copied to one, as `copied` says.
-- Assumes nothing.
use native.Mathlib.Omega.{arith}
use Rattle.tree_edit.proofs.Said.{turns-is}
use Rattle.tree_edit.proofs.Copied.{page-fits, copied_none, copy-fits, copy-fill, copied_is}
use Rattle.tree_edit.proofs.turns.copy_page.Goals as goal

pub returns-in_default : goal.returns-in_default
returns-in_default c =
    turns-is _ (copied_none c.requires.can_take.0 c.args.kind c.in_default.ensures) (omega arith)

pub laid_page-requires : goal.laid_page-requires
laid_page-requires c = (page-fits c.requires.can_take.0, c.requires.can_take.0.put.ok)

pub copy_made-requires : goal.copy_made-requires
copy_made-requires c =
    record { page_size_in_bounds = (page-fits c.requires.can_take.0, copy-fits c.requires.can_take.0 c.args.kind _ _ c.in-Some.ensures.0); can_fill = copy-fill c.requires.can_take.0 c.args.kind _ _ c.in-Some.ensures.0 _ c.laid_page.ensures _ c.made_count-n.ensures c.requires.fits }

pub returns : goal.returns
returns c =
    turns-is _ (copied_is c.requires.can_take.0 c.args.kind _ _ c.in-Some.ensures.0 _ c.laid_page.ensures _ c.made_count-n.ensures _ c.copy_made.ensures) (omega (arith, c.in-Some.ensures.1, c.requires.can_take.1))
