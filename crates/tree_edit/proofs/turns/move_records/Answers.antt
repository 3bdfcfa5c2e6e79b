-- `move_records`: copied, refused or split, as `moved` says.
-- Assumes nothing.
use native.Mathlib.Omega.{arith}
use Rattle.tree_edit.proofs.Said.{turns-is, turns_same}
use Rattle.tree_edit.proofs.Copied.{page-fits}
use Rattle.tree_edit.proofs.Moved.{one-fits, two-fit, moved-one, moved-full, moved-two}
use Rattle.tree_edit.proofs.turns.move_records.Goals as goal

pub laid_page-requires : goal.laid_page-requires
laid_page-requires c = (page-fits c.requires.0, c.requires.0.put.ok)

pub fits_one-requires : goal.fits_one-requires
fits_one-requires c = rw c.laid_page.ensures c.requires.0.put

pub copy_page-requires : goal.copy_page-requires
copy_page-requires c =
    record { can_take = c.requires; fits = one-fits c.requires.0 _ _ c.laid_page.ensures c.fits_one.ensures c.if-fits_one.true }

pub returns-then-fits_one : goal.returns-then-fits_one
returns-then-fits_one c =
    turns_same c.copy_page.ensures _ (moved-one c.requires.0 _ _ c.laid_page.ensures c.fits_one.ensures c.args.kind c.args.full c.if-fits_one.true)

pub returns-then-full : goal.returns-then-full
returns-then-full c =
    turns-is _ (moved-full c.requires.0 _ _ c.laid_page.ensures c.fits_one.ensures c.args.kind c.args.full c.if-fits_one.false c.if-full.true) (omega arith)

pub split_page-requires : goal.split_page-requires
split_page-requires c =
    record { can_take = c.requires; can_split = two-fit c.requires.0 _ _ c.laid_page.ensures c.fits_one.ensures c.if-fits_one.false }

pub returns : goal.returns
returns c =
    turns_same c.split_page.ensures _ (moved-two c.requires.0 _ _ c.laid_page.ensures c.fits_one.ensures c.args.kind c.args.full c.if-fits_one.false c.if-full.false)
