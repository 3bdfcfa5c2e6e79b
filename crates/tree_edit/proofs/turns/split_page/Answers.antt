-- `split_page`: too few pages, or the records split over two, as `split` says.
-- Assumes nothing.
use native.Mathlib.Omega.{arith}
use Rattle.tree_edit.proofs.Said.{turns-is}
use Rattle.tree_edit.proofs.Copied.{page-fits}
use Rattle.tree_edit.proofs.Halved.{split-none, split-short, left-fits, left-fill, old-fits, right-fits, right-fill, key-read, key-some, split-is}
use Rattle.tree_edit.proofs.turns.split_page.Goals as goal

pub returns-in_default : goal.returns-in_default
returns-in_default c =
    turns-is _ (split-none c.requires.can_take.0 c.args.kind c.in_default.ensures) (omega arith)

pub returns-in_default-free_below : goal.returns-in_default-free_below
returns-in_default-free_below c =
    turns-is _ (split-short c.requires.can_take.0 c.args.kind _ _ c.in-Some.ensures.0 c.in_default-free_below.ensures) (omega arith)

pub laid_page-old-requires : goal.laid_page-old-requires
laid_page-old-requires c = (page-fits c.requires.can_take.0, c.requires.can_take.0.put.ok)

pub split_point-m-requires : goal.split_point-m-requires
split_point-m-requires c = rw c.laid_page-old.ensures c.requires.can_take.0.put

pub copy_made-requires : goal.copy_made-requires
copy_made-requires c =
    record { page_size_in_bounds = (page-fits c.requires.can_take.0, left-fits c.requires.can_take.0 c.args.kind _ _ c.in-Some.ensures.0 _ _ c.in-Some-free_below.ensures.0 c.requires.can_split (omega (arith, c.ranges.kind)) _ c.laid_page-old.ensures _ c.split_point-m.ensures); can_fill = left-fill c.requires.can_take.0 c.args.kind _ _ c.in-Some.ensures.0 _ _ c.in-Some-free_below.ensures.0 c.requires.can_split (omega (arith, c.ranges.kind)) _ c.laid_page-old.ensures _ c.split_point-m.ensures }

pub copy_made-requires-2 : goal.copy_made-requires-2
copy_made-requires-2 c =
    record { page_size_in_bounds = (old-fits c.requires.can_take.0 c.args.kind _ _ c.in-Some.ensures.0 _ _ c.in-Some-free_below.ensures.0 c.requires.can_split (omega (arith, c.ranges.kind)) _ c.laid_page-old.ensures _ c.split_point-m.ensures _ c.copy_made.ensures _ c.made_count-n.ensures, right-fits c.requires.can_take.0 c.args.kind _ _ c.in-Some.ensures.0 _ _ c.in-Some-free_below.ensures.0 c.requires.can_split (omega (arith, c.ranges.kind)) _ c.laid_page-old.ensures _ c.split_point-m.ensures _ c.copy_made.ensures _ c.made_count-n.ensures); can_fill = right-fill c.requires.can_take.0 c.args.kind _ _ c.in-Some.ensures.0 _ _ c.in-Some-free_below.ensures.0 c.requires.can_split (omega (arith, c.ranges.kind)) _ c.laid_page-old.ensures _ c.split_point-m.ensures _ c.copy_made.ensures _ c.made_count-n.ensures }

pub laid_page-requires : goal.laid_page-requires
laid_page-requires c =
    key-read c.requires.can_take.0 c.args.kind _ _ c.in-Some.ensures.0 _ _ c.in-Some-free_below.ensures.0 c.requires.can_split (omega (arith, c.ranges.kind)) _ c.laid_page-old.ensures _ c.split_point-m.ensures _ c.copy_made.ensures _ c.made_count-n.ensures _ c.copy_made-2.ensures

pub key_at-sep-requires : goal.key_at-sep-requires
key_at-sep-requires c =
    key-some c.requires.can_take.0 c.args.kind _ _ c.in-Some.ensures.0 _ _ c.in-Some-free_below.ensures.0 c.requires.can_split (omega (arith, c.ranges.kind)) _ c.laid_page-old.ensures _ c.split_point-m.ensures _ c.copy_made.ensures _ c.made_count-n.ensures _ c.copy_made-2.ensures _ c.laid_page.ensures

pub returns : goal.returns
returns c =
    turns-is _ (split-is c.requires.can_take.0 c.args.kind _ _ c.in-Some.ensures.0 _ _ c.in-Some-free_below.ensures.0 c.requires.can_split (omega (arith, c.ranges.kind)) _ c.laid_page-old.ensures _ c.split_point-m.ensures _ c.copy_made.ensures _ c.made_count-n.ensures _ c.copy_made-2.ensures _ c.laid_page.ensures _ c.key_at-sep.ensures) (omega (arith, c.in-Some.ensures.1, c.in-Some-free_below.ensures.1, c.requires.can_take.1))
