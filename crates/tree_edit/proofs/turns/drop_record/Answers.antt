-- `drop_record`: the page stays, or goes, as `dropped` says.
-- Assumes nothing.
use native.Mathlib.Omega.{arith}
use Rattle.tree_edit.proofs.Said.{turns-is}
use Rattle.tree_edit.proofs.Dropped.{drop-only, left-ok, drop-goes, drop-stays}
use Rattle.tree_edit.proofs.turns.drop_record.Goals as goal

pub returns-then-only : goal.returns-then-only
returns-then-only c =
    λ marks. turns-is _ (drop-only c.args.work.now c.args.page c.args.j c.requires.0 c.requires.1 _ c.delete_at.ensures c.args.only c.if-only.true _ _) c.requires.3

pub laid_page-requires : goal.laid_page-requires
laid_page-requires c =
    (omega (arith, c.requires.0, c.delete_at.auto.work), left-ok c.args.work.now c.args.page c.args.j c.requires.0 c.requires.1 _ c.delete_at.ensures)

pub returns-then-count-eq0 : goal.returns-then-count-eq0
returns-then-count-eq0 c =
    λ marks. turns-is _ (drop-goes c.args.work.now c.args.page c.args.j c.requires.0 c.requires.1 _ c.delete_at.ensures _ c.laid_page.ensures _ c.count.ensures c.args.only c.if-only.false _ _ c.if-count-eq0.true) c.requires.3

pub returns : goal.returns
returns c =
    λ marks. turns-is _ (drop-stays c.args.work.now c.args.page c.args.j c.requires.0 c.requires.1 _ c.delete_at.ensures _ c.laid_page.ensures _ c.count.ensures c.args.only c.if-only.false _ _ c.if-count-eq0.false) c.requires.3
