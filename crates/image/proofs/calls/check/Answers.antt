-- `check`: page 0, and then the index and every leaf.
-- Assumes nothing.
use Rattle.std.proofs.lemmas.Result.{err_from_is_err_and}
use Rattle.std.specs.Prelude.{Err}
use mathlib.Core.Path.{sym, ap, ◌∙◌}
use borrow.Author.Tests.{not-true, not-false}
use Rattle.image.specs.Calls.{check_from, check_call}
use Rattle.image.proofs.Read.{root-facts}
use Rattle.image.proofs.calls.check.Goals as goal

pub tree_ok-requires : goal.tree_ok-requires
tree_ok-requires c = root-facts _ _ (sym c.root_in.ensures ∙ c.in_ok-root.was)

pub returns-then-not-tree_ok : goal.returns-then-not-tree_ok
unfolding check_call check_from
returns-then-not-tree_ok c = ap Err c.of.ensures ∙ rw (sym c.root_in.ensures ∙ c.in_ok-root.was, sym c.tree_ok.ensures ∙ not-true _ c.if-not-tree_ok.true-raw)

pub returns-in_err-root : goal.returns-in_err-root
unfolding check_call check_from
returns-in_err-root c =
    let p = err_from_is_err_and c.from_residual.result c.from_residual.ensures.1 in
    rw (p.1, p.2, sym c.root_in.ensures ∙ c.in_err-root.was)

pub returns : goal.returns
unfolding check_call check_from
returns c = rw (sym c.root_in.ensures ∙ c.in_ok-root.was, sym c.tree_ok.ensures ∙ not-false _ c.if-not-tree_ok.false-raw)
