-- `tree_ok` tests what it says: the root, then its leaves, or its index pages with theirs.
-- Assumes nothing.
use mathlib.Core.Path.{◌≡◌, sym, ◌∙◌}
use native.Mathlib.Omega.{arith}
use Rattle.image.specs.Image.{height_of}
use Rattle.image.proofs.Values.{page-fits}
use Rattle.image.proofs.Ways.{height-in}
use Rattle.image.proofs.CodeTree.{tree-no-index, tree-one}
use Rattle.image.proofs.tree.tree_ok.Goals as goal

pub returns-then-not-index_ok : goal.returns-then-not-index_ok
returns-then-not-index_ok c =
    sym (tree-no-index c.args.image.now c.args.root (sym c.index_ok.ensures.value ∙ c.if-not-index_ok.true))

pub height_of-requires : goal.height_of-requires
height_of-requires c = page-fits c.args.image.now c.args.root c.requires.1

pub returns : goal.returns
returns c =
    let a = c.args in
    let k = height-in a.image.now a.root in
    let h : height_of a.image.now a.root ≡ 1 = omega (arith, k.0, k.1, c.height_of.ensures, c.if-height_of-eq2.false) in
    c.leaves_ok.ensures ∙ sym (tree-one a.image.now a.root h c.requires.1 (sym c.index_ok.ensures.value ∙ c.if-not-index_ok.false))
