-- `in_leaf`: a leaf that is marked is sound, and one that is found so is marked.
-- Assumes nothing.
use mathlib.Core.Path.{sym, ◌∙◌}
use native.Mathlib.Omega.{arith}
use borrow.Author.Tests.{not-true, not-false}
use Rattle.preview.proofs.Judging.{leaf-page, leaf-test, marked-sound, came-fits, came-few, looked-marked, looked-judged, looked-bad, looked-none}
use Rattle.preview.proofs.keys.in_leaf.Goals as goal

pub returns-in_default : goal.returns-in_default
returns-in_default c = looked-none c.args.key c.in_default.ensures _ c.of.ensures

-- the leaf's page has a mark, and lies in the image
pub bounds-judged-own : goal.bounds-judged-own
bounds-judged-own c = omega (arith, came-few c.args.index.now.is_opened (c.in-Some.ensures c.requires.0 c.requires.1.named), c.requires.1.enough)

pub laid_page-requires : goal.laid_page-requires
laid_page-requires c =
    let came = c.in-Some.ensures c.requires.0 c.requires.1.named in
    (came-fits c.args.index.now.is_opened came, (leaf-page _ _ _ (marked-sound c.args.key c.requires.1 came c.if-judged-own-ne0.true)).laid)

pub in_page-requires : goal.in_page-requires
in_page-requires c =
    let came = c.in-Some.ensures c.requires.0 c.requires.1.named in
    rw c.laid_page.ensures (leaf-page _ _ _ (marked-sound c.args.key c.requires.1 came c.if-judged-own-ne0.true)).rise

pub returns-then-judged-own-ne0 : goal.returns-then-judged-own-ne0
returns-then-judged-own-ne0 c =
    let came = c.in-Some.ensures c.requires.0 c.requires.1.named in
    looked-marked c.args.key c.in-Some.ensures (marked-sound c.args.key c.requires.1 came c.if-judged-own-ne0.true) _ c.laid_page.ensures _ c.in_page.ensures

pub leaf_ok-requires : goal.leaf_ok-requires
leaf_ok-requires c = came-fits c.args.index.now.is_opened (c.in-Some.ensures c.requires.0 c.requires.1.named)

-- what the test of the leaf says
pub returns-then-not-leaf_ok : goal.returns-then-not-leaf_ok
returns-then-not-leaf_ok c =
    let leaf = c.in-Some.leaf in
    looked-bad c.args.key c.in-Some.ensures (sym (leaf-test c.args.index.now.image.now leaf.only leaf.place) ∙ sym c.leaf_ok.ensures ∙ not-true _ c.if-not-leaf_ok.true-raw) _ c.of-then-not-leaf_ok.ensures

pub bounds-judged-own-2 : goal.bounds-judged-own-2
bounds-judged-own-2 c = omega (arith, came-few c.args.index.now.is_opened (c.in-Some.ensures c.requires.0 c.requires.1.named), c.requires.1.enough)

pub laid_page-requires-2 : goal.laid_page-requires-2
laid_page-requires-2 c =
    let leaf = c.in-Some.leaf in
    let good = sym (leaf-test c.args.index.now.image.now leaf.only leaf.place) ∙ sym c.leaf_ok.ensures ∙ not-false _ c.if-not-leaf_ok.false-raw in
    (came-fits c.args.index.now.is_opened (c.in-Some.ensures c.requires.0 c.requires.1.named), (leaf-page _ _ _ good).laid)

pub in_page-requires-2 : goal.in_page-requires-2
in_page-requires-2 c =
    let leaf = c.in-Some.leaf in
    let good = sym (leaf-test c.args.index.now.image.now leaf.only leaf.place) ∙ sym c.leaf_ok.ensures ∙ not-false _ c.if-not-leaf_ok.false-raw in
    rw c.laid_page-2.ensures (leaf-page _ _ _ good).rise

pub returns : goal.returns
returns c =
    let leaf = c.in-Some.leaf in
    let good = sym (leaf-test c.args.index.now.image.now leaf.only leaf.place) ∙ sym c.leaf_ok.ensures ∙ not-false _ c.if-not-leaf_ok.false-raw in
    looked-judged c.args.key c.in-Some.ensures good _ c.laid_page-2.ensures _ c.in_page-2.ensures
