-- `indexes_ok`: what is left to test of the index pages from the i-th on is the whole test.
-- Assumes nothing.
use Prim.Native.Nat.{ℕ, ◌<◌}
use mathlib.Core.Path.{◌≡◌, refl, sym, ap, ◌∙◌}
use mathlib.Core.Bool.{true, ◌&&◌}
use mathlib.Core.List.{[]}
use native.Mathlib.Omega.{arith}
use lib.ListN.{length}
use lib.Dec.{eqb}
use Rattle.codec.specs.Lists.{all_b}
use Rattle.page.specs.Layout.{rec_of}
use Rattle.page.specs.Page.{records}
use Rattle.image.specs.PageZero.{page_count, is_page}
use Rattle.image.specs.Image.{children, places, leaf_at}
use Rattle.image.proofs.Values.{page-fits}
use Rattle.image.proofs.CodeNode.{judged-laid, judged-records, judged-two, judged-child}
use Rattle.image.proofs.CodeTree.{leaves_at, checking-starts, checking-ends, checking-node, checking-not, checking-stop, checking-on}
use Rattle.image.proofs.tree.indexes_ok.Goals as goal
use Rattle.image.proofs.tree.indexes_ok.Goals.{After-sep_after-below, After-child_at, After-leaves_ok}

pub laid_page-page-requires : goal.laid_page-page-requires
laid_page-page-requires c =
    (page-fits _ _ c.requires.1, judged-laid _ _ c.requires.4.judged.0 _ refl)

pub loop-i-init : goal.loop-i-init
loop-i-init c =
    let a = c.args in
    checking-starts a.image.now a.root c.requires.1 c.requires.2 c.requires.3 a.marks.now c.requires.4 _ (judged-records a.image.now a.root c.requires.4.judged.0 _ c.laid_page-page.ensures)

less : (c : After-sep_after-below) → c.loop-i.i < length (records c.laid_page-page.result.bytes.now)
less c = omega (arith, c.count-indexes.ensures, c.loop-i-test.true)

pub child_at-requires : goal.child_at-requires
child_at-requires c =
    let a = c.args in
    let l = less (goal.at.child_at-requires c).After-sep_after-below in
    (l, judged-two a.image.now a.root c.requires.4.judged.0 _ c.laid_page-page.ensures c.loop-i.i (rec_of 0 []) l)

child-is : (c : After-child_at) → is_page (page_count c.args.image.now) c.child_at.result ≡ true
child-is c =
    let a = c.args in
    ap (is_page (page_count a.image.now)) c.child_at.ensures
    ∙ judged-child a.image.now a.root c.requires.4.judged.0 _ c.laid_page-page.ensures c.loop-i.i (rec_of 0 []) (omega (arith, c.count-indexes.ensures, c.loop-i-test.true))

pub node_ok-requires : goal.node_ok-requires
node_ok-requires c =
    (c.requires.0, child-is (goal.at.node_ok-requires c).After-child_at, omega arith, omega arith, c.loop-i.invariant.is.size)

pub returns-then-not-node_ok : goal.returns-then-not-node_ok
returns-then-not-node_ok c =
    sym (checking-not c.loop-i.invariant (rec_of 0 []) (less (goal.at.returns-then-not-node_ok c).After-sep_after-below) _ c.sep_after-below.ensures _ c.child_at.ensures c.node_ok.ensures c.if-not-node_ok.true)

pub leaves_ok-requires : goal.leaves_ok-requires
leaves_ok-requires c = (
  c.requires.0,
  child-is (goal.at.leaves_ok-requires c).After-child_at,
  checking-node c.loop-i.invariant (rec_of 0 []) (less (goal.at.leaves_ok-requires c).After-sep_after-below) _ c.sep_after-below.ensures _ c.child_at.ensures c.node_ok.ensures c.if-not-node_ok.false,
)

leaves-are : (c : After-leaves_ok) → leaves_at c.args.image.now (eqb (length (records c.laid_page-page.result.bytes.now)) 1) (record { page = c.child_at.result; from = c.loop-i.from; below = c.sep_after-below.result }) ≡ c.leaves_ok.result
leaves-are c =
    let img = c.args.image.now in
    let q = c.child_at.result in
    ap (λ (n : ℕ). all_b (leaf_at img (eqb n 1 && eqb (length (children img q)) 1)) (places c.loop-i.from (children img q) c.sep_after-below.result)) (sym c.count-indexes.ensures) ∙ sym c.leaves_ok.ensures

pub returns-then-not-leaves_ok : goal.returns-then-not-leaves_ok
returns-then-not-leaves_ok c =
    sym (checking-stop c.loop-i.invariant (rec_of 0 []) (less (goal.at.returns-then-not-leaves_ok c).After-sep_after-below) _ c.sep_after-below.ensures _ c.child_at.ensures c.node_ok.ensures c.if-not-node_ok.false
    (leaves-are (goal.at.returns-then-not-leaves_ok c).After-leaves_ok ∙ c.if-not-leaves_ok.true))

pub loop-i-preserved : goal.loop-i-preserved
loop-i-preserved c =
    checking-on c.loop-i.invariant (rec_of 0 []) (less (goal.at.loop-i-preserved c).After-sep_after-below) _ c.sep_after-below.ensures _ c.child_at.ensures c.node_ok.ensures c.if-not-node_ok.false
    (leaves-are (goal.at.loop-i-preserved c).After-leaves_ok ∙ c.if-not-leaves_ok.false)

pub returns : goal.returns
returns c = sym (checking-ends c.loop-i.invariant (omega (arith, c.count-indexes.ensures, c.loop-i-test.false)))
