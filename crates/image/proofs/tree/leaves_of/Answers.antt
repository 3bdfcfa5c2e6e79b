-- `leaves_of`: the pages that the root names, or those that its index pages name, one after the other.
-- Assumes nothing.
use Prim.Native.Nat.{ℕ, ◌+◌, ◌<◌, ◌≤◌}
use mathlib.Core.Path.{◌≡◌, refl, sym, ap, ◌∙◌}
use mathlib.Core.List.{[]}
use native.Mathlib.Omega.{arith}
use lib.ListN.{length, length-map}
use Rattle.page.specs.Layout.{rec_of}
use Rattle.page.specs.Page.{records}
use Rattle.page.specs.PageFormat.{format1}
use Rattle.image.specs.PageZero.{page_count, is_page}
use Rattle.image.specs.Image.{child_of, children, names_of, joined, leaves_in, height_of}
use Rattle.image.specs.Facts.{TreeIn}
use Rattle.image.specs.Marks.{Judged}
use Rattle.image.proofs.Zero.{size-true}
use Rattle.image.proofs.Values.{page-fits}
use Rattle.image.proofs.Soundness.{tree-facts}
use Rattle.image.proofs.Ways.{height-in}
use Rattle.image.proofs.CodeNode.{judged-laid, judged-records, judged-two, judged-child}
use Rattle.image.proofs.CodeTree.{leaves-named, tree-page, tree-judged, leaves-few, leaves-two, index-at, putting-ends, putting-room, putting-on}
use Rattle.image.proofs.tree.leaves_of.Goals as goal
use Rattle.image.proofs.tree.leaves_of.Goals.{After-height_of, Then-height_of-eq1, Else-height_of-eq1, After-laid_page-page, In-loop-i, After-child_at, After-loop-i}

tree : (c : After-height_of) → TreeIn format1 c.args.image.now (height_of c.args.image.now c.args.root) c.args.root
tree c = tree-facts c.args.image.now c.args.root c.requires.1

few : (c : After-height_of) → length (leaves_in format1 c.args.image.now (height_of c.args.image.now c.args.root) c.args.root) ≤ 64
few c = leaves-few c.args.image.now c.args.root (tree c) (omega (arith, (size-true (length c.args.image.now) c.requires.0).high))

pub height_of-requires : goal.height_of-requires
height_of-requires c =
    let a = c.args in
    page-fits a.image.now a.root (tree-page a.image.now a.root (tree-facts a.image.now a.root c.requires.1))

-- ---- one height

one : (c : Then-height_of-eq1) → leaves_in format1 c.args.image.now (height_of c.args.image.now c.args.root) c.args.root ≡ names_of c.args.image.now c.args.root
one c =
    let a = c.args in
    ap (λ (h : ℕ). leaves_in format1 a.image.now h a.root) (sym c.height_of.ensures ∙ c.if-height_of-eq1.true) ∙ leaves-named a.image.now a.root

long : (c : Then-height_of-eq1) → length (leaves_in format1 c.args.image.now (height_of c.args.image.now c.args.root) c.args.root) ≡ length (children c.args.image.now c.args.root)
long c = ap length (one c) ∙ length-map (children c.args.image.now c.args.root) child_of

pub with_named-requires : goal.with_named-requires
with_named-requires c =
    let a = c.args in
    let t = tree (goal.at.with_named-requires c).After-height_of in
    (c.requires.0, tree-page a.image.now a.root t, tree-judged a.image.now a.root t, omega (arith, few (goal.at.with_named-requires c).After-height_of, long c), refl)

pub returns-then-height_of-eq1-clause-count : goal.returns-then-height_of-eq1-clause-count
returns-then-height_of-eq1-clause-count c =
    omega (arith, c.with_named.ensures.count, long (goal.at.returns-then-height_of-eq1-clause-count c).Then-height_of-eq1)

pub returns-then-height_of-eq1-clause-pages : goal.returns-then-height_of-eq1-clause-pages
returns-then-height_of-eq1-clause-pages c =
    c.with_named.ensures.pages ∙ sym (one (goal.at.returns-then-height_of-eq1-clause-pages c).Then-height_of-eq1)

-- ---- two

height-two : (c : Else-height_of-eq1) → height_of c.args.image.now c.args.root ≡ 2
height-two c =
    let k = height-in c.args.image.now c.args.root in
    omega (arith, k.0, k.1, c.height_of.ensures, c.if-height_of-eq1.false)

root-judged : (c : Else-height_of-eq1) → Judged c.args.image.now c.args.root
root-judged c = let a = c.args in tree-judged a.image.now a.root (tree-facts a.image.now a.root c.requires.1)

pub laid_page-page-requires : goal.laid_page-page-requires
laid_page-page-requires c =
    let a = c.args in
    (page-fits a.image.now a.root (tree-page a.image.now a.root (tree-facts a.image.now a.root c.requires.1)), judged-laid _ _ (root-judged c) _ refl)

listed : (c : After-laid_page-page) → records c.laid_page-page.result.bytes.now ≡ children c.args.image.now c.args.root
listed c =
    let a = c.args in
    judged-records a.image.now a.root (tree-judged a.image.now a.root (tree-facts a.image.now a.root c.requires.1)) _ c.laid_page-page.ensures

leaves-are : (c : After-laid_page-page) → joined (λ y. names_of c.args.image.now y) (records c.laid_page-page.result.bytes.now) ≡ leaves_in format1 c.args.image.now (height_of c.args.image.now c.args.root) c.args.root
leaves-are c =
    let a = c.args in
    let k = height-in a.image.now a.root in
    let h : height_of a.image.now a.root ≡ 2 = omega (arith, k.0, k.1, c.height_of.ensures, c.if-height_of-eq1.false) in
    ap (joined (λ y. names_of a.image.now y)) (listed c) ∙ sym (leaves-two a.image.now a.root h)

less : (c : In-loop-i) → c.loop-i.i < length (records c.laid_page-page.result.bytes.now)
less c = omega (arith, c.count-i-end.ensures, c.loop-i-test.true)

pub child_at-requires : goal.child_at-requires
child_at-requires c =
    let a = c.args in
    let l = less (goal.at.child_at-requires c).In-loop-i in
    (l, judged-two a.image.now a.root (root-judged (goal.at.child_at-requires c).Else-height_of-eq1) _ c.laid_page-page.ensures c.loop-i.i (rec_of 0 []) l)

all-few : (c : After-laid_page-page) → 0 + length (joined (λ y. names_of c.args.image.now y) (records c.laid_page-page.result.bytes.now)) ≤ 64
all-few c =
    let a = c.args in
    let z = size-true (length a.image.now) c.requires.0 in
    let f = leaves-few a.image.now a.root (tree-facts a.image.now a.root c.requires.1) (omega (arith, z.high)) in
    omega (arith, f, ap length (leaves-are c))

pub with_named-leaves-requires : goal.with_named-leaves-requires
with_named-leaves-requires c =
    let a = c.args in
    let t = tree-facts a.image.now a.root c.requires.1 in
    let h = height-two (goal.at.with_named-leaves-requires c).Else-height_of-eq1 in
    let l = less (goal.at.with_named-leaves-requires c).In-loop-i in
    let q = c.child_at.result in
    let r = putting-room (λ y. names_of a.image.now y) c.loop-i.invariant (rec_of 0 []) l q c.child_at.ensures (all-few (goal.at.with_named-leaves-requires c).After-laid_page-page) in (
      c.requires.0,
      ap (is_page (page_count a.image.now)) c.child_at.ensures
          ∙ judged-child a.image.now a.root (root-judged (goal.at.with_named-leaves-requires c).Else-height_of-eq1) _ c.laid_page-page.ensures c.loop-i.i (rec_of 0 []) l,
      index-at a.image.now a.root h t (records c.laid_page-page.result.bytes.now) (listed (goal.at.with_named-leaves-requires c).After-laid_page-page) c.loop-i.i (rec_of 0 []) l q c.child_at.ensures,
      omega (arith, r, length-map (children a.image.now q) child_of),
      c.loop-i.invariant.long,
    )

pub loop-i-preserved : goal.loop-i-preserved
loop-i-preserved c =
    let a = c.args in
    let q = c.child_at.result in
    putting-on (λ y. names_of a.image.now y) c.loop-i.invariant (rec_of 0 []) (less (goal.at.loop-i-preserved c).In-loop-i) q c.child_at.ensures c.with_named-leaves.result c.with_named-leaves.ensures.size
    (omega (arith, c.with_named-leaves.ensures.count, length-map (children a.image.now q) child_of)) c.with_named-leaves.ensures.pages

pub returns-clause-count : goal.returns-clause-count
returns-clause-count c =
    let e = putting-ends (λ y. names_of c.args.image.now y) c.loop-i.invariant (omega (arith, c.count-i-end.ensures, c.loop-i-test.false)) in
    omega (arith, e.0, ap length (leaves-are (goal.at.returns-clause-count c).After-laid_page-page))

pub returns-clause-pages : goal.returns-clause-pages
returns-clause-pages c =
    let e = putting-ends (λ y. names_of c.args.image.now y) c.loop-i.invariant (omega (arith, c.count-i-end.ensures, c.loop-i-test.false)) in
    e.1 ∙ leaves-are (goal.at.returns-clause-pages c).After-laid_page-page
