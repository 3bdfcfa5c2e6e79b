-- `with_named`: what is left of the pages that are named, behind those that are put, is the whole.
-- Assumes nothing.
use Prim.Native.Nat.{ℕ, ◌+◌, ◌<◌, ◌≤◌}
use mathlib.Core.Path.{◌≡◌, refl, ap, ◌∙◌}
use mathlib.Core.List.{List, [], ◌++◌, map}
use native.Mathlib.Omega.{arith}
use lib.ListN.{length, take, length-map, length-set}
use Rattle.page.specs.Layout.{rec_of}
use Rattle.page.specs.Page.{records}
use Rattle.image.specs.PageZero.{page_count, is_page}
use Rattle.image.specs.Image.{child_of, children, joined, itself}
use Rattle.image.proofs.Zero.{size-true, is_page-true}
use Rattle.image.proofs.Values.{page-fits}
use Rattle.image.proofs.CodeNode.{judged-laid, judged-records, judged-two, judged-child}
use Rattle.image.proofs.CodeTree.{joined-itself, one-more, putting-starts, putting-ends, putting-room, putting-on}
use Rattle.image.proofs.tree.with_named.Goals as goal
use Rattle.image.proofs.tree.with_named.Goals.{In-loop-i, After-child_at, After-laid_page-page}

pub laid_page-page-requires : goal.laid_page-page-requires
laid_page-page-requires c =
    (page-fits _ _ c.requires.1, judged-laid _ _ c.requires.2 _ refl)

listed : (c : After-laid_page-page) → records c.laid_page-page.result.bytes.now ≡ children c.args.image.now c.args.q
listed c = judged-records c.args.image.now c.args.q c.requires.2 _ c.laid_page-page.ensures

less : (c : In-loop-i) → c.loop-i.i < length (records c.laid_page-page.result.bytes.now)
less c = omega (arith, c.count-i-end.ensures, c.loop-i-test.true)

pub loop-i-init : goal.loop-i-init
loop-i-init c = putting-starts itself c.args.before _ c.requires.4

pub child_at-requires : goal.child_at-requires
child_at-requires c =
    let l = less (goal.at.child_at-requires c).In-loop-i in
    (l, judged-two c.args.image.now c.args.q c.requires.2 _ c.laid_page-page.ensures c.loop-i.i (rec_of 0 []) l)

-- a page number is below 64
pub overflow_cast-leaves : goal.overflow_cast-leaves
overflow_cast-leaves c =
    let a = c.args in
    let z = size-true (length a.image.now) c.requires.0 in
    let p = is_page-true (page_count a.image.now) c.child_at.result
    (ap (is_page (page_count a.image.now)) c.child_at.ensures
    ∙ judged-child a.image.now a.q c.requires.2 _ c.laid_page-page.ensures c.loop-i.i (rec_of 0 []) (less (goal.at.overflow_cast-leaves c).In-loop-i)) in
    omega (arith, z.high, p.1)

named-long : (c : After-laid_page-page) → length (joined itself (records c.laid_page-page.result.bytes.now)) ≡ length (children c.args.image.now c.args.q)
named-long c = ap length (joined-itself (records c.laid_page-page.result.bytes.now)) ∙ length-map (records c.laid_page-page.result.bytes.now) child_of ∙ ap length (listed c)

room : (c : After-laid_page-page) → c.args.before.count + length (joined itself (records c.laid_page-page.result.bytes.now)) ≤ 64
room c = omega (arith, c.requires.3, named-long c)

pub bounds-leaves-leaves : goal.bounds-leaves-leaves
bounds-leaves-leaves c =
    let r = putting-room itself c.loop-i.invariant (rec_of 0 []) (less (goal.at.bounds-leaves-leaves c).In-loop-i) _ c.child_at.ensures (room (goal.at.bounds-leaves-leaves c).After-laid_page-page) in
    omega (arith, r)

pub overflow_add-leaves : goal.overflow_add-leaves
overflow_add-leaves c =
    let r = putting-room itself c.loop-i.invariant (rec_of 0 []) (less (goal.at.overflow_add-leaves c).In-loop-i) _ c.child_at.ensures (room (goal.at.overflow_add-leaves c).After-laid_page-page) in
    omega (arith, r)

pub loop-i-preserved : goal.loop-i-preserved
loop-i-preserved c =
    let l = less (goal.at.loop-i-preserved c).In-loop-i in
    let leaves = c.loop-i.leaves in
    let q = c.child_at.result in
    let r = putting-room itself c.loop-i.invariant (rec_of 0 []) l q c.child_at.ensures (room (goal.at.loop-i-preserved c).After-laid_page-page) in
    putting-on itself c.loop-i.invariant (rec_of 0 []) l q c.child_at.ensures _ (length-set leaves.pages leaves.count q ∙ c.loop-i.invariant.long) refl
    (one-more leaves.pages leaves.count q (omega (arith, r, c.loop-i.invariant.long)))

pub returns-clause-count : goal.returns-clause-count
returns-clause-count c =
    let e = putting-ends itself c.loop-i.invariant (omega (arith, c.count-i-end.ensures, c.loop-i-test.false)) in
    e.0 ∙ ap (λ (n : ℕ). c.args.before.count + n) (named-long (goal.at.returns-clause-count c).After-laid_page-page)

pub returns-clause-pages : goal.returns-clause-pages
returns-clause-pages c =
    let e = putting-ends itself c.loop-i.invariant (omega (arith, c.count-i-end.ensures, c.loop-i-test.false)) in
    let cs = records c.laid_page-page.result.bytes.now in
    let names : joined itself cs ≡ map child_of (children c.args.image.now c.args.q) = joined-itself cs ∙ ap (map child_of) (listed (goal.at.returns-clause-pages c).After-laid_page-page) in
    e.1 ∙ ap (λ (l : List ℕ). take c.args.before.count c.args.before.pages ++ l) names

pub returns-clause-size : goal.returns-clause-size
returns-clause-size c = c.loop-i.invariant.long
