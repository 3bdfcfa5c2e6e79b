-- `node_ok`: the page within its range, and then the marks for the pages that it names.
-- Assumes nothing.
use Prim.Native.Nat.{ℕ, suc, ◌+◌, ◌≤◌}
use mathlib.Core.Path.{◌≡◌, sym, ap, ◌∙◌}
use mathlib.Core.Bool.{true, false}
use mathlib.Core.List.{List, map}
use native.Mathlib.Omega.{arith}
use lib.ListN.{length}
use Rattle.page.specs.Page.{records, page_ok}
use Rattle.page.specs.PageFormat.{format1}
use Rattle.page.specs.Operations.{page_of}
use Rattle.page.proofs.Facts.{page_ok-true}
use Rattle.image.specs.PageZero.{page_count}
use Rattle.image.specs.Image.{child_of, children, bound_ok, names_of}
use Rattle.image.specs.Marks.{claims, claimed}
use Rattle.image.proofs.Zero.{size-true}
use Rattle.image.proofs.Values.{page-fits}
use Rattle.image.proofs.CodeNode.{node-unbound, node-claims, bound-page, page-entries}
use Rattle.image.proofs.node.node_ok.Goals as goal
use Rattle.image.proofs.node.node_ok.Goals.{Else-not-bound_ok}

pub bound_ok-requires : goal.bound_ok-requires
bound_ok-requires c = page-fits c.args.image.now c.args.at.page c.requires.1

bound-is : (c : Else-not-bound_ok) → let a = c.args in bound_ok format1 (suc a.height) false a.at.from a.at.below a.at.page (page_of a.image.now a.at.page) ≡ true
bound-is c =
    let a = c.args in
    let e : suc a.height ≡ a.height + 1 = omega arith in
    ap (λ (k : ℕ). bound_ok format1 k false a.at.from a.at.below a.at.page (page_of a.image.now a.at.page)) e ∙ sym c.bound_ok.ensures ∙ c.if-not-bound_ok.false

page-is : (c : Else-not-bound_ok) → page_ok (suc c.args.height) c.args.at.page (page_of c.args.image.now c.args.at.page) ≡ true
page-is c = let a = c.args in bound-page (suc a.height) false a.at.from a.at.below a.at.page (page_of a.image.now a.at.page) (bound-is c)

pub returns-then-not-bound_ok : goal.returns-then-not-bound_ok
returns-then-not-bound_ok c =
    let a = c.args in
    let e : suc a.height ≡ a.height + 1 = omega arith in
    node-unbound a.image.now a.height a.at a.marks.now
    (ap (λ (k : ℕ). bound_ok format1 k false a.at.from a.at.below a.at.page (page_of a.image.now a.at.page)) e ∙ sym c.bound_ok.ensures ∙ c.if-not-bound_ok.true)

pub laid_page-requires : goal.laid_page-requires
laid_page-requires c =
    let a = c.args in
    (page-fits a.image.now a.at.page c.requires.1, (page_ok-true (suc a.height) a.at.page (page_of a.image.now a.at.page) (page-is (goal.at.laid_page-requires c).Else-not-bound_ok)).laid)

pub claim-requires : goal.claim-requires
claim-requires c =
    let a = c.args in
    let z = size-true (length a.image.now) c.requires.0 in
    (rw c.laid_page.ensures (page-entries a.height a.at.page (page_of a.image.now a.at.page) c.requires.2 (page-is (goal.at.claim-requires c).Else-not-bound_ok)), omega (arith, z.high, c.requires.4))

pub returns : goal.returns
unfolding children
returns c =
    let a = c.args in
    let z = size-true (length a.image.now) c.requires.0 in
    let names : map child_of (records c.laid_page.result.bytes.now) ≡ names_of a.image.now a.at.page = ap (λ (p : List ℕ). map child_of (records p)) c.laid_page.ensures in
    let few : page_count a.image.now ≤ 64 = omega (arith, z.high) in
    node-claims a.image.now a.height a.at a.marks.now (bound-is (goal.at.returns c).Else-not-bound_ok) few c.requires.4 c.claim.result
    (c.claim.ensures.value ∙ ap (claims (page_count a.image.now) a.marks.now) names) c.claim.new.marks
    (λ t. c.claim.ensures.marks_after t ∙ ap (claimed a.marks.now) names)
