-- `bound_ok` tests what `bound_ok` says, by the first and the last key.
-- Assumes nothing.
use Prim.Native.Nat.{ℕ, ◌-◌}
use mathlib.Core.Path.{◌≡◌, sym, ap, ◌∙◌}
use mathlib.Core.Bool.{Bool, true}
use mathlib.Core.List.{[]}
use native.Mathlib.Omega.{arith}
use lib.ListN.{length, get_or}
use lib.Dec.{ltb}
use Rattle.page.specs.Layout.{rec_of}
use Rattle.page.specs.Page.{records, page_ok}
use Rattle.page.specs.PageFormat.{format1}
use Rattle.page.specs.Operations.{page_of}
use Rattle.page.proofs.Facts.{page_ok-true}
use Rattle.image.specs.Image.{bound_ok}
use Rattle.image.proofs.CodeNode.{bound-unsound, bound-empty, bound-low, bound-ends}
use Rattle.image.proofs.node.bound_ok.Goals as goal
use Rattle.image.proofs.node.bound_ok.Goals.{After-page_of-bytes, Else-not-page_ok}

pub page_ok-requires : goal.page_ok-requires
page_ok-requires c = tt

on-page : (c : After-page_of-bytes) (b : Bool) →
    let a = c.args in
    bound_ok format1 a.kind a.empty a.lo a.hi a.own c.page_of-bytes.result.now ≡ b → b ≡ bound_ok format1 a.kind a.empty a.lo a.hi a.own (page_of a.image.now a.own)
on-page c b e =
    let a = c.args in
    sym e ∙ ap (bound_ok format1 a.kind a.empty a.lo a.hi a.own) c.page_of-bytes.ensures

pub returns-then-not-page_ok : goal.returns-then-not-page_ok
returns-then-not-page_ok c =
    let a = c.args in
    on-page (goal.at.returns-then-not-page_ok c).After-page_of-bytes _ (bound-unsound a.kind a.empty a.lo a.hi a.own _ (sym c.page_ok.ensures ∙ c.if-not-page_ok.true))

page-is : (c : Else-not-page_ok) → page_ok c.args.kind c.args.own c.page_of-bytes.result.now ≡ true
page-is c = sym c.page_ok.ensures ∙ c.if-not-page_ok.false

pub invariant_of-page : goal.invariant_of-page
invariant_of-page c = record { laid = (page_ok-true _ _ _ (page-is (goal.at.invariant_of-page c).Else-not-page_ok)).laid }

pub returns-then-n-eq0 : goal.returns-then-n-eq0
returns-then-n-eq0 c =
    let a = c.args in
    on-page (goal.at.returns-then-n-eq0 c).After-page_of-bytes _ (bound-empty a.kind a.empty a.lo a.hi a.own _ (page-is (goal.at.returns-then-n-eq0 c).Else-not-page_ok) (sym c.count-n.ensures ∙ c.if-n-eq0.true))

pub key_at-requires : goal.key_at-requires
key_at-requires c = omega (arith, c.count-n.ensures, c.if-n-eq0.false)

pub returns-then-key_at-lo : goal.returns-then-key_at-lo
returns-then-key_at-lo c =
    let a = c.args in
    on-page (goal.at.returns-then-key_at-lo c).After-page_of-bytes _ (bound-low a.kind a.empty a.lo a.hi a.own _ (page-is (goal.at.returns-then-key_at-lo c).Else-not-page_ok) (rec_of 0 []) (omega (arith, c.count-n.ensures, c.if-n-eq0.false)) (omega (arith, c.key_at.ensures, c.if-key_at-lo.true)))

pub key_at-requires-2 : goal.key_at-requires-2
key_at-requires-2 c = omega (arith, c.count-n.ensures, c.if-n-eq0.false)

pub returns : goal.returns
returns c =
    let a = c.args in
    let e : ltb c.key_at-2.result a.hi ≡ ltb (get_or (records c.page_of-bytes.result.now) (length (records c.page_of-bytes.result.now) - 1) (rec_of 0 [])).key a.hi =
    ap (λ (k : ℕ). ltb k a.hi) (c.key_at-2.ensures ∙ ap (λ (n : ℕ). (get_or (records c.page_of-bytes.result.now) (n - 1) (rec_of 0 [])).key) c.count-n.ensures) in
    e ∙ on-page (goal.at.returns c).After-page_of-bytes _ (bound-ends a.kind a.empty a.lo a.hi a.own c.page_of-bytes.result.now (page-is (goal.at.returns c).Else-not-page_ok) (rec_of 0 []) (omega (arith, c.count-n.ensures, c.if-n-eq0.false)) (omega (arith, c.key_at.ensures, c.if-key_at-lo.false)))
