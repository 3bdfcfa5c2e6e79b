-- `down`: the routed slot's page, with the range that its separator and the next one leave of the page's own.
-- Assumes nothing.
use Prim.Native.Nat.{ℕ, ◌<◌}
use mathlib.Core.Path.{sym, ap, ◌∙◌}
use mathlib.Core.List.{[]}
use native.Mathlib.Omega.{arith}
use lib.ListN.{length, get_or}
use Rattle.page.specs.Layout.{rec_of}
use Rattle.page.specs.Page.{records}
use Rattle.page.proofs.Facts.{page_ok-true}
use Rattle.image.specs.Image.{places}
use Rattle.image.proofs.CodeNode.{node-two}
use Rattle.image.proofs.CodeDescent.{place-first, place-later, route-inside}
use Rattle.image.proofs.descent.down.Goals as goal
use Rattle.image.proofs.descent.down.Goals.{After-route-i}

pub invariant_of-page : goal.invariant_of-page
invariant_of-page c = record { laid = (page_ok-true _ _ _ c.requires.page).laid }

pub route-i-requires : goal.route-i-requires
route-i-requires c = (page_ok-true _ _ _ c.requires.page).rise

less : (c : After-route-i) → c.route-i.result < length (records c.args.page.now)
less c =
    omega (arith, c.route-i.ensures, route-inside c.requires.kind c.args.at.page c.args.page.now c.requires.page c.requires.some c.args.key)

pub sep_after-below-requires : goal.sep_after-below-requires
sep_after-below-requires c = less (goal.at.sep_after-below-requires c).After-route-i

pub child_at-child-requires : goal.child_at-child-requires
child_at-child-requires c = (less (goal.at.child_at-child-requires c).After-route-i, node-two _ _ c.requires _ _ (less (goal.at.child_at-child-requires c).After-route-i))

pub returns-then-i-eq0 : goal.returns-then-i-eq0
returns-then-i-eq0 c =
    let a = c.args in
    let rs = records a.page.now in
    rw (c.child_at-child.ensures, c.sep_after-below.ensures, c.if-i-eq0.true)
    (sym (ap (λ (j : ℕ). get_or (places a.at.from rs a.at.below) j a.at) (sym c.route-i.ensures ∙ c.if-i-eq0.true) ∙ place-first a.at.from rs a.at.below a.at (rec_of 0 []) c.requires.some))

pub key_at-requires : goal.key_at-requires
key_at-requires c = less (goal.at.key_at-requires c).After-route-i

pub returns : goal.returns
returns c =
    let a = c.args in
    let rs = records a.page.now in
    rw (c.child_at-child.ensures, c.sep_after-below.ensures, c.key_at.ensures)
    (sym (ap (λ (j : ℕ). get_or (places a.at.from rs a.at.below) j a.at) (sym c.route-i.ensures) ∙ place-later a.at.from rs a.at.below a.at (rec_of 0 []) c.route-i.result c.if-i-eq0.false (less (goal.at.returns c).After-route-i)))
