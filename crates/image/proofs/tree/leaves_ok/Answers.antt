-- `leaves_ok` tests what it says: what is left to test of the leaves from the i-th on is the whole test.
-- Assumes nothing.
use Prim.Native.Nat.{ℕ, ◌<◌}
use mathlib.Core.Path.{◌≡◌, refl, sym, ap, ◌∙◌}
use mathlib.Core.Bool.{Bool, ◌&&◌}
use mathlib.Core.List.{List, []}
use native.Mathlib.Omega.{arith}
use lib.ListN.{length, get_or}
use lib.Dec.{eqb}
use Rattle.codec.specs.Lists.{all_b}
use Rattle.page.specs.Layout.{Rec, rec_of}
use Rattle.page.specs.Page.{records}
use Rattle.image.specs.Image.{child_of, children, places, leaf_at}
use Rattle.image.proofs.Values.{page-fits}
use Rattle.image.proofs.CodeNode.{judged-laid, judged-records, judged-two, judged-child}
use Rattle.image.proofs.CodeTree.{places-end, places-on, places-stop}
use Rattle.image.proofs.tree.leaves_ok.Goals as goal
use Rattle.image.proofs.tree.leaves_ok.Goals.{then-alone, else-alone, Joined-alone}

pub laid_page-page-requires : goal.laid_page-page-requires
laid_page-page-requires c =
    (page-fits _ _ c.requires.1, judged-laid _ _ c.requires.2 _ refl)

only-is : (c : Joined-alone) → c.if-alone.only ≡ (c.args.alone && eqb (length (children c.args.image.now c.args.at.page)) 1)
only-is c =
    let a = c.args in
    let count : eqb c.count-leaves.result 1 ≡ eqb (length (children a.image.now a.at.page)) 1 =
    ap (λ (n : ℕ). eqb n 1) (c.count-leaves.ensures ∙ ap length (judged-records a.image.now a.at.page c.requires.2 _ c.laid_page-page.ensures)) in
    let rest = eqb (length (children a.image.now a.at.page)) 1 in
    elim c.if-alone.branch [
      | then-alone w ↦ w.only-is ∙ count ∙ ap (λ (t : Bool). t && rest) (sym w.if-alone.true)
      | else-alone w ↦ w.only-is ∙ w.if-alone.false ∙ ap (λ (t : Bool). t && rest) (sym w.if-alone.false)
    ]

pub loop-i-init : goal.loop-i-init
loop-i-init c =
    let a = c.args in
    ap (λ (t : Bool). all_b (leaf_at a.image.now t) (places a.at.from (records c.laid_page-page.result.bytes.now) a.at.below)) (only-is (goal.at.loop-i-init c).Joined-alone)
    ∙ ap (λ (cs : List Rec). all_b (leaf_at a.image.now (a.alone && eqb (length (children a.image.now a.at.page)) 1)) (places a.at.from cs a.at.below)) (judged-records a.image.now a.at.page c.requires.2 _ c.laid_page-page.ensures)

pub child_at-requires : goal.child_at-requires
child_at-requires c =
    let a = c.args in
    let less : c.loop-i.i < length (records c.laid_page-page.result.bytes.now) = omega (arith, c.count-leaves.ensures, c.loop-i-test.true) in
    (less, judged-two a.image.now a.at.page c.requires.2 _ c.laid_page-page.ensures c.loop-i.i (rec_of 0 []) less)

pub leaf_ok-requires : goal.leaf_ok-requires
leaf_ok-requires c =
    let a = c.args in
    let l = c.loop-i in
    let h = page-fits a.image.now (child_of (get_or (records c.laid_page-page.result.bytes.now) l.i (rec_of 0 [])))
    (judged-child a.image.now a.at.page c.requires.2 _ c.laid_page-page.ensures l.i (rec_of 0 []) (omega (arith, c.count-leaves.ensures, c.loop-i-test.true))) in
    omega (arith, c.child_at.ensures)

pub returns-then-not-leaf_ok : goal.returns-then-not-leaf_ok
unfolding leaf_at
returns-then-not-leaf_ok c =
    let l = c.loop-i in
    sym (places-stop _ l.lo _ l.i _ (rec_of 0 []) (omega (arith, c.count-leaves.ensures, c.loop-i-test.true)) _ c.sep_after-hi.ensures _ c.child_at.ensures (sym c.leaf_ok.ensures ∙ c.if-not-leaf_ok.true)) ∙ l.invariant

pub loop-i-preserved : goal.loop-i-preserved
unfolding leaf_at
loop-i-preserved c =
    let l = c.loop-i in
    places-on _ l.lo _ l.i _ (rec_of 0 []) (omega (arith, c.count-leaves.ensures, c.loop-i-test.true)) _ c.sep_after-hi.ensures _ c.child_at.ensures (sym c.leaf_ok.ensures ∙ c.if-not-leaf_ok.false) ∙ l.invariant

pub returns : goal.returns
returns c = sym (places-end _ c.loop-i.lo _ c.loop-i.i _ (omega (arith, c.count-leaves.ensures, c.loop-i-test.false))) ∙ c.loop-i.invariant
