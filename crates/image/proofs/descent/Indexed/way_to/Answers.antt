-- `way_to` goes down page by page: what is left of the way, from where it is, is the whole way.
-- Assumes nothing.
use Prim.Native.Nat.{ℕ}
use mathlib.Core.Path.{◌≡◌, sym, ap, ◌∙◌, subst}
use mathlib.Core.Bool.{Bool, true, ◌&&◌}
use native.Mathlib.Omega.{arith}
use mathlib.Core.List.{List}
use lib.ListN.{length, get_or}
use lib.Dec.{eqb}
use Rattle.page.specs.Page.{records}
use Rattle.page.specs.Operations.{page_of}
use Rattle.image.specs.Image.{children, places, top_place}
use Rattle.image.specs.Route.{route}
use Rattle.image.specs.Descent.{down}
use Rattle.image.specs.Marks.{NodePage, Judged, ReadBy}
use Rattle.image.proofs.Values.{page-fits}
use Rattle.image.proofs.Read.{call-opened, opened-page}
use Rattle.image.proofs.CodeNode.{judged-laid}
use Rattle.image.proofs.CodeWays.{Going, going-starts, going-ends, step-stops, step-judged, step-on}
use Rattle.image.proofs.descent.Indexed.way_to.Goals as goal
use Rattle.image.proofs.descent.Indexed.way_to.Goals.{After-page_of-page, then-only, else-only}

pub height_of-height-requires : goal.height_of-height-requires
height_of-height-requires c = let s = c.args.self.now in page-fits s.image.now s.root (opened-page s.image.now s.root s.is_opened)

pub loop-height-init : goal.loop-height-init
unfolding top_place
loop-height-init c = let s = c.args.self.now in going-starts s.image.now s.root c.args.key c.args.marks.now c.requires (opened-page s.image.now s.root s.is_opened) c.height_of-height.result c.height_of-height.ensures

pub read_node-requires : goal.read_node-requires
read_node-requires c =
    let s = c.args.self.now in
    let g = c.loop-height.invariant in
    ((call-opened s.image.now s.root s.is_opened).size, g.inside, omega (arith, c.loop-height-test.true), g.most, g.size, g.named)

pub returns-then-not-read_node : goal.returns-then-not-read_node
returns-then-not-read_node c =
    let s = c.args.self.now in
    let l = c.loop-height in
    step-stops s.image.now s.root c.args.key c.args.marks.now c.requires l.height l.only l.place l.marks c.read_node.new.marks c.loop-height-test.true l.invariant
    (subst (λ (t : Bool). ReadBy s.image.now l.height l.place l.marks t c.read_node.new.marks) c.if-not-read_node.true c.read_node.ensures)

pub page_of-page-requires : goal.page_of-page-requires
page_of-page-requires c = page-fits c.args.self.now.image.now c.loop-height.place.page c.loop-height.invariant.inside

was-read : (c : After-page_of-page) → ReadBy c.args.self.now.image.now c.loop-height.height c.loop-height.place c.loop-height.marks true c.read_node.new.marks
was-read c =
    let l = c.loop-height in
    subst (λ (t : Bool). ReadBy c.args.self.now.image.now l.height l.place l.marks t c.read_node.new.marks) c.if-not-read_node.false c.read_node.ensures

judged : (c : After-page_of-page) → Judged c.args.self.now.image.now c.loop-height.place.page
judged c =
    let s = c.args.self.now in
    let l = c.loop-height in
    step-judged s.image.now s.root c.args.key c.args.marks.now c.requires l.height l.only l.place l.marks c.read_node.new.marks c.loop-height-test.true l.invariant (was-read c)

pub invariant_of-count : goal.invariant_of-count
invariant_of-count c =
    let here = (goal.at.invariant_of-count c).After-page_of-page in
    record { laid = judged-laid c.args.self.now.image.now c.loop-height.place.page (judged here) c.page_of-page.result.now c.page_of-page.ensures }

pub down-place-requires : goal.down-place-requires
down-place-requires c =
    let here = (goal.at.down-place-requires c).After-page_of-page in
    subst (NodePage c.loop-height.place.page) (sym c.page_of-page.ensures) (judged here).page

pub loop-height-preserved : goal.loop-height-preserved
unfolding down children
loop-height-preserved c =
    let s = c.args.self.now in
    let l = c.loop-height in
    let here = (goal.at.loop-height-preserved c).After-page_of-page in
    step-on s.image.now s.root c.args.key c.args.marks.now c.requires l.height l.only l.place l.marks c.read_node.new.marks c.loop-height-test.true l.invariant (was-read here) c.if-only.only c.down-place.result
    (elim c.if-only.branch [
      | then-only w ↦
          w.only-is ∙ ap (λ (n : ℕ). eqb n 1) (w.count.ensures ∙ ap (λ (p : List ℕ). length (records p)) c.page_of-page.ensures)
          ∙ sym (ap (λ (t : Bool). t && eqb (length (records (page_of s.image.now l.place.page))) 1) w.if-only.true)
      | else-only w ↦ w.only-is ∙ w.if-only.false ∙ sym (ap (λ (t : Bool). t && eqb (length (records (page_of s.image.now l.place.page))) 1) w.if-only.false)
    ])
    (c.down-place.ensures ∙ ap (λ (p : List ℕ). get_or (places l.place.from (records p) l.place.below) (route c.args.key (records p)) l.place) c.page_of-page.ensures)

pub returns : goal.returns
returns c =
    let s = c.args.self.now in
    let l = c.loop-height in
    let e : l.height ≡ 0 = omega (arith, c.loop-height-test.false) in
    going-ends s.image.now s.root c.args.key c.args.marks.now c.requires l.only l.place l.marks (subst (λ (h : ℕ). Going s.image.now s.root c.args.key c.args.marks.now h l.only l.place l.marks) e l.invariant)
