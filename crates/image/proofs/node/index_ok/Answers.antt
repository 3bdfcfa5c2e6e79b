-- `index_ok`: page 0 and the root are marked, and then the root is judged as a page above the leaves.
-- Assumes nothing.
use Prim.Native.Nat.{ℕ, suc, ◌≤◌}
use mathlib.Core.Path.{ap, ◌∙◌, subst}
use mathlib.Core.List.{List}
use native.Mathlib.Omega.{arith}
use lib.ListN.{length, set, replicate, length-set, length-replicate}
use Rattle.page.specs.Layout.{top_key}
use Rattle.image.specs.PageZero.{page_count}
use Rattle.image.specs.Image.{height_of, top_place}
use Rattle.image.specs.Marks.{NodeBy}
use Rattle.image.specs.declared.Place.{Place}
use Rattle.image.proofs.Zero.{size-true, is_page-true}
use Rattle.image.proofs.Values.{page-fits}
use Rattle.image.proofs.Ways.{height-in}
use Rattle.image.proofs.CodeNode.{root-value, root-marked}
use Rattle.image.proofs.node.index_ok.Goals as goal
use Rattle.image.proofs.node.index_ok.Goals.{After-node_ok}

pub bounds-marks-root : goal.bounds-marks-root
bounds-marks-root c =
    let a = c.args in
    let z = size-true (length a.image.now) c.requires.0 in
    omega (arith, length-set a.marks.now 0 1, ap length c.requires.2, length-replicate {A = ℕ} 64 0, z.high, (is_page-true (page_count a.image.now) a.root c.requires.1).1)

pub height_of-requires : goal.height_of-requires
height_of-requires c = page-fits c.args.image.now c.args.root c.requires.1

pub node_ok-requires : goal.node_ok-requires
node_ok-requires c =
    let a = c.args in
    let k = height-in a.image.now a.root in (
      c.requires.0,
      c.requires.1,
      omega (arith, k.0, c.height_of.ensures),
      omega (arith, k.1, c.height_of.ensures),
      length-set (set a.marks.now 0 1) a.root 2 ∙ length-set a.marks.now 0 1 ∙ ap length c.requires.2 ∙ length-replicate {A = ℕ} 64 0,
    )

node-by : (c : After-node_ok) → NodeBy c.args.image.now (height_of c.args.image.now c.args.root) (top_place c.args.root) (set (set (replicate 64 0) 0 1) c.args.root 2) c.node_ok.result c.node_ok.new.marks
unfolding top_place
node-by c =
    let a = c.args in
    let p : Place = record { page = a.root; from = 0; below = suc top_key } in
    subst (λ (h : ℕ). NodeBy a.image.now h p (set (set (replicate 64 0) 0 1) a.root 2) c.node_ok.result c.node_ok.new.marks) c.height_of.ensures
    (subst (λ (m : List ℕ). NodeBy a.image.now c.height_of.result p (set (set m 0 1) a.root 2) c.node_ok.result c.node_ok.new.marks) c.requires.2 c.node_ok.ensures)

few-pages : (c : After-node_ok) → page_count c.args.image.now ≤ 64
few-pages c = omega (arith, (size-true (length c.args.image.now) c.requires.0).high)

pub returns-clause-value : goal.returns-clause-value
returns-clause-value c =
    let here = (goal.at.returns-clause-value c).After-node_ok in
    root-value c.args.image.now c.args.root (few-pages here) c.requires.1 (node-by here)

pub returns-clause-marks_after : goal.returns-clause-marks_after
returns-clause-marks_after c =
    let here = (goal.at.returns-clause-marks_after c).After-node_ok in
    λ t. root-marked c.args.image.now c.args.root (few-pages here) c.requires.1 (node-by here) t
