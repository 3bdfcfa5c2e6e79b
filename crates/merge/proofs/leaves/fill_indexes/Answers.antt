-- `fill_indexes`: the index pages that are left to be put, put over what is there, are the whole.
-- Assumes nothing.
use Prim.Native.Nat.{ℕ, ◌+◌, ◌-◌, ◌*◌, ◌≤◌}
use mathlib.Core.Path.{refl, ap, ◌∙◌}
use mathlib.Core.List.{List}
use native.Mathlib.Omega.{arith}
use lib.ListN.{length, take, drop, length-take}
use Rattle.codec.proofs.Tests.{All-take, All-drop}
use Rattle.page.specs.Layout.{page_size, index_kind, top_key}
use Rattle.page.specs.Operations.{fill}
use Rattle.page.proofs.Images.{lent, length-lent, back}
use Rattle.image.specs.Fresh.{named}
use Rattle.merge.proofs.Indexed.{indexes-start, next-inside, next-seps, index-next, indexes-end}
use Rattle.merge.proofs.leaves.fill_indexes.Goals as goal
use Rattle.merge.proofs.leaves.fill_indexes.Goals.{In-loop-i}

pub loop-i-init : goal.loop-i-init
loop-i-init c = indexes-start _ _ _ _

-- the next page lies in the image
inside : (c : In-loop-i) → page_size * (c.loop-i.i + 2) + page_size ≤ length c.loop-i.out
inside c = omega (arith, c.loop-i-test.true, c.loop-i.invariant.long, c.requires.0)

pub bounds-seps-at : goal.bounds-seps-at
bounds-seps-at c = next-inside c.loop-i.invariant c.requires.1 c.loop-i-test.true

pub slice_bounds-fill_node-count-in-loop-i : goal.slice_bounds-fill_node-count-in-loop-i
slice_bounds-fill_node-count-in-loop-i c =
    omega (arith, c.min-end.ensures, next-inside c.loop-i.invariant c.requires.1 c.loop-i-test.true)

pub fill_node-requires : goal.fill_node-requires
fill_node-requires c =
    let l = c.loop-i in
    let seps = c.args.seps.now in
    let k = next-inside l.invariant c.requires.1 c.loop-i-test.true in (
      length-lent l.out (l.i + 2) (inside (goal.at.fill_node-requires c).In-loop-i),
      omega (arith, c.min-end.ensures, length-take (c.min-end.result - 28 * l.i) (drop (28 * l.i) seps)),
      All-take (λ (s : ℕ). s ≤ top_key) (c.min-end.result - 28 * l.i) (drop (28 * l.i) seps) (All-drop (λ (s : ℕ). s ≤ top_key) (28 * l.i) seps c.requires.2),
      omega (arith, k, c.requires.3),
    )

pub slice_bounds-fill_node-start-in-loop-i : goal.slice_bounds-fill_node-start-in-loop-i
slice_bounds-fill_node-start-in-loop-i c =
    let h : 28 * c.loop-i.i ≤ c.min-end.result = omega (arith, c.min-end.ensures, next-inside c.loop-i.invariant c.requires.1 c.loop-i-test.true) in h

pub loop-i-preserved : goal.loop-i-preserved
loop-i-preserved c =
    let l = c.loop-i in
    let n = l.i + 2 in
    let page = c.fill_node.new.page in
    let old : List ℕ = take (1024 * n + 1024 - 1024 * n) (drop (1024 * n) l.out) in
    let fits = inside (goal.at.loop-i-preserved c).In-loop-i in
    let long = c.fill_node.auto.page in
    let less = c.loop-i-test.true in
    index-next l.invariant c.requires.1 less _ _ page _ fits (lent l.out n)
    (c.fill_node.ensures ∙ ap (λ (ss : List ℕ). fill old index_kind n (named (c.args.first + 28 * l.i) ss)) (next-seps l.invariant c.requires.1 less _ c.min-end.ensures))
    (long ∙ length-lent l.out n fits) (back l.out n page page fits long refl) refl

pub returns-clause-out_after : goal.returns-clause-out_after
returns-clause-out_after c = (indexes-end c.loop-i.invariant c.requires.1 (omega (arith, c.loop-i-test.false))).0

pub returns-clause-tops_after : goal.returns-clause-tops_after
returns-clause-tops_after c = (indexes-end c.loop-i.invariant c.requires.1 (omega (arith, c.loop-i-test.false))).1
