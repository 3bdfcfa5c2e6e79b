-- `fill_node`: what is left to be filled in, filled in over what is there, is the whole.
-- Assumes nothing.
use Prim.Native.Nat.{ℕ, ◌≤◌}
use mathlib.Core.Path.{ap, ◌∙◌}
use native.Mathlib.Omega.{arith}
use Rattle.page.specs.Layout.{top_key}
use Rattle.page.specs.Operations.{fill}
use Rattle.page_edit.proofs.Filled.{left-all, left-room, left-next, left-none, filled-page}
use Rattle.page.proofs.Listed.{All-at}
use Rattle.merge.proofs.Indexed.{named-next, named-none, named-from, node-room}
use Rattle.merge.proofs.leaves.fill_node.Goals as goal

pub loop-i-init : goal.loop-i-init
loop-i-init c = record { long = c.requires.0; left = left-all _ _ _ (node-room _ _ c.args.k _ c.requires.1 _ c.unused-h.ensures) }

pub overflow_add-i : goal.overflow_add-i
overflow_add-i c = omega (arith, c.loop-i-test.true, c.requires.1, c.requires.3)

pub name_page-h-requires : goal.name_page-h-requires
name_page-h-requires c =
    let l = c.loop-i in
    let less = c.loop-i-test.true in
    (l.invariant.long, All-at (λ (s : ℕ). s ≤ top_key) c.args.seps.now l.i 0 c.requires.2 less, left-room _ _ _ (named-next c.args.k _ _ less) l.invariant.left)

pub loop-i-preserved : goal.loop-i-preserved
loop-i-preserved c =
    let l = c.loop-i in
    record { long = c.name_page-h.auto.page ∙ l.invariant.long; left = left-next _ _ _ _ _ (named-next c.args.k _ _ c.loop-i-test.true) l.invariant.left c.name_page-h.ensures }

pub returns : goal.returns
returns c =
    let a = c.args in
    let done = left-none _ (named-none a.k _ _ c.loop-i-test.false) c.loop-i.invariant.left in
    c.write.ensures ∙ filled-page _ _ _ _ _ _ _ c.unused-h.ensures done ∙ ap (fill a.page.now a.kind a.own) (named-from a.k a.seps.now)
