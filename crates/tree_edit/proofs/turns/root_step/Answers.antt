-- `root_step`: the tree with its root, with a new one, or with a page above two, as `rooted` says.
-- Assumes nothing.
use Prim.Native.Nat.{ℕ, ◌+◌, ◌-◌}
use mathlib.Core.Path.{sym, ap, ◌∙◌}
use mathlib.Core.List.{List, [], ◌∷◌}
use native.Mathlib.Omega.{arith}
use Rattle.page.specs.Layout.{Rec}
use Rattle.page.specs.Operations.{fill}
use Rattle.page.specs.PageFormat.{format1}
use Rattle.page.proofs.Images.{length-lent, lent, back}
use Rattle.image.specs.Image.{index_rec}
use Rattle.tree.specs.Edits.{rooted}
use Rattle.tree_edit.specs.Steps.{turn_of}
use Rattle.tree_edit.specs.declared.Turned.{Turned}
use Rattle.tree_edit.proofs.Said.{says_is, says-refused, top-low}
use Rattle.tree_edit.proofs.TwoPages.{root-none, root-fits, root-above}
use Rattle.tree_edit.proofs.turns.root_step.Goals as goal

pub returns-in-Kept : goal.returns-in-Kept
unfolding rooted
returns-in-Kept c =
    let a = c.args in
    says_is _ (ap (λ (x : Turned). rooted format1 (a.kind - 1) (turn_of a.before.now a.work.now a.root x)) (sym c.in-Kept.is)) (top-low c.requires.3 _ c.in-Kept.is)

pub returns-in-Gone : goal.returns-in-Gone
unfolding rooted
returns-in-Gone c =
    let a = c.args in
    says_is _ (ap (λ (x : Turned). rooted format1 (a.kind - 1) (turn_of a.before.now a.work.now a.root x)) (sym c.in-Gone.is)) (top-low c.requires.3 _ c.in-Gone.is)

pub returns-in-One : goal.returns-in-One
unfolding rooted
returns-in-One c =
    let a = c.args in
    says_is _ (ap (λ (x : Turned). rooted format1 (a.kind - 1) (turn_of a.before.now a.work.now a.root x)) (sym c.in-One.is)) (top-low c.requires.3 _ c.in-One.is)

pub returns-in_default : goal.returns-in_default
returns-in_default c =
    let a = c.args in
    says-refused _ (root-none _ a.before.now a.work.now a.root a.kind c.requires.1 a.above c.requires.0 _ _ _ _ c.in-Two.is c.in_default.ensures)

pub slice_bounds-fill_two-end : goal.slice_bounds-fill_two-end
slice_bounds-fill_two-end c =
    let a = c.args in
    omega (arith, root-fits _ a.before.now a.work.now a.root a.kind c.requires.1 a.above c.requires.0 _ _ _ _ c.in-Two.is _ c.in-Some.ensures.0)

pub fill_two-requires : goal.fill_two-requires
fill_two-requires c =
    let a = c.args in
    (length-lent a.work.now c.in-Some.p (root-fits _ a.before.now a.work.now a.root a.kind c.requires.1 a.above c.requires.0 _ _ _ _ c.in-Two.is _ c.in-Some.ensures.0), (c.requires.0.two _ _ _ _ c.in-Two.is).1)

pub returns-in-Some : goal.returns-in-Some
returns-in-Some c =
    let a = c.args in
    let t = c.in-Two in
    let p = c.in-Some.p in
    let ds : List Rec = index_rec 0 t.left ∷ index_rec t.sep t.right ∷ [] in
    let first = c.in-Some.ensures.0 in
    let fits = root-fits _ a.before.now a.work.now a.root a.kind c.requires.1 a.above c.requires.0 _ _ _ _ t.is _ first in
    says_is _ (root-above _ a.before.now a.work.now a.root a.kind c.requires.1 a.above c.requires.0 _ _ _ _ t.is _ first _
    (back a.work.now p _ _ fits c.fill_two.auto.page (c.fill_two.ensures ∙ ap (λ (x : List ℕ). fill x (a.kind + 1) p ds) (lent a.work.now p))))
    (omega (arith, c.in-Some.ensures.1, top-low c.requires.3 _ t.is))
