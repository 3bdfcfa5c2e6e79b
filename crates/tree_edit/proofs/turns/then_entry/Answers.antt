-- `then_entry`: the second record into the page itself, into its copy, or nowhere, as `then_into` says.
-- Assumes nothing.
use Rattle.std.proofs.lemmas.Result.{err_from_is_err_and}
use Prim.Native.Nat.{ℕ}
use Rattle.std.specs.Prelude.{Ok}
use mathlib.Core.Path.{◌≡◌, refl, sym, ap, ◌∙◌}
use mathlib.Core.List.{List}
use Rattle.tree.specs.State.{State}
use Rattle.tree.specs.Edits.{PageStep, copy_then, then_into}
use Rattle.tree_edit.specs.Steps.{turn_of}
use Rattle.tree_edit.specs.declared.Turned.{Turned}
use Rattle.tree_edit.specs.declared.Turned.TheVariants.{Kept, Gone, One, Two}
use Rattle.tree_edit.proofs.Said.{turns-is, turns-refused, turns_same, turned-refused, turned-done, turned-low, top-low}
use Rattle.tree_edit.proofs.Absorbed.{then-kept, then-stopped, then-copied, then-moved}
use Rattle.tree_edit.proofs.turns.then_entry.Goals as goal

-- what is not `Kept`
not-kept : (before work : List ℕ) (root x : ℕ) (r : Turned) → ((top : ℕ) → r ≡ Kept top → ⊥) → copy_then x (turn_of before work root r) ≡ turn_of before work root r
unfolding copy_then
not-kept before work root x (Kept top) h = absurd (h top refl)
not-kept before work root x (Gone top) h = refl
not-kept before work root x (One p top) h = refl
not-kept before work root x (Two p k q top) h = refl

-- what is neither `Kept` nor `One`
not-page : (before work : List ℕ) (root page : ℕ) (f : ℕ → State → PageStep) (r : Turned) → ((top : ℕ) → r ≡ Kept top → ⊥) → ((p top : ℕ) → r ≡ One p top → ⊥) →
    turn_of before work root r ≡ then_into (turn_of before work root r) page f
unfolding then_into
not-page before work root page f (Kept top) h g = absurd (h top refl)
not-page before work root page f (Gone top) h g = refl
not-page before work root page f (One p top) h g = absurd (g p top refl)
not-page before work root page f (Two p k q top) h g = refl

pub put_entry-requires : goal.put_entry-requires
put_entry-requires c =
    (c.requires.0.stays _ c.in-Kept.is, top-low c.requires.1 _ c.in-Kept.is)

pub put_entry-requires-in-One : goal.put_entry-requires-in-One
put_entry-requires-in-One c =
    (c.requires.0.moves _ _ c.in-One.is, top-low c.requires.1 _ c.in-One.is)

pub returns-in_err-second-in-One : goal.returns-in_err-second-in-One
returns-in_err-second-in-One c =
    let p = err_from_is_err_and c.from_residual.result c.from_residual.ensures.1 in
    let e = c.put_entry-in-One.ensures in
    rw (p.1, p.2) (turns-refused _ (then-stopped c.args.before.now c.args.work.now c.args.root c.args.page _ c.args.first _ _ c.in-One.is _ refl _ (turned-refused e _ c.in_err-second-in-One.was)))

pub returns-in-Kept : goal.returns-in-Kept
returns-in-Kept c =
    turns_same c.put_entry.ensures _ (then-kept c.args.before.now c.args.work.now c.args.root c.args.page _ c.args.first _ c.in-Kept.is)

pub returns-in-Kept-2 : goal.returns-in-Kept-2
returns-in-Kept-2 c =
    let e = c.put_entry-in-One.ensures in
    let was = c.in_ok-second-in-One.was ∙ ap Ok c.in-Kept-2.is in
    turns-is _ (then-copied c.args.before.now c.args.work.now c.args.root c.args.page _ c.args.first _ _ c.in-One.is _ refl _ (turned-done e _ was)) (turned-low e _ was)

pub returns-in_default-2 : goal.returns-in_default-2
returns-in_default-2 c =
    let e = c.put_entry-in-One.ensures in
    let b = c.args.before.now in
    let w = c.put_entry-in-One.new.work in
    let same : turn_of b w c.args.root c.in_ok-second-in-One.second ≡ _ = turned-done e _ c.in_ok-second-in-One.was in
    turns-is _ (same ∙ then-moved b c.args.work.now c.args.root c.args.page _ c.args.first _ _ c.in-One.is _ refl
    (ap (copy_then _) (sym same) ∙ not-kept b w c.args.root _ c.in_ok-second-in-One.second c.in_default-2.not-Kept ∙ same)) (turned-low e _ c.in_ok-second-in-One.was)

pub returns-in_default : goal.returns-in_default
returns-in_default c =
    turns-is _ (not-page c.args.before.now c.args.work.now c.args.root c.args.page _ c.args.first c.in_default.not-Kept c.in_default.not-One) c.requires.1
