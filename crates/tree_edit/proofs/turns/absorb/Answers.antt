-- `absorb`: by what stands for the page under it, as `absorbed` says.
-- Assumes nothing.
use Rattle.std.proofs.lemmas.Result.{err_from_is_err_and}
use Prim.Native.Nat.{ℕ}
use mathlib.Core.Path.{◌≡◌, refl}
use mathlib.Core.List.{List}
use native.Mathlib.Omega.{arith}
use Rattle.page.specs.PageFormat.{format1}
use Rattle.page.proofs.Listed.{few-listed}
use Rattle.tree.specs.Edits.{no_keep, then_into, absorbed, onto}
use Rattle.tree_edit.specs.Steps.{turn_of}
use Rattle.tree_edit.specs.declared.Turned.{Turned}
use Rattle.tree_edit.specs.declared.Turned.TheVariants.{Kept, Gone, One, Two}
use Rattle.tree_edit.proofs.Said.{turns-is, turns-refused, turns_same, turned-refused, turned-done, turned-low, top-low}
use Rattle.tree_edit.proofs.Absorbed.{index-fits, replaces, then-can, absorb-gone, absorb-one, absorb-two}
use Rattle.tree_edit.proofs.turns.absorb.Goals as goal

-- what is `Kept`
not-changed : (before work : List ℕ) (root kind i low page : ℕ) (r : Turned) → ((top : ℕ) → r ≡ Gone top → ⊥) → ((p top : ℕ) → r ≡ One p top → ⊥) → ((p k q top : ℕ) → r ≡ Two p k q top → ⊥) →
    turn_of before work root r ≡ onto (turn_of before work root r) (λ x s. absorbed format1 no_keep kind i low page x s)
unfolding onto absorbed
not-changed before work root kind i low page (Kept top) f g h = refl
not-changed before work root kind i low page (Gone top) f g h = absurd (f top refl)
not-changed before work root kind i low page (One p top) f g h = absurd (g p top refl)
not-changed before work root kind i low page (Two p k q top) f g h = absurd (h p k q top refl)

pub drop_record-requires : goal.drop_record-requires
drop_record-requires c =
    let I = c.requires.0.gone _ c.in-Gone.is in (index-fits I, I.lists.laid, I.slot, top-low c.requires.1 _ c.in-Gone.is)

pub put_entry-requires : goal.put_entry-requires
put_entry-requires c =
    (replaces (c.requires.0.one _ _ c.in-One.is) _, top-low c.requires.1 _ c.in-One.is)

pub put_entry-requires-in-Two : goal.put_entry-requires-in-Two
put_entry-requires-in-Two c =
    (replaces (c.requires.0.two _ _ _ _ c.in-Two.is).0 _, top-low c.requires.1 _ c.in-Two.is)

pub overflow_add-at : goal.overflow_add-at
overflow_add-at c = let I = (c.requires.0.two _ _ _ _ c.in-Two.is).0 in omega (arith, few-listed _ I.lists.laid, I.slot)

pub then_entry-requires : goal.then_entry-requires
then_entry-requires c =
    let I = c.requires.0.two _ _ _ _ c.in-Two.is in let e = c.put_entry-in-Two.ensures in (then-can I.0 _ _ _ I.1 (omega (arith, c.ranges.kind)) c.args.before.now c.put_entry-in-Two.new.work c.args.root c.in_ok-first-in-Two.first (turned-done e _ c.in_ok-first-in-Two.was), turned-low e _ c.in_ok-first-in-Two.was)

pub returns-in_err-first-in-Two : goal.returns-in_err-first-in-Two
unfolding then_into
returns-in_err-first-in-Two c =
    let p = err_from_is_err_and c.from_residual.result c.from_residual.ensures.1 in
    rw (p.1, p.2) (turns-refused _ (absorb-two c.args.before.now c.args.work.now c.args.root c.args.kind c.args.page c.args.under c.args.below _ _ _ _ c.in-Two.is _ (turned-refused c.put_entry-in-Two.ensures _ c.in_err-first-in-Two.was)))

pub returns-in-Gone : goal.returns-in-Gone
returns-in-Gone c =
    turns_same (c.drop_record.ensures c.args.before.now) _ (absorb-gone c.args.before.now c.args.work.now c.args.root c.args.kind c.args.page c.args.under c.args.below _ c.in-Gone.is)

pub returns-in-One : goal.returns-in-One
returns-in-One c =
    turns_same c.put_entry.ensures _ (absorb-one c.args.before.now c.args.work.now c.args.root c.args.kind c.args.page c.args.under c.args.below _ _ c.in-One.is)

pub returns-in_ok-first-in-Two : goal.returns-in_ok-first-in-Two
returns-in_ok-first-in-Two c =
    turns_same c.then_entry.ensures _ (absorb-two c.args.before.now c.args.work.now c.args.root c.args.kind c.args.page c.args.under c.args.below _ _ _ _ c.in-Two.is _ (turned-done c.put_entry-in-Two.ensures _ c.in_ok-first-in-Two.was))

pub returns-in_default : goal.returns-in_default
returns-in_default c =
    turns-is _ (not-changed c.args.before.now c.args.work.now c.args.root c.args.kind c.args.under.slot c.args.under.low c.args.page c.args.below c.in_default.not-Gone c.in_default.not-One c.in_default.not-Two) c.requires.1
