-- What an answer says of a step: from the step to another that is the same, and by the answer's case.
-- Assumes nothing.
use Rattle.std.specs.Prelude.{Result, Ok, Err}
use Prim.Native.Nat.{ℕ, ◌≤◌}
use mathlib.Core.Path.{◌≡◌, sym, ap, ◌∙◌, subst}
use mathlib.Core.List.{List}
use native.Mathlib.Omega.{arith}
use Rattle.device.specs.Calls.{cause_number}
use Rattle.device.specs.declared.Cause.{Cause}
use Rattle.tree.specs.State.{Step, done, refused}
use Rattle.tree.specs.Edits.{PageStep, stops}
use Rattle.tree_edit.specs.Steps.{state_of, step_of, top_of, Says, turn_of, top_after, turned_of, top_in, Turns}
use Rattle.tree_edit.specs.declared.Tree.{Tree}
use Rattle.tree_edit.specs.declared.Turned.{Turned}

-- ---- of an edit

pub says_is : {before work : List ℕ} {s : Step} (r : Result Tree Cause) → step_of before work r ≡ s → top_of r ≤ 64 → Says before work r s
says_is r e low = record { same = e; low = low }

pub says-refused : {before work : List ℕ} {s : Step} (cause : Cause) → refused (cause_number cause) ≡ s → Says before work (Err cause) s
says-refused cause e = record { same = e; low = omega arith }

module _ {before work : List ℕ} {r : Result Tree Cause} {s : Step} (a : Says before work r s) where
  pub says_same : (u : Step) → s ≡ u → Says before work r u
  says_same u e = record { same = a.same ∙ e; low = a.low }

  pub said-refused : (cause : Cause) → r ≡ Err cause → refused (cause_number cause) ≡ s
  said-refused cause e = sym (ap (step_of before work) e) ∙ a.same

  module _ (t : Tree) (e : r ≡ Ok t) where
    pub said-done : done (state_of before work t) ≡ s
    said-done = sym (ap (step_of before work) e) ∙ a.same

    pub said-low : t.top ≤ 64
    said-low = subst (λ (x : Result Tree Cause). top_of x ≤ 64) e a.low

-- ---- of an edit under a page

pub turns-is : {before work : List ℕ} {root : ℕ} {s : PageStep} (r : Result Turned Cause) → turned_of before work root r ≡ s → top_in r ≤ 64 → Turns before work root r s
turns-is r e low = record { same = e; low = low }

pub turns-refused : {before work : List ℕ} {root : ℕ} {s : PageStep} (cause : Cause) → stops (cause_number cause) ≡ s → Turns before work root (Err cause) s
turns-refused cause e = record { same = e; low = omega arith }

module _ {before work : List ℕ} {root : ℕ} {r : Result Turned Cause} {s : PageStep} (a : Turns before work root r s) where
  pub turns_same : (u : PageStep) → s ≡ u → Turns before work root r u
  turns_same u e = record { same = a.same ∙ e; low = a.low }

  pub turned-refused : (cause : Cause) → r ≡ Err cause → stops (cause_number cause) ≡ s
  turned-refused cause e = sym (ap (turned_of before work root) e) ∙ a.same

  module _ (t : Turned) (e : r ≡ Ok t) where
    pub turned-done : turn_of before work root t ≡ s
    turned-done = sym (ap (turned_of before work root) e) ∙ a.same

    pub turned-low : top_after t ≤ 64
    turned-low = subst (λ (x : Result Turned Cause). top_in x ≤ 64) e a.low

pub top-low : {r : Turned} → top_after r ≤ 64 → (x : Turned) → r ≡ x → top_after x ≤ 64
top-low low x e = subst (λ (y : Turned). top_after y ≤ 64) e low
