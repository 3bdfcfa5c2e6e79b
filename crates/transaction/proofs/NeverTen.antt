-- No transaction is refused with 10. Of the refusals past the edit list's, from 8 on, each is an edit's, 12 or 13.
-- Assumes nothing.
use Rattle.std.specs.Prelude.{Err, Ok}
use Prim.Native.Nat.{ℕ, ◌≤◌, ◌<◌}
use mathlib.Core.Path.{◌≡◌, refl, ap, ◌∙◌, subst}
use mathlib.Core.Logic.{◌⊎◌, inl, inr}
use mathlib.Core.Bool.{Bool, true, false}
use mathlib.Core.List.{List}
use native.Mathlib.Omega.{arith}
use lib.ListN.{length}
use Rattle.codec.specs.Lists.{pick}
use Rattle.device.specs.Tape.{tape_bytes}
use Rattle.device.specs.Calls.{Answer, is_image_size, number_in, refusal, refusal_at}
use Rattle.device.specs.declared.Refusal.{Refusal}
use Rattle.device.proofs.Causes.{number-same}
use Rattle.image.specs.Calls.{check_call, check_from, root_call, root_from}
use Rattle.image.specs.Image.{tree_ok}
use Rattle.image.specs.PageZero.{page_zero}
use Rattle.image.specs.declared.PageZero.{PageZero}
use Rattle.image.specs.declared.PageZero.TheVariants.{Wrong, Waiting, Ready}
use Rattle.image.proofs.Answers.{check_sound}
use Rattle.edit.specs.EditList.{Edit, edit_list, listed}
use Rattle.edit.proofs.Parsing.{list-numbered, list-proper}
use Rattle.journal.specs.Changes.{changed_pages}
use Rattle.journal.specs.Tape.{taken_for}
use Rattle.journal.specs.declared.Way.{Way}
use Rattle.tree.specs.State.{State}
use Rattle.tree.specs.Whole.{edited_image, edits_on, stopped}
use Rattle.tree.proofs.Numbers.{edits-numbered}
use Rattle.tree.proofs.Runs.{edits-never-ten, grounds-refuse}
use Rattle.transaction.specs.Answers.{Answers, Begun, Done, accepted, bad-edit, bad-image, bad-list, bad-size, bad-work, no-log, no-tape}
use Rattle.transaction.specs.Calls.{Called, accepted_with, refused_with, transaction_call}
use Rattle.transaction.specs.NeverTen.{NeverTen}
use Rattle.transaction.proofs.Answers.{call-answers, refused-is}

-- check's numbers
check-few : (a : List ℕ) (r : Refusal) → check_call a ≡ Err r → number_in r ≤ 4
unfolding check_call check_from root_call root_from
check-few a r h = go (is_image_size (length a)) (page_zero a) h
  where
    is : (k : ℕ) → k ≤ 4 → 1 ≤ k → refusal k ≡ r → number_in r ≤ 4
    is k high low z = omega (arith, (number-same k 0 r low (omega arith) z).0)

    tree : (t : Bool) → pick {A = Answer} t (Ok tt) (Err (refusal 4)) ≡ Err r → number_in r ≤ 4
    tree true e = let z : ◌≡◌ {A = ℕ} 0 1 = cc in absurd (omega arith)
    tree false e = is 4 (omega arith) (omega arith) cc

    go : (t : Bool) (z : PageZero) → check_from a (pick t (root_from z) (Err (refusal 1))) ≡ Err r → number_in r ≤ 4
    go false z e = is 1 (omega arith) (omega arith) cc
    go true Wrong e = is 4 (omega arith) (omega arith) cc
    go true (Waiting k root) e = is 3 (omega arith) (omega arith) cc
    go true (Ready root) e = tree (tree_ok a root) e

-- the list's: 5 to 7, and 19
list-few : (k : ℕ) → ((5 ≤ k) × (k ≤ 7)) ⊎ (k ≡ 19) → (1 ≤ k) × (k ≤ 20) × (8 ≤ k → k ≤ 18 → ⊥)
list-few k (inl h) = (omega (arith, h.0), omega (arith, h.1), λ l m. omega (arith, h.1))
list-few k (inr h) = (omega arith, omega arith, λ l m. omega (arith, h))

module _ (way : Way) (a work tape bytes : List ℕ) (r : Refusal) (e : (transaction_call way a work tape bytes).answer ≡ Err r) where
  -- what holds of the number of a refused edit, of 12, and of 13 where the tape is too short, holds of a refusal from 8 on
  pub past-list : (P : ℕ → Type 0) → (Begun a work → (es : List Edit) → edit_list bytes ≡ listed es → (k i : ℕ) → edits_on a es ≡ stopped k i → P k) → P 12 →
      (Begun a work → (es : List Edit) (st : State) → Done a bytes es st → length (changed_pages a (edited_image a st)) ≤ 15 → length tape < length (tape_bytes (taken_for way a (edited_image a st)).tape) → P 13) →
      8 ≤ number_in r → number_in r ≤ 18 → P (number_in r)
  unfolding accepted_with
  past-list P edit log short low high = go (transaction_call way a work tape bytes) (call-answers way a work tape bytes) e
    where
      said : (n i : ℕ) (left : List ℕ) → 1 ≤ n → n ≤ 20 → (refused_with n i left tape).answer ≡ Err r → n ≡ number_in r
      said n i left l m e = (number-same n i r l m (refused-is n i left tape r e)).0

      go : (x : Called) → Answers way a work tape bytes x → x.answer ≡ Err r → P (number_in r)
      go _ (bad-size _) e = absurd (omega (arith, said 1 0 work (omega arith) (omega arith) e))
      go _ (bad-work _ _) e = absurd (omega (arith, said 2 0 work (omega arith) (omega arith) e))
      go _ (bad-image _ _ s c) e = let z : s ≡ r = cc in absurd (omega (arith, check-few a s c, ap (λ (x : Refusal). number_in x) z))
      go _ (bad-list _ k i f) e =
          let few = list-few k (list-numbered bytes k i f) in
          let z = said k i work few.0 few.1 e in
          absurd (few.2 (omega (arith, z)) (omega (arith, z)))
      go _ (bad-edit B es reads k i more g) e =
          let stops = grounds-refuse a (check_sound a B.checked) es (list-proper bytes es reads) k i g (λ z. omega arith) in
          subst P (said k i a (omega arith) (omega (arith, (edits-numbered a es k i stops).1)) e) (edit B es reads k i stops)
      go _ (no-log _ _ _ _ _) e = subst P (said 12 0 a (omega arith) (omega arith) e) log
      go _ (no-tape B es st D few long) e = subst P (said 13 0 a (omega arith) (omega arith) e) (short B es st D few long)
      go _ (accepted _ _ _ _ _ _) e = let z : ◌≡◌ {A = ℕ} 0 1 = cc in absurd (omega arith)

pub never-ten : NeverTen
never-ten way a work tape bytes i e =
    past-list way a work tape bytes (refusal_at 10 i) e (λ (k : ℕ). k ≡ 10 → ⊥)
    (λ B es reads k j stops z.
    edits-never-ten a (check_sound a B.checked) es (list-proper bytes es reads) j (stops ∙ ap (λ (n : ℕ). stopped n j) z))
    (λ z. omega arith) (λ B es st D few short z. omega arith) (omega arith) (omega arith) refl
