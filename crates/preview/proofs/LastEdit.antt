-- The last edit of a key decides what is seen of it; where there is none, the image does.
-- Assumes nothing.
use Rattle.std.specs.Prelude.{Option, Result}
use Prim.Native.Nat.{ℕ, ◌+◌}
use mathlib.Core.Path.{◌≡◌, refl, ap, ◌∙◌}
use mathlib.Core.Logic.{◌⊎◌, inl, inr}
use mathlib.Core.Bool.{Bool, true, false}
use mathlib.Core.List.{List, [], ◌∷◌, ◌++◌}
use native.Mathlib.Omega.{arith}
use lib.ListN.{length, length-append}
use lib.Dec.{eqb}
use borrow.Author.Tests.{eqb-true, eqb-false, eq-eqb, ne_eqb}
use Rattle.preview.specs.declared.Preview.{Preview}
use Rattle.device.specs.declared.Refusal.{Refusal}
use Rattle.codec.specs.Lists.{pick}
use Rattle.edit.specs.EditList.{Edit, key_of, edit_bytes}
use Rattle.edit.specs.Reads.{list_bytes}
use Rattle.preview.specs.Calls.{brings, seen_from}
use Rattle.preview.specs.Answers.{NoEdit, LastEdit}

module _ (k : ℕ) where
  pub no-edit : (at : ℕ) (answer : Result (Option Preview) Refusal) (es : List Edit) → NoEdit k es → seen_from k at answer es ≡ answer
  unfolding seen_from
  no-edit at answer [] h = refl
  no-edit at answer (e ∷ es) h = rw (ne_eqb (key_of e) k h.0) (no-edit (at + length (edit_bytes e)) answer es h.1)

  seen-append : (at : ℕ) (answer : Result (Option Preview) Refusal) (es fs : List Edit) → seen_from k at answer (es ++ fs) ≡ seen_from k (at + length (list_bytes es)) (seen_from k at answer es) fs
  unfolding seen_from
  seen-append at answer [] fs =
      let e : at ≡ at + 0 = omega arith in
      ap (λ (o : ℕ). seen_from k o answer fs) e
  seen-append at answer (e ∷ es) fs =
      let a = pick (eqb (key_of e) k) (brings at e) answer in
      let o : at + length (edit_bytes e) + length (list_bytes es) ≡ at + length (edit_bytes e ++ list_bytes es) = omega (arith, length-append (edit_bytes e) (list_bytes es)) in
      seen-append (at + length (edit_bytes e)) a es fs ∙ ap (λ (x : ℕ). seen_from k x (seen_from k (at + length (edit_bytes e)) a es) fs) o

  pub last-edit : (answer : Result (Option Preview) Refusal) (es : List Edit) (l : LastEdit k es) → seen_from k 0 answer es ≡ brings (length (list_bytes l.before)) l.edit
  unfolding seen_from
  last-edit answer es l =
      let o = length (list_bytes l.before) in
      let zero : 0 + o ≡ o = omega arith in
      ap (seen_from k 0 answer) l.shape
      ∙ seen-append 0 answer l.before (l.edit ∷ l.later)
      ∙ ap (λ (x : ℕ). seen_from k x (seen_from k 0 answer l.before) (l.edit ∷ l.later)) zero
      ∙ rw (eq-eqb (key_of l.edit) k l.own) (no-edit (o + length (edit_bytes l.edit)) (brings o l.edit) l.later l.last)

  pub last-or-none : (es : List Edit) → NoEdit k es ⊎ LastEdit k es
  last-or-none [] = inl tt
  last-or-none (e ∷ es) = go (last-or-none es) (eqb (key_of e) k) refl
    where
      go : NoEdit k es ⊎ LastEdit k es → (b : Bool) → eqb (key_of e) k ≡ b → NoEdit k (e ∷ es) ⊎ LastEdit k (e ∷ es)
      go (inr l) b c = inr (record { before = e ∷ l.before; edit = l.edit; later = l.later; shape = ap (λ (x : List Edit). e ∷ x) l.shape; own = l.own; last = l.last })
      go (inl n) true c = inr (record { before = []; edit = e; later = es; shape = refl; own = eqb-true (key_of e) k c; last = n })
      go (inl n) false c = inl (eqb-false (key_of e) k c, n)
