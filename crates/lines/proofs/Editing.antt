-- The bytes of a line's edit: its head, and the value of an insert or an update.
-- Assumes nothing.
use Prim.Native.Nat.{ℕ, suc, ◌+◌, ◌≤◌}
use mathlib.Core.Path.{◌≡◌, sym, ap, ◌∙◌}
use mathlib.Core.Bool.{Bool, true, false}
use mathlib.Core.Logic.{◌⊎◌, inl, inr}
use mathlib.Core.List.{List, ◌∷◌, ◌++◌}
use native.Mathlib.Omega.{arith}
use lib.ListN.{length, set, length-set, length-append}
use lib.Dec.{eqb}
use borrow.Author.Tests.{ne_eqb}
use Rattle.codec.specs.Lists.{splice, pick}
use Rattle.codec.specs.Numbers.{bytes_of}
use Rattle.codec.proofs.Numbers.{length-bytes_of}
use Rattle.codec.proofs.Lists.{splice-next, splice-sets}
use Rattle.edit.specs.EditList.{insert, update, delete, edit_of, edit_bytes}
use Rattle.lines.specs.Form.{line_edit}

pub head-written : (l : List ℕ) (at kind n key : ℕ) (l' : List ℕ) → at + 10 ≤ length l →
    l' ≡ splice (set (set l at kind) (at + 1) n) (at + 2) (bytes_of 8 key) → l' ≡ splice l at (kind ∷ n ∷ bytes_of 8 key)
head-written l at kind n key l' h e =
    let ten : length (bytes_of 8 key) ≡ 8 = length-bytes_of 8 key in
    let two : at + 2 ≡ suc (suc at) = omega arith in
    let one : at + 1 ≡ suc at = omega arith in
    let fits : at + 2 + length (bytes_of 8 key) ≤ length (set (set l at kind) (at + 1) n) = simp length-set (omega arith) in
    e ∙ splice-sets (set (set l at kind) (at + 1) n) (at + 2) (bytes_of 8 key) fits
    ∙ rw (two, one) (sym (splice-sets l at (kind ∷ n ∷ bytes_of 8 key) (omega arith)))

pub edit-changes : (kind key price : ℕ) → (kind ≡ 1) ⊎ (kind ≡ 2) → line_edit kind key price ≡ (kind ∷ 8 ∷ bytes_of 8 key) ++ bytes_of 8 price
unfolding line_edit edit_of edit_bytes
edit-changes kind key price (inl e) = rw (e, length-bytes_of 8 price)
edit-changes kind key price (inr e) = rw (e, length-bytes_of 8 price)

pub edit-deletes : (kind key price : ℕ) → (kind ≡ 1 → ⊥) → (kind ≡ 2 → ⊥) → line_edit kind key price ≡ 3 ∷ 0 ∷ bytes_of 8 key
unfolding line_edit edit_of edit_bytes
edit-deletes kind key price a b = rw (ne_eqb kind 1 a, ne_eqb kind 2 b)

-- the head of an insert or an update, and its value behind it
pub edit-written : (l : List ℕ) (at kind key price : ℕ) (l1 l2 : List ℕ) → at + 18 ≤ length l → (kind ≡ 1) ⊎ (kind ≡ 2) →
    l1 ≡ splice l at (kind ∷ 8 ∷ bytes_of 8 key) → l2 ≡ splice l1 (at + 10) (bytes_of 8 price) → l2 ≡ splice l at (line_edit kind key price)
edit-written l at kind key price l1 l2 h k a b =
    let m = length-bytes_of 8 key in
    let n = length-bytes_of 8 price in
    b ∙ splice-next l at (kind ∷ 8 ∷ bytes_of 8 key) (bytes_of 8 price) l1 (at + 10) a (omega arith) (omega arith) ∙ ap (splice l at) (sym (edit-changes kind key price k))

pub length-changes : (kind key price : ℕ) → (kind ≡ 1) ⊎ (kind ≡ 2) → length (line_edit kind key price) ≡ 18
length-changes kind key price k =
    ap length (edit-changes kind key price k) ∙ simp length-append (omega (arith, length-bytes_of 8 key, length-bytes_of 8 price))

pub length-deletes : (kind key price : ℕ) → (kind ≡ 1 → ⊥) → (kind ≡ 2 → ⊥) → length (line_edit kind key price) ≡ 10
length-deletes kind key price a b = ap length (edit-deletes kind key price a b) ∙ omega (arith, length-bytes_of 8 key)

-- an edit of a line takes at most 18 bytes of an edit list
pub length-edit : (kind key price : ℕ) → length (line_edit kind key price) ≤ 18
unfolding line_edit edit_of edit_bytes
length-edit kind key price = go (eqb kind 1) (eqb kind 2)
  where
    go : (a b : Bool) → length (edit_bytes (pick a (insert key (bytes_of 8 price)) (pick b (update key (bytes_of 8 price)) (delete key)))) ≤ 18
    go true b = simp length-append (omega (arith, length-bytes_of 8 key, length-bytes_of 8 price))
    go false true = simp length-append (omega (arith, length-bytes_of 8 key, length-bytes_of 8 price))
    go false false = omega (arith, length-bytes_of 8 key)
