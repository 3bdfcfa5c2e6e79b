-- Lists collected in an array from the front, and the words that differ: what is collected and what is still to come is the whole.
-- Assumes nothing.
use Prim.Native.Nat.{ℕ, zero, suc, ◌+◌, ◌-◌, ◌*◌, ◌≤◌, ◌<◌}
use mathlib.Core.Path.{◌≡◌, refl, sym, ap, ◌∙◌, subst}
use mathlib.Core.Bool.{Bool, true, false}
use mathlib.Core.List.{List, [], ◌∷◌, ◌++◌}
use native.Mathlib.Omega.{arith}
use native.Mathlib.Numerals.{add-one}
use lib.ListN.{length, take, drop, set, length-append}
use lib.Seq.{sets, take_at}
use Rattle.codec.specs.Lists.{pick, part, splice, eqs}
use Rattle.codec.specs.Numbers.{number, bytes_of}
use Rattle.codec.proofs.Tests.{eqs-same, eqs-differ}
use Rattle.codec.proofs.Lists.{splice-sets, sets-append}
use Rattle.page.proofs.CheckBytes.{Bytes, bytes-part}
use Rattle.journal.specs.Changes.{word_size}
use Rattle.tape_write.specs.Words.{differing}

-- ---- a list collected in an array

-- n elements of the array l are collected and ds are still to come, where xs in all come behind the m elements of l₀
pub record Collects (l : List ℕ) (n : ℕ) (ds l₀ : List ℕ) (m : ℕ) (xs : List ℕ) : Type 0 where
  pub count : n + length ds ≡ m + length xs
  pub array : sets l n ds ≡ sets l₀ m xs

pub collects-start : (l : List ℕ) (n : ℕ) (xs : List ℕ) → Collects l n xs l n xs
collects-start l n xs = record { count = refl; array = refl }

module _ {l l₀ xs : List ℕ} {n m : ℕ} where
  pub collects-as : {ds es : List ℕ} → ds ≡ es → Collects l n ds l₀ m xs → Collects l n es l₀ m xs
  collects-as e h = subst (λ (x : List ℕ). Collects l n x l₀ m xs) e h

  -- one element more
  pub collects-one : {k : ℕ} {ds : List ℕ} → Collects l n (k ∷ ds) l₀ m xs → Collects (set l n k) (n + 1) ds l₀ m xs
  collects-one h = record { count = omega (arith, h.count); array = rw (add-one n) h.array }

  -- a list more
  pub collects-some : (ds es : List ℕ) {l' : List ℕ} {n' : ℕ} → l' ≡ sets l n ds → n' ≡ n + length ds → Collects l n (ds ++ es) l₀ m xs → Collects l' n' es l₀ m xs
  collects-some ds es {l'} {n'} e f h =
      record {
        count = omega (arith, h.count, length-append ds es);
        array = ap (λ (x : List ℕ). sets x n' es) e ∙ ap (λ (k : ℕ). sets (sets l n ds) k es) f ∙ sets-append l n ds es ∙ h.array;
      }

  pub collects-done : Collects l n [] l₀ m xs → (n ≡ m + length xs) × (l ≡ sets l₀ m xs)
  collects-done h = (omega (arith, h.count), h.array)

-- what was collected from the front stands there
pub collects-first : {l l₀ xs : List ℕ} {n : ℕ} → Collects l n [] l₀ 0 xs → n ≤ length l₀ → (n ≡ length xs) × (take n l ≡ xs)
unfolding splice
collects-first {l} {l₀} {xs} {n} h room =
    let d = collects-done h in
    let e : n ≡ length xs = omega (arith, d.0) in
    (e, ap (take n) (d.1 ∙ sym (splice-sets l₀ 0 xs (omega arith))) ∙ take_at xs (drop (0 + length xs) l₀) n (sym e))

-- ---- words compared by their numbers

pub word_same : (a b : List ℕ) → Bytes a → Bytes b → (o : ℕ) → o + 8 ≤ length a → o + 8 ≤ length b → number (part a o 8) ≡ number (part b o 8) → part a o 8 ≡ part b o 8
word_same a b ha hb o fa fb e = sym (bytes-part a ha o 8 fa) ∙ ap (bytes_of 8) e ∙ bytes-part b hb o 8 fb

module _ (a w : List ℕ) (k to : ℕ) where
  pub differ-end : to ≤ k → differing a w (to - k) k ≡ []
  unfolding differing
  differ-end h = let e : to - k ≡ 0 = omega arith in rw e

  module _ (more : k < to) where
    pub differ_same : part a (8 * k) 8 ≡ part w (8 * k) 8 → differing a w (to - k) k ≡ differing a w (to - (k + 1)) (k + 1)
    unfolding differing
    differ_same same =
        let e : to - k ≡ suc (to - (k + 1)) = omega arith in
        rw (e, same, eqs-same (part w (8 * k) 8), add-one k)

    pub differ-other : (part a (8 * k) 8 ≡ part w (8 * k) 8 → ⊥) → differing a w (to - k) k ≡ k ∷ differing a w (to - (k + 1)) (k + 1)
    unfolding differing
    differ-other other =
        let e : to - k ≡ suc (to - (k + 1)) = omega arith in
        rw (e, eqs-differ (part a (8 * k) 8) (part w (8 * k) 8) other, add-one k)

pub differ-length : (a w : List ℕ) (n k : ℕ) → length (differing a w n k) ≤ n
unfolding differing
differ-length a w zero k = omega arith
differ-length a w (suc n) k = go (eqs (part a (word_size * k) word_size) (part w (word_size * k) word_size)) (differ-length a w n (suc k))
  where
    rest : List ℕ
    rest = differing a w n (suc k)

    go : (b : Bool) → length rest ≤ n → length (pick b rest (k ∷ rest)) ≤ suc n
    go true h = omega arith
    go false h = omega arith
