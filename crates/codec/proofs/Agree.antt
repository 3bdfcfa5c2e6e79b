-- Parts that agree, a part in two, what stands where it was stored, and tests joined by `or`.
-- Assumes nothing.
use Prim.Native.Nat.{ℕ, ◌+◌, ◌-◌, ◌≤◌, ◌<◌}
use mathlib.Core.Path.{◌≡◌, refl, sym, ap, ◌∙◌}
use mathlib.Core.Logic.{◌⊎◌, inl, inr}
use mathlib.Core.Bool.{Bool, true, false, ◌||◌, true≢false}
use mathlib.Core.List.{List, ◌++◌}
use native.Mathlib.Omega.{arith}
use lib.ListN.{length, get_or, take, drop, length-take, length-drop}
use lib.Seq.{sets, take-add, drop-drop, ext_get_or}
use Rattle.codec.specs.Lists.{part}
use Rattle.codec.proofs.Lists.{get_or-part, part-splice-same, splice-sets}

-- ---- tests joined by `or`

pub or_left : (a b : Bool) → (a || b) ≡ false → a ≡ false
or_left true b e = e
or_left false b e = refl

pub or_right : (a b : Bool) → (a || b) ≡ false → b ≡ false
or_right true b e = absurd (true≢false e)
or_right false b e = e

pub neither : {a b : Bool} → a ≡ false → b ≡ false → (a || b) ≡ false
neither p q = rw (p, q)

pub either : (a b : Bool) → (a || b) ≡ true → (a ≡ true) ⊎ (b ≡ true)
either true b e = inl refl
either false b e = inr e

-- ---- parts

pub length-part-le : (l : List ℕ) (o n : ℕ) → length (part l o n) ≤ n
unfolding part
length-part-le l o n = omega (arith, length-take n (drop o l))

-- parts are equal if their elements are
pub part-agree : (a b : List ℕ) (o n : ℕ) → length a ≡ length b → ((i : ℕ) → o ≤ i → i < o + n → get_or a i 0 ≡ get_or b i 0) → part b o n ≡ part a o n
unfolding part
part-agree a b o n l h =
    sym (ext_get_or 0 (part a o n) (part b o n) same at)
  where
    at : (i : ℕ) → i < length (part a o n) → get_or (part a o n) i 0 ≡ get_or (part b o n) i 0
    at i k =
        let small : i < n = omega (arith, length-take n (drop o a)) in
        get_or-part a o n i small ∙ h (o + i) (omega arith) (omega arith) ∙ sym (get_or-part b o n i small)

    same : length (part a o n) ≡ length (part b o n)
    same = simp (length-take, length-drop) (omega arith)

-- elements of equal parts
pub agree-part : (a b : List ℕ) (o n : ℕ) → part b o n ≡ part a o n → (i : ℕ) → o ≤ i → i < o + n → get_or b i 0 ≡ get_or a i 0
agree-part a b o n e i low high =
    let j : o + (i - o) ≡ i = omega arith in
    let k : i - o < n = omega arith in
    ap (λ (m : ℕ). get_or b m 0) (sym j)
    ∙ sym (get_or-part b o n (i - o) k)
    ∙ ap (λ (l : List ℕ). get_or l (i - o) 0) e
    ∙ get_or-part a o n (i - o) k
    ∙ ap (λ (m : ℕ). get_or a m 0) j

-- a part in two
pub part-add : (l : List ℕ) (o n m : ℕ) → part l o (n + m) ≡ part l o n ++ part l (o + n) m
unfolding part
part-add l o n m = take-add n m (drop o l) ∙ ap (λ (r : List ℕ). take n (drop o l) ++ take m r) (drop-drop n o l)

-- ---- stores

-- what stands where it was stored
pub part-sets : (l : List ℕ) (o : ℕ) (vs : List ℕ) (n : ℕ) → length vs ≡ n → o + n ≤ length l → part (sets l o vs) o n ≡ vs
part-sets l o vs n e fits =
    let h : o + length vs ≤ length l = omega arith in
    ap (λ (m : List ℕ). part m o n) (sym (splice-sets l o vs h)) ∙ part-splice-same l o vs h n e
