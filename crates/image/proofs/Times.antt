-- How often a number stands in a list: whether it is among them, whether all are distinct, and how many they are, whatever their order.
-- Assumes nothing.
use Prim.Native.Nat.{ℕ, zero, suc, ◌+◌, ◌≤◌, ◌<◌}
use mathlib.Core.Path.{◌≡◌, refl, sym, ap, ◌∙◌}
use mathlib.Core.Bool.{Bool, true, false, ◌||◌, not, true≢false, false≢true}
use mathlib.Core.List.{List, [], ◌∷◌, ◌++◌}
use native.Mathlib.Omega.{arith}
use lib.ListN.{length}
use lib.Dec.{eqb}
use borrow.Author.Tests.{eqb-true, eqb-false, eq-eqb, ne_eqb}
use Rattle.codec.specs.Lists.{pick, All}
use Rattle.codec.proofs.Tests.{both, first, second, not-true}
use Rattle.image.specs.Image.{among, distinct, hit, count}

-- ---- one number

pub hit-self : (x : ℕ) → hit x x ≡ 1
unfolding hit
hit-self x = rw (eq-eqb x x refl)

pub hit_other : (x p : ℕ) → (x ≡ p → ⊥) → hit x p ≡ 0
unfolding hit
hit_other x p h = rw (ne_eqb x p h)

pub hit-apart : (x p : ℕ) → hit x p ≡ 0 → x ≡ p → ⊥
hit-apart x p h e = let k : hit x p ≡ 1 = ap (hit x) (sym e) ∙ hit-self x in omega arith

pub hit-most : (x p : ℕ) → hit x p ≤ 1
unfolding hit
hit-most x p = go (eqb x p)
  where
    go : (t : Bool) → pick t 1 0 ≤ 1
    go true = omega arith
    go false = omega arith

-- ---- lists

pub count-append : (x : ℕ) (a b : List ℕ) → count x (a ++ b) ≡ count x a + count x b
count-append x [] b = omega arith
count-append x (p ∷ a) b = omega (arith, count-append x a b)

pub among-count : (x : ℕ) (l : List ℕ) → among x l ≡ true → 1 ≤ count x l
unfolding among hit
among-count x [] h = absurd (false≢true h)
among-count x (p ∷ l) h = go (eqb x p) h (among-count x l)
  where
    go : (t : Bool) → (t || among x l) ≡ true → (among x l ≡ true → 1 ≤ count x l) → 1 ≤ pick t 1 0 + count x l
    go true e f = omega arith
    go false e f = omega (arith, f e)

pub count-among : (x : ℕ) (l : List ℕ) → 1 ≤ count x l → among x l ≡ true
unfolding among hit
count-among x [] h = absurd (omega arith)
count-among x (p ∷ l) h = go (eqb x p) h (count-among x l)
  where
    go : (t : Bool) → 1 ≤ pick t 1 0 + count x l → (1 ≤ count x l → among x l ≡ true) → (t || among x l) ≡ true
    go true h f = refl
    go false h f = f (omega arith)

pub none-among : (x : ℕ) (l : List ℕ) → count x l ≡ 0 → among x l ≡ false
none-among x l h = not-true (among x l) (λ t. omega (arith, among-count x l t))

pub among_none : (x : ℕ) (l : List ℕ) → among x l ≡ false → count x l ≡ 0
among_none x l h = go (count x l) refl
  where
    go : (k : ℕ) → count x l ≡ k → k ≡ 0
    go zero e = refl
    go (suc k) e = absurd (true≢false (sym (count-among x l (omega arith)) ∙ h))

-- ---- distinct numbers

pub distinct-count : (l : List ℕ) → distinct l ≡ true → (x : ℕ) → count x l ≤ 1
unfolding distinct
distinct-count [] h x = omega arith
distinct-count (p ∷ l) h x = go (eqb x p) refl (distinct-count l (second (not (among p l)) (distinct l) h) x)
  where
    apart : count p l ≡ 0
    apart = among_none p l (not-true (among p l) (λ t. true≢false (sym (first (not (among p l)) (distinct l) h) ∙ ap not t)))

    go : (t : Bool) → eqb x p ≡ t → count x l ≤ 1 → hit x p + count x l ≤ 1
    go true e rest = omega (arith, hit-most x p, ap (λ (y : ℕ). count y l) (eqb-true x p e), apart)
    go false e rest = omega (arith, hit_other x p (eqb-false x p e))

pub count-distinct : (l : List ℕ) → ((x : ℕ) → count x l ≤ 1) → distinct l ≡ true
unfolding distinct
count-distinct [] h = refl
count-distinct (p ∷ l) h = both (ap not (none-among p l (omega (arith, h p, hit-self p)))) (count-distinct l (λ x. omega (arith, h x)))

pub distinct_one : (p : ℕ) → distinct (p ∷ []) ≡ true
unfolding distinct among
distinct_one p = refl

-- what stands in the one part does not stand in the other
pub apart-among : (a b : List ℕ) → distinct (a ++ b) ≡ true → (x : ℕ) → among x a ≡ true → among x b ≡ false
apart-among a b d x m = none-among x b (omega (arith, among-count x a m, distinct-count (a ++ b) d x, count-append x a b))

-- numbers that stand in a list of distinct ones as often at least are distinct
pub distinct-part : (a b : List ℕ) → ((x : ℕ) → count x a ≤ count x b) → distinct b ≡ true → distinct a ≡ true
distinct-part a b h d = count-distinct a (λ x. omega (arith, h x, distinct-count b d x))

-- the same numbers in another order
module _ (a b : List ℕ) (same : (x : ℕ) → count x a ≡ count x b) where
  pub among-alike : (x : ℕ) → among x a ≡ among x b
  among-alike x = go (among x a) refl
    where
      go : (t : Bool) → among x a ≡ t → t ≡ among x b
      go true e = sym (count-among x b (omega (arith, same x, among-count x a e)))
      go false e = sym (none-among x b (omega (arith, same x, among_none x a e)))

  pub distinct-alike : distinct a ≡ true → distinct b ≡ true
  distinct-alike d = distinct-part b a (λ x. omega (arith, same x)) d

-- ---- distinct numbers below n are n at most

total : ℕ → List ℕ → ℕ
total zero l = 0
total (suc n) l = count n l + total n l

total-few : (n : ℕ) (l : List ℕ) → ((x : ℕ) → count x l ≤ 1) → total n l ≤ n
unfolding total
total-few zero l f = omega arith
total-few (suc n) l f = omega (arith, f n, total-few n l f)

total-none : (n : ℕ) → total n [] ≡ 0
unfolding total
total-none zero = refl
total-none (suc n) = omega (arith, total-none n)

total-out : (n q : ℕ) (l : List ℕ) → n ≤ q → total n (q ∷ l) ≡ total n l
unfolding total
total-out zero q l h = refl
total-out (suc n) q l h = omega (arith, hit_other n q (λ e. omega (arith, e, h)), total-out n q l (omega arith))

total-in : (n q : ℕ) (l : List ℕ) → q < n → total n (q ∷ l) ≡ suc (total n l)
unfolding total
total-in zero q l h = absurd (omega arith)
total-in (suc n) q l h = go (eqb n q) refl (total-in n q l)
  where
    go : (t : Bool) → eqb n q ≡ t → (q < n → total n (q ∷ l) ≡ suc (total n l)) → (hit n q + count n l) + total n (q ∷ l) ≡ suc (count n l + total n l)
    go true e f = let s = eqb-true n q e in omega (arith, ap (hit n) s, hit-self n, total-out n q l (omega arith))
    go false e f = let s = eqb-false n q e in omega (arith, hit_other n q s, f (omega (arith, s, h)))

length-total : (n : ℕ) (l : List ℕ) → All (λ (p : ℕ). p < n) l → length l ≡ total n l
length-total n [] a = sym (total-none n)
length-total n (q ∷ l) a = ap suc (length-total n l a.1) ∙ sym (total-in n q l a.0)

pub distinct-few : (n : ℕ) (l : List ℕ) → All (λ (p : ℕ). p < n) l → distinct l ≡ true → length l ≤ n
distinct-few n l a d = omega (arith, length-total n l a, total-few n l (distinct-count l d))
