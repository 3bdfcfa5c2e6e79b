-- The list in which each of some numbers, rising, stands in front of every list that may follow it: its length, its order, and what stands where.
-- Assumes nothing.
use Prim.Native.Nat.{ℕ, zero, suc, ◌+◌, ◌*◌, ◌≤◌, ◌<◌}
use mathlib.Core.Path.{◌≡◌, refl, sym, ap, ◌∙◌}
use mathlib.Core.Logic.{inl, inr}
use mathlib.Core.List.{List, [], ◌∷◌, ◌++◌, map}
use native.Mathlib.Omega.{arith}
use native.Mathlib.Nat.{zero-add, add-zero, add-suc, suc-add, suc-mul, zero-mul, not-suc-le-zero, le_of_suc-le-suc}
use lib.ListN.{length, get_or, length-append, length-map, get_or-append}
use lib.Seq.{get_or-append-add}
use Rattle.codec.specs.Lists.{All}
use Rattle.cuts.specs.All.{headed}
use Rattle.cuts.specs.Says.{Before}

-- ---- lists of lists

-- all of them rise: each stands before all after it
abbrev pub Rises : List (List ℕ) → Type 0
Rises [] = Unit {0}
Rises (x ∷ l) = All (Before x) l × Rises l

all_append : (P : List ℕ → Type 0) (a b : List (List ℕ)) → All P a → All P b → All P (a ++ b)
all_append P [] b p q = q
all_append P (x ∷ a) b p q = (p.0, all_append P a b p.1 q)

all_map : (P : List ℕ → Type 0) (x : ℕ) (l : List (List ℕ)) → All (λ ys. P (x ∷ ys)) l → All P (map (λ ys. x ∷ ys) l)
all_map P x [] h = tt
all_map P x (ys ∷ l) h = (h.0, all_map P x l h.1)

all-each : (P : List ℕ → Type 0) (l : List (List ℕ)) → ((z : List ℕ) → P z) → All P l
all-each P [] h = tt
all-each P (z ∷ l) h = (h z, all-each P l h)

all-weaken : (P Q : List ℕ → Type 0) → ((z : List ℕ) → P z → Q z) → (l : List (List ℕ)) → All P l → All Q l
all-weaken P Q f [] h = tt
all-weaken P Q f (z ∷ l) h = (f z h.0, all-weaken P Q f l h.1)

pub all-at : (P : List ℕ → Type 0) (l : List (List ℕ)) → All P l → (i : ℕ) → i < length l → P (get_or l i [])
all-at P [] h i k = absurd (not-suc-le-zero k)
all-at P (z ∷ l) h zero k = h.0
all-at P (z ∷ l) h (suc i) k = all-at P l h.1 i (le_of_suc-le-suc k)

pub rises-at : (l : List (List ℕ)) → Rises l → (i j : ℕ) → i < j → j < length l → Before (get_or l i []) (get_or l j [])
rises-at [] h i j a b = absurd (not-suc-le-zero b)
rises-at (z ∷ l) h i zero a b = absurd (not-suc-le-zero a)
rises-at (z ∷ l) h zero (suc j) a b = all-at (Before z) l h.0 j (le_of_suc-le-suc b)
rises-at (z ∷ l) h (suc i) (suc j) a b = rises-at l h.1 i j (le_of_suc-le-suc a) (le_of_suc-le-suc b)

rises-append : (a b : List (List ℕ)) → Rises a → Rises b → All (λ x. All (Before x) b) a → Rises (a ++ b)
rises-append [] b p q h = q
rises-append (x ∷ a) b p q h = (all_append (Before x) a b p.0 h.0, rises-append a b p.1 q h.1)

get_or-map-in : (x : ℕ) (l : List (List ℕ)) (i : ℕ) → i < length l → get_or (map (λ ys. x ∷ ys) l) i [] ≡ x ∷ get_or l i []
get_or-map-in x [] i h = absurd (not-suc-le-zero h)
get_or-map-in x (ys ∷ l) zero h = refl
get_or-map-in x (ys ∷ l) (suc i) h = get_or-map-in x l i (le_of_suc-le-suc h)

-- ---- headed

module _ (rest : ℕ → List (List ℕ)) where
  length-first : (x k : ℕ) → length (headed x (suc k) rest) ≡ length (rest x) + length (headed (suc x) k rest)
  unfolding headed
  length-first x k = length-append (map (λ ys. x ∷ ys) (rest x)) (headed (suc x) k rest) ∙ ap (λ (n : ℕ). n + length (headed (suc x) k rest)) (length-map (rest x) (λ ys. x ∷ ys))

  pub length_none : (x : ℕ) → length (headed x 0 rest) ≡ 0
  unfolding headed
  length_none x = refl

  -- one more number in front
  pub length-next : (k x : ℕ) → length (headed x (suc k) rest) ≡ length (headed x k rest) + length (rest (x + k))
  length-next zero x = length-first x 0 ∙ rw (length_none (suc x), length_none x, add-zero x) (omega arith)
  length-next (suc k) x =
      length-first x (suc k) ∙ ap (λ (n : ℕ). length (rest x) + n) (length-next k (suc x)) ∙ rw (length-first x k, suc-add x k, add-suc x k) (omega arith)

  -- the lists with the c-th number in front stand after those with fewer
  pub headed-at : (c k x q : ℕ) → c < k → q < length (rest (x + c)) → get_or (headed x k rest) (length (headed x c rest) + q) [] ≡ (x + c) ∷ get_or (rest (x + c)) q []
  unfolding headed
  headed-at c zero x q h i = absurd (not-suc-le-zero h)
  headed-at zero (suc k) x q h i =
      let j : q < length (rest x) = rw (add-zero x) at i in
      let m = map (λ (ys : List ℕ). x ∷ ys) (rest x) in
      rw (zero-add q, add-zero x) (get_or-append m (headed (suc x) k rest) [] q (omega (arith, length-map (rest x) (λ ys. x ∷ ys))) ∙ get_or-map-in x (rest x) q j)
  headed-at (suc c) (suc k) x q h i =
      let m = map (λ (ys : List ℕ). x ∷ ys) (rest x) in
      let e : x + suc c ≡ suc x + c = omega arith in
      let n : length (m ++ headed (suc x) c rest) + q ≡ length m + (length (headed (suc x) c rest) + q) = omega (arith, length-append m (headed (suc x) c rest)) in
      rw (n, e) (get_or-append-add m (headed (suc x) k rest) (length (headed (suc x) c rest) + q) [] ∙ headed-at c k (suc x) q (omega arith) (rw e at i))

  pub headed-below : (c k x q : ℕ) → c < k → q < length (rest (x + c)) → length (headed x c rest) + q < length (headed x k rest)
  headed-below c zero x q h i = absurd (not-suc-le-zero h)
  headed-below zero (suc k) x q h i = omega (arith, length_none x, length-first x k, rw (add-zero x) at i)
  headed-below (suc c) (suc k) x q h i =
      let e : x + suc c ≡ suc x + c = omega arith in
      omega (arith, length-first x c, length-first x k, headed-below c k (suc x) q (omega arith) (rw e at i))

  pub headed-all : (P : List ℕ → Type 0) (k x : ℕ) → ((y : ℕ) → x ≤ y → y < x + k → All (λ ys. P (y ∷ ys)) (rest y)) → All P (headed x k rest)
  unfolding headed
  headed-all P zero x h = tt
  headed-all P (suc k) x h =
      all_append P (map (λ ys. x ∷ ys) (rest x)) (headed (suc x) k rest) (all_map P x (rest x) (h x (omega arith) (omega arith))) (headed-all P k (suc x) (λ y a b. h y (omega arith) (omega arith)))

  -- its lists start with the number x or a larger one
  abbrev From : ℕ → List ℕ → Type 0
  From x [] = ⊥
  From x (y ∷ ys) = x ≤ y

  from-before : (x : ℕ) (ys z : List ℕ) → From (suc x) z → Before (x ∷ ys) z
  from-before x ys [] h = h
  from-before x ys (y ∷ zs) h = inl h

  same-before : (x : ℕ) (ys zs : List ℕ) → Before ys zs → Before (x ∷ ys) (x ∷ zs)
  same-before x ys zs h = inr (refl, h)

  rises-map : (x : ℕ) (l : List (List ℕ)) → Rises l → Rises (map (λ ys. x ∷ ys) l)
  rises-map x [] h = tt
  rises-map x (ys ∷ l) h = (all_map (Before (x ∷ ys)) x l (all-weaken (Before ys) (λ zs. Before (x ∷ ys) (x ∷ zs)) (same-before x ys) l h.0), rises-map x l h.1)

  pub headed-rises : ((y : ℕ) → Rises (rest y)) → (k x : ℕ) → Rises (headed x k rest)
  unfolding headed
  headed-rises h zero x = tt
  headed-rises h (suc k) x =
      let later = headed (suc x) k rest in
      let above : All (From (suc x)) later = headed-all (From (suc x)) k (suc x) (λ y a b. all-each (λ ys. suc x ≤ y) (rest y) (λ z. a)) in
      let first : All (λ (z : List ℕ). All (Before z) later) (map (λ ys. x ∷ ys) (rest x)) = all_map (λ z. All (Before z) later) x (rest x) (all-each (λ ys. All (Before (x ∷ ys)) later) (rest x) (λ ys. all-weaken (From (suc x)) (Before (x ∷ ys)) (from-before x ys) later above)) in
      rises-append (map (λ ys. x ∷ ys) (rest x)) later (rises-map x (rest x) (h x)) (headed-rises h k (suc x)) first

-- the same lists after each number
pub length-same : (l : List (List ℕ)) (k x : ℕ) → length (headed x k (λ _. l)) ≡ k * length l
length-same l zero x = length_none (λ _. l) x ∙ sym (zero-mul (length l))
length-same l (suc k) x = length-next (λ _. l) k x ∙ rw (length-same l k x, suc-mul k (length l))
