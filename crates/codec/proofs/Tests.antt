-- The laws of the tests of `specs/Lists.antt`: what a test that holds says, and how one is made.
-- Assumes nothing.
use Prim.Native.Nat.{ℕ, zero, suc}
use mathlib.Core.Path.{◌≡◌, refl, ap}
use mathlib.Core.Bool.{Bool, true, false, ◌&&◌, false≢true}
use mathlib.Core.List.{List, [], ◌∷◌, ◌++◌}
use lib.ListN.{get_or, take, drop, set}
use lib.Dec.{eqb}
use lib.Pointwise.{pointwise}
use borrow.Author.Tests.{eqb-true, eq-eqb}
use Rattle.codec.specs.Lists.{eqs, every, all_b, All, insert_at, remove_at}

-- ---- two tests, and a list of tests

pub both : {a b : Bool} → a ≡ true → b ≡ true → (a && b) ≡ true
both p q = rw (p, q)

pub first : (a b : Bool) → (a && b) ≡ true → a ≡ true
first true b h = refl
first false b h = h

pub second : (a b : Bool) → (a && b) ≡ true → b ≡ true
second true b h = h
second false b h = absurd (false≢true h)

-- a test that is not true is false
pub not-true : (b : Bool) → (b ≡ true → ⊥) → b ≡ false
not-true true h = absurd (h refl)
not-true false h = refl

-- each of the tests, as a tuple nested to the right
pub everything : (l : List Bool) → every l ≡ true → All (λ (b : Bool). b ≡ true) l
unfolding every
everything [] h = tt
everything (b ∷ l) h = (first b (every l) h, everything l (second b (every l) h))

pub all-every : (l : List Bool) → All (λ (b : Bool). b ≡ true) l → every l ≡ true
unfolding every
all-every [] h = refl
all-every (b ∷ l) h = both h.0 (all-every l h.1)

-- ---- a test of each element

module _ {ℓ} {A : Type ℓ} where
  pub all_b-true : (f : A → Bool) (P : A → Type 0) → ((x : A) → f x ≡ true → P x) → (l : List A) → all_b f l ≡ true → All P l
  unfolding all_b
  all_b-true f P k [] h = tt
  all_b-true f P k (x ∷ l) h = (k x (first (f x) (all_b f l) h), all_b-true f P k l (second (f x) (all_b f l) h))

  pub true-all_b : (f : A → Bool) (P : A → Type 0) → ((x : A) → P x → f x ≡ true) → (l : List A) → All P l → all_b f l ≡ true
  unfolding all_b
  true-all_b f P k [] h = refl
  true-all_b f P k (x ∷ l) h = both (k x h.0) (true-all_b f P k l h.1)

  pub All-map : (P Q : A → Type 0) → ((x : A) → P x → Q x) → (l : List A) → All P l → All Q l
  All-map P Q k [] h = tt
  All-map P Q k (x ∷ l) h = (k x h.0, All-map P Q k l h.1)

  pub All-insert : (P : A → Type 0) (i : ℕ) (a : A) (l : List A) → P a → All P l → All P (insert_at i a l)
  unfolding insert_at
  All-insert P zero a l p h = (p, h)
  All-insert P (suc i) a [] p h = (p, tt)
  All-insert P (suc i) a (x ∷ l) p h = (h.0, All-insert P i a l p h.1)

  pub All-set : (P : A → Type 0) (i : ℕ) (a : A) (l : List A) → P a → All P l → All P (set l i a)
  All-set P i a [] p h = tt
  All-set P zero a (x ∷ l) p h = (p, h.1)
  All-set P (suc i) a (x ∷ l) p h = (h.0, All-set P i a l p h.1)

  pub All-remove : (P : A → Type 0) (i : ℕ) (l : List A) → All P l → All P (remove_at i l)
  unfolding remove_at
  All-remove P i [] h = tt
  All-remove P zero (x ∷ l) h = h.1
  All-remove P (suc i) (x ∷ l) h = (h.0, All-remove P i l h.1)

  pub All-take : (P : A → Type 0) (n : ℕ) (l : List A) → All P l → All P (take n l)
  All-take P zero l h = tt
  All-take P (suc n) [] h = tt
  All-take P (suc n) (x ∷ l) h = (h.0, All-take P n l h.1)

  pub All-drop : (P : A → Type 0) (n : ℕ) (l : List A) → All P l → All P (drop n l)
  All-drop P zero l h = h
  All-drop P (suc n) [] h = tt
  All-drop P (suc n) (x ∷ l) h = All-drop P n l h.1

  -- what holds at each index
  pub All-get_or : (P : A → Type 0) (d : A) (l : List A) → ((i : ℕ) → P (get_or l i d)) → All P l
  All-get_or P d [] h = tt
  All-get_or P d (x ∷ l) h = (h 0, All-get_or P d l (λ i. h (suc i)))

-- ---- lists compared

pub eqs-true : (a b : List ℕ) → eqs a b ≡ true → a ≡ b
unfolding eqs
eqs-true [] [] h = refl
eqs-true [] (y ∷ b) h = absurd (false≢true h)
eqs-true (x ∷ a) [] h = absurd (false≢true h)
eqs-true (x ∷ a) (y ∷ b) h =
    let e : x ≡ y = eqb-true x y (first (eqb x y) (eqs a b) h) in
    let f : a ≡ b = eqs-true a b (second (eqb x y) (eqs a b) h) in
    cc

pub eqs-same : (a : List ℕ) → eqs a a ≡ true
unfolding eqs
eqs-same [] = refl
eqs-same (x ∷ a) = both (eq-eqb x x refl) (eqs-same a)

-- what `==` of two slices says
pub eqs-pointwise : (a b : List ℕ) → pointwise eqb a b ≡ eqs a b
unfolding eqs
eqs-pointwise [] [] = refl
eqs-pointwise [] (y ∷ b) = refl
eqs-pointwise (x ∷ a) [] = refl
eqs-pointwise (x ∷ a) (y ∷ b) = ap (λ (r : Bool). eqb x y && r) (eqs-pointwise a b)

-- the same in front makes no difference
pub eqs-append : (x a b : List ℕ) → eqs (x ++ a) (x ++ b) ≡ eqs a b
unfolding eqs
eqs-append [] a b = refl
eqs-append (y ∷ x) a b = rw (eq-eqb y y refl) (eqs-append x a b)

pub eqs-differ : (a b : List ℕ) → (a ≡ b → ⊥) → eqs a b ≡ false
eqs-differ a b h = not-true (eqs a b) (λ e. h (eqs-true a b e))
