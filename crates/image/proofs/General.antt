-- Lists in general: what codec's laws lack.
-- Assumes nothing.
use Prim.Native.Nat.{ℕ, zero, suc, ◌+◌, ◌≤◌}
use mathlib.Core.Path.{◌≡◌, refl, sym, ap, ◌∙◌}
use mathlib.Core.List.{List, [], ◌∷◌, ◌++◌, map}
use native.Mathlib.Omega.{arith}
use lib.ListN.{length, get_or, take, drop, replicate}
use lib.Seq.{take-take, take-nil, drop-drop, take_at, drop-append-add}
use Rattle.codec.specs.Lists.{part, All}

-- ---- a part of a part, a part of two lists joined

take-drop-take : (o n m : ℕ) (l : List ℕ) → o + n ≤ m → take n (drop o (take m l)) ≡ take n (drop o l)
take-drop-take zero n m l h = take-take n m l (omega arith)
take-drop-take (suc o) n m [] h = rw (take-nil m)
take-drop-take (suc o) n zero (x ∷ l) h = absurd (omega arith)
take-drop-take (suc o) n (suc m) (x ∷ l) h = take-drop-take o n m l (omega arith)

pub part-part : (l : List ℕ) (a m o n : ℕ) → o + n ≤ m → part (part l a m) o n ≡ part l (a + o) n
unfolding part
part-part l a m o n h = take-drop-take o n m (drop a l) h ∙ ap (take n) (drop-drop o a l)

pub part-front : (a b : List ℕ) (n : ℕ) → length a ≡ n → part (a ++ b) 0 n ≡ a
unfolding part
part-front a b n e = take_at a b n e

pub part-past : (a b : List ℕ) (k o n : ℕ) → length a ≡ k → part (a ++ b) (k + o) n ≡ part b o n
unfolding part
part-past a b k o n e = ap (λ (m : ℕ). take n (drop (m + o) (a ++ b))) (sym e) ∙ ap (take n) (drop-append-add a b o)

-- ---- any element

pub zeros-at : (n i : ℕ) → ◌≡◌ {A = ℕ} (get_or (replicate n 0) i 0) 0
zeros-at zero i = refl
zeros-at (suc n) zero = refl
zeros-at (suc n) (suc i) = zeros-at n i

pub map-append : {A B : Type 0} (f : A → B) (a b : List A) → map f (a ++ b) ≡ map f a ++ map f b
map-append f [] b = refl
map-append {B = B} f (x ∷ a) b = ap (λ (l : List B). f x ∷ l) (map-append f a b)

pub map_same : {A : Type 0} (l : List A) → map (λ (x : A). x) l ≡ l
map_same [] = refl
map_same {A} (x ∷ l) = ap (λ (m : List A). x ∷ m) (map_same l)

pub All-unmap : {A B : Type 0} (f : A → B) (P : B → Type 0) (l : List A) → All P (map f l) → All (λ (x : A). P (f x)) l
All-unmap f P [] h = tt
All-unmap f P (x ∷ l) h = (h.0, All-unmap f P l h.1)

module _ {A : Type 0} (P : A → Type 0) where
  pub All-any : ((x : A) → P x) → (l : List A) → All P l
  All-any f [] = tt
  All-any f (x ∷ l) = (f x, All-any f l)

  pub All-append : (a b : List A) → All P a → All P b → All P (a ++ b)
  All-append [] b h k = k
  All-append (x ∷ a) b h k = (h.0, All-append a b h.1 k)

  pub All-left : (a b : List A) → All P (a ++ b) → All P a
  All-left [] b h = tt
  All-left (x ∷ a) b h = (h.0, All-left a b h.1)

  pub All-right : (a b : List A) → All P (a ++ b) → All P b
  All-right [] b h = h
  All-right (x ∷ a) b h = All-right a b h.1

  pub All-middle : (a : List A) (x : A) (b : List A) → All P (a ++ x ∷ b) → P x
  All-middle [] x b h = h.0
  All-middle (y ∷ a) x b h = All-middle a x b h.1
