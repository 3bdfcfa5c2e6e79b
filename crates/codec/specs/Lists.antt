-- Lists: a part, a part written over, one element put in or taken out, and tests over a list.
-- Assumes nothing.
use Rattle.std.specs.Prelude.{ℕ, zero, suc, ◌+◌, Bool, true, false, ◌&&◌, List, [], ◌∷◌, ◌++◌, length, take, drop, eqb}

-- the first of two where the test holds, else the second
abbrev pub pick {ℓ} : {A : Type ℓ} → Bool → A → A → A
pick true a b = a
pick false a b = b

-- the n elements of l from place o on, or those of them that there are
unfoldable pub part : List ℕ → ℕ → ℕ → List ℕ
part l o n = take n (drop o l)

-- l with `new` written over what stands from place o on
unfoldable pub splice : List ℕ → ℕ → List ℕ → List ℕ
splice l o new = take o l ++ (new ++ drop (o + length new) l)

-- l with a put in as its i-th element, or as its last
unfoldable pub insert_at {ℓ} : {A : Type ℓ} → ℕ → A → List A → List A
insert_at zero a l = a ∷ l
insert_at (suc i) a [] = a ∷ []
insert_at (suc i) a (x ∷ l) = x ∷ insert_at i a l

-- l without its i-th element
unfoldable pub remove_at {ℓ} : {A : Type ℓ} → ℕ → List A → List A
remove_at i [] = []
remove_at zero (x ∷ l) = l
remove_at (suc i) (x ∷ l) = x ∷ remove_at i l

-- whether two lists are equal
unfoldable pub eqs : List ℕ → List ℕ → Bool
eqs [] [] = true
eqs [] (y ∷ ys) = false
eqs (x ∷ xs) [] = false
eqs (x ∷ xs) (y ∷ ys) = eqb x y && eqs xs ys

-- whether all of these tests hold
unfoldable pub every : List Bool → Bool
every [] = true
every (b ∷ bs) = b && every bs

-- whether f holds of each element
unfoldable pub all_b {ℓ} : {A : Type ℓ} → (A → Bool) → List A → Bool
all_b f [] = true
all_b f (x ∷ l) = f x && all_b f l

-- P holds of each element
abbrev pub All {ℓ} : {A : Type ℓ} → (A → Type 0) → List A → Type 0
All P [] = Unit {0}
All P (x ∷ l) = P x × All P l
