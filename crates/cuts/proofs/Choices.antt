-- The choices for lines with so many pending stores: as many as the product of the lines' numbers, each at its own place, rising.
-- Assumes nothing.
use Prim.Native.Nat.{ℕ, zero, suc, ◌+◌, ◌*◌, ◌≤◌, ◌<◌}
use mathlib.Core.Path.{◌≡◌, refl, sym, ap, ◌∙◌}
use mathlib.Core.List.{List, [], ◌∷◌}
use native.Mathlib.Omega.{arith}
use native.Mathlib.Nat.{mul_left_comm, mul-le-mul, mul-le-mul_right, suc-mul, one-mul, zero-add, le_of_suc-le-suc, not-suc-le-zero}
use lib.ListN.{length, get_or, set}
use lib.Seq.{set-get_or}
use Rattle.codec.specs.Lists.{All}
use Rattle.cuts.specs.All.{headed, choices_up_to}
use Rattle.cuts.specs.Products.{ways}
use Rattle.cuts.proofs.Headed.{Rises, headed-at, headed-all, headed-rises, length-same}

-- ---- the product

-- a line's number is a factor
pub ways-set : (ms : List ℕ) (l v : ℕ) → l < length ms → ways (set ms l v) ≡ suc v * ways (set ms l 0)
unfolding ways
ways-set [] l v h = absurd (not-suc-le-zero h)
ways-set (m ∷ ms) zero v h = ap (λ (x : ℕ). suc v * x) (sym (one-mul (ways ms)))
ways-set (m ∷ ms) (suc l) v h = ap (λ (x : ℕ). suc m * x) (ways-set ms l v (le_of_suc-le-suc h)) ∙ mul_left_comm (suc m) (suc v) (ways (set ms l 0))

pub ways-factor : (ms : List ℕ) (l : ℕ) → l < length ms → ways ms ≡ suc (get_or ms l 0) * ways (set ms l 0)
ways-factor ms l h = sym (ap ways (set-get_or ms l 0)) ∙ ways-set ms l (get_or ms l 0) h

-- fewer stores of each line leave fewer choices
pub ways-fewer : (ms ns : List ℕ) → length ms ≡ length ns → ((l : ℕ) → get_or ms l 0 ≤ get_or ns l 0) → ways ms ≤ ways ns
unfolding ways
ways-fewer [] [] e h = omega arith
ways-fewer [] (n ∷ ns) e h = absurd (omega arith)
ways-fewer (m ∷ ms) [] e h = absurd (omega arith)
ways-fewer (m ∷ ms) (n ∷ ns) e h = mul-le-mul {n₁ = suc m} {m₁ = ways ms} {n₂ = suc n} {m₂ = ways ns} (omega (arith, h 0)) (ways-fewer ms ns (omega arith) (λ l. h (suc l)))

-- ---- the list

pub length-choices : (ms : List ℕ) → length (choices_up_to ms) ≡ ways ms
unfolding choices_up_to ways
length-choices [] = refl
length-choices (m ∷ ms) = length-same (choices_up_to ms) (suc m) 0 ∙ ap (λ (x : ℕ). suc m * x) (length-choices ms)

pub choices-rise : (ms : List ℕ) → Rises (choices_up_to ms)
unfolding choices_up_to
choices-rise [] = (tt, tt)
choices-rise (m ∷ ms) = headed-rises (λ _. choices_up_to ms) (λ _. choices-rise ms) (suc m) 0

-- one choice a line, none above the line's number
pub record Within (ms ds : List ℕ) : Type 0 where
  pub per_line : length ds ≡ length ms
  pub up_to : (l : ℕ) → get_or ds l 0 ≤ get_or ms l 0

within-cons : (m d : ℕ) (ms ds : List ℕ) → d ≤ m → Within ms ds → Within (m ∷ ms) (d ∷ ds)
within-cons m d ms ds h w = record { per_line = ap suc w.per_line; up_to = go }
  where
    go : (l : ℕ) → get_or (d ∷ ds) l 0 ≤ get_or (m ∷ ms) l 0
    go zero = h
    go (suc l) = w.up_to l

pub choices-within : (ms : List ℕ) → All (Within ms) (choices_up_to ms)
unfolding choices_up_to
choices-within [] = (record { per_line = refl; up_to = λ l. omega arith }, tt)
choices-within (m ∷ ms) = headed-all (λ _. choices_up_to ms) (Within (m ∷ ms)) (suc m) 0 (λ y a b. weaken y (omega arith) (choices_up_to ms) (choices-within ms))
  where
    weaken : (y : ℕ) → y ≤ m → (l : List (List ℕ)) → All (Within ms) l → All (λ ys. Within (m ∷ ms) (y ∷ ys)) l
    weaken y h [] a = tt
    weaken y h (ys ∷ l) a = (within-cons m y ms ys h a.0, weaken y h l a.1)

-- ---- the place of a choice

-- the choices before it: the first line's number counts all choices of the others
unfoldable pub rank : List ℕ → List ℕ → ℕ
rank [] ds = 0
rank (m ∷ ms) [] = 0
rank (m ∷ ms) (d ∷ ds) = d * ways ms + rank ms ds

pub rank_below : (ms ds : List ℕ) → Within ms ds → rank ms ds < ways ms
unfolding rank ways
rank_below [] ds w = omega arith
rank_below (m ∷ ms) [] w = absurd (omega (arith, w.per_line))
rank_below (m ∷ ms) (d ∷ ds) w =
    let tail : Within ms ds = record { per_line = omega (arith, w.per_line); up_to = λ l. w.up_to (suc l) } in
    let some : suc d * ways ms ≤ suc m * ways ms = mul-le-mul_right (ways ms) (omega (arith, w.up_to 0)) in
    omega (arith, some, suc-mul d (ways ms), rank_below ms ds tail)

pub rank-at : (ms ds : List ℕ) → Within ms ds → get_or (choices_up_to ms) (rank ms ds) [] ≡ ds
unfolding rank choices_up_to
rank-at [] [] w = refl
rank-at [] (d ∷ ds) w = absurd (omega (arith, w.per_line))
rank-at (m ∷ ms) [] w = absurd (omega (arith, w.per_line))
rank-at (m ∷ ms) (d ∷ ds) w =
    let tail : Within ms ds = record { per_line = omega (arith, w.per_line); up_to = λ l. w.up_to (suc l) } in
    let all = choices_up_to ms in
    let start : d * ways ms + rank ms ds ≡ length (headed 0 d (λ _. all)) + rank ms ds = ap (λ (x : ℕ). x + rank ms ds) (sym (length-same all d 0 ∙ ap (λ (x : ℕ). d * x) (length-choices ms))) in
    let there : rank ms ds < length all = omega (arith, length-choices ms, rank_below ms ds tail) in
    ap (λ (i : ℕ). get_or (headed 0 (suc m) (λ _. all)) i []) start
    ∙ headed-at (λ _. all) d (suc m) 0 (rank ms ds) (omega (arith, w.up_to 0)) there
    ∙ rw (zero-add d, rank-at ms ds tail)
