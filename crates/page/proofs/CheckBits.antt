-- Numbers as sets of places: a run of places is free of a set of marks exactly if it is apart from every run that was marked.
-- Assumes nothing.
use Rattle.std.proofs.Common.{◌≡◌, ℕ, suc, ◌+◌, ◌-◌, ◌*◌, ◌/◌, ◌%◌, ◌^◌, ◌<◌, ◌≤◌, min, max, Bool, true, false, eqb, leb, ◌⊎◌, sym, refl, ap, ◌∙◌, inl, inr, lt_of_lt_of_le, add-zero, mul_assoc, add_comm, one-mul, pow-suc, add-one, arith, pow_pos, pow_mono, pow-add, shl_exact, shr-shr, eq-eqb, ne_eqb, eqb-true, leb-false, leb-true}
use native.Mathlib.Nat.{zero-div, div-eq_of_lt, mul-mod_left}
use lib.Arith.{bin_ind}
use lib.Pow.{shl-shr, ones_lt, ones_split, high, split}
use lib.Bits.{bit_and, bit_or, and_step, or_step, and_shr, or_shr, and_block, or_block, or_add_and, and_le_l, and_le_r}
use Rattle.page.proofs.CheckBytes.{same_test}

-- ---- binary digits

-- the i-th binary digit of x: whether i is in the set
abbrev digit : ℕ → ℕ → ℕ
digit x i = x / 2 ^ i % 2

digit_and : (x y i : ℕ) → digit (bit_and x y) i ≡ min (digit x i) (digit y i)
digit_and x y i = rw (and_shr x y i) (omega (arith, and_step (x / 2 ^ i) (y / 2 ^ i)))

digit_or : (x y i : ℕ) → digit (bit_or x y) i ≡ max (digit x i) (digit y i)
digit_or x y i = rw (or_shr x y i) (omega (arith, or_step (x / 2 ^ i) (y / 2 ^ i)))

digit-zero : (x i : ℕ) → x ≡ 0 → digit x i ≡ 0
digit-zero x i e = rw (e, zero-div (2 ^ i))

-- a number none of whose digits is set
no-digits : (x : ℕ) → ((i : ℕ) → digit x i ≡ 0) → x ≡ 0
no-digits = bin_ind (λ (x : ℕ). ((i : ℕ) → digit x i ≡ 0) → x ≡ 0) (λ h. refl) step
  where
    step : (x : ℕ) → (((i : ℕ) → digit (x / 2) i ≡ 0) → x / 2 ≡ 0) → ((i : ℕ) → digit x i ≡ 0) → x ≡ 0
    step x ih h =
        let low : x / 1 % 2 ≡ 0 = h 0 in
        let rest : x / 2 ≡ 0 = ih (λ i. ap (λ (y : ℕ). y % 2) (shr-shr x 1 i ∙ ap (λ (k : ℕ). x / 2 ^ k) (add_comm 1 i ∙ add-one i)) ∙ h (suc i)) in
        omega arith

-- two numbers with no digit in common
apart-digits : (x y : ℕ) → bit_and x y ≡ 0 → (i : ℕ) → min (digit x i) (digit y i) ≡ 0
apart-digits x y e i = sym (digit_and x y i) ∙ digit-zero (bit_and x y) i e

digits-apart : (x y : ℕ) → ((i : ℕ) → min (digit x i) (digit y i) ≡ 0) → bit_and x y ≡ 0
digits-apart x y h = no-digits (bit_and x y) (λ i. digit_and x y i ∙ h i)

-- numbers joined are 0 exactly if each is
pub or-none : (x y : ℕ) → bit_or x y ≡ 0 → (x ≡ 0) × (y ≡ 0)
or-none x y e = (omega (arith, or_add_and x y, and_le_r x y), omega (arith, or_add_and x y, and_le_l x y))

pub none_or : (x y : ℕ) → x ≡ 0 → y ≡ 0 → bit_or x y ≡ 0
none_or x y e f = rw (e, f)

-- ---- a run of places

-- the k places from u on
unfoldable pub run : ℕ → ℕ → ℕ
run u k = (2 ^ k - 1) * 2 ^ u

run-below : (u k i : ℕ) → i < u → digit (run u k) i ≡ 0
unfolding run
run-below u k i h =
    let e : u ≡ suc (u - suc i) + i = omega arith in
    let f : run u k ≡ (2 ^ k - 1) * 2 ^ suc (u - suc i) * 2 ^ i =
    ap (λ (n : ℕ). (2 ^ k - 1) * 2 ^ n) e ∙ ap (λ (n : ℕ). (2 ^ k - 1) * n) (pow-add 2 (suc (u - suc i)) i) ∙ sym (mul_assoc (2 ^ k - 1) _ _) in
    ap (λ (n : ℕ). n / 2 ^ i % 2) f ∙ ap (λ (n : ℕ). n % 2) (shl-shr ((2 ^ k - 1) * 2 ^ suc (u - suc i)) i)
    ∙ ap (λ (n : ℕ). (2 ^ k - 1) * n % 2) (pow-suc 2 (u - suc i)) ∙ ap (λ (n : ℕ). n % 2) (sym (mul_assoc (2 ^ k - 1) (2 ^ (u - suc i)) 2)) ∙ mul-mod_left _ 2

-- from u on, the digits of k ones
run-from : (u k j : ℕ) → digit (run u k) (u + j) ≡ digit (2 ^ k - 1) j
unfolding run
run-from u k j = ap (λ (n : ℕ). n % 2) (sym (shr-shr (run u k) u j) ∙ ap (λ (n : ℕ). n / 2 ^ j) (shl-shr (2 ^ k - 1) u))

ones-inside : (k j : ℕ) → j < k → digit (2 ^ k - 1) j ≡ 1
ones-inside k j h =
    let e : k ≡ suc (k - suc j) + j = omega arith in
    ap (λ (n : ℕ). (2 ^ n - 1) / 2 ^ j % 2) e
    ∙ ap (λ (n : ℕ). n / 2 ^ j % 2) (ones_split (suc (k - suc j)) j)
    ∙ ap (λ (n : ℕ). n % 2) (high (2 ^ suc (k - suc j) - 1) j (ones_lt j))
    ∙ rw (pow-suc 2 (k - suc j)) (omega (arith, pow_pos (k - suc j)))

ones-past : (k j : ℕ) → k ≤ j → digit (2 ^ k - 1) j ≡ 0
ones-past k j h = ap (λ (n : ℕ). n % 2) (div-eq_of_lt (lt_of_lt_of_le (ones_lt k) (pow_mono h)))

run_in : (u k i : ℕ) → u ≤ i → i < u + k → digit (run u k) i ≡ 1
run_in u k i h l =
    let e : i ≡ u + (i - u) = omega arith in
    ap (digit (run u k)) e ∙ run-from u k (i - u) ∙ ones-inside k (i - u) (omega arith)

run_past : (u k i : ℕ) → u + k ≤ i → digit (run u k) i ≡ 0
run_past u k i h =
    let e : i ≡ u + (i - u) = omega arith in
    ap (digit (run u k)) e ∙ run-from u k (i - u) ∙ ones-past k (i - u) (omega arith)

-- two runs have no place in common exactly if one ends before the other begins
pub run-before : (u k v m : ℕ) → u + k ≤ v → bit_and (run u k) (run v m) ≡ 0
run-before u k v m h = digits-apart (run u k) (run v m) (λ i. go i (leb v i) refl)
  where
    go : (i : ℕ) (t : Bool) → leb v i ≡ t → min (digit (run u k) i) (digit (run v m) i) ≡ 0
    go i true e = omega (arith, run_past u k i (omega (arith, leb-true v i e)))
    go i false e = omega (arith, run-below v m i (leb-false v i e))

pub run-off : (u k v m : ℕ) → 0 < k → 0 < m → bit_and (run u k) (run v m) ≡ 0 → (u + k ≤ v) ⊎ (v + m ≤ u)
run-off u k v m hk hm e = go (leb (u + k) v) refl (leb (v + m) u) refl
  where
    shared : (i : ℕ) → u ≤ i → i < u + k → v ≤ i → i < v + m → ⊥
    shared i a b c d = omega (arith, apart-digits (run u k) (run v m) e i, run_in u k i a b, run_in v m i c d)

    go : (s : Bool) → leb (u + k) v ≡ s → (t : Bool) → leb (v + m) u ≡ t → (u + k ≤ v) ⊎ (v + m ≤ u)
    go true p t q = inl (leb-true (u + k) v p)
    go false p true q = inr (leb-true (v + m) u q)
    go false p false q =
        let a = leb-false (u + k) v p in
        let b = leb-false (v + m) u q in
        absurd (shared (max u v) (omega arith) (omega arith) (omega arith) (omega arith))

-- ---- marks

-- a set apart from two sets is apart from both together
module _ (x y z : ℕ) where
  pub free-first : bit_and (bit_or x y) z ≡ 0 → bit_and x z ≡ 0
  free-first e = digits-apart x z (λ i. omega (arith, apart-digits (bit_or x y) z e i, digit_or x y i))

  pub free-second : bit_and (bit_or x y) z ≡ 0 → bit_and y z ≡ 0
  free-second e = digits-apart y z (λ i. omega (arith, apart-digits (bit_or x y) z e i, digit_or x y i))

  pub free-both : bit_and x z ≡ 0 → bit_and y z ≡ 0 → bit_and (bit_or x y) z ≡ 0
  free-both e f = digits-apart (bit_or x y) z (λ i. omega (arith, apart-digits x z e i, apart-digits y z f i, digit_or x y i))

-- ---- a set of 128 places in two words, those from 64 on in the first

same-zero : (x y : ℕ) → (x ≡ 0 → y ≡ 0) → (y ≡ 0 → x ≡ 0) → eqb x 0 ≡ eqb y 0
same-zero x y f g = same_test (eqb x 0) (eqb y 0) (λ t. eq-eqb y 0 (f (eqb-true x 0 t))) (λ t. eq-eqb x 0 (g (eqb-true y 0 t)))

module _ (a b c d : ℕ) (hb : b < 2 ^ 64) (hd : d < 2 ^ 64) where
  words-and : bit_and (a * 2 ^ 64 + b) (c * 2 ^ 64 + d) ≡ bit_and a c * 2 ^ 64 + bit_and b d
  words-and = and_block 64 a c b d hb hd

  pub words-meet : (bit_and b d ≡ 0 → ⊥) → eqb (bit_and (a * 2 ^ 64 + b) (c * 2 ^ 64 + d)) 0 ≡ false
  words-meet h = ne_eqb (bit_and (a * 2 ^ 64 + b) (c * 2 ^ 64 + d)) 0 (λ e. h (omega (arith, words-and)))

  pub words-apart : bit_and b d ≡ 0 → eqb (bit_and (a * 2 ^ 64 + b) (c * 2 ^ 64 + d)) 0 ≡ eqb (bit_and a c) 0
  words-apart z = same-zero (bit_and (a * 2 ^ 64 + b) (c * 2 ^ 64 + d)) (bit_and a c) (λ e. omega (arith, words-and)) (λ e. omega (arith, words-and))

  pub words-or : bit_or a c * 2 ^ 64 + bit_or b d ≡ bit_or (a * 2 ^ 64 + b) (c * 2 ^ 64 + d)
  words-or = sym (or_block 64 a c b d hb hd)

-- k ones, by a shift
pub ones-shifted : (k : ℕ) → k < 64 → 1 * 2 ^ k % 2 ^ 64 ≡ 2 ^ k
ones-shifted k h = shl_exact {a = 1} 1 k 64 (omega arith) (omega arith) ∙ one-mul (2 ^ k)

-- the two words of a run, by shifts
pub run-lower : (u k : ℕ) → u < 64 → (2 ^ k - 1) / 2 ^ (64 - u) * 2 ^ 64 + (2 ^ k - 1) * 2 ^ u % 2 ^ 64 ≡ run u k
unfolding run
run-lower u k h =
    let e : u + (64 - u) ≡ 64 = omega arith in
    let f : (2 ^ k - 1) / 2 ^ (64 - u) ≡ (2 ^ k - 1) * 2 ^ u / 2 ^ 64 =
    ap (λ (n : ℕ). n / 2 ^ (64 - u)) (sym (shl-shr (2 ^ k - 1) u)) ∙ shr-shr ((2 ^ k - 1) * 2 ^ u) u (64 - u) ∙ ap (λ (n : ℕ). (2 ^ k - 1) * 2 ^ u / 2 ^ n) e in
    ap (λ (n : ℕ). n * 2 ^ 64 + (2 ^ k - 1) * 2 ^ u % 2 ^ 64) f ∙ split ((2 ^ k - 1) * 2 ^ u) 64

pub run-upper : (u k : ℕ) → 64 ≤ u → u + k ≤ 128 → (2 ^ k - 1) * 2 ^ (u - 64) % 2 ^ 64 * 2 ^ 64 + 0 ≡ run u k
unfolding run
run-upper u k h l =
    let e : u - 64 + 64 ≡ u = omega arith in
    ap (λ (n : ℕ). n * 2 ^ 64 + 0) (shl_exact k (u - 64) 64 (ones_lt k) (omega arith))
    ∙ add-zero _
    ∙ mul_assoc (2 ^ k - 1) (2 ^ (u - 64)) (2 ^ 64)
    ∙ ap (λ (n : ℕ). (2 ^ k - 1) * n) (sym (pow-add 2 (u - 64) 64) ∙ ap (λ (n : ℕ). 2 ^ n) e)
