-- The laws of `number` and `bytes_of`: one law for every width.
-- Assumes nothing.
use Prim.Native.Nat.{ℕ, zero, suc, ◌+◌, ◌*◌, ◌/◌, ◌%◌, ◌^◌, ◌≤◌, ◌<◌}
use mathlib.Core.Path.{◌≡◌, refl, sym, ap, ap₂, ◌∙◌}
use mathlib.Core.List.{List, [], ◌∷◌}
use native.Mathlib.Omega.{arith}
use native.Mathlib.Numerals.{add-one}
use native.Mathlib.Nat.{pow-suc, div-div-eq-div-mul, mul_assoc, mul_comm}
use lib.ListN.{length, get_or, take}
use lib.Seq.{drop-cons, take-length}
use Rattle.std.specs.Int.{byte_at, byte_worth, bytes_low_first, sum_through}
use Rattle.codec.specs.Lists.{part, splice, All}
use Rattle.codec.specs.Numbers.{number, bytes_of}
use Rattle.codec.proofs.Lists.{part-splice-same}

pub length-bytes_of : (n v : ℕ) → length (bytes_of n v) ≡ n
unfolding bytes_of
length-bytes_of zero v = refl
length-bytes_of (suc n) v = ap suc (length-bytes_of n (v / 256))

-- the number of a number's bytes
pub number-bytes_of : (n v : ℕ) → v < 256 ^ n → number (bytes_of n v) ≡ v
unfolding number bytes_of
number-bytes_of zero v h = omega arith
number-bytes_of (suc n) v h =
    let k : v / 256 < 256 ^ n = omega (arith, pow-suc 256 n) in
    rw (number-bytes_of n (v / 256) k) (omega arith)

-- the bytes of the number that bytes hold
pub bytes_of-number : (l : List ℕ) → All (λ (b : ℕ). b < 256) l → bytes_of (length l) (number l) ≡ l
unfolding number bytes_of
bytes_of-number [] h = refl
bytes_of-number (b ∷ l) h =
    let low : (b + 256 * number l) % 256 ≡ b = omega arith in
    let high : (b + 256 * number l) / 256 ≡ number l = omega arith in
    rw (low, high, bytes_of-number l h.1)

pub number_bound : (l : List ℕ) → All (λ (b : ℕ). b < 256) l → number l < 256 ^ length l
unfolding number
number_bound [] h = omega arith
number_bound (b ∷ l) h = omega (arith, pow-suc 256 (length l), number_bound l h.1)

-- a number that was written is read back
pub number-back : (l : List ℕ) (o n v : ℕ) → o + n ≤ length l → v < 256 ^ n → number (part (splice l o (bytes_of n v)) o n) ≡ v
number-back l o n v fits small =
    let long : o + length (bytes_of n v) ≤ length l = omega (arith, length-bytes_of n v) in
    ap number (part-splice-same l o (bytes_of n v) long n (length-bytes_of n v)) ∙ number-bytes_of n v small

-- ---- the library's words for a number's bytes

number-more : (l : List ℕ) (k : ℕ) → k < length l → number (take (suc k) l) ≡ number (take k l) + get_or l k 0 * 256 ^ k
unfolding number
number-more [] k h = absurd (omega arith)
number-more (b ∷ l) zero h = omega arith
number-more (b ∷ l) (suc k) h =
    let g = get_or l k 0 in
    let e : g * 256 ^ suc k ≡ 256 * (g * 256 ^ k) = ap (λ (m : ℕ). g * m) (pow-suc 256 k) ∙ sym (mul_assoc g (256 ^ k) 256) ∙ mul_comm (g * 256 ^ k) 256 in
    omega (arith, e, number-more l k (omega arith))

-- a byte and its place, as `from_le_bytes` has them
worth : (i b : ℕ) → byte_worth i b ≡ b * 256 ^ i
worth zero b = omega arith
worth (suc i) b = refl

sum-number : (l : List ℕ) (k : ℕ) → k < length l → sum_through (λ i. byte_worth i (get_or l i 0)) k ≡ number (take (suc k) l)
unfolding number
sum-number [] k h = absurd (omega arith)
sum-number (b ∷ l) zero h = omega arith
sum-number (b ∷ l) (suc k) h =
    rw (sum-number (b ∷ l) k (omega arith)) (sym (number-more (b ∷ l) (suc k) h))

-- what `from_le_bytes` gives
pub from_le-number : (l : List ℕ) (k : ℕ) → length l ≡ suc k → sum_through (λ i. byte_worth i (get_or l i 0)) k ≡ number l
from_le-number l k e = sum-number l k (omega arith) ∙ ap (λ (n : ℕ). number (take n l)) (sym e) ∙ ap number (take-length l)

low : (i v : ℕ) → byte_at i v ≡ v / 256 ^ i % 256
low zero v = omega arith
low (suc i) v = refl

low-first : (k i v : ℕ) → bytes_low_first i k v ≡ bytes_of k (v / 256 ^ i)
unfolding bytes_of
low-first zero i v = refl
low-first (suc k) i v =
    let e : v / 256 ^ suc i ≡ v / 256 ^ i / 256 = ap (λ (m : ℕ). v / m) (pow-suc 256 i) ∙ sym (div-div-eq-div-mul v (256 ^ i) 256) in
    ap₂ (λ (b : ℕ) (bs : List ℕ). b ∷ bs) (low i v) (low-first k (suc i) v ∙ ap (bytes_of k) e)

-- what `to_le_bytes` gives
pub to_le-bytes_of : (n v : ℕ) → bytes_low_first 0 n v ≡ bytes_of n v
to_le-bytes_of n v = low-first n 0 v ∙ ap (bytes_of n) (omega arith)

-- two bytes of a number are those of its two low bytes
pub bytes_of-two : (v : ℕ) → bytes_of 2 (v % 65536) ≡ bytes_of 2 v
unfolding bytes_of
bytes_of-two v =
    let e : v % 65536 % 256 ≡ v % 256 = omega arith in
    let f : v % 65536 / 256 % 256 ≡ v / 256 % 256 = omega arith in
    rw (e, f)

-- ---- a number read in pieces

pub number-two : (l : List ℕ) (o : ℕ) → o + 2 ≤ length l → number (part l o 2) ≡ get_or l o 0 + 256 * get_or l (o + 1) 0
unfolding number part
number-two l o h = rw (drop-cons l o 0 (omega arith), drop-cons l (suc o) 0 (omega arith), add-one) (omega arith)
