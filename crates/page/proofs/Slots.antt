-- The slots in the code: read and written one by one, and one put in or taken out by moving the others by one place.
-- Assumes nothing.
use Rattle.std.proofs.Common.{◌≡◌, ℕ, zero, suc, ◌+◌, ◌-◌, ◌*◌, ◌/◌, ◌%◌, ◌<◌, ◌≤◌, List, [], ◌∷◌, ◌++◌, length, get_or, drop, set, replicate, refl, ap, subst, add-one, arith, length-append, drop-cons, drop-drop, zero-add}
use lib.Seq.{sets, paste, take_at, drop_at, set_at, drop-cons}
use Rattle.codec.specs.Lists.{splice, insert_at, remove_at}
use Rattle.codec.specs.Numbers.{bytes_of}
use Rattle.codec.proofs.Lists.{splice-sets, length-insert_at, length-remove_at}
use Rattle.page.specs.Layout.{slot_count, padded, slot_bytes}

-- ---- one by one

-- one slot more is written
pub slot_bytes-next : (p q : List ℕ) (o : ℕ) (xs : List ℕ) (i : ℕ) → i < length xs → get_or xs i 0 < 65536 → o + 2 * i + 2 ≤ length p →
    q ≡ splice p (o + 2 * i) (bytes_of 2 (get_or xs i 0)) → sets p (o + 2 * i) (slot_bytes (drop i xs)) ≡ sets q (o + 2 * (i + 1)) (slot_bytes (drop (i + 1) xs))
unfolding slot_bytes bytes_of
slot_bytes-next p q o xs i h small fits e =
    let k : o + 2 * (i + 1) ≡ suc (suc (o + 2 * i)) = omega arith in
    let f : get_or xs i 0 / 256 % 256 ≡ get_or xs i 0 / 256 = omega arith in
    let s = splice-sets p (o + 2 * i) (bytes_of 2 (get_or xs i 0)) fits in
    rw (drop-cons xs i 0 h, k, add-one, e, s, f)

-- ---- general list laws that codec does not have: an element put in

module _ {ℓ} {A : Type ℓ} where
  pub insert-last : (a : A) (l : List A) → insert_at (length l) a l ≡ l ++ (a ∷ [])
  unfolding insert_at
  insert-last a [] = refl
  insert-last a (x ∷ l) = ap (λ (r : List A). x ∷ r) (insert-last a l)

-- ---- by moving the others

-- a place is made for v as the i-th of os, where one more place follows
inserted-moved : (os z : List ℕ) (i n a v : ℕ) → n + i ≡ length os → set (paste (os ++ (a ∷ z)) (suc i) (drop i (os ++ (a ∷ z))) n) i v ≡ insert_at i v os ++ z
unfolding insert_at
inserted-moved [] z zero n a v e = let k : n ≡ 0 = omega arith in rw k refl
inserted-moved (x ∷ os) z zero n a v e =
    let f : length (x ∷ os) ≡ n = omega arith in
    let k : suc zero + n ≡ n + 1 = omega arith in
    let l = (x ∷ os) ++ (a ∷ z) in
    rw (k, ← drop-drop 1 n l, drop_at (x ∷ os) (a ∷ z) n f, take_at (x ∷ os) (a ∷ z) n f) refl
inserted-moved [] z (suc i) n a v e = absurd (omega arith)
inserted-moved (x ∷ os) z (suc i) n a v e =
    let k : suc (suc i) + n ≡ suc (suc i + n) = omega arith in
    rw k (ap (λ (l : List ℕ). x ∷ l) (inserted-moved os z i n a v (omega arith)))

-- the i-th of os is taken out, and a zero follows the others
removed-moved : (os z : List ℕ) (i n : ℕ) → i + suc n ≡ length os → set (paste (os ++ z) i (drop (suc i) (os ++ z)) n) (i + n) 0 ≡ remove_at i os ++ (0 ∷ z)
unfolding remove_at
removed-moved [] z i n e = absurd (omega arith)
removed-moved (x ∷ os) z zero n e =
    let f : length os ≡ n = omega arith in
    let l = x ∷ (os ++ z) in
    let h : n < length l = omega (arith, length-append os z) in
    rw (zero-add, take_at os z n f, drop-cons l n 0 h, drop_at os z n f) (set_at os (get_or l n 0) z 0 n f)
removed-moved (x ∷ os) z (suc i) n e =
    let k : suc i + n ≡ suc (i + n) = omega arith in
    rw k (ap (λ (l : List ℕ). x ∷ l) (removed-moved os z i n (omega arith)))

-- the 28 slots with v put in as the i-th
pub inserted-slots : (os : List ℕ) (i v : ℕ) → i ≤ length os → length os < slot_count → set (paste (padded os) (i + 1) (drop i (padded os)) (length os - i)) i v ≡ padded (insert_at i v os)
unfolding padded
inserted-slots os i v h few =
    let n : slot_count - length os ≡ suc (slot_count - length (insert_at i v os)) = omega (arith, length-insert_at i v os) in
    rw (n, add-one) (inserted-moved os (replicate (slot_count - length (insert_at i v os)) 0) i (length os - i) 0 v (omega arith))

-- the 28 slots with the i-th dropped
pub removed-slots : (os : List ℕ) (i last : ℕ) → i < length os → length os ≤ slot_count → length os ≡ last + 1 →
    set (paste (padded os) i (drop (i + 1) (padded os)) (last + 1 - (i + 1))) last 0 ≡ padded (remove_at i os)
unfolding padded
removed-slots os i last h few e =
    let n : slot_count - length (remove_at i os) ≡ suc (slot_count - length os) = omega (arith, length-remove_at i os) in
    let k : last + 1 - (i + 1) ≡ last - i = omega arith in
    let m : i + (last - i) ≡ last = omega arith in
    let z : List ℕ = replicate (slot_count - length os) 0 in
    let j : i + suc (last - i) ≡ length os = omega arith in
    let r = removed-moved os z i (last - i) j in
    rw (n, k, add-one) (subst (λ (j : ℕ). set (paste (os ++ z) i (drop (suc i) (os ++ z)) (last - i)) j 0 ≡ remove_at i os ++ (0 ∷ z)) m r)
