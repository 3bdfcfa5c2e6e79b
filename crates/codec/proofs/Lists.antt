-- The laws of `part`, `splice` and `sets`: lengths, what is read after a write, writes that follow and that commute.
-- Assumes nothing.
use Prim.Native.Nat.{ℕ, zero, suc, ◌+◌, ◌-◌, ◌≤◌, ◌<◌}
use mathlib.Core.Path.{◌≡◌, refl, sym, ap, ◌∙◌}
use mathlib.Core.List.{List, [], ◌∷◌, ◌++◌, append_assoc, append-nil, map}
use mathlib.Core.Logic.{◌⊎◌, inl, inr}
use native.Mathlib.Omega.{arith}
use native.Mathlib.Decide.{dec_lt}
use native.Mathlib.Numerals.{add-one}
use native.Mathlib.Nat.{add-zero, not-suc-le-zero}
use lib.ListN.{length, get_or, take, drop, set, length-append, length-take, length-drop, length-set, take-append-drop, drop_of_length-le, get_or-eq_default}
use lib.Seq.{sets, sets-eq, take_at, drop_at, take-append-le, drop-append-le, drop-append-add, drop-drop, take-length, drop-cons, get_or-take, get_or-drop, get_or-set_same, get_or-set_other, set_comm}
use borrow.Rule.Slice.PartMut.{put_mid}
use Rattle.codec.specs.Lists.{part, splice, insert_at, remove_at}

-- ---- a part

pub length_part : (l : List ℕ) (o n : ℕ) → o + n ≤ length l → length (part l o n) ≡ n
unfolding part
length_part l o n h = simp (length-take, length-drop) (omega arith)

pub get_or-part : (l : List ℕ) (o n i : ℕ) → i < n → get_or (part l o n) i 0 ≡ get_or l (o + i) 0
unfolding part
get_or-part l o n i h = rw (get_or-take, get_or-drop)

-- one element of a part, and the rest of it
pub part-cons : (l : List ℕ) (o n i : ℕ) → i < n → o + n ≤ length l → drop i (part l o n) ≡ get_or l (o + i) 0 ∷ drop (i + 1) (part l o n)
part-cons l o n i h k =
    let long : i < length (part l o n) = omega (arith, length_part l o n k) in
    rw (drop-cons (part l o n) i 0 long, get_or-part l o n i h, add-one)

pub part-whole : (l : List ℕ) → part l 0 (length l) ≡ l
unfolding part
part-whole l = take-length l

pub part-append-left : (x y : List ℕ) (a n : ℕ) → a + n ≤ length x → part (x ++ y) a n ≡ part x a n
unfolding part
part-append-left x y a n h =
    let h1 : a ≤ length x = omega arith in
    let h2 : n ≤ length (drop a x) = simp length-drop (omega arith) in
    rw (drop-append-le, take-append-le)

pub part-drop : (l : List ℕ) (o a n : ℕ) → part (drop o l) a n ≡ part l (o + a) n
unfolding part
part-drop l o a n = ap (take n) (drop-drop a o l)

-- what stands at the front of the rest
pub part-rest : (l : List ℕ) (o n : ℕ) → drop o l ≡ part l o n ++ drop (o + n) l
unfolding part
part-rest l o n = rw (← drop-drop n o l) (sym (take-append-drop n (drop o l)))

-- ---- a part written over

module _ (l : List ℕ) (o : ℕ) (new : List ℕ) (fits : o + length new ≤ length l) where
  pub length-splice : length (splice l o new) ≡ length l
  unfolding splice
  length-splice = simp (length-append, length-take, length-drop) (omega arith)

  pub part-splice-same : (n : ℕ) → length new ≡ n → part (splice l o new) o n ≡ new
  unfolding splice part
  part-splice-same n e =
      let h : length (take o l) ≡ o = simp length-take (omega arith) in
      rw (drop_at (take o l) (new ++ drop (o + length new) l) o h) (take_at new (drop (o + length new) l) n e)

  pub drop-splice : (a : ℕ) → o + length new ≤ a → drop a (splice l o new) ≡ drop a l
  unfolding splice
  drop-splice a h =
      let k : length (take o l ++ new) ≡ o + length new = simp (length-append, length-take) (omega arith) in
      let e : a ≡ length (take o l ++ new) + (a - (o + length new)) = omega arith in
      let f : o + length new + (a - (o + length new)) ≡ a = omega arith in
      ap (drop a) (sym (append_assoc (take o l) new (drop (o + length new) l)))
      ∙ ap (λ (m : ℕ). drop m ((take o l ++ new) ++ drop (o + length new) l)) e
      ∙ drop-append-add (take o l ++ new) (drop (o + length new) l) (a - (o + length new))
      ∙ drop-drop (a - (o + length new)) (o + length new) l
      ∙ ap (λ (m : ℕ). drop m l) f

  pub part-splice-above : (a n : ℕ) → o + length new ≤ a → part (splice l o new) a n ≡ part l a n
  unfolding part
  part-splice-above a n h = ap (take n) (drop-splice a h)

  pub part-splice-below : (a n : ℕ) → a + n ≤ o → part (splice l o new) a n ≡ part l a n
  unfolding splice
  part-splice-below a n h =
      let k : a + n ≤ length (take o l) = simp length-take (omega arith) in
      part-append-left (take o l) (new ++ drop (o + length new) l) a n k
      ∙ sym (part-append-left (take o l) (drop o l) a n k)
      ∙ ap (λ (x : List ℕ). part x a n) (take-append-drop o l)

-- what a slice is once the part of it from o on, n elements long, was written
pub put_mid-splice : (l new : List ℕ) (o n : ℕ) → length new ≡ n → put_mid o n l new ≡ splice l o new
unfolding splice
put_mid-splice l new o n e = rw (← e, drop-drop) refl

-- what is written at the front of a list is read back from there
pub part-front : (z x l : List ℕ) (n : ℕ) → l ≡ splice z 0 x → length x ≡ n → n ≤ length z → part l 0 n ≡ x
part-front z x l n e k h = ap (λ (m : List ℕ). part m 0 n) e ∙ part-splice-same z 0 x (omega arith) n k

-- ---- stores one by one: where the region fits, they are a part written over

pub splice-sets : (l : List ℕ) (o : ℕ) (vs : List ℕ) → o + length vs ≤ length l → splice l o vs ≡ sets l o vs
unfolding splice
splice-sets l o vs h = sym (sets-eq vs l o h ∙ append_assoc (take o l) vs (drop (o + length vs) l))

-- y stored right after x
pub sets-append : (l : List ℕ) (o : ℕ) (x y : List ℕ) → sets (sets l o x) (o + length x) y ≡ sets l o (x ++ y)
sets-append l o [] y = rw add-zero
sets-append l o (a ∷ x) y = let e : o + suc (length x) ≡ suc o + length x = omega arith in rw e (sets-append (set l o a) (suc o) x y)

pub splice-next : (p : List ℕ) (o : ℕ) (x y q : List ℕ) (o' : ℕ) → q ≡ splice p o x → o' ≡ o + length x → o + length x + length y ≤ length p →
    splice q o' y ≡ splice p o (x ++ y)
splice-next p o x y q o' e f h =
    let hx : o + length x ≤ length p = omega arith in
    let hq : o + length x + length y ≤ length (splice p o x) = rw (length-splice p o x hx) h in
    let hxy : o + length (x ++ y) ≤ length p = simp length-append (omega arith) in
    rw (e, f)
    (splice-sets (splice p o x) (o + length x) y hq
    ∙ ap (λ (l : List ℕ). sets l (o + length x) y) (splice-sets p o x hx)
    ∙ sets-append p o x y
    ∙ sym (splice-sets p o (x ++ y) hxy))

-- an element that no store touches
pub sets-apart : (l : List ℕ) (p : ℕ) (vs : List ℕ) (i : ℕ) → (i < p) ⊎ (p + length vs ≤ i) → get_or (sets l p vs) i 0 ≡ get_or l i 0
sets-apart l p [] i h = refl
sets-apart l p (v ∷ vs) i (inl h) = sets-apart (set l p v) (suc p) vs i (inl (omega arith)) ∙ get_or-set_other l p i v 0 (omega arith)
sets-apart l p (v ∷ vs) i (inr h) = sets-apart (set l p v) (suc p) vs i (inr (omega arith)) ∙ get_or-set_other l p i v 0 (omega arith)

-- equally long lists agree where the same is stored over them
set_both : (a b : List ℕ) (p v : ℕ) → length a ≡ length b → get_or (set a p v) p 0 ≡ get_or (set b p v) p 0
set_both a b p v e = go (dec_lt p (length a))
  where
    go : Dec (p < length a) → get_or (set a p v) p 0 ≡ get_or (set b p v) p 0
    go (yes h) = get_or-set_same a p v 0 h ∙ sym (get_or-set_same b p v 0 (omega arith))
    go (no h) =
        get_or-eq_default (set a p v) 0 {n = p} (omega (arith, length-set a p v)) ∙ sym (get_or-eq_default (set b p v) 0 {n = p} (omega (arith, length-set b p v)))

pub sets-both : (a b : List ℕ) (p : ℕ) (vs : List ℕ) (i : ℕ) → length a ≡ length b → p ≤ i → i < p + length vs → get_or (sets a p vs) i 0 ≡ get_or (sets b p vs) i 0
sets-both a b p [] i e h k = absurd (omega arith)
sets-both a b p (v ∷ vs) i e h k = go (dec_lt p i) (λ q. sets-both (set a p v) (set b p v) (suc p) vs i (length-set a p v ∙ e ∙ sym (length-set b p v)) q (omega arith))
  where
    go : Dec (p < i) → (p < i → get_or (sets a p (v ∷ vs)) i 0 ≡ get_or (sets b p (v ∷ vs)) i 0) → get_or (sets a p (v ∷ vs)) i 0 ≡ get_or (sets b p (v ∷ vs)) i 0
    go (yes q) f = f q
    go (no q) f =
        let same : i ≡ p = omega arith in
        sets-apart (set a p v) (suc p) vs i (inl (omega arith))
        ∙ rw same (set_both a b p v e)
        ∙ sym (sets-apart (set b p v) (suc p) vs i (inl (omega arith)))

-- one element stored apart from a region commutes with the region
sets-set : (l : List ℕ) (p : ℕ) (vs : List ℕ) (i v : ℕ) → (i < p) ⊎ (p + length vs ≤ i) → sets (set l i v) p vs ≡ set (sets l p vs) i v
sets-set l p [] i v h = refl
sets-set l p (w ∷ vs) i v (inl h) = ap (λ (m : List ℕ). sets m (suc p) vs) (set_comm l i p v w (omega arith)) ∙ sets-set (set l p w) (suc p) vs i v (inl (omega arith))
sets-set l p (w ∷ vs) i v (inr h) = ap (λ (m : List ℕ). sets m (suc p) vs) (set_comm l i p v w (omega arith)) ∙ sets-set (set l p w) (suc p) vs i v (inr (omega arith))

-- disjoint stores commute
pub sets-comm : (l : List ℕ) (p : ℕ) (vs : List ℕ) (q : ℕ) (ws : List ℕ) → (p + length vs ≤ q) ⊎ (q + length ws ≤ p) → sets (sets l p vs) q ws ≡ sets (sets l q ws) p vs
sets-comm l p vs q [] h = refl
sets-comm l p vs q (w ∷ ws) (inl h) =
    ap (λ (m : List ℕ). sets m (suc q) ws) (sym (sets-set l p vs q w (inr (omega arith)))) ∙ sets-comm (set l q w) p vs (suc q) ws (inl (omega arith))
sets-comm l p vs q (w ∷ ws) (inr h) =
    ap (λ (m : List ℕ). sets m (suc q) ws) (sym (sets-set l p vs q w (inl (omega arith)))) ∙ sets-comm (set l q w) p vs (suc q) ws (inr (omega arith))

-- disjoint writes commute
pub splice-comm : (l : List ℕ) (p : ℕ) (vs : List ℕ) (q : ℕ) (ws : List ℕ) → p + length vs ≤ length l → q + length ws ≤ length l →
    (p + length vs ≤ q) ⊎ (q + length ws ≤ p) → splice (splice l p vs) q ws ≡ splice (splice l q ws) p vs
splice-comm l p vs q ws hp hq h =
    let lp = length-splice l p vs hp in
    let lq = length-splice l q ws hq in
    splice-sets (splice l p vs) q ws (omega arith)
    ∙ ap (λ (m : List ℕ). sets m q ws) (splice-sets l p vs hp)
    ∙ sets-comm l p vs q ws h
    ∙ ap (λ (m : List ℕ). sets m p vs) (sym (splice-sets l q ws hq))
    ∙ sym (splice-sets (splice l q ws) p vs (omega arith))

-- a whole list stored over another
pub sets_over : (l vs : List ℕ) → length vs ≡ length l → sets l 0 vs ≡ vs
unfolding splice
sets_over l vs h =
    sym (splice-sets l 0 vs (omega arith)) ∙ ap (λ (r : List ℕ). vs ++ r) (drop_of_length-le l {i = 0 + length vs} (omega arith)) ∙ append-nil vs

pub splice-over : (l vs : List ℕ) → length vs ≡ length l → splice l 0 vs ≡ vs
splice-over l vs h = splice-sets l 0 vs (omega arith) ∙ sets_over l vs h

-- what is left to store, one element less: for a loop that stores T from the front
pub sets-next : (l T : List ℕ) (j v : ℕ) → j < length T → v ≡ get_or T j 0 → sets l j (drop j T) ≡ sets (set l j v) (j + 1) (drop (j + 1) T)
sets-next l T j v h e = rw (drop-cons T j 0 h, e, add-one)

pub sets-done : (l T : List ℕ) (j : ℕ) → length T ≤ j → sets l j (drop j T) ≡ l
sets-done l T j h = rw (drop_of_length-le T {i = j} h)

-- ---- one element put in or taken out

module _ {ℓ} {A : Type ℓ} where
  pub length-insert_at : (i : ℕ) (a : A) (l : List A) → length (insert_at i a l) ≡ suc (length l)
  unfolding insert_at
  length-insert_at zero a l = refl
  length-insert_at (suc i) a [] = refl
  length-insert_at (suc i) a (x ∷ l) = ap suc (length-insert_at i a l)

  pub length-remove_at : (i : ℕ) (l : List A) → i < length l → suc (length (remove_at i l)) ≡ length l
  unfolding remove_at
  length-remove_at i [] h = absurd (not-suc-le-zero h)
  length-remove_at zero (x ∷ l) h = refl
  length-remove_at (suc i) (x ∷ l) h = ap suc (length-remove_at i l (omega arith))

  pub length-remove_at-le : (i : ℕ) (l : List A) → length (remove_at i l) ≤ length l
  unfolding remove_at
  length-remove_at-le i [] = omega arith
  length-remove_at-le zero (x ∷ l) = omega arith
  length-remove_at-le (suc i) (x ∷ l) = omega (arith, length-remove_at-le i l)

  pub inserted-low : (d : A) (i j : ℕ) (a : A) (l : List A) → j < i → j < length l → get_or (insert_at i a l) j d ≡ get_or l j d
  unfolding insert_at
  inserted-low d zero j a l h k = absurd (not-suc-le-zero h)
  inserted-low d (suc i) j a [] h k = absurd (not-suc-le-zero k)
  inserted-low d (suc i) zero a (x ∷ l) h k = refl
  inserted-low d (suc i) (suc j) a (x ∷ l) h k = inserted-low d i j a l (omega arith) (omega arith)

  pub inserted-at : (d : A) (i : ℕ) (a : A) (l : List A) → i ≤ length l → get_or (insert_at i a l) i d ≡ a
  unfolding insert_at
  inserted-at d zero a l h = refl
  inserted-at d (suc i) a [] h = absurd (not-suc-le-zero h)
  inserted-at d (suc i) a (x ∷ l) h = inserted-at d i a l (omega arith)

  pub inserted-high : (d : A) (i j : ℕ) (a : A) (l : List A) → i ≤ j → j < length l → get_or (insert_at i a l) (suc j) d ≡ get_or l j d
  unfolding insert_at
  inserted-high d zero j a l h k = refl
  inserted-high d (suc i) j a [] h k = absurd (not-suc-le-zero k)
  inserted-high d (suc i) zero a (x ∷ l) h k = absurd (not-suc-le-zero h)
  inserted-high d (suc i) (suc j) a (x ∷ l) h k = inserted-high d i j a l (omega arith) (omega arith)

module _ {ℓ ℓ'} {A : Type ℓ} {B : Type ℓ'} (f : A → B) where
  pub map-insert_at : (i : ℕ) (a : A) (l : List A) → map f (insert_at i a l) ≡ insert_at i (f a) (map f l)
  unfolding insert_at
  map-insert_at zero a l = refl
  map-insert_at (suc i) a [] = refl
  map-insert_at (suc i) a (x ∷ l) = ap (λ (r : List B). f x ∷ r) (map-insert_at i a l)

  pub map-set : (i : ℕ) (a : A) (l : List A) → map f (set l i a) ≡ set (map f l) i (f a)
  map-set i a [] = refl
  map-set zero a (x ∷ l) = refl
  map-set (suc i) a (x ∷ l) = ap (λ (r : List B). f x ∷ r) (map-set i a l)

  pub map-remove_at : (i : ℕ) (l : List A) → map f (remove_at i l) ≡ remove_at i (map f l)
  unfolding remove_at
  map-remove_at i [] = refl
  map-remove_at zero (x ∷ l) = refl
  map-remove_at (suc i) (x ∷ l) = ap (λ (r : List B). f x ∷ r) (map-remove_at i l)
