-- The laws of numbers in columns, one for every width: what is printed reads back, and how columns are stored from the right.
-- Assumes nothing.
use Prim.Native.Nat.{ℕ, zero, suc, ◌+◌, ◌*◌, ◌-◌, ◌/◌, ◌^◌, ◌≤◌, ◌<◌}
use mathlib.Core.Path.{◌≡◌, refl, sym, ap, ◌∙◌}
use mathlib.Core.Bool.{Bool, true, false}
use mathlib.Core.Logic.{inl}
use mathlib.Core.List.{List, [], ◌∷◌, ◌++◌, append_assoc}
use native.Mathlib.Omega.{arith}
use native.Mathlib.Numerals.{add-one}
use native.Mathlib.Nat.{pow-suc, pow-le-pow_right}
use lib.ListN.{length, get_or, take, drop, set, length-append, length-set, length-take, length-drop}
use lib.Seq.{sets, drop-drop}
use Rattle.std.proofs.lemmas.List.{drop-set, at_drop_more, at_drop_all}
use lib.Dec.{eqb}
use borrow.Rule.Slice.PartMut.{put_mid}
use borrow.Author.Tests.{eqb-true}
use Rattle.codec.specs.Lists.{splice, pick}
use Rattle.codec.proofs.Lists.{splice-sets, sets-append, sets-comm}
use Rattle.lines.specs.Columns.{space, digit_zero, digit, front, columns, value, value_from}

pub length_front : (w n : ℕ) → length (front w n) ≡ w
unfolding front
length_front zero n = refl
length_front (suc w) n = simp length-append (omega (arith, length_front w (n / 10)))

pub length-columns : (w n : ℕ) → length (columns w n) ≡ w
unfolding columns
length-columns zero n = refl
length-columns (suc w) n = simp length-append (omega (arith, length_front w (n / 10)))

-- how many columns a line takes
pub ruleset widths = (length-append, length-columns)

-- ---- what is printed reads back

pub value-append : (n : ℕ) (x y : List ℕ) → value_from n (x ++ y) ≡ value_from (value_from n x) y
unfolding value_from
value-append n [] y = refl
value-append n (c ∷ x) y = value-append (10 * n + (c - digit_zero)) x y

-- one column more on the right
value-snoc : (x : List ℕ) (c n : ℕ) → value x ≡ n → value (x ++ (c ∷ [])) ≡ 10 * n + (c - digit_zero)
unfolding value_from
value-snoc x c n e = value-append 0 x (c ∷ []) ∙ ap (λ (m : ℕ). 10 * m + (c - digit_zero)) e

value-front : (w n : ℕ) → n < 10 ^ w → value (front w n) ≡ n
unfolding front value_from
value-front zero n h = omega arith
value-front (suc w) n h = go (eqb n 0) refl (value-front w (n / 10) (omega (arith, pow-suc 10 w)))
  where
    go : (t : Bool) → eqb n 0 ≡ t → value (front w (n / 10)) ≡ n / 10 → value (front w (n / 10) ++ (pick t space (digit n) ∷ [])) ≡ n
    go true e r = value-snoc (front w (n / 10)) space (n / 10) r ∙ omega (arith, eqb-true n 0 e)
    go false e r = value-snoc (front w (n / 10)) (digit n) (n / 10) r ∙ omega arith

-- what is printed for a number that fits reads back as this number
pub value-columns : (w n : ℕ) → 1 ≤ w → n < 10 ^ w → value (columns w n) ≡ n
unfolding columns
value-columns zero n h k = absurd (omega arith)
value-columns (suc w) n h k = value-snoc (front w (n / 10)) (digit n) (n / 10) (value-front w (n / 10) (omega (arith, pow-suc 10 w))) ∙ omega arith

-- what columns hold is below the power of ten of their width
front-small : (w n : ℕ) → value (front w n) < 10 ^ w
unfolding front value_from
front-small zero n = omega arith
front-small (suc w) n = go (eqb n 0) (front-small w (n / 10))
  where
    go : (t : Bool) → value (front w (n / 10)) < 10 ^ w → value (front w (n / 10) ++ (pick t space (digit n) ∷ [])) < 10 ^ suc w
    go true r = omega (arith, pow-suc 10 w, value-snoc (front w (n / 10)) space (value (front w (n / 10))) refl)
    go false r = omega (arith, pow-suc 10 w, value-snoc (front w (n / 10)) (digit n) (value (front w (n / 10))) refl)

pub columns-small : (w n : ℕ) → value (columns w n) < 10 ^ w
unfolding columns value_from
columns-small zero n = omega arith
columns-small (suc w) n = omega (arith, pow-suc 10 w, front-small w (n / 10), value-snoc (front w (n / 10)) (digit n) (value (front w (n / 10))) refl)

-- ---- columns put from the right

-- what is left to put stands in front of what was put
pub front-put : (l : List ℕ) (i j n c : ℕ) → i ≡ j + 1 → j < length l → c ≡ pick (eqb n 0) space (digit n) → front j (n / 10) ++ drop j (set l j c) ≡ front i n ++ drop i l
unfolding front
front-put l i j n c e h f =
    rw (drop-set l j c h, e, f, add-one) (sym (append_assoc (front j (n / 10)) (pick (eqb n 0) space (digit n) ∷ []) (drop (suc j) l)))

pub front-done : (l : List ℕ) (i n : ℕ) → i ≡ 0 → front i n ++ drop i l ≡ l
unfolding front
front-done l i n e = rw e refl

-- the last column stored first
pub splice-snoc : (l : List ℕ) (o : ℕ) (x : List ℕ) (w c : ℕ) → length x ≡ w → o + w < length l → splice (set l (o + w) c) o x ≡ splice l o (x ++ (c ∷ []))
splice-snoc l o x w c e h =
    let fits : o + length x ≤ length (set l (o + w) c) = simp length-set (omega arith) in
    let whole : o + length (x ++ (c ∷ [])) ≤ length l = simp length-append (omega arith) in
    splice-sets (set l (o + w) c) o x fits
    ∙ sym (sets-comm l o x (o + w) (c ∷ []) (inl (omega arith)))
    ∙ ap (λ (m : ℕ). sets (sets l o x) (o + m) (c ∷ [])) (sym e)
    ∙ sets-append l o x (c ∷ [])
    ∙ sym (splice-sets l o (x ++ (c ∷ [])) whole)

-- a part of a list written over
splice-mid : (l x : List ℕ) (o k : ℕ) → length x ≡ k → put_mid o k l x ≡ splice l o x
unfolding splice
splice-mid l x o k e = rw (drop-drop k o l, e)

-- the last digit, and what is left before it
pub columns-put : (l : List ℕ) (o w n c : ℕ) (x : List ℕ) → (w ≡ 0 → ⊥) → o + w ≤ length l → c ≡ digit n →
    x ≡ front (length (take (o + w - 1 - o) (drop o (set l (o + w - 1) c)))) (n / 10) → put_mid o (o + w - 1 - o) (set l (o + w - 1) c) x ≡ splice l o (columns w n)
unfolding columns
columns-put l o zero n c x h k e f = absurd (h refl)
columns-put l o (suc j) n c x h k e f =
    let last : o + suc j - 1 ≡ o + j = omega arith in
    let before : o + j - o ≡ j = omega arith in
    let long : length (take j (drop o (set l (o + j) c))) ≡ j = simp (length-take, length-drop, length-set) (omega arith) in
    let new : x ≡ front j (n / 10) = rw (last, before, long) at f in
    rw (last, before, splice-mid (set l (o + j) c) x o j (ap length new ∙ length_front j (n / 10)), new, e)
    (splice-snoc l o (front j (n / 10)) j (digit n) (length_front j (n / 10)) (omega arith))

-- no column is stored
pub splice-none : (l : List ℕ) (o : ℕ) → o ≤ length l → splice l o [] ≡ l
splice-none l o h = splice-sets l o [] (omega arith)

pub columns-none : (l : List ℕ) (o i n : ℕ) → i ≡ 0 → o ≤ length l → splice l o (columns i n) ≡ l
unfolding columns
columns-none l o i n e h = ap (λ (m : ℕ). splice l o (columns m n)) e ∙ splice-none l o h

-- ---- columns read from the left

pub value-next : (l : List ℕ) (i n d : ℕ) → i < length l → d ≡ get_or l i 0 - digit_zero → value_from n (drop i l) ≡ value_from (10 * n + d) (drop (i + 1) l)
unfolding value_from
value-next l i n d h e = rw e (at_drop_more (value_from n) l i 0 h)

pub value-end : (l : List ℕ) (i n : ℕ) → length l ≤ i → value_from n (drop i l) ≡ n
unfolding value_from
value-end l i n h = at_drop_all (value_from n) l i h

-- a bound on what i columns hold, whatever their bytes
pub ten-more : (n i d : ℕ) → n + 23 ≤ 23 * 10 ^ i → d < 208 → 10 * n + d + 23 ≤ 23 * 10 ^ (i + 1)
ten-more n i d h k = rw (add-one i) (omega (arith, pow-suc 10 i))

pub ten-most : (n i w : ℕ) → i ≤ w → w ≤ 13 → n + 23 ≤ 23 * 10 ^ i → n ≤ 230000000000000
ten-most n i w h k e =
    let small : 10 ^ i ≤ 10 ^ 13 = pow-le-pow_right {n = 10} (omega arith) {i = i} {j = 13} (omega arith) in
    omega arith
