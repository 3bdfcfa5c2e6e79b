-- What is printed in columns, said without numbers: spaces, then digits, of which the first is no 0 unless it is the only one. Every number
-- that fits is printed so; and columns are what is printed for the number that they read as exactly if they have this shape.
-- Assumes nothing.
use Prim.Native.Nat.{ℕ, zero, suc, ◌+◌, ◌*◌, ◌-◌, ◌/◌, ◌^◌, ◌≤◌, ◌<◌}
use mathlib.Core.Path.{◌≡◌, refl, sym, ap, subst, ◌∙◌}
use mathlib.Core.Bool.{Bool, true, false}
use mathlib.Core.Logic.{◌⊎◌, inl, inr}
use mathlib.Core.List.{List, [], ◌∷◌, ◌++◌, append_assoc, append-nil}
use native.Mathlib.Omega.{arith}
use native.Mathlib.Nat.{pow-suc, add-zero}
use lib.ListN.{length, replicate, length-append, length-replicate, replicate-append-replicate}
use lib.Dec.{eqb}
use borrow.Author.Tests.{ne_eqb, eqb-true, eqb-false}
use Rattle.codec.specs.Lists.{pick, All}
use Rattle.lines.specs.Columns.{space, digit_zero, digit, front, columns, value, value_from, Digit, Justified}
use Rattle.lines.proofs.Columns.{value-append, columns-small}

-- ---- of nothing, only spaces are left

replicate-snoc : (k : ℕ) → replicate k space ++ (space ∷ []) ≡ replicate (suc k) space
replicate-snoc k = let e : k + 1 ≡ suc k = omega arith in replicate-append-replicate k 1 space ∙ ap (λ (m : ℕ). replicate m space) e

front-zero : (w : ℕ) → front w 0 ≡ replicate w space
unfolding front
front-zero zero = refl
front-zero (suc w) = ap (λ (l : List ℕ). l ++ (space ∷ [])) (front-zero w) ∙ replicate-snoc w

value-spaces : (k : ℕ) → value (replicate k space) ≡ 0
unfolding value_from
value-spaces zero = refl
value-spaces (suc k) = value-spaces k

-- ---- what is printed has the shape

-- a shape whose first digit is no 0
record Leading (cs : List ℕ) : Type 0 where
  pub spaces : ℕ
  pub first : ℕ
  pub rest : List ℕ
  pub is : cs ≡ replicate spaces space ++ (first ∷ rest)
  pub digits : All Digit (first ∷ rest)
  pub nonzero : first ≡ digit_zero → ⊥

All-snoc : (l : List ℕ) (c : ℕ) → All Digit l → Digit c → All Digit (l ++ (c ∷ []))
All-snoc [] c h d = (d, tt)
All-snoc (x ∷ l) c h d = (h.0, All-snoc l c h.1 d)

-- one digit more
wider : (cs : List ℕ) (c : ℕ) → Leading cs → Digit c → Leading (cs ++ (c ∷ []))
wider cs c j d = record {
  spaces = j.spaces;
  first = j.first;
  rest = j.rest ++ (c ∷ []);
  is = ap (λ (l : List ℕ). l ++ (c ∷ [])) j.is ∙ append_assoc (replicate j.spaces space) (j.first ∷ j.rest) (c ∷ []);
  digits = All-snoc (j.first ∷ j.rest) c j.digits d;
  nonzero = j.nonzero;
}

-- a digit behind spaces
behind : (w n c : ℕ) → n ≡ 0 → front w n ++ (c ∷ []) ≡ replicate w space ++ (c ∷ [])
behind w n c e = ap (λ (m : ℕ). front w m ++ (c ∷ [])) e ∙ ap (λ (l : List ℕ). l ++ (c ∷ [])) (front-zero w)

front-leading : (w n : ℕ) → 1 ≤ n → n < 10 ^ w → Leading (front w n)
unfolding front
front-leading zero n h k = absurd (omega arith)
front-leading (suc w) n h k = go (eqb n 0) refl (eqb (n / 10) 0) refl (λ e. front-leading w (n / 10) e (omega (arith, pow-suc 10 w)))
  where
    go : (t : Bool) → eqb n 0 ≡ t → (u : Bool) → eqb (n / 10) 0 ≡ u → (1 ≤ n / 10 → Leading (front w (n / 10))) → Leading (front w (n / 10) ++ (pick t space (digit n) ∷ []))
    go true e u f r = absurd (omega (arith, eqb-true n 0 e))
    go false e true f r =
        let z = eqb-true (n / 10) 0 f in
        record {
          spaces = w;
          first = digit n;
          rest = [];
          is = behind w (n / 10) (digit n) z;
          digits = ((omega arith, omega arith), tt);
          nonzero = λ q. omega arith;
        }
    go false e false f r =
        let z = eqb-false (n / 10) 0 f in
        wider (front w (n / 10)) (digit n) (r (omega arith)) (omega arith, omega arith)

-- every number that fits is printed right-justified, with no leading zeros
pub columns-justified : (w n : ℕ) → 1 ≤ w → n < 10 ^ w → Justified (columns w n)
unfolding columns front
columns-justified zero n h k = absurd (omega arith)
columns-justified (suc w) n h k = go (eqb n 0) refl
  where
    go : (t : Bool) → eqb n 0 ≡ t → Justified (front w (n / 10) ++ (digit n ∷ []))
    go true e =
        let z = eqb-true n 0 e in
        record {
          spaces = w;
          first = digit n;
          rest = [];
          is = behind w (n / 10) (digit n) (omega arith);
          digits = ((omega arith, omega arith), tt);
          no_zero = inr refl;
        }
    go false e =
        let z = eqb-false n 0 e in
        let j : Leading (front w (n / 10) ++ (digit n ∷ [])) = rw e at (front-leading (suc w) n (omega arith) k) in
        record {
          spaces = j.spaces;
          first = j.first;
          rest = j.rest;
          is = j.is;
          digits = j.digits;
          no_zero = inl j.nonzero;
        }

-- what is printed for the number that it reads as has the shape
pub read-justified : (cs : List ℕ) → 1 ≤ length cs → cs ≡ columns (length cs) (value cs) → Justified cs
read-justified cs h e =
    let small : value cs < 10 ^ length cs = omega (arith, ap value e, columns-small (length cs) (value cs)) in
    subst Justified (sym e) (columns-justified (length cs) (value cs) h small)

-- ---- what has the shape is printed

-- digits behind a number that is not 0
front-digits : (w m : ℕ) (ds : List ℕ) → 1 ≤ m → All Digit ds → front (w + length ds) (value_from m ds) ≡ front w m ++ ds
unfolding front value_from
front-digits w m [] h d = rw add-zero (sym (append-nil (front w m)))
front-digits w m (c ∷ ds) h d =
    let e : w + suc (length ds) ≡ suc w + length ds = omega arith in
    let f : (10 * m + (c - digit_zero)) / 10 ≡ m = omega (arith, d.0.0, d.0.1) in
    let g : digit (10 * m + (c - digit_zero)) ≡ c = omega (arith, d.0.0, d.0.1) in
    let z : eqb (10 * m + (c - digit_zero)) 0 ≡ false = ne_eqb (10 * m + (c - digit_zero)) 0 (λ q. omega arith) in
    ap (λ (k : ℕ). front k (value_from (10 * m + (c - digit_zero)) ds)) e
    ∙ front-digits (suc w) (10 * m + (c - digit_zero)) ds (omega arith) d.1
    ∙ rw (z, f, g) (append_assoc (front w m) (c ∷ []) ds)

-- of a number that is not 0, the last column is as the others
columns-front : (w n : ℕ) → 1 ≤ n → columns w n ≡ front w n
unfolding columns front
columns-front zero n h = refl
columns-front (suc w) n h = rw (ne_eqb n 0 (λ e. omega arith))

-- a digit behind k spaces
one-digit : (k c : ℕ) → Digit c → columns (suc k) (c - digit_zero) ≡ replicate k space ++ (c ∷ [])
unfolding columns
one-digit k c d =
    let f : (c - digit_zero) / 10 ≡ 0 = omega (arith, d.0, d.1) in
    let g : digit (c - digit_zero) ≡ c = omega (arith, d.0, d.1) in
    rw (f, g) (behind k 0 c refl)

value-from : (m : ℕ) (ds : List ℕ) → m ≤ value_from m ds
unfolding value_from
value-from m [] = omega arith
value-from m (c ∷ ds) = omega (arith, value-from (10 * m + (c - digit_zero)) ds)

shape-columns : (k d : ℕ) (ds : List ℕ) → All Digit (d ∷ ds) → (d ≡ digit_zero → ⊥) ⊎ (ds ≡ []) →
    columns (suc k + length ds) (value_from (d - digit_zero) ds) ≡ replicate k space ++ (d ∷ ds)
unfolding value_from
shape-columns k d ds a (inl h) =
    let m : 1 ≤ d - digit_zero = omega (arith, a.0.0, h) in
    columns-front (suc k + length ds) (value_from (d - digit_zero) ds) (omega (arith, value-from (d - digit_zero) ds))
    ∙ front-digits (suc k) (d - digit_zero) ds m a.1
    ∙ ap (λ (l : List ℕ). l ++ ds) (sym (columns-front (suc k) (d - digit_zero) m) ∙ one-digit k d a.0)
    ∙ append_assoc (replicate k space) (d ∷ []) ds
shape-columns k d ds a (inr h) = rw (h, add-zero) (one-digit k d a.0)

-- whatever is right-justified, with no leading zeros, is what is printed for the number that it reads as
pub justified-columns : (cs : List ℕ) → Justified cs → columns (length cs) (value cs) ≡ cs
unfolding value_from
justified-columns cs j =
    let cs' : List ℕ = replicate j.spaces space ++ (j.first ∷ j.rest) in
    let long : length cs' ≡ suc j.spaces + length j.rest = simp (length-append, length-replicate) (omega arith) in
    let digit-first : 10 * 0 + (j.first - digit_zero) ≡ j.first - digit_zero = omega arith in
    let reads : value cs' ≡ value_from (j.first - digit_zero) j.rest =
    value-append 0 (replicate j.spaces space) (j.first ∷ j.rest)
    ∙ ap (λ (m : ℕ). value_from (10 * m + (j.first - digit_zero)) j.rest) (value-spaces j.spaces)
    ∙ ap (λ (m : ℕ). value_from m j.rest) digit-first in
    rw j.is (rw (long, reads) (shape-columns j.spaces j.first j.rest j.digits j.no_zero))
