-- The laws of a line of the form: what is printed for one reads back, and the tests that the code makes of one.
-- Assumes nothing.
use Prim.Native.Nat.{ℕ, ◌+◌, ◌-◌, ◌^◌, ◌≤◌, ◌<◌}
use mathlib.Core.Path.{◌≡◌, refl, sym, ap, ◌∙◌}
use mathlib.Core.Bool.{Bool, true, false}
use mathlib.Core.List.{List, [], ◌∷◌, ◌++◌, append_assoc}
use native.Mathlib.Omega.{arith}
use lib.ListN.{length, take, drop, length-append, length-take}
use lib.Seq.{take_at, drop_at, take-take}
use Rattle.std.proofs.Common.{None, slice_range}
use Rattle.std.proofs.lemmas.List.{drop-take, take_all, take_rest}
use Rattle.codec.specs.Lists.{part, pick, eqs}
use Rattle.codec.proofs.Tests.{eqs-same, eqs-differ, eqs-true}
use Rattle.lines.specs.Columns.{columns, value}
use Rattle.lines.specs.Form.{line_feed, line_bytes, meaning, line_in}
use Rattle.lines.proofs.Columns.{length-columns, value-columns}

pub length-line : (kind key price : ℕ) → length (line_bytes kind key price) ≡ 28
unfolding line_bytes
length-line kind key price =
    simp length-append (omega (arith, length-columns 2 kind, length-columns 13 key, length-columns 12 price))

-- ---- what is printed for a line reads back

-- what stands behind x, in front of what follows it
part-behind : (x y z : List ℕ) (o n : ℕ) → length x ≡ o → length y ≡ n → part (x ++ (y ++ z)) o n ≡ y
unfolding part
part-behind x y z o n e f = ap (take n) (drop_at x (y ++ z) o e) ∙ take_at y z n f

module _ (kind key price : ℕ) (rest : List ℕ) where
  pub line-kind : part (line_bytes kind key price ++ rest) 0 2 ≡ columns 2 kind
  unfolding line_bytes
  line-kind = rw append_assoc (part-behind [] (columns 2 kind) _ 0 2 refl (length-columns 2 kind))

  pub line-key : part (line_bytes kind key price ++ rest) 2 13 ≡ columns 13 key
  unfolding line_bytes
  line-key = simp append_assoc (part-behind (columns 2 kind) (columns 13 key) _ 2 13 (length-columns 2 kind) (length-columns 13 key))

  pub line-price : part (line_bytes kind key price ++ rest) 15 12 ≡ columns 12 price
  unfolding line_bytes
  line-price =
      let two : length (columns 2 kind ++ columns 13 key) ≡ 15 = simp length-append (omega (arith, length-columns 2 kind, length-columns 13 key)) in
      let behind = part-behind (columns 2 kind ++ columns 13 key) (columns 12 price) ((line_feed ∷ []) ++ rest) 15 12 two (length-columns 12 price) in
      simp append_assoc (simp append_assoc at behind)

  pub line-whole : part (line_bytes kind key price ++ rest) 0 28 ≡ line_bytes kind key price
  line-whole = part-behind [] (line_bytes kind key price) rest 0 28 refl (length-line kind key price)

-- the line of a kind, a key and a price that fit their columns says what these numbers say, whatever follows it
pub line-back : (kind key price : ℕ) (rest : List ℕ) → kind < 10 ^ 2 → key < 10 ^ 13 → price < 10 ^ 12 → line_in (line_bytes kind key price ++ rest) ≡ meaning kind key price
unfolding line_in
line-back kind key price rest a b c =
    let k : value (part (line_bytes kind key price ++ rest) 0 2) ≡ kind = ap value (line-kind kind key price rest) ∙ value-columns 2 kind (omega arith) a in
    let e : value (part (line_bytes kind key price ++ rest) 2 13) ≡ key = ap value (line-key kind key price rest) ∙ value-columns 13 key (omega arith) b in
    let p : value (part (line_bytes kind key price ++ rest) 15 12) ≡ price = ap value (line-price kind key price rest) ∙ value-columns 12 price (omega arith) c in
    rw (k, e, p, line-whole kind key price rest, eqs-same (line_bytes kind key price))

-- and each line that says something is the line of the numbers that it is read as
pub line-form : (t : List ℕ) → (line_in t ≡ None → ⊥) →
    part t 0 28 ≡ line_bytes (value (part t 0 2)) (value (part t 2 13)) (value (part t 15 12))
unfolding line_in
line-form t h = go (eqs (part t 0 28) (line_bytes (value (part t 0 2)) (value (part t 2 13)) (value (part t 15 12)))) refl h
  where
    go : (b : Bool) → eqs (part t 0 28) (line_bytes (value (part t 0 2)) (value (part t 2 13)) (value (part t 15 12))) ≡ b →
        (pick b (meaning (value (part t 0 2)) (value (part t 2 13)) (value (part t 15 12))) None ≡ None → ⊥) →
        part t 0 28 ≡ line_bytes (value (part t 0 2)) (value (part t 2 13)) (value (part t 15 12))
    go true e k = eqs-true _ _ e
    go false e k = absurd (k refl)

-- ---- the tests of `read_line`

length-short : (l : List ℕ) (n : ℕ) → length (part l 0 n) ≤ length l
unfolding part
length-short l n = omega (arith, length-take n l)

-- a line cut short
pub line-short : (t : List ℕ) → length t < 28 → line_in t ≡ None
unfolding line_in
line-short t h =
    let kind = value (part t 0 2) in
    let key = value (part t 2 13) in
    let price = value (part t 15 12) in
    rw (eqs-differ (part t 0 28) (line_bytes kind key price) (λ e. omega (arith, ap length e, length-line kind key price, length-short t 28)))

-- a part of the front
part-part : (t : List ℕ) (n a m : ℕ) → a + m ≤ n → part (part t 0 n) a m ≡ part t a m
unfolding part
part-part t n a m h =
    let e : n ≡ a + (n - a) = omega arith in
    ap (λ (k : ℕ). take m (drop a (take k t))) e ∙ ap (take m) (drop-take a (n - a) t) ∙ take-take m (n - a) (drop a t) (omega arith)

-- of what follows a line, nothing counts
pub line-first : (t : List ℕ) → line_in (part t 0 28) ≡ line_in t
unfolding line_in
line-first t = rw (part-part t 28 0 2 (omega arith), part-part t 28 2 13 (omega arith), part-part t 28 15 12 (omega arith), part-part t 28 0 28 (omega arith))

-- the line that is cut out at a place
pub line-cut : (l rest line : List ℕ) (at : ℕ) → rest ≡ slice_range l at (length l) → line ≡ slice_range rest 0 28 → line_in (drop at l) ≡ line_in line
unfolding part
line-cut l rest line at e f = sym (line-first (drop at l)) ∙ ap line_in (ap (take 28) (sym (take_rest l at) ∙ sym e) ∙ sym f)

-- a line, by the numbers read there
pub line-is : (line : List ℕ) (kind key price : ℕ) → length line ≡ 28 → kind ≡ value (take 2 line) → key ≡ value (take 13 (drop 2 line)) → price ≡ value (take 12 (drop 15 line)) →
    line_in line ≡ pick (eqs line (line_bytes kind key price)) (meaning kind key price) None
unfolding line_in part
line-is line kind key price h a b c = rw (take_all 28 line (omega arith), a, b, c)
