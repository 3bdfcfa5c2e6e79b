-- Places in both books: the book with the smaller key has the record that comes next.
-- Assumes nothing.
use Prim.Native.Nat.{ℕ, ◌≤◌, ◌<◌}
use mathlib.Core.Path.{◌≡◌, refl, sym, ap, ap₂, ◌∙◌}
use mathlib.Core.Bool.{true, false}
use mathlib.Core.List.{List, [], ◌∷◌}
use native.Mathlib.Omega.{arith}
use native.Mathlib.Decide.{dec_lt}
use native.Mathlib.Nat.{not-suc-le-zero}
use lib.ListN.{length, get_or, take, drop}
use lib.Seq.{get_or-take}
use Rattle.codec.specs.Lists.{All}
use Rattle.page.specs.Layout.{page_size, Rec, rec_of, size}
use Rattle.page.specs.Page.{RecOk}
use Rattle.page.proofs.Totals.{size-most}
use Rattle.image.specs.Table.{table}
use Rattle.merge.specs.Tables.{merged, apart}
use Rattle.merge.specs.Cursors.{Comes, left_at, Stands, Ready, left_of, apart_at, Passed, takes, takes_next}
use Rattle.merge.specs.declared.Cursor.{Cursor}
use Rattle.merge.specs.declared.Cursors.{Cursors}
use Rattle.merge.proofs.Tables.{next-first, next-second, keys-equal, All-merged}
use Rattle.merge.proofs.Standing.{stands-rising, stands-ok, key-most, left-next}

-- ---- the first of a list

first_of : (l m : List Rec) (d : Rec) → take 1 l ≡ take 1 m → get_or l 0 d ≡ get_or m 0 d
first_of l m d e = sym (get_or-take 1 l 0 d (omega arith)) ∙ ap (λ (x : List Rec). get_or x 0 d) e ∙ get_or-take 1 m 0 d (omega arith)

first_some : (l m : List Rec) → take 1 l ≡ take 1 m → 0 < length m → 0 < length l
first_some l [] e h = absurd (not-suc-le-zero h)
first_some [] (x ∷ m) e h = absurd (omega (arith, ap length e))
first_some (y ∷ l) (x ∷ m) e h = omega arith

first-ok : (l : List Rec) → All RecOk l → RecOk (get_or l 0 (rec_of 0 []))
first-ok [] a = record { low = omega arith; few = omega arith }
first-ok (r ∷ l) a = a.0

takes_first : (n s : ℕ) (l : List Rec) → 0 < length l → takes_next n s l ≡ takes n s (size (get_or l 0 (rec_of 0 [])))
unfolding takes_next
takes_first n s [] h = absurd (not-suc-le-zero h)
takes_first n s (r ∷ l) h = refl

-- ---- both books

-- from the first records on
pub ready-begun : {a b : List ℕ} {c d : Cursor} → Stands a c × (left_at a c ≡ table a) → Stands b d × (left_at b d ≡ table b) →
    let at : Cursors = record { first = c; second = d } in
    Ready a b at × (left_of a b at ≡ merged (table a) (table b)) × (apart_at a b at ≡ apart (table a) (table b))
unfolding left_of apart_at
ready-begun p q = (record { first = p.0; second = q.0 }, ap₂ merged p.1 q.1, ap₂ apart p.1 q.1)

module _ {a b : List ℕ} {at : Cursors} (R : Ready a b at) where
  abbrev t : List Rec
  t = left_at a at.first

  abbrev u : List Rec
  u = left_at b at.second

  module _ (less : at.first.key < at.second.key) where
    first_next : (take 1 (left_of a b at) ≡ take 1 t) × (drop 1 (left_of a b at) ≡ merged (drop 1 t) u) × (apart (drop 1 t) u ≡ apart t u)
    unfolding left_of
    first_next = next-first 0 0 t u (stands-rising a at.first R.first) (stands-rising b at.second R.second) (omega (arith, less, R.first.key, R.second.key))

    pub first-comes : Comes a b at a at.first
    first-comes = record { stands = R.first; some = omega (arith, less, key-most R.second); one = first_next.0 }

    pub first-passed : (n : Cursor) → Stands a n × (left_at a n ≡ drop 1 (left_at a at.first)) → Passed a b at (record { first = n; second = at.second })
    unfolding left_of apart_at
    first-passed n g =
        record {
          ready = record { first = g.0; second = R.second };
          left = ap (λ (l : List Rec). merged l u) g.1 ∙ sym first_next.1;
          still = ap (λ (l : List Rec). apart l u) g.1 ∙ first_next.2;
        }

  module _ (other : at.first.key ≡ at.second.key → ⊥) (le : at.second.key ≤ at.first.key) where
    second-next : (take 1 (left_of a b at) ≡ take 1 u) × (drop 1 (left_of a b at) ≡ merged t (drop 1 u)) × (apart t (drop 1 u) ≡ apart t u)
    unfolding left_of
    second-next = next-second 0 0 t u (stands-rising a at.first R.first) (stands-rising b at.second R.second) (omega (arith, other, le, R.first.key, R.second.key))

    pub second-comes : Comes a b at b at.second
    second-comes = record { stands = R.second; some = omega (arith, other, le, key-most R.first); one = second-next.0 }

    pub second-passed : (n : Cursor) → Stands b n × (left_at b n ≡ drop 1 (left_at b at.second)) → Passed a b at (record { first = at.first; second = n })
    unfolding left_of apart_at
    second-passed n g =
        record {
          ready = record { first = R.first; second = g.0 };
          left = ap (λ (l : List Rec). merged t l) g.1 ∙ sym second-next.1;
          still = ap (λ (l : List Rec). apart t l) g.1 ∙ second-next.2;
        }

-- ---- its size, and whether a leaf takes it

comes-some : {a b : List ℕ} {at : Cursors} {img : List ℕ} {c : Cursor} → Comes a b at img c → 0 < length (left_of a b at)
comes-some {a} {b} {at} {img} {c} k = first_some (left_of a b at) (left_at img c) k.one (omega (arith, ap length (left-next k.stands k.some 0)))

module _ {a b : List ℕ} {at : Cursors} (R : Ready a b at) where
  pub left-ok : All RecOk (left_of a b at)
  unfolding left_of
  left-ok = All-merged RecOk (left_at a at.first) (left_at b at.second) (stands-ok a at.first R.first) (stands-ok b at.second R.second)

  pub size_small : size (get_or (left_of a b at) 0 (rec_of 0 [])) < page_size
  size_small = omega (arith, size-most (get_or (left_of a b at) 0 (rec_of 0 [])) (first-ok (left_of a b at) left-ok))

  -- keys that differ: a record comes
  pub left-some : (at.first.key ≡ at.second.key → ⊥) → 0 < length (left_of a b at)
  left-some other = go (dec_lt at.first.key at.second.key)
    where
      go : Dec (at.first.key < at.second.key) → 0 < length (left_of a b at)
      go (yes h) = comes-some (first-comes R h)
      go (no h) = comes-some (second-comes R other (omega arith))

  module _ (n s : ℕ) where
    pub first_taken : (at.first.key ≡ at.second.key → ⊥) → takes_next n s (left_of a b at) ≡ takes n s (size (get_or (left_of a b at) 0 (rec_of 0 [])))
    first_taken other = takes_first n s (left_of a b at) (left-some other)

    -- the same key, and none is in both: no record comes
    pub none-taken : at.first.key ≡ at.second.key → apart_at a b at ≡ true → takes_next n s (left_of a b at) ≡ false
    unfolding left_of apart_at takes_next merged
    none-taken e h =
        let k = keys-equal 0 0 (left_at a at.first) (left_at b at.second) (stands-rising a at.first R.first) (stands-rising b at.second R.second) (sym R.first.key ∙ e ∙ R.second.key) h in
        ap (takes_next n s) (ap₂ merged k.0 k.1)
