-- Sizes of lists of records: joined, with an edit made, and when they fit one page.
-- Assumes nothing.
use Rattle.std.proofs.Common.{◌≡◌, ℕ, zero, suc, ◌+◌, ◌-◌, ◌*◌, ◌≤◌, Bool, true, false, ◌&&◌, leb, List, [], ◌∷◌, ◌++◌, length, set, refl, inl, inr, arith, le-leb, leb-false, leb-true}
use mathlib.Core.Bool.{and-false}
use borrow.Author.Tests.{lt-leb}
use Rattle.codec.specs.Lists.{insert_at}
use Rattle.codec.proofs.Tests.{both, first, second}
use Rattle.page.specs.Layout.{page_size, line_size, slot_count, Rec, up8, size}
use Rattle.page.specs.Page.{RecOk}
use Rattle.page.specs.Operations.{sizes, made, fits_page, OnePage, TwoPages}
use Rattle.page.proofs.Records.{size-least}
use Rattle.page.proofs.Made.{length-made}

-- ---- sizes

-- the size of a record with the longest value
abbrev pub size_most : ℕ
size_most = 216

pub size-most : (r : Rec) → RecOk r → size r ≤ size_most
unfolding size up8
size-most r k = omega (arith, k.few)

pub sizes-append : (a b : List Rec) → sizes (a ++ b) ≡ sizes a + sizes b
unfolding sizes
sizes-append [] b = omega arith
sizes-append (r ∷ a) b = omega (arith, sizes-append a b)

pub sizes-least : (l : List Rec) → 16 * length l ≤ sizes l
unfolding sizes
sizes-least [] = omega arith
sizes-least (r ∷ l) = omega (arith, size-least r, sizes-least l)

-- ---- with an edit made

sizes-insert : (i : ℕ) (r : Rec) (l : List Rec) → sizes (insert_at i r l) ≡ size r + sizes l
unfolding insert_at sizes
sizes-insert zero r l = refl
sizes-insert (suc i) r [] = refl
sizes-insert (suc i) r (x ∷ l) = omega (arith, sizes-insert i r l)

sizes-set : (i : ℕ) (r : Rec) (l : List Rec) → sizes (set l i r) ≤ size r + sizes l
unfolding sizes
sizes-set i r [] = omega arith
sizes-set zero r (x ∷ l) = omega arith
sizes-set (suc i) r (x ∷ l) = omega (arith, sizes-set i r l)

pub sizes-made : (ins : Bool) (i : ℕ) (r : Rec) (l : List Rec) → sizes (made ins i r l) ≤ size r + sizes l
unfolding made
sizes-made true i r l = omega (arith, sizes-insert i r l)
sizes-made false i r l = sizes-set i r l

pub made-most : (ins : Bool) (i : ℕ) (r : Rec) (l : List Rec) → length (made ins i r l) ≤ suc (length l)
made-most true i r l = omega (arith, length-made true i r l)
made-most false i r l = omega (arith, length-made false i r l)

-- ---- "at most 28 and at most 960 bytes"

module _ (rs : List Rec) where
  pub one-page : fits_page rs ≡ true → OnePage rs
  one-page e =
      record {
        few = leb-true (length rs) slot_count (first (leb (length rs) slot_count) (leb (sizes rs) (page_size - line_size)) e);
        small = leb-true (sizes rs) (page_size - line_size) (second (leb (length rs) slot_count) (leb (sizes rs) (page_size - line_size)) e);
      }

  pub two-pages : fits_page rs ≡ false → TwoPages rs
  two-pages h = go (leb (length rs) slot_count) refl h
    where
      go : (a : Bool) → leb (length rs) slot_count ≡ a → (a && leb (sizes rs) (page_size - line_size)) ≡ false → TwoPages rs
      go false e h = inl (leb-false (length rs) slot_count e)
      go true e h = inr (leb-false (sizes rs) (page_size - line_size) h)

  pub not-one : TwoPages rs → fits_page rs ≡ false
  not-one (inl h) = rw (lt-leb (length rs) slot_count h)
  not-one (inr h) = rw (lt-leb (sizes rs) (page_size - line_size) h) (and-false (leb (length rs) slot_count))

  pub page-one : OnePage rs → fits_page rs ≡ true
  page-one o = both (le-leb (length rs) slot_count o.few) (le-leb (sizes rs) (page_size - line_size) o.small)
