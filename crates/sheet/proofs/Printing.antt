-- The loop over the rows: each row printed is the next one of the listing, and at the end all are.
-- Assumes nothing.
use Prim.Native.Nat.{ℕ, suc, ◌+◌, ◌≤◌, ◌<◌}
use mathlib.Core.Path.{◌≡◌, sym, ap, ◌∙◌}
use mathlib.Core.Bool.{Bool, true, false}
use mathlib.Core.List.{List, [], ◌∷◌}
use native.Mathlib.Omega.{arith}
use lib.ListN.{length, drop, length-drop}
use lib.Seq.{drop-drop}
use lib.Dec.{eqb}
use Rattle.std.proofs.Common.{Some, None}
use Rattle.codec.specs.Lists.{pick}
use Rattle.page.specs.Layout.{top_key}
use Rattle.image.specs.Image.{sound}
use Rattle.image.specs.Table.{listing}
use Rattle.sheet.specs.Rows.{Shown, rows_of, RowAt, next_slot, rows_after, later, first_of}
use Rattle.sheet.specs.declared.listing.Row.{Row}
use Rattle.sheet.proofs.Visiting.{later-all, rising-listing, Step, visit-step, visit-end}
use Rattle.sheet.proofs.Counting.{rows-counted}

-- a record's slot is at most one above that of the record before it
slot-most : (page before slot last : ℕ) → slot ≡ next_slot page before last → slot ≤ last + 1
unfolding next_slot
slot-most page before slot last e = go (eqb page before) e
  where
    go : (t : Bool) → slot ≡ pick t (last + 1) 0 → slot ≤ last + 1
    go true e = omega arith
    go false e = omega arith

module _ {A : Type 0} (l : List A) (n : ℕ) where
  drop-next : (x : A) (t : List A) → drop n l ≡ x ∷ t → t ≡ drop (n + 1) l
  drop-next x t e = ap (drop 1) (sym e) ∙ drop-drop 1 n l

  drop_more : (x : A) (t : List A) → drop n l ≡ x ∷ t → n + 1 ≤ length l
  drop_more x t e = omega (arith, ap length e, length-drop n l)

  drop-end : drop n l ≡ [] → n ≤ length l → n ≡ length l
  drop-end e h = omega (arith, ap length e, length-drop n l)

-- after a number of rows, of which `last` is the last: what is left to print
pub record Listed (img : List ℕ) (rows : ℕ) (last : Row) : Type 0 where
  pub left : rows_after last.page last.slot (later last.key (listing img)) ≡ drop rows (rows_of img)
  pub within : rows ≤ length (rows_of img)
  pub slots : last.slot ≤ rows
  pub keys : rows ≤ last.key
  pub below : last.key ≤ top_key

module _ (img : List ℕ) (h : sound img ≡ true) where
  rows_start : (page slot key : ℕ) → page ≡ 0 → slot ≡ 0 → key ≡ 0 → rows_after page slot (later key (listing img)) ≡ rows_of img
  rows_start page slot key a b c =
      rw (a, b, c) (ap (rows_after 0 0) (later-all 0 1 (listing img) (suc top_key) (rising-listing img h) (omega arith)) ∙ rows-counted img h)

  pub listed-first : (last : Row) → last.page ≡ 0 → last.slot ≡ 0 → last.key ≡ 0 → Listed img 0 last
  listed-first last a b c = record {
    left = rows_start last.page last.slot last.key a b c;
    within = omega arith;
    slots = omega arith;
    keys = omega arith;
    below = omega arith;
  }

  module _ (rows : ℕ) (last : Row) (l : Listed img rows last) where
    pub listed-last : None ≡ first_of (rows_after last.page last.slot (later last.key (listing img))) → rows ≡ length (rows_of img)
    listed-last e = drop-end (rows_of img) rows (sym l.left ∙ visit-end last.page last.slot last.key (listing img) (sym e)) l.within

    module _ (row : Row) (is : Some row ≡ first_of (rows_after last.page last.slot (later last.key (listing img)))) where
      step : Step last.page last.slot last.key row.page row.slot row.key row.length (suc top_key) (listing img)
      step = visit-step last.page last.slot last.key row.page row.slot row.key row.length 1 (listing img) (suc top_key) (rising-listing img h) (sym is)

      all : drop rows (rows_of img) ≡ record { page = row.page; slot = row.slot; key = row.key; size = row.length } ∷ rows_after row.page row.slot (later row.key (listing img))
      all = sym l.left ∙ step.row

      again : rows_after row.page row.slot (later row.key (listing img)) ≡ drop (rows + 1) (rows_of img)
      again = drop-next (rows_of img) rows _ (rows_after row.page row.slot (later row.key (listing img))) all

      -- the row is the listing's row of its number
      pub listed-row : RowAt img rows row.page row.slot row.key row.length
      listed-row =
          record { is = all ∙ ap (λ (t : List Shown). record { page = row.page; slot = row.slot; key = row.key; size = row.length } ∷ t) again }

      pub listed-over : last.key < row.key
      listed-over = step.over

      pub listed-next : Listed img (rows + 1) row
      listed-next = record {
        left = again;
        within = drop_more (rows_of img) rows _ (rows_after row.page row.slot (later row.key (listing img))) all;
        slots = omega (arith, slot-most row.page last.page row.slot last.slot step.slot_is, l.slots);
        keys = omega (arith, step.over, l.keys);
        below = omega (arith, step.below);
      }
