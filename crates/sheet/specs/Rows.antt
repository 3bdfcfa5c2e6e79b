-- The rows of the listing (document 01, 'The sheet program'): "one row a record by rising key".
-- Assumes nothing.
use Rattle.std.specs.Prelude.{ℕ, ◌+◌, ◌/◌, ◌≡◌, List, [], ◌∷◌, ◌++◌, Option, Some, None, length, drop, eqb, ltb}
use Rattle.codec.specs.Lists.{pick}
use Rattle.page.specs.Layout.{page_size, Rec}
use Rattle.page.specs.Page.{Entry, records}
use Rattle.page.specs.PageFormat.{format1}
use Rattle.page.specs.Operations.{page_of}
use Rattle.image.specs.PageZero.{root_of}
use Rattle.image.specs.Image.{leaves_in, height_of}
use Rattle.sheet.specs.declared.listing.Row.{Row}

-- a row: where a record stands, "page .., slot from 0 .., key .., value length"
pub record Shown : Type 0 where
  pub page : ℕ
  pub slot : ℕ
  pub key : ℕ
  pub size : ℕ

-- the rows of a leaf's records, the first of which has slot i
unfoldable pub leaf_rows : ℕ → ℕ → List Rec → List Shown
leaf_rows page i [] = []
leaf_rows page i (r ∷ rs) = record { page = page; slot = i; key = r.key; size = length r.value } ∷ leaf_rows page (i + 1) rs

-- of the leaves ps
unfoldable pub rows_in : List ℕ → List ℕ → List Shown
rows_in img [] = []
rows_in img (p ∷ ps) = leaf_rows p 0 (records (page_of img p)) ++ rows_in img ps

-- the rows of a sound image: its leaves in order, the records of each by slot
unfoldable pub rows_of : List ℕ → List Shown
rows_of img = rows_in img (leaves_in format1 img (height_of img (root_of img)) (root_of img))

-- row number i of the listing
pub record RowAt (img : List ℕ) (i page slot key size : ℕ) : Type 0 where
  pub is : drop i (rows_of img) ≡ record { page = page; slot = slot; key = key; size = size } ∷ drop (i + 1) (rows_of img)

-- ---- the same as the code counts them

-- the slot of a record on a page, where the record before it stands in slot `slot` of page `before`
unfoldable pub next_slot : ℕ → ℕ → ℕ → ℕ
next_slot page before slot = pick (eqb page before) (slot + 1) 0

-- the rows of entries of the image, after a record in slot `slot` of page `before`
unfoldable pub rows_after : ℕ → ℕ → List Entry → List Shown
rows_after before slot [] = []
rows_after before slot (e ∷ es) =
    let page = e.at / page_size in
    let s = next_slot (e.at / page_size) before slot in
    record { page = page; slot = s; key = e.rec.key; size = length e.rec.value } ∷ rows_after page s es

-- the entries of keys above k, where keys rise
unfoldable pub later : ℕ → List Entry → List Entry
later k [] = []
later k (e ∷ es) = pick (ltb k e.rec.key) (e ∷ es) (later k es)

-- the first row, if there is one
unfoldable pub first_of : List Shown → Option Row
first_of [] = None
first_of (r ∷ rs) = Some (record { page = r.page; slot = r.slot; key = r.key; length = r.size })
