-- What insert, update, delete and fill make of a page (document 01, 'Edits').
-- An operation is a new header and new bytes; the header line is written last.
-- Assumes nothing.
use Rattle.std.specs.Prelude.{◌≡◌, ℕ, ◌+◌, ◌-◌, ◌*◌, ◌<◌, ◌≤◌, Bool, true, false, ◌&&◌, ◌⊎◌, List, [], ◌∷◌, ◌++◌, length, take, drop, nat_le, slice_set}
use Rattle.codec.specs.Lists.{part, splice, insert_at, remove_at}
use Rattle.page.specs.Layout.{page_size, line_size, slot_count, Rec, size, record_bytes, Head, header_bytes, read_head, unused_head}
use Rattle.page.specs.Page.{laid_out, records, RecOk, Entry}

-- the page p with the header line of h
unfoldable pub seal : Head → List ℕ → List ℕ
seal h p = header_bytes h ++ drop line_size p

-- the page p with the record r "just below start"
unfoldable pub written : ℕ → List ℕ → Rec → List ℕ
written start p r = splice p (start - size r) (record_bytes r)

-- "Insert and update write a new record of size s just below start, which moves down by s": an insert's slot is the i-th
unfoldable pub insert_head : Head → ℕ → ℕ → Head
insert_head h i s = record { start = h.start - s; kind = h.kind; own = h.own; slots = insert_at i (h.start - s) h.slots }

-- "update swaps the slot and never overwrites"
unfoldable pub update_head : Head → ℕ → ℕ → Head
update_head h i s = record { start = h.start - s; kind = h.kind; own = h.own; slots = slice_set h.slots i (h.start - s) }

-- "Delete drops the slot; start stays."
unfoldable pub delete_head : Head → ℕ → Head
delete_head h i = record { start = h.start; kind = h.kind; own = h.own; slots = remove_at i h.slots }

unfoldable pub insert : List ℕ → ℕ → Rec → List ℕ
insert p i r = let h = read_head p in seal (insert_head h i (size r)) (written h.start p r)

unfoldable pub update : List ℕ → ℕ → Rec → List ℕ
update p i r = let h = read_head p in seal (update_head h i (size r)) (written h.start p r)

unfoldable pub delete : List ℕ → ℕ → List ℕ
delete p i = seal (delete_head (read_head p) i) p

-- the record r put in as the i-th, or in place of the i-th
unfoldable pub in_place : Bool → ℕ → Rec → List ℕ → List ℕ
in_place true i r p = insert p i r
in_place false i r p = update p i r

-- "A new page is filled in key order from the end down; its bytes from 64 to start stay."
unfoldable pub fill_head : Head → List Rec → Head
fill_head h [] = h
fill_head h (r ∷ rs) = fill_head (insert_head h (length h.slots) (size r)) rs

unfoldable pub fill_bytes : ℕ → List ℕ → List Rec → List ℕ
fill_bytes start p [] = p
fill_bytes start p (r ∷ rs) = fill_bytes (start - size r) (written start p r) rs

-- "A new page, whatever it held, is filled from an unused header"
unfoldable pub fill : List ℕ → ℕ → ℕ → List Rec → List ℕ
fill p kind own rs = seal (fill_head (unused_head kind own) rs) (fill_bytes page_size p rs)

-- where fill puts the records
unfoldable pub placed : ℕ → List Rec → List Entry
placed start [] = []
placed start (r ∷ rs) = record { at = start - size r; rec = r } ∷ placed (start - size r) rs

-- the sum of the records' sizes
unfoldable pub sizes : List Rec → ℕ
sizes [] = 0
sizes (r ∷ rs) = size r + sizes rs

-- "at most 28 and at most 960 bytes": whether the records rs fit one page of at most `cap` records, and of 28
abbrev pub fits_in : ℕ → List Rec → Bool
fits_in cap rs = nat_le (length rs) cap && nat_le (sizes rs) (page_size - line_size)

abbrev pub fits_page : List Rec → Bool
fits_page rs = fits_in slot_count rs

-- what it stands for, and what stands against it
pub record OnePage (rs : List Rec) : Type 0 where
  pub few : length rs ≤ slot_count
  pub small : sizes rs ≤ page_size - line_size

abbrev pub TwoPages : List Rec → Type 0
TwoPages rs = (slot_count < length rs) ⊎ (page_size - line_size < sizes rs)

-- the records with an edit made: r put in as the i-th, or in place of the i-th
unfoldable pub made : Bool → ℕ → Rec → List Rec → List Rec
made true i r rs = insert_at i r rs
made false i r rs = slice_set rs i r

-- the records from the a-th on, up to the b-th
abbrev pub between : List Rec → ℕ → ℕ → List Rec
between rs a b = take (b - a) (drop a rs)

-- ---- a page of an image

unfoldable pub page_of : List ℕ → ℕ → List ℕ
page_of img n = part img (page_size * n) page_size

unfoldable pub put_page : List ℕ → ℕ → List ℕ → List ℕ
put_page img n p = splice img (page_size * n) p

-- ---- when an edit can be made in place: "If s exceeds start minus 64, or an insert finds 28 records, .."

pub record CanInsert (p : List ℕ) (i : ℕ) (r : Rec) : Type 0 where
  pub ok : laid_out p ≡ true
  pub good : RecOk r
  pub few : length (records p) < slot_count
  pub place : i ≤ length (records p)
  pub room : line_size + size r ≤ (read_head p).start

pub record CanUpdate (p : List ℕ) (i : ℕ) (r : Rec) : Type 0 where
  pub ok : laid_out p ≡ true
  pub good : RecOk r
  pub place : i < length (records p)
  pub room : line_size + size r ≤ (read_head p).start
