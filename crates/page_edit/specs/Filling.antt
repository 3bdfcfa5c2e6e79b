-- What the functions that fill a page ask for, and what they leave.
-- Assumes nothing.
use Rattle.std.specs.Prelude.{ℕ, ◌+◌, ◌≤◌, ◌<◌, ◌≡◌, Bool, true, List, length}
use Rattle.codec.specs.Lists.{part}
use Rattle.page.specs.Layout.{page_size, line_size, slot_count, Rec, size, record_bytes, record_at, header_of, head_of}
use Rattle.page.specs.Page.{records, laid_out, RecOk}
use Rattle.page.specs.Operations.{fill_head, fill_bytes, sizes, made, between}
use Rattle.page.specs.declared.header.Header.{Header}

-- the header h, of a page that is being filled, has room for the records rs
pub record Room (h : Header) (rs : List Rec) : Type 0 where
  pub clean : h ≡ header_of (head_of h)
  pub few : h.count + length rs ≤ slot_count
  pub high : h.start ≤ page_size
  pub room : line_size + sizes rs ≤ h.start

-- a record stands at the offset o of the page p
pub record Stands (p : List ℕ) (o : ℕ) : Type 0 where
  pub ok : RecOk (record_at p o)
  pub inside : o + size (record_at p o) ≤ length p
  pub bytes : part p o (size (record_at p o)) ≡ record_bytes (record_at p o)

-- from the header h and the page p, the records rs were filled in: g and q are what is there now
pub record Filled (h : Header) (p : List ℕ) (rs : List Rec) (g : Header) (q : List ℕ) : Type 0 where
  pub head : g ≡ header_of (fill_head (head_of h) rs)
  pub bytes : q ≡ fill_bytes h.start p rs

-- of the records of `old` with an edit made, those from the a-th on, up to the b-th, fit a page: "at most 28 and at most 960 bytes"
pub record CanFill (old : List ℕ) (ins : Bool) (i : ℕ) (r : Rec) (a b : ℕ) : Type 0 where
  pub ok : laid_out old ≡ true
  pub good : RecOk r
  pub place : i < length (made ins i r (records old))
  pub order : a ≤ b
  pub within : b ≤ length (made ins i r (records old))
  pub few : length (between (made ins i r (records old)) a b) ≤ slot_count
  pub room : line_size + sizes (between (made ins i r (records old)) a b) ≤ page_size
