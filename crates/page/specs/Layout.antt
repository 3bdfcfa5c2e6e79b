-- The layout of a slotted page: its record and its header line, as bytes and back (document 01, 'Page layout').
-- Assumes nothing.
use Rattle.std.specs.Prelude.{ℕ, zero, suc, ◌+◌, ◌-◌, ◌*◌, ◌/◌, ◌%◌, List, [], ◌∷◌, ◌++◌, length, take, drop, replicate, slice_index}
use Rattle.codec.specs.Lists.{part}
use Rattle.codec.specs.Numbers.{number, bytes_of}
use Rattle.page.specs.declared.header.Header.{Header}

-- ---- the numbers of the layout, each named once

-- "a page 1,024 bytes", "a line 64 bytes"
abbrev pub page_size : ℕ
page_size = 1024

abbrev pub line_size : ℕ
line_size = 64

-- "28 slots of two bytes"
abbrev pub slot_count : ℕ
slot_count = 28

-- "kind (1; 1 leaf, 2 index)"
abbrev pub leaf_kind : ℕ
leaf_kind = 1

abbrev pub index_kind : ℕ
index_kind = 2

-- "A top page, kind 3, in the index form" (document 02 (j))
abbrev pub top_kind : ℕ
top_kind = 3

-- "Keys are 1 to 999,999,999,999": the largest key, and the largest separator
abbrev pub top_key : ℕ
top_key = 999999999999

-- "values 0 to 200 bytes"
abbrev pub value_most : ℕ
value_most = 200

-- ---- records

-- a record: its key, or separator, and its value
pub record Rec : Type 0 where
  pub key : ℕ
  pub value : List ℕ

abbrev pub rec_of : ℕ → List ℕ → Rec
rec_of k v = record { key = k; value = v }

-- "rounded up to 8"
unfoldable pub up8 : ℕ → ℕ
up8 n = (n + 7) / 8 * 8

-- "Its size is 16 plus the length rounded up to 8."
unfoldable pub size : Rec → ℕ
size r = 16 + up8 (length r.value)

-- "A record is its key (8 bytes), value length (2), six zeros, the value, then zeros to a multiple of 8."
unfoldable pub record_bytes : Rec → List ℕ
record_bytes r =
    bytes_of 8 r.key
    ++ (bytes_of 2 (length r.value) ++ (replicate 6 0 ++ (r.value ++ replicate (up8 (length r.value) - length r.value) 0)))

-- the record at the front of the bytes b
unfoldable pub record_in : List ℕ → Rec
record_in b = record { key = number (take 8 b); value = take (number (take 2 (drop 8 b))) (drop 16 b) }

-- the record at the offset o of the page p
unfoldable pub record_at : List ℕ → ℕ → Rec
record_at p o = record_in (drop o p)

-- ---- the header line

-- a header: content start, kind, own page number, and the slots in use. The count is their number
pub record Head : Type 0 where
  pub start : ℕ
  pub kind : ℕ
  pub own : ℕ
  pub slots : List ℕ

-- "Slots past the count are zero."
unfoldable pub padded : List ℕ → List ℕ
padded os = os ++ replicate (slot_count - length os) 0

-- the slots as bytes, "each the offset of a record in the page", and back
unfoldable pub slot_bytes : List ℕ → List ℕ
slot_bytes [] = []
slot_bytes (x ∷ xs) = (x % 256) ∷ (x / 256) ∷ slot_bytes xs

unfoldable pub slots_in : ℕ → List ℕ → List ℕ
slots_in zero bs = []
slots_in (suc n) bs = number (take 2 bs) ∷ slots_in n (drop 2 bs)

-- "count (2 bytes), content start (2), kind (1; 1 leaf, 2 index), zero (1), own page number (2); the rest of the line is 28 slots of two bytes"
unfoldable pub header_bytes : Head → List ℕ
header_bytes h =
    bytes_of 2 (length h.slots) ++ (bytes_of 2 h.start ++ (h.kind ∷ 0 ∷ (bytes_of 2 h.own ++ slot_bytes (padded h.slots))))

-- the header that stands in line 0 of the page p
unfoldable pub read_head : List ℕ → Head
read_head p =
    record {
      start = number (part p 2 2);
      kind = slice_index p 4;
      own = number (part p 6 2);
      slots = slots_in (number (part p 0 2)) (drop 8 p);
    }

-- "an unused header, the same everywhere: no records, content start 1,024"; its kind and own number are those of its use
unfoldable pub unused_head : ℕ → ℕ → Head
unused_head kind own = record { start = page_size; kind = kind; own = own; slots = [] }

-- ---- the code's header, with its count and all 28 slots

-- the code's header of a header
unfoldable pub header_of : Head → Header
header_of h = record { count = length h.slots; start = h.start; kind = h.kind; own = h.own; slots = padded h.slots }

-- the header that the code's stands for
unfoldable pub head_of : Header → Head
head_of h = record { start = h.start; kind = h.kind; own = h.own; slots = take h.count h.slots }

-- what stands in the header line, whatever it is
unfoldable pub raw_header : List ℕ → Header
raw_header p =
    record {
      count = number (part p 0 2);
      start = number (part p 2 2);
      kind = slice_index p 4;
      own = number (part p 6 2);
      slots = slots_in slot_count (drop 8 p);
    }

-- the header line of the code's header, all 28 slots as they are
unfoldable pub raw_bytes : Header → List ℕ
raw_bytes h =
    bytes_of 2 h.count ++ (bytes_of 2 h.start ++ (h.kind ∷ 0 ∷ (bytes_of 2 h.own ++ slot_bytes h.slots)))
