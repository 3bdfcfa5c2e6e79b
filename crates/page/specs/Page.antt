-- A page by itself: its records, and when it is sound (document 01, 'Page layout', "An image is sound if ..").
-- Each test is a Bool that computes, with a record of the facts that it stands for.
-- Assumes nothing.
use Rattle.std.specs.Prelude.{◌≡◌, ℕ, suc, ◌+◌, ◌%◌, ◌<◌, ◌≤◌, Bool, true, ◌&&◌, ◌||◌, ◌⊎◌, List, [], ◌∷◌, map, length, take, ◌==◌, nat_le, nat_lt}
use Rattle.codec.specs.Lists.{part, eqs, every, all_b, All, pick}
use Rattle.page.specs.Layout.{page_size, line_size, slot_count, leaf_kind, top_key, value_most, Rec, size, record_bytes, record_at, Head, header_bytes, read_head}

-- ---- what a page lists

-- a listed record, with its offset in the page
pub record Entry : Type 0 where
  pub at : ℕ
  pub rec : Rec

abbrev pub entry_at : List ℕ → ℕ → Entry
entry_at p o = record { at = o; rec = record_at p o }

-- the first offset past a record
abbrev pub end : Entry → ℕ
end e = e.at + size e.rec

abbrev pub recs : List Entry → List Rec
recs es = map (λ (e : Entry). e.rec) es

-- the records that the page p lists, in slot order: with their offsets, and alone
unfoldable pub entries : List ℕ → List Entry
entries p = map (entry_at p) (read_head p).slots

unfoldable pub records : List ℕ → List Rec
records p = map (record_at p) (read_head p).slots

-- ---- the layout tests

-- "Keys are .. to 999,999,999,999; values 0 to 200 bytes."
unfoldable pub rec_ok : Rec → Bool
rec_ok r = every (nat_le r.key top_key ∷ nat_le (length r.value) value_most ∷ [])

-- "at most 28 records"; "start is a multiple of 8 from 64 to 1,024"; a kind of one byte and a number of two
unfoldable pub head_ok : Head → Bool
head_ok h =
    every
    (nat_le (length h.slots) slot_count
    ∷ (h.start % 8 == 0)
    ∷ nat_le line_size h.start
    ∷ nat_le h.start page_size
    ∷ nat_lt h.kind 256
    ∷ nat_lt h.own 65536
    ∷ [])

-- "slots are multiples of 8, not below start; records end by 1,024 .. and have the form above"
unfoldable pub held_b : List ℕ → ℕ → Entry → Bool
held_b p start e =
    every
    (nat_le start e.at
    ∷ (e.at % 8 == 0)
    ∷ nat_le (end e) page_size
    ∷ rec_ok e.rec
    ∷ eqs (part p e.at (size e.rec)) (record_bytes e.rec)
    ∷ [])

-- "don't overlap"
unfoldable pub off_b : Entry → Entry → Bool
off_b e f = nat_le (end e) f.at || nat_le (end f) e.at

unfoldable pub apart_b : List Entry → Bool
apart_b [] = true
apart_b (e ∷ es) = all_b (off_b e) es && apart_b es

-- "every reached header is laid out as above", and so are the records that it lists
unfoldable pub laid_out : List ℕ → Bool
laid_out p =
    let h = read_head p in
    let es = entries p in
    every
    ((length p == page_size)
    ∷ head_ok h
    ∷ eqs (take line_size p) (header_bytes h)
    ∷ all_b (held_b p h.start) es
    ∷ apart_b es
    ∷ [])

-- ---- the tests on what the page says

-- "Keys are 1 to .." in a leaf; "An index record's key is a separator, 0 to .., and its value a 2-byte page number."
unfoldable pub form_ok : ℕ → Rec → Bool
form_ok kind r = pick (kind == leaf_kind) (nat_le 1 r.key) (length r.value == 2)

-- the first key is not below lo
unfoldable pub starts_at : ℕ → List Rec → Bool
starts_at lo [] = true
starts_at lo (r ∷ rs) = nat_le lo r.key

-- "keys and separators rise strictly"
unfoldable pub keys_rise : List Rec → Bool
keys_rise [] = true
keys_rise (r ∷ rs) = starts_at (suc r.key) rs && keys_rise rs

-- a page by itself is sound: laid out, with "its own number and kind", records of its kind's form, keys that rise strictly
unfoldable pub page_ok : ℕ → ℕ → List ℕ → Bool
page_ok kind own p =
    let h = read_head p in
    let rs = records p in
    every (laid_out p ∷ (h.kind == kind) ∷ (h.own == own) ∷ all_b (form_ok kind) rs ∷ keys_rise rs ∷ [])

-- ---- the facts that the tests stand for

pub record RecOk (r : Rec) : Type 0 where
  pub low : r.key ≤ top_key
  pub few : length r.value ≤ value_most

pub record HeadOk (h : Head) : Type 0 where
  pub few : length h.slots ≤ slot_count
  pub even : h.start % 8 ≡ 0
  pub low : line_size ≤ h.start
  pub high : h.start ≤ page_size
  pub kind_fits : h.kind < 256
  pub own_fits : h.own < 65536

-- the record e stands in the page p, not below start
pub record Held (p : List ℕ) (start : ℕ) (e : Entry) : Type 0 where
  pub low : start ≤ e.at
  pub even : e.at % 8 ≡ 0
  pub high : end e ≤ page_size
  pub ok : RecOk e.rec
  pub bytes : part p e.at (size e.rec) ≡ record_bytes e.rec

abbrev pub Off : Entry → Entry → Type 0
Off e f = (end e ≤ f.at) ⊎ (end f ≤ e.at)

abbrev pub Apart : List Entry → Type 0
Apart [] = Unit {0}
Apart (e ∷ es) = All (Off e) es × Apart es

-- the bytes p hold the entries es under the header h, whatever the header line of p says
pub record Body (h : Head) (p : List ℕ) (es : List Entry) : Type 0 where
  pub whole : length p ≡ page_size
  pub head : HeadOk h
  pub listed : h.slots ≡ map (λ (e : Entry). e.at) es
  pub held : All (Held p h.start) es
  pub apart : Apart es

-- and the header line is h's
pub record Is (h : Head) (p : List ℕ) (es : List Entry) : Type 0 where
  pub line : take line_size p ≡ header_bytes h
  pub body : Body h p es

-- q is laid out, with the header h and the records rs
pub record Page (q : List ℕ) (h : Head) (rs : List Rec) : Type 0 where
  pub ok : laid_out q ≡ true
  pub head : read_head q ≡ h
  pub recs : records q ≡ rs
