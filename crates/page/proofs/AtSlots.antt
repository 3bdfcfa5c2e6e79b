-- The i-th record of a page that is laid out, read where its slot says.
-- Assumes nothing.
use Rattle.std.proofs.Common.{◌≡◌, ℕ, ◌+◌, ◌*◌, ◌<◌, ◌≤◌, true, List, [], map, length, get_or, sym, ap, ◌∙◌, arith}
use lib.ListN.{get_or-map}
use Rattle.codec.specs.Lists.{part}
use Rattle.codec.specs.Numbers.{number}
use Rattle.page.specs.Layout.{page_size, value_most, Rec, rec_of, up8, size, record_at, read_head}
use Rattle.page.specs.Page.{Entry, entry_at, records, laid_out, RecOk, Held}
use Rattle.page.proofs.Records.{up8-least, key-at, record_is, length_at}
use Rattle.page.proofs.Facts.{ok-is, records-ok}
use Rattle.page.proofs.Listed.{All-at, get_or-inside, slot_at, slot_held, few-listed}

-- a record's head and value lie in its page
pub held-room : {p : List ℕ} {start : ℕ} (e : Entry) → Held p start e → e.at + 16 + length e.rec.value ≤ page_size
unfolding size
held-room e h = omega (arith, h.high, up8-least (length e.rec.value))

-- the offset that the i-th slot holds
abbrev pub slot : List ℕ → ℕ → ℕ
slot p i = get_or (read_head p).slots i 0

record-slot : (p : List ℕ) (j : ℕ) (z : Rec) → j < length (records p) → get_or (records p) j z ≡ record_at p (slot p j)
unfolding records
record-slot p j z h = get_or-inside (map (record_at p) (read_head p).slots) j z (record_at p 0) h ∙ get_or-map (record_at p) (read_head p).slots j 0

module _ (p : List ℕ) (ok : laid_out p ≡ true) (i : ℕ) (less : i < length (records p)) where
  pub whole : length p ≡ page_size
  whole = (ok-is p ok).body.whole

  -- the slot lies in the header line
  pub slot-in : 8 + 2 * i + 2 ≤ length p
  slot-in = omega (arith, whole, few-listed p ok)

  held : Held p (read_head p).start (entry_at p (slot p i))
  held = slot_held p i less (slot p i) (sym (slot_at p i less)) (ok-is p ok).body.held

  pub record-here : (d : Rec) → get_or (records p) i d ≡ record_at p (slot p i)
  record-here d = record-slot p i d less

  -- "records end by 1,024"
  pub value_in : (d : Rec) → slot p i + 16 + length (get_or (records p) i d).value ≤ length p
  value_in d = omega (arith, ap (λ (r : Rec). length r.value) (record-here d), held-room (entry_at p (slot p i)) held, whole)

  pub key_here : (d : Rec) → number (part p (slot p i) 8) ≡ (get_or (records p) i d).key
  key_here d = key-at p (slot p i) ∙ ap (λ (r : Rec). r.key) (sym (record-here d))

  pub length-here : (d : Rec) → number (part p (slot p i + 8) 2) ≡ length (get_or (records p) i d).value
  length-here d = length_at p (slot p i) (record_at p (slot p i)) held.ok held.bytes ∙ ap (λ (r : Rec). length r.value) (sym (record-here d))

  pub value-here : (d : Rec) → (get_or (records p) i d).value ≡ part p (slot p i + 16) (length (get_or (records p) i d).value)
  value-here d =
      ap (λ (r : Rec). r.value) (record-here d ∙ record_is p (slot p i) (length (get_or (records p) i d).value) (sym (length-here d)))

-- the length that stands in it
module _ (p : List ℕ) (ok : laid_out p ≡ true) (i : ℕ) (less : i < length (records p)) (o : ℕ) (e : o ≡ slot p i) where
  pub length-in : o + 8 + 2 ≤ length p
  length-in = omega (arith, value_in p ok i less (rec_of 0 []))

  pub length-small : (n : ℕ) → n ≡ number (part p (o + 8) 2) → n ≤ value_most
  length-small n f =
      omega (
        arith,
        f ∙ ap (λ (k : ℕ). number (part p (k + 8) 2)) e ∙ length-here p ok i less (rec_of 0 []),
        (All-at RecOk (records p) i (rec_of 0 []) (records-ok p ok) less).few,
      )

  pub size-here : (n : ℕ) → n ≡ number (part p (o + 8) 2) → 16 + up8 n ≡ size (get_or (records p) i (rec_of 0 []))
  unfolding size
  size-here n f = ap (λ (m : ℕ). 16 + up8 m) (f ∙ ap (λ (k : ℕ). number (part p (k + 8) 2)) e ∙ length-here p ok i less (rec_of 0 []))
