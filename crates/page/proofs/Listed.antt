-- The i-th record that a page lists, read by its slot.
-- Assumes nothing.
use Rattle.std.proofs.Common.{◌≡◌, ℕ, zero, suc, ◌+◌, ◌*◌, ◌<◌, ◌≤◌, true, List, [], ◌∷◌, map, length, get_or, take, drop, sym, refl, ap, ◌∙◌, not-suc-le-zero, add-one, arith, drop-cons, drop-drop}
use lib.ListN.{length-map, get_or-map}
use lib.Seq.{ext_get_or}
use Rattle.codec.specs.Lists.{part, All}
use Rattle.codec.specs.Numbers.{number}
use Rattle.page.specs.Layout.{slot_count, record_at, slots_in, read_head}
use Rattle.page.specs.Page.{entry_at, entries, records, laid_out, Held}
use Rattle.page.proofs.Headers.{length-slots_in}
use Rattle.page.proofs.Facts.{length-records, length-entries, ok-is}

-- ---- general list laws that codec does not have

pub All-at : {A : Type 0} (P : A → Type 0) (l : List A) (i : ℕ) (d : A) → All P l → i < length l → P (get_or l i d)
All-at P [] i d a h = absurd (not-suc-le-zero h)
All-at P (x ∷ l) zero d a h = a.0
All-at P (x ∷ l) (suc i) d a h = All-at P l i d a.1 (omega arith)

-- an element that is there, whatever the default
pub get_or-inside : {A : Type 0} (l : List A) (i : ℕ) (a b : A) → i < length l → get_or l i a ≡ get_or l i b
get_or-inside [] i a b h = absurd (not-suc-le-zero h)
get_or-inside (x ∷ l) zero a b h = refl
get_or-inside (x ∷ l) (suc i) a b h = get_or-inside l i a b (omega arith)

map_next : {A : Type 0} (f : ℕ → A) (l : List ℕ) (i : ℕ) → i < length l → drop i (map f l) ≡ f (get_or l i 0) ∷ drop (i + 1) (map f l)
map_next f l i h =
    let n : i < length (map f l) = omega (arith, length-map l f) in
    drop-cons (map f l) i (f 0) n ∙ rw (get_or-map f l i 0, add-one)

-- ---- the slots in the line

get_or-slots_in : (n i : ℕ) (bs : List ℕ) → i < n → get_or (slots_in n bs) i 0 ≡ number (take 2 (drop (2 * i) bs))
unfolding slots_in
get_or-slots_in zero i bs h = absurd (not-suc-le-zero h)
get_or-slots_in (suc n) zero bs h = refl
get_or-slots_in (suc n) (suc i) bs h =
    let e : 2 + 2 * i ≡ 2 * suc i = omega arith in
    get_or-slots_in n i (drop 2 bs) (omega arith) ∙ ap (λ (b : List ℕ). number (take 2 b)) (drop-drop (2 * i) 2 bs ∙ ap (λ (m : ℕ). drop m bs) e)

-- numbers that stand one after the other from o on are slots
pub slots-read : (p xs : List ℕ) (n o : ℕ) → length xs ≡ n → ((i : ℕ) → i < n → get_or xs i 0 ≡ number (part p (o + 2 * i) 2)) → xs ≡ slots_in n (drop o p)
unfolding part
slots-read p xs n o e h =
    ext_get_or 0 xs (slots_in n (drop o p)) (e ∙ sym (length-slots_in n (drop o p)))
    (λ i k. h i (omega arith) ∙ ap (λ (b : List ℕ). number (take 2 b)) (sym (drop-drop (2 * i) o p)) ∙ sym (get_or-slots_in n i (drop o p) (omega arith)))

pub count_at : (p : List ℕ) → number (part p 0 2) ≡ length (records p)
unfolding read_head
count_at p = sym (length-records p ∙ length-slots_in (number (part p 0 2)) (drop 8 p))

-- one below the count n is the number of a listed record
pub below_count : (p : List ℕ) (i n : ℕ) → i < n → n ≡ number (part p 0 2) → i < length (records p)
below_count p i n h e = omega (arith, e, count_at p)

module _ (p : List ℕ) (i : ℕ) (less : i < length (records p)) where
  pub slot_at : number (part p (8 + 2 * i) 2) ≡ get_or (read_head p).slots i 0
  unfolding read_head part
  slot_at =
      ap (λ (b : List ℕ). number (take 2 b)) (sym (drop-drop (2 * i) 8 p))
      ∙ sym (get_or-slots_in (number (part p 0 2)) i (drop 8 p) (omega (arith, count_at p)))

  in-slots : i < length (read_head p).slots
  in-slots = omega (arith, length-records p)

  -- the record of the i-th slot, o
  module _ (o : ℕ) (e : o ≡ number (part p (8 + 2 * i) 2)) where
    pub entries_next : drop i (entries p) ≡ entry_at p o ∷ drop (i + 1) (entries p)
    unfolding entries
    entries_next = rw (e, slot_at) (map_next (entry_at p) (read_head p).slots i in-slots)

    pub record-listed : get_or (records p) i (record_at p 0) ≡ record_at p o
    unfolding records
    record-listed = get_or-map (record_at p) (read_head p).slots i 0 ∙ ap (record_at p) (sym (e ∙ slot_at))

    pub slot_held : All (Held p (read_head p).start) (entries p) → Held p (read_head p).start (entry_at p o)
    unfolding entries
    slot_held held =
        let a = All-at (Held p (read_head p).start) (entries p) i (entry_at p 0) held (omega (arith, in-slots, length-entries p)) in
        rw (e, slot_at) (rw (get_or-map (entry_at p) (read_head p).slots i 0) at a)

-- the slots lie in the header line
pub few-listed : (p : List ℕ) → laid_out p ≡ true → length (records p) ≤ slot_count
few-listed p ok = omega (arith, length-records p, (ok-is p ok).body.head.few)
