-- What an edit in place, a delete and a fill leave of a page: kind, number, content start and records, and where the records lie; and which bytes an edit
-- leaves: those from the content start on, and those from the header line to the new content start.
-- Assumes nothing.
use Rattle.std.proofs.Common.{◌≡◌, ℕ, ◌+◌, ◌-◌, ◌<◌, ◌≤◌, Bool, true, false, ◌⊎◌, List, map, length, get_or, take, drop, set, sym, refl, ap, ◌∙◌, subst, inl, inr, arith, drop-drop}
use Rattle.codec.specs.Lists.{part, insert_at, remove_at, All}
use Rattle.codec.proofs.Lists.{drop-splice, part-splice-below, length-remove_at}
use Rattle.codec.proofs.Agree.{agree-part}
use Rattle.page.specs.Layout.{page_size, line_size, slot_count, Rec, size, record_bytes, Head, read_head, unused_head}
use Rattle.page.specs.Page.{records, laid_out, RecOk, Page, Entry}
use Rattle.page.specs.Operations.{seal, written, insert_head, update_head, delete_head, insert, update, in_place, delete, fill_head, fill, placed, sizes, made}
use Rattle.page.specs.PageFormat.{Lower, OldPage, Shows}
use Rattle.page.proofs.Records.{length-record_bytes, size-least}
use Rattle.page.proofs.Facts.{ok-is}
use Rattle.page.proofs.Writes.{drop-seal, part-seal}
use Rattle.page.proofs.Operations.{insert-page, update-page, delete-page, fill_is, fill-page, fill-kind, fill-own, fill_start}

-- ---- what a page shows

-- a page that is sound by itself
pub shows-as : {g : List ℕ} {k n s t : ℕ} {rs ss : List Rec} → Shows g k n s rs → s ≡ t → rs ≡ ss → Shows g k n t ss
shows-as h e f = record { laid = h.laid; kind = h.kind; own = h.own; start = h.start ∙ e; recs = h.recs ∙ f }

-- a page that is laid out: its length, and where its content starts at the lowest
pub laid-length : (g : List ℕ) → laid_out g ≡ true → length g ≡ page_size
laid-length g h = (ok-is g h).body.whole

pub laid-start : (g : List ℕ) → laid_out g ≡ true → line_size ≤ (read_head g).start
laid-start g h = (ok-is g h).body.head.low

-- a page that is what its new header says
shows-page : (g : List ℕ) (h : Head) (rs : List Rec) → Page g h rs → Shows g h.kind h.own h.start rs
shows-page g h rs k =
    record { laid = k.ok; kind = ap (λ (x : Head). x.kind) k.head; own = ap (λ (x : Head). x.own) k.head; start = ap (λ (x : Head). x.start) k.head; recs = k.recs }

-- ---- a header that has sunk, and edits in place

pub lower-trans : (p q r : List ℕ) → Lower p q → Lower q r → Lower p r
lower-trans p q r (inl h) (inl k) = inl (omega arith)
lower-trans p q r (inl h) (inr k) = inl (omega (arith, k.0))
lower-trans p q r (inr h) (inl k) = inl (omega (arith, h.0))
lower-trans p q r (inr h) (inr k) = inr (omega (arith, h.0, k.0), omega (arith, h.1, k.1))

-- no edits in place, and some after others
pub old-refl : (p : List ℕ) → OldPage p p
old-refl p = record { falls = omega arith; above = refl; sinks = inl refl }

pub old-trans : (p q r : List ℕ) → OldPage p q → OldPage q r → OldPage p r
old-trans p q r h k =
    record { falls = omega (arith, h.falls, k.falls); above = down ∙ h.above; sinks = go h.sinks k.sinks }
  where
    s : ℕ
    s = (read_head p).start

    t : ℕ
    t = (read_head q).start

    down : drop s r ≡ drop s q
    down =
        let e : t + (s - t) ≡ s = omega (arith, h.falls) in
        ap (λ (m : ℕ). drop m r) (sym e) ∙ sym (drop-drop (s - t) t r) ∙ ap (drop (s - t)) k.above ∙ drop-drop (s - t) t q ∙ ap (λ (m : ℕ). drop m q) e

    go : (q ≡ p) ⊎ Lower p q → (r ≡ q) ⊎ Lower q r → (r ≡ p) ⊎ Lower p r
    go (inl a) (inl b) = inl (b ∙ a)
    go (inl a) (inr b) = inr (subst (λ (x : List ℕ). Lower x r) a b)
    go (inr a) (inl b) = inr (subst (Lower p) (sym b) a)
    go (inr a) (inr b) = inr (lower-trans p q r a b)

-- ---- a record put into its page

-- the slots with an edit made: o put in as the i-th, or in place of the i-th
abbrev pub slot_made : Bool → ℕ → ℕ → List ℕ → List ℕ
slot_made true i o os = insert_at i o os
slot_made false i o os = set os i o

module _ (p : List ℕ) (laid : laid_out p ≡ true) (i : ℕ) (r : Rec) (good : RecOk r) (room : line_size + size r ≤ (read_head p).start) where
  -- under any header whose slots fit the line, the bytes from start on stay
  above-seal : (h : Head) → length h.slots ≤ slot_count → drop (read_head p).start (seal h (written (read_head p).start p r)) ≡ drop (read_head p).start p
  unfolding written
  above-seal h few =
      let s = (read_head p).start in
      let l = length-record_bytes r in
      let high = (ok-is p laid).body.head.high in
      drop-seal h (written s p r) s few (laid-start p laid) ∙ drop-splice p (s - size r) (record_bytes r) (omega (arith, laid-length p laid)) s (omega arith)

  -- its new header, and what that says
  place-page : (ins : Bool) → (ins ≡ true → length (records p) < slot_count) →
      (h : Head) × Page (in_place ins i r p) h (made ins i r (records p)) × (h.kind ≡ (read_head p).kind) × (h.own ≡ (read_head p).own) × (h.start ≡ (read_head p).start - size r)
      × (in_place ins i r p ≡ seal h (written (read_head p).start p r)) × (h.slots ≡ slot_made ins i ((read_head p).start - size r) (read_head p).slots)
  unfolding in_place made insert_head update_head insert update
  place-page true few = (insert_head (read_head p) i (size r), insert-page p laid i r good room (few refl), refl, refl, refl, refl, refl)
  place-page false few = (update_head (read_head p) i (size r), update-page p laid i r good room, refl, refl, refl, refl, refl)

  module _ (ins : Bool) (few : ins ≡ true → length (records p) < slot_count) where
    pub place-shows : Shows (in_place ins i r p) (read_head p).kind (read_head p).own ((read_head p).start - size r) (made ins i r (records p))
    place-shows =
        let t = place-page ins few in
        let s = shows-page (in_place ins i r p) t.0 (made ins i r (records p)) t.1 in
        record { laid = s.laid; kind = s.kind ∙ t.2; own = s.own ∙ t.3; start = s.start ∙ t.4; recs = s.recs }

    pub place-slots : (read_head (in_place ins i r p)).slots ≡ slot_made ins i ((read_head p).start - size r) (read_head p).slots
    place-slots = let t = place-page ins few in ap (λ (h : Head). h.slots) t.1.head ∙ t.6

    pub place-lower : Lower p (in_place ins i r p)
    place-lower = inl (omega (arith, place-shows.start, size-least r))

    few-slots : length (place-page ins few).0.slots ≤ slot_count
    few-slots =
        let t = place-page ins few in
        subst (λ (h : Head). length h.slots ≤ slot_count) t.1.head (ok-is (in_place ins i r p) t.1.ok).body.head.few

    pub place-old : OldPage p (in_place ins i r p)
    place-old =
        let t = place-page ins few in
        record {
          falls = omega (arith, place-shows.start);
          above = ap (drop (read_head p).start) t.5 ∙ above-seal t.0 few-slots;
          sinks = inr place-lower;
        }

    -- "just below start": the bytes from 64 to the new start stay
    pub place-below : (o : ℕ) → line_size ≤ o → o < (read_head p).start - size r → get_or (in_place ins i r p) o 0 ≡ get_or p o 0
    unfolding written
    place-below o low high =
        let s = (read_head p).start in
        let t = place-page ins few in
        let n : ℕ = s - size r - line_size in
        let fits : s - size r + length (record_bytes r) ≤ length p = omega (arith, length-record_bytes r, laid-length p laid, (ok-is p laid).body.head.high) in
        agree-part p (in_place ins i r p) line_size n
        (ap (λ (x : List ℕ). part x line_size n) t.5
        ∙ part-seal t.0 (written s p r) line_size n few-slots (omega arith)
        ∙ part-splice-below p (s - size r) (record_bytes r) fits line_size n (omega arith)) o low (omega arith)

-- ---- a record dropped

module _ (p : List ℕ) (laid : laid_out p ≡ true) (i : ℕ) where
  pub delete-shows : Shows (delete p i) (read_head p).kind (read_head p).own (read_head p).start (remove_at i (records p))
  unfolding delete_head
  delete-shows = shows-page (delete p i) (delete_head (read_head p) i) (remove_at i (records p)) (delete-page p laid i)

  pub delete-lower : i < length (records p) → Lower p (delete p i)
  delete-lower h = inr (delete-shows.start, omega (arith, ap length delete-shows.recs, length-remove_at i (records p) h))

  -- the bytes past the header line stay
  delete-rest : (o : ℕ) → line_size ≤ o → drop o (delete p i) ≡ drop o p
  unfolding delete
  delete-rest o low =
      let t = delete-page p laid i in
      let slots : length (delete_head (read_head p) i).slots ≤ slot_count =
      subst (λ (x : Head). length x.slots ≤ slot_count) t.head (ok-is (delete p i) t.ok).body.head.few in
      drop-seal (delete_head (read_head p) i) p o slots low

  pub delete-old : i < length (records p) → OldPage p (delete p i)
  delete-old h = record { falls = omega (arith, delete-shows.start); above = delete-rest (read_head p).start (laid-start p laid); sinks = inr (delete-lower h) }

  -- each of them
  pub delete-past : (o : ℕ) → line_size ≤ o → get_or (delete p i) o 0 ≡ get_or p o 0
  unfolding part
  delete-past o low = agree-part p (delete p i) o 1 (ap (take 1) (delete-rest o low)) o (omega arith) (omega arith)

-- ---- a new page

pub fill_shows : (p : List ℕ) (kind own : ℕ) (rs : List Rec) → length p ≡ page_size → kind < 256 → own < 65536 → All RecOk rs → line_size + sizes rs ≤ page_size → length rs ≤ slot_count →
    Shows (fill p kind own rs) kind own (page_size - sizes rs) rs
unfolding unused_head
fill_shows p kind own rs whole k o good room few =
    let h = unused_head kind own in
    let s = shows-page (fill p kind own rs) (fill_head h rs) rs (fill-page p kind own rs whole k o good room few) in
    record { laid = s.laid; kind = s.kind ∙ fill-kind h rs; own = s.own ∙ fill-own h rs; start = s.start ∙ fill_start h rs; recs = s.recs }

-- where its records lie
pub fill-offsets : (p : List ℕ) (kind own : ℕ) (rs : List Rec) → length p ≡ page_size → kind < 256 → own < 65536 → All RecOk rs → line_size + sizes rs ≤ page_size → length rs ≤ slot_count →
    (read_head (fill p kind own rs)).slots ≡ map (λ (e : Entry). e.at) (placed page_size rs)
fill-offsets p kind own rs whole k o good room few =
    ap (λ (h : Head). h.slots) (fill-page p kind own rs whole k o good room few).head ∙ (fill_is p kind own rs whole k o good room few).body.listed
