-- Insert, update, delete and fill act on the list of a page's records as they should, keep the page laid out where there is
-- room, and overwrite no listed record.
-- Assumes nothing.
use Rattle.std.proofs.Common.{◌≡◌, ℕ, suc, ◌+◌, ◌-◌, ◌<◌, ◌≤◌, true, List, [], ◌∷◌, ◌++◌, length, get_or, set, sym, refl, ap, ◌∙◌, inl, append_assoc, append-nil, arith, length-set}
use lib.ListN.{length-map}
use Rattle.codec.specs.Lists.{part, insert_at, remove_at, All}
use Rattle.codec.proofs.Lists.{part-splice-below, length-insert_at, length-remove_at-le, map-insert_at, map-set, map-remove_at}
use Rattle.codec.proofs.Agree.{agree-part}
use Rattle.codec.proofs.Tests.{All-map, All-insert, All-set, All-remove}
use Rattle.page.specs.Layout.{page_size, line_size, slot_count, Rec, size, record_bytes, Head, read_head, unused_head}
use Rattle.page.specs.Page.{Entry, recs, entries, records, laid_out, RecOk, HeadOk, Held, Off, Body, Is, Page}
use Rattle.page.specs.Operations.{written, insert_head, update_head, delete_head, insert, update, delete, fill_head, fill_bytes, fill, placed, sizes}
use Rattle.page.proofs.Records.{length-record_bytes, size-even}
use Rattle.page.proofs.Slots.{insert-last}
use Rattle.page.proofs.Facts.{length-records, length-entries, recs-entries, is-page, ok-is}
use Rattle.page.proofs.Writes.{Apart-insert, Apart-set, Apart-remove, Agree, held-agree, held_down, put-length, put_reads, put-off, part-seal, is-seal}

-- the entry of a record written just below start
abbrev pub below : Head → Rec → Entry
below h r = record { at = h.start - size r; rec = r }

pub listed-length : {h : Head} {p : List ℕ} {es : List Entry} → Body h p es → length h.slots ≡ length es
listed-length {es = es} b = ap length b.listed ∙ length-map es (λ (e : Entry). e.at)

-- ---- the bodies

module _ (h : Head) (p : List ℕ) (es : List Entry) (b : Body h p es) (r : Rec) (ok : RecOk r) (room : line_size + size r ≤ h.start) where
  fits : h.start - size r + size r ≤ length p
  fits = omega (arith, b.whole, b.head.high)

  offs : All (Off (below h r)) es
  offs = All-map (Held p h.start) (Off (below h r)) (λ e k. inl (omega (arith, k.low))) es b.held

  -- the bytes of the records listed before stay
  pub agree-written : (e : Entry) → Held p h.start e → Agree p (written h.start p r) e
  unfolding written
  agree-written e k = put-off p (below h r) fits e (inl (omega (arith, k.low)))

  pub length-written : length (written h.start p r) ≡ page_size
  unfolding written
  length-written = put-length p (below h r) fits ∙ b.whole

  kept : All (Held (written h.start p r) (h.start - size r)) es
  kept =
      All-map (Held p h.start) (Held (written h.start p r) (h.start - size r))
      (λ e k. held_down (h.start - size r) e (omega arith) (held-agree e (agree-written e k) k)) es b.held

  new : Held (written h.start p r) (h.start - size r) (below h r)
  unfolding written
  new =
      record {
        low = omega arith;
        even = omega (arith, b.head.even, size-even r);
        high = omega (arith, b.head.high);
        ok = ok;
        bytes = put_reads p (below h r) fits;
      }

  head' : (slots : List ℕ) → length slots ≤ slot_count → HeadOk (record { start = h.start - size r; kind = h.kind; own = h.own; slots = slots })
  head' slots few =
      record {
        few = few;
        even = new.even;
        low = omega arith;
        high = omega (arith, b.head.high);
        kind_fits = b.head.kind_fits;
        own_fits = b.head.own_fits;
      }

  pub body-insert : (i : ℕ) → length es < slot_count → Body (insert_head h i (size r)) (written h.start p r) (insert_at i (below h r) es)
  unfolding insert_head
  body-insert i few =
      record {
        whole = length-written;
        head = head' _ (omega (arith, length-insert_at i (h.start - size r) h.slots, listed-length b));
        listed = ap (insert_at i (h.start - size r)) b.listed ∙ sym (map-insert_at (λ (e : Entry). e.at) i (below h r) es);
        held = All-insert (Held (written h.start p r) (h.start - size r)) i (below h r) es new kept;
        apart = Apart-insert i (below h r) es offs b.apart;
      }

  pub body-update : (i : ℕ) → Body (update_head h i (size r)) (written h.start p r) (set es i (below h r))
  unfolding update_head
  body-update i =
      record {
        whole = length-written;
        head = head' _ (omega (arith, length-set h.slots i (h.start - size r), b.head.few));
        listed = ap (λ (l : List ℕ). set l i (h.start - size r)) b.listed ∙ sym (map-set (λ (e : Entry). e.at) i (below h r) es);
        held = All-set (Held (written h.start p r) (h.start - size r)) i (below h r) es new kept;
        apart = Apart-set i (below h r) es offs b.apart;
      }

pub body-delete : (h : Head) (p : List ℕ) (es : List Entry) → Body h p es → (i : ℕ) → Body (delete_head h i) p (remove_at i es)
unfolding delete_head
body-delete h p es b i =
    record {
      whole = b.whole;
      head =
          record {
            few = omega (arith, length-remove_at-le i h.slots, b.head.few);
            even = b.head.even;
            low = b.head.low;
            high = b.head.high;
            kind_fits = b.head.kind_fits;
            own_fits = b.head.own_fits;
          };
      listed = ap (remove_at i) b.listed ∙ sym (map-remove_at (λ (e : Entry). e.at) i es);
      held = All-remove (Held p h.start) i es b.held;
      apart = Apart-remove i es b.apart;
    }

pub body-fill : (rs : List Rec) (h : Head) (p : List ℕ) (es : List Entry) → Body h p es → All RecOk rs → line_size + sizes rs ≤ h.start → length es + length rs ≤ slot_count →
    Body (fill_head h rs) (fill_bytes h.start p rs) (es ++ placed h.start rs)
unfolding fill_head fill_bytes placed sizes insert_head
body-fill [] h p es b good room few = rw (append-nil es) b
body-fill (r ∷ rs) h p es b good room few =
    let k = length h.slots in
    let b' = body-insert h p es b r good.0 (omega arith) k (omega arith) in
    let e : insert_at k (below h r) es ≡ es ++ (below h r ∷ []) = rw (listed-length b) (insert-last (below h r) es) in
    let n : length (insert_at k (below h r) es) ≡ suc (length es) = length-insert_at k (below h r) es in
    let i = body-fill rs (insert_head h k (size r)) (written h.start p r) (insert_at k (below h r) es) b' good.1 (omega arith) (omega arith) in
    rw (e, append_assoc es (below h r ∷ []) (placed (h.start - size r) rs)) at i

-- ---- the pages

module _ (p : List ℕ) (ok : laid_out p ≡ true) where
  before : Body (read_head p) p (entries p)
  before = (ok-is p ok).body

  pub insert-page : (i : ℕ) (r : Rec) → RecOk r → line_size + size r ≤ (read_head p).start → length (records p) < slot_count →
      Page (insert p i r) (insert_head (read_head p) i (size r)) (insert_at i r (records p))
  unfolding insert
  insert-page i r good room few =
      let h = read_head p in
      let b = body-insert h p (entries p) before r good room i (omega (arith, length-records p, length-entries p)) in
      let q = is-page (insert_head h i (size r)) _ _ (is-seal (insert_head h i (size r)) (written h.start p r) (insert_at i (below h r) (entries p)) b) in
      rw (map-insert_at (λ (e : Entry). e.rec) i (below h r) (entries p), recs-entries p) at q

  pub update-page : (i : ℕ) (r : Rec) → RecOk r → line_size + size r ≤ (read_head p).start →
      Page (update p i r) (update_head (read_head p) i (size r)) (set (records p) i r)
  unfolding update
  update-page i r good room =
      let h = read_head p in
      let b = body-update h p (entries p) before r good room i in
      let q = is-page (update_head h i (size r)) _ _ (is-seal (update_head h i (size r)) (written h.start p r) (set (entries p) i (below h r)) b) in
      rw (map-set (λ (e : Entry). e.rec) i (below h r) (entries p), recs-entries p) at q

  pub delete-page : (i : ℕ) → Page (delete p i) (delete_head (read_head p) i) (remove_at i (records p))
  unfolding delete
  delete-page i =
      let h = read_head p in
      let b = body-delete h p (entries p) before i in
      let q = is-page (delete_head h i) _ _ (is-seal (delete_head h i) p (remove_at i (entries p)) b) in
      rw (map-remove_at (λ (e : Entry). e.rec) i (entries p), recs-entries p) at q

-- ---- a new page

pub fill_start : (h : Head) (rs : List Rec) → (fill_head h rs).start ≡ h.start - sizes rs
unfolding fill_head insert_head sizes
fill_start h [] = omega arith
fill_start h (r ∷ rs) = omega (arith, fill_start (insert_head h (length h.slots) (size r)) rs)

pub fill-kind : (h : Head) (rs : List Rec) → (fill_head h rs).kind ≡ h.kind
unfolding fill_head insert_head
fill-kind h [] = refl
fill-kind h (r ∷ rs) = fill-kind (insert_head h (length h.slots) (size r)) rs

pub fill-own : (h : Head) (rs : List Rec) → (fill_head h rs).own ≡ h.own
unfolding fill_head insert_head
fill-own h [] = refl
fill-own h (r ∷ rs) = fill-own (insert_head h (length h.slots) (size r)) rs

pub fill-slots : (h : Head) (rs : List Rec) → length (fill_head h rs).slots ≡ length h.slots + length rs
unfolding fill_head insert_head
fill-slots h [] = omega arith
fill-slots h (r ∷ rs) =
    omega (arith, fill-slots (insert_head h (length h.slots) (size r)) rs, length-insert_at (length h.slots) (h.start - size r) h.slots)

-- some records, then others
pub fill-head-append : (h : Head) (rs ts : List Rec) → fill_head h (rs ++ ts) ≡ fill_head (fill_head h rs) ts
unfolding fill_head
fill-head-append h [] ts = refl
fill-head-append h (r ∷ rs) ts = fill-head-append (insert_head h (length h.slots) (size r)) rs ts

pub fill-bytes-append : (start : ℕ) (p : List ℕ) (rs ts : List Rec) → fill_bytes start p (rs ++ ts) ≡ fill_bytes (start - sizes rs) (fill_bytes start p rs) ts
unfolding fill_bytes sizes
fill-bytes-append start p [] ts = let e : start ≡ start - 0 = omega arith in ap (λ (n : ℕ). fill_bytes n p ts) e
fill-bytes-append start p (r ∷ rs) ts =
    let e : start - size r - sizes rs ≡ start - (size r + sizes rs) = omega arith in
    fill-bytes-append (start - size r) (written start p r) rs ts ∙ ap (λ (n : ℕ). fill_bytes n (fill_bytes (start - size r) (written start p r) rs) ts) e

recs-placed : (start : ℕ) (rs : List Rec) → recs (placed start rs) ≡ rs
unfolding placed
recs-placed start [] = refl
recs-placed start (r ∷ rs) = ap (λ (l : List Rec). r ∷ l) (recs-placed (start - size r) rs)

-- the bytes below the records stay
fill-below : (rs : List Rec) (start : ℕ) (p : List ℕ) (a n : ℕ) → a + n + sizes rs ≤ start → start ≤ length p → part (fill_bytes start p rs) a n ≡ part p a n
unfolding fill_bytes written sizes
fill-below [] start p a n room fits = refl
fill-below (r ∷ rs) start p a n room fits =
    let e : Entry = record { at = start - size r; rec = r } in
    fill-below rs (start - size r) (written start p r) a n (omega arith) (omega (arith, put-length p e (omega arith)))
    ∙ part-splice-below p (start - size r) (record_bytes r) (omega (arith, length-record_bytes r)) a n (omega arith)

fill-keeps : (p : List ℕ) (kind own : ℕ) (rs : List Rec) → length p ≡ page_size → line_size + sizes rs ≤ page_size → length rs ≤ slot_count →
    part (fill p kind own rs) line_size (page_size - sizes rs - line_size) ≡ part p line_size (page_size - sizes rs - line_size)
unfolding fill unused_head
fill-keeps p kind own rs whole room few =
    let h = unused_head kind own in
    let n : ℕ = page_size - sizes rs - line_size in
    part-seal (fill_head h rs) (fill_bytes page_size p rs) line_size n (omega (arith, fill-slots h rs)) (omega arith) ∙ fill-below rs page_size p line_size n (omega arith) (omega arith)

module _ (p : List ℕ) (kind own : ℕ) (rs : List Rec) (whole : length p ≡ page_size) (k : kind < 256) (o : own < 65536) where
  unused : Body (unused_head kind own) p []
  unfolding unused_head
  unused =
      record {
        whole = whole;
        head = record { few = omega arith; even = refl; low = omega arith; high = omega arith; kind_fits = k; own_fits = o };
        listed = refl;
        held = tt;
        apart = tt;
      }

  -- with the places of the records
  pub fill_is : All RecOk rs → line_size + sizes rs ≤ page_size → length rs ≤ slot_count → Is (fill_head (unused_head kind own) rs) (fill p kind own rs) (placed page_size rs)
  unfolding fill unused_head
  fill_is good room few =
      let h = unused_head kind own in
      is-seal (fill_head h rs) (fill_bytes page_size p rs) (placed page_size rs) (body-fill rs h p [] unused good (omega arith) (omega arith))

  pub fill-page : All RecOk rs → line_size + sizes rs ≤ page_size → length rs ≤ slot_count → Page (fill p kind own rs) (fill_head (unused_head kind own) rs) rs
  fill-page good room few =
      let q = is-page _ _ _ (fill_is good room few) in
      rw (recs-placed page_size rs) at q

  -- "its bytes from 64 to start stay"
  pub fill-stays : All RecOk rs → line_size + sizes rs ≤ page_size → length rs ≤ slot_count → (i : ℕ) → line_size ≤ i → i < (read_head (fill p kind own rs)).start →
      get_or (fill p kind own rs) i 0 ≡ get_or p i 0
  unfolding unused_head
  fill-stays good room few i low high =
      let start : (read_head (fill p kind own rs)).start ≡ page_size - sizes rs = ap (λ (x : Head). x.start) (fill-page good room few).head ∙ fill_start (unused_head kind own) rs in
      agree-part p (fill p kind own rs) line_size (page_size - sizes rs - line_size) (fill-keeps p kind own rs whole room few) i low (omega arith)
