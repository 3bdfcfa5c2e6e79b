-- A page that is being filled: one record more, until all are there.
-- Assumes nothing.
use Prim.Native.Nat.{ℕ, suc, ◌+◌, ◌-◌, ◌*◌, ◌≤◌, ◌<◌}
use mathlib.Core.Path.{◌≡◌, refl, sym, ap, ◌∙◌}
use mathlib.Core.Bool.{Bool}
use mathlib.Core.List.{List, [], ◌∷◌, ◌++◌}
use native.Mathlib.Omega.{arith}
use lib.ListN.{length, get_or, drop}
use Rattle.codec.specs.Lists.{part, splice}
use Rattle.codec.specs.Numbers.{number}
use Rattle.page.specs.Layout.{page_size, line_size, slot_count, Rec, up8, size, record_at, Head, unused_head, header_of, head_of, raw_bytes}
use Rattle.page.specs.Page.{entry_at, records, Held}
use Rattle.page.specs.Operations.{seal, written, insert_head, fill_head, fill_bytes, fill, sizes, made, between}
use Rattle.page.specs.declared.header.Header.{Header}
use Rattle.page.proofs.Records.{length_at}
use Rattle.page.proofs.Headers.{head-of, count_of, seal-raw}
use Rattle.page.proofs.Facts.{ok-is}
use Rattle.page.proofs.Operations.{fill_start, fill-slots, fill-head-append, fill-bytes-append}
use Rattle.page.proofs.Listed.{record-listed, slot_held, few-listed}
use Rattle.page.proofs.Made.{old_slot, made-less, made-new-next, made-old-next, between_next}
use Rattle.page_edit.specs.Filling.{Room, Stands, Filled, CanFill}

-- ---- a record that stands in another page

pub stands : {p : List ℕ} {start o : ℕ} → length p ≡ page_size → Held p start (entry_at p o) → Stands p o
stands w k = record { ok = k.ok; inside = omega (arith, k.high); bytes = k.bytes }

pub size-at : (p : List ℕ) (o n m : ℕ) → Stands p o → m ≡ number (part p (o + 8) 2) → n ≡ up8 m → 16 + n ≡ size (record_at p o)
unfolding size
size-at p o n m s e f = rw (f, e, length_at p o (record_at p o) s.ok s.bytes)

-- its bytes, written just below start
pub copied : (p old q : List ℕ) (start o s : ℕ) → Stands old o → s ≡ size (record_at old o) → q ≡ splice p (start - s) (part old o s) → q ≡ written start p (record_at old o)
unfolding written
copied p old q start o s k e eq = eq ∙ rw (e, k.bytes)

-- ---- one record more

module _ (h g : Header) (p q : List ℕ) (r : Rec) where
  pub appended : (s : ℕ) → h ≡ header_of (head_of h) → s ≡ size r → g ≡ header_of (insert_head (head_of h) h.count s) → q ≡ written h.start p r → Filled h p (r ∷ []) g q
  unfolding fill_head fill_bytes
  appended s clean e eg eq =
      let n : h.count ≡ length (head_of h).slots = ap (λ (x : Header). x.count) clean ∙ count_of (head_of h) in
      record {
        head = eg ∙ ap (λ (m : ℕ). header_of (insert_head (head_of h) m s)) n ∙ ap (λ (m : ℕ). header_of (insert_head (head_of h) (length (head_of h).slots) m)) e;
        bytes = eq;
      }

-- ---- what is there once the records rs are filled in

module _ {h : Header} {p : List ℕ} {rs : List Rec} {g : Header} {q : List ℕ} (f : Filled h p rs g q) where
  filled-head : head_of g ≡ fill_head (head_of h) rs
  filled-head = ap head_of f.head ∙ head-of _

  pub filled-clean : g ≡ header_of (head_of g)
  filled-clean = f.head ∙ ap header_of (sym filled-head)

  pub filled-start : g.start ≡ h.start - sizes rs
  unfolding head_of header_of
  filled-start = ap (λ (x : Header). x.start) f.head ∙ fill_start (head_of h) rs

  pub filled-count : h ≡ header_of (head_of h) → g.count ≡ h.count + length rs
  filled-count clean =
      ap (λ (x : Header). x.count) f.head
      ∙ count_of (fill_head (head_of h) rs)
      ∙ fill-slots (head_of h) rs
      ∙ ap (λ (n : ℕ). n + length rs) (sym (ap (λ (x : Header). x.count) clean ∙ count_of (head_of h)))

  -- and the records ts after them
  pub filled_more : (ts : List Rec) (g' : Header) (q' : List ℕ) → Filled g q ts g' q' → Filled h p (rs ++ ts) g' q'
  filled_more ts g' q' k =
      record {
        head = k.head ∙ ap (λ (x : Head). header_of (fill_head x ts)) filled-head ∙ ap header_of (sym (fill-head-append (head_of h) rs ts));
        bytes =
            k.bytes
            ∙ ap (λ (n : ℕ). fill_bytes n q ts) filled-start
            ∙ ap (λ (b : List ℕ). fill_bytes (h.start - sizes rs) b ts) f.bytes
            ∙ sym (fill-bytes-append h.start p rs ts);
      }

-- ---- the records ts are left to be filled in, of all rs: g and q are what is there now
pub record Left (h : Header) (p : List ℕ) (rs : List Rec) (g : Header) (q : List ℕ) (ts : List Rec) : Type 0 where
  pub room : Room g ts
  pub head : fill_head (head_of g) ts ≡ fill_head (head_of h) rs
  pub bytes : fill_bytes g.start q ts ≡ fill_bytes h.start p rs

pub left-all : (h : Header) (p : List ℕ) (rs : List Rec) → Room h rs → Left h p rs h p rs
left-all h p rs k = record { room = k; head = refl; bytes = refl }

module _ {h : Header} {p : List ℕ} {rs : List Rec} {g : Header} {q : List ℕ} (ts : List Rec) where
  pub left-room : (us : List Rec) (r : Rec) → ts ≡ r ∷ us → Left h p rs g q ts → Room g (r ∷ [])
  unfolding sizes
  left-room us r e k =
      let s : sizes ts ≡ size r + sizes us = ap sizes e in
      let n : length ts ≡ suc (length us) = ap length e in
      record { clean = k.room.clean; few = omega (arith, k.room.few); high = k.room.high; room = omega (arith, k.room.room) }

  pub left-next : (us : List Rec) (r : Rec) (g' : Header) (q' : List ℕ) → ts ≡ r ∷ us → Left h p rs g q ts → Filled g q (r ∷ []) g' q' → Left h p rs g' q' us
  unfolding sizes fill_head fill_bytes
  left-next us r g' q' e k f =
      let s : sizes ts ≡ size r + sizes us = ap sizes e in
      let n : length ts ≡ suc (length us) = ap length e in
      let start : g'.start ≡ g.start - size r = omega (arith, filled-start f) in
      let count = filled-count f k.room.clean in
      record {
        room =
            record {
              clean = filled-clean f;
              few = omega (arith, k.room.few);
              high = omega (arith, k.room.high);
              room = omega (arith, k.room.room);
            };
        head = ap (λ (x : Head). fill_head x us) (filled-head f) ∙ ap (fill_head (head_of g)) (sym e) ∙ k.head;
        bytes = ap (λ (m : ℕ). fill_bytes m q' us) start ∙ ap (λ (b : List ℕ). fill_bytes (g.start - size r) b us) f.bytes ∙ ap (fill_bytes g.start q) (sym e) ∙ k.bytes;
      }

  pub left-none : ts ≡ [] → Left h p rs g q ts → Filled h p rs g q
  unfolding fill_head fill_bytes
  left-none e k =
      record {
        head = k.room.clean ∙ ap header_of (ap (fill_head (head_of g)) (sym e) ∙ k.head);
        bytes = ap (fill_bytes g.start q) (sym e) ∙ k.bytes;
      }

-- ---- the k-th of the records with an edit made

module _ {old : List ℕ} {ins : Bool} {i : ℕ} {r : Rec} {a b : ℕ} (can : CanFill old ins i r a b) (k : ℕ) (less : k < b) where
  pub new-next : k ≡ i → between (made ins i r (records old)) k b ≡ r ∷ between (made ins i r (records old)) (k + 1) b
  new-next e = between_next _ r k b less (rw e (made-new-next r r ins i (records old) can.place))

  -- not the new one: the record of its old slot
  module _ (other : k ≡ i → ⊥) (j : ℕ) (slot : j ≡ old_slot ins i k) where
    old-listed : j < length (records old)
    old-listed = rw slot (made-less r r ins i k (records old) can.place (omega (arith, can.within)) other)

    pub old-few : j < slot_count
    old-few = omega (arith, few-listed old can.ok, old-listed)

    module _ (o : ℕ) (e : o ≡ number (part old (8 + 2 * j) 2)) where
      pub old-next : between (made ins i r (records old)) k b ≡ record_at old o ∷ between (made ins i r (records old)) (k + 1) b
      old-next =
          between_next _ (record_at old o) k b less
          (made-old-next r (record_at old 0) ins i k (records old) can.place (omega (arith, can.within)) other
          ∙ ap (λ (x : Rec). x ∷ drop (k + 1) (made ins i r (records old)))
          (ap (λ (m : ℕ). get_or (records old) m (record_at old 0)) (sym slot) ∙ record-listed old j old-listed o e))

      pub old-stands : Stands old o
      old-stands = let is = ok-is old can.ok in stands is.body.whole (slot_held old j old-listed o e is.body.held)

-- ---- from an unused header to the header line

pub room-unused : (kind own : ℕ) (h : Header) (rs : List Rec) → h ≡ header_of (unused_head kind own) → length rs ≤ slot_count → line_size + sizes rs ≤ page_size → Room h rs
unfolding header_of unused_head
room-unused kind own h rs e few room =
    let n : h.count ≡ 0 = ap (λ (x : Header). x.count) e in
    let s : h.start ≡ page_size = ap (λ (x : Header). x.start) e in
    let b : head_of h ≡ unused_head kind own = ap head_of e ∙ head-of (unused_head kind own) in
    record { clean = e ∙ ap header_of (sym b); few = omega arith; high = omega arith; room = omega arith }

unused-start : (kind own : ℕ) → (header_of (unused_head kind own)).start ≡ page_size
unfolding header_of unused_head
unused-start kind own = refl

pub filled-page : (kind own : ℕ) (h g : Header) (p q : List ℕ) (rs : List Rec) → h ≡ header_of (unused_head kind own) → Filled h p rs g q →
    raw_bytes g ++ drop line_size q ≡ fill p kind own rs
unfolding fill
filled-page kind own h g p q rs e f =
    let b : head_of h ≡ unused_head kind own = ap head_of e ∙ head-of (unused_head kind own) in
    let s : h.start ≡ page_size = ap (λ (x : Header). x.start) e ∙ unused-start kind own in
    ap (λ (x : Header). raw_bytes x ++ drop line_size q) f.head
    ∙ seal-raw (fill_head (head_of h) rs) q
    ∙ ap (λ (x : Head). seal (fill_head x rs) q) b
    ∙ ap (seal (fill_head (unused_head kind own) rs)) (f.bytes ∙ ap (λ (n : ℕ). fill_bytes n p rs) s)
