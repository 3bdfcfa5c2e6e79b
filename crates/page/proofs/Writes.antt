-- Writes to a page: records that a write does not cover stand as before, and the header line is written over any body.
-- Assumes nothing.
use Rattle.std.proofs.Common.{◌≡◌, ℕ, zero, suc, ◌+◌, ◌-◌, ◌≤◌, ◌⊎◌, List, [], ◌∷◌, ◌++◌, length, take, drop, set, ap, ◌∙◌, inl, inr, arith, length-append, length-drop, drop-drop, take_at}
use lib.Seq.{drop-append-add}
use Rattle.codec.specs.Lists.{part, splice, insert_at, remove_at, All}
use Rattle.codec.proofs.Lists.{length-splice, part-splice-same, part-splice-above, part-splice-below}
use Rattle.codec.proofs.Tests.{All-map, All-insert, All-set, All-remove}
use Rattle.page.specs.Layout.{page_size, line_size, slot_count, size, record_bytes, Head, header_bytes}
use Rattle.page.specs.Page.{Entry, end, Held, Off, Apart, Body, Is}
use Rattle.page.specs.Operations.{seal}
use Rattle.page.proofs.Records.{length-record_bytes}
use Rattle.page.proofs.Headers.{length-header_bytes}

-- ---- entries apart

off-sym : (e f : Entry) → Off e f → Off f e
off-sym e f (inl h) = inr h
off-sym e f (inr h) = inl h

pub Apart-insert : (i : ℕ) (a : Entry) (es : List Entry) → All (Off a) es → Apart es → Apart (insert_at i a es)
unfolding insert_at
Apart-insert zero a es h k = (h, k)
Apart-insert (suc i) a [] h k = (tt, tt)
Apart-insert (suc i) a (x ∷ es) h k = (All-insert (Off x) i a es (off-sym a x h.0) k.0, Apart-insert i a es h.1 k.1)

pub Apart-set : (i : ℕ) (a : Entry) (es : List Entry) → All (Off a) es → Apart es → Apart (set es i a)
Apart-set i a [] h k = tt
Apart-set zero a (x ∷ es) h k = (h.1, k.1)
Apart-set (suc i) a (x ∷ es) h k = (All-set (Off x) i a es (off-sym a x h.0) k.0, Apart-set i a es h.1 k.1)

pub Apart-remove : (i : ℕ) (es : List Entry) → Apart es → Apart (remove_at i es)
unfolding remove_at
Apart-remove i [] k = tt
Apart-remove zero (x ∷ es) k = k.1
Apart-remove (suc i) (x ∷ es) k = (All-remove (Off x) i es k.0, Apart-remove i es k.1)

-- ---- pages that agree on a record

-- p and q have the same bytes where the record e stands
abbrev pub Agree : List ℕ → List ℕ → Entry → Type 0
Agree p q e = part q e.at (size e.rec) ≡ part p e.at (size e.rec)

pub held-agree : {p q : List ℕ} {start : ℕ} (e : Entry) → Agree p q e → Held p start e → Held q start e
held-agree e same k = record { low = k.low; even = k.even; high = k.high; ok = k.ok; bytes = same ∙ k.bytes }

pub held_down : {p : List ℕ} {start : ℕ} (low : ℕ) (e : Entry) → low ≤ start → Held p start e → Held p low e
held_down low e h k = record { low = omega (arith, k.low); even = k.even; high = k.high; ok = k.ok; bytes = k.bytes }

-- a write that does not cover a record
pub agree-splice : (p new : List ℕ) (o : ℕ) (e : Entry) → o + length new ≤ length p → (o + length new ≤ e.at) ⊎ (end e ≤ o) → Agree p (splice p o new) e
agree-splice p new o e fits (inl h) = part-splice-above p o new fits e.at (size e.rec) h
agree-splice p new o e fits (inr h) = part-splice-below p o new fits e.at (size e.rec) h

-- the record of an entry written where the entry says
module _ (p : List ℕ) (e : Entry) (fits : end e ≤ length p) where
  fits' : e.at + length (record_bytes e.rec) ≤ length p
  fits' = omega (arith, length-record_bytes e.rec)

  pub put-length : length (splice p e.at (record_bytes e.rec)) ≡ length p
  put-length = length-splice p e.at (record_bytes e.rec) fits'

  pub put_reads : part (splice p e.at (record_bytes e.rec)) e.at (size e.rec) ≡ record_bytes e.rec
  put_reads = part-splice-same p e.at (record_bytes e.rec) fits' (size e.rec) (length-record_bytes e.rec)

  pub put-off : (f : Entry) → Off e f → Agree p (splice p e.at (record_bytes e.rec)) f
  put-off f (inl h) = agree-splice p (record_bytes e.rec) e.at f fits' (inl (omega (arith, length-record_bytes e.rec)))
  put-off f (inr h) = agree-splice p (record_bytes e.rec) e.at f fits' (inr h)

-- ---- the header line

pub drop-seal : (h : Head) (p : List ℕ) (a : ℕ) → length h.slots ≤ slot_count → line_size ≤ a → drop a (seal h p) ≡ drop a p
unfolding seal
drop-seal h p a few low =
    let l = length-header_bytes h few in
    let e : a ≡ length (header_bytes h) + (a - line_size) = omega arith in
    let f : line_size + (a - line_size) ≡ a = omega arith in
    ap (λ (m : ℕ). drop m (header_bytes h ++ drop line_size p)) e
    ∙ drop-append-add (header_bytes h) (drop line_size p) (a - line_size)
    ∙ drop-drop (a - line_size) line_size p
    ∙ ap (λ (m : ℕ). drop m p) f

pub part-seal : (h : Head) (p : List ℕ) (a n : ℕ) → length h.slots ≤ slot_count → line_size ≤ a → part (seal h p) a n ≡ part p a n
unfolding part
part-seal h p a n few low = ap (take n) (drop-seal h p a few low)

pub agree-seal : (h : Head) (p : List ℕ) (e : Entry) → length h.slots ≤ slot_count → line_size ≤ e.at → Agree p (seal h p) e
agree-seal h p e few low = part-seal h p e.at (size e.rec) few low

module _ (h : Head) (p : List ℕ) (es : List Entry) (b : Body h p es) where
  pub length-seal : length (seal h p) ≡ page_size
  unfolding seal
  length-seal = simp (length-append, length-drop) (omega (arith, length-header_bytes h b.head.few, b.whole))

  seal-keep : (e : Entry) → Held p h.start e → Held (seal h p) h.start e
  seal-keep e k = held-agree e (agree-seal h p e b.head.few (omega (arith, k.low, b.head.low))) k

  pub is-seal : Is h (seal h p) es
  unfolding seal
  is-seal =
      record {
        line = take_at (header_bytes h) (drop line_size p) line_size (length-header_bytes h b.head.few);
        body =
            record {
              whole = length-seal;
              head = b.head;
              listed = b.listed;
              held = All-map (Held p h.start) (Held (seal h p) h.start) seal-keep es b.held;
              apart = b.apart;
            };
      }
