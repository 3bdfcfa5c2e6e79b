-- A record and a header written in pieces: what the code writes is what the definitions say.
-- Assumes nothing.
use Prim.Native.Nat.{ℕ, ◌+◌, ◌-◌, ◌/◌, ◌≤◌, ◌<◌}
use mathlib.Core.Path.{◌≡◌, refl, sym, ap, ◌∙◌}
use mathlib.Core.Bool.{true}
use mathlib.Core.List.{List, ◌++◌, append_assoc}
use native.Mathlib.Omega.{arith}
use lib.ListN.{length, drop, replicate, length-append, length-replicate}
use Rattle.codec.specs.Lists.{part, splice}
use Rattle.codec.specs.Numbers.{bytes_of}
use Rattle.codec.proofs.Lists.{part-whole, splice-next}
use Rattle.codec.proofs.Numbers.{length-bytes_of}
use Rattle.page.specs.Layout.{page_size, line_size, slot_count, Rec, rec_of, up8, size, record_bytes, Head, read_head, header_of, head_of, raw_header, raw_bytes}
use Rattle.page.specs.Page.{records, laid_out}
use Rattle.page.specs.Operations.{seal, written}
use Rattle.page.specs.declared.header.Header.{Header}
use Rattle.page.proofs.Records.{up8-least}
use Rattle.page.proofs.Headers.{raw-back, head-of, count_of, seal-raw}
use Rattle.page.proofs.Facts.{length-records, is-small, is-line, ok-is}

-- ---- a record

-- a length and six zeros are one word
length-word : (n : ℕ) → n < 65536 → bytes_of 8 n ≡ bytes_of 2 n ++ replicate 6 0
unfolding bytes_of
length-word n h = let z : n / 256 / 256 ≡ 0 = omega arith in rw z

pub size_of : (k : ℕ) (v : List ℕ) (n : ℕ) → n ≡ up8 (length v) → 16 + n ≡ size (rec_of k v)
unfolding size
size_of k v n e = ap (λ (m : ℕ). 16 + m) e

pub record-written : (p : List ℕ) (at key : ℕ) (v q1 q2 q3 q4 : List ℕ) → at + size (rec_of key v) ≤ length p → length v < 65536 →
    q1 ≡ splice p at (bytes_of 8 key) →
    q2 ≡ splice q1 (at + 8) (bytes_of 8 (length v)) →
    q3 ≡ splice q2 (at + 16) (part v 0 (length v)) →
    q4 ≡ splice q3 (at + 16 + length v) (replicate (up8 (length v) - length v) 0) →
    q4 ≡ splice p at (record_bytes (rec_of key v))
unfolding record_bytes size
record-written p at key v q1 q2 q3 q4 fits small e1 e2 e3 e4 =
    let n = length v in
    let k = bytes_of 8 key in
    let l = bytes_of 8 n in
    let pad : List ℕ = replicate (up8 n - n) 0 in
    let n1 = length-bytes_of 8 key in
    let n2 : length (k ++ l) ≡ 16 = simp (length-append, length-bytes_of) in
    let n3 : length (k ++ l ++ v) ≡ 16 + n = simp (length-append, length-bytes_of) in
    let n4 : length pad ≡ up8 n - n = length-replicate (up8 n - n) 0 in
    let u = up8-least n in
    let s2 = e2 ∙ splice-next p at k l q1 (at + 8) e1 (omega arith) (omega (arith, length-bytes_of 8 n)) in
    let s3 = e3 ∙ ap (splice q2 (at + 16)) (part-whole v) ∙ splice-next p at (k ++ l) v q2 (at + 16) s2 (omega arith) (omega arith) in
    let s4 = e4 ∙ splice-next p at (k ++ l ++ v) pad q3 (at + 16 + n) s3 (omega arith) (omega arith) in
    let six : List ℕ = replicate 6 0 in
    s4 ∙ ap (λ (b : List ℕ). splice p at (k ++ b ++ v ++ pad)) (length-word n small) ∙ ap (splice p at) (regroup k (bytes_of 2 n) six v pad)
  where
    regroup : (a b c d e : List ℕ) → a ++ (b ++ c) ++ d ++ e ≡ a ++ (b ++ (c ++ (d ++ e)))
    regroup a b c d e = simp append_assoc

-- ---- a header

-- what is known of the header h, read from the page p that is laid out
pub record Opened (p : List ℕ) (h : Header) : Type 0 where
  pub back : head_of h ≡ read_head p
  pub clean : h ≡ header_of (head_of h)
  pub whole : length p ≡ page_size
  pub count : h.count ≡ length (records p)
  pub start : h.start ≡ (read_head p).start
  pub few : h.count ≤ slot_count
  pub high : h.start ≤ page_size

start_of : (h : Head) → (header_of h).start ≡ h.start
unfolding header_of
start_of h = refl

pub opened : (p : List ℕ) (h : Header) → laid_out p ≡ true → h ≡ raw_header p → Opened p h
opened p h ok e =
    let r = read_head p in
    let i = ok-is p ok in
    let is : h ≡ header_of r = e ∙ ap raw_header (is-line r p _ i) ∙ raw-back r (drop line_size p) i.body.head (is-small r p _ i) in
    let b : head_of h ≡ r = ap head_of is ∙ head-of r in
    let c : h.count ≡ length (records p) = ap (λ (x : Header). x.count) is ∙ count_of r ∙ sym (length-records p) in
    let s : h.start ≡ r.start = ap (λ (x : Header). x.start) is ∙ start_of r in
    record {
      back = b;
      clean = is ∙ ap header_of (sym b);
      whole = i.body.whole;
      count = c;
      start = s;
      few = omega (arith, length-records p, i.body.head.few);
      high = omega (arith, i.body.head.high);
    }

-- the new header written over a page
pub sealed : (p : List ℕ) (h g : Header) (f : Head → Head) (q : List ℕ) → Opened p h → g ≡ header_of (f (head_of h)) → raw_bytes g ++ drop line_size q ≡ seal (f (read_head p)) q
sealed p h g f q o e = ap (λ (x : Header). raw_bytes x ++ drop line_size q) (e ∙ ap (λ (x : Head). header_of (f x)) o.back) ∙ seal-raw (f (read_head p)) q

-- over the page that has the new record, which moves start
pub sealed-written : (p : List ℕ) (h g : Header) (f : Head → ℕ → Head) (q : List ℕ) (r : Rec) (s : ℕ) → Opened p h → g ≡ header_of (f (head_of h) s) → s ≡ size r →
    q ≡ written h.start p r → raw_bytes g ++ drop line_size q ≡ seal (f (read_head p) (size r)) (written (read_head p).start p r)
sealed-written p h g f q r s o eg e eq =
    sealed p h g (λ (x : Head). f x s) q o eg
    ∙ ap (λ (n : ℕ). seal (f (read_head p) n) q) e
    ∙ ap (seal (f (read_head p) (size r))) (eq ∙ ap (λ (n : ℕ). written n p r) o.start)
