-- A fresh store, written over whatever was there: zeros, two words of page 0, the index and the leaf.
-- Assumes nothing.
use Prim.Native.Nat.{ℕ, ◌+◌, ◌-◌, ◌*◌, ◌/◌, ◌≤◌, ◌<◌}
use mathlib.Core.Path.{◌≡◌, refl, sym, ap, ◌∙◌}
use mathlib.Core.List.{List, [], ◌∷◌, ◌++◌, append_assoc}
use native.Mathlib.Omega.{arith}
use lib.ListN.{length, take, drop, replicate, length-append, length-take, length-drop, length-replicate}
use lib.Seq.{take-append-le, drop-append-le}
use Rattle.codec.specs.Lists.{splice}
use Rattle.codec.specs.Numbers.{bytes_of}
use Rattle.codec.proofs.Lists.{splice-next, splice-over}
use Rattle.codec.proofs.Numbers.{length-bytes_of}
use Rattle.page.specs.Layout.{page_size, line_size, slot_count, leaf_kind, index_kind, rec_of, up8, size, record_bytes, Head, unused_head, head_of, header_of, raw_bytes}
use Rattle.page.specs.Operations.{written, insert_head, fill_head, fill_bytes, fill}
use Rattle.page.specs.declared.header.Header.{Header}
use Rattle.page.proofs.Headers.{head-of, seal-raw}
use Rattle.image.specs.PageZero.{no_mark}
use Rattle.image.specs.Fresh.{zero_page, fresh_zero, blank}
use Rattle.image.proofs.Zero.{Size}
use Rattle.image.proofs.FilledPages.{length-zero_page, zero-page}
use Rattle.image.proofs.CodeZero.{past_words}

-- ---- lists in general: what codec's laws lack

pub splice-left : (a b : List ℕ) (o : ℕ) (new : List ℕ) → o + length new ≤ length a → splice (a ++ b) o new ≡ splice a o new ++ b
unfolding splice
splice-left a b o new h =
    let k : o ≤ length a = omega arith in
    rw (take-append-le o a b k, drop-append-le (o + length new) a b h, append_assoc (take o a) (new ++ drop (o + length new) a) b, append_assoc new (drop (o + length new) a) b)

-- page 2, handed back
pub length-mid : (img last : List ℕ) → 3072 ≤ length img → length last ≡ length (take 1024 (drop 2048 img)) → length (take 2048 img ++ (last ++ drop 1024 (drop 2048 img))) ≡ length img
length-mid img last h e =
    let f : length (take 1024 (drop 2048 img)) ≡ 1024 = simp (length-take, length-drop) (omega arith) in
    simp (length-append, length-take, length-drop) (omega arith)

-- ---- the three pages

-- the index record's bytes: its separator 0, its length 2 and its page 2, a word each
index-bytes : record_bytes (rec_of 0 (bytes_of 2 2)) ≡ bytes_of 8 0 ++ (bytes_of 8 2 ++ bytes_of 8 2)
unfolding record_bytes bytes_of up8
index-bytes = refl

index-head : (h : Header) → h ≡ header_of (unused_head index_kind 1) → header_of (insert_head (head_of h) 0 24) ≡ header_of (fill_head (unused_head index_kind 1) (rec_of 0 (bytes_of 2 2) ∷ []))
unfolding fill_head size up8 unused_head bytes_of
index-head h e = ap (λ (g : Head). header_of (insert_head g 0 24)) (ap head_of e ∙ head-of (unused_head index_kind 1))

-- the unused header takes a record
pub unused-ready : (h : Header) → h ≡ header_of (unused_head index_kind 1) → (h ≡ header_of (head_of h)) × (h.count < slot_count) × (0 ≤ h.count) × (24 ≤ h.start) × (h.start ≤ page_size)
unfolding header_of unused_head
unused-ready h e =
    let u = unused_head index_kind 1 in
    let c : h.count ≡ 0 = ap (λ (g : Header). g.count) e in
    let s : h.start ≡ page_size = ap (λ (g : Header). g.start) e in
    (e ∙ ap header_of (sym (ap head_of e ∙ head-of u)), omega arith, omega arith, omega arith, omega arith)

index-record : (p q1 q2 q3 : List ℕ) → length p ≡ page_size → q1 ≡ splice p 1000 (bytes_of 8 0) → q2 ≡ splice q1 1008 (bytes_of 8 2) → q3 ≡ splice q2 1016 (bytes_of 8 2) →
    q3 ≡ fill_bytes page_size p (rec_of 0 (bytes_of 2 2) ∷ [])
unfolding fill_bytes written size up8 bytes_of
index-record p q1 q2 q3 whole e1 e2 e3 =
    let n0 = length-bytes_of 8 0 in
    let n2 = length-bytes_of 8 2 in
    let f : q2 ≡ splice p 1000 (bytes_of 8 0 ++ bytes_of 8 2) = e2 ∙ splice-next p 1000 (bytes_of 8 0) (bytes_of 8 2) q1 1008 e1 (omega arith) (omega arith) in
    let n : length (bytes_of 8 0 ++ bytes_of 8 2) ≡ 16 = simp length-append in
    e3
    ∙ splice-next p 1000 (bytes_of 8 0 ++ bytes_of 8 2) (bytes_of 8 2) q2 1016 f (omega arith) (omega arith)
    ∙ ap (splice p 1000) (append_assoc (bytes_of 8 0) (bytes_of 8 2) (bytes_of 8 2) ∙ sym index-bytes)

pub index-made : (p q1 q2 q3 : List ℕ) → length p ≡ page_size → q1 ≡ splice p 1000 (bytes_of 8 0) → q2 ≡ splice q1 1008 (bytes_of 8 2) → q3 ≡ splice q2 1016 (bytes_of 8 2) →
    (h g : Header) → h ≡ header_of (unused_head index_kind 1) → g ≡ header_of (insert_head (head_of h) 0 24) → raw_bytes g ++ drop line_size q3 ≡ fill p index_kind 1 (rec_of 0 (bytes_of 2 2) ∷ [])
unfolding fill
index-made p q1 q2 q3 whole e1 e2 e3 h g eh eg =
    ap (λ (x : Header). raw_bytes x ++ drop line_size q3) (eg ∙ index-head h eh)
    ∙ ap (λ (q : List ℕ). raw_bytes (header_of (fill_head (unused_head index_kind 1) (rec_of 0 (bytes_of 2 2) ∷ []))) ++ drop line_size q) (index-record p q1 q2 q3 whole e1 e2 e3)
    ∙ seal-raw (fill_head (unused_head index_kind 1) (rec_of 0 (bytes_of 2 2) ∷ [])) (fill_bytes page_size p (rec_of 0 (bytes_of 2 2) ∷ []))

pub leaf-made : (p : List ℕ) (h : Header) → h ≡ header_of (unused_head leaf_kind 2) → raw_bytes h ++ drop line_size p ≡ fill p leaf_kind 2 []
unfolding fill fill_head fill_bytes
leaf-made p h e = ap (λ (g : Header). raw_bytes g ++ drop line_size p) e ∙ seal-raw (unused_head leaf_kind 2) p

zero-front : take 8 zero_page ≡ no_mark
unfolding zero_page no_mark
zero-front = refl

zero_rest : drop 24 zero_page ≡ replicate 40 0 ++ replicate (page_size - line_size) 0
unfolding zero_page
zero_rest = refl

five : (a x y z w : List ℕ) → a ++ ((x ++ y) ++ (z ++ w)) ≡ a ++ ((x ++ (y ++ z)) ++ w)
five a x y z w = simp append_assoc

zero-made : (n : ℕ) → n ≤ 64 → splice zero_page 8 (bytes_of 8 1 ++ bytes_of 8 (n + 65536)) ≡ fresh_zero n
unfolding splice fresh_zero
zero-made n h =
    let x = bytes_of 8 1 in
    let y = bytes_of 8 (n + 65536) in
    let e : 8 + length (x ++ y) ≡ 24 = simp (length-append, length-bytes_of) in
    ap (λ (t : List ℕ). t ++ ((x ++ y) ++ drop (8 + length (x ++ y)) zero_page)) zero-front
    ∙ ap (λ (m : ℕ). no_mark ++ ((x ++ y) ++ drop m zero_page)) e
    ∙ ap (λ (t : List ℕ). no_mark ++ ((x ++ y) ++ t)) zero_rest
    ∙ five no_mark x y (replicate 40 0) (replicate (page_size - line_size) 0)
    ∙ ap (λ (t : List ℕ). no_mark ++ (t ++ replicate (page_size - line_size) 0)) (sym (past_words n 1 (omega arith)))

-- ---- the image

-- whatever stood in the image, page 0 of a fresh store and zeros are left
module _ (i0 i1 i2 i3 : List ℕ) (fits : Size (length i0)) (n : ℕ) (count : n ≡ length i0 / page_size)
    (e1 : i1 ≡ splice i0 0 (replicate (length i0) 0)) (e2 : i2 ≡ splice i1 8 (bytes_of 8 1)) (e3 : i3 ≡ splice i2 16 (bytes_of 8 (n + 65536))) where
  abbrev zeros : List ℕ
  zeros = replicate (page_size * (n - 1)) 0

  zeroed : i1 ≡ zero_page ++ zeros
  zeroed =
      let e : length i0 ≡ page_size * n = omega (arith, fits.whole) in
      e1 ∙ splice-over i0 (replicate (length i0) 0) (length-replicate (length i0) 0) ∙ zero-page (length i0) (page_size * (n - 1)) (omega (arith, fits.low))

  pub blank-made : i3 ≡ blank n
  unfolding blank
  blank-made =
      let x = bytes_of 8 1 in
      let y = bytes_of 8 (n + 65536) in
      let nx = length-bytes_of 8 1 in
      let ny = length-bytes_of 8 (n + 65536) in
      let nz : length i1 ≡ length (zero_page ++ zeros) = ap (λ (l : List ℕ). length l) zeroed in
      let long : page_size ≤ length i1 = omega (arith, length-append zero_page zeros, length-zero_page) in
      let both : length (x ++ y) ≡ 16 = simp (length-append, length-bytes_of) in
      e3
      ∙ splice-next i1 8 x y i2 16 e2 (omega arith) (omega arith)
      ∙ ap (λ (l : List ℕ). splice l 8 (x ++ y)) zeroed
      ∙ splice-left zero_page zeros 8 (x ++ y) (omega (arith, length-zero_page))
      ∙ ap (λ (l : List ℕ). l ++ zeros) (zero-made n (omega (arith, fits.high)))
