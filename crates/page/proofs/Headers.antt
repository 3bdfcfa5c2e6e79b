-- The header line: its length, and that a header is read back from it; as the definitions' header and as the code's.
-- Assumes nothing.
use Rattle.std.proofs.Common.{◌≡◌, ℕ, zero, suc, ◌+◌, ◌-◌, ◌*◌, ◌/◌, ◌%◌, ◌<◌, ◌≤◌, List, [], ◌∷◌, ◌++◌, length, take, drop, set, replicate, sym, refl, ap, ◌∙◌, append-nil, arith, length-append, length-set, take_at}
use lib.ListN.{length-replicate}
use lib.Seq.{sets, length-sets, set-append_left}
use Rattle.codec.specs.Lists.{part, splice, All}
use Rattle.codec.specs.Numbers.{number, bytes_of}
use Rattle.codec.proofs.Lists.{splice-sets}
use Rattle.codec.proofs.Numbers.{length-bytes_of, number-bytes_of}
use Rattle.page.specs.Layout.{line_size, slot_count, Head, padded, slot_bytes, slots_in, header_bytes, read_head, header_of, head_of, raw_header, raw_bytes}
use Rattle.page.specs.Page.{HeadOk}
use Rattle.page.specs.Operations.{seal}
use Rattle.page.specs.declared.header.Header.{Header}

-- ---- slots

-- numbers of two bytes
abbrev pub Small : List ℕ → Type 0
Small os = All (λ (x : ℕ). x < 65536) os

pub length-slot_bytes : (xs : List ℕ) → length (slot_bytes xs) ≡ 2 * length xs
unfolding slot_bytes
length-slot_bytes [] = refl
length-slot_bytes (x ∷ xs) = omega (arith, length-slot_bytes xs)

pub length-slots_in : (n : ℕ) (bs : List ℕ) → length (slots_in n bs) ≡ n
unfolding slots_in
length-slots_in zero bs = refl
length-slots_in (suc n) bs = ap suc (length-slots_in n (drop 2 bs))

-- slots are read back, whatever follows them
pub slots-back : (xs ys t : List ℕ) → Small xs → slots_in (length xs) (slot_bytes (xs ++ ys) ++ t) ≡ xs
unfolding slots_in slot_bytes number
slots-back [] ys t h = refl
slots-back (x ∷ xs) ys t h =
    let e : x % 256 + 256 * (x / 256 + 256 * 0) ≡ x = omega arith in
    rw (e, slots-back xs ys t h.1)

pub length-padded : (os : List ℕ) → length os ≤ slot_count → length (padded os) ≡ slot_count
unfolding padded
length-padded os h = simp (length-append, length-replicate) (omega arith)

small-padded : (os : List ℕ) (n : ℕ) → Small os → Small (os ++ replicate n 0)
small-padded [] zero h = tt
small-padded [] (suc n) h = (omega arith, small-padded [] n tt)
small-padded (o ∷ os) n h = (h.0, small-padded os n h.1)

-- all 28 are read back
padded-back : (os t : List ℕ) → length os ≤ slot_count → Small os → slots_in slot_count (slot_bytes (padded os) ++ t) ≡ padded os
unfolding padded
padded-back os t few h =
    let ps = os ++ replicate (slot_count - length os) 0 in
    let n : length ps ≡ slot_count = length-padded os few in
    ap (λ (k : ℕ). slots_in k (slot_bytes ps ++ t)) (sym n)
    ∙ ap (λ (l : List ℕ). slots_in (length ps) (slot_bytes l ++ t)) (sym (append-nil ps))
    ∙ slots-back ps [] t (small-padded os (slot_count - length os) h)

-- a slot set among those in use
pub set-padded : (os : List ℕ) (i v : ℕ) → i < length os → set (padded os) i v ≡ padded (set os i v)
unfolding padded
set-padded os i v h =
    set-append_left os (replicate (slot_count - length os) 0) i v h
    ∙ ap (λ (n : ℕ). set os i v ++ replicate (slot_count - n) 0) (sym (length-set os i v))

-- ---- the line

pub length-raw_bytes : (h : Header) → length h.slots ≡ slot_count → length (raw_bytes h) ≡ line_size
unfolding raw_bytes
length-raw_bytes h e = simp (length-append, length-bytes_of, length-slot_bytes) (omega arith)

pub raw-bytes : (h : Head) → raw_bytes (header_of h) ≡ header_bytes h
unfolding raw_bytes header_of header_bytes
raw-bytes h = refl

pub length-header_bytes : (h : Head) → length h.slots ≤ slot_count → length (header_bytes h) ≡ line_size
unfolding header_of
length-header_bytes h few = ap length (sym (raw-bytes h)) ∙ length-raw_bytes (header_of h) (length-padded h.slots few)

-- a header is read back from its line
module _ (h : Head) (t : List ℕ) (ok : HeadOk h) (few : Small h.slots) where
  count-back : number (bytes_of 2 (length h.slots)) ≡ length h.slots
  count-back = number-bytes_of 2 _ (omega (arith, ok.few))

  start_back : number (bytes_of 2 h.start) ≡ h.start
  start_back = number-bytes_of 2 _ (omega (arith, ok.high))

  own_back : number (bytes_of 2 h.own) ≡ h.own
  own_back = number-bytes_of 2 _ (omega (arith, ok.own_fits))

  pub head-back : read_head (header_bytes h ++ t) ≡ h
  unfolding header_bytes read_head bytes_of padded part
  head-back = rw (count-back, start_back, own_back, slots-back h.slots (replicate (slot_count - length h.slots) 0) t few)

  pub raw-back : raw_header (header_bytes h ++ t) ≡ header_of h
  unfolding header_bytes raw_header header_of bytes_of part
  raw-back = rw (count-back, start_back, own_back, padded-back h.slots t ok.few few)

-- ---- the code's header

pub head-of : (h : Head) → head_of (header_of h) ≡ h
unfolding head_of header_of padded
head-of h = rw (take_at h.slots (replicate (slot_count - length h.slots) 0) (length h.slots) refl)

pub count_of : (h : Head) → (header_of h).count ≡ length h.slots
unfolding header_of
count_of h = refl

pub seal-raw : (h : Head) (p : List ℕ) → raw_bytes (header_of h) ++ drop line_size p ≡ seal h p
unfolding seal
seal-raw h p = ap (λ (l : List ℕ). l ++ drop line_size p) (raw-bytes h)

-- a header whose slots past the count are zero
module _ (h : Header) (clean : h ≡ header_of (head_of h)) where
  pub clean-count : h.count ≡ length (take h.count h.slots)
  unfolding header_of head_of
  clean-count = ap (λ (x : Header). x.count) clean

  pub clean-slots : h.slots ≡ padded (take h.count h.slots)
  unfolding header_of head_of
  clean-slots = ap (λ (x : Header). x.slots) clean

-- ---- the line written in pieces

pub header-written : (p : List ℕ) (h : Header) (q1 q2 q4 q5 : List ℕ) → line_size ≤ length p → length h.slots ≡ slot_count →
    q1 ≡ splice p 0 (bytes_of 2 h.count) →
    q2 ≡ splice q1 2 (bytes_of 2 h.start) →
    q4 ≡ splice (set (set q2 4 h.kind) 5 0) 6 (bytes_of 2 h.own) →
    q5 ≡ splice q4 8 (slot_bytes h.slots) →
    q5 ≡ raw_bytes h ++ drop line_size p
unfolding bytes_of raw_bytes splice
header-written p h q1 q2 q4 q5 long n e1 e2 e4 e5 =
    let s1 : q1 ≡ sets p 0 (bytes_of 2 h.count) = e1 ∙ splice-sets p 0 (bytes_of 2 h.count) (omega arith) in
    let l1 : length q1 ≡ length p = ap length s1 ∙ length-sets p 0 (bytes_of 2 h.count) in
    let s2 : q2 ≡ sets q1 2 (bytes_of 2 h.start) = e2 ∙ splice-sets q1 2 (bytes_of 2 h.start) (omega arith) in
    let l2 : length q2 ≡ length q1 = ap length s2 ∙ length-sets q1 2 (bytes_of 2 h.start) in
    let q3 = set (set q2 4 h.kind) 5 0 in
    let l3 : length q3 ≡ length q2 = simp length-set in
    let s4 : q4 ≡ sets q3 6 (bytes_of 2 h.own) = e4 ∙ splice-sets q3 6 (bytes_of 2 h.own) (omega arith) in
    let l4 : length q4 ≡ length q3 = ap length s4 ∙ length-sets q3 6 (bytes_of 2 h.own) in
    let s5 : q5 ≡ sets q4 8 (slot_bytes h.slots) = e5 ∙ splice-sets q4 8 (slot_bytes h.slots) (omega (arith, length-slot_bytes h.slots)) in
    let whole : q5 ≡ sets p 0 (raw_bytes h) = rw (s5, s4, s2, s1) in
    let lr : 0 + length (raw_bytes h) ≡ line_size = omega (arith, length-raw_bytes h n) in
    whole ∙ sym (splice-sets p 0 (raw_bytes h) (omega arith)) ∙ ap (λ (k : ℕ). raw_bytes h ++ drop k p) lr
