-- A header line of at most 28 records is laid out exactly if its byte 5 and its slots past the count are zero.
-- Assumes nothing.
use Rattle.std.proofs.Common.{◌≡◌, ℕ, zero, suc, ◌+◌, ◌-◌, ◌*◌, ◌/◌, ◌%◌, ◌≤◌, Bool, true, false, eqb, List, [], ◌∷◌, ◌++◌, length, get_or, take, drop, replicate, sym, refl, ap, ◌∙◌, add-one, arith, drop-cons, drop-drop, eq-eqb, eqb-true}
use Rattle.codec.specs.Lists.{part, eqs, every}
use Rattle.codec.specs.Numbers.{number, bytes_of}
use Rattle.codec.proofs.Lists.{length_part}
use Rattle.codec.proofs.Numbers.{length-bytes_of, number-two}
use Rattle.codec.proofs.Tests.{everything, all-every, eqs-true, eqs-same, not-true}
use Rattle.codec.proofs.Agree.{part-add}
use Rattle.page.specs.Layout.{page_size, line_size, slot_count, padded, slot_bytes, slots_in, header_bytes, read_head}
use Rattle.page.specs.Page.{head_ok, HeadOk}
use Rattle.page.proofs.Facts.{head_ok-true, true-head_ok}
use Rattle.page.proofs.Headers.{length-slots_in}
use Rattle.page.proofs.CheckBytes.{Bytes, five-same, same_rest, same_test, bytes-part}

-- ---- slots

part-two : (p : List ℕ) (o : ℕ) → o + 2 ≤ length p → part p o 2 ≡ get_or p o 0 ∷ get_or p (o + 1) 0 ∷ []
unfolding part
part-two p o h = rw (drop-cons p o 0 (omega arith), drop-cons p (suc o) 0 (omega arith), add-one)

-- the bytes of the slots that stand in a part
slots-part : (p : List ℕ) → Bytes p → (n o : ℕ) → o + 2 * n ≤ length p → slot_bytes (slots_in n (drop o p)) ≡ part p o (2 * n)
unfolding slot_bytes slots_in part
slots-part p h zero o fits = refl
slots-part p h (suc n) o fits =
    let two = number-two p o (omega arith) in
    let low : number (take 2 (drop o p)) % 256 ≡ get_or p o 0 = omega (arith, h o) in
    let high : number (take 2 (drop o p)) / 256 ≡ get_or p (o + 1) 0 = omega (arith, h o) in
    let e : 2 * suc n ≡ 2 + 2 * n = omega arith in
    rw (low, high, drop-drop 2 o p, e, slots-part p h n (o + 2) (omega arith))
    (sym (part-add p o 2 (2 * n) ∙ ap (λ (l : List ℕ). l ++ part p (o + 2) (2 * n)) (part-two p o (omega arith))))

slot_bytes-append : (xs ys : List ℕ) → slot_bytes (xs ++ ys) ≡ slot_bytes xs ++ slot_bytes ys
unfolding slot_bytes
slot_bytes-append [] ys = refl
slot_bytes-append (x ∷ xs) ys = ap (λ (l : List ℕ). (x % 256) ∷ (x / 256) ∷ l) (slot_bytes-append xs ys)

slot_bytes-zeros : (n : ℕ) → slot_bytes (replicate n 0) ≡ replicate (2 * n) 0
unfolding slot_bytes
slot_bytes-zeros zero = refl
slot_bytes-zeros (suc n) = let e : 2 * suc n ≡ suc (suc (2 * n)) = omega arith in rw (e, slot_bytes-zeros n)

-- ---- the line

pub count-is : (p : List ℕ) → length (read_head p).slots ≡ number (part p 0 2)
unfolding read_head
count-is p = length-slots_in (number (part p 0 2)) (drop 8 p)

pub start_is : (p : List ℕ) → (read_head p).start ≡ number (part p 2 2)
unfolding read_head
start_is p = refl

pub kind-is : (p : List ℕ) → (read_head p).kind ≡ get_or p 4 0
unfolding read_head
kind-is p = refl

pub own_is : (p : List ℕ) → (read_head p).own ≡ number (part p 6 2)
unfolding read_head
own_is p = refl

module _ (p : List ℕ) (bytes : Bytes p) (whole : length p ≡ page_size) (n : ℕ) (count : n ≡ number (part p 0 2)) (few : n ≤ slot_count) where
  slots_length : length (read_head p).slots ≡ n
  slots_length = count-is p ∙ sym count

  -- all 28 slots: those in use as they stand, and zeros
  slots-bytes : slot_bytes (padded (read_head p).slots) ≡ part p 8 (2 * n) ++ replicate (line_size - (8 + 2 * n)) 0
  unfolding padded read_head
  slots-bytes =
      let os = slots_in (number (part p 0 2)) (drop 8 p) in
      let used : slot_bytes os ≡ part p 8 (2 * n) = ap (λ (k : ℕ). slot_bytes (slots_in k (drop 8 p))) (sym count) ∙ slots-part p bytes n 8 (omega arith) in
      let free : 2 * (slot_count - length os) ≡ line_size - (8 + 2 * n) = omega (arith, slots_length) in
      slot_bytes-append os (replicate (slot_count - length os) 0) ∙ rw (used, slot_bytes-zeros (slot_count - length os), free)

  slots-split : part p 8 56 ≡ part p 8 (2 * n) ++ part p (8 + 2 * n) (line_size - (8 + 2 * n))
  slots-split = let e : 56 ≡ 2 * n + (line_size - (8 + 2 * n)) = omega arith in ap (part p 8) e ∙ part-add p 8 (2 * n) (line_size - (8 + 2 * n))

  line-split : take line_size p ≡ part p 0 2 ++ (part p 2 2 ++ (part p 4 2 ++ (part p 6 2 ++ part p 8 56)))
  unfolding part
  line-split =
      part-add p 0 2 62
      ∙ ap (λ (l : List ℕ). part p 0 2 ++ l)
      (part-add p 2 2 60 ∙ ap (λ (l : List ℕ). part p 2 2 ++ l) (part-add p 4 2 58 ∙ ap (λ (l : List ℕ). part p 4 2 ++ l) (part-add p 6 2 56)))

  -- count, start, kind and zero, own number, slots
  Pieces : Type 0
  Pieces =
      let h = read_head p in
      (part p 0 2 ≡ bytes_of 2 (length h.slots))
      × (part p 2 2 ≡ bytes_of 2 h.start)
      × (part p 4 2 ≡ h.kind ∷ 0 ∷ [])
      × (part p 6 2 ≡ bytes_of 2 h.own)
      × (part p 8 56 ≡ slot_bytes (padded h.slots))

  pub line-facts : take line_size p ≡ header_bytes (read_head p) → (get_or p 5 0 ≡ 0) × (part p (8 + 2 * n) (line_size - (8 + 2 * n)) ≡ replicate (line_size - (8 + 2 * n)) 0)
  unfolding header_bytes Pieces
  line-facts line =
      let h = read_head p in
      let k : Pieces =
      five-same _ _ _ _ _ _ _ _ _ _
      (length_part p 0 2 (omega arith) ∙ sym (length-bytes_of 2 (length h.slots)))
      (length_part p 2 2 (omega arith) ∙ sym (length-bytes_of 2 h.start))
      (length_part p 4 2 (omega arith))
      (length_part p 6 2 (omega arith) ∙ sym (length-bytes_of 2 h.own))
      (sym line-split ∙ line) in
      let five : get_or p 5 0 ≡ 0 = ap (λ (l : List ℕ). get_or l 1 0) (sym (part-two p 4 (omega arith)) ∙ k.2) in
      (five, same_rest (part p 8 (2 * n)) (part p 8 (2 * n)) _ _ refl (sym slots-split ∙ k.4 ∙ slots-bytes))

  pub facts-line : get_or p 5 0 ≡ 0 → part p (8 + 2 * n) (line_size - (8 + 2 * n)) ≡ replicate (line_size - (8 + 2 * n)) 0 → take line_size p ≡ header_bytes (read_head p)
  unfolding header_bytes Pieces read_head
  facts-line five free =
      let k : Pieces = (
        sym (bytes-part p bytes 0 2 (omega arith)) ∙ ap (bytes_of 2) (sym count ∙ sym slots_length),
        sym (bytes-part p bytes 2 2 (omega arith)),
        part-two p 4 (omega arith) ∙ ap (λ (b : ℕ). get_or p 4 0 ∷ b ∷ []) five,
        sym (bytes-part p bytes 6 2 (omega arith)),
        slots-split ∙ ap (λ (l : List ℕ). part p 8 (2 * n) ++ l) free ∙ sym slots-bytes,
      ) in
      line-split ∙ (λ i. k.0 i ++ (k.1 i ++ (k.2 i ++ (k.3 i ++ k.4 i))))

-- ---- the test of the header

-- the header of the page p is right
pub record Headed (k n : ℕ) (p : List ℕ) : Type 0 where
  pub whole : length p ≡ page_size
  pub head : HeadOk (read_head p)
  pub line : take line_size p ≡ header_bytes (read_head p)
  pub kind : (read_head p).kind ≡ k
  pub own : (read_head p).own ≡ n

-- the tests of the header
abbrev pub head_b : ℕ → ℕ → List ℕ → Bool
head_b kind own p =
    let h = read_head p in
    every (eqb (length p) page_size ∷ head_ok h ∷ eqs (take line_size p) (header_bytes h) ∷ eqb h.kind kind ∷ eqb h.own own ∷ [])

module _ (kind own : ℕ) (p : List ℕ) where
  pub head-headed : head_b kind own p ≡ true → Headed kind own p
  head-headed t =
      let k = everything _ t in
      record {
        whole = eqb-true _ _ k.0;
        head = head_ok-true _ k.1.0;
        line = eqs-true _ _ k.1.1.0;
        kind = eqb-true _ _ k.1.1.1.0;
        own = eqb-true _ _ k.1.1.1.1.0;
      }

  pub headed-head : Headed kind own p → head_b kind own p ≡ true
  headed-head k =
      all-every _ (eq-eqb _ _ k.whole, (true-head_ok _ k.head, (rw k.line (eqs-same _), (eq-eqb _ _ k.kind, (eq-eqb _ _ k.own, tt)))))

  pub not-headed : (Headed kind own p → ⊥) → head_b kind own p ≡ false
  not-headed h = not-true (head_b kind own p) (λ t. h (head-headed t))

  -- once the numbers are right, the slots past the count decide
  pub head-blank : Bytes p → length p ≡ page_size → (n : ℕ) → n ≡ number (part p 0 2) → n ≤ slot_count →
      number (part p 2 2) % 8 ≡ 0 → line_size ≤ number (part p 2 2) → number (part p 2 2) ≤ page_size →
      get_or p 4 0 ≡ kind → get_or p 5 0 ≡ 0 → number (part p 6 2) ≡ own →
      eqs (part p (8 + 2 * n) (line_size - (8 + 2 * n))) (replicate (line_size - (8 + 2 * n)) 0) ≡ head_b kind own p
  head-blank bytes whole n count few even low high four five six = same_test _ _ there back
    where
      there : eqs (part p (8 + 2 * n) (line_size - (8 + 2 * n))) (replicate (line_size - (8 + 2 * n)) 0) ≡ true → head_b kind own p ≡ true
      there t =
          headed-head
          (record {
            whole = whole;
            head =
                record {
                  few = omega (arith, count-is p);
                  even = rw (start_is p) even;
                  low = rw (start_is p) low;
                  high = rw (start_is p) high;
                  kind_fits = rw (kind-is p) (bytes 4);
                  own_fits = omega (arith, own_is p, number-two p 6 (omega arith), bytes 6, bytes 7);
                };
            line = facts-line p bytes whole n count few five (eqs-true _ _ t);
            kind = kind-is p ∙ four;
            own = own_is p ∙ six;
          })

      back : head_b kind own p ≡ true → eqs (part p (8 + 2 * n) (line_size - (8 + 2 * n))) (replicate (line_size - (8 + 2 * n)) 0) ≡ true
      back t = rw (line-facts p bytes whole n count few (head-headed t).line).1 (eqs-same _)
