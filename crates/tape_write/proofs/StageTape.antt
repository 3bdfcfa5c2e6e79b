-- Stage A on the tape: the stores of its words, the flushes of their lines and the barrier, one more at a time, and its size.
-- Assumes nothing.
use Prim.Native.Nat.{ℕ, zero, suc, ◌+◌, ◌*◌, ◌/◌, ◌≤◌, ◌<◌}
use mathlib.Core.Path.{◌≡◌, refl, sym, ap, ◌∙◌}
use mathlib.Core.Bool.{Bool, true, false}
use mathlib.Core.List.{List, [], ◌∷◌, ◌++◌, map}
use native.Mathlib.Omega.{arith}
use native.Mathlib.Numerals.{add-one}
use native.Mathlib.Nat.{not-suc-le-zero}
use lib.ListN.{length, get_or, drop, length-map, drop_of_length-le}
use lib.Seq.{sets, drop-cons}
use lib.Dec.{eqb}
use borrow.Author.Tests.{eq-eqb, ne_eqb, eqb-true, eqb-false}
use Rattle.codec.specs.Lists.{pick, part, splice, All}
use Rattle.codec.proofs.Tests.{All-map}
use Rattle.codec.proofs.Lists.{length_part}
use Rattle.device.specs.Tape.{Op, how_many, flush_count, word_bytes, tape_bytes, flush}
use Rattle.device.specs.Cut.{with_barrier}
use Rattle.page.specs.Layout.{line_size}
use Rattle.journal.specs.Changes.{word_size, page_words, line_words, flushes_from, flushes_of, stage_a}
use Rattle.tape_write.specs.Words.{stored_words, stage_words, WordIn, word_store, lines_past, stage_tape}
use Rattle.tape_write.specs.Lines.{closing}
use Rattle.tape_write.specs.Sizes.{group_bytes}
use Rattle.tape_write.specs.Calls.{reached_in, Images}
use Rattle.tape_write.proofs.Encoding.{word_next, tape-none, length_none, length-next, group-size, group-count, group-chain}
use Rattle.tape_write.proofs.StageWords.{walk-words, InWords, stored-in, stored-length}

-- ---- the lines that words lie in

-- of the words ks, from the i-th on
module _ (ks : List ℕ) where
  pub lines_end : (last i : ℕ) → length ks ≤ i → lines_past last (drop i ks) ≡ []
  unfolding lines_past
  lines_end last i h = rw (drop_of_length-le ks {i = i} h)

  module _ (i k : ℕ) (more : i < length ks) (there : k ≡ get_or ks i 0) where
    pub first-cons : drop i ks ≡ k ∷ drop (i + 1) ks
    first-cons = rw (drop-cons ks i 0 more, ← there, add-one i)

    pub line_same : (last : ℕ) → k / 8 ≡ last → lines_past last (drop i ks) ≡ lines_past last (drop (i + 1) ks)
    unfolding lines_past
    line_same last h = rw (first-cons, eq-eqb (k / 8) last h)

    pub line_other : (last : ℕ) → (k / 8 ≡ last → ⊥) → lines_past last (drop i ks) ≡ k / 8 ∷ lines_past (k / 8) (drop (i + 1) ks)
    unfolding lines_past
    line_other last h = rw (first-cons, ne_eqb (k / 8) last h)

-- the definition's flushes, by the lines
flushes-from : (w : List ℕ) (l : ℕ) (ks : List ℕ) → flushes_from l (map (word_store w) ks) ≡ flush l ∷ map flush (lines_past l ks)
unfolding flushes_from lines_past
flushes-from w l [] = refl
flushes-from w l (k ∷ ks) =
    let e : word_size * k / line_size ≡ k / line_words = omega arith in
    rw e (go (eqb (k / line_words) l) refl (flushes-from w (k / line_words) ks))
  where
    rest : List Op
    rest = flushes_from (k / line_words) (map (word_store w) ks)

    go : (t : Bool) → eqb (k / line_words) l ≡ t → rest ≡ flush (k / line_words) ∷ map flush (lines_past (k / line_words) ks) →
        pick (eqb l (k / line_words)) rest (flush l ∷ rest) ≡ flush l ∷ map flush (pick t (lines_past l ks) (k / line_words ∷ lines_past (k / line_words) ks))
    go true q h =
        let s : k / line_words ≡ l = eqb-true (k / line_words) l q in
        rw (eq-eqb l (k / line_words) (sym s)) (h ∙ ap (λ (m : ℕ). flush m ∷ map flush (lines_past m ks)) s)
    go false q h = rw (ne_eqb l (k / line_words) (λ s. eqb-false (k / line_words) l q (sym s))) (ap (λ (r : List Op). flush l ∷ r) h)

flushes-lines : (w ks : List ℕ) → All (λ (k : ℕ). page_words ≤ k) ks → flushes_of (map (word_store w) ks) ≡ map flush (lines_past 0 ks)
unfolding flushes_of lines_past
flushes-lines w [] h = refl
flushes-lines w (k ∷ ks) h =
    let e : word_size * k / line_size ≡ k / line_words = omega arith in
    rw (e, ne_eqb (k / line_words) 0 (λ q. omega (arith, h.0))) (flushes-from w (k / line_words) ks)

pub lines-few : (last : ℕ) (ks : List ℕ) → length (lines_past last ks) ≤ length ks
unfolding lines_past
lines-few last [] = omega arith
lines-few last (k ∷ ks) = go (eqb (k / line_words) last) (lines-few last ks) (lines-few (k / line_words) ks)
  where
    go : (t : Bool) → length (lines_past last ks) ≤ length ks → length (lines_past (k / line_words) ks) ≤ length ks →
        length (pick t (lines_past last ks) (k / line_words ∷ lines_past (k / line_words) ks)) ≤ suc (length ks)
    go true h g = omega arith
    go false h g = omega arith

-- ---- stage A

module _ (a w : List ℕ) (is : Images a w) where
  pub words-in : All (λ (k : ℕ). WordIn w k × (page_words ≤ k)) (stage_words a w)
  unfolding stage_words
  words-in =
      let n : ℕ = length a / word_size in
      All-map (InWords n 0) (λ (k : ℕ). WordIn w k × (page_words ≤ k)) (λ k h. (omega (arith, h.1, is.same), h.2)) (stage_words a w) (stored-in (reached_in a) a w n 0)

  pub words-fit : 8 * length (stage_words a w) ≤ length a
  unfolding stage_words
  words-fit = omega (arith, stored-length (reached_in a) a w (length a / word_size) 0)

  pub words-few : length (stage_words a w) ≤ 8192
  words-few = omega (arith, words-fit, is.high)

  pub stage-tape : stage_a a w ≡ stage_tape w (stage_words a w)
  unfolding stage_a stage_words
  stage-tape =
      let e = walk-words (reached_in a) a w (length a / word_size) 0 in
      let far = All-map (λ (k : ℕ). WordIn w k × (page_words ≤ k)) (λ (k : ℕ). page_words ≤ k) (λ k h. h.1) (stage_words a w) words-in in
      ap (λ (cs : List Op). cs ++ with_barrier (flushes_of cs)) e
      ∙ ap (λ (cs : List Op). map (word_store w) (stored_words (reached_in a) a w (length a / word_size) 0) ++ with_barrier cs) (flushes-lines w (stored_words (reached_in a) a w (length a / word_size) 0) far)

-- ---- its size

words_size : (w ks : List ℕ) → All (WordIn w) ks → length (tape_bytes (map (word_store w) ks)) ≡ 12 * length ks
words_size w [] h = length_none
words_size w (k ∷ ks) h =
    length-next (word_store w k) (map (word_store w) ks) ∙ omega (arith, length_part w (word_size * k) word_size h.0, words_size w ks h.1)

lines-size : (ls : List ℕ) → length (tape_bytes (map flush ls)) ≡ 4 * length ls
lines-size [] = length_none
lines-size (l ∷ ls) = length-next (flush l) (map flush ls) ∙ omega (arith, lines-size ls)

words-flushes : (w ks : List ℕ) → flush_count (map (word_store w) ks) ≡ 0
unfolding how_many
words-flushes w [] = refl
words-flushes w (k ∷ ks) = words-flushes w ks

lines-flushes : (ls : List ℕ) → flush_count (map flush ls) ≡ length ls
unfolding how_many
lines-flushes [] = refl
lines-flushes (l ∷ ls) = ap suc (lines-flushes ls)

module _ (w ks : List ℕ) where
  abbrev F : List Op
  F = map flush (lines_past 0 ks)

  abbrev S : List Op
  S = map (word_store w) ks

  flush-count : length F ≡ length (lines_past 0 ks)
  flush-count = length-map (lines_past 0 ks) flush

  pub stage-size : All (WordIn w) ks → length (tape_bytes (stage_tape w ks)) ≡ 12 * length ks + group_bytes (length (lines_past 0 ks))
  stage-size h = group-size S F (length (lines_past 0 ks)) flush-count (lines-size (lines_past 0 ks)) ∙ omega (arith, words_size w ks h)

  pub stage-flushes : flush_count (stage_tape w ks) ≡ length (lines_past 0 ks)
  stage-flushes =
      group-count S F (length (lines_past 0 ks)) flush-count (lines-size (lines_past 0 ks)) ∙ omega (arith, words-flushes w ks, lines-flushes (lines_past 0 ks))

  pub stage-chain : (t t₁ t₂ t₃ : List ℕ) (n lines : ℕ) → All (WordIn w) ks → length ks ≡ n → lines ≡ length (lines_past 0 ks) → t₁ ≡ sets t 0 (tape_bytes S) →
      t₂ ≡ sets t₁ (12 * n) (tape_bytes F) → t₃ ≡ sets t₂ (12 * n + 4 * lines) (tape_bytes (closing lines)) → t₃ ≡ sets t 0 (tape_bytes (stage_tape w ks))
  stage-chain t t₁ t₂ t₃ n lines h count l e f g =
      group-chain S F lines (flush-count ∙ sym l) (omega (arith, lines-size (lines_past 0 ks))) t t₁ t₂ t₃ 0 (12 * n) (omega (arith, words_size w ks h)) e f g

-- ---- one store or flush more

module _ (t t' : List ℕ) (at : ℕ) (w ks : List ℕ) (i : ℕ) where
  -- the store of the i-th word, written at its place
  pub word-step : (k : ℕ) → i < length ks → k ≡ get_or ks i 0 → WordIn w k → at + 12 * length ks ≤ length t → t' ≡ splice t (at + 12 * i) (word_bytes k (part w (8 * k) 8)) →
      sets t' (at + 12 * (i + 1)) (tape_bytes (map (word_store w) (drop (i + 1) ks))) ≡ sets t (at + 12 * i) (tape_bytes (map (word_store w) (drop i ks)))
  word-step k more e inn fits h =
      word_next t t' (at + 12 * i) (at + 12 * (i + 1)) (map (word_store w) (drop (i + 1) ks)) k (part w (8 * k) 8) h (length_part w (8 * k) 8 inn) (omega arith) (omega arith)
      ∙ rw (first-cons ks i k more e)

  pub words-end : length ks ≤ i → sets t at (tape_bytes (map (word_store w) (drop i ks))) ≡ t
  words-end h = rw (drop_of_length-le ks {i = i} h) (tape-none t at)

-- an element of a list that has a property throughout
pub all-at : (P : ℕ → Type 0) (l : List ℕ) (i : ℕ) → All P l → i < length l → P (get_or l i 0)
all-at P [] i h k = absurd (not-suc-le-zero k)
all-at P (x ∷ l) zero h k = h.0
all-at P (x ∷ l) (suc i) h k = all-at P l i h.1 (omega arith)
