-- A line on the tape in either way: its size, its eight words one by one, and the size of several lines.
-- Assumes nothing.
use Prim.Native.Nat.{ℕ, zero, suc, ◌+◌, ◌-◌, ◌*◌, ◌≤◌, ◌<◌}
use mathlib.Core.Path.{◌≡◌, refl, sym, ap, ap₂, ◌∙◌}
use mathlib.Core.List.{List, [], ◌∷◌}
use native.Mathlib.Omega.{arith}
use lib.ListN.{length, take, drop, length-drop}
use lib.Seq.{sets, length-take-le, drop-drop}
use Rattle.codec.specs.Lists.{part, splice}
use Rattle.codec.proofs.Lists.{length_part}
use Rattle.device.specs.Tape.{Op, how_many, flush_count, word_bytes, line_bytes, tape_bytes, store}
use Rattle.page.specs.Layout.{line_size}
use Rattle.image.proofs.General.{part-part}
use Rattle.journal.specs.Changes.{word_size, line_words}
use Rattle.journal.specs.Way.{words_of, line_by}
use Rattle.journal.specs.declared.Way.{Way}
use Rattle.journal.specs.declared.Way.TheVariants.{ByLine, ByWords}
use Rattle.tape_write.specs.Sizes.{lines_bytes}
use Rattle.tape_write.proofs.Encoding.{word_next, line-next, tape-none, length_none, length-next}

-- ---- the size of several lines

pub lines-zero : (way : Way) → lines_bytes way 0 ≡ 0
unfolding lines_bytes
lines-zero ByLine = refl
lines-zero ByWords = refl

pub lines_more : (way : Way) (k : ℕ) → lines_bytes way (k + 1) ≡ lines_bytes way k + lines_bytes way 1
unfolding lines_bytes
lines_more ByLine k = omega arith
lines_more ByWords k = omega arith

pub lines-grow : (way : Way) (i k : ℕ) → i ≤ k → lines_bytes way i ≤ lines_bytes way k
unfolding lines_bytes
lines-grow ByLine i k h = omega arith
lines-grow ByWords i k h = omega arith

pub lines-most : (way : Way) (k : ℕ) → lines_bytes way k ≤ 96 * k
unfolding lines_bytes
lines-most ByLine k = omega arith
lines-most ByWords k = omega arith

-- ---- of one line

words_size : (n p : ℕ) (h : List ℕ) → length h ≡ word_size * n → length (tape_bytes (words_of n p h)) ≡ 12 * n
unfolding words_of
words_size zero p h e = length_none
words_size (suc n) p h e =
    length-next (store p (take word_size h)) (words_of n (p + word_size) (drop word_size h))
    ∙ omega (arith, length-take-le word_size h (omega arith), words_size n (p + word_size) (drop word_size h) (length-drop word_size h ∙ omega arith))

pub line-size : (way : Way) (p : ℕ) (h : List ℕ) → length h ≡ line_size → length (tape_bytes (line_by way p h)) ≡ lines_bytes way 1
unfolding line_by lines_bytes
line-size ByLine p h e = length-next (store p h) [] ∙ omega (arith, length_none)
line-size ByWords p h e = words_size line_words p h e

words_count : (n p : ℕ) (h : List ℕ) → flush_count (words_of n p h) ≡ 0
unfolding words_of how_many
words_count zero p h = refl
words_count (suc n) p h = words_count n (p + word_size) (drop word_size h)

pub line-count : (way : Way) (p : ℕ) (h : List ℕ) → flush_count (line_by way p h) ≡ 0
unfolding line_by how_many
line-count ByLine p h = refl
line-count ByWords p h = words_count line_words p h

-- ---- written: by a line store, and by its words, one more at a time

module _ (src : List ℕ) (from line : ℕ) (fits : from + 64 ≤ length src) where
  pub by-line : (t t' : List ℕ) (at : ℕ) → at + 68 ≤ length t → t' ≡ splice t at (line_bytes line (part src from 64)) → t' ≡ sets t at (tape_bytes (line_by ByLine (line_size * line) (part src from 64)))
  unfolding line_by
  by-line t t' at room h = sym (tape-none t' (at + 68)) ∙ line-next t t' at (at + 68) [] line (part src from 64) h (length_part src from 64 fits) refl room

  -- from the i-th word on
  abbrev pub words_left : ℕ → List Op
  words_left i = words_of (8 - i) (line_size * line + 8 * i) (drop (8 * i) (part src from 64))

  words-first : (i : ℕ) → i < 8 → words_left i ≡ store (8 * (8 * line + i)) (part src (from + 8 * i) 8) ∷ words_left (i + 1)
  unfolding words_of part
  words-first i h =
      let this-line = part src from 64 in
      let e : 8 - i ≡ suc (8 - (i + 1)) = omega arith in
      let p : line_size * line + 8 * i ≡ 8 * (8 * line + i) = omega arith in
      let q : line_size * line + 8 * i + word_size ≡ line_size * line + 8 * (i + 1) = omega arith in
      let n : 8 * i + word_size ≡ 8 * (i + 1) = omega arith in
      ap (λ (m : ℕ). words_of m (line_size * line + 8 * i) (drop (8 * i) this-line)) e
      ∙ ap₂ (λ (o : Op) (r : List Op). o ∷ r) (ap₂ store p (part-part src from 64 (8 * i) 8 (omega arith)))
      (ap₂ (words_of (8 - (i + 1))) q (drop-drop word_size (8 * i) this-line ∙ ap (λ (m : ℕ). drop m this-line) n))

  module _ (t t' : List ℕ) (at i : ℕ) where
    pub word-step : i < 8 → at + 96 ≤ length t → t' ≡ splice t (at + 12 * i) (word_bytes (8 * line + i) (part src (from + 8 * i) 8)) →
        sets t' (at + 12 * (i + 1)) (tape_bytes (words_left (i + 1))) ≡ sets t (at + 12 * i) (tape_bytes (words_left i))
    word-step more room h =
        word_next t t' (at + 12 * i) (at + 12 * (i + 1)) (words_left (i + 1)) (8 * line + i) (part src (from + 8 * i) 8) h (length_part src (from + 8 * i) 8 (omega arith)) (omega arith) (omega arith)
        ∙ ap (λ (cs : List Op). sets t (at + 12 * i) (tape_bytes cs)) (sym (words-first i more))

    pub words-end : 8 ≤ i → sets t at (tape_bytes (words_left i)) ≡ t
    unfolding words_of
    words-end h =
        let e : 8 - i ≡ 0 = omega arith in
        ap (λ (m : ℕ). sets t at (tape_bytes (words_of m (line_size * line + 8 * i) (drop (8 * i) (part src from 64))))) e ∙ tape-none t at

  -- the eight words are the line
  pub words-all : (t : List ℕ) (at : ℕ) → sets t (at + 12 * 0) (tape_bytes (words_left 0)) ≡ sets t at (tape_bytes (line_by ByWords (line_size * line) (part src from 64)))
  unfolding line_by
  words-all t at =
      let e : at + 12 * 0 ≡ at = omega arith in
      let f : line_size * line + 8 * 0 ≡ line_size * line = omega arith in
      ap₂ (λ (o p : ℕ). sets t o (tape_bytes (words_of 8 p (part src from 64)))) e f
