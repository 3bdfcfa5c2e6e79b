-- The headers in the log's lines on the tape: one header or flush more, which commands of the definitions they are, and their size.
-- Assumes nothing.
use Prim.Native.Nat.{ℕ, zero, suc, ◌+◌, ◌-◌, ◌*◌, ◌≤◌, ◌<◌}
use mathlib.Core.Path.{◌≡◌, refl, sym, ap, ap₂, ◌∙◌}
use mathlib.Core.Bool.{Bool, true, false}
use mathlib.Core.List.{List, [], ◌∷◌, ◌++◌}
use native.Mathlib.Omega.{arith}
use native.Mathlib.Numerals.{add-one}
use lib.ListN.{length}
use lib.Seq.{sets}
use Rattle.codec.specs.Lists.{part, splice}
use Rattle.codec.specs.Numbers.{number}
use Rattle.codec.proofs.Lists.{length_part}
use Rattle.device.specs.Tape.{Op, how_many, flush_count, flush_bytes, tape_bytes, flush}
use Rattle.device.specs.Cut.{with_barrier}
use Rattle.device.proofs.Clauses.{flush_count-nil}
use Rattle.device.proofs.Cuts.{flush_count-append}
use Rattle.page.specs.Layout.{page_size, line_size}
use Rattle.image.proofs.General.{part-part}
use Rattle.journal.specs.Way.{line_by}
use Rattle.journal.specs.Log.{page_lines, own_page, log_stores, log_flushes, log_tape, header_stores, header_flushes, header_tape}
use Rattle.journal.specs.Recovery.{lines_from, logged}
use Rattle.journal.specs.declared.Way.{Way}
use Rattle.journal.proofs.Headers.{Lines, lines-from}
use Rattle.tape_write.specs.Lines.{line_for, line_stores, line_flushes, line_tape, closing}
use Rattle.tape_write.specs.Sizes.{lines_bytes, group_bytes}
use Rattle.tape_write.proofs.Encoding.{flush-next, tape-append, tape-none, length_none, length-next, length-tapes, group-size, group-count, group-chain}
use Rattle.tape_write.proofs.LineBytes.{lines-zero, lines_more, line-size, line-count}

-- ---- the lines, one by one

-- the line of a header, from the image that holds it
pub line-own : (src : List ℕ) (l : ℕ) → page_lines * number (part src (64 * l + 6) 2) ≡ line_for true l (part src (64 * l) 64)
unfolding line_for own_page
line-own src l = ap (λ (x : List ℕ). page_lines * number x) (sym (part-part src (64 * l) 64 6 2 (omega arith)))

pub line-log : (src : List ℕ) (l : ℕ) → l ≡ line_for false l (part src (64 * l) 64)
unfolding line_for
line-log src l = refl

module _ (src : List ℕ) (k i : ℕ) where
  -- the lines from the i-th on
  abbrev pub lines_passed : ℕ → List (List ℕ)
  lines_passed j = lines_from (k - j) (j + 1) src

  pub lines_next : i < k → lines_passed i ≡ part src (64 * (i + 1)) 64 ∷ lines_passed (i + 1)
  unfolding lines_from
  lines_next h =
      let e : k - i ≡ suc (k - (i + 1)) = omega arith in
      let f : i + 1 + 1 ≡ suc (i + 1) = omega arith in
      rw (e, f)

  pub lines_none : k ≤ i → lines_passed i ≡ []
  unfolding lines_from
  lines_none h = let e : k - i ≡ 0 = omega arith in rw e

  module _ (way : Way) (own : Bool) (t t' : List ℕ) (at : ℕ) where
    -- the stores of the i-th header, written at their place
    pub line_step : (line n : ℕ) → i < k → 64 * k + 64 ≤ length src → line ≡ line_for own (i + 1) (part src (64 * (i + 1)) 64) →
        n ≡ lines_bytes way i → t' ≡ sets t (at + n) (tape_bytes (line_by way (line_size * line) (part src (64 * (i + 1)) 64))) →
        sets t' (at + lines_bytes way (i + 1)) (tape_bytes (line_stores way own (i + 1 + 1) (lines_passed (i + 1)))) ≡ sets t (at + lines_bytes way i) (tape_bytes (line_stores way own (i + 1) (lines_passed i)))
    unfolding line_stores
    line_step line n more fits e m h =
        let this-line = part src (64 * (i + 1)) 64 in
        let size = line-size way (line_size * line) this-line (length_part src (64 * (i + 1)) 64 (omega arith)) in
        tape-append t t' (at + lines_bytes way i) (at + lines_bytes way (i + 1)) (line_by way (line_size * line) this-line) (line_stores way own (i + 1 + 1) (lines_passed (i + 1)))
        (h ∙ ap (λ (o : ℕ). sets t (at + o) (tape_bytes (line_by way (line_size * line) this-line))) m) (omega (arith, lines_more way i))
        ∙ rw (lines_next more, e, add-one (i + 1))

  module _ (own : Bool) (t t' : List ℕ) (at : ℕ) where
    -- before the first of them
    pub line-start : (way : Way) → sets t (at + lines_bytes way 0) (tape_bytes (line_stores way own (0 + 1) (lines_from (k - 0) (0 + 1) src))) ≡ sets t at (tape_bytes (line_stores way own 1 (logged k src)))
    unfolding logged
    line-start way =
        let e : at + lines_bytes way 0 ≡ at = omega (arith, lines-zero way) in
        let f : k - 0 ≡ k = omega arith in
        ap₂ (λ (o n : ℕ). sets t o (tape_bytes (line_stores way own 1 (lines_from n 1 src)))) e f

    pub line-end : (way : Way) → k ≤ i → sets t at (tape_bytes (line_stores way own (i + 1) (lines_passed i))) ≡ t
    unfolding line_stores
    line-end way h = rw (lines_none h) (tape-none t at)

    -- its flush
    pub flush-step : (line : ℕ) → i < k → at + 4 * k ≤ length t → line ≡ line_for own (i + 1) (part src (64 * (i + 1)) 64) → t' ≡ splice t (at + 4 * i) (flush_bytes line) →
        sets t' (at + 4 * (i + 1)) (tape_bytes (line_flushes own (i + 1 + 1) (lines_passed (i + 1)))) ≡ sets t (at + 4 * i) (tape_bytes (line_flushes own (i + 1) (lines_passed i)))
    unfolding line_flushes
    flush-step line more room e h =
        flush-next t t' (at + 4 * i) (at + 4 * (i + 1)) (line_flushes own (i + 1 + 1) (lines_passed (i + 1))) line h (omega arith) (omega arith)
        ∙ rw (lines_next more, e, add-one (i + 1))

    pub flush-end : k ≤ i → sets t at (tape_bytes (line_flushes own (i + 1) (lines_passed i))) ≡ t
    unfolding line_flushes
    flush-end h = rw (lines_none h) (tape-none t at)

pub logged-lines : (k : ℕ) (src : List ℕ) → 64 * k + 64 ≤ length src → Lines (logged k src)
unfolding logged
logged-lines k src h = lines-from k 1 src (omega arith)

pub logged-length : (k : ℕ) (src : List ℕ) → length (logged k src) ≡ k
unfolding logged lines_from
logged-length k src = go k 1
  where
    go : (n l : ℕ) → length (lines_from n l src) ≡ n
    go zero l = refl
    go (suc n) l = ap suc (go n (suc l))

-- ---- the commands of the definitions

stores-log : (way : Way) (l : ℕ) (hs : List (List ℕ)) → line_stores way false l hs ≡ log_stores way l hs
unfolding line_stores line_for log_stores
stores-log way l [] = refl
stores-log way l (h ∷ hs) = ap (λ (cs : List Op). line_by way (line_size * l) h ++ cs) (stores-log way (suc l) hs)

flushes-logged : (l : ℕ) (hs : List (List ℕ)) → line_flushes false l hs ≡ log_flushes l hs
unfolding line_flushes line_for log_flushes
flushes-logged l [] = refl
flushes-logged l (h ∷ hs) = ap (λ (cs : List Op). flush l ∷ cs) (flushes-logged (suc l) hs)

stores-own : (way : Way) (l : ℕ) (hs : List (List ℕ)) → line_stores way true l hs ≡ header_stores way hs
unfolding line_stores line_for header_stores
stores-own way l [] = refl
stores-own way l (h ∷ hs) =
    let e : line_size * (page_lines * own_page h) ≡ page_size * own_page h = omega arith in
    rw e (ap (λ (cs : List Op). line_by way (page_size * own_page h) h ++ cs) (stores-own way (suc l) hs))

flushes-own : (l : ℕ) (hs : List (List ℕ)) → line_flushes true l hs ≡ header_flushes hs
unfolding line_flushes line_for header_flushes
flushes-own l [] = refl
flushes-own l (h ∷ hs) = ap (λ (cs : List Op). flush (page_lines * own_page h) ∷ cs) (flushes-own (suc l) hs)

-- ---- their size

stores-size : (way : Way) (own : Bool) (l : ℕ) (hs : List (List ℕ)) → Lines hs → length (tape_bytes (line_stores way own l hs)) ≡ lines_bytes way (length hs)
unfolding line_stores
stores-size way own l [] h = length_none ∙ sym (lines-zero way)
stores-size way own l (g ∷ hs) h =
    length-tapes (line_by way (line_size * line_for own l g) g) (line_stores way own (suc l) hs)
    ∙ omega (arith, line-size way (line_size * line_for own l g) g h.0, stores-size way own (suc l) hs h.1, sym (ap (lines_bytes way) (add-one (length hs))) ∙ lines_more way (length hs))

flushes-size : (own : Bool) (l : ℕ) (hs : List (List ℕ)) → length (tape_bytes (line_flushes own l hs)) ≡ 4 * length hs
unfolding line_flushes
flushes-size own l [] = length_none
flushes-size own l (g ∷ hs) = length-next (flush (line_for own l g)) (line_flushes own (suc l) hs) ∙ omega (arith, flushes-size own (suc l) hs)

stores-count : (way : Way) (own : Bool) (l : ℕ) (hs : List (List ℕ)) → flush_count (line_stores way own l hs) ≡ 0
unfolding line_stores
stores-count way own l [] = flush_count-nil
stores-count way own l (g ∷ hs) =
    let p = line_size * line_for own l g in
    flush_count-append (line_by way p g) (line_stores way own (suc l) hs) ∙ omega (arith, line-count way p g, stores-count way own (suc l) hs)

flushes-count : (own : Bool) (l : ℕ) (hs : List (List ℕ)) → flush_count (line_flushes own l hs) ≡ length hs
unfolding how_many line_flushes
flushes-count own l [] = refl
flushes-count own l (g ∷ hs) = ap suc (flushes-count own (suc l) hs)

-- ---- with their flushes and the barrier

pub tape-log : (way : Way) (hs : List (List ℕ)) → line_tape way false hs ≡ log_tape way hs
unfolding log_tape
tape-log way hs = ap₂ (λ (x y : List Op). x ++ with_barrier y) (stores-log way 1 hs) (flushes-logged 1 hs)

pub tape-own : (way : Way) (hs : List (List ℕ)) → line_tape way true hs ≡ header_tape way hs
unfolding header_tape
tape-own way hs = ap₂ (λ (x y : List Op). x ++ with_barrier y) (stores-own way 1 hs) (flushes-own 1 hs)

flushes-length : (own : Bool) (l : ℕ) (hs : List (List ℕ)) → length (line_flushes own l hs) ≡ length hs
unfolding line_flushes
flushes-length own l [] = refl
flushes-length own l (g ∷ hs) = ap suc (flushes-length own (suc l) hs)

module _ (way : Way) (own : Bool) (hs : List (List ℕ)) (k : ℕ) (lines : Lines hs) (count : length hs ≡ k) where
  abbrev S : List Op
  S = line_stores way own 1 hs

  abbrev F : List Op
  F = line_flushes own 1 hs

  flush-count : length F ≡ k
  flush-count = flushes-length own 1 hs ∙ count

  flush-bytes : length (tape_bytes F) ≡ 4 * k
  flush-bytes = omega (arith, flushes-size own 1 hs)

  stores-bytes : length (tape_bytes S) ≡ lines_bytes way k
  stores-bytes = stores-size way own 1 hs lines ∙ ap (lines_bytes way) count

  pub tape-size : length (tape_bytes (line_tape way own hs)) ≡ lines_bytes way k + group_bytes k
  tape-size = group-size S F k flush-count flush-bytes ∙ omega (arith, stores-bytes)

  pub tape-flushes : flush_count (line_tape way own hs) ≡ k
  tape-flushes = group-count S F k flush-count flush-bytes ∙ omega (arith, stores-count way own 1 hs, flushes-count own 1 hs)

  pub lines-chain : (t t₁ t₂ t₃ : List ℕ) (at flushes : ℕ) → flushes ≡ at + lines_bytes way k → t₁ ≡ sets t at (tape_bytes S) → t₂ ≡ sets t₁ flushes (tape_bytes F) →
      t₃ ≡ sets t₂ (flushes + 4 * k) (tape_bytes (closing k)) → t₃ ≡ sets t at (tape_bytes (line_tape way own hs))
  lines-chain t t₁ t₂ t₃ at flushes m e f g = group-chain S F k flush-count flush-bytes t t₁ t₂ t₃ at flushes (omega (arith, stores-bytes)) e f g
