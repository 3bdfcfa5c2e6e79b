-- What follows stage A: the chain of its writers, for one changed place, the log and the replay, and its size.
-- Assumes nothing.
use Prim.Native.Nat.{ℕ, ◌+◌, ◌*◌, ◌/◌, ◌%◌, ◌<◌}
use mathlib.Core.Path.{◌≡◌, refl, sym, ap, ap₂, ◌∙◌}
use mathlib.Core.Bool.{Bool, true, false}
use mathlib.Core.List.{List, [], ◌∷◌, ◌++◌}
use native.Mathlib.Omega.{arith}
use lib.ListN.{length}
use lib.Seq.{sets}
use Rattle.codec.specs.Lists.{pick}
use Rattle.codec.specs.Numbers.{bytes_of}
use Rattle.codec.proofs.Numbers.{length-bytes_of}
use Rattle.device.specs.Tape.{Op, how_many, flush_count, tape_bytes, store, flush, barrier}
use Rattle.device.specs.Cut.{with_barrier}
use Rattle.device.proofs.Cuts.{flush_count-append}
use Rattle.image.specs.PageZero.{mark_bytes, no_mark}
use Rattle.journal.specs.Log.{log_tape, ending, replay_tape}
use Rattle.journal.specs.declared.Way.{Way}
use Rattle.journal.proofs.Headers.{Lines}
use Rattle.journal.specs.Tape.{mark_flush}
use Rattle.tape_write.specs.Lines.{line_tape}
use Rattle.tape_write.specs.Sizes.{lines_bytes, group_bytes, replay_bytes, log_bytes}
use Rattle.tape_write.proofs.Encoding.{length_none, length-next, length-tapes, tape-then}
use Rattle.tape_write.proofs.LogLines.{tape-log, tape-own, tape-size, tape-flushes}

-- ---- a number stored to a word

pub length-number : (k v : ℕ) → length (tape_bytes (store (8 * k) (bytes_of 8 v) ∷ [])) ≡ 12
length-number k v = length-next (store (8 * k) (bytes_of 8 v)) [] ∙ omega (arith, length_none, length-bytes_of 8 v)

-- a flush and its barrier
pub length-wait : (l : ℕ) → length (tape_bytes (with_barrier (flush l ∷ []))) ≡ 8
length-wait l = length-next (flush l) (barrier ∷ []) ∙ omega (arith, length-next barrier [], length_none)

pub length-settled : (k v : ℕ) → length (tape_bytes (store (8 * k) (bytes_of 8 v) ∷ with_barrier (flush 0 ∷ []))) ≡ 20
length-settled k v = length-next (store (8 * k) (bytes_of 8 v)) (with_barrier (flush 0 ∷ [])) ∙ omega (arith, length-wait 0, length-bytes_of 8 v)

-- the mark as a number
pub mark-number : (k root : ℕ) → k < 256 → bytes_of 8 (1 + 256 * k + 65536 * (root % 65536)) ≡ mark_bytes k root
unfolding bytes_of mark_bytes
mark-number k root h =
    let r = root % 65536 in
    let a : (1 + 256 * k + 65536 * r) % 256 ≡ 1 = omega arith in
    let b : (1 + 256 * k + 65536 * r) / 256 ≡ k + 256 * r = omega arith in
    let c : (k + 256 * r) % 256 ≡ k = omega arith in
    let d : (k + 256 * r) / 256 ≡ r = omega arith in
    let e : r % 256 ≡ root % 256 = omega arith in
    let s : root / 256 ≡ r / 256 + 256 * (root / 65536) = omega arith in
    let m : (r / 256 + 256 * (root / 65536)) % 256 ≡ r / 256 % 256 = omega arith in
    let f : r / 256 % 256 ≡ root / 256 % 256 = sym m ∙ ap (λ (n : ℕ). n % 256) (sym s) in
    let g : r / 256 / 256 ≡ 0 = omega arith in
    rw (a, b, c, d, e, f, g)

-- "the root word if it differs; mark 0; flush of line 0"
pub ending-same : (root : ℕ) → ending true root ≡ store (8 * 0) (bytes_of 8 0) ∷ with_barrier (flush 0 ∷ [])
unfolding ending no_mark bytes_of
ending-same root = refl

pub ending-other : (root : ℕ) → ending false root ≡ (store (8 * 1) (bytes_of 8 root) ∷ []) ++ (store (8 * 0) (bytes_of 8 0) ∷ with_barrier (flush 0 ∷ []))
unfolding ending no_mark bytes_of
ending-other root = refl

-- ---- the replay and the log

module _ (way : Way) (hs : List (List ℕ)) (k : ℕ) (lines : Lines hs) (count : length hs ≡ k) (same : Bool) (root : ℕ) where
  -- what the mark's flush and barrier and the replay make up
  abbrev after-mark : List Op
  after-mark = mark_flush ++ replay_tape way hs same root

  replay-is : line_tape way true hs ++ ending same root ≡ replay_tape way hs same root
  unfolding replay_tape
  replay-is = ap (λ (cs : List Op). cs ++ ending same root) (tape-own way hs)

  lines-bytes : (own : Bool) → length (tape_bytes (line_tape way own hs)) ≡ lines_bytes way k + group_bytes k
  lines-bytes own = tape-size way own hs k lines count

  -- the headers, the ending
  pub replay-chain : (t t₁ t₂ : List ℕ) (at n : ℕ) → n ≡ lines_bytes way k + group_bytes k → t₁ ≡ sets t at (tape_bytes (line_tape way true hs)) →
      t₂ ≡ sets t₁ (at + n) (tape_bytes (ending same root)) → t₂ ≡ sets t at (tape_bytes (replay_tape way hs same root))
  replay-chain t t₁ t₂ at n m e f =
      tape-then t t₁ t₂ at (at + n) (line_tape way true hs) (ending same root) e (omega (arith, lines-bytes true)) f ∙ ap (λ (cs : List Op). sets t at (tape_bytes cs)) replay-is

  -- the log, the mark with its flush and barrier, the replay
  pub log-chain : k < 256 → (t t₁ t₂ t₃ : List ℕ) (at n : ℕ) → n ≡ lines_bytes way k + group_bytes k → t₁ ≡ sets t at (tape_bytes (line_tape way false hs)) →
      t₂ ≡ sets t₁ (at + n) (tape_bytes (store (8 * 0) (bytes_of 8 (1 + 256 * k + 65536 * (root % 65536))) ∷ with_barrier (flush 0 ∷ []))) →
      t₃ ≡ sets t₂ (at + n + 20) (tape_bytes (replay_tape way hs same root)) →
      t₃ ≡ sets t at (tape_bytes (log_tape way hs ++ (store 0 (mark_bytes k root) ∷ after-mark)))
  unfolding mark_flush
  log-chain small t t₁ t₂ t₃ at n m e f g =
      let v = 1 + 256 * k + 65536 * (root % 65536) in
      let settled = store (8 * 0) (bytes_of 8 v) ∷ with_barrier (flush 0 ∷ []) in
      tape-then t t₁ t₃ at (at + n) (line_tape way false hs) (settled ++ replay_tape way hs same root) e (omega (arith, lines-bytes false))
      (tape-then t₁ t₂ t₃ (at + n) (at + n + 20) settled (replay_tape way hs same root) f (omega (arith, length-settled 0 v)) g)
      ∙ ap₂ (λ (cs : List Op) (m : List ℕ). sets t at (tape_bytes (cs ++ (store 0 m ∷ after-mark)))) (tape-log way hs) (mark-number k root small)

  -- ---- their sizes

  ending-size : (s : Bool) → length (tape_bytes (ending s root)) ≡ 20 + pick s 0 12
  ending-size true = ap (λ (cs : List Op). length (tape_bytes cs)) (ending-same root) ∙ length-settled 0 0
  ending-size false =
      ap (λ (cs : List Op). length (tape_bytes cs)) (ending-other root)
      ∙ length-tapes (store (8 * 1) (bytes_of 8 root) ∷ []) (store (8 * 0) (bytes_of 8 0) ∷ with_barrier (flush 0 ∷ []))
      ∙ omega (arith, length-number 1 root, length-settled 0 0)

  pub replay-size : length (tape_bytes (replay_tape way hs same root)) ≡ replay_bytes way k same
  unfolding replay_bytes
  replay-size =
      ap (λ (cs : List Op). length (tape_bytes cs)) (sym replay-is)
      ∙ length-tapes (line_tape way true hs) (ending same root)
      ∙ omega (arith, lines-bytes true, ending-size same)

  pub log-size : k < 256 → length (tape_bytes (log_tape way hs ++ (store 0 (mark_bytes k root) ∷ after-mark))) ≡ log_bytes way k same
  unfolding log_bytes mark_flush
  log-size small =
      let v = 1 + 256 * k + 65536 * (root % 65536) in
      ap₂ (λ (cs : List Op) (m : List ℕ). length (tape_bytes (cs ++ (store 0 m ∷ after-mark)))) (sym (tape-log way hs)) (sym (mark-number k root small))
      ∙ length-tapes (line_tape way false hs) _
      ∙ omega (arith, lines-bytes false, length-tapes (store (8 * 0) (bytes_of 8 v) ∷ with_barrier (flush 0 ∷ [])) (replay_tape way hs same root), length-settled 0 v, replay-size)

  ending-count : (s : Bool) → flush_count (ending s root) ≡ 1
  unfolding how_many ending
  ending-count true = refl
  ending-count false = refl

  pub replay-count : flush_count (replay_tape way hs same root) ≡ k + 1
  replay-count =
      ap flush_count (sym replay-is) ∙ flush_count-append (line_tape way true hs) (ending same root) ∙ omega (arith, tape-flushes way true hs k lines count, ending-count same)

  pub log-count : (m : List ℕ) → flush_count (log_tape way hs ++ (store 0 m ∷ after-mark)) ≡ 2 * k + 2
  unfolding how_many mark_flush
  log-count m =
      ap (λ (cs : List Op). flush_count (cs ++ (store 0 m ∷ after-mark))) (sym (tape-log way hs))
      ∙ flush_count-append (line_tape way false hs) (store 0 m ∷ after-mark)
      ∙ omega (arith, tape-flushes way false hs k lines count, replay-count)
