-- The bytes of commands on a tape: of a word store, a line store, a flush and a barrier, one command more at a place, and one list after another.
-- Assumes nothing.
use Prim.Native.Nat.{ℕ, ◌+◌, ◌-◌, ◌*◌, ◌/◌, ◌≤◌}
use mathlib.Core.Path.{◌≡◌, refl, sym, ap, ◌∙◌}
use mathlib.Core.Bool.{Bool, true, false}
use mathlib.Core.List.{List, [], ◌∷◌, ◌++◌}
use native.Mathlib.Omega.{arith}
use lib.ListN.{length, length-append}
use lib.Seq.{sets}
use lib.Dec.{eqb}
use borrow.Author.Tests.{eq-eqb, ne_eqb, eqb-true}
use Rattle.codec.specs.Lists.{pick, splice}
use Rattle.codec.proofs.Lists.{splice-sets, sets-append}
use Rattle.device.specs.Tape.{Op, extent, flush_count, word_bytes, line_bytes, flush_bytes, barrier_bytes, command_bytes, tape_bytes, store, flush, barrier}
use Rattle.device.specs.Cut.{with_barrier}
use Rattle.device.proofs.Encode.{length-command_bytes, tape_bytes-append}
use Rattle.device.proofs.Cuts.{flush_count-append}
use Rattle.device.proofs.Writing.{group-flushes}
use Rattle.tape_write.specs.Lines.{closing}
use Rattle.tape_write.specs.Sizes.{group_bytes}

-- ---- one command

pub word-bytes : (k : ℕ) (vs : List ℕ) → length vs ≡ 8 → command_bytes (store (8 * k) vs) ≡ word_bytes k vs
unfolding command_bytes
word-bytes k vs e = let q : 8 * k / 8 ≡ k = omega arith in rw (eq-eqb (length vs) 8 e, q)

pub line-bytes : (l : ℕ) (vs : List ℕ) → length vs ≡ 64 → command_bytes (store (64 * l) vs) ≡ line_bytes l vs
unfolding command_bytes
line-bytes l vs e = let q : 64 * l / 64 ≡ l = omega arith in rw (ne_eqb (length vs) 8 (λ k. omega arith), q)

pub flush-bytes : (l : ℕ) → command_bytes (flush l) ≡ flush_bytes l
unfolding command_bytes
flush-bytes l = refl

pub barrier-bytes : command_bytes barrier ≡ barrier_bytes
unfolding command_bytes
barrier-bytes = refl

-- ---- commands at a place of the tape

-- a command written at its place, and the rest stored after it: all stored from that place on
pub command-next : (t t' : List ℕ) (at next : ℕ) (o : Op) (cs : List Op) → t' ≡ splice t at (command_bytes o) → next ≡ at + extent o → next ≤ length t →
    sets t' next (tape_bytes cs) ≡ sets t at (tape_bytes (o ∷ cs))
unfolding tape_bytes
command-next t t' at next o cs e n fits =
    let size = length-command_bytes o in
    ap (λ (x : List ℕ). sets x next (tape_bytes cs)) (e ∙ splice-sets t at (command_bytes o) (omega arith))
    ∙ ap (λ (m : ℕ). sets (sets t at (command_bytes o)) m (tape_bytes cs)) (n ∙ ap (λ (m : ℕ). at + m) (sym size))
    ∙ sets-append t at (command_bytes o) (tape_bytes cs)

module _ (t t' : List ℕ) (at next : ℕ) (cs : List Op) where
  pub word_next : (k : ℕ) (vs : List ℕ) → t' ≡ splice t at (word_bytes k vs) → length vs ≡ 8 → next ≡ at + 12 → next ≤ length t →
      sets t' next (tape_bytes cs) ≡ sets t at (tape_bytes (store (8 * k) vs ∷ cs))
  word_next k vs e long n fits = command-next t t' at next (store (8 * k) vs) cs (e ∙ ap (splice t at) (sym (word-bytes k vs long))) (omega arith) fits

  pub line-next : (l : ℕ) (vs : List ℕ) → t' ≡ splice t at (line_bytes l vs) → length vs ≡ 64 → next ≡ at + 68 → next ≤ length t →
      sets t' next (tape_bytes cs) ≡ sets t at (tape_bytes (store (64 * l) vs ∷ cs))
  line-next l vs e long n fits = command-next t t' at next (store (64 * l) vs) cs (e ∙ ap (splice t at) (sym (line-bytes l vs long))) (omega arith) fits

  pub flush-next : (l : ℕ) → t' ≡ splice t at (flush_bytes l) → next ≡ at + 4 → next ≤ length t →
      sets t' next (tape_bytes cs) ≡ sets t at (tape_bytes (flush l ∷ cs))
  flush-next l e n fits = command-next t t' at next (flush l) cs (e ∙ ap (splice t at) (sym (flush-bytes l))) n fits

-- one list of commands stored after another
pub tape-append : (t t' : List ℕ) (at next : ℕ) (xs ys : List Op) → t' ≡ sets t at (tape_bytes xs) → next ≡ at + length (tape_bytes xs) →
    sets t' next (tape_bytes ys) ≡ sets t at (tape_bytes (xs ++ ys))
tape-append t t' at next xs ys e n =
    ap (λ (x : List ℕ). sets x next (tape_bytes ys)) e
    ∙ ap (λ (m : ℕ). sets (sets t at (tape_bytes xs)) m (tape_bytes ys)) n
    ∙ sets-append t at (tape_bytes xs) (tape_bytes ys)
    ∙ ap (sets t at) (sym (tape_bytes-append xs ys))

-- nothing is left to write
pub tape-none : (t : List ℕ) (at : ℕ) → sets t at (tape_bytes []) ≡ t
unfolding tape_bytes
tape-none t at = refl

-- ---- sizes

pub length_none : length (tape_bytes []) ≡ 0
unfolding tape_bytes
length_none = refl

pub length-next : (o : Op) (cs : List Op) → length (tape_bytes (o ∷ cs)) ≡ extent o + length (tape_bytes cs)
unfolding tape_bytes
length-next o cs = length-append (command_bytes o) (tape_bytes cs) ∙ ap (λ (n : ℕ). n + length (tape_bytes cs)) (length-command_bytes o)

pub length-tapes : (xs ys : List Op) → length (tape_bytes (xs ++ ys)) ≡ length (tape_bytes xs) + length (tape_bytes ys)
length-tapes xs ys = ap length (tape_bytes-append xs ys) ∙ length-append (tape_bytes xs) (tape_bytes ys)

-- where a loop over n things starts
pub start-at : (at size n : ℕ) → (at + size * 0 ≡ at) × (n - 0 ≡ n)
start-at at size n = (omega arith, omega arith)

-- ---- the last command, and the commands of several writers

module _ (t t' : List ℕ) (at : ℕ) where
  pub word-last : (k : ℕ) (vs : List ℕ) → t' ≡ splice t at (word_bytes k vs) → length vs ≡ 8 → at + 12 ≤ length t → t' ≡ sets t at (tape_bytes (store (8 * k) vs ∷ []))
  word-last k vs e long fits = sym (tape-none t' (at + 12)) ∙ word_next t t' at (at + 12) [] k vs e long refl fits

  pub barrier-last : t' ≡ splice t at barrier_bytes → at + 4 ≤ length t → t' ≡ sets t at (tape_bytes (barrier ∷ []))
  barrier-last e fits = sym (tape-none t' (at + 4)) ∙ command-next t t' at (at + 4) barrier [] (e ∙ ap (splice t at) (sym barrier-bytes)) refl fits

-- xs is written, and then ys behind it
pub tape-then : (t t₁ t₂ : List ℕ) (at next : ℕ) (xs ys : List Op) → t₁ ≡ sets t at (tape_bytes xs) → next ≡ at + length (tape_bytes xs) → t₂ ≡ sets t₁ next (tape_bytes ys) →
    t₂ ≡ sets t at (tape_bytes (xs ++ ys))
tape-then t t₁ t₂ at next xs ys e n f = f ∙ tape-append t t₁ at next xs ys e n

-- ---- flushes and their barrier

pub closing-none : (n : ℕ) → n ≡ 0 → closing n ≡ []
unfolding closing
closing-none n e = rw (eq-eqb n 0 e)

pub closing-some : (n : ℕ) → (n ≡ 0 → ⊥) → closing n ≡ barrier ∷ []
unfolding closing
closing-some n some = rw (ne_eqb n 0 some)

pub closing-size : (n : ℕ) → 4 * n + length (tape_bytes (closing n)) ≡ group_bytes n
unfolding closing group_bytes
closing-size n = go (eqb n 0) refl
  where
    go : (b : Bool) → eqb n 0 ≡ b → 4 * n + length (tape_bytes (pick b [] (barrier ∷ []))) ≡ pick b 0 (4 * n + 4)
    go true e = omega (arith, eqb-true n 0 e, length_none)
    go false e = omega (arith, length-next barrier [], length_none)

group-is : (ys : List Op) (n : ℕ) → length ys ≡ n → with_barrier ys ≡ ys ++ closing n
unfolding closing
group-is [] n e = rw (eq-eqb n 0 (sym e))
group-is (o ∷ ys) n e = rw (ne_eqb n 0 (λ q. omega arith))

-- stores, their n flushes and the barrier: the bytes, the flushes, and the three writers one behind the other
module _ (S F : List Op) (n : ℕ) (count : length F ≡ n) (size : length (tape_bytes F) ≡ 4 * n) where
  pub group-size : length (tape_bytes (S ++ with_barrier F)) ≡ length (tape_bytes S) + group_bytes n
  group-size =
      length-tapes S (with_barrier F) ∙ omega (arith, ap (λ (cs : List Op). length (tape_bytes cs)) (group-is F n count), length-tapes F (closing n), size, closing-size n)

  pub group-count : flush_count (S ++ with_barrier F) ≡ flush_count S + flush_count F
  group-count = flush_count-append S (with_barrier F) ∙ ap (λ (k : ℕ). flush_count S + k) (group-flushes F)

  pub group-chain : (t t₁ t₂ t₃ : List ℕ) (at flushes : ℕ) → flushes ≡ at + length (tape_bytes S) → t₁ ≡ sets t at (tape_bytes S) → t₂ ≡ sets t₁ flushes (tape_bytes F) →
      t₃ ≡ sets t₂ (flushes + 4 * n) (tape_bytes (closing n)) → t₃ ≡ sets t at (tape_bytes (S ++ with_barrier F))
  group-chain t t₁ t₂ t₃ at flushes m e f g =
      tape-then t t₁ t₃ at flushes S (F ++ closing n) e m (tape-then t₁ t₂ t₃ flushes (flushes + 4 * n) F (closing n) f (omega (arith, size)) g)
      ∙ ap (λ (cs : List Op). sets t at (tape_bytes (S ++ cs))) (sym (group-is F n count))

pub group-few : (n : ℕ) → group_bytes n ≤ 4 * n + 4
unfolding group_bytes
group-few n = go (eqb n 0)
  where
    go : (b : Bool) → pick b 0 (4 * n + 4) ≤ 4 * n + 4
    go true = omega arith
    go false = omega arith
