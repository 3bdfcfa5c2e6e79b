-- The longest tapes: stage A's and what follows it, and a recovery's; so 13 does not come where so many bytes are lent.
-- Assumes nothing.
use Rattle.std.specs.Prelude.{Err, Ok}
use Prim.Native.Nat.{ℕ, ◌+◌, ◌-◌, ◌*◌, ◌≤◌, ◌<◌}
use mathlib.Core.Path.{◌≡◌, refl, ap}
use mathlib.Core.Bool.{Bool, true, false, ◌&&◌}
use mathlib.Core.List.{List}
use native.Mathlib.Omega.{arith}
use lib.ListN.{length}
use lib.Dec.{eqb, leb}
use borrow.Author.Tests.{leb-false}
use Rattle.codec.specs.Lists.{pick}
use Rattle.device.specs.Tape.{tape_bytes, flush_count}
use Rattle.device.specs.Calls.{is_image_size, number_in, refusal_at}
use Rattle.device.proofs.Causes.{number-same}
use Rattle.image.specs.PageZero.{page_count, page_zero}
use Rattle.image.specs.Image.{sound}
use Rattle.image.specs.declared.PageZero.{PageZero}
use Rattle.image.specs.declared.PageZero.TheVariants.{Wrong, Waiting, Ready}
use Rattle.image.proofs.Zero.{is_page-true, waiting-facts}
use Rattle.image.proofs.Answers.{check_sound}
use Rattle.edit.proofs.General.{by-test}
use Rattle.edit.proofs.Parsing.{list-proper}
use Rattle.journal.specs.Changes.{changed_pages, same_root}
use Rattle.journal.specs.Tape.{commit_of, taken_for}
use Rattle.journal.specs.Recovery.{logged, recovery_tape, replay_from, replayable, root_is}
use Rattle.journal.specs.Edited.{Edited}
use Rattle.journal.specs.declared.Way.{Way}
use Rattle.journal.specs.declared.Way.TheVariants.{ByLine, ByWords}
use Rattle.journal.specs.declared.Commit.{Commit}
use Rattle.tree.specs.Whole.{edited_image}
use Rattle.tree.proofs.Accepted.{edits-accepted}
use Rattle.tree.proofs.Numbers.{edits-numbered}
use Rattle.tape_write.specs.Sizes.{lines_bytes, group_bytes, replay_bytes, log_bytes, commits_alone, end_bytes}
use Rattle.tape_write.specs.Words.{stage_words, lines_past}
use Rattle.tape_write.specs.Calls.{reached_in}
use Rattle.tape_write.proofs.Encoding.{group-few}
use Rattle.tape_write.proofs.LineBytes.{lines-most}
use Rattle.tape_write.proofs.LogLines.{logged-lines, logged-length}
use Rattle.tape_write.proofs.Endings.{replay-size}
use Rattle.tape_write.proofs.StageWords.{stage-start}
use Rattle.tape_write.proofs.Committing.{taken-size}
use Rattle.transaction.proofs.Joining.{images}
use Rattle.transaction.proofs.Demand2.{acceptance, was-sound, target, target-edited, answer-is}
use Rattle.transaction.proofs.NeverTen.{past-list}
use Rattle.recovery.specs.Calls.{recover_call}
use Rattle.recovery.specs.Calls as recoveries
use Rattle.journal.specs.declared.Redone.{Redone}
use Rattle.costs.specs.Tapes.{tape_most, TapeUsed, TapeSuffices, redo_most, RedoUsed, RedoSuffices}
use Rattle.costs.proofs.Lines.{stage-most}

-- ---- a transaction's

-- past stage A: 1,596 bytes, and 100 for each changed header; stage A's barrier takes 4
end-most : (way : Way) (k : ℕ) (same : Bool) → k ≤ 15 → end_bytes way k same ≤ 1596 + 100 * k
unfolding end_bytes log_bytes replay_bytes
end-most way k same few = go (eqb k 0) (commits_alone way k same) same
  where
    go : (s t u : Bool) → pick s 20 (pick t 76 (lines_bytes way k + group_bytes k + 20 + (lines_bytes way k + group_bytes k + 20 + pick u 0 12))) ≤ 1596 + 100 * k
    go true t u = omega arith
    go false true u = omega arith
    go false false true = omega (arith, lines-most way k, group-few k)
    go false false false = omega (arith, lines-most way k, group-few k)

tape-most : (way : Way) (a w : List ℕ) → sound a ≡ true → Edited a w → length (changed_pages a w) ≤ 15 → length (tape_bytes (taken_for way a w).tape) ≤ tape_most a
unfolding changed_pages
tape-most way a w s d few =
    let is = images a s w d.same_length in
    let words = stage-start a w is in
    omega (
      arith,
      is.low,
      taken-size way a w is few,
      group-few (length (lines_past 0 (stage_words a w))),
      ap length words,
      ap (λ (ks : List ℕ). length (lines_past 0 ks)) words,
      stage-most (reached_in a) (reached_in w) a w (page_count a - 1) 1 (omega arith) 0,
      end-most way (length (changed_pages a w)) (same_root a w) few,
    )

pub tape-used : TapeUsed
unfolding commit_of
tape-used way a work tape bytes c e =
    let w = target way a work tape bytes c e in
    let used : c.bytes ≡ length (tape_bytes (taken_for way a w).tape) = ap (λ (x : Commit). x.bytes) (answer-is way a work tape bytes c e) in
    omega (arith, used, tape-most way a w (was-sound way a work tape bytes c e) (target-edited way a work tape bytes c e) (acceptance way a work tape bytes c e).few)

pub tape-suffices : TapeSuffices
tape-suffices way a work tape bytes long r e thirteen =
    past-list way a work tape bytes r e (λ (n : ℕ). n ≡ 13 → ⊥)
    (λ B es reads k i stops z. omega (arith, (edits-numbered a es k i stops).1))
    (λ z. omega arith)
    (λ B es st D few short z.
    let s = check_sound a B.checked in
    omega (arith, short, tape-most way a (edited_image a st) s (edits-accepted a s es (list-proper bytes es D.reads) st D.makes) few))
    (omega (arith, thirteen)) (omega (arith, thirteen)) thirteen

-- ---- a recovery's

replay-most : (way : Way) (k : ℕ) (same : Bool) → k ≤ 15 → replay_bytes way k same ≤ redo_most way
unfolding replay_bytes lines_bytes
replay-most ByLine k true h = omega (arith, group-few k)
replay-most ByLine k false h = omega (arith, group-few k)
replay-most ByWords k true h = omega (arith, group-few k)
replay-most ByWords k false h = omega (arith, group-few k)

redo-most : (way : Way) (a : List ℕ) (z : PageZero) → page_zero a ≡ z → length (tape_bytes (recovery_tape way a z)) ≤ redo_most way
unfolding recovery_tape tape_bytes
redo-most way a Wrong e = omega arith
redo-most way a (Ready root) e = omega arith
redo-most way a (Waiting k root) e =
    let m = waiting-facts a k root e in
    let log : 64 * k + 64 ≤ length a = omega (arith, m.few, is_page-true (page_count a) root m.page) in
    omega (arith, replay-size way (logged k a) k (logged-lines k a log) (logged-length k a) (root_is a root) root, replay-most way k (root_is a root) m.few)

module _ (way : Way) (a work tape : List ℕ) where
  -- what holds of the refusals but 13, of 13 where the tape is too short, and of the acceptance, holds of the call
  recover-all : (P : recoveries.Called → Type 0) → ((n : ℕ) → 1 ≤ n → n ≤ 4 → P (recoveries.refused_with n work tape)) →
      (length tape < length (tape_bytes (recovery_tape way a (page_zero a))) → P (recoveries.refused_with 13 a tape)) →
      P (recoveries.accepted_with (recovery_tape way a (page_zero a)) (replay_from a (page_zero a)) tape) → P (recover_call way a work tape)
  unfolding recover_call
  recover-all P other short fits =
      let used = length (tape_bytes (recovery_tape way a (page_zero a))) in
      by-test P (is_image_size (length a))
      (λ _. by-test P (eqb (length work) (length a))
      (λ _. by-test P (replayable a (page_zero a) && sound (replay_from a (page_zero a)))
      (λ _. by-test P (leb used (length tape)) (λ _. fits) (λ e. short (leb-false used (length tape) e)))
      (λ _. other 4 (omega arith) (omega arith))) (λ _. other 2 (omega arith) (omega arith))) (λ _. other 1 (omega arith) (omega arith))

pub redo-used : RedoUsed
unfolding recoveries.refused_with recoveries.accepted_with
redo-used way a work tape c =
    recover-all way a work tape (λ (x : recoveries.Called). x.answer ≡ Ok c → c.bytes ≤ redo_most way) (λ n l h e. let z : ◌≡◌ {A = ℕ} 0 1 = cc in absurd (omega arith))
    (λ h e. let z : ◌≡◌ {A = ℕ} 0 1 = cc in absurd (omega arith))
    (λ e. let cs = recovery_tape way a (page_zero a) in
    let z : record { bytes = length (tape_bytes cs); flushes = flush_count cs } ≡ c = cc in
    omega (arith, ap (λ (x : Redone). x.bytes) z, redo-most way a (page_zero a) refl))

pub redo-suffices : RedoSuffices
unfolding recoveries.refused_with recoveries.accepted_with
redo-suffices way a work tape long r =
    recover-all way a work tape (λ (x : recoveries.Called). x.answer ≡ Err r → number_in r ≡ 13 → ⊥)
    (λ n l h e thirteen. let z : (refusal_at n 0) ≡ r = cc in omega (arith, (number-same n 0 r l (omega arith) z).0))
    (λ short e thirteen. omega (arith, redo-most way a (page_zero a) refl))
    (λ e thirteen. let z : ◌≡◌ {A = ℕ} 0 1 = cc in omega arith)
