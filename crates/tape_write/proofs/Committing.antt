-- The commit as a whole: the size of the transaction's tape by what differs, its parts one after the other, and each way out of the call.
-- Assumes nothing.
use Rattle.std.specs.Prelude.{Err, Ok, Result}
use Prim.Native.Nat.{ℕ, ◌+◌, ◌*◌, ◌≤◌, ◌<◌}
use mathlib.Core.Path.{◌≡◌, refl, sym, ap, ap₂, ◌∙◌, subst}
use mathlib.Core.List.{List, []}
use native.Mathlib.Omega.{arith}
use lib.ListN.{length}
use lib.Seq.{sets}
use borrow.Author.Tests.{le-leb, lt-leb}
use Rattle.device.specs.declared.Cause.TheVariants.{LogFull, TapeShort}
use Rattle.journal.specs.declared.Commit.{Commit}
use Rattle.device.specs.declared.Cause.{Cause}
use Rattle.codec.specs.Lists.{splice, All}
use Rattle.codec.proofs.Tests.{All-map}
use Rattle.codec.proofs.Lists.{splice-sets}
use Rattle.device.specs.Tape.{Op, flush_count, tape_bytes}
use Rattle.device.proofs.Cuts.{flush_count-append}
use Rattle.image.specs.PageZero.{page_count}
use Rattle.image.proofs.Zero.{is_page-true}
use Rattle.journal.specs.Changes.{page_words, changed_pages, same_root}
use Rattle.journal.specs.Tape.{choose, room_in_log, taken_for, commit_of}
use Rattle.journal.proofs.Changed.{InBoth, changed-both}
use Rattle.journal.specs.declared.Way.{Way}
use Rattle.journal.specs.declared.CommitPlace.{CommitPlace}
use Rattle.tape_write.specs.Words.{stage_words, WordIn, lines_past, stage_tape}
use Rattle.tape_write.specs.Lines.{PageIn}
use Rattle.tape_write.specs.Sizes.{group_bytes, end_bytes, end_flushes}
use Rattle.tape_write.specs.Calls.{Images, Counted, commit_call}
use Rattle.tape_write.proofs.Encoding.{length-tapes, tape-then}
use Rattle.tape_write.proofs.StageTape.{lines-few, words-in, words-few, stage-tape, stage-size, stage-flushes}
use Rattle.tape_write.proofs.Choosing.{Behind, choose-behind, end-sized, Leaves}
use Rattle.tape_write.specs.declared.Changes.{Changes}

-- ---- the transaction's tape by what differs

module _ (way : Way) (a w : List ℕ) (is : Images a w) where
  abbrev ks : List ℕ
  ks = stage_words a w

  abbrev ps : List ℕ
  ps = changed_pages a w

  pub words-there : All (WordIn w) ks
  words-there = All-map (λ (k : ℕ). WordIn w k × (page_words ≤ k)) (WordIn w) (λ k h. h.0) ks (words-in a w is)

  pub pages-there : All (PageIn w) ps
  pages-there =
      All-map (InBoth a w) (PageIn w) (λ p h. let q = is_page-true (page_count a) p h.page in (q.0, omega (arith, q.1, is.same)))
      ps (changed-both a w (omega (arith, is.low)))

  behind : Behind (stage_tape w ks) (taken_for way a w) (choose way [] w (same_root a w) ps)
  unfolding taken_for
  behind = subst (λ (A : List Op). Behind (stage_tape w ks) (choose way A w (same_root a w) ps) (choose way [] w (same_root a w) ps)) (sym (stage-tape a w is)) (choose-behind (stage_tape w ks) w way (same_root a w) ps)

  module _ (few : length ps ≤ 15) where
    pub taken-size : length (tape_bytes (taken_for way a w).tape) ≡ 12 * length ks + group_bytes (length (lines_past 0 ks)) + end_bytes way (length ps) (same_root a w)
    taken-size =
        ap (λ (cs : List Op). length (tape_bytes cs)) behind.tape
        ∙ length-tapes (stage_tape w ks) (choose way [] w (same_root a w) ps).tape
        ∙ omega (arith, stage-size w ks words-there, (end-sized way w (same_root a w) ps pages-there (omega arith)).0)

    taken-flushes : flush_count (taken_for way a w).tape ≡ length (lines_past 0 ks) + end_flushes way (length ps) (same_root a w)
    taken-flushes =
        ap flush_count behind.tape
        ∙ flush_count-append (stage_tape w ks) (choose way [] w (same_root a w) ps).tape
        ∙ omega (arith, stage-flushes w ks, (end-sized way w (same_root a w) ps pages-there (omega arith)).1)

-- ---- by the code's counts

module _ (way : Way) (a w : List ℕ) (is : Images a w) (r : Changes) (c : Counted a w r) where
  pub counts-few : (r.words ≤ 8192) × (r.lines ≤ 8192)
  counts-few =
      let few = words-few a w is in
      (omega (arith, c.words), omega (arith, c.lines, lines-few 0 (stage_words a w)))

  module _ (few : r.headers ≤ 15) where
    pub pages-few : length (changed_pages a w) ≤ 15
    pages-few = omega (arith, c.headers)

    pub bytes-are : (m n : ℕ) → m ≡ group_bytes r.lines → n ≡ end_bytes way r.headers r.same → 12 * r.words + m + n ≡ length (tape_bytes (taken_for way a w).tape)
    bytes-are m n f e =
        let s : n ≡ end_bytes way (length (changed_pages a w)) (same_root a w) = e ∙ ap₂ (end_bytes way) c.headers c.root in
        omega (arith, c.words, ap group_bytes c.lines, taken-size way a w is pages-few)

-- ---- the ways out of the call

module _ (way : Way) (a w tape : List ℕ) where
  -- the answer and the buffers that the call leaves
  abbrev pub Says : Result Commit Cause → List ℕ → List ℕ → Type 0
  Says r work t = (r ≡ (commit_call way a w tape).answer) × ((work ≡ (commit_call way a w tape).work) × (t ≡ (commit_call way a w tape).tape))

  pub says-full : 15 < length (changed_pages a w) → Says (Err LogFull) w tape
  unfolding commit_call room_in_log
  says-full h = rw (lt-leb (length (changed_pages a w)) 15 h) (refl, (refl, refl))

  module _ (is : Images a w) (few : length (changed_pages a w) ≤ 15) (bytes : ℕ) (sized : bytes ≡ length (tape_bytes (taken_for way a w).tape)) where
    pub says-short : length tape < bytes → Says (Err TapeShort) w tape
    unfolding commit_call room_in_log
    says-short h = rw (le-leb (length (changed_pages a w)) 15 few, lt-leb (length (tape_bytes (taken_for way a w).tape)) (length tape) (omega arith)) (refl, (refl, refl))

    -- stage A is written, and then the end behind it
    pub says-done : bytes ≤ length tape → (lines flushes stage : ℕ) (place : CommitPlace) (t work t' : List ℕ) →
        t ≡ sets tape 0 (tape_bytes (stage_tape w (stage_words a w))) → stage ≡ 12 * length (stage_words a w) + group_bytes (length (lines_past 0 (stage_words a w))) →
        Leaves (choose way [] w (same_root a w) (changed_pages a w)) t stage place work t' →
        lines ≡ length (lines_past 0 (stage_words a w)) → flushes ≡ end_flushes way (length (changed_pages a w)) (same_root a w) →
        Says (Ok (record { place = place; bytes = bytes; flushes = lines + flushes })) work t'
    unfolding commit_call room_in_log commit_of
    says-done room lines flushes stage place t work t' e s left n m =
        let x = taken_for way a w in
        let b = behind way a w is in
        let u = choose way [] w (same_root a w) (changed_pages a w) in
        let size = stage-size w (stage_words a w) (words-there way a w is) in
        let p : place ≡ x.place = left.0 ∙ sym b.place in
        let f : lines + flushes ≡ flush_count x.tape = omega (arith, taken-flushes way a w is few) in
        let whole : t' ≡ splice tape 0 (tape_bytes x.tape) =
        tape-then tape t t' 0 stage (stage_tape w (stage_words a w)) u.tape e (omega arith) left.1.1
        ∙ ap (λ (cs : List Op). sets tape 0 (tape_bytes cs)) (sym b.tape)
        ∙ sym (splice-sets tape 0 (tape_bytes x.tape) (omega arith)) in
        rw (le-leb (length (changed_pages a w)) 15 few, le-leb (length (tape_bytes x.tape)) (length tape) (omega arith))
        (cc, (left.1.0 ∙ sym b.work, whole))
