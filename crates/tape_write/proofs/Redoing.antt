-- Recovery of a waiting mark: the logged pages judged by marks, the replayed image, and each way out of the call.
-- Assumes nothing.
use Rattle.std.specs.Prelude.{Err, Ok, Result}
use Prim.Native.Nat.{ℕ, ◌+◌, ◌*◌, ◌^◌, ◌≤◌, ◌<◌}
use mathlib.Core.Path.{◌≡◌, refl, sym, ap, ap₂, ◌∙◌, subst}
use mathlib.Core.Bool.{Bool, true, ◌&&◌, and_comm}
use mathlib.Core.List.{List, [], ◌∷◌, map, append-nil}
use native.Mathlib.Omega.{arith}
use lib.ListN.{length, set, replicate}
use lib.Seq.{sets}
use lib.Dec.{eqb}
use borrow.Author.Tests.{le-leb, lt-leb, eq-eqb, eqb-true}
use Rattle.device.specs.declared.Cause.TheVariants.{TapeShort}
use Rattle.journal.specs.declared.Redone.{Redone}
use Rattle.device.specs.declared.Cause.{Cause}
use Rattle.codec.specs.Lists.{part, splice, eqs, all_b}
use Rattle.codec.specs.Numbers.{number, bytes_of}
use Rattle.codec.proofs.Tests.{eqs-true, eqs-same}
use Rattle.codec.proofs.Lists.{splice-sets}
use Rattle.codec.proofs.Numbers.{number-bytes_of}
use Rattle.device.specs.Tape.{Op, flush_count, tape_bytes}
use Rattle.page.proofs.CheckBytes.{same_test, Bytes, bytes-part}
use Rattle.image.specs.PageZero.{is_page, no_mark}
use Rattle.image.specs.Image.{distinct}
use Rattle.image.proofs.General.{part-part}
use Rattle.image.specs.Marks.{claims}
use Rattle.image.proofs.CodeMarks.{named-claims, zero-named}
use Rattle.image.specs.declared.PageZero.TheVariants.{Waiting}
use Rattle.journal.specs.Log.{own_page, replay_tape}
use Rattle.journal.specs.Recovery.{logged, with_headers, replayed, replay_from, recovery_tape}
use Rattle.journal.specs.declared.Way.{Way}
use Rattle.journal.proofs.Headers.{Inside}
use Rattle.tape_write.specs.Sizes.{replay_bytes}
use Rattle.tape_write.specs.Calls.{redo_call}
use Rattle.tape_write.proofs.LogLines.{lines_passed, lines_next, lines_none, logged-lines, logged-length}
use Rattle.tape_write.proofs.Endings.{replay-size, replay-count}

-- ---- the logged pages, judged by marks

-- page 0 is marked at first
abbrev pub first_marks : List ℕ
first_marks = set (replicate 64 0) 0 1

pub claims-pages : (n : ℕ) → n ≤ 64 → (ps : List ℕ) → claims n first_marks ps ≡ (distinct ps && all_b (is_page n) ps)
claims-pages n few ps =
    named-claims n few [] first_marks zero-named ps
    ∙ ap (λ (l : List ℕ). all_b (is_page n) ps && distinct l) (append-nil ps)
    ∙ and_comm (all_b (is_page n) ps) (distinct ps)

-- the page of the i-th logged header
own_at : (src : List ℕ) (i : ℕ) → number (part src (64 * i + 70) 2) ≡ own_page (part src (64 * (i + 1)) 64)
unfolding own_page
own_at src i =
    let e : 64 * i + 70 ≡ 64 * (i + 1) + 6 = omega arith in
    ap number (ap (λ (o : ℕ). part src o 2) e ∙ sym (part-part src (64 * (i + 1)) 64 6 2 (omega arith)))

module _ (src : List ℕ) (k i : ℕ) where
  pub owns-next : (page : ℕ) → i < k → page ≡ number (part src (64 * i + 70) 2) → map own_page (lines_passed src k i i) ≡ page ∷ map own_page (lines_passed src k i (i + 1))
  owns-next page more e = ap (map own_page) (lines_next src k i more) ∙ ap (λ (p : ℕ). p ∷ map own_page (lines_passed src k i (i + 1))) (sym (e ∙ own_at src i))

  pub owns-end : k ≤ i → map own_page (lines_passed src k i i) ≡ []
  owns-end h = ap (map own_page) (lines_none src k i h)

  -- ---- the headers written to their pages, one more

  pub with-next : (v v' : List ℕ) (page : ℕ) → i < k → page ≡ number (part src (64 * i + 70) 2) → v' ≡ splice v (1024 * page) (part src (64 * i + 64) 64) →
      with_headers (lines_passed src k i (i + 1)) v' ≡ with_headers (lines_passed src k i i) v
  unfolding with_headers
  with-next v v' page more e h =
      let f : 64 * i + 64 ≡ 64 * (i + 1) = omega arith in
      ap (with_headers (lines_passed src k i (i + 1)))
      (h ∙ ap₂ (λ (p o : ℕ). splice v (1024 * p) (part src o 64)) (e ∙ own_at src i) f)
      ∙ sym (ap (λ (hs : List (List ℕ)). with_headers hs v) (lines_next src k i more))

  pub with-end : (v : List ℕ) → k ≤ i → with_headers (lines_passed src k i i) v ≡ v
  unfolding with_headers
  with-end v h = ap (λ (hs : List (List ℕ)). with_headers hs v) (lines_none src k i h)

  -- the page of the next header, and the headers after it, lie in the image
  pub inside-next : (n page : ℕ) → i < k → page ≡ number (part src (64 * i + 70) 2) → Inside n (lines_passed src k i i) → (is_page n page ≡ true) × Inside n (lines_passed src k i (i + 1))
  inside-next n page more e h =
      let q = subst (Inside n) (lines_next src k i more) h in
      (ap (is_page n) (e ∙ own_at src i) ∙ q.0, q.1)

-- ---- the replayed image

pub replay-whole : (a w₁ w₂ w₃ w₄ : List ℕ) (hs : List (List ℕ)) (root : ℕ) → w₁ ≡ a → w₂ ≡ with_headers hs w₁ → w₃ ≡ splice w₂ 8 (bytes_of 8 root) → w₄ ≡ splice w₃ 0 (bytes_of 8 0) →
    w₄ ≡ replayed hs root a
unfolding replayed no_mark bytes_of
replay-whole a w₁ w₂ w₃ w₄ hs root e f g h = h ∙ ap (λ (x : List ℕ). splice x 0 (bytes_of 8 0)) (g ∙ ap (λ (x : List ℕ). splice x 8 (bytes_of 8 root)) (f ∙ ap (with_headers hs) e))

-- ---- the root word compared by its number

pub root-same : (a : List ℕ) → Bytes a → 16 ≤ length a → (v root : ℕ) → v ≡ number (part a 8 8) → root < 256 ^ 8 → eqb v root ≡ eqs (part a 8 8) (bytes_of 8 root)
root-same a bytes long v root e small = same_test (eqb v root) (eqs (part a 8 8) (bytes_of 8 root)) forth back
  where
    forth : eqb v root ≡ true → eqs (part a 8 8) (bytes_of 8 root) ≡ true
    forth h =
        let same : part a 8 8 ≡ bytes_of 8 root = sym (bytes-part a bytes 8 8 (omega arith)) ∙ ap (bytes_of 8) (sym e ∙ eqb-true v root h) in
        rw same (eqs-same (bytes_of 8 root))

    back : eqs (part a 8 8) (bytes_of 8 root) ≡ true → eqb v root ≡ true
    back h = eq-eqb v root (e ∙ ap number (eqs-true (part a 8 8) (bytes_of 8 root) h) ∙ number-bytes_of 8 root small)

-- ---- the ways out of the call

module _ (way : Way) (a tape : List ℕ) (k root : ℕ) (same : Bool) (log : 64 * k + 64 ≤ length a) (is : same ≡ eqs (part a 8 8) (bytes_of 8 root)) where
  abbrev pub Redoes : Result Redone Cause → List ℕ → List ℕ → Type 0
  Redoes r work t = (r ≡ (redo_call way a k root tape).answer) × ((work ≡ (redo_call way a k root tape).work) × (t ≡ (redo_call way a k root tape).tape))

  tape-is : recovery_tape way a (Waiting k root) ≡ replay_tape way (logged k a) same root
  unfolding recovery_tape
  tape-is = ap (λ (t : Bool). replay_tape way (logged k a) t root) (sym is)

  size_is : length (tape_bytes (recovery_tape way a (Waiting k root))) ≡ replay_bytes way k same
  size_is = ap (λ (cs : List Op). length (tape_bytes cs)) tape-is ∙ replay-size way (logged k a) k (logged-lines k a log) (logged-length k a) same root

  flushes-are : flush_count (recovery_tape way a (Waiting k root)) ≡ k + 1
  flushes-are = ap flush_count tape-is ∙ replay-count way (logged k a) k (logged-lines k a log) (logged-length k a) same root

  pub redo-short : length tape < replay_bytes way k same → Redoes (Err TapeShort) a tape
  unfolding redo_call
  redo-short h = rw (lt-leb (length (tape_bytes (recovery_tape way a (Waiting k root)))) (length tape) (omega (arith, size_is))) (refl, (refl, refl))

  pub redo-done : replay_bytes way k same ≤ length tape → (bytes : ℕ) (work t : List ℕ) → bytes ≡ replay_bytes way k same → work ≡ replayed (logged k a) root a →
      t ≡ sets tape 0 (tape_bytes (replay_tape way (logged k a) same root)) → Redoes (Ok (record { bytes = bytes; flushes = (k + 1) })) work t
  unfolding redo_call replay_from
  redo-done room bytes work t b e h =
      let cs = recovery_tape way a (Waiting k root) in
      let n : bytes ≡ length (tape_bytes cs) = b ∙ sym size_is in
      let f = flushes-are in
      let whole : t ≡ splice tape 0 (tape_bytes cs) = h ∙ ap (λ (x : List Op). sets tape 0 (tape_bytes x)) (sym tape-is) ∙ sym (splice-sets tape 0 (tape_bytes cs) (omega (arith, size_is))) in
      rw (le-leb (length (tape_bytes cs)) (length tape) (omega (arith, size_is))) (cc, (e, whole))
