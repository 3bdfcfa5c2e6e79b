-- The root word is on a tape only if it differs, and the answer counts the bytes and the flushes of the tape as the device reads it back.
-- Assumes nothing.
use Prim.Native.Nat.{ℕ, ◌*◌, ◌≤◌}
use mathlib.Core.Path.{◌≡◌, refl, sym, ap, ◌∙◌, subst}
use mathlib.Core.Logic.{◌⊎◌, inl, inr}
use mathlib.Core.Bool.{Bool, true, false, not}
use mathlib.Core.List.{List, [], ◌∷◌, ◌++◌}
use native.Mathlib.Omega.{arith}
use lib.ListN.{length, take}
use Rattle.codec.specs.Lists.{part, splice, eqs, All}
use Rattle.codec.specs.Numbers.{bytes_of}
use Rattle.codec.proofs.Lists.{part-splice-same, part-splice-below}
use Rattle.codec.proofs.Numbers.{length-bytes_of}
use Rattle.device.specs.Tape.{Op, store, flush, decode, tape_bytes, flush_count}
use Rattle.device.specs.Cut.{after, touches, with_barrier}
use Rattle.device.proofs.Segments.{touches-append}
use Rattle.device.proofs.Writing.{own-untouched, flushing-touches, touches-in, touches-out, touches-both}
use Rattle.page.specs.Layout.{page_size, line_size}
use Rattle.image.specs.PageZero.{page_count, root_of, mark_bytes, no_mark}
use Rattle.image.specs.Image.{sound}
use Rattle.image.proofs.Zero.{is_page-true}
use Rattle.journal.specs.Changes.{stage_a, header_line, changed_pages, same_root}
use Rattle.journal.specs.Log.{page_lines, header_stores, header_flushes, header_tape, log_tape, ending, replay_tape}
use Rattle.journal.specs.Recovery.{logged, recovery_tape}
use Rattle.journal.specs.Tape.{Taken, new_headers, join_lines, by_header, by_root, mark_flush, by_log, room_in_log, taken_for, commit_of}
use Rattle.journal.specs.Edited.{Edited}
use Rattle.journal.specs.Holds.{Waits, tape_of}
use Rattle.journal.specs.declared.Way.{Way}
use Rattle.journal.specs.declared.Way.TheVariants.{ByLine}
use Rattle.journal.specs.declared.Commit.{Commit}
use Rattle.journal.proofs.Headers.{Lines, Inside, logged-inside, header-flushing, headers-outside}
use Rattle.journal.proofs.Standing.{line-root, logged-lines, logged-pages, length-no_mark, length-mark}
use Rattle.journal.proofs.StageA.{stage_a-outside}
use Rattle.journal.proofs.Log.{log-touches, length-join}
use Rattle.journal.proofs.Changed.{InBoth}
use Rattle.journal.proofs.Edits.{size, line-w, changed, headers-lines, headers-ok}
use Rattle.journal.proofs.Chosen.{choose-all}
use Rattle.journal.proofs.Taken.{taken-run}
use Rattle.journal.proofs.Fitting.{taken-decode}
use Rattle.journal.proofs.Order.{log-inside}

-- ---- "the root word if it differs": byte 8 is its first

-- a byte that the first of two lists does not store
touches-second : (xs ys : List Op) (i : ℕ) → touches xs i ≡ false → touches (xs ++ ys) i ≡ touches ys i
touches-second xs ys i e = touches-append xs ys i ∙ rw e

root_in : (root : ℕ) (rest : List Op) → touches (store 8 (bytes_of 8 root) ∷ rest) 8 ≡ true
root_in root rest = touches-in 8 (bytes_of 8 root) rest 8 (omega arith) (omega (arith, length-bytes_of 8 root))

-- a mark, stored and flushed
mark-out : (vs : List ℕ) → length vs ≡ 8 → touches (store 0 vs ∷ with_barrier (flush 0 ∷ [])) 8 ≡ false
mark-out vs e = touches-out 0 vs (with_barrier (flush 0 ∷ [])) 8 (inr (omega arith)) (own-untouched 0 8)

ending-root : (same : Bool) (root : ℕ) → touches (ending same root) 8 ≡ not same
unfolding ending
ending-root true root = mark-out no_mark length-no_mark
ending-root false root = root_in root (store 0 no_mark ∷ with_barrier (flush 0 ∷ []))

replay-root : (way : Way) (n : ℕ) (hs : List (List ℕ)) (same : Bool) (root : ℕ) → Lines hs → Inside n hs → touches (replay_tape way hs same root) 8 ≡ not same
unfolding replay_tape header_tape
replay-root way n hs same root l k =
    let H = header_stores way hs in
    let F = header_flushes hs in
    touches-second (header_tape way hs) (ending same root) 8 (flushing-touches H F (header-flushing way hs) 8 ∙ headers-outside way n hs 8 l k (omega arith))
    ∙ ending-root same root

-- of a recovery
pub recovery-root : (way : Way) (img : List ℕ) (k root : ℕ) → Waits img k root → touches (tape_of way img) 8 ≡ not (eqs (part img 8 8) (bytes_of 8 root))
unfolding recovery_tape
recovery-root way img k root w =
    ap (λ (cs : List Op). touches cs 8) (ap (recovery_tape way img) w.zero)
    ∙ replay-root way (page_count img) (logged k img) (eqs (part img 8 8) (bytes_of 8 root)) root (logged-lines img k root w) (logged-pages img k root w)

-- the bytes written at the front of a tape are read back
pub front-back : (tape bytes : List ℕ) → length bytes ≤ length tape → take (length bytes) (splice tape 0 bytes) ≡ bytes
unfolding part
front-back tape bytes fits = part-splice-same tape 0 bytes (omega arith) (length bytes) refl

module _ (way : Way) (a w : List ℕ) (s : sound a ≡ true) (d : Edited a w) (room : room_in_log (changed_pages a w) ≡ true) where
  abbrev new : List (List ℕ)
  new = new_headers w (changed_pages a w)

  lines : Lines new
  lines = headers-lines a w s d (changed_pages a w) (changed a w s d)

  log-root : (same : Bool) (ps : List ℕ) → changed_pages a w ≡ ps → touches (by_log way (stage_a a w) w same (new_headers w ps)).tape 8 ≡ not same
  unfolding by_log mark_flush
  log-root same ps e = subst (λ (qs : List ℕ). touches (by_log way (stage_a a w) w same (new_headers w qs)).tape 8 ≡ not same) e go
    where
      mark : List ℕ
      mark = mark_bytes (length new) (root_of w)

      rest : List Op
      rest = replay_tape way new same (root_of w)

      go : touches ((stage_a a w ++ log_tape way new) ++ (store 0 mark ∷ (with_barrier (flush 0 ∷ []) ++ rest))) 8 ≡ not same
      go =
          touches-second (stage_a a w ++ log_tape way new) (store 0 mark ∷ (with_barrier (flush 0 ∷ []) ++ rest)) 8 (touches-both (stage_a a w) (log_tape way new) 8 (stage_a-outside a w 8 (omega arith)) (log-touches way new lines 8 (inl (omega arith))))
          ∙ touches-second (store 0 mark ∷ with_barrier (flush 0 ∷ [])) rest 8 (mark-out mark (length-mark (length new) (root_of w)))
          ∙ replay-root way (page_count a) new same (root_of w) lines (logged-inside (page_count a) new (headers-ok a w s d))

  -- where something changed, a transaction stores the root word if it differs, and else it does not
  pub root-stored : (1 ≤ length (changed_pages a w)) ⊎ (same_root a w ≡ false) → touches (taken_for way a w).tape 8 ≡ not (same_root a w)
  unfolding taken_for by_header by_root
  root-stored =
      choose-all way (stage_a a w) w (λ same ps t. changed_pages a w ≡ ps → (1 ≤ length ps) ⊎ (same ≡ false) → touches t.tape 8 ≡ not same) (λ same e. alone same) header (λ same p ps e h. log-root same (p ∷ ps) e)
      (same_root a w) (changed_pages a w) refl
    where
      alone : (same : Bool) → (1 ≤ 0) ⊎ (same ≡ false) → touches (by_root (stage_a a w) w).tape 8 ≡ not same
      alone same (inl h) = absurd (omega arith)
      alone same (inr h) = touches-second (stage_a a w) (store 8 (bytes_of 8 (root_of w)) ∷ with_barrier (flush 0 ∷ [])) 8 (stage_a-outside a w 8 (omega arith)) ∙ root_in (root_of w) (with_barrier (flush 0 ∷ [])) ∙ ap not (sym h)

      header : way ≡ ByLine → (p : ℕ) → changed_pages a w ≡ p ∷ [] → (1 ≤ length (p ∷ [])) ⊎ (true ≡ false) → touches (by_header (stage_a a w) w p).tape 8 ≡ false
      header line p e h =
          let b : InBoth a w p = (subst (All (InBoth a w)) e (changed a w s d)).0 in
          let q = is_page-true (page_count a) p b.page in
          let ends = with_barrier (flush (page_lines * p) ∷ []) in
          touches-second (stage_a a w) (store (page_size * p) (header_line w p) ∷ ends) 8 (stage_a-outside a w 8 (omega arith))
          ∙ touches-out (page_size * p) (header_line w p) ends 8 (inl (omega arith)) (own-untouched (page_lines * p) 8)

  log-left : (same : Bool) (ps : List ℕ) → changed_pages a w ≡ ps → part (by_log way (stage_a a w) w same (new_headers w ps)).work 8 8 ≡ part w 8 8
  unfolding by_log
  log-left same ps e =
      subst (λ (qs : List ℕ). part (splice w line_size (join_lines (new_headers w qs))) 8 8 ≡ part w 8 8) e
      (part-splice-below w line_size (join_lines new) (omega (arith, length-join new lines, log-inside way a w s d room, (size a w s d).low, d.same_length)) 8 8 (omega arith))

  -- once the tape is done, it is the root of w
  pub root-left : part (after a (taken_for way a w).tape) 8 8 ≡ bytes_of 8 (root_of w)
  unfolding taken_for by_header by_root
  root-left =
      ap (λ (b : List ℕ). part b 8 8) (taken-run way a w s d room)
      ∙ choose-all way (stage_a a w) w (λ same ps t. changed_pages a w ≡ ps → part t.work 8 8 ≡ part w 8 8) (λ same e. refl) (λ line p e. refl) (λ same p ps e. log-left same (p ∷ ps) e) (same_root a w) (changed_pages a w) refl
      ∙ line-root w no_mark (root_of w) (line-w a w s d)

  -- ---- the answer: "the tape bytes used, and the number of flushes in the answer is the number of flush commands on the tape"

  abbrev x : Taken
  x = taken_for way a w

  abbrev c : Commit
  c = commit_of x

  -- for every tape buffer that the tape fits, read to the bytes that the answer gives
  pub commit-reads : (tape : List ℕ) → length (tape_bytes x.tape) ≤ length tape →
      let read = decode (length a) (take c.bytes (splice tape 0 (tape_bytes x.tape))) in
      (read ≡ x.tape) × (c.flushes ≡ flush_count read) × (c.place ≡ x.place) × (c.bytes ≤ length tape)
  unfolding commit_of
  commit-reads tape fits =
      let same : decode (length a) (take c.bytes (splice tape 0 (tape_bytes x.tape))) ≡ x.tape =
      ap (decode (length a)) (front-back tape (tape_bytes x.tape) fits) ∙ taken-decode way a w s d room in
      (same, ap flush_count (sym same), refl, fits)
