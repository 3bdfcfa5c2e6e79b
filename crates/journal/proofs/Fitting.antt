-- Every command of a transaction's tape and of a recovery's fits the image, so their bytes say these commands.
-- Assumes nothing.
use Prim.Native.Nat.{ℕ, suc, ◌+◌, ◌*◌, ◌/◌, ◌%◌, ◌≤◌, ◌<◌}
use mathlib.Core.Path.{◌≡◌, refl, sym, ap, subst}
use mathlib.Core.Logic.{inl, inr}
use mathlib.Core.Bool.{Bool, true, false}
use mathlib.Core.List.{List, [], ◌∷◌, ◌++◌}
use native.Mathlib.Omega.{arith}
use lib.ListN.{length, length-map}
use lib.Dec.{eqb}
use borrow.Author.Tests.{leb-true}
use Rattle.codec.specs.Lists.{pick, part, eqs, All}
use Rattle.codec.specs.Numbers.{bytes_of}
use Rattle.codec.proofs.Lists.{length_part}
use Rattle.codec.proofs.Numbers.{length-bytes_of}
use Rattle.device.specs.Tape.{Op, store, flush, barrier, malformed, decode, tape_bytes, Writable}
use Rattle.device.specs.Cut.{with_barrier}
use Rattle.device.proofs.Encode.{decode-whole}
use Rattle.page.specs.Layout.{page_size, line_size, Rec}
use Rattle.image.specs.PageZero.{page_count, root_of, log_most, mark_bytes}
use Rattle.image.specs.Image.{reached, sound}
use Rattle.image.proofs.General.{All-append}
use Rattle.image.proofs.Zero.{size-true, is_page-true}
use Rattle.journal.specs.Changes.{word_size, free_word, word_stores, flushes_from, flushes_of, stage_a, header_line, changed_pages, same_root}
use Rattle.journal.specs.Way.{line_by}
use Rattle.journal.specs.Log.{page_lines, own_page, log_stores, log_flushes, log_tape, header_stores, header_flushes, header_tape, ending, replay_tape}
use Rattle.journal.specs.Tape.{new_headers, by_header, by_root, mark_flush, by_log, room_in_log, taken_for}
use Rattle.journal.specs.Recovery.{logged, recovery_tape}
use Rattle.journal.specs.Edited.{Edited}
use Rattle.journal.specs.Holds.{tape_of, Holds}
use Rattle.journal.specs.declared.Way.{Way}
use Rattle.journal.specs.declared.Way.TheVariants.{ByLine}
use Rattle.journal.proofs.Ways.{line-fits}
use Rattle.journal.proofs.Headers.{Lines, Inside, logged-inside}
use Rattle.journal.proofs.Standing.{waits-long, logged-lines, logged-pages, length-no_mark, length-mark}
use Rattle.journal.proofs.Holds.{holds-size, Cases, cases}
use Rattle.journal.proofs.StageA.{word_at, walk, walk-all}
use Rattle.journal.proofs.Changed.{InBoth}
use Rattle.journal.proofs.Chosen.{choose-all}
use Rattle.journal.proofs.Edits.{size, changed, header-length, headers-lines, headers-ok}

-- ---- flushes and their barrier

group-fits : (n : ℕ) (ys : List Op) → All (Writable n) ys → All (Writable n) (with_barrier ys)
group-fits n [] h = tt
group-fits n (o ∷ ys) h = All-append (Writable n) (o ∷ ys) (barrier ∷ []) h (tt, tt)

-- ---- stage A

module _ (n : ℕ) (whole : n % page_size ≡ 0) where
  -- the line of a store lies in the image
  flush-fits : (p : ℕ) (vs : List ℕ) → Writable n (store p vs) → line_size * (p / line_size) + line_size ≤ n
  flush-fits p vs (inl h) = omega (arith, h.1, h.2)
  flush-fits p vs (inr h) = omega (arith, h.1, h.2)

  from-fits : (l : ℕ) (cs : List Op) → line_size * l + line_size ≤ n → All (Writable n) cs → All (Writable n) (flushes_from l cs)
  unfolding flushes_from
  from-fits l [] h k = (h, tt)
  from-fits l (flush m ∷ cs) h k = from-fits l cs h k.1
  from-fits l (barrier ∷ cs) h k = from-fits l cs h k.1
  from-fits l (malformed ∷ cs) h k = absurd k.0
  from-fits l (store p vs ∷ cs) h k = go (eqb l (p / line_size)) (from-fits (p / line_size) cs (flush-fits p vs k.0) k.1)
    where
      rest : List Op
      rest = flushes_from (p / line_size) cs

      go : (t : Bool) → All (Writable n) rest → All (Writable n) (pick t rest (flush l ∷ rest))
      go true r = r
      go false r = (h, r)

  flushes-fit : (cs : List Op) → All (Writable n) cs → All (Writable n) (flushes_of cs)
  unfolding flushes_of
  flushes-fit [] k = tt
  flushes-fit (flush m ∷ cs) k = flushes-fit cs k.1
  flushes-fit (barrier ∷ cs) k = flushes-fit cs k.1
  flushes-fit (malformed ∷ cs) k = absurd k.0
  flushes-fit (store p vs ∷ cs) k = from-fits (p / line_size) cs (flush-fits p vs k.0) k.1

words-fit : (rs a w : List ℕ) (n k : ℕ) → word_size * (k + n) ≤ length w → All (Writable (length w)) (walk rs a w n k)
words-fit rs a w = walk-all rs a w (λ n k cs. word_size * (k + n) ≤ length w → All (Writable (length w)) cs) (λ k h. tt) (λ n k cs q ih h. ih (omega arith)) stored
  where
    stored : (n k : ℕ) (cs : List Op) → free_word rs k ≡ true → (word_at a k ≡ word_at w k → ⊥) → (word_size * (suc k + n) ≤ length w → All (Writable (length w)) cs) →
        word_size * (k + suc n) ≤ length w → All (Writable (length w)) (store (word_size * k) (word_at w k) ∷ cs)
    stored n k cs q differ ih h = (inl (length_part w (word_size * k) word_size (omega arith), omega arith, omega arith), ih (omega arith))

stage_a-fits : (a w : List ℕ) → length w ≡ length a → length a % page_size ≡ 0 → All (Writable (length a)) (stage_a a w)
unfolding stage_a
stage_a-fits a w same whole =
    let stores = word_stores (reached a (root_of a)) (length a / word_size) 0 a w in
    let k : All (Writable (length a)) stores = subst (λ (n : ℕ). All (Writable n) stores) same (words-fit (reached a (root_of a)) a w (length a / word_size) 0 (omega arith)) in
    All-append (Writable (length a)) stores (with_barrier (flushes_of stores)) k (group-fits (length a) (flushes_of stores) (flushes-fit (length a) whole stores k))

-- ---- the log, the headers, the end of the tape

module _ (way : Way) (n : ℕ) where
  log-stores-fit : (l : ℕ) (hs : List (List ℕ)) → Lines hs → line_size * (l + length hs) ≤ n → All (Writable n) (log_stores way l hs)
  unfolding log_stores
  log-stores-fit l [] k h = tt
  log-stores-fit l (g ∷ hs) k h =
      All-append (Writable n) (line_by way (line_size * l) g) (log_stores way (suc l) hs) (line-fits (line_size * l) g k.0 way n (omega arith) (omega arith)) (log-stores-fit (suc l) hs k.1 (omega arith))

  log-flushes-fit : (l : ℕ) (hs : List (List ℕ)) → line_size * (l + length hs) ≤ n → All (Writable n) (log_flushes l hs)
  unfolding log_flushes
  log-flushes-fit l [] h = tt
  log-flushes-fit l (g ∷ hs) h = (omega arith, log-flushes-fit (suc l) hs (omega arith))

  log-fits : (hs : List (List ℕ)) → Lines hs → line_size * (1 + length hs) ≤ n → All (Writable n) (log_tape way hs)
  unfolding log_tape
  log-fits hs k h = All-append (Writable n) (log_stores way 1 hs) (with_barrier (log_flushes 1 hs)) (log-stores-fit 1 hs k h) (group-fits n (log_flushes 1 hs) (log-flushes-fit 1 hs h))

  -- a header at its page
  header-fits : (v : Way) (p : ℕ) (h : List ℕ) → length h ≡ line_size → p < n / page_size → All (Writable n) (line_by v (page_size * p) h)
  header-fits v p h e k = line-fits (page_size * p) h e v n (omega arith) (omega arith)

  header-flush-fits : (p : ℕ) → p < n / page_size → line_size * (page_lines * p) + line_size ≤ n
  header-flush-fits p k = omega arith

  headers-fit : (hs : List (List ℕ)) → Lines hs → Inside (n / page_size) hs → All (Writable n) (header_stores way hs)
  unfolding header_stores
  headers-fit [] k i = tt
  headers-fit (h ∷ hs) k i =
      All-append (Writable n) (line_by way (page_size * own_page h) h) (header_stores way hs) (header-fits way (own_page h) h k.0 (is_page-true (n / page_size) (own_page h) i.0).1)
      (headers-fit hs k.1 i.1)

  header-flushes-fit : (hs : List (List ℕ)) → Inside (n / page_size) hs → All (Writable n) (header_flushes hs)
  unfolding header_flushes
  header-flushes-fit [] i = tt
  header-flushes-fit (h ∷ hs) i = (header-flush-fits (own_page h) (is_page-true (n / page_size) (own_page h) i.0).1, header-flushes-fit hs i.1)

  module _ (long : page_size ≤ n) where
    root-fits : (root : ℕ) → Writable n (store 8 (bytes_of 8 root))
    root-fits root = inl (length-bytes_of 8 root, refl, omega arith)

    ending-fits : (same : Bool) (root : ℕ) → All (Writable n) (ending same root)
    unfolding ending
    ending-fits true root = (inl (length-no_mark, refl, omega arith), (omega arith, (tt, tt)))
    ending-fits false root = (root-fits root, (inl (length-no_mark, refl, omega arith), (omega arith, (tt, tt))))

    replay-fits : (hs : List (List ℕ)) (same : Bool) (root : ℕ) → Lines hs → Inside (n / page_size) hs → All (Writable n) (replay_tape way hs same root)
    unfolding replay_tape header_tape
    replay-fits hs same root k i =
        All-append (Writable n) (header_tape way hs) (ending same root)
        (All-append (Writable n) (header_stores way hs) (with_barrier (header_flushes hs)) (headers-fit hs k i) (group-fits n (header_flushes hs) (header-flushes-fit hs i)))
        (ending-fits same root)

-- ---- a transaction's tape

module _ (way : Way) (a w : List ℕ) (s : sound a ≡ true) (d : Edited a w) (room : room_in_log (changed_pages a w) ≡ true) where
  long : page_size ≤ length a
  long = omega (arith, (size a w s d).low)

  before : All (Writable (length a)) (stage_a a w)
  before = stage_a-fits a w d.same_length (size a w s d).whole

  by-log : (same : Bool) (ps : List ℕ) → changed_pages a w ≡ ps → All (Writable (length a)) (by_log way (stage_a a w) w same (new_headers w ps)).tape
  unfolding by_log mark_flush room_in_log
  by-log same ps e = subst (λ (qs : List ℕ). All (Writable (length a)) (by_log way (stage_a a w) w same (new_headers w qs)).tape) e go
    where
      hs : List (List ℕ)
      hs = new_headers w (changed_pages a w)

      lines : Lines hs
      lines = headers-lines a w s d (changed_pages a w) (changed a w s d)

      fits : line_size * (1 + length hs) ≤ length a
      fits = omega (arith, length-map (changed_pages a w) (header_line w), leb-true (length (changed_pages a w)) log_most room, long)

      mark : Writable (length a) (store 0 (mark_bytes (length hs) (root_of w)))
      mark = inl (length-mark (length hs) (root_of w), refl, omega (arith, long))

      go : All (Writable (length a)) (by_log way (stage_a a w) w same hs).tape
      go =
          All-append (Writable (length a)) (stage_a a w ++ log_tape way hs) (store 0 (mark_bytes (length hs) (root_of w)) ∷ (with_barrier (flush 0 ∷ []) ++ replay_tape way hs same (root_of w)))
          (All-append (Writable (length a)) (stage_a a w) (log_tape way hs) before (log-fits way (length a) hs lines fits))
          (mark, (omega (arith, long), (tt, replay-fits way (length a) long hs same (root_of w) lines (logged-inside (page_count a) hs (headers-ok a w s d)))))

  pub taken-fits : All (Writable (length a)) (taken_for way a w).tape
  unfolding taken_for by_header by_root line_by
  taken-fits =
      choose-all way (stage_a a w) w (λ same ps t. changed_pages a w ≡ ps → All (Writable (length a)) t.tape)
      (λ same e. All-append (Writable (length a)) (stage_a a w) _ before (root-fits way (length a) long (root_of w), (omega (arith, long), (tt, tt)))) header (λ same p ps e. by-log same (p ∷ ps) e)
      (same_root a w) (changed_pages a w) refl
    where
      header : way ≡ ByLine → (p : ℕ) → changed_pages a w ≡ p ∷ [] → All (Writable (length a)) (by_header (stage_a a w) w p).tape
      header line p e =
          let b : InBoth a w p = (subst (All (InBoth a w)) e (changed a w s d)).0 in
          let q = is_page-true (page_count a) p b.page in
          All-append (Writable (length a)) (stage_a a w) _ before ((header-fits way (length a) ByLine p (header_line w p) (header-length a w s d p b) q.1).0, (header-flush-fits way (length a) p q.1, (tt, tt)))

  -- the tape's bytes say its commands
  pub taken-decode : decode (length a) (tape_bytes (taken_for way a w).tape) ≡ (taken_for way a w).tape
  taken-decode = decode-whole (length a) (size a w s d).high (taken_for way a w).tape taken-fits

-- ---- a recovery's tape

module _ {t : List Rec} (way : Way) (img : List ℕ) (h : Holds t img) where
  pub recovery-fits : All (Writable (length img)) (tape_of way img)
  unfolding recovery_tape
  recovery-fits = go (cases img h.is_replayable)
    where
      go : Cases img → All (Writable (length img)) (tape_of way img)
      go (inl e) = subst (All (Writable (length img))) (sym (e.1 way)) tt
      go (inr (k, root, w)) =
          subst (All (Writable (length img))) (sym (ap (recovery_tape way img) w.zero))
          (replay-fits way (length img) (waits-long img k root w) (logged k img) (eqs (part img 8 8) (bytes_of 8 root)) root (logged-lines img k root w) (logged-pages img k root w))

  pub recovery-decode : decode (length img) (tape_bytes (tape_of way img)) ≡ tape_of way img
  recovery-decode = decode-whole (length img) (size-true (length img) (holds-size img h)).high (tape_of way img) recovery-fits
