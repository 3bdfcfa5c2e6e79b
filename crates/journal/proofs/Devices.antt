-- What the two devices differ in: on the one without line stores every store is of a word, and no header commits. What they leave is the same
-- but for log lines (document 02 (d)).
-- Assumes nothing.
use Prim.Native.Nat.{ℕ, suc, ◌+◌, ◌*◌, ◌/◌, ◌%◌, ◌≤◌}
use mathlib.Core.Path.{◌≡◌, refl, sym, ap, ◌∙◌, subst}
use mathlib.Core.Logic.{inl, inr}
use mathlib.Core.Bool.{Bool, true, false}
use mathlib.Core.List.{List, [], ◌∷◌, ◌++◌}
use native.Mathlib.Omega.{arith}
use lib.ListN.{length, length-map}
use borrow.Author.Tests.{leb-true}
use Rattle.codec.specs.Lists.{All}
use Rattle.codec.specs.Numbers.{bytes_of}
use Rattle.codec.proofs.Lists.{length_part}
use Rattle.codec.proofs.Numbers.{length-bytes_of}
use Rattle.device.specs.Tape.{Op, store, flush, barrier, malformed}
use Rattle.device.specs.Cut.{Quiet, Flushing, with_barrier}
use Rattle.device.proofs.Writing.{flushing-quiet}
use Rattle.page.specs.Layout.{page_size, line_size, Rec}
use Rattle.image.specs.PageZero.{root_of, log_most, mark_bytes}
use Rattle.image.specs.Image.{reached, sound}
use Rattle.image.proofs.General.{All-append}
use Rattle.journal.specs.Changes.{word_size, word_stores, flushes_of, stage_a, header_line, changed_pages, same_root}
use Rattle.journal.specs.Way.{line_by, IsWord}
use Rattle.journal.specs.Log.{SameButLog, own_page, log_stores, log_flushes, log_tape, header_stores, header_flushes, header_tape, ending, replay_tape}
use Rattle.journal.specs.Recovery.{logged, root_is, recovery_tape}
use Rattle.journal.specs.Tape.{new_headers, by_header, by_root, mark_flush, by_log, room_in_log, taken_for}
use Rattle.journal.specs.Edited.{Edited}
use Rattle.journal.specs.Holds.{tape_of, Holds}
use Rattle.journal.specs.declared.Way.{Way}
use Rattle.journal.specs.declared.Way.TheVariants.{ByLine, ByWords}
use Rattle.journal.specs.declared.CommitPlace.TheVariants.{Header}
use Rattle.journal.proofs.Ways.{line-words}
use Rattle.journal.proofs.Headers.{Lines, header-flushing}
use Rattle.journal.proofs.Standing.{logged-lines, length-no_mark, length-mark}
use Rattle.journal.proofs.Holds.{Cases, cases}
use Rattle.journal.proofs.StageA.{flushing-of, walk, walk-all}
use Rattle.journal.proofs.Log.{log-flushing}
use Rattle.journal.proofs.Chosen.{choose-all}
use Rattle.journal.proofs.Edits.{size, changed, headers-lines}
use Rattle.journal.proofs.ByLog.{length-work, work-other, log-apart}

-- ---- every store is of a word: stage A on either device

quiet-words : (ys : List Op) → All Quiet ys → All IsWord ys
quiet-words [] h = tt
quiet-words (store p vs ∷ ys) h = absurd h.0
quiet-words (flush l ∷ ys) h = (tt, quiet-words ys h.1)
quiet-words (barrier ∷ ys) h = (tt, quiet-words ys h.1)
quiet-words (malformed ∷ ys) h = absurd h.0

-- stores of words, their flushes and a barrier
group-words : (xs ys : List Op) → Flushing xs ys → All IsWord xs → All IsWord (xs ++ with_barrier ys)
group-words xs ys f k = All-append IsWord xs (with_barrier ys) k (quiet-words (with_barrier ys) (flushing-quiet xs ys f))

pub walk-words : (rs a w : List ℕ) (n k : ℕ) → word_size * (k + n) ≤ length w → All IsWord (walk rs a w n k)
walk-words rs a w =
    walk-all rs a w (λ n k cs. word_size * (k + n) ≤ length w → All IsWord cs) (λ k h. tt) (λ n k cs q ih h. ih (omega arith))
    (λ n k cs q differ ih h. (length_part w (word_size * k) word_size (omega arith), ih (omega arith)))

pub stage_a-words : (a w : List ℕ) → length w ≡ length a → length a % page_size ≡ 0 → All IsWord (stage_a a w)
unfolding stage_a
stage_a-words a w same whole =
    let stores = word_stores (reached a (root_of a)) (length a / word_size) 0 a w in
    group-words stores (flushes_of stores) (flushing-of stores) (walk-words (reached a (root_of a)) a w (length a / word_size) 0 (omega arith))

-- ---- log and headers on the one without line stores

log-words : (l : ℕ) (hs : List (List ℕ)) → Lines hs → All IsWord (log_stores ByWords l hs)
unfolding log_stores
log-words l [] k = tt
log-words l (h ∷ hs) k = All-append IsWord (line_by ByWords (line_size * l) h) (log_stores ByWords (suc l) hs) (line-words (line_size * l) h k.0) (log-words (suc l) hs k.1)

headers-words : (hs : List (List ℕ)) → Lines hs → All IsWord (header_stores ByWords hs)
unfolding header_stores
headers-words [] k = tt
headers-words (h ∷ hs) k = All-append IsWord (line_by ByWords (page_size * own_page h) h) (header_stores ByWords hs) (line-words (page_size * own_page h) h k.0) (headers-words hs k.1)

ending-words : (same : Bool) (root : ℕ) → All IsWord (ending same root)
unfolding ending
ending-words true root = (length-no_mark, (tt, (tt, tt)))
ending-words false root = (length-bytes_of 8 root, (length-no_mark, (tt, (tt, tt))))

replay-words : (hs : List (List ℕ)) (same : Bool) (root : ℕ) → Lines hs → All IsWord (replay_tape ByWords hs same root)
unfolding replay_tape header_tape
replay-words hs same root k =
    All-append IsWord (header_tape ByWords hs) (ending same root) (group-words (header_stores ByWords hs) (header_flushes hs) (header-flushing ByWords hs) (headers-words hs k)) (ending-words same root)

log-tape-words : (hs : List (List ℕ)) → Lines hs → All IsWord (log_tape ByWords hs)
unfolding log_tape
log-tape-words hs k = group-words (log_stores ByWords 1 hs) (log_flushes 1 hs) (log-flushing ByWords 1 hs) (log-words 1 hs k)

-- "A separate transaction call and recovery call use no kind 2 command": recovery's
pub recovery-words : {t : List Rec} (img : List ℕ) → Holds t img → All IsWord (tape_of ByWords img)
unfolding recovery_tape
recovery-words img h = go (cases img h.is_replayable)
  where
    go : Cases img → All IsWord (tape_of ByWords img)
    go (inl e) = subst (All IsWord) (sym (e.1 ByWords)) tt
    go (inr (k, root, w)) =
        subst (All IsWord) (sym (ap (recovery_tape ByWords img) w.zero)) (replay-words (logged k img) (root_is img root) root (logged-lines img k root w))

not_line : ByWords ≡ ByLine → ⊥
not_line e = let z : ◌≡◌ {A = ℕ} 0 1 = cc in absurd (omega arith)

module _ (a w : List ℕ) (s : sound a ≡ true) (d : Edited a w) where
  abbrev new : List (List ℕ)
  new = new_headers w (changed_pages a w)

  lines : Lines new
  lines = headers-lines a w s d (changed_pages a w) (changed a w s d)

  before : All IsWord (stage_a a w)
  before = stage_a-words a w d.same_length (size a w s d).whole

  by-log : (same : Bool) (ps : List ℕ) → changed_pages a w ≡ ps → All IsWord (by_log ByWords (stage_a a w) w same (new_headers w ps)).tape
  unfolding by_log mark_flush
  by-log same ps e =
      subst (λ (qs : List ℕ). All IsWord (by_log ByWords (stage_a a w) w same (new_headers w qs)).tape) e
      (All-append IsWord (stage_a a w ++ log_tape ByWords new) (store 0 (mark_bytes (length new) (root_of w)) ∷ (with_barrier (flush 0 ∷ []) ++ replay_tape ByWords new same (root_of w)))
      (All-append IsWord (stage_a a w) (log_tape ByWords new) before (log-tape-words new lines)) (length-mark (length new) (root_of w), (tt, (tt, replay-words new same (root_of w) lines))))

  -- and the transaction's
  pub taken-words : All IsWord (taken_for ByWords a w).tape
  unfolding taken_for by_root
  taken-words =
      choose-all ByWords (stage_a a w) w (λ same ps t. changed_pages a w ≡ ps → All IsWord t.tape)
      (λ same e. All-append IsWord (stage_a a w) (store 8 (bytes_of 8 (root_of w)) ∷ with_barrier (flush 0 ∷ [])) before (length-bytes_of 8 (root_of w), (tt, (tt, tt)))) (λ line. absurd (not_line line)) (λ same p ps e. by-log same (p ∷ ps) e)
      (same_root a w) (changed_pages a w) refl

-- ---- "a change of any header, even one, goes through the log": no header is a commit place

pub words-place : (a w : List ℕ) (p : ℕ) → (taken_for ByWords a w).place ≡ Header p → ⊥
unfolding taken_for by_root by_log
words-place a w p =
    choose-all ByWords (stage_a a w) w (λ same ps t. t.place ≡ Header p → ⊥) (λ same e. let z : ◌≡◌ {A = ℕ} 0 1 = cc in absurd (omega arith)) (λ line. absurd (not_line line))
    (λ same q ps e. let z : ◌≡◌ {A = ℕ} 0 1 = cc in absurd (omega arith)) (same_root a w) (changed_pages a w)

-- ---- the work image: the edited image, but for log lines

pub same_back : (u v w : List ℕ) → SameButLog u w → SameButLog v w → SameButLog u v
same_back u v w h k = record { same_length = h.same_length ∙ sym k.same_length; elsewhere = λ i o. h.elsewhere i o ∙ sym (k.elsewhere i o) }

module _ (way : Way) (a w : List ℕ) (s : sound a ≡ true) (d : Edited a w) (room : room_in_log (changed_pages a w) ≡ true) where
  log-left : (same : Bool) (ps : List ℕ) → changed_pages a w ≡ ps → SameButLog (by_log way (stage_a a w) w same (new_headers w ps)).work w
  unfolding by_log room_in_log
  log-left same ps e =
      subst (λ (qs : List ℕ). SameButLog (by_log way (stage_a a w) w same (new_headers w qs)).work w) e
      (record {
        same_length = length-work way w d.is_sound (new a w s d) (lines a w s d) few long;
        elsewhere = λ i o. work-other way w d.is_sound (new a w s d) (lines a w s d) few long i (log-apart way w d.is_sound (new a w s d) (lines a w s d) few long i o);
      })
    where
      few : length (new a w s d) ≤ log_most
      few = omega (arith, length-map (changed_pages a w) (header_line w), leb-true (length (changed_pages a w)) log_most room)

      long : page_size ≤ length w
      long = omega (arith, (size a w s d).low, d.same_length)

  pub taken-work : SameButLog (taken_for way a w).work w
  unfolding taken_for by_header by_root
  taken-work =
      choose-all way (stage_a a w) w (λ same ps t. changed_pages a w ≡ ps → SameButLog t.work w) (λ same e. record { same_length = refl; elsewhere = λ i o. refl })
      (λ line p e. record { same_length = refl; elsewhere = λ i o. refl }) (λ same p ps e. log-left same (p ∷ ps) e) (same_root a w) (changed_pages a w) refl
