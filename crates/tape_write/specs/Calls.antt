-- What writing a tape asks of the buffers, and what it answers and leaves (document 01, 'Each call and when it says no').
-- Assumes nothing.
use Rattle.std.specs.Prelude.{ℕ, ◌+◌, ◌*◌, ◌/◌, ◌%◌, ◌≤◌, ◌<◌, ◌≡◌, true, false, List, length, get_or, leb, Err, Ok, Result}
use Rattle.journal.specs.declared.Redone.{Redone}
use Rattle.device.specs.declared.Cause.TheVariants.{LogFull, TapeShort}
use Rattle.journal.specs.declared.Commit.{Commit}
use Rattle.device.specs.declared.Cause.{Cause}
use Rattle.codec.specs.Lists.{pick, splice}
use Rattle.device.specs.Tape.{flush_count, tape_bytes}
use Rattle.page.specs.Layout.{page_size, line_size}
use Rattle.image.specs.PageZero.{page_count, root_of}
use Rattle.image.specs.Image.{reached, among}
use Rattle.image.specs.declared.PageZero.TheVariants.{Waiting}
use Rattle.journal.specs.Changes.{changed_pages, same_root}
use Rattle.journal.specs.Tape.{room_in_log, taken_for, commit_of}
use Rattle.journal.specs.Recovery.{logged, logged_ok, replay_from, recovery_tape}
use Rattle.journal.specs.declared.Way.{Way}
use Rattle.tape_write.specs.Words.{stage_words, lines_past}
use Rattle.tape_write.specs.declared.Changes.{Changes}

-- the pages that an image reaches
abbrev pub reached_in : List ℕ → List ℕ
reached_in img = reached img (root_of img)

-- an image and its edited image: equally long, of whole pages, at most 64
pub record Images (a w : List ℕ) : Type 0 where
  pub low : page_size ≤ length a
  pub high : length a ≤ 64 * page_size
  pub whole : length a % page_size ≡ 0
  pub same : length w ≡ length a

-- 64 marks: 1 for the pages of rs, 0 for others
pub record Marks (marks rs : List ℕ) : Type 0 where
  pub size : length marks ≡ 64
  pub mark : (p : ℕ) → p < 64 → get_or marks p 0 ≡ pick (among p rs) 1 0

-- and the marks of the pages reached before and after: "Pages not reached at the end hold the bytes they held before."
pub record Lent (a w before after : List ℕ) : Type 0 where
  pub images : Images a w
  pub was : Marks before (reached_in a)
  pub stays : Marks after (reached_in w)
  pub kept : (i : ℕ) → page_size ≤ i → among (i / page_size) (reached_in w) ≡ false → get_or w i 0 ≡ get_or a i 0

-- the code's counts of what differs
pub record Counted (a w : List ℕ) (r : Changes) : Type 0 where
  pub words : r.words ≡ length (stage_words a w)
  pub lines : r.lines ≡ length (lines_past 0 (stage_words a w))
  pub headers : r.headers ≡ length (changed_pages a w)
  pub root : r.same ≡ same_root a w

-- an answer, and the two buffers that are lent
pub record Called (A : Type 0) : Type 0 where
  pub answer : A
  pub work : List ℕ
  pub tape : List ℕ

-- "Then 12 more than 15 changed headers where the log is needed; 13 tape too short." "Tape bytes past those used stay."
unfoldable pub commit_call : Way → List ℕ → List ℕ → List ℕ → Called (Result Commit Cause)
commit_call way a w tape =
    let t = taken_for way a w in
    let bytes = tape_bytes t.tape in
    pick (room_in_log (changed_pages a w))
    (pick (leb (length bytes) (length tape))
    (record { answer = Ok (commit_of t); work = t.work; tape = splice tape 0 bytes })
    (record { answer = (Err TapeShort); work = w; tape = tape }))
    (record { answer = (Err LogFull); work = w; tape = tape })

-- k headers wait in the log of the image a, each of a page of its own, and w is as long as a
pub record LogWaits (a w : List ℕ) (k : ℕ) : Type 0 where
  pub log : line_size * k + line_size ≤ length a
  pub high : length a ≤ 64 * page_size
  pub same : length w ≡ length a
  pub pages : logged_ok (page_count a) (logged k a) ≡ true

-- "13, work then holding the image. Accepted, work is the replayed image"
unfoldable pub redo_call : Way → List ℕ → ℕ → ℕ → List ℕ → Called (Result Redone Cause)
redo_call way a k root tape =
    let cs = recovery_tape way a (Waiting k root) in
    let bytes = tape_bytes cs in
    pick (leb (length bytes) (length tape))
    (record { answer = Ok (record { bytes = (length bytes); flushes = (flush_count cs) }); work = replay_from a (Waiting k root); tape = splice tape 0 bytes })
    (record { answer = (Err TapeShort); work = a; tape = tape })
