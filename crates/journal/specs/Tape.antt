-- The tape of an accepted transaction, its commit place, and the work image (document 01, 'The transaction's tape').
-- Assumes nothing.
use Rattle.std.specs.Prelude.{ℕ, ◌*◌, Bool, true, false, List, [], ◌∷◌, ◌++◌, map, length, leb}
use Rattle.codec.specs.Lists.{splice}
use Rattle.codec.specs.Numbers.{bytes_of}
use Rattle.device.specs.Tape.{Op, store, flush, tape_bytes, flush_count}
use Rattle.device.specs.Cut.{with_barrier}
use Rattle.page.specs.Layout.{page_size, line_size}
use Rattle.image.specs.PageZero.{root_of, log_most, mark_bytes}
use Rattle.journal.specs.Changes.{stage_a, header_line, changed_pages, same_root}
use Rattle.journal.specs.Log.{page_lines, log_tape, replay_tape}
use Rattle.journal.specs.declared.Way.{Way}
use Rattle.journal.specs.declared.Way.TheVariants.{ByLine, ByWords}
use Rattle.journal.specs.declared.CommitPlace.{CommitPlace}
use Rattle.journal.specs.declared.CommitPlace.TheVariants.{Header, Root, Log}
use Rattle.journal.specs.declared.Commit.{Commit}

-- the commands of an accepted transaction, the number of commands before its commit store, its commit place, and the image that it leaves
pub record Taken : Type 0 where
  pub tape : List Op
  pub commit_at : ℕ
  pub place : CommitPlace
  pub work : List ℕ

-- the new headers of the pages ps
abbrev pub new_headers : List ℕ → List ℕ → List (List ℕ)
new_headers w ps = map (header_line w) ps

-- lines end to end
unfoldable pub join_lines : List (List ℕ) → List ℕ
join_lines [] = []
join_lines (h ∷ hs) = h ++ join_lines hs

-- "One changed place: its line store (word store for the root), then its flush."
unfoldable pub by_header : List Op → List ℕ → ℕ → Taken
by_header A w p =
    record {
      tape = A ++ (store (page_size * p) (header_line w p) ∷ with_barrier (flush (page_lines * p) ∷ []));
      commit_at = length A;
      place = Header p;
      work = w;
    }

unfoldable pub by_root : List Op → List ℕ → Taken
by_root A w = record { tape = A ++ (store 8 (bytes_of 8 (root_of w)) ∷ with_barrier (flush 0 ∷ [])); commit_at = length A; place = Root; work = w }

-- "the mark; flush of line 0": what makes the mark durable
unfoldable pub mark_flush : List Op
mark_flush = with_barrier (flush 0 ∷ [])

-- "More: log lines 1 to k take the new headers by rising page, then their flushes; the mark; flush of line 0; header stores, rising;
-- their flushes; the root word if it differs; mark 0; flush of line 0."
unfoldable pub by_log : Way → List Op → List ℕ → Bool → List (List ℕ) → Taken
by_log way A w same hs =
    record {
      tape = (A ++ log_tape way hs) ++ (store 0 (mark_bytes (length hs) (root_of w)) ∷ (mark_flush ++ replay_tape way hs same (root_of w)));
      commit_at = length (A ++ log_tape way hs);
      place = Log;
      work = splice w line_size (join_lines hs);
    }

-- one changed header and no changed root word: its line store, or "a change of any header, even one, goes through the log"
unfoldable pub one_header : Way → List Op → List ℕ → ℕ → Taken
one_header ByLine A w p = by_header A w p
one_header ByWords A w p = by_log ByWords A w true (new_headers w (p ∷ []))

-- by the number of changed headers, and whether the root word is as it was
unfoldable pub choose : Way → List Op → List ℕ → Bool → List ℕ → Taken
choose way A w same [] = by_root A w
choose way A w true (p ∷ []) = one_header way A w p
choose way A w false (p ∷ []) = by_log way A w false (new_headers w (p ∷ []))
choose way A w same (p ∷ q ∷ ps) = by_log way A w same (new_headers w (p ∷ q ∷ ps))

-- "12 more than 15 changed headers where the log is needed"
unfoldable pub room_in_log : List ℕ → Bool
room_in_log ps = leb (length ps) log_most

-- the transaction from the image a to the edited image w
unfoldable pub taken_for : Way → List ℕ → List ℕ → Taken
taken_for way a w = choose way (stage_a a w) w (same_root a w) (changed_pages a w)

-- what it answers: "The answer names the commit place .. It also gives the tape bytes used, and the number of flushes in the answer is the
-- number of flush commands on the tape."
unfoldable pub commit_of : Taken → Commit
commit_of t = record { place = t.place; bytes = length (tape_bytes t.tape); flushes = flush_count t.tape }
