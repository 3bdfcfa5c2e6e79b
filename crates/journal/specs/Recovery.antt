-- Recovery: the replayed image, its tape, and when the log can be replayed (document 01, "Recovery with mark 0 ..", and 'Recovery' in 'Each call').
-- Assumes nothing.
use Rattle.std.specs.Prelude.{ℕ, zero, suc, ◌*◌, Bool, true, false, ◌&&◌, List, [], ◌∷◌, map}
use Rattle.codec.specs.Lists.{part, splice, all_b, eqs}
use Rattle.codec.specs.Numbers.{bytes_of}
use Rattle.device.specs.Tape.{Op}
use Rattle.page.specs.Layout.{page_size, line_size}
use Rattle.image.specs.PageZero.{page_count, is_page, no_mark}
use Rattle.image.specs.Image.{distinct}
use Rattle.image.specs.declared.PageZero.{PageZero}
use Rattle.image.specs.declared.PageZero.TheVariants.{Wrong, Waiting, Ready}
use Rattle.journal.specs.Log.{own_page, replay_tape}
use Rattle.journal.specs.declared.Way.{Way}

-- k lines of page 0 from line l on
unfoldable pub lines_from : ℕ → ℕ → List ℕ → List (List ℕ)
lines_from zero l a = []
lines_from (suc k) l a = part a (line_size * l) line_size ∷ lines_from k (suc l) a

-- the k logged headers
unfoldable pub logged : ℕ → List ℕ → List (List ℕ)
logged k a = lines_from k 1 a

-- "logged page numbers repeat or leave 1 to N-1" where this is false
unfoldable pub logged_ok : ℕ → List (List ℕ) → Bool
logged_ok n hs = distinct (map own_page hs) && all_b (is_page n) (map own_page hs)

-- the headers hs written to their pages
unfoldable pub with_headers : List (List ℕ) → List ℕ → List ℕ
with_headers [] a = a
with_headers (h ∷ hs) a = with_headers hs (splice a (page_size * own_page h) h)

-- "the replayed image: logged headers and new root in, mark 0"
unfoldable pub replayed : List (List ℕ) → ℕ → List ℕ → List ℕ
replayed hs root a = splice (splice (with_headers hs a) 8 (bytes_of 8 root)) 0 no_mark

-- by what page 0 says: the image itself where the mark is 0
unfoldable pub replay_from : List ℕ → PageZero → List ℕ
replay_from a Wrong = a
replay_from a (Waiting k root) = replayed (logged k a) root a
replay_from a (Ready root) = a

-- whether the root word of a is this root already
abbrev pub root_is : List ℕ → ℕ → Bool
root_is a root = eqs (part a 8 8) (bytes_of 8 root)

-- "Recovery with mark 0 gives no commands. Else it stores every logged header, then flushes each, both in log order, and goes on as above."
unfoldable pub recovery_tape : Way → List ℕ → PageZero → List Op
recovery_tape way a Wrong = []
recovery_tape way a (Waiting k root) = replay_tape way (logged k a) (root_is a root) root
recovery_tape way a (Ready root) = []

-- whether page 0, the mark and the logged page numbers are as they should be
unfoldable pub replayable : List ℕ → PageZero → Bool
replayable a Wrong = false
replayable a (Waiting k root) = logged_ok (page_count a) (logged k a)
replayable a (Ready root) = true
