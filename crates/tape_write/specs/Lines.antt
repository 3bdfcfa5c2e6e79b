-- The headers in the log's lines: where each is stored (document 01, 'The transaction's tape').
-- Assumes nothing.
use Rattle.std.specs.Prelude.{ℕ, suc, ◌+◌, ◌*◌, ◌≤◌, Bool, List, [], ◌∷◌, ◌++◌, length, eqb}
use Rattle.codec.specs.Lists.{pick}
use Rattle.device.specs.Tape.{Op, flush, barrier}
use Rattle.device.specs.Cut.{with_barrier}
use Rattle.page.specs.Layout.{page_size, line_size}
use Rattle.journal.specs.Way.{line_by}
use Rattle.journal.specs.Log.{page_lines, own_page}
use Rattle.journal.specs.declared.Way.{Way}

-- a page that lies in the image w
abbrev pub PageIn : List ℕ → ℕ → Type 0
PageIn w p = (1 ≤ p) × (page_size * p + page_size ≤ length w)

-- the lines that code can name: those of 65,536 pages
abbrev pub line_most : ℕ
line_most = 1048576

-- the line that the header h of log line l is stored to: the first line of its own page, or the log line
unfoldable pub line_for : Bool → ℕ → List ℕ → ℕ
line_for own l h = pick own (page_lines * own_page h) l

-- the stores of the headers hs, the first of which is in log line l, and their flushes
unfoldable pub line_stores : Way → Bool → ℕ → List (List ℕ) → List Op
line_stores way own l [] = []
line_stores way own l (h ∷ hs) = line_by way (line_size * line_for own l h) h ++ line_stores way own (suc l) hs

unfoldable pub line_flushes : Bool → ℕ → List (List ℕ) → List Op
line_flushes own l [] = []
line_flushes own l (h ∷ hs) = flush (line_for own l h) ∷ line_flushes own (suc l) hs

-- all of them: the stores, the flushes and their barrier
abbrev pub line_tape : Way → Bool → List (List ℕ) → List Op
line_tape way own hs = line_stores way own 1 hs ++ with_barrier (line_flushes own 1 hs)

-- what follows n flushes: their barrier, if there is a flush
unfoldable pub closing : ℕ → List Op
closing n = pick (eqb n 0) [] (barrier ∷ [])
