-- The log: the stores and flushes of its lines, and what replays them (document 01, 'The transaction's tape'). Each line is written in the
-- device's way, and each group of flushes has its barrier (document 02 (h)).
-- Assumes nothing.
use Rattle.std.specs.Prelude.{ℕ, suc, ◌*◌, ◌≤◌, ◌<◌, ◌≡◌, ◌⊎◌, Bool, List, [], ◌∷◌, ◌++◌, length, get_or}
use Rattle.codec.specs.Lists.{part, pick}
use Rattle.codec.specs.Numbers.{number, bytes_of}
use Rattle.device.specs.Tape.{Op, store, flush}
use Rattle.device.specs.Cut.{with_barrier}
use Rattle.page.specs.Layout.{page_size, line_size}
use Rattle.image.specs.PageZero.{no_mark}
use Rattle.journal.specs.Way.{line_by}
use Rattle.journal.specs.declared.Way.{Way}

-- the lines of a page
abbrev pub page_lines : ℕ
page_lines = 16

-- the page that a header says that it is of: "own page number (2)"
unfoldable pub own_page : List ℕ → ℕ
own_page h = number (part h 6 2)

-- equal "but for log lines": lines 1 to 15 of page 0
pub record SameButLog (u v : List ℕ) : Type 0 where
  pub same_length : length u ≡ length v
  pub elsewhere : (i : ℕ) → (i < line_size) ⊎ (page_size ≤ i) → get_or u i 0 ≡ get_or v i 0

-- "log lines 1 to k take the new headers by rising page, then their flushes": from line l on
unfoldable pub log_stores : Way → ℕ → List (List ℕ) → List Op
log_stores way l [] = []
log_stores way l (h ∷ hs) = line_by way (line_size * l) h ++ log_stores way (suc l) hs

unfoldable pub log_flushes : ℕ → List (List ℕ) → List Op
log_flushes l [] = []
log_flushes l (h ∷ hs) = flush l ∷ log_flushes (suc l) hs

unfoldable pub log_tape : Way → List (List ℕ) → List Op
log_tape way hs = log_stores way 1 hs ++ with_barrier (log_flushes 1 hs)

-- "header stores, rising; their flushes": in the order of the log
unfoldable pub header_stores : Way → List (List ℕ) → List Op
header_stores way [] = []
header_stores way (h ∷ hs) = line_by way (page_size * own_page h) h ++ header_stores way hs

unfoldable pub header_flushes : List (List ℕ) → List Op
header_flushes [] = []
header_flushes (h ∷ hs) = flush (page_lines * own_page h) ∷ header_flushes hs

unfoldable pub header_tape : Way → List (List ℕ) → List Op
header_tape way hs = header_stores way hs ++ with_barrier (header_flushes hs)

-- "the root word if it differs; mark 0"
abbrev pub end_stores : Bool → ℕ → List Op
end_stores same root = pick same [] (store 8 (bytes_of 8 root) ∷ []) ++ (store 0 no_mark ∷ [])

-- "flush of line 0"
unfoldable pub ending : Bool → ℕ → List Op
ending same root = end_stores same root ++ with_barrier (flush 0 ∷ [])

-- what follows the mark and its flush, in a transaction and in a recovery
unfoldable pub replay_tape : Way → List (List ℕ) → Bool → ℕ → List Op
replay_tape way hs same root = header_tape way hs ++ ending same root
