-- The order of a tape's commands: numbers that rise, where a list of commands stores and flushes, in order, and groups of flushes with their barriers.
-- Assumes nothing.
use Rattle.std.specs.Prelude.{ℕ, suc, ◌≤◌, ◌||◌, not, List, [], ◌∷◌, ◌++◌, length, leb, eqb}
use Rattle.codec.specs.Lists.{pick, All}
use Rattle.device.specs.Tape.{Op, store, flush, barrier, malformed}
use Rattle.device.specs.Cut.{IsFlush}
use Rattle.page.specs.Layout.{line_size}
use Rattle.journal.specs.Changes.{word_size}

-- "rising": each number is above the one before it, and none is below `low`
abbrev pub RisesFrom : ℕ → List ℕ → Type 0
RisesFrom low [] = Unit {0}
RisesFrom low (n ∷ ns) = (low ≤ n) × RisesFrom (suc n) ns

abbrev pub Rises : List ℕ → Type 0
Rises ns = RisesFrom 0 ns

-- the byte of the image that each store begins at
unfoldable pub store_places : List Op → List ℕ
store_places [] = []
store_places (store p vs ∷ cs) = p ∷ store_places cs
store_places (flush l ∷ cs) = store_places cs
store_places (barrier ∷ cs) = store_places cs
store_places (malformed ∷ cs) = store_places cs

-- of all but the words of line 0: log lines and headers, whole or by their words
unfoldable pub places_past : List Op → List ℕ
places_past [] = []
places_past (store p vs ∷ cs) = pick (leb line_size p || not (eqb (length vs) word_size)) (p ∷ places_past cs) (places_past cs)
places_past (flush l ∷ cs) = places_past cs
places_past (barrier ∷ cs) = places_past cs
places_past (malformed ∷ cs) = places_past cs

-- the line of each flush
unfoldable pub flush_lines : List Op → List ℕ
flush_lines [] = []
flush_lines (store p vs ∷ cs) = flush_lines cs
flush_lines (flush l ∷ cs) = l ∷ flush_lines cs
flush_lines (barrier ∷ cs) = flush_lines cs
flush_lines (malformed ∷ cs) = flush_lines cs

-- ---- groups of flushes

-- a store
abbrev pub IsStore : Op → Type 0
IsStore (store p vs) = Unit {0}
IsStore (flush l) = ⊥
IsStore barrier = ⊥
IsStore malformed = ⊥

-- "Each unbroken group of flushes on every tape is followed by one barrier": a tape is stores, then flushes, then one barrier, and so on to its end.
-- There is no barrier without a flush before it, and no second one
pub data Grouped : List Op → Type 0 where
  no-group : Grouped []
  group : (xs ys rest : List Op) → All IsStore xs → 1 ≤ length xs → All IsFlush ys → 1 ≤ length ys → Grouped rest → Grouped (xs ++ (ys ++ (barrier ∷ rest)))
