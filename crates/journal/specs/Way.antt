-- The two ways to write a line: one line store, or eight word stores (document 02 (d), "Each line is written as eight word stores in rising
-- order"). Log, tape and recovery take the way as a parameter.
-- Assumes nothing.
use Rattle.std.specs.Prelude.{ℕ, zero, suc, ◌+◌, ◌≡◌, List, [], ◌∷◌, length, take, drop}
use Rattle.device.specs.Tape.{Op, store, flush, barrier, malformed}
use Rattle.journal.specs.Changes.{word_size, line_words}
use Rattle.journal.specs.declared.Way.{Way}
use Rattle.journal.specs.declared.Way.TheVariants.{ByLine, ByWords}

-- the first n words of h, from byte p of the image on, rising
unfoldable pub words_of : ℕ → ℕ → List ℕ → List Op
words_of zero p h = []
words_of (suc n) p h = store p (take word_size h) ∷ words_of n (p + word_size) (drop word_size h)

-- the line h, from byte p of the image on
unfoldable pub line_by : Way → ℕ → List ℕ → List Op
line_by ByLine p h = store p h ∷ []
line_by ByWords p h = words_of line_words p h

-- a command of tapes that "use no kind 2 command": a store of a word, a flush or a barrier
abbrev pub IsWord : Op → Type 0
IsWord (store p vs) = length vs ≡ word_size
IsWord (flush l) = Unit {0}
IsWord barrier = Unit {0}
IsWord malformed = ⊥
