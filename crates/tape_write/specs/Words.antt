-- Stage A as the code collects it: the words that it stores, and the lines that they lie in (document 01, 'The transaction's tape').
-- Assumes nothing.
use Rattle.std.specs.Prelude.{ℕ, zero, suc, ◌+◌, ◌*◌, ◌/◌, ◌≤◌, List, [], ◌∷◌, ◌++◌, map, length, eqb}
use Rattle.codec.specs.Lists.{pick, part, eqs}
use Rattle.device.specs.Tape.{Op, store, flush}
use Rattle.device.specs.Cut.{with_barrier}
use Rattle.image.specs.PageZero.{root_of}
use Rattle.image.specs.Image.{reached}
use Rattle.journal.specs.Changes.{word_size, line_words, free_word}

-- of the n words from word k on, those that differ
unfoldable pub differing : List ℕ → List ℕ → ℕ → ℕ → List ℕ
differing a w zero k = []
differing a w (suc n) k =
    let rest = differing a w n (suc k) in
    pick (eqs (part a (word_size * k) word_size) (part w (word_size * k) word_size)) rest (k ∷ rest)

-- of the n words from word k on, those that differ "outside page 0 and outside headers reached before"
unfoldable pub stored_words : List ℕ → List ℕ → List ℕ → ℕ → ℕ → List ℕ
stored_words rs a w zero k = []
stored_words rs a w (suc n) k =
    let rest = stored_words rs a w n (suc k) in
    pick (free_word rs k) (pick (eqs (part a (word_size * k) word_size) (part w (word_size * k) word_size)) rest (k ∷ rest)) rest

-- the words that stage A stores
unfoldable pub stage_words : List ℕ → List ℕ → List ℕ
stage_words a w = stored_words (reached a (root_of a)) a w (length a / word_size) 0

-- a word that lies in the image w, and its store
abbrev pub WordIn : List ℕ → ℕ → Type 0
WordIn w k = word_size * k + word_size ≤ length w

abbrev pub word_store : List ℕ → ℕ → Op
word_store w k = store (word_size * k) (part w (word_size * k) word_size)

-- the lines that rising words lie in, each once, past the line `last`
unfoldable pub lines_past : ℕ → List ℕ → List ℕ
lines_past last [] = []
lines_past last (k ∷ ks) = let l = k / line_words in pick (eqb l last) (lines_past last ks) (l ∷ lines_past l ks)

-- the commands of stage A for the words ks
abbrev pub stage_tape : List ℕ → List ℕ → List Op
stage_tape w ks = map (word_store w) ks ++ with_barrier (map flush (lines_past 0 ks))
