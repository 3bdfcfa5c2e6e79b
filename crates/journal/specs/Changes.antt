-- What differs between an image and its edited image: stage A's words and the changed places (document 01, 'The transaction's tape').
-- Assumes nothing.
use Rattle.std.specs.Prelude.{ℕ, zero, suc, ◌-◌, ◌*◌, ◌/◌, ◌%◌, Bool, ◌&&◌, ◌||◌, not, List, [], ◌∷◌, ◌++◌, length, take, drop, leb, eqb}
use Rattle.codec.specs.Lists.{part, eqs, pick}
use Rattle.device.specs.Tape.{Op, store, flush, barrier, malformed}
use Rattle.device.specs.Cut.{with_barrier}
use Rattle.page.specs.Layout.{page_size, line_size}
use Rattle.image.specs.PageZero.{page_count, root_of}
use Rattle.image.specs.Image.{reached, among}

-- "A word is 8 bytes"; the words of a page and of a line
abbrev pub word_size : ℕ
word_size = 8

abbrev pub page_words : ℕ
page_words = 128

abbrev pub line_words : ℕ
line_words = 8

-- ---- stage A

-- whether word k lies "outside page 0 and outside headers reached before", where rs are the pages reached before
unfoldable pub free_word : List ℕ → ℕ → Bool
free_word rs k = leb page_words k && (leb line_words (k % page_words) || not (among (k / page_words) rs))

-- "a word store for each word that differs ..., in rising order": of the n words from word k on, which old and new begin with
unfoldable pub word_stores : List ℕ → ℕ → ℕ → List ℕ → List ℕ → List Op
word_stores rs zero k old new = []
word_stores rs (suc n) k old new =
    let rest = word_stores rs n (suc k) (drop word_size old) (drop word_size new) in
    pick (free_word rs k) (pick (eqs (take word_size old) (take word_size new)) rest (store (word_size * k) (take word_size new) ∷ rest)) rest

-- "then a flush of each line so stored, rising": line l, and then those of the stores that follow, each once
unfoldable pub flushes_from : ℕ → List Op → List Op
flushes_from l [] = flush l ∷ []
flushes_from l (store p vs ∷ cs) = let rest = flushes_from (p / line_size) cs in pick (eqb l (p / line_size)) rest (flush l ∷ rest)
flushes_from l (flush m ∷ cs) = flushes_from l cs
flushes_from l (barrier ∷ cs) = flushes_from l cs
flushes_from l (malformed ∷ cs) = flushes_from l cs

unfoldable pub flushes_of : List Op → List Op
flushes_of [] = []
flushes_of (store p vs ∷ cs) = flushes_from (p / line_size) cs
flushes_of (flush m ∷ cs) = flushes_of cs
flushes_of (barrier ∷ cs) = flushes_of cs
flushes_of (malformed ∷ cs) = flushes_of cs

-- and the barrier of these flushes (document 02 (h))
unfoldable pub stage_a : List ℕ → List ℕ → List Op
stage_a a w =
    let stores = word_stores (reached a (root_of a)) (length a / word_size) 0 a w in
    stores ++ with_barrier (flushes_of stores)

-- ---- the changed places: "headers of pages reached both before and after, and the root word"

-- the header line of page p
unfoldable pub header_line : List ℕ → ℕ → List ℕ
header_line img p = part img (page_size * p) line_size

-- of the n pages from p on, those reached before and after whose header differs, rising
unfoldable pub changed_from : List ℕ → List ℕ → List ℕ → List ℕ → ℕ → ℕ → List ℕ
changed_from before after a w zero p = []
changed_from before after a w (suc n) p =
    let rest = changed_from before after a w n (suc p) in
    pick (among p before && among p after) (pick (eqs (header_line a p) (header_line w p)) rest (p ∷ rest)) rest

unfoldable pub changed_pages : List ℕ → List ℕ → List ℕ
changed_pages a w = changed_from (reached a (root_of a)) (reached w (root_of w)) a w (page_count a - 1) 1

-- whether the root word is as it was
unfoldable pub same_root : List ℕ → List ℕ → Bool
same_root a w = eqs (part a 8 8) (part w 8 8)
