-- Page 0: the mark, the root and the line that holds them (document 01, 'Page layout').
-- Assumes nothing.
use Rattle.std.specs.Prelude.{ℕ, ◌/◌, Bool, ◌&&◌, List, [], ◌∷◌, ◌++◌, length, get_or, replicate, leb, ltb}
use Rattle.codec.specs.Lists.{part, eqs, every, pick}
use Rattle.codec.specs.Numbers.{number, bytes_of}
use Rattle.page.specs.Layout.{page_size}
use Rattle.image.specs.declared.PageZero.{PageZero}
use Rattle.image.specs.declared.PageZero.TheVariants.{Wrong, Waiting, Ready}

-- N, the number of pages
abbrev pub page_count : List ℕ → ℕ
page_count img = length img / page_size

-- "1 to N-1"
unfoldable pub is_page : ℕ → ℕ → Bool
is_page n p = leb 1 p && ltb p n

-- "word 1 the root page number"
unfoldable pub root_of : List ℕ → ℕ
root_of img = number (part img 8 8)

-- "k (1 to 15 logged headers)": the most that the log holds, one a line of page 0 past its first
abbrev pub log_most : ℕ
log_most = 15

-- "byte 0 = 1, byte 1 = k (1 to 15 logged headers), bytes 2-3 = the new root page (1 to N-1), bytes 4-7 zero"
unfoldable pub mark_bytes : ℕ → ℕ → List ℕ
mark_bytes k root = 1 ∷ k ∷ (bytes_of 2 root ++ replicate 4 0)

-- "The mark is 0"
unfoldable pub no_mark : List ℕ
no_mark = replicate 8 0

-- whether the word m is a well-formed mark that waits, in an image of n pages
unfoldable pub mark_ok : ℕ → List ℕ → Bool
mark_ok n m =
    let k = get_or m 1 0 in
    let root = number (part m 2 2) in
    every (leb 1 k ∷ leb k log_most ∷ is_page n root ∷ eqs m (mark_bytes k root) ∷ [])

-- words 1 to 7: "word 1 the root page number; word 2 is N (2 bytes), format number 1 (2 bytes), four zeros; words 3 to 7 are zero"
unfoldable pub words_past : ℕ → ℕ → List ℕ
words_past n root = bytes_of 8 root ++ (bytes_of 2 n ++ (bytes_of 2 1 ++ replicate 44 0))

-- "Page 0 is wrong if line 0 departs from this, the mark included, or the root number is not 1 to N-1."
unfoldable pub page_zero : List ℕ → PageZero
page_zero img =
    let n = page_count img in
    let root = root_of img in
    let m = part img 0 8 in
    pick (is_page n root && eqs (part img 8 56) (words_past n root))
    (pick (eqs m no_mark) (Ready root) (pick (mark_ok n m) (Waiting (get_or m 1 0) (number (part m 2 2))) Wrong))
    Wrong
