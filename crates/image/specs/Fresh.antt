-- A store that is written as a whole (document 02 (i) and (j)), and a fresh one (document 01, "A fresh store has root 1 with one record ..").
-- Assumes nothing.
use Rattle.std.specs.Prelude.{ℕ, zero, suc, ◌+◌, ◌-◌, ◌*◌, ◌/◌, ◌≤◌, ◌≡◌, ◌⊎◌, List, [], ◌∷◌, ◌++◌, map, length, take, drop, replicate, leb}
use Rattle.codec.specs.Lists.{All, pick}
use Rattle.page.specs.Layout.{page_size, line_size, slot_count, top_key, leaf_kind, index_kind, top_kind, Rec}
use Rattle.page.specs.Page.{RecOk}
use Rattle.page.specs.Operations.{fill, OnePage, page_of, put_page}
use Rattle.image.specs.PageZero.{no_mark, words_past}
use Rattle.image.specs.Image.{index_rec, first_key}
use Rattle.image.specs.Facts.{Rising}

-- a page of zeros
unfoldable pub zero_page : List ℕ
zero_page = replicate page_size 0

-- page 0 with mark 0 and root 1
unfoldable pub fresh_zero : ℕ → List ℕ
fresh_zero n = no_mark ++ (words_past n 1 ++ replicate (page_size - line_size) 0)

-- ---- a store that is written as a whole: page 1 is its root, an index page, or, where it has more than 28 leaves, a top page with the index pages from page 2 on; then come its leaves,
-- each with its records

-- "The first separator is 0 and the others are smallest keys." (document 02 (i))
unfoldable pub separators : List (List Rec) → List ℕ
separators [] = []
separators (l ∷ ls) = 0 ∷ map (λ (m : List Rec). first_key m 0) ls

-- the index records of the pages from k on, by their separators
unfoldable pub named : ℕ → List ℕ → List Rec
named k [] = []
named k (s ∷ ss) = index_rec s k ∷ named (suc k) ss

-- the numbers of the pages of the lists ls, from k on
unfoldable pub numbered : ℕ → List (List Rec) → List ℕ
numbered k [] = []
numbered k (l ∷ ls) = k ∷ numbered (suc k) ls

-- "Each page is filled as a new one is": pages of this kind with the records ls, from page k on
unfoldable pub filled_pages : ℕ → ℕ → List (List Rec) → List ℕ
filled_pages kind k [] = []
filled_pages kind k (l ∷ ls) = fill zero_page kind k l ++ filled_pages kind (suc k) ls

-- "index pages filled to 28 each" (document 02 (j)): how many n leaves need, and the pages above the leaves, "a top only if 28 leaves aren't enough"
unfoldable pub index_count : ℕ → ℕ
index_count n = (n + (slot_count - 1)) / slot_count

unfoldable pub pages_above : ℕ → ℕ
pages_above n = pick (leb n slot_count) 1 (suc (index_count n))

-- the records cs in n lists of 28 each, the last of which takes the rest
unfoldable pub in_pages : ℕ → List Rec → List (List Rec)
in_pages zero cs = []
in_pages (suc n) cs = take slot_count cs ∷ in_pages n (drop slot_count cs)

-- the index records of the leaves ls
unfoldable pub index_over : List (List Rec) → List Rec
index_over ls = named (suc (pages_above (length ls))) (separators ls)

-- the index pages under a top page, by their records
unfoldable pub index_pages : List (List Rec) → List (List Rec)
index_pages ls = in_pages (index_count (length ls)) (index_over ls)

-- the top page's records: their first separators, the first of which is 0
unfoldable pub top_over : List (List Rec) → List Rec
top_over ls = named 2 (map (λ (cs : List Rec). first_key cs 0) (index_pages ls))

-- the pages above the leaves: "as page 1, then index pages"
unfoldable pub pages_over : List (List Rec) → List ℕ
pages_over ls =
    pick (leb (length ls) slot_count) (filled_pages index_kind 1 (index_over ls ∷ [])) (filled_pages top_kind 1 (top_over ls ∷ []) ++ filled_pages index_kind 2 (index_pages ls))

-- "All other bytes are as in a fresh store."
unfoldable pub stored : ℕ → List (List Rec) → List ℕ
stored n ls =
    let k = suc (pages_above (length ls)) in
    fresh_zero n ++ (pages_over ls ++ (filled_pages leaf_kind k ls ++ replicate (page_size * (n - (k + length ls))) 0))

-- all the records of some leaves
unfoldable pub all_records : List (List Rec) → List Rec
all_records [] = []
all_records (l ∷ ls) = l ++ all_records ls

-- leaves that a store can be made of: so many that the top page names their index pages, each with room for its records, none empty unless it is the only one, keys rising over them all
pub record Storable (ls : List (List Rec)) : Type 0 where
  pub some : 1 ≤ length ls
  pub few : index_count (length ls) ≤ slot_count
  pub good : All (All RecOk) ls
  pub fit : All OnePage ls
  pub filled : (length ls ≡ 1) ⊎ All (λ (l : List Rec). 1 ≤ length l) ls
  pub rising : Rising 1 (all_records ls) (suc top_key)

-- ---- how it is written: page 0 and zeros first, then its leaves, then the pages above them

unfoldable pub blank : ℕ → List ℕ
blank n = fresh_zero n ++ replicate (page_size * (n - 1)) 0

-- the lists ls filled into the image's pages from k on, as pages of this kind
unfoldable pub put_filled : ℕ → List ℕ → ℕ → List (List Rec) → List ℕ
put_filled kind img k [] = img
put_filled kind img k (l ∷ ls) = put_filled kind (put_page img k (fill (page_of img k) kind k l)) (suc k) ls

-- ---- a fresh store

-- "root 1 with one record (separator 0, page 2) at offset 1,000, an empty leaf 2 with start 1,024, and zeros elsewhere": a store with one empty leaf
unfoldable pub fresh : ℕ → List ℕ
fresh n = stored n ([] ∷ [])
