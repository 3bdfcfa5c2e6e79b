-- Rows of the two heights (document 02 (j)): a root index split, with and without the forced copy, and under a top page a leaf in slot 0 of the second index page and an index page left
-- empty.
-- Assumes nothing.
use Rattle.std.specs.Prelude.{ℕ, zero, suc, ◌+◌, ◌*◌, List, [], ◌∷◌, ◌++◌, replicate}
use Rattle.codec.specs.Lists.{splice}
use Rattle.codec.specs.Numbers.{bytes_of}
use Rattle.page.specs.Layout.{page_size, leaf_kind, index_kind, top_kind, Rec, rec_of}
use Rattle.image.specs.Image.{index_rec}
use Rattle.image.specs.Fresh.{fresh_zero, filled_pages, stored}
use Rattle.edit.specs.EditList.{insert, update, delete}
use Rattle.worked.specs.Row.{Row, refusal, count, is_reached, entry, records}
use Rattle.worked.specs.Rows.{value}

-- ---- 28 leaves under a root index

-- n leaves with one record of 24 bytes each, under the keys k, k + 100, ..
unfoldable pub leaves_from : ℕ → ℕ → List (List Rec)
leaves_from zero k = []
leaves_from (suc n) k = (rec_of k (value 8) ∷ []) ∷ leaves_from n (k + 100)

-- the first leaf has four records of 216 bytes, and no room for a fifth
unfoldable pub twenty-eight-leaves : List (List Rec)
twenty-eight-leaves = (rec_of 1 (value 200) ∷ rec_of 2 (value 200) ∷ rec_of 3 (value 200) ∷ rec_of 4 (value 200) ∷ []) ∷ leaves_from 27 200

-- root 1, leaves 2 to 29, of n pages; the root's content start is 352
unfoldable pub full-index : ℕ → List ℕ
full-index n = stored n twenty-eight-leaves

-- the same with the root's content start at 64, where nothing more fits
unfoldable pub packed-index : ℕ → List ℕ
packed-index n = splice (full-index n) (page_size + 2) (bytes_of 2 64)

-- "A root index that would hold a 29th record is split by the leaf rule into two new index pages under a new kind 3 root": the leaf's pages are 34 and 33, the left record goes in place, the 29th
-- makes the split, 15 left on page 32 and 14 right on page 31, and the top is page 30. The right page's first separator, of its leaf, is 1,500
abbrev pub root-split : Row
root-split =
    record {
      setup = [];
      edits = insert 5 (value 200) ∷ [];
      asks = refusal ∷ entry 30 0 ∷ entry 30 1 ∷ count 32 ∷ count 31 ∷ entry 32 0 ∷ entry 32 1 ∷ count 34 ∷ count 33 ∷ is_reached 1 ∷ [];
      says = 0 ∷ 0 ∷ 32 ∷ 1500 ∷ 31 ∷ 15 ∷ 14 ∷ 0 ∷ 34 ∷ 4 ∷ 33 ∷ 3 ∷ 2 ∷ 0 ∷ [];
    }

-- "If a left record has already forced a copy of a page that then splits, the copy's page counts as taken, before those of the split": the copy is page 33
abbrev pub copied-split : Row
copied-split =
    record {
      setup = [];
      edits = insert 5 (value 200) ∷ [];
      asks = refusal ∷ entry 30 0 ∷ entry 30 1 ∷ count 32 ∷ count 31 ∷ entry 32 0 ∷ entry 32 1 ∷ is_reached 33 ∷ is_reached 1 ∷ [];
      says = 0 ∷ 0 ∷ 32 ∷ 1500 ∷ 31 ∷ 15 ∷ 14 ∷ 0 ∷ 35 ∷ 4 ∷ 34 ∷ 0 ∷ 0 ∷ [];
    }

-- ---- two index pages under a top page

-- root 1 over index pages 2 and 3, each with one leaf, 4 and 5, of 10 pages: the second index page starts at 50, and its leaf's own separator is 60
unfoldable pub two-nodes : List Rec → List ℕ
two-nodes l =
    fresh_zero 10
    ++ (filled_pages top_kind 1 ((index_rec 0 2 ∷ index_rec 50 3 ∷ []) ∷ [])
    ++ (filled_pages index_kind 2 ((index_rec 0 4 ∷ []) ∷ (index_rec 60 5 ∷ []) ∷ [])
    ++ (filled_pages leaf_kind 4 ((rec_of 10 (value 8) ∷ []) ∷ l ∷ []) ++ replicate (page_size * 4) 0)))

-- "The first leaf of any index page may hold keys below its own separator but not below that page's": 55. "When such a leaf is copied or split, its left record takes that page's separator": 50
unfoldable pub full-second : List ℕ
full-second = two-nodes (rec_of 55 (value 200) ∷ rec_of 70 (value 200) ∷ rec_of 80 (value 200) ∷ rec_of 90 (value 200) ∷ [])

abbrev pub slot-zero : Row
slot-zero =
    record {
      setup = [];
      edits = update 55 (value 200) ∷ [];
      asks = refusal ∷ entry 3 0 ∷ entry 1 1 ∷ is_reached 9 ∷ is_reached 5 ∷ count 9 ∷ [];
      says = 0 ∷ 50 ∷ 9 ∷ 50 ∷ 3 ∷ 1 ∷ 0 ∷ 4 ∷ [];
    }

-- "An index page left empty loses its record unless it is the only one; a top page stays": then the key belongs to the first index page, and is inserted in its leaf
unfoldable pub one-second : List ℕ
one-second = two-nodes (rec_of 55 (value 8) ∷ [])

abbrev pub node-lost : Row
node-lost =
    record {
      setup = [];
      edits = delete 55 ∷ insert 56 (value 8) ∷ [];
      asks = refusal ∷ is_reached 5 ∷ is_reached 3 ∷ is_reached 1 ∷ count 1 ∷ count 4 ∷ records ∷ [];
      says = 0 ∷ 0 ∷ 0 ∷ 1 ∷ 1 ∷ 2 ∷ 2 ∷ [];
    }
