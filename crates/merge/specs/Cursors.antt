-- Places in two books, as the code goes through both in key order: what is left of each, and what its functions ask for and hand on.
-- Assumes nothing.
use Rattle.std.specs.Prelude.{ℕ, suc, ◌+◌, ◌-◌, ◌<◌, ◌≡◌, ◌⊎◌, Bool, true, false, ◌&&◌, List, [], ◌∷◌, ◌++◌, length, get_or, take, drop, ltb, leb}
use Rattle.page.specs.Layout.{page_size, line_size, slot_count, leaf_kind, top_key, Rec, size}
use Rattle.page.specs.Page.{records}
use Rattle.page.specs.Operations.{fill, page_of}
use Rattle.image.specs.Image.{first_key, sound}
use Rattle.image.specs.Table.{records_on}
use Rattle.merge.specs.Tables.{merged, apart}
use Rattle.merge.specs.Leaves.{leaf_pages, packed}
use Rattle.merge.specs.declared.Cursor.{Cursor}
use Rattle.merge.specs.declared.Cursors.{Cursors}

-- ---- one book

-- what is left of the book's table at a place in it
unfoldable pub left_at : List ℕ → Cursor → List Rec
left_at img c = drop c.slot (records (page_of img c.page)) ++ records_on img (drop (suc c.leaf) (leaf_pages img))

-- a place in the book: in one of its leaves, at a record of it unless nothing is left; with the key of what comes next, or the end of all keys
pub record Stands (img : List ℕ) (c : Cursor) : Type 0 where
  pub is_sound : sound img ≡ true
  pub leaf : c.leaf < length (leaf_pages img)
  pub page : c.page ≡ get_or (leaf_pages img) c.leaf 0
  pub slot : (c.slot < length (records (page_of img c.page))) ⊎ (left_at img c ≡ [])
  pub key : c.key ≡ first_key (left_at img c) (suc top_key)

-- ---- both

-- a place in each
pub record Ready (a b : List ℕ) (at : Cursors) : Type 0 where
  pub first : Stands a at.first
  pub second : Stands b at.second

-- what is left of both, in key order, and whether no key of it is in both
unfoldable pub left_of : List ℕ → List ℕ → Cursors → List Rec
left_of a b at = merged (left_at a at.first) (left_at b at.second)

unfoldable pub apart_at : List ℕ → List ℕ → Cursors → Bool
apart_at a b at = apart (left_at a at.first) (left_at b at.second)

-- the record that comes next is that of the place c of the book img
pub record Comes (a b : List ℕ) (at : Cursors) (img : List ℕ) (c : Cursor) : Type 0 where
  pub stands : Stands img c
  pub some : c.key < suc top_key
  pub one : take 1 (left_of a b at) ≡ take 1 (left_at img c)

-- from the place `at` one record was passed
pub record Passed (a b : List ℕ) (at to : Cursors) : Type 0 where
  pub ready : Ready a b to
  pub left : left_of a b to ≡ drop 1 (left_of a b at)
  pub still : apart_at a b to ≡ apart_at a b at

-- ---- leaves

-- whether a leaf with n records of s bytes takes one of z bytes
unfoldable pub takes : ℕ → ℕ → ℕ → Bool
takes n s z = ltb n slot_count && leb (s + z) (page_size - line_size)

-- whether it takes the first of rs; nothing if there is none
unfoldable pub takes_next : ℕ → ℕ → List Rec → Bool
takes_next n s [] = false
takes_next n s (r ∷ rs) = takes n s (size r)

-- the leaves of what is left once a leaf is filled: none if nothing is left
unfoldable pub onward : List Rec → List (List Rec)
onward [] = []
onward (r ∷ rs) = packed [] (r ∷ rs)

-- from the place `from` and the page p, a leaf was filled: q is the page, and `to` the place after its records
pub record LeafFilled (a b : List ℕ) (own : ℕ) (from : Cursors) (p : List ℕ) (to : Cursors) (q : List ℕ) : Type 0 where
  pub ready : Ready a b to
  pub still : apart_at a b to ≡ true
  pub leaf : List Rec
  pub is_page : q ≡ fill p leaf_kind own leaf
  pub split : packed [] (left_of a b from) ≡ leaf ∷ onward (left_of a b to)
