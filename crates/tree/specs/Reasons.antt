-- The ground of an edit case by case, in the documents' words.
-- Assumes nothing.
use Rattle.std.specs.Prelude.{ℕ, zero, suc, ◌+◌, ◌-◌, ◌*◌, ◌≤◌, ◌<◌, ◌≡◌, ◌⊎◌, Bool, true, false, List, length}
use Rattle.page.specs.Layout.{line_size, slot_count, Rec, rec_of, size, read_head}
use Rattle.page.specs.Page.{records}
use Rattle.page.specs.Operations.{page_of, OnePage, TwoPages}
use Rattle.page.specs.PageFormat.{format1}
use Rattle.image.specs.Image.{entry_size, children, height_of}
use Rattle.edit.specs.EditList.{Edit, insert, update, delete}
use Rattle.edit.specs.Ledger.{add, replace}
use Rattle.edit.specs.Keys.{Kept, Broken}
use Rattle.tree.specs.State.{State}
use Rattle.tree.specs.Grounds.{table_of, leaf_of, next_page}

-- ---- room in a page

-- "If s exceeds start minus 64, or an insert finds 28 records": a record of size s has no room in the page p
abbrev pub Full : Bool → ℕ → List ℕ → Type 0
Full ins s p = ((read_head p).start - line_size < s) ⊎ ((ins ≡ true) × (slot_count ≤ length (records p)))

-- and when it has
abbrev pub NotFull : Bool → ℕ → List ℕ → Type 0
NotFull ins s p = (s ≤ (read_head p).start - line_size) × (ins ≡ true → length (records p) < slot_count)

-- ---- the pages that an edit takes

-- a page above the leaves, with the content start a and m records, takes w new ones, "left first, by the same rule": the left or only one as an update, the right one as an insert. It takes so many pages for them, and the page
-- above it then takes so many new records. Two records that have no room below start go with the others to one copy; where there are 28, "a root index that would hold a 29th record is split .. Lower index pages split
-- and copy likewise", and "if a left record has already forced a copy of a page that then splits, the copy's page counts as taken"
pub data TakesAbove (a m : ℕ) : ℕ → ℕ → ℕ → Type 0 where
  none-new : TakesAbove a m 0 0 0
  one-stays : entry_size ≤ a - line_size → TakesAbove a m 1 0 0
  one-copies : a - line_size < entry_size → TakesAbove a m 1 1 1
  two-stay : m < slot_count → entry_size * 2 ≤ a - line_size → TakesAbove a m 2 0 0
  two-copy : m < slot_count → a - line_size < entry_size * 2 → TakesAbove a m 2 1 1
  two-split : slot_count ≤ m → entry_size ≤ a - line_size → TakesAbove a m 2 2 2
  copied-split : slot_count ≤ m → a - line_size < entry_size → TakesAbove a m 2 3 2

-- n pages for a page above the leaves and all under it, and r new records for the page above, where P says the same of the page under it
pub record Sum (P : ℕ → ℕ → Type 0) (a m n r : ℕ) : Type 0 where
  pub under : ℕ
  pub new : ℕ
  pub here : ℕ
  pub below : P under new
  pub takes : TakesAbove a m new here r
  pub sum : n ≡ under + here

-- for page q of height h and the pages on the way to the leaf of the key k, where that leaf takes w: by the content starts of the pages on the way, and their numbers of records
abbrev pub TakesOnWay : ℕ → List ℕ → ℕ → ℕ → ℕ → ℕ → ℕ → Type 0
TakesOnWay k img w zero q n r = (n ≡ w) × (r ≡ w)
TakesOnWay k img w (suc h) q n r =
    Sum (λ x y. TakesOnWay k img w h (next_page format1 k img q) x y) (read_head (page_of img q)).start (length (children img q)) n r

-- an edit of the key k, whose leaf takes w pages, takes n: "Pages are taken for leaves, index pages and top". A root that is split gets a page above it
pub record PagesFor (st : State) (k w n : ℕ) : Type 0 where
  pub under : ℕ
  pub new : ℕ
  pub way : TakesOnWay k st.image w (height_of st.image st.root) st.root under new
  pub stays : new < 2 → n ≡ under
  pub grows : 2 ≤ new → n ≡ suc under

-- "10 now means a 29th record in the top page": the root is a top page with 28 records, as is the index page that the key k belongs to
pub record TopFull (st : State) (k : ℕ) : Type 0 where
  pub tall : height_of st.image st.root ≡ 2
  pub top : slot_count ≤ length (children st.image st.root)
  pub index : slot_count ≤ length (children st.image (next_page format1 k st.image st.root))

-- ---- the ground

-- the ground of a record of size s with the key k that goes into its leaf p, whose records are then rs
pub data Room (st : State) (k : ℕ) (ins : Bool) (s : ℕ) (p : List ℕ) (rs : List Rec) : ℕ → Type 0 where
  in_place : NotFull ins s p → Room st k ins s p rs 0
  copied : (n : ℕ) → Full ins s p → OnePage rs → PagesFor st k 1 n → n ≤ length st.free → Room st k ins s p rs 0
  no_copy : (n : ℕ) → Full ins s p → OnePage rs → PagesFor st k 1 n → length st.free < n → Room st k ins s p rs 11
  no_index : Full ins s p → TwoPages rs → TopFull st k → Room st k ins s p rs 10
  split : (n : ℕ) → Full ins s p → TwoPages rs → (TopFull st k → ⊥) → PagesFor st k 2 n → n ≤ length st.free → Room st k ins s p rs 0
  no-split : (n : ℕ) → Full ins s p → TwoPages rs → (TopFull st k → ⊥) → PagesFor st k 2 n → length st.free < n → Room st k ins s p rs 11

-- the ground of an edit: "8 insert of a key present; 9 other edit of a missing key" by the table as it then is; else "10 a 29th index record; 11 too few new pages", or 0
pub data Reason (st : State) : Edit → ℕ → Type 0 where
  broken : (e : Edit) (g : ℕ) → Broken e (table_of st) g → Reason st e g
  inserted : (k : ℕ) (v : List ℕ) (g : ℕ) → Kept (insert k v) (table_of st) → Room st k true (size (rec_of k v)) (leaf_of st k) (add k v (records (leaf_of st k))) g → Reason st (insert k v) g
  updated : (k : ℕ) (v : List ℕ) (g : ℕ) → Kept (update k v) (table_of st) → Room st k false (size (rec_of k v)) (leaf_of st k) (replace k v (records (leaf_of st k))) g → Reason st (update k v) g
  deleted : (k : ℕ) → Kept (delete k) (table_of st) → Reason st (delete k) 0
