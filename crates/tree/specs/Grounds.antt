-- Why an edit is refused, in plain terms: by the table as it then is, by whether the pages above its leaf are full, and by the number of pages that it takes, which the
-- rooms of its pages and their numbers of records tell (document 01, 'Each call and when it says no': "8 insert of a key present; 9 other edit of a missing key; 10 a 29th
-- index record; 11 too few new pages").
-- Assumes nothing.
use Rattle.std.specs.Prelude.{ℕ, zero, suc, ◌+◌, ◌≡◌, Bool, true, false, ◌&&◌, ◌||◌, not, List, [], ◌∷◌, ◌++◌, length, get_or, replicate, eqb, leb, ltb}
use Rattle.codec.specs.Lists.{pick}
use Rattle.device.specs.Calls.{index_full, pages_out}
use Rattle.page.specs.Layout.{Rec, rec_of, size}
use Rattle.page.specs.Operations.{page_of, fits_in}
use Rattle.page.specs.PageFormat.{PageFormat, format1}
use Rattle.image.specs.Image.{entry_size, child_of, records_at, height_in, height_of, tallest}
use Rattle.image.specs.Table.{table_in, table}
use Rattle.image.specs.Route.{route}
use Rattle.edit.specs.EditList.{Edit, insert, update, delete, key_of}
use Rattle.edit.specs.Ledger.{add, replace, apply_edits}
use Rattle.edit.specs.Keys.{key_rule}
use Rattle.tree.specs.State.{State, begin}
use Rattle.tree.specs.Edits.{is_full, no_keep}
use Rattle.tree.specs.Whole.{finished, edits_from}

-- ---- the way to the leaf of a key

-- of the pages that page q names, the one that the key belongs to: its slot and its number
unfoldable pub next_slot : PageFormat → ℕ → List ℕ → ℕ → ℕ
next_slot Pg k img q = route k (records_at Pg img q)

unfoldable pub next_page : PageFormat → ℕ → List ℕ → ℕ → ℕ
next_page Pg k img q = child_of (get_or (records_at Pg img q) (next_slot Pg k img q) (rec_of 0 []))

-- the leaf under page q of height h
unfoldable pub leaf_under : PageFormat → ℕ → List ℕ → ℕ → ℕ → ℕ
leaf_under Pg k img zero q = q
leaf_under Pg k img (suc h) q = leaf_under Pg k img h (next_page Pg k img q)

-- whether every page above it, from q down, has as many records as it may
unfoldable pub full_in : PageFormat → ℕ → List ℕ → ℕ → ℕ → Bool
full_in Pg k img zero q = true
full_in Pg k img (suc h) q = leb Pg.cap (length (records_at Pg img q)) && full_in Pg k img h (next_page Pg k img q)

-- ---- pages taken

-- a record of size s put into the page p, whose records with it are rs: none in place; "If s exceeds start minus 64, or an insert finds 28 records" one by a copy if
-- "they are at most 28 and at most 960 bytes", else two
unfoldable pub takes : (Pg : PageFormat) → Pg.Keep → Bool → ℕ → List ℕ → List Rec → ℕ
takes Pg k ins s p rs = pick (is_full Pg k ins s p) (pick (fits_in Pg.cap rs) 1 2) 0

-- an edit whose key rule is kept, in its leaf p: a delete needs no room
unfoldable pub leaf_takes : (Pg : PageFormat) → Pg.Keep → Edit → List ℕ → ℕ
leaf_takes Pg x (insert k v) p = takes Pg x true (size (rec_of k v)) p (add k v (Pg.recs p))
leaf_takes Pg x (update k v) p = takes Pg x false (size (rec_of k v)) p (replace k v (Pg.recs p))
leaf_takes Pg x (delete k) p = 0

-- an index page with the room x: its first new record takes a page where it has no room
unfoldable pub first_takes : (Pg : PageFormat) → Pg.Room → ℕ
first_takes Pg x = pick (Pg.fits x entry_size) 0 1

-- the room after it, where it is the i-th of m records
unfoldable pub room_after : (Pg : PageFormat) → Pg.Room → ℕ → ℕ → Pg.Room
room_after Pg x i m = pick (Pg.fits x entry_size) (Pg.after false i entry_size x) (Pg.fresh (replicate m entry_size))

-- a second one, an insert
unfoldable pub second_takes : (Pg : PageFormat) → Pg.Room → ℕ → ℕ
second_takes Pg x m = pick (not (Pg.fits x entry_size) || leb Pg.cap m) (pick (leb Pg.cap m) 2 1) 0

-- the pages that w new records take in it, and the new records that the page above then takes
unfoldable pub takes_above : (Pg : PageFormat) → Pg.Room → ℕ → ℕ → ℕ → ℕ
takes_above Pg x i m zero = 0
takes_above Pg x i m (suc zero) = first_takes Pg x
takes_above Pg x i m (suc (suc w)) = first_takes Pg x + second_takes Pg (room_after Pg x i m) m

unfoldable pub raised_above : (Pg : PageFormat) → Pg.Room → ℕ → ℕ → ℕ → ℕ
raised_above Pg x i m zero = 0
raised_above Pg x i m (suc zero) = first_takes Pg x
raised_above Pg x i m (suc (suc w)) = let s = second_takes Pg (room_after Pg x i m) m in pick (eqb s 0) (first_takes Pg x) s

-- the new records that the page above q takes, and the pages taken at q and under it
unfoldable pub raised_in : (Pg : PageFormat) → (ℕ → Pg.Keep) → Edit → List ℕ → ℕ → ℕ → ℕ
raised_in Pg keep e img zero q = leaf_takes Pg (keep q) e (page_of img q)
raised_in Pg keep e img (suc h) q =
    raised_above Pg (Pg.room (keep q) (page_of img q)) (next_slot Pg (key_of e) img q) (length (records_at Pg img q)) (raised_in Pg keep e img h (next_page Pg (key_of e) img q))

unfoldable pub takes_in : (Pg : PageFormat) → (ℕ → Pg.Keep) → Edit → List ℕ → ℕ → ℕ → ℕ
takes_in Pg keep e img zero q = leaf_takes Pg (keep q) e (page_of img q)
takes_in Pg keep e img (suc h) q =
    takes_in Pg keep e img h (next_page Pg (key_of e) img q)
    + takes_above Pg (Pg.room (keep q) (page_of img q)) (next_slot Pg (key_of e) img q) (length (records_at Pg img q)) (raised_in Pg keep e img h (next_page Pg (key_of e) img q))

-- and one more where the root is split
unfoldable pub takes_edit : (Pg : PageFormat) → (ℕ → Pg.Keep) → Edit → State → ℕ
takes_edit Pg keep e st =
    let h = height_in Pg st.image st.root in
    takes_in Pg keep e st.image h st.root + pick (eqb (raised_in Pg keep e st.image h st.root) 2) 1 0

-- ---- the ground

-- a leaf that is split where no page above it has room for one record more, and the root is as tall as may be
unfoldable pub overflows : (Pg : PageFormat) → (ℕ → Pg.Keep) → Edit → State → Bool
overflows Pg keep e st =
    let h = height_in Pg st.image st.root in
    let q = leaf_under Pg (key_of e) st.image h st.root in
    eqb h tallest && (full_in Pg (key_of e) st.image h st.root && eqb (leaf_takes Pg (keep q) e (page_of st.image q)) 2)

-- of an edit whose key rule is kept
unfoldable pub placing_in : (Pg : PageFormat) → (ℕ → Pg.Keep) → State → Edit → ℕ
placing_in Pg keep st e = pick (overflows Pg keep e st) index_full (pick (ltb (length st.free) (takes_edit Pg keep e st)) pages_out 0)

-- the number that refuses the edit, or 0: the key rule comes first
unfoldable pub ground_in : (Pg : PageFormat) → (ℕ → Pg.Keep) → State → Edit → ℕ
ground_in Pg keep st e =
    let rule = key_rule e (table_in Pg st.image (height_in Pg st.image st.root) st.root) in
    pick (eqb rule 0) (placing_in Pg keep st e) rule

-- ---- document 01's pages

-- the table of a state
abbrev pub table_of : State → List Rec
table_of st = table_in format1 st.image (height_of st.image st.root) st.root

-- the leaf that a key belongs to
unfoldable pub leaf_of : State → ℕ → List ℕ
leaf_of st k = page_of st.image (leaf_under format1 k st.image (height_of st.image st.root) st.root)

abbrev pub placing : State → Edit → ℕ
placing st e = placing_in format1 no_keep st e

abbrev pub edit_ground : State → Edit → ℕ
edit_ground st e = ground_in format1 no_keep st e

-- the list es on the image a is refused with k at edit i: those before it are made, and k is what the grounds say
pub record Grounds (a : List ℕ) (es : List Edit) (k i : ℕ) : Type 0 where
  pub before : List Edit
  pub culprit : Edit
  pub rest : List Edit
  pub shape : es ≡ before ++ culprit ∷ rest
  pub number : i ≡ length before
  pub state : State
  pub reached : edits_from 0 before (begin a) ≡ finished state
  pub holding : table_of state ≡ apply_edits before (table a)
  -- the free pages are the first ones, less those taken, which stood in front
  pub taken : List ℕ
  pub free : (begin a).free ≡ taken ++ state.free
  pub because : k ≡ edit_ground state culprit
