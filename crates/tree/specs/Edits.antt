-- One edit on the tree, by the height of its pages: one rule for a record put into a page of any kind, and one for what a page takes from the page under it
-- (document 01, 'Edits').
-- Assumes nothing.
use Rattle.std.specs.Prelude.{ℕ, zero, suc, ◌+◌, ◌*◌, Bool, true, false, ◌&&◌, ◌||◌, not, List, [], ◌∷◌, length, get_or, take, drop, eqb, leb, Err, Ok, Result}
use Rattle.codec.specs.Lists.{pick}
use Rattle.device.specs.Calls.{key_present, key_missing, index_full, pages_out}
use Rattle.page.specs.Layout.{leaf_kind, Rec, rec_of, size}
use Rattle.page.specs.Operations.{made, sizes, page_of, fits_in}
use Rattle.page.specs.PageFormat.{PageFormat, format1}
use Rattle.page.specs.Search.{searched}
use Rattle.image.specs.Image.{child_of, index_rec, records_at, leaves_in, height_in, tallest, first_key}
use Rattle.image.specs.Route.{route}
use Rattle.edit.specs.EditList.{Edit, key_of}
use Rattle.edit.specs.EditList as edits
use Rattle.tree.specs.State.{State, Step, done, refused, with_page, with_root, taken, filled}

-- what stands for a page once an edit under it is made: the page itself, nothing, one new page, or two, the right one from a separator on
pub data Change : Type 0 where
  kept : Change
  gone : Change
  one : ℕ → Change
  two : ℕ → ℕ → ℕ → Change

-- that change, with the state after it, or the number of a refusal
pub data PageStep : Type 0 where
  now : Change → State → PageStep
  stops : ℕ → PageStep

-- ---- where a full page is split

-- "m smallest with twice their bytes at least the total. The first version follows that definition, calling itself on the rest of the list."
unfoldable pub split_from : ℕ → ℕ → List Rec → ℕ
split_from total seen [] = 0
split_from total seen (r ∷ rs) = let rest = suc (split_from total (seen + size r) rs) in pick (leb total (2 * seen)) 0 rest

unfoldable pub split_point : List Rec → ℕ
split_point rs = split_from (sizes rs) 0 rs

-- ---- a record put into a page of any kind, whose records with it are then rs

-- "If s exceeds start minus 64, or an insert finds 28 records"
unfoldable pub is_full : (Pg : PageFormat) → Pg.Keep → Bool → ℕ → List ℕ → Bool
is_full Pg k ins s p = not (Pg.fits (Pg.room k p) s) || (ins && leb Pg.cap (length (Pg.recs p)))

-- "copied to one new page"; "11 too few new pages"
unfoldable pub copied : PageFormat → ℕ → List Rec → State → PageStep
copied Pg kind rs st = taken (stops pages_out) st (λ q s. now (one q) (filled Pg kind q rs s))

-- "else split over two": "left, right"; "the right one .. takes its smallest key"
unfoldable pub split : PageFormat → ℕ → List Rec → State → PageStep
split Pg kind rs st =
    let m = split_point rs in
    taken (stops pages_out) st (λ p s.
    taken (stops pages_out) s (λ q u.
    now (two p (first_key (drop m rs) 0) q) (filled Pg kind q (drop m rs) (filled Pg kind p (take m rs) u))))

-- "If they are at most 28 and at most 960 bytes, they are copied to one new page; else split over two"; "10 a 29th index record": where no page above has room for one record more
unfoldable pub moved : PageFormat → ℕ → Bool → List Rec → State → PageStep
moved Pg kind full rs st = pick (fits_in Pg.cap rs) (copied Pg kind rs st) (pick full (stops index_full) (split Pg kind rs st))

-- the record r into page q, as the i-th of an insert or in place of the i-th
unfoldable pub put : (Pg : PageFormat) → (ℕ → Pg.Keep) → ℕ → Bool → Bool → ℕ → Rec → ℕ → State → PageStep
put Pg keep kind full ins i r q st =
    let p = page_of st.image q in
    pick (is_full Pg (keep q) ins (size r) p) (moved Pg kind full (made ins i r (Pg.recs p)) st) (now kept (with_page q (Pg.place (keep q) ins i r p) st))

-- "Delete drops the slot; start stays." A page left empty is gone, unless it is the only leaf: "A leaf left empty, unless it is the only one, loses its index record"
unfoldable pub dropped : PageFormat → Bool → ℕ → ℕ → State → PageStep
dropped Pg only j q st =
    let p = Pg.remove (page_of st.image q) j in
    now (pick (eqb (length (Pg.recs p)) 0 && not only) gone kept) (with_page q p st)

-- ---- what a page takes from the page under it

-- a second record put into what stands for page q after the first: a copy that stays in place is the page's, one that is copied or split in turn is not
unfoldable pub copy_then : ℕ → PageStep → PageStep
copy_then x (stops n) = stops n
copy_then x (now kept t) = now (one x) t
copy_then x (now gone t) = now gone t
copy_then x (now (one y) t) = now (one y) t
copy_then x (now (two y k z) t) = now (two y k z) t

unfoldable pub then_into : PageStep → ℕ → (ℕ → State → PageStep) → PageStep
then_into (stops n) q f = stops n
then_into (now kept s) q f = f q s
then_into (now gone s) q f = now gone s
then_into (now (one x) s) q f = copy_then x (f x s)
then_into (now (two x k y) s) q f = now (two x k y) s

-- the i-th record of page q named a page whose range starts at low: "The left or only record takes the old leaf's slot, as in an update"; "the right one is an insert"; each "by the same rule"
unfoldable pub absorbed : (Pg : PageFormat) → (ℕ → Pg.Keep) → ℕ → ℕ → ℕ → ℕ → Change → State → PageStep
absorbed Pg keep kind i low q kept st = now kept st
absorbed Pg keep kind i low q gone st = dropped Pg false i q st
absorbed Pg keep kind i low q (one a) st = put Pg keep kind false false i (index_rec low a) q st
absorbed Pg keep kind i low q (two a k b) st =
    then_into (put Pg keep kind false false i (index_rec low a) q st) q (λ x s. put Pg keep kind false true (suc i) (index_rec k b) x s)

-- ---- one edit under page q

-- "8 insert of a key present; 9 other edit of a missing key"
unfoldable pub edit_leaf : (Pg : PageFormat) → (ℕ → Pg.Keep) → Bool → Bool → Edit → ℕ → State → Result ℕ ℕ → PageStep
edit_leaf Pg keep only full (edits.insert k v) q st (Ok j) = stops key_present
edit_leaf Pg keep only full (edits.insert k v) q st (Err j) = put Pg keep leaf_kind full true j (rec_of k v) q st
edit_leaf Pg keep only full (edits.update k v) q st (Ok j) = put Pg keep leaf_kind full false j (rec_of k v) q st
edit_leaf Pg keep only full (edits.update k v) q st (Err j) = stops key_missing
edit_leaf Pg keep only full (edits.delete k) q st (Ok j) = dropped Pg only j q st
edit_leaf Pg keep only full (edits.delete k) q st (Err j) = stops key_missing

unfoldable pub onto : PageStep → (Change → State → PageStep) → PageStep
onto (stops n) f = stops n
onto (now c s) f = f c s

-- where the range of the i-th page that a page names starts, whose own range starts at lo: "keeps its separator, or takes 0 if first"
unfoldable pub low_of : ℕ → ℕ → ℕ → ℕ
low_of zero lo sep = lo
low_of (suc i) lo sep = sep

-- the edit e under page q of height h, whose range starts at lo; `only`: the store has one leaf; `full`: no page above q has room for one record more
unfoldable pub edit_in : (Pg : PageFormat) → (ℕ → Pg.Keep) → Bool → Bool → Edit → ℕ → ℕ → ℕ → State → PageStep
edit_in Pg keep only full e zero lo q st = edit_leaf Pg keep only full e q st (searched (key_of e) 0 (records_at Pg st.image q))
edit_in Pg keep only full e (suc h) lo q st =
    let cs = records_at Pg st.image q in
    let i = route (key_of e) cs in
    let c = get_or cs i (rec_of 0 []) in
    let low = low_of i lo c.key in
    onto (edit_in Pg keep only (full && leb Pg.cap (length cs)) e h low (child_of c) st) (λ x s. absorbed Pg keep (suc (suc h)) i low q x s)

-- ---- the root, of height h

-- "which changes the root number". A root that is split, which the tallest is not, gets a page above it
unfoldable pub rooted : PageFormat → ℕ → PageStep → Step
rooted Pg h (stops n) = refused n
rooted Pg h (now kept s) = done s
rooted Pg h (now gone s) = done s
rooted Pg h (now (one q) s) = done (with_root q s)
rooted Pg h (now (two p k q) s) = taken (refused pages_out) s (λ r u. done (with_root r (filled Pg (suc (suc h)) r (index_rec 0 p ∷ index_rec k q ∷ []) u)))

-- "the only one", of a leaf
unfoldable pub only_leaf : PageFormat → List ℕ → ℕ → ℕ → Bool
only_leaf Pg img h q = eqb (length (leaves_in Pg img h q)) 1

unfoldable pub edited_in : (Pg : PageFormat) → (ℕ → Pg.Keep) → Edit → State → Step
edited_in Pg keep e st =
    let h = height_in Pg st.image st.root in
    rooted Pg h (edit_in Pg keep (only_leaf Pg st.image h st.root) (eqb h tallest) e h 0 st.root st)

-- ---- document 01's pages

abbrev pub no_keep : ℕ → Unit {0}
no_keep q = tt

abbrev pub edited : Edit → State → Step
edited e st = edited_in format1 no_keep e st
