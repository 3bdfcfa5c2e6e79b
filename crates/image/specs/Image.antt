-- When an image is sound: page 0, and the tree of pages under the root, each within its range of keys (document 01, "An image is sound if ..").
-- A page has a height: a leaf 0, an index page 1, a top page 2. What lies under a page, and when it is sound, goes by the height, for pages of any format
-- (document 02 (j)).
-- Assumes nothing.
use Rattle.std.specs.Prelude.{ℕ, zero, suc, ◌+◌, ◌-◌, ◌≡◌, Bool, true, false, ◌&&◌, ◌||◌, not, List, [], ◌∷◌, ◌++◌, map, length, leb, ltb, eqb}
use Rattle.codec.specs.Lists.{every, all_b, All, pick}
use Rattle.codec.specs.Numbers.{number, bytes_of}
use Rattle.device.specs.Calls.{is_image_size}
use Rattle.page.specs.Layout.{leaf_kind, top_key, Rec, rec_of}
use Rattle.page.specs.Page.{records}
use Rattle.page.specs.PageFormat.{PageFormat, format1}
use Rattle.page.specs.Operations.{page_of}
use Rattle.image.specs.PageZero.{page_count, is_page, page_zero}
use Rattle.image.specs.declared.PageZero.{PageZero}
use Rattle.image.specs.declared.PageZero.TheVariants.{Wrong, Waiting, Ready}
use Rattle.image.specs.declared.Place.{Place}

-- ---- index records

-- the page that an index record names: "its value a 2-byte page number"
unfoldable pub child_of : Rec → ℕ
child_of c = number c.value

-- the index record of the page p, and its size
unfoldable pub index_rec : ℕ → ℕ → Rec
index_rec sep p = rec_of sep (bytes_of 2 p)

abbrev pub entry_size : ℕ
entry_size = 24

-- records of that form
abbrev pub IsEntry : Rec → Type 0
IsEntry c = length c.value ≡ 2

abbrev pub Entries : List Rec → Type 0
Entries cs = All IsEntry cs

-- the records of a page above the leaves, each a separator and a page; and the pages alone
unfoldable pub children : List ℕ → ℕ → List Rec
children img root = records (page_of img root)

abbrev pub names_of : List ℕ → ℕ → List ℕ
names_of img q = map child_of (children img q)

unfoldable pub among : ℕ → List ℕ → Bool
among p [] = false
among p (q ∷ qs) = eqb p q || among p qs

unfoldable pub distinct : List ℕ → Bool
distinct [] = true
distinct (p ∷ ps) = not (among p ps) && distinct ps

-- 1 if p is the page x, else 0
unfoldable pub hit : ℕ → ℕ → ℕ
hit x p = pick (eqb x p) 1 0

-- how often x stands in a list
abbrev pub count : ℕ → List ℕ → ℕ
count x [] = 0
count x (p ∷ ps) = hit x p + count x ps

-- ---- what lies under a page, by its height

-- the records of page q
abbrev pub records_at : PageFormat → List ℕ → ℕ → List Rec
records_at Pg img q = Pg.recs (page_of img q)

-- what f says of each page that the records cs name, one after the other
abbrev pub joined : {A : Type 0} → (ℕ → List A) → List Rec → List A
joined f [] = []
joined f (c ∷ cs) = f (child_of c) ++ joined f cs

-- what `leaf` says of each leaf and `node` of each page above them, from page q of height h down, in order
unfoldable pub gathered : {A : Type 0} → PageFormat → (ℕ → List A) → (ℕ → List A) → List ℕ → ℕ → ℕ → List A
gathered Pg leaf node img zero q = leaf q
gathered Pg leaf node img (suc h) q = node q ++ joined (λ x. gathered Pg leaf node img h x) (records_at Pg img q)

abbrev pub itself : ℕ → List ℕ
itself q = q ∷ []

-- the pages, and the leaves alone
unfoldable pub pages_in : PageFormat → List ℕ → ℕ → ℕ → List ℕ
pages_in Pg img h q = gathered Pg itself itself img h q

unfoldable pub leaves_in : PageFormat → List ℕ → ℕ → ℕ → List ℕ
leaves_in Pg img h q = gathered Pg itself (λ x. []) img h q

-- the greatest height of a root: "A top page, kind 3, in the index form, may now stand above 1 to 28 index pages, and the root word may name either kind."
abbrev pub tallest : ℕ
tallest = 2

-- the root's height, which its kind tells: 1 for an index page, 2 for a top page; where it is neither, 1, and the root is not sound
unfoldable pub height_in : PageFormat → List ℕ → ℕ → ℕ
height_in Pg img root =
    let h = Pg.kind_of (page_of img root) - 1 in
    pick (leb 1 h && leb h tallest) h 1

abbrev pub height_of : List ℕ → ℕ → ℕ
height_of img root = height_in format1 img root

-- "A page is reached if it is the root or is named by a root record", or, under a top page, by a record of an index page
unfoldable pub reached : List ℕ → ℕ → List ℕ
reached img root = pages_in format1 img (height_of img root) root

-- ---- ranges of keys

-- the first key, or hi where there is none
abbrev pub first_key : List Rec → ℕ → ℕ
first_key [] hi = hi
first_key (r ∷ l) hi = r.key

-- where the keys of a page start, by the index records before its own: at lo, or at its separator
abbrev pub start_of : List Rec → ℕ → ℕ → ℕ
start_of [] lo sep = lo
start_of (b ∷ pre) lo sep = sep

-- the pages that the index records cs name, each with its range of keys, where the range of them all is from lo on and below hi: "each leaf's
-- keys are not below its separator (first leaf excepted) and are below the next separator"; "The first leaf of any index page may hold keys below its own separator but not
-- below that page's, the first index page excepted"; "its last leaf's keys stay below the next index page's separator"
unfoldable pub places : ℕ → List Rec → ℕ → List Place
places lo [] hi = []
places lo (c ∷ cs) hi = record { page = child_of c; from = lo; below = first_key cs hi } ∷ places (first_key cs hi) cs hi

-- the root: every key belongs to it
unfoldable pub top_place : ℕ → Place
top_place root = record { page = root; from = 0; below = suc top_key }

-- ---- a page within its range

-- a page of this kind with its number, by itself and with its keys from lo on and below hi; not empty unless it may be
unfoldable pub bound_ok : PageFormat → ℕ → Bool → ℕ → ℕ → ℕ → List ℕ → Bool
bound_ok Pg kind empty lo hi own p =
    let rs = Pg.recs p in
    every
    (Pg.ok kind own p
    ∷ (empty || leb 1 (length rs))
    ∷ all_b (λ (r : Rec). leb lo r.key) rs
    ∷ all_b (λ (r : Rec). ltb r.key hi) rs
    ∷ [])

-- a leaf p: "no leaf is empty unless it is the only one"
abbrev pub leaf_ok : Bool → ℕ → ℕ → ℕ → List ℕ → Bool
leaf_ok only lo hi own p = bound_ok format1 leaf_kind only lo hi own p

-- the leaf at a place
unfoldable pub leaf_at : List ℕ → Bool → Place → Bool
leaf_at img only p = leaf_ok only p.from p.below p.page (page_of img p.page)

-- ---- a page above the leaves, by itself

-- the page at p, of height h, by itself: "1 to 28 records", separators within its range, its pages in 1 to N-1; and its pages and those in `names`, which were named before, are distinct
unfoldable pub node_ok : List ℕ → ℕ → List ℕ → Place → Bool
node_ok img h names p =
    every
    (bound_ok format1 (suc h) false p.from p.below p.page (page_of img p.page)
    ∷ all_b (is_page (page_count img)) (names_of img p.page)
    ∷ distinct (names_of img p.page ++ names)
    ∷ [])

-- the root: "its pages are distinct .. in 1 to N-1, none the root"
unfoldable pub index_ok : List ℕ → ℕ → Bool
index_ok img root = node_ok img (height_of img root) (root ∷ []) (top_place root)

-- ---- the tree

-- page q of height h within its range, and all that lies under it: its kind is its height and one, and a page above the leaves has a record
unfoldable pub under_ok : PageFormat → Bool → List ℕ → ℕ → ℕ → ℕ → ℕ → Bool
under_ok Pg only img zero lo hi q = bound_ok Pg leaf_kind only lo hi q (page_of img q)
under_ok Pg only img (suc h) lo hi q =
    bound_ok Pg (suc (suc h)) false lo hi q (page_of img q)
    && all_b (λ (p : Place). under_ok Pg only img h p.from p.below p.page) (places lo (records_at Pg img q) hi)

-- a root of height h with all under it: its pages distinct and in 1 to N-1
unfoldable pub tree_in : PageFormat → List ℕ → ℕ → ℕ → Bool
tree_in Pg img h root =
    let ps = pages_in Pg img h root in
    every
    (under_ok Pg (eqb (length (leaves_in Pg img h root)) 1) img h 0 (suc top_key) root
    ∷ all_b (is_page (page_count img)) ps
    ∷ distinct ps
    ∷ [])

unfoldable pub tree_ok : List ℕ → ℕ → Bool
tree_ok img root = tree_in format1 img (height_of img root) root

-- ---- the image

-- "An image has N pages, 8 to 64"; "An image is sound if page 0 is as above with mark 0; .."
unfoldable pub sound_from : List ℕ → PageZero → Bool
sound_from img Wrong = false
sound_from img (Waiting k root) = false
sound_from img (Ready root) = tree_ok img root

unfoldable pub sound : List ℕ → Bool
sound img = is_image_size (length img) && sound_from img (page_zero img)
