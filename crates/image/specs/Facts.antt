-- What the tests of soundness stand for.
-- Assumes nothing.
use Rattle.std.specs.Prelude.{ℕ, zero, suc, ◌≤◌, ◌≡◌, ◌⊎◌, Bool, true, false, List, [], ◌∷◌, ◌++◌, length}
use Rattle.codec.specs.Lists.{All}
use Rattle.device.specs.Calls.{is_image_size}
use Rattle.page.specs.Layout.{leaf_kind, top_key, Rec}
use Rattle.page.specs.PageFormat.{PageFormat, format1}
use Rattle.page.specs.Operations.{page_of}
use Rattle.image.specs.PageZero.{page_count, is_page, root_of, page_zero}
use Rattle.image.specs.Image.{child_of, names_of, records_at, pages_in, leaves_in, height_of, distinct, first_key, top_place}
use Rattle.image.specs.declared.PageZero.TheVariants.{Ready}
use Rattle.image.specs.declared.Place.{Place}

-- keys rise strictly from lo on, and are below hi
abbrev pub Rising : ℕ → List Rec → ℕ → Type 0
Rising lo [] hi = lo ≤ hi
Rising lo (r ∷ rs) hi = (lo ≤ r.key) × Rising (suc r.key) rs hi

-- `bound_ok`
pub record Bound (Pg : PageFormat) (kind : ℕ) (empty : Bool) (lo hi own : ℕ) (p : List ℕ) : Type 0 where
  pub page : Pg.ok kind own p ≡ true
  pub filled : (empty ≡ true) ⊎ (1 ≤ length (Pg.recs p))
  pub rising : Rising lo (Pg.recs p) hi

-- `leaf_ok`
abbrev pub Leaf : Bool → ℕ → ℕ → ℕ → List ℕ → Type 0
Leaf only lo hi own p = Bound format1 leaf_kind only lo hi own p

-- `node_ok`
pub record Node (img : List ℕ) (h : ℕ) (names : List ℕ) (p : Place) : Type 0 where
  pub bound : Bound format1 (suc h) false p.from p.below p.page (page_of img p.page)
  pub inside : All (λ (q : ℕ). is_page (page_count img) q ≡ true) (names_of img p.page)
  pub apart : distinct (names_of img p.page ++ names) ≡ true

-- `index_ok`
abbrev pub Index : List ℕ → ℕ → Type 0
Index img root = Node img (height_of img root) (root ∷ []) (top_place root)

-- ---- by the height

-- P of each page that the records cs name, with its range
abbrev pub Spans : (ℕ → ℕ → ℕ → Type 0) → ℕ → List Rec → ℕ → Type 0
Spans P lo [] hi = Unit {0}
Spans P lo (c ∷ cs) hi = P lo (first_key cs hi) (child_of c) × Spans P (first_key cs hi) cs hi

-- a page of height h within its range, empty or not
abbrev pub Fine : PageFormat → List ℕ → ℕ → ℕ → ℕ → ℕ → Type 0
Fine Pg img h lo hi q = Bound Pg (suc h) true lo hi q (page_of img q)

-- what lies under a page that lists rs
abbrev pub Body : (ℕ → ℕ → ℕ → Type 0) → ℕ → List Rec → ℕ → Type 0
Body P lo rs hi = (1 ≤ length rs) × Spans P lo rs hi

-- `under_ok`, but for empty leaves
abbrev pub Under : PageFormat → List ℕ → ℕ → ℕ → ℕ → ℕ → Type 0
Under Pg img zero lo hi q = Fine Pg img 0 lo hi q
Under Pg img (suc h) lo hi q = Fine Pg img (suc h) lo hi q × Body (λ a b x. Under Pg img h a b x) lo (records_at Pg img q) hi

-- a leaf that lists a record
abbrev pub Nonempty : PageFormat → List ℕ → ℕ → Type 0
Nonempty Pg img q = 1 ≤ length (records_at Pg img q)

-- `tree_in`: "no leaf is empty unless it is the only one"
pub record TreeIn (Pg : PageFormat) (img : List ℕ) (h root : ℕ) : Type 0 where
  pub under : Under Pg img h 0 (suc top_key) root
  pub filled : (length (leaves_in Pg img h root) ≡ 1) ⊎ All (Nonempty Pg img) (leaves_in Pg img h root)
  pub inside : All (λ (p : ℕ). is_page (page_count img) p ≡ true) (pages_in Pg img h root)
  pub apart : distinct (pages_in Pg img h root) ≡ true

-- ---- the image

-- `sound`
pub record Sound (img : List ℕ) : Type 0 where
  pub size : is_image_size (length img) ≡ true
  pub zero : page_zero img ≡ Ready (root_of img)
  pub tree : TreeIn format1 img (height_of img (root_of img)) (root_of img)
