-- The leaves of a book, and how many records each leaf of two books takes (document 02 (i)).
-- Assumes nothing.
use Rattle.std.specs.Prelude.{ℕ, ◌+◌, ◌≤◌, ◌<◌, ◌≡◌, ◌⊎◌, List, [], ◌∷◌, ◌++◌, length}
use Rattle.codec.specs.Lists.{pick, All}
use Rattle.page.specs.Layout.{Rec, size}
use Rattle.page.specs.PageFormat.{format1}
use Rattle.page.specs.Operations.{sizes, fits_page}
use Rattle.image.specs.PageZero.{root_of}
use Rattle.image.specs.Image.{leaves_in, height_of}
use Rattle.image.specs.Fresh.{all_records}

-- the pages of the leaves of an image, in order, at both heights
abbrev pub leaf_pages : List ℕ → List ℕ
leaf_pages img = leaves_in format1 img (height_of img (root_of img)) (root_of img)

-- "each as many as 28 records and 960 bytes allow": the leaf that has the records l takes the next of rs if they then still fit a page, by the transaction's own rule;
-- else it is closed, and the next leaf starts with it
unfoldable pub packed : List Rec → List Rec → List (List Rec)
packed l [] = l ∷ []
packed l (r ∷ rs) = pick (fits_page (l ++ (r ∷ []))) (packed (l ++ (r ∷ [])) rs) (l ∷ packed (r ∷ []) rs)

-- "Leaves take records in key order": with none there is one empty leaf, as in a fresh store
unfoldable pub leaves_of : List Rec → List (List Rec)
leaves_of rs = packed [] rs

-- ---- the same, stated apart from how it is done

-- "as many as .. allow": the first record of the leaf after l would have been its 29th, or would have passed 960 bytes. So no leaf after the first is empty
abbrev pub Fullest : List (List Rec) → Type 0
Fullest [] = Unit {0}
Fullest (l ∷ []) = Unit {0}
Fullest (l ∷ [] ∷ ls) = ⊥
Fullest (l ∷ (r ∷ m) ∷ ls) = ((28 < length l + 1) ⊎ (960 < sizes l + size r)) × Fullest ((r ∷ m) ∷ ls)

-- the leaves ls hold the records rs in order, each as many as 28 records and 960 bytes allow
pub record Packed (rs : List Rec) (ls : List (List Rec)) : Type 0 where
  pub in_order : all_records ls ≡ rs
  pub some : 1 ≤ length ls
  pub few : All (λ (l : List Rec). length l ≤ 28) ls
  pub small : All (λ (l : List Rec). sizes l ≤ 960) ls
  pub full : Fullest ls
