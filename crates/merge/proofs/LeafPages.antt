-- The pages of a book's leaves: their records in order are its table, each is a sound leaf, and there are at most 64.
-- Assumes nothing.
use Prim.Native.Nat.{ℕ, zero, suc, ◌*◌, ◌≤◌}
use mathlib.Core.Path.{◌≡◌, refl, sym, ap, ap₂, ◌∙◌}
use mathlib.Core.Bool.{true}
use mathlib.Core.List.{List, [], ◌∷◌, ◌++◌, append_assoc, append-nil}
use native.Mathlib.Omega.{arith}
use lib.ListN.{length, length-append}
use Rattle.codec.specs.Lists.{All}
use Rattle.codec.proofs.Tests.{All-map}
use Rattle.page.specs.Layout.{leaf_kind, Rec}
use Rattle.page.specs.Page.{records, laid_out, page_ok}
use Rattle.page.specs.PageFormat.{format1}
use Rattle.page.specs.Operations.{sizes, page_of}
use Rattle.page.proofs.Facts.{page_ok-true}
use Rattle.page.proofs.Format1.{format1-rules}
use Rattle.page.proofs.Listed.{few-listed}
use Rattle.page.proofs.Totals.{sizes-append}
use Rattle.image.specs.PageZero.{page_count, is_page, root_of}
use Rattle.image.specs.Image.{child_of, joined, gathered, leaves_in, height_of, sound}
use Rattle.image.specs.Table.{records_on, table_in, table}
use Rattle.image.proofs.Zero.{size-true}
use Rattle.image.proofs.Soundness.{sound-facts, sound-tree_in}
use Rattle.image.proofs.CodeTree.{leaves-few}
use Rattle.image.proofs.Order.{sound-leaves}
use Rattle.merge.specs.Leaves.{leaf_pages}

-- ---- records of pages in order

pub on-append : (img a b : List ℕ) → records_on img (a ++ b) ≡ records_on img a ++ records_on img b
unfolding records_on
on-append img [] b = refl
on-append img (p ∷ a) b = ap (λ (l : List Rec). records (page_of img p) ++ l) (on-append img a b) ∙ sym (append_assoc (records (page_of img p)) (records_on img a) (records_on img b))

module _ (img : List ℕ) where
  joined-on : (h : ℕ) → ((x : ℕ) → table_in format1 img h x ≡ records_on img (leaves_in format1 img h x)) → (cs : List Rec) →
      joined (λ x. table_in format1 img h x) cs ≡ records_on img (joined (λ x. leaves_in format1 img h x) cs)
  unfolding records_on
  joined-on h each [] = refl
  joined-on h each (c ∷ cs) =
      ap₂ (λ (a b : List Rec). a ++ b) (each (child_of c)) (joined-on h each cs) ∙ sym (on-append img (leaves_in format1 img h (child_of c)) (joined (λ x. leaves_in format1 img h x) cs))

  table_in-on : (h q : ℕ) → table_in format1 img h q ≡ records_on img (leaves_in format1 img h q)
  unfolding table_in leaves_in gathered records_on
  table_in-on zero q = sym (append-nil (records (page_of img q)))
  table_in-on (suc h) q = joined-on h (table_in-on h) (records (page_of img q))

  -- the table, by leaves
  pub table-on : table img ≡ records_on img (leaf_pages img)
  unfolding table
  table-on = table_in-on (height_of img (root_of img)) (root_of img)

-- ---- how many records, and how many bytes they take

records-few : (img : List ℕ) (ps : List ℕ) → All (λ (q : ℕ). laid_out (page_of img q) ≡ true) ps → (length (records_on img ps) ≤ 28 * length ps) × (sizes (records_on img ps) ≤ 960 * length ps)
unfolding records_on sizes
records-few img [] k = (omega arith, omega arith)
records-few img (q ∷ ps) k =
    let rs = records (page_of img q) in
    let more = records-few img ps k.1 in (
      omega (arith, length-append rs (records_on img ps), few-listed (page_of img q) k.0, more.0),
      omega (arith, sizes-append rs (records_on img ps), format1-rules.bytes (page_of img q) k.0, more.1),
    )

module _ (img : List ℕ) (h : sound img ≡ true) where
  pub few-leaves : length (leaf_pages img) ≤ 64
  few-leaves = leaves-few img (root_of img) (sound-tree_in img h) (omega (arith, (size-true (length img) (sound-facts img h).size).high))

  all-laid : All (λ (q : ℕ). laid_out (page_of img q) ≡ true) (leaf_pages img)
  all-laid =
      All-map (λ (q : ℕ). (is_page (page_count img) q ≡ true) × (page_ok leaf_kind q (page_of img q) ≡ true)) (λ (q : ℕ). laid_out (page_of img q) ≡ true)
      (λ q k. (page_ok-true leaf_kind q (page_of img q) k.1).laid) (leaf_pages img) (sound-leaves img h)

  -- 64 leaves of 28 records and 960 bytes
  pub table-few : length (table img) ≤ 1792
  table-few = omega (arith, few-leaves, ap length (table-on img), (records-few img (leaf_pages img) all-laid).0)

  pub table-small : sizes (table img) ≤ 61440
  table-small = omega (arith, few-leaves, ap sizes (table-on img), (records-few img (leaf_pages img) all-laid).1)
