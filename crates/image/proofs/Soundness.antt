-- Each test of soundness holds exactly if its facts do: a page above the leaves by itself, a leaf within its bounds, the tree, the image.
-- Assumes nothing.
use Prim.Native.Nat.{ℕ, suc, ◌≤◌, ◌<◌}
use mathlib.Core.Path.{◌≡◌, refl, sym, ap, ◌∙◌}
use mathlib.Core.Logic.{◌⊎◌, inl, inr}
use mathlib.Core.Bool.{Bool, true, false, false≢true}
use mathlib.Core.List.{List, [], ◌∷◌}
use native.Mathlib.Omega.{arith}
use lib.ListN.{length}
use Rattle.codec.proofs.Tests.{both, first, second, everything, all-every, all_b-true, true-all_b, All-map}
use Rattle.device.specs.Calls.{is_image_size}
use Rattle.page.specs.Layout.{leaf_kind, top_key, Rec}
use Rattle.page.specs.Page.{records, page_ok, RecOk}
use Rattle.page.specs.PageFormat.{format1}
use Rattle.page.specs.Operations.{page_of}
use Rattle.page.proofs.Facts.{page_ok-true, records-ok}
use Rattle.page.proofs.Format1.{format1-reads}
use Rattle.image.specs.PageZero.{page_count, is_page, root_of, page_zero}
use Rattle.image.specs.Image.{children, names_of, height_of, top_place, leaf_ok, node_ok, index_ok, tree_ok, sound_from, sound}
use Rattle.image.specs.Facts.{Rising, Leaf, Node, Index, TreeIn, Sound}
use Rattle.image.specs.declared.PageZero.{PageZero}
use Rattle.image.specs.declared.PageZero.TheVariants.{Wrong, Waiting, Ready}
use Rattle.image.specs.declared.Place.{Place}
use Rattle.image.proofs.General.{All-any}
use Rattle.image.proofs.Rising.{rise-rising}
use Rattle.image.proofs.Zero.{ready-facts}
use Rattle.image.proofs.Under.{bound-facts, facts-bound, tree_in-facts, facts-tree_in}

-- ---- the records of a page

-- the keys of a sound page, the separators of the index among them
pub page-rising : (kind own : ℕ) (p : List ℕ) → page_ok kind own p ≡ true → Rising 0 (records p) (suc top_key)
page-rising kind own p h =
    let k = page_ok-true kind own p h in
    rise-rising 0 (records p) (suc top_key) (omega arith) (All-any (λ (r : Rec). 0 ≤ r.key) (λ r. omega arith) (records p)) k.rise
    (All-map RecOk (λ (r : Rec). r.key < suc top_key) (λ r o. omega (arith, o.low)) (records p) (records-ok p k.laid))

-- ---- a page above the leaves

module _ (img : List ℕ) (h : ℕ) (names : List ℕ) (p : Place) where
  pub node-facts : p.from ≤ p.below → node_ok img h names p ≡ true → Node img h names p
  unfolding node_ok
  node-facts le e =
      let t = everything _ e in
      record {
        bound = bound-facts format1 (suc h) false p.from p.below p.page (page_of img p.page) format1-reads le t.0;
        inside = all_b-true (is_page (page_count img)) (λ (q : ℕ). is_page (page_count img) q ≡ true) (λ q e. e) (names_of img p.page) t.1.0;
        apart = t.1.1.0;
      }

  pub facts-node : Node img h names p → node_ok img h names p ≡ true
  unfolding node_ok
  facts-node k =
      all-every _ (
        facts-bound format1 (suc h) false p.from p.below p.page (page_of img p.page) k.bound,
        (true-all_b (is_page (page_count img)) (λ (q : ℕ). is_page (page_count img) q ≡ true) (λ q e. e) (names_of img p.page) k.inside, (k.apart, tt)),
      )

  -- it names a page, and its separators rise within its range
  pub node-some : Node img h names p → 1 ≤ length (children img p.page)
  unfolding children
  node-some k = go k.bound.filled
    where
      go : (false ≡ true) ⊎ (1 ≤ length (records (page_of img p.page))) → 1 ≤ length (records (page_of img p.page))
      go (inl e) = absurd (false≢true e)
      go (inr l) = l

  pub node-rising : Node img h names p → Rising p.from (children img p.page) p.below
  unfolding children
  node-rising k = k.bound.rising

module _ (img : List ℕ) (root : ℕ) where
  pub index-facts : index_ok img root ≡ true → Index img root
  unfolding index_ok top_place
  index-facts e = node-facts img (height_of img root) (root ∷ []) (top_place root) (omega arith) e

  pub facts-index : Index img root → index_ok img root ≡ true
  unfolding index_ok
  facts-index k = facts-node img (height_of img root) (root ∷ []) (top_place root) k

-- ---- a leaf

module _ (only : Bool) (lo hi own : ℕ) (p : List ℕ) where
  pub leaf-facts : lo ≤ hi → leaf_ok only lo hi own p ≡ true → Leaf only lo hi own p
  leaf-facts le h = bound-facts format1 leaf_kind only lo hi own p format1-reads le h

  pub facts-leaf : Leaf only lo hi own p → leaf_ok only lo hi own p ≡ true
  facts-leaf k = facts-bound format1 leaf_kind only lo hi own p k

-- ---- the tree

pub tree-facts : (img : List ℕ) (root : ℕ) → tree_ok img root ≡ true → TreeIn format1 img (height_of img root) root
unfolding tree_ok
tree-facts img root h = tree_in-facts format1 img (height_of img root) root format1-reads h

pub facts-tree : (img : List ℕ) (root : ℕ) → TreeIn format1 img (height_of img root) root → tree_ok img root ≡ true
unfolding tree_ok
facts-tree img root t = facts-tree_in format1 img (height_of img root) root t

-- ---- the image

sound-parts : (img : List ℕ) → sound img ≡ true → (is_image_size (length img) ≡ true) × (page_zero img ≡ Ready (root_of img)) × (tree_ok img (root_of img) ≡ true)
unfolding sound sound_from
sound-parts img h = go (page_zero img) refl (second (is_image_size (length img)) (sound_from img (page_zero img)) h)
  where
    go : (z : PageZero) → page_zero img ≡ z → sound_from img z ≡ true → (is_image_size (length img) ≡ true) × (page_zero img ≡ Ready (root_of img)) × (tree_ok img (root_of img) ≡ true)
    go Wrong e t = absurd (false≢true t)
    go (Waiting k root) e t = absurd (false≢true t)
    go (Ready root) e t =
        let r : root_of img ≡ root = (ready-facts img root e).reads in
        (first (is_image_size (length img)) (sound_from img (page_zero img)) h, e ∙ ap Ready (sym r), ap (tree_ok img) r ∙ t)

-- the facts by the height
pub sound-tree_in : (img : List ℕ) → sound img ≡ true → TreeIn format1 img (height_of img (root_of img)) (root_of img)
sound-tree_in img h = tree-facts img (root_of img) (sound-parts img h).2

pub sound-facts : (img : List ℕ) → sound img ≡ true → Sound img
sound-facts img h = let p = sound-parts img h in record { size = p.0; zero = p.1; tree = sound-tree_in img h }

pub tree_in-sound : (img : List ℕ) (root : ℕ) → is_image_size (length img) ≡ true → page_zero img ≡ Ready root → TreeIn format1 img (height_of img root) root → sound img ≡ true
unfolding sound sound_from
tree_in-sound img root size zero t = both size (rw zero (facts-tree img root t))

pub facts-sound : (img : List ℕ) → Sound img → sound img ≡ true
facts-sound img s = tree_in-sound img (root_of img) s.size s.zero s.tree
