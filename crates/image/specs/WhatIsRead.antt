-- What the reading calls read of an image (document 02 (b) and (j)): page 0's first line, the root page, and on the way of each key that is looked for one index page, if a top page stands
-- above it, and one leaf.
-- Assumes nothing.
use Rattle.std.specs.Prelude.{ℕ, zero, suc, ◌≡◌, List, [], ◌∷◌, ◌++◌, length, leb, Err, None, Ok, Option, Result, Some}
use Rattle.device.specs.declared.Refusal.{Refusal}
use Rattle.codec.specs.Lists.{part, pick, All}
use Rattle.page.specs.Layout.{line_size, top_key}
use Rattle.page.specs.Operations.{page_of}
use Rattle.image.specs.Image.{top_place, height_of}
use Rattle.image.specs.Descent.{down, read_node, Way, way_to, leaf_read, root_read, nodes_in}
use Rattle.image.specs.Calls.{root_call, index_call, leaf_next}
use Rattle.image.specs.declared.Place.{Place}

-- ---- the pages on the way of a key

abbrev pub past_node : Option (List ℕ) → (List ℕ → List ℕ) → List ℕ
past_node None f = []
past_node (Some ns) f = f ns

-- from the page at p, of height h, down to the leaf, or to the first page that breaks soundness
unfoldable pub pages_down : List ℕ → ℕ → ℕ → ℕ → Place → List ℕ → List ℕ
pages_down img root k zero p nodes = p.page ∷ []
pages_down img root k (suc h) p nodes = p.page ∷ past_node (read_node img root (suc h) p nodes) (λ ns. pages_down img root k h (down img k p) ns)

-- of the keys ks, one after the other, once the pages `nodes` are read
unfoldable pub pages_for : List ℕ → ℕ → List ℕ → List ℕ → List ℕ
pages_for img root nodes [] = []
pages_for img root nodes (k ∷ ks) =
    pages_down img root k (height_of img root) (top_place root) nodes ++ pages_for img root (nodes_in (way_to img root nodes k) nodes) ks

-- the images a and b, of one length, agree on what is read of a: the first line; the root page, if page 0 names one; and, if that is sound by itself, the pages on the way of
-- each of the keys that are looked for under the root
pub record ReadAlike (a b : List ℕ) (keys : ℕ → List ℕ) : Type 0 where
  pub size : length b ≡ length a
  pub line : part b 0 line_size ≡ part a 0 line_size
  pub index : (root : ℕ) → root_call a ≡ Ok root → page_of b root ≡ page_of a root
  pub pages : (root : ℕ) → index_call a ≡ Ok root → All (λ (q : ℕ). page_of b q ≡ page_of a q) (pages_for a root (root_read root) (keys root))

-- a lookup looks for its key
abbrev pub lookup_reads : ℕ → ℕ → List ℕ
lookup_reads k root = k ∷ []

-- "Next key reads that and, only if that leaf holds no larger key, the leaf after": the leaf that the end of its range belongs to
unfoldable pub after_reads : Way → Result (Option ℕ) Refusal → List ℕ
after_reads w (Ok (Some j)) = []
after_reads w (Ok None) = pick (leb w.leaf.below top_key) (w.leaf.below ∷ []) []
after_reads w (Err r) = []

abbrev pub after_way : List ℕ → ℕ → Option Way → List ℕ
after_way img k None = []
after_way img k (Some w) = after_reads w (leaf_next img k w)

unfoldable pub next_reads : List ℕ → ℕ → ℕ → List ℕ
next_reads img k root = k ∷ after_way img k (leaf_read img root (root_read root) k)
