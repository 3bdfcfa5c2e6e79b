-- The way from the root to the leaf that a key belongs to (document 02 (b) and (j): "A lookup now reads page 0, the index and one leaf", and under a top page one index page too).
-- Assumes nothing.
use Rattle.std.specs.Prelude.{ℕ, zero, suc, Bool, true, ◌&&◌, List, [], ◌∷◌, ◌++◌, length, get_or, eqb, None, Option, Some}
use Rattle.codec.specs.Lists.{pick}
use Rattle.page.specs.Layout.{Rec}
use Rattle.page.specs.Page.{records}
use Rattle.page.specs.Operations.{page_of}
use Rattle.image.specs.Image.{children, names_of, among, places, top_place, height_of, leaf_at, node_ok}
use Rattle.image.specs.Route.{route}
use Rattle.image.specs.declared.Place.{Place}

-- one step down: of the pages that the page at p names, the one that k belongs to, with its range
unfoldable pub down : List ℕ → ℕ → Place → Place
down img k p =
    let cs = children img p.page in
    get_or (places p.from cs p.below) (route k cs) p

-- h steps down
unfoldable pub descend : List ℕ → ℕ → ℕ → Place → Place
descend img k zero p = p
descend img k (suc h) p = descend img k h (down img k p)

-- the leaf that k belongs to: "A key belongs by the old rule to one index page, then within it to a leaf."
unfoldable pub leaf_for : List ℕ → ℕ → ℕ → Place
leaf_for img root k = descend img k (height_of img root) (top_place root)

-- ---- what is read on the way: `nodes` are the pages above the leaves that a call has read so far, the last one first

-- the pages that are named by then: the root by page 0, and those that the pages read name
unfoldable pub named_by : List ℕ → ℕ → List ℕ → List ℕ
named_by img root [] = root ∷ []
named_by img root (q ∷ qs) = names_of img q ++ named_by img root qs

-- the page at p, of height h, is read: it is judged with the pages read before it, unless it is one of them; none where it "breaks soundness"
unfoldable pub read_node : List ℕ → ℕ → ℕ → Place → List ℕ → Option (List ℕ)
read_node img root h p nodes = pick (among p.page nodes) (Some nodes) (pick (node_ok img h (named_by img root nodes) p) (Some (p.page ∷ nodes)) None)

-- the way of a key: the pages read by its end, whether each page on it names one page alone, and the leaf
pub record Way : Type 0 where
  pub nodes : List ℕ
  pub only : Bool
  pub leaf : Place

abbrev pub if_read : {A B : Type 0} → Option A → (A → Option B) → Option B
if_read None f = None
if_read (Some x) f = f x

-- from the page at p, of height h, down to a leaf
unfoldable pub way_from : List ℕ → ℕ → ℕ → ℕ → Bool → Place → List ℕ → Option Way
way_from img root k zero only p nodes = Some (record { nodes = nodes; only = only; leaf = p })
way_from img root k (suc h) only p nodes =
    if_read (read_node img root (suc h) p nodes) (λ ns. way_from img root k h (only && eqb (length (children img p.page)) 1) (down img k p) ns)

-- from the root down, once the pages `nodes` are read
unfoldable pub way_to : List ℕ → ℕ → List ℕ → ℕ → Option Way
way_to img root nodes k = way_from img root k (height_of img root) true (top_place root) nodes

-- the leaf is read too: by itself, in its range, and "no leaf is empty unless it is the only one", which the pages on its way show
unfoldable pub leaf_read : List ℕ → ℕ → List ℕ → ℕ → Option Way
leaf_read img root nodes k = if_read (way_to img root nodes k) (λ w. pick (leaf_at img w.only w.leaf) (Some w) None)

-- page 0 and the root are read first
abbrev pub root_read : ℕ → List ℕ
root_read root = root ∷ []

-- ---- several keys, one after the other

abbrev pub nodes_in : Option Way → List ℕ → List ℕ
nodes_in None nodes = nodes
nodes_in (Some w) nodes = w.nodes

-- the pages above the leaves that are read once the keys ks were looked for, in this order
unfoldable pub nodes_after : List ℕ → ℕ → List ℕ → List ℕ → List ℕ
nodes_after img root nodes [] = nodes
nodes_after img root nodes (k ∷ ks) = nodes_after img root (nodes_in (way_to img root nodes k) nodes) ks

abbrev pub records_in : List ℕ → Option Way → Option (List Rec)
records_in img None = None
records_in img (Some w) = Some (records (page_of img w.leaf.page))

-- the records that are read for the key k where the keys ks were looked for before: those of its leaf, if what is read for it is sound
unfoldable pub records_for : List ℕ → ℕ → List ℕ → ℕ → Option (List Rec)
records_for img root ks k = records_in img (leaf_read img root (nodes_after img root (root_read root) ks) k)
