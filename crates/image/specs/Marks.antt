-- What a call notes of the pages that it has read, a byte for each page that an image can have: 0 for a page that none of them names, 1 for one that is named, 2 for a page above the leaves
-- that was read.
-- Assumes nothing.
use Rattle.std.specs.Prelude.{ℕ, ◌≤◌, ◌≡◌, Bool, true, false, ◌&&◌, List, [], ◌∷◌, ◌++◌, length, get_or, set, ltb, eqb, None, Option, Some, Err, Ok, Result}
use Rattle.codec.specs.Lists.{All}
use Rattle.device.specs.Calls.{unsound, refusal}
use Rattle.device.specs.declared.Refusal.{Refusal}
use Rattle.page.specs.Page.{records, page_ok}
use Rattle.page.specs.Operations.{page_of}
use Rattle.image.specs.PageZero.{page_count, is_page}
use Rattle.image.specs.Image.{names_of, among, distinct, node_ok}
use Rattle.image.specs.Descent.{named_by, read_node, Way, way_to, leaf_read}
use Rattle.image.specs.declared.Place.{Place}
use Rattle.image.specs.declared.LeafPlace.{LeafPlace}

-- ---- names that are marked, one after the other

-- the pages ps are below n, and each is unmarked when it is come to; it is then marked
unfoldable pub claims : ℕ → List ℕ → List ℕ → Bool
claims n marks [] = true
claims n marks (p ∷ ps) = (ltb p n && eqb (get_or marks p 0) 0) && claims n (set marks p 1) ps

-- the marks then
unfoldable pub claimed : List ℕ → List ℕ → List ℕ
claimed marks [] = marks
claimed marks (p ∷ ps) = claimed (set marks p 1) ps

-- ---- what the marks stand for

-- the pages that are marked are those of `named`, and page 0, which none may name
pub record Named (named marks : List ℕ) : Type 0 where
  pub size : length marks ≡ 64
  pub zero : get_or marks 0 0 ≡ 0 → ⊥
  pub apart : distinct named ≡ true
  pub marked : (p : ℕ) → 1 ≤ p → among p named ≡ ltb 0 (get_or marks p 0)

-- p is a page above the leaves by itself, with this number, that lists a record
pub record NodePage (own : ℕ) (p : List ℕ) : Type 0 where
  pub kind : ℕ
  pub above : 2 ≤ kind
  pub page : page_ok kind own p ≡ true
  pub some : 1 ≤ length (records p)

-- page q was read above the leaves
pub record Judged (img : List ℕ) (q : ℕ) : Type 0 where
  pub page : NodePage q (page_of img q)
  pub inside : All (λ (x : ℕ). is_page (page_count img) x ≡ true) (names_of img q)

-- once the pages `nodes` are read
pub record Marked (img : List ℕ) (root : ℕ) (nodes marks : List ℕ) : Type 0 where
  pub named : Named (named_by img root nodes) marks
  pub read : (p : ℕ) → among p nodes ≡ eqb (get_or marks p 0) 2
  pub judged : All (Judged img) nodes

abbrev pub IsMarked : List ℕ → ℕ → List ℕ → Type 0
IsMarked img root marks = (nodes : List ℕ) × Marked img root nodes marks

-- ---- what the code answers, whatever pages `nodes` the marks stand for

-- the page p is read, and the marks stand for what is read then
pub record NodeCame (img : List ℕ) (root : ℕ) (f : Option (List ℕ)) (q : ℕ) (after : List ℕ) : Type 0 where
  pub nodes : List ℕ
  pub is : f ≡ Some nodes
  pub among : among q nodes ≡ true
  pub judged : Judged img q
  pub marked : Marked img root nodes after

-- the page at p, of height h, is judged with the names that are marked: its own are then marked too, and what was read stays read
pub record NodeBy (img : List ℕ) (h : ℕ) (p : Place) (marks : List ℕ) (answer : Bool) (after : List ℕ) : Type 0 where
  pub value : (named : List ℕ) → Named named marks → answer ≡ node_ok img h named p
  pub names : (named : List ℕ) → Named named marks → answer ≡ true → Named (names_of img p.page ++ named) after
  pub read : answer ≡ true → (q : ℕ) → eqb (get_or after q 0) 2 ≡ eqb (get_or marks q 0) 2

-- the same unless it was read before, and it is then marked as read
pub record ReadBy (img : List ℕ) (h : ℕ) (p : Place) (marks : List ℕ) (answer : Bool) (after : List ℕ) : Type 0 where
  pub not_read : answer ≡ false → (root : ℕ) (nodes : List ℕ) → Marked img root nodes marks → read_node img root h p nodes ≡ None
  pub is_read : answer ≡ true → (root : ℕ) (nodes : List ℕ) → Marked img root nodes marks → NodeCame img root (read_node img root h p nodes) p.page after

-- the way f comes to this leaf, an image's page, and the marks stand for the pages that it has read
pub record Came (img : List ℕ) (root : ℕ) (f : Option Way) (x : LeafPlace) (after : List ℕ) : Type 0 where
  pub nodes : List ℕ
  pub is : f ≡ Some (record { nodes = nodes; only = x.only; leaf = x.place })
  pub inside : is_page (page_count img) x.place.page ≡ true
  pub marked : Marked img root nodes after

-- the way of the key k
abbrev pub WayBy : List ℕ → ℕ → ℕ → List ℕ → Option LeafPlace → List ℕ → Type 0
WayBy img root k marks None after = (nodes : List ℕ) → Marked img root nodes marks → way_to img root nodes k ≡ None
WayBy img root k marks (Some x) after = (nodes : List ℕ) → Marked img root nodes marks → Came img root (way_to img root nodes k) x after

-- the way and its leaf, or 4
abbrev pub LeafBy : List ℕ → ℕ → ℕ → List ℕ → Result LeafPlace Refusal → List ℕ → Type 0
LeafBy img root k marks (Ok x) after = (nodes : List ℕ) → Marked img root nodes marks → Came img root (leaf_read img root nodes k) x after
LeafBy img root k marks (Err r) after = (r ≡ refusal unsound) × ((nodes : List ℕ) → Marked img root nodes marks → leaf_read img root nodes k ≡ None)
