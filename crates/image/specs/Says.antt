-- What an answer of lookup or next key says of the pages that are read, clause by clause and in the order of the refusals (document 02 (b)).
-- Assumes nothing.
use Rattle.std.specs.Prelude.{ℕ, suc, ◌≤◌, ◌<◌, ◌+◌, ◌≡◌, ◌⊎◌, List, [], ◌∷◌, ◌++◌, Bool, true, false, ◌&&◌, length, eqb, Err, None, Ok, Option, Result, Some}
use Rattle.image.specs.declared.Part.{Part}
use Rattle.codec.specs.Lists.{part, All}
use Rattle.device.specs.Calls.{is_image_size, refusal_at}
use Rattle.device.specs.declared.Refusal.{Refusal}
use Rattle.page.specs.Layout.{Rec}
use Rattle.page.specs.Page.{records}
use Rattle.page.specs.Operations.{page_of}
use Rattle.image.specs.PageZero.{page_zero}
use Rattle.image.specs.Image.{child_of, children, among, first_key, start_of, height_of, top_place}
use Rattle.image.specs.Facts.{Leaf, Node, Index}
use Rattle.image.specs.Table.{page_entries, find, found_in}
use Rattle.image.specs.Descent.{named_by, Way, root_read}
use Rattle.image.specs.declared.PageZero.TheVariants.{Wrong, Waiting, Ready}
use Rattle.image.specs.declared.Place.{Place}

-- ---- records of a table

abbrev pub Member : Rec → List Rec → Type 0
Member r [] = ⊥
Member r (x ∷ l) = (r ≡ x) ⊎ Member r l

-- "the smallest key above it": j, above k in the table l
pub record Smallest (k j : ℕ) (l : List Rec) : Type 0 where
  pub rec : Rec
  pub member : Member rec l
  pub is : rec.key ≡ j
  pub over : k < j
  pub least : (r : Rec) → Member r l → k < r.key → j ≤ r.key

-- "or none": no key is above k
abbrev pub AtMost : ℕ → List Rec → Type 0
AtMost k l = (r : Rec) → Member r l → r.key ≤ k

-- ---- page 0 and the root

-- page 0 names the root, and the root page is sound by itself
pub record Opened (img : List ℕ) (root : ℕ) : Type 0 where
  pub size : is_image_size (length img) ≡ true
  pub zero : page_zero img ≡ Ready root
  pub index : Index img root

-- why not: "1; 4 if page 0 is wrong; 3 if a well-formed mark waits", then 4 for the root page
pub data NotOpened (img : List ℕ) : Refusal → Type 0 where
  bad-size : is_image_size (length img) ≡ false → NotOpened img (refusal_at 1 0)
  wrong-zero : is_image_size (length img) ≡ true → page_zero img ≡ Wrong → NotOpened img (refusal_at 4 0)
  mark-waits : is_image_size (length img) ≡ true → (k root : ℕ) → page_zero img ≡ Waiting k root → NotOpened img (refusal_at 3 0)
  bad-index : is_image_size (length img) ≡ true → (root : ℕ) → page_zero img ≡ Ready root → (Index img root → ⊥) → NotOpened img (refusal_at 4 0)

-- ---- the way of a number to the leaf that it belongs to

-- "A key belongs to the last leaf whose separator is not above it, else to the first": the record that names it, with those before and after it; likewise of an index page under a top page
pub record Belongs (k : ℕ) (cs : List Rec) : Type 0 where
  pub before : List Rec
  pub own : Rec
  pub later : List Rec
  pub shape : cs ≡ before ++ own ∷ later
  pub low : (before ≡ []) ⊎ (own.key ≤ k)
  pub high : All (λ (c : Rec). k < c.key) later

-- the page that the record names, where the page at p does: it ends at the next separator, and the last one where p ends; it starts at its own separator, and the first one where p starts
abbrev pub own_place : {k : ℕ} {cs : List Rec} → Place → Belongs k cs → Place
own_place p b = record { page = child_of b.own; from = start_of b.before p.from b.own.key; below = first_key b.later p.below }

-- the page at p, of height h, is read with the pages `nodes` read before it: it is one of them, or it is sound by itself and with them. Then the last one are read
pub data NodeRead (img : List ℕ) (root h : ℕ) (p : Place) (nodes : List ℕ) : List ℕ → Type 0 where
  again : among p.page nodes ≡ true → NodeRead img root h p nodes nodes
  new : among p.page nodes ≡ false → Node img h (named_by img root nodes) p → NodeRead img root h p nodes (p.page ∷ nodes)

-- from the page at p, of height h, the way w goes down to the leaf of k: each page above the leaf is sound
pub data Comes (img : List ℕ) (root k : ℕ) : ℕ → Bool → Place → List ℕ → Way → Type 0 where
  at_leaf : (only : Bool) (p : Place) (nodes : List ℕ) → Comes img root k 0 only p nodes (record { nodes = nodes; only = only; leaf = p })
  through : (h : ℕ) (only : Bool) (p : Place) (nodes ns : List ℕ) (w : Way) → NodeRead img root (suc h) p nodes ns → (b : Belongs k (children img p.page)) →
      Comes img root k h (only && eqb (length (children img p.page)) 1) (own_place p b) ns w → Comes img root k (suc h) only p nodes w

-- or a page above the leaf is not
pub data Breaks (img : List ℕ) (root k : ℕ) : ℕ → Place → List ℕ → Type 0 where
  breaks_here : (h : ℕ) (p : Place) (nodes : List ℕ) → among p.page nodes ≡ false → (Node img (suc h) (named_by img root nodes) p → ⊥) → Breaks img root k (suc h) p nodes
  breaks_below : (h : ℕ) (p : Place) (nodes ns : List ℕ) → NodeRead img root (suc h) p nodes ns → (b : Belongs k (children img p.page)) → Breaks img root k h (own_place p b) ns →
      Breaks img root k (suc h) p nodes

-- the leaf at the end of a way is sound by itself: "separator bounds included"; not empty "unless it is the only one"
abbrev pub GoodLeaf : List ℕ → Way → Type 0
GoodLeaf img w = Leaf w.only w.leaf.from w.leaf.below w.leaf.page (page_of img w.leaf.page)

-- the leaf that k belongs to is read, once the pages `nodes` are read, and is sound
pub record ReadSound (img : List ℕ) (root : ℕ) (nodes : List ℕ) (k : ℕ) : Type 0 where
  pub way : Way
  pub comes : Comes img root k (height_of img root) true (top_place root) nodes way
  pub good : GoodLeaf img way

-- its records
abbrev pub read_records : {img : List ℕ} {root : ℕ} {nodes : List ℕ} {k : ℕ} → ReadSound img root nodes k → List Rec
read_records {img} r = records (page_of img r.way.leaf.page)

-- a page that is read for k is not sound
pub data ReadUnsound (img : List ℕ) (root : ℕ) (nodes : List ℕ) (k : ℕ) : Type 0 where
  bad_node : Breaks img root k (height_of img root) (top_place root) nodes → ReadUnsound img root nodes k
  bad_leaf : (w : Way) → Comes img root k (height_of img root) true (top_place root) nodes w → (GoodLeaf img w → ⊥) → ReadUnsound img root nodes k

-- ---- answers

-- a lookup: each refusal with its ground, the first that holds, and else what the one leaf holds, with the place of the value in the image
pub data LookupSays (img : List ℕ) (k : ℕ) : Result (Option Part) Refusal → Type 0 where
  not_opened : (r : Refusal) → NotOpened img r → LookupSays img k (Err r)
  bad-way : (root : ℕ) → Opened img root → ReadUnsound img root (root_read root) k → LookupSays img k (Err (refusal_at 4 0))
  bad-key : (root : ℕ) → Opened img root → ReadSound img root (root_read root) k → (k < 1) ⊎ (999999999999 < k) → LookupSays img k (Err (refusal_at 6 0))
  found : (root : ℕ) → Opened img root → (r : ReadSound img root (root_read root) k) → 1 ≤ k → k ≤ 999999999999 → (o n : ℕ) →
      found_in k (page_entries img r.way.leaf.page) ≡ Ok (Some (record { offset = o; length = n })) →
      find k (read_records r) ≡ Some (part img o n) → length (part img o n) ≡ n → o + n ≤ length img → LookupSays img k (Ok (Some (record { offset = o; length = n })))
  missing : (root : ℕ) → Opened img root → (r : ReadSound img root (root_read root) k) → 1 ≤ k → k ≤ 999999999999 → find k (read_records r) ≡ None → LookupSays img k (Ok None)

-- a next key: "and, only if that leaf holds no larger key, the leaf after", to which the end of its range belongs, if that is a key
pub data NextSays (img : List ℕ) (k : ℕ) : Result (Option ℕ) Refusal → Type 0 where
  next-not-opened : (r : Refusal) → NotOpened img r → NextSays img k (Err r)
  next-bad-way : (root : ℕ) → Opened img root → ReadUnsound img root (root_read root) k → NextSays img k (Err (refusal_at 4 0))
  here : (root : ℕ) → Opened img root → (r : ReadSound img root (root_read root) k) (j : ℕ) → Smallest k j (read_records r) → NextSays img k (Ok (Some j))
  bad-after : (root : ℕ) → Opened img root → (r : ReadSound img root (root_read root) k) → AtMost k (read_records r) → r.way.leaf.below ≤ 999999999999 →
      ReadUnsound img root r.way.nodes r.way.leaf.below → NextSays img k (Err (refusal_at 4 0))
  after : (root : ℕ) → Opened img root → (r : ReadSound img root (root_read root) k) → AtMost k (read_records r) → r.way.leaf.below ≤ 999999999999 →
      (s : ReadSound img root r.way.nodes r.way.leaf.below) → (j : ℕ) → Smallest k j (read_records s) → NextSays img k (Ok (Some j))
  last : (root : ℕ) → Opened img root → (r : ReadSound img root (root_read root) k) → AtMost k (read_records r) → r.way.leaf.below ≡ 1000000000000 → NextSays img k (Ok None)
