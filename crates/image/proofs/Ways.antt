-- The way of a key, as the definitions go it, and as it is said: each page above the leaves judged, or read before; and whether the leaf at its end is sound. On any image.
-- Assumes nothing.
use Rattle.std.specs.Prelude.{None, Option, Some}
use Prim.Native.Nat.{ℕ, zero, suc, ◌-◌, ◌≤◌}
use mathlib.Core.Path.{◌≡◌, refl, sym, ap, ◌∙◌, subst}
use mathlib.Core.Logic.{◌⊎◌, inl, inr}
use mathlib.Core.Bool.{Bool, true, false, ◌&&◌, true≢false}
use mathlib.Core.List.{List, [], ◌∷◌}
use native.Mathlib.Omega.{arith}
use lib.ListN.{length, get_or}
use lib.Dec.{leb, ltb, eqb}
use borrow.Author.Tests.{leb-true, le-leb, lt-leb, ltb-true, eqb-true}
use Rattle.codec.specs.Lists.{pick, All}
use Rattle.codec.proofs.Tests.{first, second, everything, all_b-true, not-true}
use Rattle.codec.proofs.Agree.{either}
use Rattle.page.specs.Layout.{leaf_kind, top_key, Rec, read_head}
use Rattle.page.specs.Page.{records}
use Rattle.page.specs.PageFormat.{format1}
use Rattle.page.specs.Operations.{page_of}
use Rattle.image.specs.PageZero.{page_count, is_page}
use Rattle.image.specs.Image.{child_of, children, among, places, top_place, height_of, height_in, bound_ok, leaf_at, node_ok}
use Rattle.image.specs.Facts.{Rising, Node, Index}
use Rattle.image.specs.Route.{last_from, route}
use Rattle.image.specs.Descent.{down, descend, named_by, read_node, Way, if_read, way_from, way_to, leaf_read, root_read, nodes_in, nodes_after}
use Rattle.image.specs.Says.{Belongs, own_place, NodeRead, again, new, Comes, at_leaf, through, Breaks, breaks_here, breaks_below, GoodLeaf, ReadSound, ReadUnsound, bad_node, bad_leaf}
use Rattle.image.specs.Marks.{Judged}
use Rattle.image.specs.declared.Place.{Place}
use Rattle.image.proofs.Parts.{some-injective}
use Rattle.image.proofs.Apart.{All-among}
use Rattle.image.proofs.General.{All-unmap, All-middle}
use Rattle.image.proofs.Rising.{From, Below}
use Rattle.image.proofs.Soundness.{page-rising, node-facts, facts-node, node-some, leaf-facts, facts-leaf}
use Rattle.image.proofs.Belonging.{belongs-to, down_is}

-- ---- a page by itself: a record shows that its range is one

bound-order : (kind : ℕ) (empty : Bool) (lo hi own : ℕ) (p : List ℕ) → (empty ≡ true → lo ≤ hi) → bound_ok format1 kind empty lo hi own p ≡ true → lo ≤ hi
unfolding bound_ok
bound-order kind empty lo hi own p le h =
    let t = everything _ h in
    go (records p) (either empty (leb 1 (length (records p))) t.1.0)
    (all_b-true (λ (r : Rec). leb lo r.key) (λ (r : Rec). lo ≤ r.key) (λ r e. leb-true _ _ e) (records p) t.1.1.0)
    (all_b-true (λ (r : Rec). ltb r.key hi) (λ (r : Rec). suc r.key ≤ hi) (λ r e. ltb-true _ _ e) (records p) t.1.1.1.0)
  where
    go : (rs : List Rec) → (empty ≡ true) ⊎ (leb 1 (length rs) ≡ true) → From lo rs → Below rs hi → lo ≤ hi
    go rs (inl e) f b = le e
    go [] (inr e) f b = let z = leb-true 1 0 e in absurd (omega arith)
    go (r ∷ rs) (inr e) f b = omega (arith, f.0, b.0)

-- "A page has a height": the root's is 1 at least, and 2 at most
pub height-in : (img : List ℕ) (root : ℕ) → (1 ≤ height_of img root) × (height_of img root ≤ 2)
unfolding height_in
height-in img root = go ((read_head (page_of img root)).kind - 1)
  where
    go : (h : ℕ) → (1 ≤ pick (leb 1 h && leb h 2) h 1) × (pick (leb 1 h && leb h 2) h 1 ≤ 2)
    go zero = (omega arith, omega arith)
    go (suc zero) = (omega arith, omega arith)
    go (suc (suc zero)) = (omega arith, omega arith)
    go (suc (suc (suc h))) = rw (le-leb 1 (suc (suc (suc h))) (omega arith), lt-leb (suc (suc (suc h))) 2 (omega arith)) (omega arith, omega arith)

module _ (img : List ℕ) where
  pub node-holds : (h : ℕ) (names : List ℕ) (p : Place) → node_ok img h names p ≡ true → Node img h names p
  unfolding node_ok
  node-holds h names p e = node-facts img h names p (bound-order (suc h) false p.from p.below p.page (page_of img p.page) (λ q. absurd (true≢false (sym q))) (everything _ e).0) e

  -- it is a page above the leaves by itself
  pub node-judged : (h : ℕ) (names : List ℕ) (p : Place) → Node img (suc h) names p → Judged img p.page
  unfolding children
  node-judged h names p n = record { page = record { kind = suc (suc h); above = omega arith; page = n.bound.page; some = node-some img (suc h) names p n }; inside = n.inside }

  judged-rising : (q : ℕ) → Judged img q → Rising 0 (children img q) (suc top_key)
  unfolding children
  judged-rising q j = page-rising j.page.kind q (page_of img q) j.page.page

  judged-some : (q : ℕ) → Judged img q → 1 ≤ length (children img q)
  unfolding children
  judged-some q j = j.page.some

  -- each number belongs to a page that it names
  pub judged-belongs : (k q : ℕ) → Judged img q → Belongs k (children img q)
  judged-belongs k q j = belongs-to k 0 (children img q) (suc top_key) (judged-rising q j) (judged-some q j)

module _ (img : List ℕ) (root : ℕ) where
  -- ---- a page above the leaves, read

  module _ (h : ℕ) (p : Place) (nodes : List ℕ) where
    pub node-read : (ns : List ℕ) → read_node img root h p nodes ≡ Some ns → NodeRead img root h p nodes ns
    unfolding read_node
    node-read ns e = go (among p.page nodes) refl (node_ok img h (named_by img root nodes) p) refl e
      where
        go : (a : Bool) → among p.page nodes ≡ a → (t : Bool) → node_ok img h (named_by img root nodes) p ≡ t → pick a (Some nodes) (pick t (Some (p.page ∷ nodes)) None) ≡ Some ns →
            NodeRead img root h p nodes ns
        go true f t g q = subst (λ (l : List ℕ). NodeRead img root h p nodes l) (some-injective nodes ns q) (again f)
        go false f true g q = subst (λ (l : List ℕ). NodeRead img root h p nodes l) (some-injective (p.page ∷ nodes) ns q) (new f (node-holds img h (named_by img root nodes) p g))
        go false f false g q = let z : ◌≡◌ {A = ℕ} 0 1 = cc in absurd (omega arith)

    pub read-again : among p.page nodes ≡ true → read_node img root h p nodes ≡ Some nodes
    unfolding read_node
    read-again f = rw f

    pub read-new : among p.page nodes ≡ false → Node img h (named_by img root nodes) p → read_node img root h p nodes ≡ Some (p.page ∷ nodes)
    unfolding read_node
    read-new f n = rw (f, facts-node img h (named_by img root nodes) p n)

    pub read-node : (ns : List ℕ) → NodeRead img root h p nodes ns → read_node img root h p nodes ≡ Some ns
    read-node _ (again f) = read-again f
    read-node _ (new f n) = read-new f n

    pub node-unread : read_node img root h p nodes ≡ None → (among p.page nodes ≡ false) × (Node img h (named_by img root nodes) p → ⊥)
    unfolding read_node
    node-unread e = go (among p.page nodes) refl (node_ok img h (named_by img root nodes) p) refl e
      where
        go : (a : Bool) → among p.page nodes ≡ a → (t : Bool) → node_ok img h (named_by img root nodes) p ≡ t → pick a (Some nodes) (pick t (Some (p.page ∷ nodes)) None) ≡ None →
            (among p.page nodes ≡ false) × (Node img h (named_by img root nodes) p → ⊥)
        go true f t g q = let z : ◌≡◌ {A = ℕ} 0 1 = cc in absurd (omega arith)
        go false f true g q = let z : ◌≡◌ {A = ℕ} 0 1 = cc in absurd (omega arith)
        go false f false g q = (f, λ n. true≢false (sym (facts-node img h (named_by img root nodes) p n) ∙ g))

    pub unread-node : among p.page nodes ≡ false → (Node img h (named_by img root nodes) p → ⊥) → read_node img root h p nodes ≡ None
    unfolding read_node
    unread-node f n = rw (f, not-true (node_ok img h (named_by img root nodes) p) (λ t. n (node-holds img h (named_by img root nodes) p t)))

  -- what is read is judged, if what was read before is
  pub read-judged : (h : ℕ) (p : Place) (nodes ns : List ℕ) → All (Judged img) nodes → NodeRead img root (suc h) p nodes ns → Judged img p.page × All (Judged img) ns
  read-judged h p nodes _ j (again f) = (All-among (Judged img) nodes j p.page f, j)
  read-judged h p nodes _ j (new f n) = let x = node-judged img h (named_by img root nodes) p n in (x, (x, j))

  -- ---- the way down

  module _ (k : ℕ) where
    -- one page named on the way
    abbrev alone : Bool → Place → Bool
    alone only p = only && eqb (length (children img p.page)) 1

    pub comes-way : (h : ℕ) (only : Bool) (p : Place) (nodes : List ℕ) (w : Way) → Comes img root k h only p nodes w → way_from img root k h only p nodes ≡ Some w
    unfolding way_from
    comes-way _ _ _ _ _ (at_leaf only p nodes) = refl
    comes-way _ _ _ _ _ (through h only p nodes ns w r b c) =
        rw (read-node (suc h) p nodes ns r) (ap (λ (q : Place). way_from img root k h (alone only p) q ns) (down_is img k p b) ∙ comes-way h (alone only p) (own_place p b) ns w c)

    pub breaks-none : (h : ℕ) (only : Bool) (p : Place) (nodes : List ℕ) → Breaks img root k h p nodes → way_from img root k h only p nodes ≡ None
    unfolding way_from
    breaks-none _ only _ _ (breaks_here h p nodes a n) = rw (unread-node (suc h) p nodes a n)
    breaks-none _ only _ _ (breaks_below h p nodes ns r b d) =
        rw (read-node (suc h) p nodes ns r) (ap (λ (q : Place). way_from img root k h (alone only p) q ns) (down_is img k p b) ∙ breaks-none h (alone only p) (own_place p b) ns d)

    -- what is known of the way, found or not
    abbrev WayTold : ℕ → Bool → Place → List ℕ → Option Way → Type 0
    WayTold h only p nodes None = Breaks img root k h p nodes
    WayTold h only p nodes (Some w) = Comes img root k h only p nodes w × All (Judged img) w.nodes

    way-told : (h : ℕ) (only : Bool) (p : Place) (nodes : List ℕ) → All (Judged img) nodes → WayTold h only p nodes (way_from img root k h only p nodes)
    unfolding way_from
    way-told zero only p nodes j = (at_leaf only p nodes, j)
    way-told (suc h) only p nodes j = go (read_node img root (suc h) p nodes) refl (λ q ns. way-told h (alone only p) q ns)
      where
        on : (ns : List ℕ) (r : NodeRead img root (suc h) p nodes ns) (b : Belongs k (children img p.page)) (x : Option Way) → WayTold h (alone only p) (own_place p b) ns x → WayTold (suc h) only p nodes x
        on ns r b None t = breaks_below h p nodes ns r b t
        on ns r b (Some w) t = (through h only p nodes ns w r b t.0, t.1)

        go : (x : Option (List ℕ)) → read_node img root (suc h) p nodes ≡ x →
            ((q : Place) (ns : List ℕ) → All (Judged img) ns → WayTold h (alone only p) q ns (way_from img root k h (alone only p) q ns)) →
            WayTold (suc h) only p nodes (if_read x (λ ns. way_from img root k h (alone only p) (down img k p) ns))
        go None e f = let u = node-unread (suc h) p nodes e in breaks_here h p nodes u.0 u.1
        go (Some ns) e f =
            let r = node-read (suc h) p nodes ns e in
            let g = read-judged h p nodes ns j r in
            let b = judged-belongs img k p.page g.0 in
            on ns r b (way_from img root k h (alone only p) (down img k p) ns)
            (subst (λ (q : Place). WayTold h (alone only p) (own_place p b) ns (way_from img root k h (alone only p) q ns)) (sym (down_is img k p b)) (f (own_place p b) ns g.1))

    pub way-comes : (h : ℕ) (only : Bool) (p : Place) (nodes : List ℕ) (w : Way) → All (Judged img) nodes → way_from img root k h only p nodes ≡ Some w → Comes img root k h only p nodes w × All (Judged img) w.nodes
    way-comes h only p nodes w j e = subst (WayTold h only p nodes) e (way-told h only p nodes j)

    pub none-breaks : (h : ℕ) (only : Bool) (p : Place) (nodes : List ℕ) → All (Judged img) nodes → way_from img root k h only p nodes ≡ None → Breaks img root k h p nodes
    none-breaks h only p nodes j e = subst (WayTold h only p nodes) e (way-told h only p nodes j)

    -- one page of a way
    pub record Step (h : ℕ) (only : Bool) (p : Place) (nodes : List ℕ) (w : Way) : Type 0 where
      pub nodes' : List ℕ
      pub read : read_node img root (suc h) p nodes ≡ Some nodes'
      pub on : way_from img root k h (only && eqb (length (children img p.page)) 1) (down img k p) nodes' ≡ Some w

    pub way-step : (h : ℕ) (only : Bool) (p : Place) (nodes : List ℕ) (w : Way) → way_from img root k (suc h) only p nodes ≡ Some w → Step h only p nodes w
    unfolding way_from
    way-step h only p nodes w e = go (read_node img root (suc h) p nodes) refl e
      where
        go : (x : Option (List ℕ)) → read_node img root (suc h) p nodes ≡ x → if_read x (λ ns. way_from img root k h (alone only p) (down img k p) ns) ≡ Some w → Step h only p nodes w
        go None f g = let z : ◌≡◌ {A = ℕ} 0 1 = cc in absurd (omega arith)
        go (Some ns) f g = record { nodes' = ns; read = f; on = g }

    -- at its end
    pub way-end : (only : Bool) (p : Place) (nodes : List ℕ) (w : Way) → way_from img root k 0 only p nodes ≡ Some w → w ≡ record { nodes = nodes; only = only; leaf = p }
    unfolding way_from
    way-end only p nodes w e = sym (some-injective (record { nodes = nodes; only = only; leaf = p }) w e)

    -- a way comes where the descent does
    pub way-leaf : (h : ℕ) (only : Bool) (p : Place) (nodes : List ℕ) (w : Way) → way_from img root k h only p nodes ≡ Some w → w.leaf ≡ descend img k h p
    unfolding descend
    way-leaf zero only p nodes w e = ap (λ (x : Way). x.leaf) (way-end only p nodes w e)
    way-leaf (suc h) only p nodes w e = let s = way-step h only p nodes w e in way-leaf h (alone only p) (down img k p) s.nodes' w s.on

  -- ---- where each page on the way names one page alone, all keys have one leaf

  one-slot : (k lo : ℕ) (cs : List Rec) (hi : ℕ) (z : Place) (q : Place) → length cs ≡ 1 → get_or (places lo cs hi) 0 z ≡ q → get_or (places lo cs hi) (route k cs) z ≡ q
  unfolding route last_from places
  one-slot k lo [] hi z q e f = let n : ◌≡◌ {A = ℕ} 0 1 = e in absurd (omega arith)
  one-slot k lo (c ∷ []) hi z q e f = go (leb c.key k)
    where
      go : (t : Bool) → get_or (record { page = child_of c; from = lo; below = hi } ∷ []) (pick t 0 0) z ≡ q
      go true = f
      go false = f
  one-slot k lo (c ∷ d ∷ cs) hi z q e f = absurd (omega arith)

  one-place : (lo : ℕ) (cs : List Rec) (hi : ℕ) (z : Place) → length cs ≡ 1 → ((get_or (places lo cs hi) 0 z).from ≡ lo) × ((get_or (places lo cs hi) 0 z).below ≡ hi)
  unfolding places
  one-place lo [] hi z e = let n : ◌≡◌ {A = ℕ} 0 1 = e in absurd (omega arith)
  one-place lo (c ∷ []) hi z e = (refl, refl)
  one-place lo (c ∷ d ∷ cs) hi z e = absurd (omega arith)

  -- the one page that the page at p names, whatever the key
  abbrev under_one : Place → Place
  under_one p = get_or (places p.from (children img p.page) p.below) 0 p

  down-one : (k : ℕ) (p : Place) → length (children img p.page) ≡ 1 → down img k p ≡ under_one p
  unfolding down
  down-one k p e = one-slot k p.from (children img p.page) p.below p (under_one p) e refl

  pub record OneLeaf (h : ℕ) (only : Bool) (p leaf : Place) : Type 0 where
    pub before : only ≡ true
    pub from : leaf.from ≡ p.from
    pub below : leaf.below ≡ p.below
    pub all : (j : ℕ) → descend img j h p ≡ leaf

  pub only-leaf : (k h : ℕ) (only : Bool) (p : Place) (nodes : List ℕ) (w : Way) → way_from img root k h only p nodes ≡ Some w → w.only ≡ true → OneLeaf h only p w.leaf
  unfolding descend
  only-leaf k zero only p nodes w e o =
      let f = way-end k only p nodes w e in
      let g : w.leaf ≡ p = ap (λ (x : Way). x.leaf) f in
      record { before = ap (λ (x : Way). x.only) (sym f) ∙ o; from = ap (λ (q : Place). q.from) g; below = ap (λ (q : Place). q.below) g; all = λ j. sym g }
  only-leaf k (suc h) only p nodes w e o =
      let s = way-step k h only p nodes w e in
      let t = only-leaf k h (alone k only p) (down img k p) s.nodes' w s.on o in
      let one : length (children img p.page) ≡ 1 = eqb-true (length (children img p.page)) 1 (second only (eqb (length (children img p.page)) 1) t.before) in
      let d = down-one k p one in
      let q = one-place p.from (children img p.page) p.below p one in
      record {
        before = first only (eqb (length (children img p.page)) 1) t.before;
        from = t.from ∙ ap (λ (x : Place). x.from) d ∙ q.0;
        below = t.below ∙ ap (λ (x : Place). x.below) d ∙ q.1;
        all = λ j. ap (λ (x : Place). descend img j h x) (down-one j p one ∙ sym d) ∙ t.all j;
      }

  -- ---- the leaf, sound or not

  module _ (k : ℕ) (nodes : List ℕ) (w : Way) (e : way_to img root nodes k ≡ Some w) where
    ordered : w.only ≡ true → w.leaf.from ≤ w.leaf.below
    unfolding way_to top_place
    ordered o = let t = only-leaf k (height_of img root) true (top_place root) nodes w e o in omega (arith, t.from, t.below)

    -- "the pages read break soundness by themselves"
    pub leaf-good : leaf_at img w.only w.leaf ≡ true → GoodLeaf img w
    unfolding leaf_at
    leaf-good t = leaf-facts w.only w.leaf.from w.leaf.below w.leaf.page (page_of img w.leaf.page) (bound-order leaf_kind w.only w.leaf.from w.leaf.below w.leaf.page (page_of img w.leaf.page) ordered t) t

    pub good-leaf : GoodLeaf img w → leaf_at img w.only w.leaf ≡ true
    unfolding leaf_at
    good-leaf g = facts-leaf w.only w.leaf.from w.leaf.below w.leaf.page (page_of img w.leaf.page) g

  module _ (k : ℕ) (nodes : List ℕ) where
    leaf-read : (w : Way) → way_to img root nodes k ≡ Some w → leaf_at img w.only w.leaf ≡ true → leaf_read img root nodes k ≡ Some w
    unfolding leaf_read
    leaf-read w e t = rw (e, t)

    leaf-bad : (w : Way) → way_to img root nodes k ≡ Some w → leaf_at img w.only w.leaf ≡ false → leaf_read img root nodes k ≡ None
    unfolding leaf_read
    leaf-bad w e t = rw (e, t)

    -- a leaf that is read is at the end of a way, and sound
    pub leaf-way : (w : Way) → leaf_read img root nodes k ≡ Some w → (way_to img root nodes k ≡ Some w) × (leaf_at img w.only w.leaf ≡ true)
    unfolding leaf_read
    leaf-way w e = go (way_to img root nodes k) e
      where
        leaf : (v : Way) (t : Bool) → leaf_at img v.only v.leaf ≡ t → pick t (Some v) None ≡ Some w → ◌≡◌ {A = Option Way} (Some v) (Some w) × (leaf_at img w.only w.leaf ≡ true)
        leaf v true f q = let s = some-injective v w q in (q, ap (λ (x : Way). leaf_at img x.only x.leaf) (sym s) ∙ f)
        leaf v false f q = let z : ◌≡◌ {A = ℕ} 0 1 = cc in absurd (omega arith)

        go : (x : Option Way) → if_read x (λ v. pick (leaf_at img v.only v.leaf) (Some v) None) ≡ Some w → (x ≡ Some w) × (leaf_at img w.only w.leaf ≡ true)
        go None q = let z : ◌≡◌ {A = ℕ} 0 1 = cc in absurd (omega arith)
        go (Some v) q = leaf v (leaf_at img v.only v.leaf) refl q

    leaf-none : way_to img root nodes k ≡ None → leaf_read img root nodes k ≡ None
    unfolding leaf_read
    leaf-none e = rw e

    pub comes-to : (w : Way) → Comes img root k (height_of img root) true (top_place root) nodes w → way_to img root nodes k ≡ Some w
    unfolding way_to
    comes-to w c = comes-way k (height_of img root) true (top_place root) nodes w c

    pub read-sound : (r : ReadSound img root nodes k) → leaf_read img root nodes k ≡ Some r.way
    read-sound r = let e = comes-to r.way r.comes in leaf-read r.way e (good-leaf k nodes r.way e r.good)

    pub read-unsound : ReadUnsound img root nodes k → leaf_read img root nodes k ≡ None
    unfolding way_to
    read-unsound (bad_node b) = leaf-none (breaks-none k (height_of img root) true (top_place root) nodes b)
    read-unsound (bad_leaf w c g) = let e = comes-to w c in leaf-bad w e (not-true (leaf_at img w.only w.leaf) (λ t. g (leaf-good k nodes w e t)))

    -- the pages read before are judged: the way ends at a leaf that is sound, or something on it is not
    module _ (j : All (Judged img) nodes) where
      pub to-comes : (w : Way) → way_to img root nodes k ≡ Some w → Comes img root k (height_of img root) true (top_place root) nodes w × All (Judged img) w.nodes
      unfolding way_to
      to-comes w e = way-comes k (height_of img root) true (top_place root) nodes w j e

      pub read-or-not : ReadSound img root nodes k ⊎ ReadUnsound img root nodes k
      unfolding way_to
      read-or-not = go (way_to img root nodes k) refl
        where
          leaf : (w : Way) → way_to img root nodes k ≡ Some w → (t : Bool) → leaf_at img w.only w.leaf ≡ t → ReadSound img root nodes k ⊎ ReadUnsound img root nodes k
          leaf w e true t = inl (record { way = w; comes = (to-comes w e).0; good = leaf-good k nodes w e t })
          leaf w e false t = inr (bad_leaf w (to-comes w e).0 (λ g. true≢false (sym (good-leaf k nodes w e g) ∙ t)))

          none : way_to img root nodes k ≡ None → ReadUnsound img root nodes k
          none e = bad_node (none-breaks k (height_of img root) true (top_place root) nodes j e)

          go : (x : Option Way) → way_to img root nodes k ≡ x → ReadSound img root nodes k ⊎ ReadUnsound img root nodes k
          go None e = inr (none e)
          go (Some w) e = leaf w e (leaf_at img w.only w.leaf) refl

      pub sound-judged : (r : ReadSound img root nodes k) → All (Judged img) r.way.nodes
      sound-judged r = (to-comes r.way (comes-to r.way r.comes)).1

  -- the leaf is a page of the image
  comes-inside : (k h : ℕ) (only : Bool) (p : Place) (nodes : List ℕ) (w : Way) → All (Judged img) nodes → is_page (page_count img) p.page ≡ true → Comes img root k h only p nodes w →
      is_page (page_count img) w.leaf.page ≡ true
  comes-inside k _ _ _ _ _ j q (at_leaf only p nodes) = q
  comes-inside k _ _ _ _ _ j q (through h only p nodes ns w r b c) =
      let f = read-judged h p nodes ns j r in
      let P : Rec → Type 0 = λ c. is_page (page_count img) (child_of c) ≡ true in
      let here : P b.own = All-middle P b.before b.own b.later (subst (λ (l : List Rec). All P l) b.shape (All-unmap child_of (λ (x : ℕ). is_page (page_count img) x ≡ true) (children img p.page) f.0.inside)) in
      comes-inside k h (only && eqb (length (children img p.page)) 1) (own_place p b) ns w f.1 here c

  pub leaf-inside : (k : ℕ) (nodes : List ℕ) → All (Judged img) nodes → is_page (page_count img) root ≡ true → (r : ReadSound img root nodes k) → is_page (page_count img) r.way.leaf.page ≡ true
  unfolding top_place
  leaf-inside k nodes j q r = comes-inside k (height_of img root) true (top_place root) nodes r.way j q r.comes

  -- ---- one key after the other

  pub judged-after : (ks nodes : List ℕ) → All (Judged img) nodes → All (Judged img) (nodes_after img root nodes ks)
  unfolding nodes_after
  judged-after [] nodes j = j
  judged-after (k ∷ ks) nodes j = judged-after ks (nodes_in (way_to img root nodes k) nodes) (go (way_to img root nodes k) refl)
    where
      go : (x : Option Way) → way_to img root nodes k ≡ x → All (Judged img) (nodes_in x nodes)
      go None e = j
      go (Some w) e = (to-comes k nodes j w e).1

  -- the root is judged first
  pub root-judged : Index img root → All (Judged img) (root_read root)
  unfolding top_place
  root-judged i = (go (height_of img root) (height-in img root).0 i, tt)
    where
      go : (h : ℕ) → 1 ≤ h → Node img h (root ∷ []) (top_place root) → Judged img root
      go zero q n = absurd (omega arith)
      go (suc h) q n = node-judged img h (root ∷ []) (top_place root) n
