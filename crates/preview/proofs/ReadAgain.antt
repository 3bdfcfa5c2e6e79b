-- A key that was looked for, and whose leaf was found sound, is found the same later in the call: the pages on its way are read by then.
-- Assumes nothing.
use Rattle.std.specs.Prelude.{None, Option, Some}
use Prim.Native.Nat.{ℕ, zero, suc}
use mathlib.Core.Path.{◌≡◌, refl, sym, ap, ◌∙◌, subst}
use mathlib.Core.Bool.{Bool, true, ◌&&◌}
use mathlib.Core.List.{List, [], ◌∷◌, ◌++◌}
use native.Mathlib.Omega.{arith}
use lib.ListN.{length}
use lib.Dec.{eqb}
use Rattle.page.specs.Layout.{Rec}
use Rattle.image.specs.Image.{children, among, top_place, height_of, leaf_at}
use Rattle.image.specs.Descent.{down, read_node, Way, way_from, way_to, leaf_read, root_read, nodes_in, nodes_after, records_in, records_for}
use Rattle.image.specs.Says.{NodeRead, again, new}
use Rattle.image.specs.declared.Place.{Place}
use Rattle.image.proofs.Apart.{among_first, among-rest}
use Rattle.image.proofs.Ways.{node-read, read-again, way-step, way-end, leaf-way}
use Rattle.edit.proofs.Keys.{Steady}

-- the pages a are among the pages b
abbrev pub Within : List ℕ → List ℕ → Type 0
Within a b = (q : ℕ) → among q a ≡ true → among q b ≡ true

module _ (img : List ℕ) (root : ℕ) where
  -- a page is read then, and so are those read before it
  pub node-grows : (h : ℕ) (p : Place) (nodes ns : List ℕ) → read_node img root h p nodes ≡ Some ns → (among p.page ns ≡ true) × Within nodes ns
  node-grows h p nodes ns e = go ns (node-read img root h p nodes ns e)
    where
      go : (ms : List ℕ) → NodeRead img root h p nodes ms → (among p.page ms ≡ true) × Within nodes ms
      go _ (again a) = (a, λ q m. m)
      go _ (new a n) = (among_first p.page nodes, λ q m. among-rest q p.page nodes m)

  module _ (k : ℕ) where
    abbrev one : Bool → Place → Bool
    one only p = only && eqb (length (children img p.page)) 1

    pub way-grows : (h : ℕ) (only : Bool) (p : Place) (nodes : List ℕ) (w : Way) → way_from img root k h only p nodes ≡ Some w → Within nodes w.nodes
    way-grows zero only p nodes w e q m = subst (λ (x : Way). among q x.nodes ≡ true) (sym (way-end img root k only p nodes w e)) m
    way-grows (suc h) only p nodes w e q m =
        let s = way-step img root k h only p nodes w e in
        way-grows h (one only p) (down img k p) s.nodes' w s.on q ((node-grows (suc h) p nodes s.nodes' s.read).1 q m)

    -- the page at p is read by the end
    pub way-reads : (h : ℕ) (only : Bool) (p : Place) (nodes : List ℕ) (w : Way) → way_from img root k (suc h) only p nodes ≡ Some w → among p.page w.nodes ≡ true
    way-reads h only p nodes w e =
        let s = way-step img root k h only p nodes w e in
        way-grows h (one only p) (down img k p) s.nodes' w s.on p.page (node-grows (suc h) p nodes s.nodes' s.read).0

    -- the way once more, where its pages are among those that are read: nothing is read for it
    pub way-again : (h : ℕ) (only : Bool) (p : Place) (nodes : List ℕ) (w : Way) → way_from img root k h only p nodes ≡ Some w → (ms : List ℕ) → Within w.nodes ms →
        way_from img root k h only p ms ≡ Some (record { nodes = ms; only = w.only; leaf = w.leaf })
    unfolding way_from
    way-again zero only p nodes w e ms m = ap (λ (x : Way). Some (record { nodes = ms; only = x.only; leaf = x.leaf })) (sym (way-end img root k only p nodes w e))
    way-again (suc h) only p nodes w e ms m =
        let s = way-step img root k h only p nodes w e in
        rw (read-again img root (suc h) p ms (m p.page (way-reads h only p nodes w e))) (way-again h (one only p) (down img k p) s.nodes' w s.on ms m)

    module _ (nodes : List ℕ) (w : Way) (e : way_to img root nodes k ≡ Some w) where
      pub to-grows : Within nodes w.nodes
      unfolding way_to
      to-grows = way-grows (height_of img root) true (top_place root) nodes w e

      pub to-again : (ms : List ℕ) → Within w.nodes ms → way_to img root ms k ≡ Some (record { nodes = ms; only = w.only; leaf = w.leaf })
      unfolding way_to
      to-again ms m = way-again (height_of img root) true (top_place root) nodes w e ms m

    -- a way whose leaf is sound is read
    pub parts-read : (nodes : List ℕ) (w : Way) → way_to img root nodes k ≡ Some w → leaf_at img w.only w.leaf ≡ true → leaf_read img root nodes k ≡ Some w
    unfolding leaf_read
    parts-read nodes w e t = rw (e, t)

  -- ---- several keys

  pub nodes-append : (ks js nodes : List ℕ) → nodes_after img root nodes (ks ++ js) ≡ nodes_after img root (nodes_after img root nodes ks) js
  unfolding nodes_after
  nodes-append [] js nodes = refl
  nodes-append (k ∷ ks) js nodes = nodes-append ks js (nodes_in (way_to img root nodes k) nodes)

  pub nodes-grow : (ks nodes : List ℕ) → Within nodes (nodes_after img root nodes ks)
  unfolding nodes_after
  nodes-grow [] nodes q m = m
  nodes-grow (k ∷ ks) nodes q m = go (way_to img root nodes k) refl (λ ns. nodes-grow ks ns)
    where
      go : (x : Option Way) → way_to img root nodes k ≡ x → ((ns : List ℕ) → Within ns (nodes_after img root ns ks)) → among q (nodes_after img root (nodes_in x nodes) ks) ≡ true
      go None r g = g nodes q m
      go (Some w) r g = g w.nodes q (to-grows k nodes w r q m)

  -- the pages that are read once the keys `more` were looked for after k
  module _ (nodes : List ℕ) (k : ℕ) (w : Way) (e : way_to img root nodes k ≡ Some w) (more : List ℕ) where
    pub past-key : nodes_after img root nodes (k ∷ more) ≡ nodes_after img root w.nodes more
    unfolding nodes_after
    past-key = ap (λ (x : Option Way). nodes_after img root (nodes_in x nodes) more) e

    -- its way is known then
    pub known-way : way_to img root (nodes_after img root nodes (k ∷ more)) k ≡ Some (record { nodes = nodes_after img root nodes (k ∷ more); only = w.only; leaf = w.leaf })
    known-way =
        to-again k nodes w e (nodes_after img root nodes (k ∷ more)) (λ q m. ap (among q) past-key ∙ nodes-grow more w.nodes q m)

  leaf-records : (k : ℕ) (nodes : List ℕ) (w : Way) → way_to img root nodes k ≡ Some w → leaf_at img w.only w.leaf ≡ true → records_in img (leaf_read img root nodes k) ≡ records_in img (Some w)
  leaf-records k nodes w e t = ap (records_in img) (parts-read k nodes w e t)

  pub records-steady : Steady (records_for img root)
  unfolding records_for
  records-steady = record { again = λ ks k more t e. go ks k more t (leaf_read img root (nodes_after img root (root_read root) ks) k) refl e }
    where
      go : (ks : List ℕ) (k : ℕ) (more : List ℕ) (t : List Rec) (x : Option Way) → leaf_read img root (nodes_after img root (root_read root) ks) k ≡ x → records_in img x ≡ Some t →
          records_in img (leaf_read img root (nodes_after img root (root_read root) (ks ++ k ∷ more)) k) ≡ Some t
      go ks k more t None r e = let z : ◌≡◌ {A = ℕ} 0 1 = cc in absurd (omega arith)
      go ks k more t (Some w) r e =
          let ns : List ℕ = nodes_after img root (root_read root) ks in
          let p = leaf-way img root k ns w r in
          ap (λ (ms : List ℕ). records_in img (leaf_read img root ms k)) (nodes-append ks (k ∷ more) (root_read root))
          ∙ leaf-records k (nodes_after img root ns (k ∷ more)) (record { nodes = nodes_after img root ns (k ∷ more); only = w.only; leaf = w.leaf }) (known-way ns k w p.0 more) p.1
          ∙ e

  -- what is read for a key once the keys ks were looked for
  pub records-by : (ks : List ℕ) (k : ℕ) → records_for img root ks k ≡ records_in img (leaf_read img root (nodes_after img root (root_read root) ks) k)
  unfolding records_for
  records-by ks k = refl

  -- no page is read for a key that was looked for before
  pub known-nodes : (ks : List ℕ) (k : ℕ) (more : List ℕ) (t : List Rec) → records_for img root ks k ≡ Some t →
      nodes_in (way_to img root (nodes_after img root (root_read root) (ks ++ k ∷ more)) k) (nodes_after img root (root_read root) (ks ++ k ∷ more)) ≡ nodes_after img root (root_read root) (ks ++ k ∷ more)
  known-nodes ks k more t e = go (leaf_read img root (nodes_after img root (root_read root) ks) k) refl (sym (records-by ks k) ∙ e)
    where
      go : (x : Option Way) → leaf_read img root (nodes_after img root (root_read root) ks) k ≡ x → records_in img x ≡ Some t →
          nodes_in (way_to img root (nodes_after img root (root_read root) (ks ++ k ∷ more)) k) (nodes_after img root (root_read root) (ks ++ k ∷ more)) ≡ nodes_after img root (root_read root) (ks ++ k ∷ more)
      go None r f = let z : ◌≡◌ {A = ℕ} 0 1 = cc in absurd (omega arith)
      go (Some w) r f =
          let ns : List ℕ = nodes_after img root (root_read root) ks in
          let p = leaf-way img root k ns w r in
          ap (λ (ms : List ℕ). nodes_in (way_to img root ms k) ms) (nodes-append ks (k ∷ more) (root_read root))
          ∙ ap (λ (x : Option Way). nodes_in x (nodes_after img root ns (k ∷ more))) (known-way ns k w p.0 more)
          ∙ sym (nodes-append ks (k ∷ more) (root_read root))

  -- no key
  pub first-nodes : nodes_after img root (root_read root) [] ≡ root_read root
  unfolding nodes_after
  first-nodes = refl

  -- one key more
  pub nodes-more : (ks : List ℕ) (k : ℕ) → nodes_after img root (root_read root) (ks ++ k ∷ []) ≡
      nodes_in (way_to img root (nodes_after img root (root_read root) ks) k) (nodes_after img root (root_read root) ks)
  unfolding nodes_after
  nodes-more ks k = nodes-append ks (k ∷ []) (root_read root)
