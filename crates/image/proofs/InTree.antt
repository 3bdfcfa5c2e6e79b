-- In a tree each way is read: the pages on it are judged and found sound, whatever keys were looked for before, and so is the leaf at its end.
-- Assumes nothing.
use Rattle.std.specs.Prelude.{None, Option, Some}
use Prim.Native.Nat.{ℕ, zero, suc, ◌≤◌}
use mathlib.Core.Path.{◌≡◌, refl, sym, ap, ◌∙◌, subst}
use mathlib.Core.Logic.{◌⊎◌, inl, inr}
use mathlib.Core.Bool.{Bool, true, false, ◌&&◌}
use mathlib.Core.List.{List, [], ◌∷◌, ◌++◌, map}
use native.Mathlib.Omega.{arith}
use lib.ListN.{length, length-append}
use lib.Dec.{eqb}
use borrow.Author.Tests.{eq-eqb}
use Rattle.codec.specs.Lists.{All}
use Rattle.codec.proofs.Tests.{both}
use Rattle.page.specs.Layout.{leaf_kind, Rec}
use Rattle.page.specs.PageFormat.{format1}
use Rattle.page.specs.Operations.{page_of}
use Rattle.image.specs.PageZero.{page_count, is_page}
use Rattle.image.specs.Image.{child_of, children, among, records_at, joined, gathered, pages_in, leaves_in, height_of, start_of, first_key, top_place, leaf_at, count}
use Rattle.image.specs.Facts.{Node, Index, Spans, Under, Nonempty, TreeIn}
use Rattle.image.specs.Descent.{down, descend, leaf_for, named_by, read_node, Way, way_from, way_to, leaf_read, root_read, nodes_in, nodes_after}
use Rattle.image.specs.Says.{Belongs, ReadSound, ReadUnsound}
use Rattle.image.specs.declared.Place.{Place}
use Rattle.image.proofs.Parts.{some-injective}
use Rattle.image.proofs.General.{All-left, All-right}
use Rattle.image.proofs.Ranges.{spans-cut, joined-append}
use Rattle.image.proofs.Under.{fine-bound}
use Rattle.image.proofs.Alike.{page-first, leaves-some}
use Rattle.image.proofs.Apart.{among_first, All-among}
use Rattle.image.proofs.Soundness.{facts-leaf}
use Rattle.image.proofs.Belonging.{belongs-to, down_is}
use Rattle.image.proofs.Ways.{height-in, read-again, read-new, read-sound, read-unsound}
use Rattle.image.proofs.Times.{count-append, among-count}
use Rattle.image.proofs.Named.{uppers, Some-read, named-apart, read-more, root_some}

module _ (img : List ℕ) where
  -- ---- what lies under the page that a key belongs to

  abbrev U : ℕ → ℕ → ℕ → ℕ → Type 0
  U h a b x = Under format1 img h a b x

  -- the leaves under a page: it is the only one, where each page so far names one page alone, or none is empty
  abbrev pub Full : ℕ → Bool → ℕ → Type 0
  Full h only q = ((only ≡ true) × (length (leaves_in format1 img h q) ≡ 1)) ⊎ All (Nonempty format1 img) (leaves_in format1 img h q)

  named-pages : (P : ℕ → Type 0) (h : ℕ) (cs : List Rec) → All P (joined (λ x. pages_in format1 img h x) cs) → All P (map child_of cs)
  named-pages P h [] a = tt
  named-pages P h (c ∷ cs) a = (
    All-among P (pages_in format1 img h (child_of c)) (All-left P (pages_in format1 img h (child_of c)) (joined (λ x. pages_in format1 img h x) cs) a) (child_of c) (page-first format1 img h (child_of c)),
    named-pages P h cs (All-right P (pages_in format1 img h (child_of c)) (joined (λ x. pages_in format1 img h x) cs) a),
  )

  pub leaves-many : (h lo : ℕ) (cs : List Rec) (hi : ℕ) → Spans (λ a b x. Under format1 img h a b x) lo cs hi → length cs ≤ length (joined (λ x. leaves_in format1 img h x) cs)
  leaves-many h lo [] hi s = omega arith
  leaves-many h lo (c ∷ cs) hi s =
      let a = leaves-some format1 img h lo (first_key cs hi) (child_of c) s.0 in
      let r = leaves-many h (first_key cs hi) cs hi s.1 in
      omega (arith, a, r, length-append (leaves_in format1 img h (child_of c)) (joined (λ x. leaves_in format1 img h x) cs))

  -- what is known of the page at p, of height h, in the tree under `top` of height H
  pub record At (H top h : ℕ) (only : Bool) (p : Place) : Type 0 where
    pub under : Under format1 img h p.from p.below p.page
    pub full : Full h only p.page
    pub inside : All (λ (q : ℕ). is_page (page_count img) q ≡ true) (pages_in format1 img h p.page)
    pub upper : (x : ℕ) → count x (uppers img h p.page) ≤ count x (uppers img H top)

  at-upper : {H top : ℕ} (h : ℕ) (only : Bool) (p : Place) → At H top (suc h) only p → 1 ≤ count p.page (uppers img H top)
  unfolding uppers gathered
  at-upper h only p a =
      let u = a.upper p.page in
      let e = count-append p.page (p.page ∷ []) (joined (λ x. uppers img h x) (records_at format1 img p.page)) in
      let o = among-count p.page (p.page ∷ []) (among_first p.page []) in
      omega (arith, u, e, o)

  module _ (H top : ℕ) (h k : ℕ) (only : Bool) (p : Place) (a : At H top (suc h) only p) where
    abbrev one : Bool
    one = only && eqb (length (children img p.page)) 1

    pub at-belongs : Belongs k (children img p.page)
    unfolding children
    at-belongs = belongs-to k p.from (children img p.page) p.below a.under.0.rising a.under.1.0

    -- the page that the key belongs to
    pub at-down : At H top h one (down img k p)
    unfolding children pages_in leaves_in uppers gathered
    at-down = subst (λ (q : Place). At H top h one q) (sym (down_is img k p b)) (record { under = under; full = full a.full; inside = inside; upper = upper })
      where
        b : Belongs k (children img p.page)
        b = at-belongs

        cs : List Rec
        cs = b.before ++ b.own ∷ b.later

        spans : Spans (λ x y z. Under format1 img h x y z) p.from cs p.below
        spans = subst (λ (l : List Rec). Spans (λ x y z. Under format1 img h x y z) p.from l p.below) b.shape a.under.1.1

        under : Under format1 img h (start_of b.before p.from b.own.key) (first_key b.later p.below) (child_of b.own)
        under = (spans-cut (λ x y z. Under format1 img h x y z) p.from b.before (b.own ∷ b.later) p.below spans).1.0

        here : {A : Type 0} (f : ℕ → List A) → joined f (records_at format1 img p.page) ≡ joined f b.before ++ (f (child_of b.own) ++ joined f b.later)
        here f = ap (joined f) b.shape ∙ joined-append f b.before (b.own ∷ b.later)

        part : {A : Type 0} (P : A → Type 0) (f : ℕ → List A) → All P (joined f (records_at format1 img p.page)) → All P (f (child_of b.own))
        part {A} P f t =
            let u : All P (joined f b.before ++ (f (child_of b.own) ++ joined f b.later)) = subst (λ (l : List A). All P l) (here f) t in
            All-left P (f (child_of b.own)) (joined f b.later) (All-right P (joined f b.before) (f (child_of b.own) ++ joined f b.later) u)

        inside : All (λ (q : ℕ). is_page (page_count img) q ≡ true) (pages_in format1 img h (child_of b.own))
        inside = part (λ (q : ℕ). is_page (page_count img) q ≡ true) (λ x. pages_in format1 img h x) a.inside.1

        full : Full (suc h) only p.page → Full h one (child_of b.own)
        full (inr t) = inr (part (Nonempty format1 img) (λ x. leaves_in format1 img h x) t)
        full (inl t) =
            let f : ℕ → List ℕ = λ x. leaves_in format1 img h x in
            let e : length (joined f b.before ++ (f (child_of b.own) ++ joined f b.later)) ≡ 1 = ap length (sym (here f)) ∙ t.1 in
            let m = leaves-many h p.from (records_at format1 img p.page) p.below a.under.1.1 in
            let s = leaves-some format1 img h (start_of b.before p.from b.own.key) (first_key b.later p.below) (child_of b.own) under in
            let n : length (records_at format1 img p.page) ≡ 1 = omega (arith, t.1, m, a.under.1.0) in
            inl (both t.0 (eq-eqb (length (children img p.page)) 1 n), omega (arith, e, s, length-append (joined f b.before) (f (child_of b.own) ++ joined f b.later), length-append (f (child_of b.own)) (joined f b.later)))

        upper : (x : ℕ) → count x (uppers img h (child_of b.own)) ≤ count x (uppers img H top)
        upper x =
            let f : ℕ → List ℕ = λ y. uppers img h y in
            let t = a.upper x in
            let e = ap (count x) (here f) in
            omega (arith, t, e, count-append x (joined f b.before) (f (child_of b.own) ++ joined f b.later), count-append x (f (child_of b.own)) (joined f b.later))

  -- ---- a tree

  module _ (H root : ℕ) (t : TreeIn format1 img H root) where
    -- each page above the leaves is sound with those that were read before it
    at-node : (h : ℕ) (only : Bool) (p : Place) → At H root (suc h) only p → (nodes : List ℕ) → among p.page nodes ≡ false → Some-read img H root nodes → Node img (suc h) (named_by img root nodes) p
    unfolding named_by children pages_in gathered
    at-node h only p a nodes new r =
        record {
          bound = fine-bound format1 (suc (suc h)) false p.from p.below p.page (page_of img p.page) a.under.0 (inr a.under.1.0);
          inside = named-pages (λ (q : ℕ). is_page (page_count img) q ≡ true) h (records_at format1 img p.page) a.inside.1;
          apart = named-apart img H root t.apart (p.page ∷ nodes) (read-more img H root p.page nodes (at-upper h only p a) new r);
        }

    -- a way that is read, and what was read by its end
    pub record Reads (k h : ℕ) (only : Bool) (p : Place) (nodes : List ℕ) : Type 0 where
      pub way : Way
      pub is : way_from img root k h only p nodes ≡ Some way
      pub leaf : way.leaf ≡ descend img k h p
      pub good : leaf_at img way.only way.leaf ≡ true
      pub read : Some-read img H root way.nodes

    pub reads : (k h : ℕ) (only : Bool) (p : Place) → At H root h only p → (nodes : List ℕ) → Some-read img H root nodes → Reads k h only p nodes
    unfolding way_from descend leaf_at leaves_in gathered
    reads k zero only p a nodes r =
        record {
          way = record { nodes = nodes; only = only; leaf = p };
          is = refl;
          leaf = refl;
          good = facts-leaf only p.from p.below p.page (page_of img p.page) (fine-bound format1 leaf_kind only p.from p.below p.page (page_of img p.page) a.under (some a.full));
          read = r;
        }
      where
        some : Full zero only p.page → (only ≡ true) ⊎ (1 ≤ length (records_at format1 img p.page))
        some (inl x) = inl x.0
        some (inr x) = inr x.0
    reads k (suc h) only p a nodes r = go (among p.page nodes) refl (λ ns q. reads k h one (down img k p) (at-down H root h k only p a) ns q)
      where
        one : Bool
        one = only && eqb (length (children img p.page)) 1

        on : (ns : List ℕ) → read_node img root (suc h) p nodes ≡ Some ns → Reads k h one (down img k p) ns → Reads k (suc h) only p nodes
        on ns e x = record { way = x.way; is = rw e x.is; leaf = x.leaf; good = x.good; read = x.read }

        again : among p.page nodes ≡ true → read_node img root (suc h) p nodes ≡ Some nodes
        again e = read-again img root (suc h) p nodes e

        go : (b : Bool) → among p.page nodes ≡ b → ((ns : List ℕ) → Some-read img H root ns → Reads k h one (down img k p) ns) → Reads k (suc h) only p nodes
        go true e f = on nodes (again e) (f nodes r)
        go false e f =
            on (p.page ∷ nodes) (read-new img root (suc h) p nodes e (at-node h only p a nodes e r)) (f (p.page ∷ nodes) (read-more img H root p.page nodes (at-upper h only p a) e r))

-- ---- the tree under the root

module _ (img : List ℕ) (root : ℕ) (t : TreeIn format1 img (height_of img root) root) where
  -- pages above the leaves, each once
  abbrev pub Some-nodes : List ℕ → Type 0
  Some-nodes nodes = Some-read img (height_of img root) root nodes

  at-root : At img (height_of img root) root (height_of img root) true (top_place root)
  unfolding top_place
  at-root = record { under = t.under; full = full t.filled; inside = t.inside; upper = λ x. omega arith }
    where
      full : (length (leaves_in format1 img (height_of img root) root) ≡ 1) ⊎ All (Nonempty format1 img) (leaves_in format1 img (height_of img root) root) → Full img (height_of img root) true root
      full (inl e) = inl (refl, e)
      full (inr a) = inr a

  pub root-read : Some-nodes (root_read root)
  root-read = root_some img (height_of img root) root (height-in img root).0

  -- the root by itself
  pub tree-index : Index img root
  unfolding named_by top_place among
  tree-index = go (height_of img root) (height-in img root).0 t at-root
    where
      go : (h : ℕ) → 1 ≤ h → TreeIn format1 img h root → At img h root h true (top_place root) → Node img h (root ∷ []) (top_place root)
      go zero q t a = absurd (omega arith)
      go (suc h) q t a = at-node img (suc h) root t h true (top_place root) a [] refl (λ x. omega arith)

  -- what is read for a key, whatever was read before
  pub record Told (k : ℕ) (nodes : List ℕ) : Type 0 where
    pub way : Way
    pub to : way_to img root nodes k ≡ Some way
    pub is : leaf_read img root nodes k ≡ Some way
    pub leaf : way.leaf ≡ leaf_for img root k
    pub read : Some-nodes way.nodes

  pub tree-read : (k : ℕ) (nodes : List ℕ) → Some-nodes nodes → Told k nodes
  unfolding way_to leaf_read leaf_for
  tree-read k nodes r =
      let x = reads img (height_of img root) root t k (height_of img root) true (top_place root) at-root nodes r in
      record { way = x.way; to = x.is; is = rw (x.is, x.good); leaf = x.leaf; read = x.read }

  pub read-after : (ks nodes : List ℕ) → Some-nodes nodes → Some-nodes (nodes_after img root nodes ks)
  unfolding nodes_after
  read-after [] nodes r = r
  read-after (k ∷ ks) nodes r =
      let x = tree-read k nodes r in
      read-after ks (nodes_in (way_to img root nodes k) nodes) (subst (λ (o : Option Way). Some-nodes (nodes_in o nodes)) (sym x.to) x.read)

  -- so no page that is read is unsound
  pub never-unsound : (nodes : List ℕ) → Some-nodes nodes → (k : ℕ) → ReadUnsound img root nodes k → ⊥
  never-unsound nodes r k u =
      let x = tree-read k nodes r in
      let z : ◌≡◌ {A = Option Way} (Some x.way) None = sym x.is ∙ read-unsound img root k nodes u in
      let n : ◌≡◌ {A = ℕ} 0 1 = cc in
      omega arith

  pub read-on : (nodes : List ℕ) → Some-nodes nodes → (k : ℕ) → (r : ReadSound img root nodes k) → Some-nodes r.way.nodes
  read-on nodes s k r =
      let x = tree-read k nodes s in
      subst (λ (w : Way). Some-nodes w.nodes) (some-injective x.way r.way (sym x.is ∙ read-sound img root k nodes r)) x.read
