-- What is read decides, and nothing else: two images that agree on it give the same answer.
-- Assumes nothing.
use Rattle.std.specs.Prelude.{Err, None, Ok, Option, Result, Some}
use Prim.Native.Nat.{ℕ, zero, suc, ◌+◌, ◌<◌}
use mathlib.Core.Path.{◌≡◌, refl, sym, ap, ap₂, ◌∙◌, subst}
use mathlib.Core.Bool.{Bool, true, false, ◌&&◌}
use mathlib.Core.List.{List, [], ◌∷◌, ◌++◌, map, append_assoc}
use native.Mathlib.Omega.{arith}
use lib.ListN.{length, get_or}
use lib.Dec.{leb, eqb}
use Rattle.device.specs.declared.Refusal.{Refusal}
use Rattle.image.specs.declared.Part.{Part}
use Rattle.codec.specs.Lists.{part, pick, All}
use Rattle.codec.proofs.Lists.{get_or-part}
use Rattle.device.specs.Calls.{refusal}
use Rattle.page.specs.Layout.{line_size, top_key, Rec}
use Rattle.page.specs.Page.{entries, records}
use Rattle.page.specs.Operations.{page_of}
use Rattle.image.specs.Image.{child_of, children, among, places, height_of, height_in, top_place, index_ok, leaf_at, node_ok}
use Rattle.image.specs.Table.{in_image, page_entries, find, found_in, above, or_else}
use Rattle.image.specs.Route.{route}
use Rattle.image.specs.Descent.{down, named_by, read_node, Way, if_read, way_from, way_to, leaf_read, root_read, nodes_in, nodes_after, records_in, records_for}
use Rattle.image.specs.Calls.{root_call, index_from, index_call, by_way, ranged, leaf_lookup, lookup_from, lookup_call, value_at, value_call, leaf_next, next_after, next_from, next_call}
use Rattle.image.specs.Says.{read_records, LookupSays, not_opened, bad-way, bad-key, found, missing}
use Rattle.image.specs.WhatIsRead.{past_node, pages_down, pages_for, ReadAlike, lookup_reads, after_reads, after_way, next_reads}
use Rattle.image.specs.declared.Place.{Place}
use Rattle.image.proofs.Parts.{part-same, some-injective}
use Rattle.image.proofs.General.{All-left, All-right}
use Rattle.image.proofs.Ways.{leaf-way}
use Rattle.image.proofs.Read.{opened-call, records-read}
use Rattle.image.proofs.Says.{lookup-says}
use Rattle.image.proofs.Frame.{zero-agree}

-- ---- one page

module _ (a b : List ℕ) (size : length b ≡ length a) where
  -- the page q is the same in both
  abbrev pub Agree : ℕ → Type 0
  Agree q = page_of b q ≡ page_of a q

  children-alike : (q : ℕ) → page_of b q ≡ page_of a q → children b q ≡ children a q
  unfolding children
  children-alike q e = ap records e

  node-alike : (h : ℕ) (names : List ℕ) (p : Place) → page_of b p.page ≡ page_of a p.page → node_ok b h names p ≡ node_ok a h names p
  unfolding node_ok children
  node-alike h names p e = rw (e, size)

  height-alike : (root : ℕ) → page_of b root ≡ page_of a root → height_of b root ≡ height_of a root
  unfolding height_in
  height-alike root e = rw e

  index_same : (root : ℕ) → page_of b root ≡ page_of a root → index_ok b root ≡ index_ok a root
  unfolding index_ok top_place
  index_same root e = ap (λ (h : ℕ). node_ok b h (root ∷ []) (top_place root)) (height-alike root e) ∙ node-alike (height_of a root) (root ∷ []) (top_place root) e

  down-alike : (k : ℕ) (p : Place) → page_of b p.page ≡ page_of a p.page → down b k p ≡ down a k p
  unfolding down
  down-alike k p e = ap (λ (cs : List Rec). get_or (places p.from cs p.below) (route k cs) p) (children-alike p.page e)

  leaf-alike : (only : Bool) (p : Place) → page_of b p.page ≡ page_of a p.page → leaf_at b only p ≡ leaf_at a only p
  unfolding leaf_at
  leaf-alike only p e = rw e

  -- ---- a way

  module _ (root : ℕ) where
    named-alike : (nodes : List ℕ) → All Agree nodes → named_by b root nodes ≡ named_by a root nodes
    unfolding named_by
    named-alike [] h = refl
    named-alike (q ∷ qs) h = ap₂ (λ (x y : List ℕ). x ++ y) (ap (λ (cs : List Rec). map child_of cs) (children-alike q h.0)) (named-alike qs h.1)

    node-read-alike : (h : ℕ) (p : Place) (nodes : List ℕ) → All Agree nodes → page_of b p.page ≡ page_of a p.page → read_node b root h p nodes ≡ read_node a root h p nodes
    unfolding read_node
    node-read-alike h p nodes n e = rw (named-alike nodes n, node-alike h (named_by a root nodes) p e)

    -- what is read is alike in both
    read-on : (h : ℕ) (p : Place) (nodes ns : List ℕ) → All Agree nodes → page_of b p.page ≡ page_of a p.page → read_node a root h p nodes ≡ Some ns → All Agree ns
    unfolding read_node
    read-on h p nodes ns n e f = go (among p.page nodes) (node_ok a h (named_by a root nodes) p) f
      where
        go : (x y : Bool) → pick x (Some nodes) (pick y (Some (p.page ∷ nodes)) None) ≡ Some ns → All Agree ns
        go true y q = subst (λ (l : List ℕ). All Agree l) (some-injective nodes ns q) n
        go false true q = subst (λ (l : List ℕ). All Agree l) (some-injective (p.page ∷ nodes) ns q) (e, n)
        go false false q = let z : ◌≡◌ {A = ℕ} 0 1 = cc in absurd (omega arith)

    -- the way of a key, the pages read by its end, and its leaf
    pub record WayAlike (w : Option Way) (v : Option Way) (nodes : List ℕ) : Type 0 where
      pub way : w ≡ v
      pub nodes-alike : All Agree (nodes_in v nodes)
      pub leaf : (x : Way) → v ≡ Some x → page_of b x.leaf.page ≡ page_of a x.leaf.page

    from-alike : (k h : ℕ) (only : Bool) (p : Place) (nodes : List ℕ) → All Agree nodes → All Agree (pages_down a root k h p nodes) →
        WayAlike (way_from b root k h only p nodes) (way_from a root k h only p nodes) nodes
    unfolding way_from pages_down
    from-alike k zero only p nodes n t =
        record { way = refl; nodes-alike = n; leaf = λ x e. subst (λ (y : Way). page_of b y.leaf.page ≡ page_of a y.leaf.page) (some-injective (record { nodes = nodes; only = only; leaf = p }) x e) t.0 }
    from-alike k (suc h) only p nodes n t = go (read_node a root (suc h) p nodes) refl t.1 (λ ns m u. from-alike k h one (down a k p) ns m u)
      where
        one : Bool
        one = only && eqb (length (children a p.page)) 1

        bone : Bool
        bone = only && eqb (length (children b p.page)) 1

        fb : List ℕ → Option Way
        fb ns = way_from b root k h bone (down b k p) ns

        fa : List ℕ → Option Way
        fa ns = way_from a root k h one (down a k p) ns

        same : read_node b root (suc h) p nodes ≡ read_node a root (suc h) p nodes
        same = node-read-alike (suc h) p nodes n t.0

        below : (ns : List ℕ) → fb ns ≡ way_from b root k h one (down a k p) ns
        below ns = ap₂ (λ (x : Bool) (y : Place). way_from b root k h x y ns) (ap (λ (cs : List Rec). only && eqb (length cs) 1) (children-alike p.page t.0)) (down-alike k p t.0)

        turn : (ns : List ℕ) (v : Option Way) → All Agree (nodes_in v ns) → All Agree (nodes_in v nodes)
        turn ns None t = n
        turn ns (Some w) t = t

        go : (x : Option (List ℕ)) → read_node a root (suc h) p nodes ≡ x → All Agree (past_node x (λ ns. pages_down a root k h (down a k p) ns)) →
            ((ns : List ℕ) → All Agree ns → All Agree (pages_down a root k h (down a k p) ns) →
            WayAlike (way_from b root k h one (down a k p) ns) (fa ns) ns) → WayAlike (if_read (read_node b root (suc h) p nodes) fb) (if_read x fa) nodes
        go None e u f = record { way = ap (λ (x : Option (List ℕ)). if_read x fb) (same ∙ e); nodes-alike = n; leaf = λ x q. let z : ◌≡◌ {A = ℕ} 0 1 = cc in absurd (omega arith) }
        go (Some ns) e u f =
            let r = f ns (read-on (suc h) p nodes ns n t.0 e) u in
            record { way = ap (λ (x : Option (List ℕ)). if_read x fb) (same ∙ e) ∙ below ns ∙ r.way; nodes-alike = turn ns (fa ns) r.nodes-alike; leaf = r.leaf }

    module _ (page : page_of b root ≡ page_of a root) where
      -- from the root down
      abbrev down_reads : ℕ → List ℕ → List ℕ
      down_reads k nodes = pages_down a root k (height_of a root) (top_place root) nodes

      pub way-alike : (k : ℕ) (nodes : List ℕ) → All Agree nodes → All Agree (pages_down a root k (height_of a root) (top_place root) nodes) →
          WayAlike (way_to b root nodes k) (way_to a root nodes k) nodes
      unfolding way_to
      way-alike k nodes n t =
          let u = from-alike k (height_of a root) true (top_place root) nodes n t in
          record { way = ap (λ (h : ℕ). way_from b root k h true (top_place root) nodes) (height-alike root page) ∙ u.way; nodes-alike = u.nodes-alike; leaf = u.leaf }

      -- its leaf is judged alike
      pub leaf-read-alike : (k : ℕ) (nodes : List ℕ) → All Agree nodes → All Agree (pages_down a root k (height_of a root) (top_place root) nodes) →
          leaf_read b root nodes k ≡ leaf_read a root nodes k
      unfolding leaf_read
      leaf-read-alike k nodes n t =
          let u = way-alike k nodes n t in
          ap (λ (x : Option Way). if_read x (λ w. pick (leaf_at b w.only w.leaf) (Some w) None)) u.way ∙ go (way_to a root nodes k) u.leaf
        where
          go : (x : Option Way) → ((w : Way) → x ≡ Some w → page_of b w.leaf.page ≡ page_of a w.leaf.page) →
              if_read x (λ w. pick (leaf_at b w.only w.leaf) (Some w) None) ≡ if_read x (λ w. pick (leaf_at a w.only w.leaf) (Some w) None)
          go None f = refl
          go (Some w) f = ap (λ (t : Bool). pick t (Some w) None) (leaf-alike w.only w.leaf (f w refl))

      -- what is made of it
      by-alike : {A : Type 0} (k : ℕ) (nodes : List ℕ) (f g : Way → Result A Refusal) → All Agree nodes →
          All Agree (pages_down a root k (height_of a root) (top_place root) nodes) →
          ((w : Way) → leaf_read a root nodes k ≡ Some w → page_of b w.leaf.page ≡ page_of a w.leaf.page → f w ≡ g w) → by_way (leaf_read b root nodes k) f ≡ by_way (leaf_read a root nodes k) g
      by-alike {A} k nodes f g n t s = ap (λ (x : Option Way). by_way x f) (leaf-read-alike k nodes n t) ∙ go (leaf_read a root nodes k) refl
        where
          go : (x : Option Way) → leaf_read a root nodes k ≡ x → by_way x f ≡ by_way x g
          go None e = refl
          go (Some w) e = s w e ((way-alike k nodes n t).leaf w (leaf-way a root k nodes w e).0)

      pub lookup-alike : (k : ℕ) (nodes : List ℕ) → All Agree nodes → All Agree (pages_down a root k (height_of a root) (top_place root) nodes) →
          leaf_lookup b root nodes k ≡ leaf_lookup a root nodes k
      unfolding leaf_lookup
      lookup-alike k nodes n t = by-alike k nodes (λ w. found_in k (page_entries b w.leaf.page)) (λ w. found_in k (page_entries a w.leaf.page)) n t (λ w e p. ap (λ (l : List ℕ). found_in k (map (in_image w.leaf.page) (entries l))) p)

      -- ---- several keys, one after the other

      -- the pages read by the end of the keys ks, and those that the key k reads then
      pub record AfterAlike (ks nodes : List ℕ) : Type 0 where
        pub same : nodes_after b root nodes ks ≡ nodes_after a root nodes ks
        pub nodes-alike : All Agree (nodes_after a root nodes ks)

      pub after-alike : (ks nodes : List ℕ) → All Agree nodes → All Agree (pages_for a root nodes ks) → AfterAlike ks nodes
      unfolding nodes_after pages_for
      after-alike [] nodes n t = record { same = refl; nodes-alike = n }
      after-alike (k ∷ ks) nodes n t =
          let here = All-left Agree (down_reads k nodes) (pages_for a root (nodes_in (way_to a root nodes k) nodes) ks) t in
          let rest = All-right Agree (down_reads k nodes) (pages_for a root (nodes_in (way_to a root nodes k) nodes) ks) t in
          let u = way-alike k nodes n here in
          let r = after-alike ks (nodes_in (way_to a root nodes k) nodes) u.nodes-alike rest in
          record { same = ap (λ (x : Option Way). nodes_after b root (nodes_in x nodes) ks) u.way ∙ r.same; nodes-alike = r.nodes-alike }

      -- of several keys, those before one and that one
      pub for-append : (ks ls nodes : List ℕ) → pages_for a root nodes (ks ++ ls) ≡ pages_for a root nodes ks ++ pages_for a root (nodes_after a root nodes ks) ls
      unfolding nodes_after pages_for
      for-append [] ls nodes = refl
      for-append (k ∷ ks) ls nodes =
          ap (λ (l : List ℕ). down_reads k nodes ++ l) (for-append ks ls (nodes_in (way_to a root nodes k) nodes))
          ∙ sym (append_assoc (down_reads k nodes) (pages_for a root (nodes_in (way_to a root nodes k) nodes) ks) (pages_for a root (nodes_after a root (nodes_in (way_to a root nodes k) nodes) ks) ls))

      -- what is read for the key k after them
      module _ (ks : List ℕ) (k : ℕ) (t : All Agree (pages_for a root (root_read root) (ks ++ k ∷ []))) where
        abbrev ns : List ℕ
        ns = nodes_after a root (root_read root) ks

        both-parts : All Agree (pages_for a root (root_read root) ks ++ pages_for a root ns (k ∷ []))
        both-parts = subst (λ (l : List ℕ). All Agree l) (for-append ks (k ∷ []) (root_read root)) t

        before : AfterAlike ks (root_read root)
        before = after-alike ks (root_read root) (page, tt) (All-left Agree (pages_for a root (root_read root) ks) (pages_for a root ns (k ∷ [])) both-parts)

        own : All Agree (down_reads k ns)
        unfolding pages_for
        own = All-left Agree (down_reads k ns) [] (All-right Agree (pages_for a root (root_read root) ks) (pages_for a root ns (k ∷ [])) both-parts)

        pub lookup-after-alike : leaf_lookup b root (nodes_after b root (root_read root) ks) k ≡ leaf_lookup a root (nodes_after a root (root_read root) ks) k
        lookup-after-alike = ap (λ (l : List ℕ). leaf_lookup b root l k) before.same ∙ lookup-alike k ns before.nodes-alike own

        pub records-after-alike : records_for b root ks k ≡ records_for a root ks k
        unfolding records_for
        records-after-alike =
            ap (λ (l : List ℕ). records_in b (leaf_read b root l k)) before.same
            ∙ ap (records_in b) (leaf-read-alike k ns before.nodes-alike own)
            ∙ go (leaf_read a root ns k) refl
          where
            go : (x : Option Way) → leaf_read a root ns k ≡ x → records_in b x ≡ records_in a x
            go None e = refl
            go (Some w) e = ap (λ (l : List ℕ). Some (records l)) ((way-alike k ns before.nodes-alike own).leaf w (leaf-way a root k ns w e).0)

-- ---- page 0 and the root

module _ (a b : List ℕ) (keys : ℕ → List ℕ) (R : ReadAlike a b keys) where
  byte-alike : (i : ℕ) → i < line_size → get_or a i 0 ≡ get_or b i 0
  byte-alike i h =
      let x : get_or (part a 0 line_size) i 0 ≡ get_or a (0 + i) 0 = get_or-part a 0 line_size i h in
      let y : get_or (part b 0 line_size) i 0 ≡ get_or b (0 + i) 0 = get_or-part b 0 line_size i h in
      let e : i ≡ 0 + i = omega arith in
      ap (λ (j : ℕ). get_or a j 0) e ∙ sym x ∙ ap (λ (l : List ℕ). get_or l i 0) (sym R.line) ∙ y ∙ sym (ap (λ (j : ℕ). get_or b j 0) e)

  root_alike : root_call b ≡ root_call a
  unfolding root_call
  root_alike = rw (R.size, (zero-agree a b (sym R.size) byte-alike).0)

  pub index-alike : index_call b ≡ index_call a
  unfolding index_call index_from
  index-alike = ap (index_from b) root_alike ∙ go (root_call a) refl
    where
      go : (x : Result ℕ Refusal) → root_call a ≡ x → index_from b x ≡ index_from a x
      go (Err r) e = refl
      go (Ok root) e = rw (index_same a b R.size root (R.index root e))

  -- a root that opens is the one that page 0 names
  root-named : (root : ℕ) → index_call a ≡ Ok root → root_call a ≡ Ok root
  unfolding index_call index_from
  root-named root e = go (root_call a) refl e
    where
      go : (x : Result ℕ Refusal) → root_call a ≡ x → index_from a x ≡ Ok root → x ≡ Ok root
      go (Err r) f q = q
      go (Ok s) f q = test (index_ok a s) q
        where
          test : (t : Bool) → pick t (Ok s) (Err (refusal 4)) ≡ Ok root → ◌≡◌ {A = Result ℕ Refusal} (Ok s) (Ok root)
          test true p = p
          test false p = let z : ◌≡◌ {A = ℕ} 0 1 = cc in absurd (omega arith)

  pub index-page : (root : ℕ) → index_call a ≡ Ok root → page_of b root ≡ page_of a root
  index-page root e = R.index root (root-named root e)

-- ---- the calls

pub lookup-reads : (a b : List ℕ) (k : ℕ) → ReadAlike a b (lookup_reads k) → lookup_call b k ≡ lookup_call a k
unfolding lookup_call lookup_from nodes_after
lookup-reads a b k R = ap (lookup_from b k) (index-alike a b (lookup_reads k) R) ∙ go (index_call a) refl
  where
    go : (x : Result ℕ Refusal) → index_call a ≡ x → lookup_from b k x ≡ lookup_from a k x
    go (Err r) e = refl
    go (Ok root) e =
        let page = index-page a b (lookup_reads k) R root e in
        ap (ranged k) (lookup-after-alike a b R.size root page [] k (R.pages root e))

-- a value that is found is that of the records that are read for its key
record ValueIn (img : List ℕ) (k o n : ℕ) : Type 0 where
  root : ℕ
  opens : index_call img ≡ Ok root
  recs : List Rec
  read : records_for img root [] k ≡ Some recs
  is : find k recs ≡ Some (part img o n)

value_in : (img : List ℕ) (k o n : ℕ) → lookup_call img k ≡ Ok (Some (record { offset = o; length = n })) → ValueIn img k o n
unfolding nodes_after
value_in img k o n e = go (lookup_call img k) (lookup-says img k) e
  where
    go : (x : Result (Option Part) Refusal) → LookupSays img k x → x ≡ Ok (Some (record { offset = o; length = n })) → ValueIn img k o n
    go _ (found root o' r low high p m f v l i) q =
        let same = part-same p m o n q in
        let a : p ≡ o = same.0 in
        let b : m ≡ n = same.1 in
        record { root = root; opens = opened-call img root o'; recs = read_records r; read = records-read img root [] k r; is = v ∙ ap₂ (λ (x y : ℕ). Some (part img x y)) a b }
    go _ (not_opened r x) q = let z : ◌≡◌ {A = ℕ} 0 1 = cc in absurd (omega arith)
    go _ (bad-way root o' u) q = let z : ◌≡◌ {A = ℕ} 0 1 = cc in absurd (omega arith)
    go _ (bad-key root o' r x) q = let z : ◌≡◌ {A = ℕ} 0 1 = cc in absurd (omega arith)
    go _ (missing root o' r low high x) q = let z : ◌≡◌ {A = ℕ} 0 1 = cc in absurd (omega arith)

-- so the companion's bytes are the same too
pub value-reads : (a b : List ℕ) (k : ℕ) → ReadAlike a b (lookup_reads k) → value_call b k ≡ value_call a k
unfolding value_call value_at
value-reads a b k R = go (lookup_call a k) refl
  where
    same : lookup_call b k ≡ lookup_call a k
    same = lookup-reads a b k R

    bytes : (o n : ℕ) → lookup_call a k ≡ Ok (Some (record { offset = o; length = n })) → part b o n ≡ part a o n
    bytes o n e =
        let x = value_in a k o n e in
        let y = value_in b k o n (same ∙ e) in
        let root : y.root ≡ x.root = cc (x.opens, y.opens, index-alike a b (lookup_reads k) R) in
        let f : records_for b y.root [] k ≡ records_for a x.root [] k =
        ap (λ (r : ℕ). records_for b r [] k) root ∙ records-after-alike a b R.size x.root (index-page a b (lookup_reads k) R x.root x.opens) [] k (R.pages x.root x.opens) in
        let recs : y.recs ≡ x.recs = some-injective y.recs x.recs (sym y.read ∙ f ∙ x.read) in
        some-injective (part b o n) (part a o n) (sym y.is ∙ ap (find k) recs ∙ x.is)

    go : (x : Result (Option Part) Refusal) → lookup_call a k ≡ x → value_at b (lookup_call b k) ≡ value_at a (lookup_call a k)
    go (Ok (Some x)) e = ap (value_at b) (same ∙ e) ∙ bytes x.offset x.length e ∙ sym (ap (value_at a) e)
    go (Ok None) e = ap (value_at b) (same ∙ e) ∙ sym (ap (value_at a) e)
    go (Err r) e = ap (value_at b) (same ∙ e) ∙ sym (ap (value_at a) e)

pub next-reads : (a b : List ℕ) (k : ℕ) → ReadAlike a b (next_reads a k) → next_call b k ≡ next_call a k
unfolding next_call next_from next_reads next_after after_reads leaf_next pages_for
next-reads a b k R = ap (next_from b k) (index-alike a b (next_reads a k) R) ∙ go (index_call a) refl
  where
    next-alike : (w : Way) → page_of b w.leaf.page ≡ page_of a w.leaf.page → leaf_next b k w ≡ leaf_next a k w
    next-alike w e = ap (λ (l : List ℕ). above k (records l)) e

    go : (x : Result ℕ Refusal) → index_call a ≡ x → next_from b k x ≡ next_from a k x
    go (Err r) e = refl
    go (Ok root) e = by-alike a b R.size root page k ns fb fa (page, tt) here both
      where
        page : page_of b root ≡ page_of a root
        page = index-page a b (next_reads a k) R root e

        ns : List ℕ
        ns = root_read root

        fb : Way → Result (Option ℕ) Refusal
        fb w = or_else (leaf_next b k w) (next_after b root k w)

        fa : Way → Result (Option ℕ) Refusal
        fa w = or_else (leaf_next a k w) (next_after a root k w)

        first : List ℕ
        first = pages_down a root k (height_of a root) (top_place root) ns

        rest : List ℕ
        rest = pages_for a root (nodes_in (way_to a root ns k) ns) (after_way a k (leaf_read a root ns k))

        here : All (λ (q : ℕ). page_of b q ≡ page_of a q) first
        here = All-left (λ (q : ℕ). page_of b q ≡ page_of a q) first rest (R.pages root e)

        later : All (λ (q : ℕ). page_of b q ≡ page_of a q) rest
        later = All-right (λ (q : ℕ). page_of b q ≡ page_of a q) first rest (R.pages root e)

        end : (w : Way) → way_to a root ns k ≡ Some w → (x : Result (Option ℕ) Refusal) → All (λ (q : ℕ). page_of b q ≡ page_of a q) (pages_for a root w.nodes (after_reads w x)) →
            or_else x (next_after b root k w) ≡ or_else x (next_after a root k w)
        end w f (Ok (Some j)) t = refl
        end w f (Err r) t = refl
        end w f (Ok None) t = turn (leb w.leaf.below top_key) t
          where
            turn : (u : Bool) → All (λ (q : ℕ). page_of b q ≡ page_of a q) (pages_for a root w.nodes (pick u (w.leaf.below ∷ []) [])) →
                pick u (by_way (leaf_read b root w.nodes w.leaf.below) (leaf_next b k)) (Ok None) ≡ pick u (by_way (leaf_read a root w.nodes w.leaf.below) (leaf_next a k)) (Ok None)
            turn false q = refl
            turn true q =
                by-alike a b R.size root page w.leaf.below w.nodes (leaf_next b k) (leaf_next a k)
                (subst (λ (x : Option Way). All (λ (q : ℕ). page_of b q ≡ page_of a q) (nodes_in x ns)) f (way-alike a b R.size root page k ns (page, tt) here).nodes-alike)
                (All-left (λ (q : ℕ). page_of b q ≡ page_of a q) (pages_down a root w.leaf.below (height_of a root) (top_place root) w.nodes) [] q)
                (λ v g p. next-alike v p)

        both : (w : Way) → leaf_read a root ns k ≡ Some w → page_of b w.leaf.page ≡ page_of a w.leaf.page → fb w ≡ fa w
        both w f p =
            let to = (leaf-way a root k ns w f).0 in
            ap (λ (x : Result (Option ℕ) Refusal). or_else x (next_after b root k w)) (next-alike w p)
            ∙ end w to (leaf_next a k w) (subst (λ (x : Option Way). All (λ (q : ℕ). page_of b q ≡ page_of a q) (pages_for a root (nodes_in x ns) (after_reads w (leaf_next a k w)))) to
            (subst (λ (x : Option Way). All (λ (q : ℕ). page_of b q ≡ page_of a q) (pages_for a root (nodes_in (way_to a root ns k) ns) (after_way a k x))) f later))
