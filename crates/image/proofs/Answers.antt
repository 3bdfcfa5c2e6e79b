-- What the reading calls answer on a sound image: check accepts exactly the sound images; lookup, its companion and next key tell exactly what the table
-- of an accepted image holds, although they read one leaf or two.
-- Assumes nothing.
use Rattle.std.specs.Prelude.{Err, None, Ok, Option, Result, Some}
use Prim.Native.Nat.{ℕ, suc, ◌≤◌, ◌<◌}
use mathlib.Core.Path.{◌≡◌, refl, sym, ap, ◌∙◌, subst}
use mathlib.Core.Logic.{◌⊎◌, inl, inr}
use mathlib.Core.Bool.{Bool, true, false, ◌&&◌, false≢true}
use mathlib.Core.List.{List, []}
use native.Mathlib.Omega.{arith}
use lib.ListN.{length}
use lib.Dec.{ltb}
use borrow.Author.Tests.{le-leb, ltb-true, ltb-false}
use Rattle.device.specs.declared.Refusal.{Refusal}
use Rattle.codec.specs.Lists.{part, pick, All}
use Rattle.codec.proofs.Tests.{both}
use Rattle.device.specs.Calls.{Answer, is_image_size, refusal}
use Rattle.page.specs.Layout.{top_key, Rec, rec_of}
use Rattle.page.specs.Page.{records}
use Rattle.page.specs.PageFormat.{format1}
use Rattle.page.specs.Operations.{page_of}
use Rattle.image.specs.PageZero.{root_of, page_zero}
use Rattle.image.specs.Image.{height_of, top_place, tree_ok, sound_from, sound}
use Rattle.image.specs.Facts.{Rising, TreeIn}
use Rattle.image.specs.Table.{table, page_entries, listing, find, found_in, above}
use Rattle.image.specs.Descent.{leaf_for, way_to, root_read, nodes_after, records_for}
use Rattle.image.specs.Calls.{root_from, root_call, check_from, check_call, key_ok, leaf_lookup, lookup_from, lookup_call, value_at, value_call, next_call}
use Rattle.image.specs.Says.{Member, Smallest, AtMost, Opened, ReadSound, ReadUnsound, read_records, NextSays, next-not-opened, next-bad-way, here, bad-after, after, last}
use Rattle.image.specs.Marks.{Judged}
use Rattle.image.specs.declared.Place.{Place}
use Rattle.image.specs.declared.PageZero.{PageZero}
use Rattle.image.specs.declared.PageZero.TheVariants.{Wrong, Waiting, Ready}
use Rattle.image.proofs.Zero.{ready-facts}
use Rattle.image.proofs.Rising.{rising-from, rising-below}
use Rattle.image.proofs.Soundness.{sound-facts, sound-tree_in}
use Rattle.image.proofs.Order.{table-rising}
use Rattle.image.proofs.Belonging.{descend-low, descend-same, find-leaf, found-leaf}
use Rattle.image.proofs.Exact.{lookup-answers, found-lookup, missing-lookup, member-all, find-member, member-find, smallest-above, most-above}
use Rattle.image.proofs.Ways.{way-leaf, comes-to, read-or-not}
use Rattle.image.proofs.InTree.{Some-nodes, root-read, tree-index, read-after, never-unsound, read-on}
use Rattle.image.proofs.Read.{opened-call, not-opened-call, opened-judged, after-judged, read-lookup, records-read, ranged-is}
use Rattle.image.proofs.Says.{next-says}

-- ---- check

pub check_sound : (img : List ℕ) → check_call img ≡ Ok tt → sound img ≡ true
unfolding check_call root_call check_from root_from sound sound_from
check_sound img h = go (is_image_size (length img)) (page_zero img) h
  where
    tree : (t : Bool) → pick {A = Answer} t (Ok tt) (Err (refusal 4)) ≡ Ok tt → t ≡ true
    tree true e = refl
    tree false e = let z : ◌≡◌ {A = ℕ} 0 1 = cc in absurd (omega arith)

    go : (a : Bool) (z : PageZero) → check_from img (pick a (root_from z) (Err (refusal 1))) ≡ Ok tt → (a && sound_from img z) ≡ true
    go true Wrong e = let z : ◌≡◌ {A = ℕ} 0 1 = cc in absurd (omega arith)
    go true (Waiting k root) e = let z : ◌≡◌ {A = ℕ} 0 1 = cc in absurd (omega arith)
    go true (Ready root) e = tree (tree_ok img root) e
    go false z e = let q : ◌≡◌ {A = ℕ} 0 1 = cc in absurd (omega arith)

pub sound-check : (img : List ℕ) → sound img ≡ true → check_call img ≡ Ok tt
unfolding check_call root_call check_from root_from sound sound_from
sound-check img h = go (is_image_size (length img)) (page_zero img) h
  where
    go : (a : Bool) (z : PageZero) → (a && sound_from img z) ≡ true → check_from img (pick a (root_from z) (Err (refusal 1))) ≡ Ok tt
    go true Wrong e = absurd (false≢true e)
    go true (Waiting k root) e = absurd (false≢true e)
    go true (Ready root) e = rw e
    go false z e = absurd (false≢true e)

-- ---- a sound image: every page that is read is sound, and the leaf answers for the whole table

module _ (img : List ℕ) (s : sound img ≡ true) where
  abbrev root : ℕ
  root = root_of img

  pub tree : TreeIn format1 img (height_of img (root_of img)) (root_of img)
  tree = sound-tree_in img s

  pub sound-opened : Opened img (root_of img)
  sound-opened = let f = sound-facts img s in record { size = f.size; zero = f.zero; index = tree-index img root tree }

  pub read-at : (nodes : List ℕ) → Some-nodes img (root_of img) tree nodes → All (Judged img) nodes → (k : ℕ) → ReadSound img (root_of img) nodes k
  read-at nodes r j k = go (read-or-not img root k nodes j)
    where
      go : ReadSound img root nodes k ⊎ ReadUnsound img root nodes k → ReadSound img root nodes k
      go (inl x) = x
      go (inr u) = absurd (never-unsound img root tree nodes r k u)

  -- whichever keys were looked for before
  module _ (ks : List ℕ) where
    abbrev nodes : List ℕ
    nodes = nodes_after img (root_of img) (root_read (root_of img)) ks

    some : Some-nodes img (root_of img) tree (nodes_after img (root_of img) (root_read (root_of img)) ks)
    some = read-after img root tree ks (root_read root) (root-read img root tree)

    pub sound-read : (k : ℕ) → ReadSound img (root_of img) (nodes_after img (root_of img) (root_read (root_of img)) ks) k
    sound-read k = read-at nodes some (after-judged img root sound-opened ks) k

  module _ (nodes : List ℕ) (k : ℕ) (r : ReadSound img (root_of img) nodes k) where
    -- the leaf that is read is the one that the key belongs to
    pub leaf-read : r.way.leaf ≡ leaf_for img (root_of img) k
    unfolding leaf_for way_to
    leaf-read = way-leaf img root k (height_of img root) true (top_place root) nodes r.way (comes-to img root k nodes r.way r.comes)

    page-read : r.way.leaf.page ≡ (leaf_for img (root_of img) k).page
    page-read = ap (λ (p : Place). p.page) leaf-read

    pub leaf-sound : leaf_lookup img (root_of img) nodes k ≡ found_in k (listing img)
    leaf-sound = read-lookup img root nodes k r ∙ ap (λ (q : ℕ). found_in k (page_entries img q)) page-read ∙ sym (found-leaf img s k)

    pub find-read : find k (read_records r) ≡ find k (table img)
    find-read = ap (λ (q : ℕ). find k (records (page_of img q))) page-read ∙ sym (find-leaf img s k)

  module _ (k : ℕ) where
    first-read : ReadSound img (root_of img) (root_read (root_of img)) k
    first-read = read-at (root_read root) (root-read img root tree) (opened-judged img root sound-opened) k

    -- "On a sound image every answer is as it was."
    pub lookup-sound : lookup_call img k ≡ pick (key_ok k) (found_in k (listing img)) (Err (refusal 6))
    unfolding lookup_call lookup_from
    lookup-sound = rw (opened-call img root sound-opened, leaf-sound (root_read root) k first-read) (ranged-is k (found_in k (listing img)) (lookup-answers img s k))

    -- what is read for the key, whichever keys were looked for before
    pub records-sound : (ks : List ℕ) → (t : List Rec) × (records_for img (root_of img) ks k ≡ Some t) × (find k t ≡ find k (table img))
    records-sound ks =
        let r = sound-read ks k in
        (read_records r, records-read img root ks k r, find-read (nodes_after img root (root_read root) ks) k r)

    pub lookup-after : (ks : List ℕ) → leaf_lookup img (root_of img) (nodes_after img (root_of img) (root_read (root_of img)) ks) k ≡ found_in k (listing img)
    lookup-after ks = leaf-sound (nodes_after img root (root_read root) ks) k (sound-read ks k)

  -- ---- a next key

  abbrev T : List Rec
  T = table img

  recs_for : ℕ → List Rec
  recs_for k = records (page_of img (leaf_for img (root_of img) k).page)

  -- the leaf's keys lie in its range
  module _ (k : ℕ) where
    abbrev leaf : Place
    leaf = leaf_for img root k

    leaf-rising : Rising leaf.from (recs_for k) leaf.below
    unfolding recs_for
    leaf-rising =
        let r = first-read k in
        let e = leaf-read (root_read root) k r in
        subst (λ (p : Place). Rising p.from (records (page_of img p.page)) p.below) e r.good.rising

    leaf-from : (r : Rec) → Member r (recs_for k) → leaf.from ≤ r.key
    leaf-from r m = member-all (λ (x : Rec). leaf.from ≤ x.key) r (recs_for k) (rising-from leaf.from (recs_for k) leaf.below leaf-rising) m

    leaf-below : (r : Rec) → Member r (recs_for k) → r.key < leaf.below
    leaf-below r m = member-all (λ (x : Rec). x.key < leaf.below) r (recs_for k) (rising-below leaf.from (recs_for k) leaf.below leaf-rising) m

    -- a key in its range has the same leaf
    same-leaf : (j : ℕ) → leaf.from ≤ j → j < leaf.below → leaf_for img root j ≡ leaf_for img root k
    unfolding leaf_for top_place
    same-leaf j low high = descend-same img k j (height_of img root) (top_place root) tree.under low high

    -- so what the leaf holds the table does
    in-table : (r : Rec) → Member r (recs_for k) → Member r T
    unfolding recs_for
    in-table r m =
        let e = same-leaf r.key (leaf-from r m) (leaf-below r m) in
        let f : find r.key (recs_for k) ≡ Some r.value = member-find r.key r.value leaf.from (recs_for k) leaf.below leaf-rising m in
        find-member r.key r.value T (find-leaf img s r.key ∙ ap (λ (p : Place). find r.key (records (page_of img p.page))) e ∙ f)

    -- and what the table holds in its range the leaf does
    of-table : (r : Rec) → Member r T → leaf.from ≤ r.key → r.key < leaf.below → Member r (recs_for k)
    unfolding recs_for
    of-table r m low high =
        let e = same-leaf r.key low high in
        let f : find r.key T ≡ Some r.value = member-find r.key r.value 1 T (suc top_key) (table-rising img s) m in
        find-member r.key r.value (recs_for k) (ap (λ (p : Place). find r.key (records (page_of img p.page))) (sym e) ∙ sym (find-leaf img s r.key) ∙ f)

    leaf-low : leaf.from ≤ k
    unfolding leaf_for top_place
    leaf-low = descend-low img k (height_of img root) (top_place root) tree.under (omega arith)

    -- its answer is the table's
    smallest-here : (j : ℕ) → Smallest k j (recs_for k) → Smallest k j T
    smallest-here j t = record { rec = t.rec; member = in-table t.rec t.member; is = t.is; over = t.over; least = least }
      where
        least : (r : Rec) → Member r T → k < r.key → j ≤ r.key
        least r m o = go (ltb r.key leaf.below) refl
          where
            go : (b : Bool) → ltb r.key leaf.below ≡ b → j ≤ r.key
            go true e = t.least r (of-table r m (omega (arith, leaf-low)) (ltb-true r.key leaf.below e)) o
            go false e = let a = leaf-below t.rec t.member in let b = ltb-false r.key leaf.below e in let c = t.is in omega (arith, a, b, c)

    module _ (most : AtMost k (recs_for k)) where
      -- a key above the number lies past the leaf
      past-leaf : (r : Rec) → Member r T → k < r.key → leaf.below ≤ r.key
      past-leaf r m o = go (ltb r.key leaf.below) refl
        where
          go : (b : Bool) → ltb r.key leaf.below ≡ b → leaf.below ≤ r.key
          go true e = let a = most r (of-table r m (omega (arith, leaf-low)) (ltb-true r.key leaf.below e)) in absurd (omega (arith, a))
          go false e = ltb-false r.key leaf.below e

      most-table : leaf.below ≡ 1000000000000 → AtMost k T
      most-table e r m = go (ltb k r.key) refl
        where
          go : (b : Bool) → ltb k r.key ≡ b → r.key ≤ k
          go true f =
              let a = past-leaf r m (ltb-true k r.key f) in
              let b = member-all (λ (x : Rec). x.key < suc top_key) r T (rising-below 1 T (suc top_key) (table-rising img s)) m in
              absurd (omega (arith, a, b, e))
          go false f = ltb-false k r.key f

  smallest-after : (k j : ℕ) → AtMost k (recs_for k) → Smallest k j (recs_for (leaf_for img root k).below) → Smallest k j T
  smallest-after k j most t = record { rec = t.rec; member = in-table end t.rec t.member; is = t.is; over = t.over; least = least }
    where
      end : ℕ
      end = (leaf_for img root k).below

      least : (r : Rec) → Member r T → k < r.key → j ≤ r.key
      least r m o = go (ltb r.key (leaf_for img root end).below) refl
        where
          go : (b : Bool) → ltb r.key (leaf_for img root end).below ≡ b → j ≤ r.key
          go true e =
              let a = past-leaf k most r m o in
              let l = leaf-low end in
              t.least r (of-table end r m (omega (arith, a, l)) (ltb-true r.key (leaf_for img root end).below e)) o
          go false e = let a = leaf-below end t.rec t.member in let b = ltb-false r.key (leaf_for img root end).below e in let c = t.is in omega (arith, a, b, c)

  pub next-sound : (k : ℕ) → next_call img k ≡ above k (table img)
  unfolding recs_for
  next-sound k = go (next_call img k) (next-says img k)
    where
      recs-is : (nodes : List ℕ) (j : ℕ) (r : ReadSound img root nodes j) → read_records r ≡ recs_for j
      recs-is nodes j r = ap (λ (p : Place). records (page_of img p.page)) (leaf-read nodes j r)

      ns : List ℕ
      ns = root_read root

      -- page 0 names one root
      at-root : (P : ℕ → Type 0) → P root → (q : ℕ) → Opened img q → P q
      at-root P x q o = subst P (ready-facts img q o.zero).reads x

      to : (j : ℕ) → Smallest k j T → above k T ≡ Ok (Some j)
      to j t = smallest-above k 1 T (suc top_key) (table-rising img s) j t

      end-is : (r : ReadSound img root ns k) → r.way.leaf.below ≡ (leaf_for img root k).below
      end-is r = ap (λ (p : Place). p.below) (leaf-read ns k r)

      in-here : (r : ReadSound img root ns k) (j : ℕ) → Smallest k j (read_records r) → above k T ≡ Ok (Some j)
      in-here r j t = to j (smallest-here k j (subst (λ (l : List Rec). Smallest k j l) (recs-is ns k r) t))

      most-here : (r : ReadSound img root ns k) → AtMost k (read_records r) → AtMost k (recs_for k)
      most-here r most = subst (λ (l : List Rec). AtMost k l) (recs-is ns k r) most

      in-after : (r : ReadSound img root ns k) → AtMost k (read_records r) → (x : ReadSound img root r.way.nodes r.way.leaf.below) (j : ℕ) → Smallest k j (read_records x) → above k T ≡ Ok (Some j)
      in-after r most x j t =
          to j (smallest-after k j (most-here r most)
          (subst (λ (e : ℕ). Smallest k j (recs_for e)) (end-is r) (subst (λ (l : List Rec). Smallest k j l) (recs-is r.way.nodes r.way.leaf.below x) t)))

      none-after : (r : ReadSound img root ns k) → ReadUnsound img root r.way.nodes r.way.leaf.below → ⊥
      none-after r u = never-unsound img root tree r.way.nodes (read-on img root tree ns (root-read img root tree) k r) r.way.leaf.below u

      in-last : (r : ReadSound img root ns k) → AtMost k (read_records r) → r.way.leaf.below ≡ 1000000000000 → above k T ≡ Ok None
      in-last r most e = most-above k 1 T (suc top_key) (table-rising img s) (most-table k (most-here r most) (sym (end-is r) ∙ e))

      go : (a : Result (Option ℕ) Refusal) → NextSays img k a → a ≡ above k T
      go _ (next-not-opened r n) =
          let z : ◌≡◌ {A = Result ℕ Refusal} (Ok root) (Err r) = sym (opened-call img root sound-opened) ∙ not-opened-call img r n in
          let y : ◌≡◌ {A = ℕ} 0 1 = cc in
          absurd (omega arith)
      go _ (next-bad-way q o u) = absurd (at-root (λ (q : ℕ). ReadUnsound img q (root_read q) k → ⊥) (never-unsound img root tree ns (root-read img root tree) k) q o u)
      go _ (here q o r j t) = sym (at-root (λ (q : ℕ). (r : ReadSound img q (root_read q) k) (j : ℕ) → Smallest k j (read_records r) → above k T ≡ Ok (Some j)) in-here q o r j t)
      go _ (bad-after q o r most inside u) =
          absurd (at-root (λ (q : ℕ). (r : ReadSound img q (root_read q) k) → ReadUnsound img q r.way.nodes r.way.leaf.below → ⊥) none-after q o r u)
      go _ (after q o r most inside x j t) =
          sym (at-root (λ (q : ℕ). (r : ReadSound img q (root_read q) k) → AtMost k (read_records r) → (x : ReadSound img q r.way.nodes r.way.leaf.below) (j : ℕ) → Smallest k j (read_records x) → above k T ≡ Ok (Some j)) in-after q o r most x j t)
      go _ (last q o r most e) =
          sym (at-root (λ (q : ℕ). (r : ReadSound img q (root_read q) k) → AtMost k (read_records r) → r.way.leaf.below ≡ 1000000000000 → above k T ≡ Ok None) in-last q o r most e)

-- ---- lookup

-- the keys of a table are in range
pub key-range : (img : List ℕ) → sound img ≡ true → (k : ℕ) (v : List ℕ) → find k (table img) ≡ Some v → key_ok k ≡ true
unfolding key_ok
key-range img s k v e =
    let m : Member (rec_of k v) (table img) = find-member k v (table img) e in
    let low : 1 ≤ k = member-all (λ (r : Rec). 1 ≤ r.key) (rec_of k v) (table img) (rising-from 1 (table img) (suc top_key) (table-rising img s)) m in
    let high : k < suc top_key = member-all (λ (r : Rec). r.key < suc top_key) (rec_of k v) (table img) (rising-below 1 (table img) (suc top_key) (table-rising img s)) m in
    both (le-leb 1 k low) (le-leb k top_key (omega arith))

module _ (img : List ℕ) (c : check_call img ≡ Ok tt) (k : ℕ) where
  pub lookup-value : (v : List ℕ) → find k (table img) ≡ Some v → (o : ℕ) × (n : ℕ) × (lookup_call img k ≡ Ok (Some (record { offset = o; length = n }))) × (part img o n ≡ v)
  lookup-value v e =
      let s = check_sound img c in
      let f = found-lookup img s k v e in
      (f.0, f.1, lookup-sound img s k ∙ rw (key-range img s k v e) f.2, f.3)

  pub lookup-none : key_ok k ≡ true → find k (table img) ≡ None → lookup_call img k ≡ Ok None
  lookup-none q e = lookup-sound img (check_sound img c) k ∙ rw q (missing-lookup img (check_sound img c) k e)

  pub lookup-range : key_ok k ≡ false → lookup_call img k ≡ Err (refusal 6)
  lookup-range q = lookup-sound img (check_sound img c) k ∙ rw q

  -- ---- its companion

  pub value_found : (v : List ℕ) → find k (table img) ≡ Some v → value_call img k ≡ v
  unfolding value_call value_at
  value_found v e = let f = lookup-value v e in ap (value_at img) f.2 ∙ f.3

  pub value_none : find k (table img) ≡ None → value_call img k ≡ []
  unfolding value_call value_at
  value_none e = go (key_ok k) refl
    where
      go : (t : Bool) → key_ok k ≡ t → value_at img (lookup_call img k) ≡ []
      go true q = ap (value_at img) (lookup-none q e)
      go false q = ap (value_at img) (lookup-range q)

  -- ---- next key

  pub next-call : next_call img k ≡ above k (table img)
  next-call = next-sound img (check_sound img c) k

  pub smallest-next : (j : ℕ) → Smallest k j (table img) → next_call img k ≡ Ok (Some j)
  smallest-next j s = next-call ∙ smallest-above k 1 (table img) (suc top_key) (table-rising img (check_sound img c)) j s

  pub last-next : AtMost k (table img) → next_call img k ≡ Ok None
  last-next m = next-call ∙ most-above k 1 (table img) (suc top_key) (table-rising img (check_sound img c)) m
