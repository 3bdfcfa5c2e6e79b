-- A page above the leaves that is read on a way, by the marks: again, or judged and marked. And the way's next step.
-- Assumes nothing.
use Rattle.std.specs.Prelude.{None, Option, Some, Err, Ok, Result}
use Prim.Native.Nat.{ℕ, zero, suc, ◌-◌, ◌≤◌, ◌<◌}
use mathlib.Core.Path.{◌≡◌, refl, sym, ap, ap₂, ◌∙◌, subst}
use mathlib.Core.Bool.{Bool, true, false, ◌||◌, ◌&&◌, true≢false}
use mathlib.Core.List.{List, [], ◌∷◌, ◌++◌}
use native.Mathlib.Omega.{arith}
use lib.ListN.{length, get_or, set, length-set}
use lib.Seq.{get_or-set_same, get_or-set_other}
use lib.Dec.{ltb, eqb}
use borrow.Author.Tests.{le-leb, lt-leb, lt-ltb, eqb-true, eqb-false, eq-eqb, ne_eqb}
use Rattle.image.specs.PageZero.{page_count, is_page}
use Rattle.page.specs.Layout.{leaf_kind, top_key, Rec}
use Rattle.page.specs.Page.{records, page_ok}
use Rattle.page.specs.Operations.{page_of}
use Rattle.image.specs.Image.{child_of, children, names_of, among, height_of, top_place, leaf_ok, leaf_at}
use Rattle.image.specs.Table.{page_entries, found_in, above, or_else}
use Rattle.image.specs.Calls.{leaf_lookup, leaf_next, next_after, next_from}
use Rattle.device.specs.Calls.{refusal}
use Rattle.device.specs.declared.Refusal.{Refusal}
use Rattle.image.specs.Facts.{Node}
use Rattle.image.specs.Descent.{down, named_by, read_node, Way, way_from, way_to, leaf_read, root_read}
use Rattle.image.specs.Marks.{Named, Judged, Marked, IsMarked, NodeBy, NodeCame, ReadBy, Came, WayBy}
use Rattle.image.specs.declared.Place.{Place}
use Rattle.image.specs.declared.LeafPlace.{LeafPlace}
use Rattle.image.proofs.Zero.{is_page-true}
use Rattle.image.proofs.Apart.{among_first, among-left, among-right, All-among}
use Rattle.image.proofs.Belonging.{own-among, down_is}
use Rattle.image.proofs.Ways.{height-in, node-holds, node-judged, judged-belongs, read-again, read-new, leaf-way}
use Rattle.image.proofs.Rising.{rising-below}
use Rattle.image.proofs.Routing.{above-none}
use Rattle.image.proofs.Soundness.{page-rising}
use Rattle.image.proofs.CodeNode.{bound-page}
use Rattle.codec.proofs.Tests.{All-map}

-- ---- a page is read, unless it was before

module _ (img : List ℕ) (h : ℕ) (p : Place) where
  pub read-by-again : (marks : List ℕ) → get_or marks p.page 0 ≡ 2 → ReadBy img h p marks true marks
  read-by-again marks e =
      record {
        not_read = λ t. absurd (true≢false t);
        is_read = λ t root nodes m.
            let a : among p.page nodes ≡ true = m.read p.page ∙ eq-eqb (get_or marks p.page 0) 2 e in
            record { nodes = nodes; is = read-again img root h p nodes a; among = a; judged = All-among (Judged img) nodes m.judged p.page a; marked = m };
      }

  module _ (marks after : List ℕ) (other : get_or marks p.page 0 ≡ 2 → ⊥) where
    not-among : (root : ℕ) (nodes : List ℕ) → Marked img root nodes marks → among p.page nodes ≡ false
    not-among root nodes m = m.read p.page ∙ ne_eqb (get_or marks p.page 0) 2 other

    pub read-by-not : NodeBy img h p marks false after → ReadBy img h p marks false after
    unfolding read_node
    read-by-not b =
        record {
          not_read = λ t root nodes m. rw (not-among root nodes m, sym (b.value (named_by img root nodes) m.named));
          is_read = λ t. absurd (true≢false (sym t));
        }

some-marked : (x : ℕ) → (x ≡ 0 → ⊥) → ltb 0 x ≡ true
some-marked zero k = absurd (k refl)
some-marked (suc x) k = lt-ltb 0 (suc x) (omega arith)

-- a page that is named is marked as read
mark-read : (named marks : List ℕ) (p : ℕ) → Named named marks → 1 ≤ p → p < 64 → among p named ≡ true → Named named (set marks p 2)
mark-read named marks p m low high is =
    record {
      size = length-set marks p 2 ∙ m.size;
      zero = λ e. m.zero (sym (get_or-set_other marks p 0 2 0 (λ q. omega (arith, q))) ∙ e);
      apart = m.apart;
      marked = λ q k. go q k (eqb q p) refl;
    }
  where
    go : (q : ℕ) → 1 ≤ q → (t : Bool) → eqb q p ≡ t → among q named ≡ ltb 0 (get_or (set marks p 2) q 0)
    go q k true e =
        let s : q ≡ p = eqb-true q p e in
        ap (λ (x : ℕ). among x named) s ∙ is ∙ sym (ap (λ (x : ℕ). ltb 0 (get_or (set marks p 2) x 0)) s ∙ ap (ltb 0) (get_or-set_same marks p 2 0 (omega (arith, m.size))))
    go q k false e = m.marked q k ∙ ap (ltb 0) (sym (get_or-set_other marks p q 2 0 (λ s. eqb-false q p e s)))

read-more : (nodes marks after : List ℕ) (p : ℕ) → length after ≡ 64 → p < 64 → ((q : ℕ) → among q nodes ≡ eqb (get_or marks q 0) 2) → ((q : ℕ) → eqb (get_or after q 0) 2 ≡ eqb (get_or marks q 0) 2) →
    (q : ℕ) → among q (p ∷ nodes) ≡ eqb (get_or (set after p 2) q 0) 2
unfolding among
read-more nodes marks after p size high was stays q = go (eqb q p) refl
  where
    go : (t : Bool) → eqb q p ≡ t → (t || among q nodes) ≡ eqb (get_or (set after p 2) q 0) 2
    go true e =
        let s : q ≡ p = eqb-true q p e in
        sym (ap (λ (x : ℕ). eqb (get_or (set after p 2) x 0) 2) s ∙ ap (λ (x : ℕ). eqb x 2) (get_or-set_same after p 2 0 (omega (arith, size))))
    go false e = was q ∙ sym (stays q) ∙ ap (λ (x : ℕ). eqb x 2) (sym (get_or-set_other after p q 2 0 (λ s. eqb-false q p e s)))

pub read-by-new : (img : List ℕ) (few : page_count img ≤ 64) (h : ℕ) (p : Place) (marks after : List ℕ) → (get_or marks p.page 0 ≡ 2 → ⊥) → (get_or marks p.page 0 ≡ 0 → ⊥) → is_page (page_count img) p.page ≡ true → 1 ≤ h →
    NodeBy img h p marks true after → ReadBy img h p marks true (set after p.page 2)
unfolding named_by
read-by-new img few zero p marks after other some inside k b = absurd (omega arith)
read-by-new img few (suc h) p marks after other some inside k b =
    record {
      not_read = λ t. absurd (true≢false t);
      is_read = λ t root nodes m.
          let a = not-among img (suc h) p marks after other root nodes m in
          let n : Node img (suc h) (named_by img root nodes) p = node-holds img (suc h) (named_by img root nodes) p (sym (b.value (named_by img root nodes) m.named)) in
          record { nodes = p.page ∷ nodes; is = read-new img root (suc h) p nodes a n; among = among_first p.page nodes; judged = node-judged img h (named_by img root nodes) p n; marked = new-marks root nodes m n };
    }
  where
    page : (1 ≤ p.page) × (p.page < page_count img)
    page = is_page-true (page_count img) p.page inside

    new-marks : (root : ℕ) (nodes : List ℕ) → Marked img root nodes marks → Node img (suc h) (named_by img root nodes) p → Marked img root (p.page ∷ nodes) (set after p.page 2)
    new-marks root nodes m n =
        record {
          named = mark-read (names_of img p.page ++ named_by img root nodes) after p.page (b.names (named_by img root nodes) m.named refl) page.0 (omega (arith, page.1, few))
              (among-right p.page (names_of img p.page) (named_by img root nodes) (m.named.marked p.page page.0 ∙ some-marked (get_or marks p.page 0) some));
          read = λ q. read-more nodes marks after p.page (b.names (named_by img root nodes) m.named refl).size (omega (arith, page.1, few)) m.read (b.read refl) q;
          judged = (node-judged img h (named_by img root nodes) p n, m.judged);
        }

-- ---- one step of a way

-- a page that a page read names is named; and the root is
among-named : (img : List ℕ) (root q x : ℕ) (nodes : List ℕ) → among q nodes ≡ true → among x (names_of img q) ≡ true → among x (named_by img root nodes) ≡ true
unfolding among named_by
among-named img root q x [] a m = absurd (true≢false (sym a))
among-named img root q x (p ∷ nodes) a m = go (eqb q p) refl a (λ f. among-named img root q x nodes f m)
  where
    go : (t : Bool) → eqb q p ≡ t → (t || among q nodes) ≡ true → (among q nodes ≡ true → among x (named_by img root nodes) ≡ true) → among x (names_of img p ++ named_by img root nodes) ≡ true
    go true e f g = among-left x (names_of img p) (named_by img root nodes) (ap (λ (y : ℕ). among x (names_of img y)) (sym (eqb-true q p e)) ∙ m)
    go false e f g = among-right x (names_of img p) (named_by img root nodes) (g f)

root-among : (img : List ℕ) (root : ℕ) (nodes : List ℕ) → among root (named_by img root nodes) ≡ true
unfolding named_by
root-among img root [] = among_first root []
root-among img root (q ∷ nodes) = among-right root (names_of img q) (named_by img root nodes) (root-among img root nodes)

marked-named : (img : List ℕ) (root : ℕ) (nodes marks : List ℕ) → Marked img root nodes marks → (x : ℕ) → 1 ≤ x → among x (named_by img root nodes) ≡ true → get_or marks x 0 ≡ 0 → ⊥
marked-named img root nodes marks m x h a z = true≢false (sym a ∙ m.named.marked x h ∙ ap (ltb 0) z)

-- what is left of a way, once the pages down to the one at p are read
pub record Going (img : List ℕ) (root k : ℕ) (was : List ℕ) (h : ℕ) (only : Bool) (p : Place) (marks : List ℕ) : Type 0 where
  pub most : h ≤ 2
  pub inside : is_page (page_count img) p.page ≡ true
  pub named : get_or marks p.page 0 ≡ 0 → ⊥
  pub size : length marks ≡ 64
  pub on : (nodes : List ℕ) → Marked img root nodes was → (ns : List ℕ) × Marked img root ns marks × (way_to img root nodes k ≡ way_from img root k h only p ns)

module _ (img : List ℕ) (root k : ℕ) (was : List ℕ) (some : IsMarked img root was) where
  pub going-starts : is_page (page_count img) root ≡ true → (h : ℕ) → h ≡ height_of img root → Going img root k was h true (top_place root) was
  unfolding way_to top_place
  going-starts inside h e =
      record {
        most = let a = (height-in img root).1 in omega (arith, e);
        inside = inside;
        named = marked-named img root some.0 was some.1 root (is_page-true (page_count img) root inside).0 (root-among img root some.0);
        size = some.1.named.size;
        on = λ nodes m. (nodes, m, ap (λ (g : ℕ). way_from img root k g true (top_place root) nodes) (sym e));
      }

  module _ (h : ℕ) (only : Bool) (p : Place) (marks after : List ℕ) (g : Going img root k was (suc h) only p marks) where
    going-stops : ReadBy img (suc h) p marks false after → (nodes : List ℕ) → Marked img root nodes was → way_to img root nodes k ≡ None
    unfolding way_from
    going-stops r nodes m = let t = g.on nodes m in t.2 ∙ rw (r.not_read refl root t.0 t.1)

    module _ (r : ReadBy img (suc h) p marks true after) where
      came : NodeCame img root (read_node img root (suc h) p (g.on some.0 some.1).0) p.page after
      came = let t = g.on some.0 some.1 in r.is_read refl root t.0 t.1

      going-judged : Judged img p.page
      going-judged = came.judged

      child : (among (down img k p).page (names_of img p.page) ≡ true) × (is_page (page_count img) (down img k p).page ≡ true)
      child =
          let b = judged-belongs img k p.page going-judged in
          let m = own-among img k p.page b in
          let e = ap (λ (q : Place). q.page) (down_is img k p b) in (
            ap (λ (x : ℕ). among x (names_of img p.page)) e ∙ m,
            ap (is_page (page_count img)) e ∙ All-among (λ (x : ℕ). is_page (page_count img) x ≡ true) (names_of img p.page) going-judged.inside (child_of b.own) m,
          )

      going-on : (one : Bool) (q : Place) → one ≡ (only && eqb (length (children img p.page)) 1) → q ≡ down img k p → Going img root k was h one q after
      unfolding way_from
      going-on one q e f =
          let pick-page : q.page ≡ (down img k p).page = ap (λ (x : Place). x.page) f in
          let inside : is_page (page_count img) q.page ≡ true = ap (is_page (page_count img)) pick-page ∙ child.1 in
          let a : among p.page came.nodes ≡ true = came.among in
          record {
            most = let m = g.most in omega arith;
            inside = inside;
            named = marked-named img root came.nodes after came.marked q.page (is_page-true (page_count img) q.page inside).0
                (among-named img root p.page q.page came.nodes a (ap (λ (x : ℕ). among x (names_of img p.page)) pick-page ∙ child.0));
            size = came.marked.named.size;
            on = λ nodes m.
                let t = g.on nodes m in
                let c = r.is_read refl root t.0 t.1 in
                (c.nodes, c.marked, t.2 ∙ rw c.is (ap₂ (λ (x : Bool) (y : Place). way_from img root k h x y c.nodes) (sym e) (sym f)));
          }

  pub going-ends : (only : Bool) (p : Place) (marks : List ℕ) → Going img root k was 0 only p marks → (nodes : List ℕ) → Marked img root nodes was →
      Came img root (way_to img root nodes k) (record { only = only; place = p }) marks
  unfolding way_from
  going-ends only p marks g nodes m = let t = g.on nodes m in record { nodes = t.0; is = t.2; inside = g.inside; marked = t.1 }

  -- the same, of a height that is not 0
  pub step-stops : (h : ℕ) (only : Bool) (p : Place) (marks after : List ℕ) → 0 < h → Going img root k was h only p marks → ReadBy img h p marks false after → (nodes : List ℕ) → Marked img root nodes was →
      way_to img root nodes k ≡ None
  step-stops zero only p marks after q g r nodes m = absurd (omega arith)
  step-stops (suc h) only p marks after q g r nodes m = going-stops h only p marks after g r nodes m

  pub step-judged : (h : ℕ) (only : Bool) (p : Place) (marks after : List ℕ) → 0 < h → Going img root k was h only p marks → ReadBy img h p marks true after → Judged img p.page
  step-judged zero only p marks after q g r = absurd (omega arith)
  step-judged (suc h) only p marks after q g r = going-judged h only p marks after g r

  pub step-on : (h : ℕ) (only : Bool) (p : Place) (marks after : List ℕ) → 0 < h → Going img root k was h only p marks → ReadBy img h p marks true after →
      (one : Bool) (q : Place) → one ≡ (only && eqb (length (children img p.page)) 1) → q ≡ down img k p → Going img root k was (h - 1) one q after
  step-on zero only p marks after z g r one q e f = absurd (omega arith)
  step-on (suc h) only p marks after z g r one q e f =
      let n : h ≡ suc h - 1 = omega arith in
      subst (λ (n : ℕ). Going img root k was n one q after) n (going-on h only p marks after g r one q e f)

-- ---- the leaf at the end of a way

module _ (img : List ℕ) (root k : ℕ) (was : List ℕ) where
  -- judged, once the way is known
  pub leaf-stops : WayBy img root k was None [] → (nodes : List ℕ) → Marked img root nodes was → leaf_read img root nodes k ≡ None
  unfolding leaf_read
  leaf-stops f nodes m = rw (f nodes m)

  module _ (x : LeafPlace) (after : List ℕ) (f : WayBy img root k was (Some x) after) where
    pub leaf-bad : leaf_ok x.only x.place.from x.place.below x.place.page (page_of img x.place.page) ≡ false → (nodes : List ℕ) → Marked img root nodes was → leaf_read img root nodes k ≡ None
    unfolding leaf_read leaf_at
    leaf-bad e nodes m = let c = f nodes m in rw (c.is, e)

    pub leaf-good : leaf_ok x.only x.place.from x.place.below x.place.page (page_of img x.place.page) ≡ true → (nodes : List ℕ) → Marked img root nodes was → Came img root (leaf_read img root nodes k) x after
    unfolding leaf_read leaf_at
    leaf-good e nodes m = let c = f nodes m in record { nodes = c.nodes; is = rw (c.is, e); inside = c.inside; marked = c.marked }

-- a leaf that was read is a sound page
pub came-page : (img : List ℕ) (root k : ℕ) (nodes : List ℕ) (x : LeafPlace) (after : List ℕ) → Came img root (leaf_read img root nodes k) x after → page_ok leaf_kind x.place.page (page_of img x.place.page) ≡ true
unfolding leaf_at
came-page img root k nodes x after c =
    bound-page leaf_kind x.only x.place.from x.place.below x.place.page (page_of img x.place.page)
    (leaf-way img root k nodes (record { nodes = c.nodes; only = x.only; leaf = x.place }) c.is).1

-- "Keys are .. to 999,999,999,999"
pub above-largest : (kind own : ℕ) (p : List ℕ) → page_ok kind own p ≡ true → (k : ℕ) → top_key ≤ k → above k (records p) ≡ Ok None
above-largest kind own p ok k q =
    above-none k (records p)
    (All-map (λ (r : Rec). r.key < suc top_key) (λ (r : Rec). r.key < suc k) (λ r b. omega arith) (records p)
    (rising-below 0 (records p) (suc top_key) (page-rising kind own p ok)))

-- ---- what is answered by it

module _ (img : List ℕ) (root k : ℕ) (nodes : List ℕ) where
  pub find-stops : leaf_read img root nodes k ≡ None → leaf_lookup img root nodes k ≡ Err (refusal 4)
  unfolding leaf_lookup
  find-stops e = rw e

  pub find-ends : (x : LeafPlace) (after : List ℕ) → Came img root (leaf_read img root nodes k) x after → leaf_lookup img root nodes k ≡ found_in k (page_entries img x.place.page)
  unfolding leaf_lookup
  find-ends x after c = rw c.is

-- the leaf after the one at x, which has no larger key
module _ (img : List ℕ) (root k : ℕ) where
  pub next-stops : leaf_read img root (root_read root) k ≡ None → next_from img k (Ok root) ≡ Err (refusal 4)
  unfolding next_from
  next-stops e = rw e

  module _ (x : LeafPlace) (after : List ℕ) (c : Came img root (leaf_read img root (root_read root) k) x after) (a : Result (Option ℕ) Refusal) (e : a ≡ above k (records (page_of img x.place.page))) where
    abbrev way : Way
    way = record { nodes = c.nodes; only = x.only; leaf = x.place }

    next-by : next_from img k (Ok root) ≡ or_else a (next_after img root k way)
    unfolding next_from leaf_next
    next-by = rw c.is (ap (λ (b : Result (Option ℕ) Refusal). or_else b (next_after img root k way)) (sym e))

    pub next-here : (j : ℕ) → a ≡ Ok (Some j) → next_from img k (Ok root) ≡ Ok (Some j)
    next-here j f = next-by ∙ ap (λ (b : Result (Option ℕ) Refusal). or_else b (next_after img root k way)) f

    module _ (f : a ≡ Ok None) where
      over : next_from img k (Ok root) ≡ next_after img root k way
      over = next-by ∙ ap (λ (b : Result (Option ℕ) Refusal). or_else b (next_after img root k way)) f

      pub next-last : top_key < x.place.below → next_from img k (Ok root) ≡ Ok None
      unfolding next_after
      next-last h = over ∙ rw (lt-leb x.place.below top_key h)

      module _ (h : x.place.below ≤ top_key) where
        pub after-stops : leaf_read img root c.nodes x.place.below ≡ None → next_from img k (Ok root) ≡ Err (refusal 4)
        unfolding next_after
        after-stops g = over ∙ rw (le-leb x.place.below top_key h, g)

        pub after-ends : (y : LeafPlace) (then : List ℕ) → Came img root (leaf_read img root c.nodes x.place.below) y then → next_from img k (Ok root) ≡ above k (records (page_of img y.place.page))
        unfolding next_after leaf_next
        after-ends y then d = over ∙ rw (le-leb x.place.below top_key h, d.is)
