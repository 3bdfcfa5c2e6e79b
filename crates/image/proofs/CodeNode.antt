-- The tests that the code makes of one page stand for `bound_ok` and `node_ok`: the first and the last key for its range, marks for distinct pages; and what the kind of a root tells.
-- Assumes nothing.
use Prim.Native.Nat.{ℕ, zero, suc, ◌-◌, ◌≤◌, ◌<◌}
use mathlib.Core.Path.{◌≡◌, refl, sym, ap, ◌∙◌, subst}
use mathlib.Core.Bool.{Bool, true, false, ◌&&◌, ◌||◌, or-true, false≢true}
use mathlib.Core.List.{List, [], ◌∷◌, ◌++◌, map}
use native.Mathlib.Omega.{arith}
use lib.ListN.{length, get_or, drop, set, replicate, drop_of_length-le, length-map, get_or-map}
use lib.Seq.{get_or-set_same, get_or-set_other}
use lib.Dec.{leb, ltb, eqb}
use borrow.Author.Tests.{leb-true, le-leb, lt-leb, ltb-true, lt-ltb, eqb-true, eqb-false, eq-eqb, ne_eqb}
use Rattle.codec.specs.Lists.{every, all_b, pick, All}
use Rattle.codec.proofs.Tests.{everything, all-every, not-true, all_b-true, true-all_b, All-map}
use Rattle.page.specs.Layout.{top_key, Rec, read_head}
use Rattle.page.specs.Page.{records, laid_out, form_ok, page_ok}
use Rattle.page.specs.PageFormat.{format1}
use Rattle.page.specs.Operations.{page_of}
use Rattle.page.proofs.Facts.{page_ok-true, index-form}
use Rattle.page.proofs.CheckBytes.{same_test}
use Rattle.page.proofs.Listed.{All-at}
use Rattle.image.specs.PageZero.{page_count, is_page}
use Rattle.image.specs.Image.{IsEntry, Entries, child_of, children, names_of, among, distinct, height_in, height_of, first_key, top_place, bound_ok, node_ok, index_ok}
use Rattle.image.specs.Facts.{Rising}
use Rattle.image.specs.Descent.{named_by, root_read}
use Rattle.image.specs.Marks.{claims, claimed, Named, NodePage, Judged, Marked, NodeBy}
use Rattle.image.specs.declared.Place.{Place}
use Rattle.image.proofs.General.{zeros-at}
use Rattle.image.proofs.Zero.{is_page-true}
use Rattle.image.proofs.Rising.{From, Below, rising-from}
use Rattle.image.proofs.Soundness.{page-rising, index-facts}
use Rattle.image.proofs.Ways.{root-judged}
use Rattle.image.proofs.CodeMarks.{named-claims, named-claimed, claimed-other, root-named}
use Rattle.image.proofs.CodePages.{drop-next, child-two}

-- ---- a page within its range, by its first and its last key

-- keys that rise are below hi if the last one is
last-below : (lo : ℕ) (l : List Rec) (hi top : ℕ) (d : Rec) → Rising lo l top → (get_or l (length l - 1) d).key < hi → Below l hi
last-below lo [] hi top d s h = tt
last-below lo (r ∷ []) hi top d s h = (h, tt)
last-below lo (r ∷ t ∷ l) hi top d s h =
    let e : length (r ∷ t ∷ l) - 1 ≡ suc (length (t ∷ l) - 1) = omega arith in
    let b = last-below (suc r.key) (t ∷ l) hi top d s.1 (rw e at h) in
    (omega (arith, s.1.0, b.0), b)

-- and are not below lo if the first one is not
first-from : (at lo : ℕ) (l : List Rec) (top : ℕ) (d : Rec) → Rising at l top → lo ≤ (get_or l 0 d).key → From lo l
first-from at lo [] top d s h = tt
first-from at lo (r ∷ l) top d s h =
    (h, All-map (λ (t : Rec). suc r.key ≤ t.key) (λ (t : Rec). lo ≤ t.key) (λ t q. omega arith) l (rising-from (suc r.key) l top s.1))

module _ (kind : ℕ) (empty : Bool) (lo hi own : ℕ) (p : List ℕ) where
  pub bound-unsound : page_ok kind own p ≡ false → bound_ok format1 kind empty lo hi own p ≡ false
  unfolding bound_ok every
  bound-unsound e = rw e

  module _ (ok : page_ok kind own p ≡ true) where
    pub bound-empty : length (records p) ≡ 0 → bound_ok format1 kind empty lo hi own p ≡ empty
    unfolding bound_ok every all_b
    bound-empty e = go (records p) e
      where
        alone : (b : Bool) → every ((b || false) ∷ true ∷ true ∷ []) ≡ b
        alone true = refl
        alone false = refl

        go : (l : List Rec) → length l ≡ 0 →
            every (page_ok kind own p ∷ (empty || leb 1 (length l)) ∷ all_b (λ (r : Rec). leb lo r.key) l ∷ all_b (λ (r : Rec). ltb r.key hi) l ∷ []) ≡ empty
        go [] f = rw ok (alone empty)
        go (r ∷ l) f = absurd (omega arith)

    module _ (d : Rec) (some : 1 ≤ length (records p)) where
      pub bound-low : (get_or (records p) 0 d).key < lo → bound_ok format1 kind empty lo hi own p ≡ false
      unfolding bound_ok
      bound-low h =
          not-true (bound_ok format1 kind empty lo hi own p)
          (λ t.
          let from = all_b-true (λ (r : Rec). leb lo r.key) (λ (r : Rec). lo ≤ r.key) (λ r e. leb-true _ _ e) (records p) (everything _ t).1.1.0 in
          omega (arith, All-at (λ (r : Rec). lo ≤ r.key) (records p) 0 d from some))

      pub bound-ends : lo ≤ (get_or (records p) 0 d).key → bound_ok format1 kind empty lo hi own p ≡ ltb (get_or (records p) (length (records p) - 1) d).key hi
      unfolding bound_ok
      bound-ends h =
          let rs = records p in
          let s = page-rising kind own p ok in
          let last = (get_or rs (length rs - 1) d).key in
          sym (same_test (ltb last hi) (bound_ok format1 kind empty lo hi own p)
          (λ t.
          all-every _ (
            ok,
            (
              rw (le-leb 1 (length rs) some) (or-true empty),
              (
                true-all_b (λ (r : Rec). leb lo r.key) (λ (r : Rec). lo ≤ r.key) (λ r q. le-leb _ _ q) rs (first-from 0 lo rs (suc top_key) d s h),
                (true-all_b (λ (r : Rec). ltb r.key hi) (λ (r : Rec). r.key < hi) (λ r q. lt-ltb _ _ q) rs (last-below 0 rs hi (suc top_key) d s (ltb-true last hi t)), tt),
              ),
            ),
          ))
          (λ t.
          let below = all_b-true (λ (r : Rec). ltb r.key hi) (λ (r : Rec). r.key < hi) (λ r e. ltb-true _ _ e) rs (everything _ t).1.1.1.0 in
          lt-ltb last hi (All-at (λ (r : Rec). r.key < hi) rs (length rs - 1) d below (omega arith))))

-- ---- where the keys of a page end

pub sep-here : (cs : List Rec) (i : ℕ) (d : Rec) (end : ℕ) → i < length cs → first_key (drop i cs) end ≡ (get_or cs i d).key
sep-here cs i d end h = rw (drop-next cs i d h)

pub sep-end : (cs : List Rec) (i end : ℕ) → length cs ≤ i → first_key (drop i cs) end ≡ end
sep-end cs i end h = rw (drop_of_length-le cs {i = i} h)

-- ---- the height of a root, by its kind

height-by : (k : ℕ) → pick (leb 1 (k - 1) && leb (k - 1) 2) (k - 1) 1 ≡ pick (eqb k 3) 2 1
height-by zero = refl
height-by (suc zero) = refl
height-by (suc (suc zero)) = refl
height-by (suc (suc (suc zero))) = refl
height-by (suc (suc (suc (suc k)))) =
    let e : suc (suc (suc (suc k))) - 1 ≡ suc (suc (suc k)) = omega arith in
    rw (e, lt-leb (suc (suc (suc k))) 2 (omega arith), le-leb 1 (suc (suc (suc k))) (omega arith), ne_eqb (suc (suc (suc (suc k)))) 3 (λ f. omega arith)) refl

module _ (img : List ℕ) (root : ℕ) (p : List ℕ) (e : p ≡ page_of img root) where
  kind-height : height_of img root ≡ pick (eqb (get_or p 4 0) 3) 2 1
  unfolding height_in read_head
  kind-height = ap (λ (q : List ℕ). pick (leb 1 (get_or q 4 0 - 1) && leb (get_or q 4 0 - 1) 2) (get_or q 4 0 - 1) 1) (sym e) ∙ height-by (get_or p 4 0)

  pub height-top : get_or p 4 0 ≡ 3 → height_of img root ≡ 2
  height-top k = kind-height ∙ ap (λ (t : Bool). pick t 2 1) (eq-eqb (get_or p 4 0) 3 k)

  pub height-other : (get_or p 4 0 ≡ 3 → ⊥) → height_of img root ≡ 1
  height-other k = kind-height ∙ ap (λ (t : Bool). pick t 2 1) (ne_eqb (get_or p 4 0) 3 k)

-- ---- a page above the leaves, with the pages that it names

module _ (img : List ℕ) (h : ℕ) (p : Place) (marks : List ℕ) where
  abbrev here : Bool
  here = bound_ok format1 (suc h) false p.from p.below p.page (page_of img p.page)

  pub node-unbound : bound_ok format1 (suc h) false p.from p.below p.page (page_of img p.page) ≡ false → NodeBy img h p marks false marks
  unfolding node_ok every
  node-unbound e = record { value = λ named k. sym (rw e refl); names = λ named k t. absurd (false≢true t); read = λ t q. refl }

  pub node-claims : bound_ok format1 (suc h) false p.from p.below p.page (page_of img p.page) ≡ true → page_count img ≤ 64 → length marks ≡ 64 → (answer : Bool) → answer ≡ claims (page_count img) marks (names_of img p.page) →
      (after : List ℕ) → (answer ≡ true → after ≡ claimed marks (names_of img p.page)) → NodeBy img h p marks answer after
  unfolding node_ok every
  node-claims e few size answer a after f =
      let n = page_count img in
      let names = names_of img p.page in
      record {
        value = λ named k. a ∙ named-claims n few named marks k names ∙ sym (rw e (two (all_b (is_page n) names) (distinct (names ++ named))));
        names = λ named k t. subst (Named (names ++ named)) (sym (f t)) (named-claimed n few named marks k names (sym a ∙ t));
        read = λ t q. ap (λ (l : List ℕ). eqb (get_or l q 0) 2) (f t) ∙ claimed-other n 2 marks names (omega arith) (omega (arith, few, size)) (sym a ∙ t) q;
      }
    where
      two : (x y : Bool) → every (x ∷ y ∷ []) ≡ (x && y)
      two true true = refl
      two true false = refl
      two false y = refl

-- ---- a page above the leaves that was judged, lent as p

pub node-two : (own : ℕ) (p : List ℕ) → NodePage own p → (i : ℕ) (d : Rec) → i < length (records p) → length (get_or (records p) i d).value ≡ 2
node-two own p k i d less =
    let e : k.kind ≡ suc (suc (k.kind - 2)) = omega (arith, k.above) in
    child-two (k.kind - 2) own p i d (subst (λ (m : ℕ). page_ok m own p ≡ true) e k.page) less

module _ (img : List ℕ) (q : ℕ) (k : Judged img q) (p : List ℕ) (e : p ≡ page_of img q) where
  pub judged-laid : laid_out p ≡ true
  judged-laid = (page_ok-true k.page.kind q p (ap (page_ok k.page.kind q) e ∙ k.page.page)).laid

  pub judged-records : records p ≡ children img q
  unfolding children
  judged-records = ap records e

  module _ (i : ℕ) (d : Rec) (less : i < length (records p)) where
    pub judged-two : length (get_or (records p) i d).value ≡ 2
    judged-two = node-two q p (subst (NodePage q) (sym e) k.page) i d less

    pub judged-child : is_page (page_count img) (child_of (get_or (records p) i d)) ≡ true
    judged-child =
        let a : All (λ (x : ℕ). is_page (page_count img) x ≡ true) (map child_of (records p)) = rw judged-records k.inside in
        rw (get_or-map child_of (records p) i d) at (All-at (λ (x : ℕ). is_page (page_count img) x ≡ true) (map child_of (records p)) i (child_of d) a (omega (arith, length-map (records p) child_of)))

pub bound-page : (kind : ℕ) (empty : Bool) (lo hi own : ℕ) (p : List ℕ) → bound_ok format1 kind empty lo hi own p ≡ true → page_ok kind own p ≡ true
unfolding bound_ok
bound-page kind empty lo hi own p e = (everything _ e).0

pub page-entries : (h own : ℕ) (p : List ℕ) → 1 ≤ h → page_ok (suc h) own p ≡ true → Entries (records p)
page-entries zero own p some e = absurd (omega arith)
page-entries (suc h) own p some e =
    All-map (λ (r : Rec). form_ok (suc (suc h)) r ≡ true) IsEntry (λ r f. index-form h r f) (records p) (page_ok-true (suc (suc h)) own p e).forms

-- ---- the root

module _ (img : List ℕ) (root : ℕ) (few : page_count img ≤ 64) (inside : is_page (page_count img) root ≡ true) where
  abbrev first_marks : List ℕ
  first_marks = set (set (replicate 64 0) 0 1) root 2

  root-marks : Named (root ∷ []) first_marks
  root-marks = root-named (page_count img) root few inside 2 (omega arith)

  pub root-value : {answer : Bool} {after : List ℕ} → NodeBy img (height_of img root) (top_place root) first_marks answer after → answer ≡ index_ok img root
  unfolding index_ok
  root-value by = by.value (root ∷ []) root-marks

  -- the root is the only one that was read
  root-only : (p : ℕ) → among p (root ∷ []) ≡ eqb (get_or (set (set (replicate 64 0) 0 1) root 2) p 0) 2
  unfolding among
  root-only p = go (eqb p root) refl
    where
      old : (q : ℕ) → eqb (get_or (set (replicate 64 0) 0 1) q 0) 2 ≡ false
      old zero = refl
      old (suc q) = ap (λ (x : ℕ). eqb x 2) (zeros-at 63 q)

      go : (t : Bool) → eqb p root ≡ t → (t || false) ≡ eqb (get_or (set (set (replicate 64 0) 0 1) root 2) p 0) 2
      go true e =
          let long : length {A = ℕ} (set (replicate 64 0) 0 1) ≡ 64 = refl in
          let less : root < length {A = ℕ} (set (replicate 64 0) 0 1) = omega (arith, long, (is_page-true (page_count img) root inside).1) in
          sym (ap (λ (x : ℕ). eqb x 2)
          (ap (λ (x : ℕ). get_or (set (set (replicate 64 0) 0 1) root 2) x 0) (eqb-true p root e) ∙ get_or-set_same (set (replicate 64 0) 0 1) root 2 0 less))
      go false e = sym (ap (λ (x : ℕ). eqb x 2) (get_or-set_other (set (replicate 64 0) 0 1) root p 2 0 (eqb-false p root e)) ∙ old p)

  pub root-marked : {answer : Bool} {after : List ℕ} → NodeBy img (height_of img root) (top_place root) (set (set (replicate 64 0) 0 1) root 2) answer after → answer ≡ true →
      Marked img root (root_read root) after
  unfolding named_by top_place
  root-marked by t =
      record {
        named = by.names (root ∷ []) root-marks t;
        read = λ p. root-only p ∙ sym (by.read t p);
        judged = root-judged img root (index-facts img root (sym (root-value by) ∙ t));
      }
