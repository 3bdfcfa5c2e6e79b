-- Two keys whose ways are read and come to one page have one leaf: the pages that are read name distinct pages, so each page has one place under the root.
-- Assumes nothing.
use Rattle.std.specs.Prelude.{Some}
use Prim.Native.Nat.{ℕ, zero, suc, ◌<◌}
use mathlib.Core.Path.{◌≡◌, refl, sym, ap, ap₂, ◌∙◌, subst}
use mathlib.Core.Bool.{Bool, true, ◌&&◌, true≢false, false≢true}
use mathlib.Core.List.{List, [], ◌∷◌, ◌++◌, map}
use native.Mathlib.Omega.{arith}
use native.Mathlib.Nat.{not-suc-le-zero}
use lib.ListN.{length, get_or, length-map}
use lib.Dec.{eqb}
use Rattle.codec.specs.Lists.{All}
use Rattle.page.specs.Layout.{top_key, Rec, rec_of}
use Rattle.page.specs.Operations.{page_of}
use Rattle.image.specs.Image.{child_of, children, names_of, among, distinct, places, top_place, height_of, first_key}
use Rattle.image.specs.Route.{route}
use Rattle.image.specs.Descent.{down, named_by, Way, way_from, way_to}
use Rattle.image.specs.Marks.{Judged}
use Rattle.image.specs.declared.Place.{Place}
use Rattle.image.proofs.Apart.{among_first, among-left, among-right, at-among, distinct-true, All-among}
use Rattle.image.proofs.Times.{count-append, apart-among, distinct-part}
use Rattle.image.proofs.Once.{among-either}
use Rattle.image.proofs.Routing.{routed}
use Rattle.image.proofs.Soundness.{page-rising}
use Rattle.image.proofs.Ways.{way-step, way-end}
use Rattle.preview.proofs.ReadAgain.{Within, way-reads}

-- ---- distinct pages

-- the parts of a list of distinct pages are, and what stands in one does not in the other
record Parts (a b : List ℕ) : Type 0 where
  left : distinct a ≡ true
  right : distinct b ≡ true
  apart : (x : ℕ) → among x a ≡ true → among x b ≡ true → ⊥

parts : (a b : List ℕ) → distinct (a ++ b) ≡ true → Parts a b
parts a b d =
    record {
      left = distinct-part a (a ++ b) (λ x. omega (arith, count-append x a b)) d;
      right = distinct-part b (a ++ b) (λ x. omega (arith, count-append x a b)) d;
      apart = λ x m n. true≢false (sym n ∙ apart-among a b d x m);
    }

module _ (img : List ℕ) (root : ℕ) where
  -- what a page that is read names
  abbrev Names : ℕ → ℕ → Type 0
  Names q x = among x (names_of img q) ≡ true

  named : (x : ℕ) (nodes : List ℕ) (q : ℕ) → among q nodes ≡ true → Names q x → among x (named_by img root nodes) ≡ true
  unfolding named_by among
  named x [] = λ q m. absurd (false≢true m)
  named x (a ∷ nodes) =
      among-either a nodes (λ (y : ℕ). Names y x → among x (names_of img a ++ named_by img root nodes) ≡ true) (λ n. among-left x (names_of img a) (named_by img root nodes) n)
      (λ y m n. among-right x (names_of img a) (named_by img root nodes) (named x nodes y m n))

  root-named : (nodes : List ℕ) → among root (named_by img root nodes) ≡ true
  unfolding named_by
  root-named [] = among_first root []
  root-named (a ∷ nodes) = among-right root (names_of img a) (named_by img root nodes) (root-named nodes)

  -- none names the root
  root-apart : (nodes : List ℕ) → distinct (named_by img root nodes) ≡ true → (q : ℕ) → among q nodes ≡ true → Names q root → ⊥
  unfolding named_by among
  root-apart [] d = λ q m. absurd (false≢true m)
  root-apart (a ∷ nodes) d =
      let r = parts (names_of img a) (named_by img root nodes) d in
      among-either a nodes (λ (y : ℕ). Names y root → ⊥) (λ n. r.apart root n (root-named nodes)) (λ y m. root-apart nodes r.right y m)

  -- a page names distinct pages
  own-apart : (nodes : List ℕ) → distinct (named_by img root nodes) ≡ true → (q : ℕ) → among q nodes ≡ true → distinct (names_of img q) ≡ true
  unfolding named_by among
  own-apart [] d = λ q m. absurd (false≢true m)
  own-apart (a ∷ nodes) d =
      let r = parts (names_of img a) (named_by img root nodes) d in
      among-either a nodes (λ (y : ℕ). distinct (names_of img y) ≡ true) r.left (λ y m. own-apart nodes r.right y m)

  -- and no page is named by two
  one-parent : (x : ℕ) (nodes : List ℕ) → distinct (named_by img root nodes) ≡ true → (q : ℕ) → among q nodes ≡ true → (p : ℕ) → among p nodes ≡ true → Names q x → Names p x → q ≡ p
  unfolding named_by among
  one-parent x [] d = λ q m. absurd (false≢true m)
  one-parent x (a ∷ nodes) d =
      let r = parts (names_of img a) (named_by img root nodes) d in
      let other : (y : ℕ) → among y nodes ≡ true → Names a x → Names y x → ⊥ = λ y m f g. r.apart x f (named x nodes y m g) in
      among-either a nodes (λ (y : ℕ). (p : ℕ) → among p (a ∷ nodes) ≡ true → Names y x → Names p x → y ≡ p)
      (among-either a nodes (λ (p : ℕ). Names a x → Names p x → a ≡ p) (λ f g. refl) (λ p n f g. absurd (other p n f g)))
      (λ y m. among-either a nodes (λ (p : ℕ). Names y x → Names p x → y ≡ p) (λ f g. absurd (other y m g f)) (λ p n. one-parent x nodes r.right y m p n))

-- ---- the places of pages

-- the place in slot i
slot-page : (lo : ℕ) (cs : List Rec) (hi i : ℕ) (z : Place) → i < length cs → (get_or (places lo cs hi) i z).page ≡ get_or (map child_of cs) i 0
unfolding places
slot-page lo [] hi i z h = absurd (not-suc-le-zero h)
slot-page lo (c ∷ cs) hi zero z h = refl
slot-page lo (c ∷ cs) hi (suc i) z h = slot-page (first_key cs hi) cs hi i z (omega arith)

module _ (img : List ℕ) (root : ℕ) (nodes : List ℕ) where
  abbrev slot : Place → ℕ → Place
  slot p i = get_or (places p.from (children img p.page) p.below) i p

  abbrev one : Bool → Place → Bool
  one only p = only && eqb (length (children img p.page)) 1

  -- the page at p, of height h, stands under the root: the pages above it are read; and whether each of them names one page alone
  data Stands : ℕ → Bool → Place → Type 0 where
    root_stands : Stands (height_of img root) true (top_place root)
    below_stands : (h : ℕ) (only : Bool) (p : Place) (i : ℕ) → Stands (suc h) only p → among p.page nodes ≡ true → i < length (children img p.page) → Stands h (one only p) (slot p i)

  record OnePlace (only : Bool) (p : Place) (also : Bool) (q : Place) : Type 0 where
    flag : also ≡ only
    place : q ≡ p

  slot-named : (p : Place) (i : ℕ) → i < length (children img p.page) → among (slot p i).page (names_of img p.page) ≡ true
  slot-named p i h =
      subst (λ (x : ℕ). among x (names_of img p.page) ≡ true) (sym (slot-page p.from (children img p.page) p.below i p h)) (at-among (names_of img p.page) i (rw (length-map (children img p.page) child_of) h))

  module _ (apart : distinct (named_by img root nodes) ≡ true) where
    -- two slots that come to one page are one
    same-slot : (p q : Place) (i j : ℕ) → q ≡ p → among p.page nodes ≡ true → i < length (children img p.page) → j < length (children img q.page) → (slot q j).page ≡ (slot p i).page → slot q j ≡ slot p i
    same-slot p q i j same m hi hj e = ap₂ slot same (sym is)
      where
        in-p : j < length (children img p.page)
        in-p = subst (λ (x : Place). j < length (children img x.page)) same hj

        is : i ≡ j
        is =
            distinct-true (names_of img p.page) (own-apart img root nodes apart p.page m) i j (rw (length-map (children img p.page) child_of) hi) (rw (length-map (children img p.page) child_of) in-p)
            (sym (slot-page p.from (children img p.page) p.below i p hi) ∙ sym e ∙ ap (λ (x : Place). (slot x j).page) same ∙ slot-page p.from (children img p.page) p.below j p in-p)

    one-place : (h : ℕ) (only : Bool) (p : Place) → Stands h only p → (g : ℕ) (also : Bool) (q : Place) → Stands g also q → q.page ≡ p.page → OnePlace only p also q
    unfolding top_place
    one-place _ _ _ root_stands _ _ _ root_stands e = record { flag = refl; place = refl }
    one-place _ _ _ root_stands _ _ _ (below_stands g also q j s m hj) e = absurd (root-apart img root nodes apart q.page m (subst (λ (x : ℕ). among x (names_of img q.page) ≡ true) e (slot-named q j hj)))
    one-place _ _ _ (below_stands h only p i s m hi) _ _ _ root_stands e = absurd (root-apart img root nodes apart p.page m (subst (λ (x : ℕ). among x (names_of img p.page) ≡ true) (sym e) (slot-named p i hi)))
    one-place _ _ _ (below_stands h only p i s m hi) _ _ _ (below_stands g also q j t n hj) e =
        let parent : q.page ≡ p.page = one-parent img root (slot p i).page nodes apart q.page n p.page m (subst (λ (x : ℕ). among x (names_of img q.page) ≡ true) e (slot-named q j hj)) (slot-named p i hi) in
        let o = one-place (suc h) only p s (suc g) also q t parent in
        record { flag = ap₂ one o.flag o.place; place = same-slot p q i j o.place m hi hj e }

  -- ---- the leaf of a way that is read

  module _ (k : ℕ) (judged : All (Judged img) nodes) where
    routes : (p : Place) → among p.page nodes ≡ true → route k (children img p.page) < length (children img p.page)
    unfolding children
    routes p m =
        let x = All-among (Judged img) nodes judged p.page m in
        (routed k 0 (children img p.page) (suc top_key) (rec_of 0 []) (page-rising x.page.kind p.page (page_of img p.page) x.page.page) x.page.some).inside

    way-stands : (h : ℕ) (only : Bool) (p : Place) → Stands h only p → (ms : List ℕ) (w : Way) → way_from img root k h only p ms ≡ Some w → Within w.nodes nodes → Stands 0 w.only w.leaf
    unfolding down
    way-stands zero only p s ms w e m = subst (λ (v : Way). Stands 0 v.only v.leaf) (sym (way-end img root k only p ms w e)) s
    way-stands (suc h) only p s ms w e m =
        let t = way-step img root k h only p ms w e in
        let mine : among p.page nodes ≡ true = m p.page (way-reads img root k h only p ms w e) in
        way-stands h (one only p) (down img k p) (below_stands h only p (route k (children img p.page)) s mine (routes p mine)) t.nodes' w t.on m

    to-stands : (w : Way) → way_to img root nodes k ≡ Some w → w.nodes ≡ nodes → Stands 0 w.only w.leaf
    unfolding way_to
    to-stands w e n = way-stands (height_of img root) true (top_place root) root_stands nodes w e (λ q m. subst (λ (ns : List ℕ). among q ns ≡ true) n m)

-- the keys k and j, whose ways read no page more
pub same-leaf : (img : List ℕ) (root : ℕ) (nodes : List ℕ) → distinct (named_by img root nodes) ≡ true → All (Judged img) nodes → (k j : ℕ) (w v : Way) → way_to img root nodes k ≡ Some w → w.nodes ≡ nodes →
    way_to img root nodes j ≡ Some v → v.nodes ≡ nodes → v.leaf.page ≡ w.leaf.page → (v.only ≡ w.only) × (v.leaf ≡ w.leaf)
same-leaf img root nodes apart judged k j w v e n f m same =
    let o = one-place img root nodes apart 0 w.only w.leaf (to-stands img root nodes k judged w e n) 0 v.only v.leaf (to-stands img root nodes j judged v f m) same in
    (o.flag, o.place)
