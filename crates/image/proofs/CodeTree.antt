-- The tests that the code of check makes stand for `tree_ok`: the root by itself, then the leaves, under a top page index page after index page; and what it reads of a page that was judged.
-- Assumes nothing.
use Prim.Native.Nat.{ℕ, suc, ◌+◌, ◌≤◌, ◌<◌}
use mathlib.Core.Path.{◌≡◌, refl, sym, ap, ◌∙◌, subst}
use mathlib.Core.Logic.{◌⊎◌, inl, inr}
use mathlib.Core.Bool.{Bool, true, false, ◌&&◌, false≢true}
use mathlib.Core.List.{List, [], ◌∷◌, ◌++◌, map, append_assoc, append-nil}
use native.Mathlib.Omega.{arith}
use native.Mathlib.Numerals.{add-one}
use lib.ListN.{length, get_or, take, drop, set, drop_of_length-le, length-append, length-map}
use lib.Seq.{take-suc-set}
use lib.Dec.{eqb}
use borrow.Author.Tests.{eqb-true, eq-eqb, ne_eqb}
use Rattle.codec.specs.Lists.{all_b, All}
use Rattle.codec.proofs.Tests.{both, first, second, not-true, everything, all-every, all_b-true, true-all_b, All-map}
use Rattle.page.specs.Layout.{top_key, Rec}
use Rattle.page.specs.Page.{records, page_ok}
use Rattle.page.specs.PageFormat.{format1}
use Rattle.page.specs.Operations.{page_of}
use Rattle.page.proofs.CheckBytes.{same_test}
use Rattle.page.proofs.Listed.{All-at}
use Rattle.page.proofs.Format1.{format1-reads}
use Rattle.image.specs.PageZero.{page_count, is_page}
use Rattle.image.specs.Image.{child_of, children, names_of, distinct, joined, gathered, itself, pages_in, leaves_in, height_of, first_key, places, top_place, bound_ok, leaf_at, node_ok, index_ok, under_ok, tree_in, tree_ok, count}
use Rattle.image.specs.Facts.{Rising, Node, Spans, Under, Nonempty, TreeIn}
use Rattle.image.specs.Descent.{named_by, root_read}
use Rattle.image.specs.Marks.{Named, Judged, Marked, NodeBy}
use Rattle.image.specs.declared.Place.{Place}
use Rattle.image.specs.declared.Leaves.{Leaves}
use Rattle.image.proofs.General.{All-any, All-append, All-left, All-right}
use Rattle.image.proofs.Ranges.{rising-first, first-least, joined_same}
use Rattle.image.proofs.Zero.{is_page-true}
use Rattle.image.proofs.Apart.{All-among}
use Rattle.image.proofs.Times.{count-append, count-distinct, distinct-count, distinct-alike, distinct-few}
use Rattle.image.proofs.Under.{bound-fine, under-facts, facts-under}
use Rattle.image.proofs.Alike.{page-first, pages-leaves, leaves-some}
use Rattle.image.proofs.Soundness.{node-some, index-facts, facts-index, tree-facts, facts-tree}
use Rattle.image.proofs.Order.{leaves-apart}
use Rattle.image.proofs.Ways.{node-holds, node-judged, root-judged}
use Rattle.image.proofs.InTree.{tree-index}
use Rattle.image.proofs.CodePages.{drop-next}

-- ---- a test of each place, one after the other

module _ (f : Place → Bool) (lo : ℕ) (cs : List Rec) (i end : ℕ) where
  pub places-end : length cs ≤ i → all_b f (places lo (drop i cs) end) ≡ true
  unfolding places all_b
  places-end h = rw (drop_of_length-le cs {i = i} h)

  module _ (d : Rec) (less : i < length cs) (hi : ℕ) (e : hi ≡ first_key (drop (i + 1) cs) end) (q : ℕ) (g : q ≡ child_of (get_or cs i d)) where
    pub places-on : f (record { page = q; from = lo; below = hi }) ≡ true → all_b f (places hi (drop (i + 1) cs) end) ≡ all_b f (places lo (drop i cs) end)
    unfolding places all_b
    places-on t = rw (drop-next cs i d less, ← e, ← g, t)

    pub places-stop : f (record { page = q; from = lo; below = hi }) ≡ false → all_b f (places lo (drop i cs) end) ≡ false
    unfolding places all_b
    places-stop t = rw (drop-next cs i d less, ← e, ← g, t)

-- ---- an index page with its leaves

pub joined-itself : (cs : List Rec) → joined itself cs ≡ map child_of cs
joined-itself [] = refl
joined-itself (c ∷ cs) = ap (λ (l : List ℕ). child_of c ∷ l) (joined-itself cs)

-- the leaves under an index page are those that it names
pub leaves-named : (img : List ℕ) (q : ℕ) → leaves_in format1 img 1 q ≡ names_of img q
unfolding leaves_in gathered children
leaves-named img q = joined-itself (children img q)

pages-named : (img : List ℕ) (q : ℕ) → pages_in format1 img 1 q ≡ q ∷ names_of img q
unfolding pages_in gathered children
pages-named img q = ap (λ (l : List ℕ). q ∷ l) (joined-itself (children img q))

module _ (img : List ℕ) (only : Bool) (p : Place) (named : List ℕ) where
  -- the index page at p and its leaves are sound, with the pages that were named before
  record IndexOk : Type 0 where
    under : under_ok format1 only img 1 p.from p.below p.page ≡ true
    inside : All (λ (q : ℕ). is_page (page_count img) q ≡ true) (names_of img p.page)
    apart : distinct (names_of img p.page ++ named) ≡ true

  tests-index : node_ok img 1 named p ≡ true → all_b (leaf_at img only) (places p.from (children img p.page) p.below) ≡ true → IndexOk
  unfolding node_ok under_ok leaf_at children
  tests-index e l =
      let t = everything _ e in
      record {
        under = both t.0 l;
        inside = all_b-true (is_page (page_count img)) (λ (q : ℕ). is_page (page_count img) q ≡ true) (λ q e. e) (names_of img p.page) t.1.0;
        apart = t.1.1.0;
      }

  index-tests : IndexOk → (node_ok img 1 named p ≡ true) × (all_b (leaf_at img only) (places p.from (children img p.page) p.below) ≡ true)
  unfolding node_ok under_ok leaf_at children
  index-tests k =
      let b = bound_ok format1 2 false p.from p.below p.page (page_of img p.page) in
      let l = all_b (leaf_at img only) (places p.from (children img p.page) p.below) in (
        all-every _ (
          first b l k.under,
          (true-all_b (is_page (page_count img)) (λ (q : ℕ). is_page (page_count img) q ≡ true) (λ q e. e) (names_of img p.page) k.inside, (k.apart, tt)),
        ),
        second b l k.under,
      )

-- ---- one height: the root is the index page

module _ (img : List ℕ) (root : ℕ) (h : height_of img root ≡ 1) (i : is_page (page_count img) root ≡ true) (e : index_ok img root ≡ true) where
  pub tree-one : tree_ok img root ≡ all_b (leaf_at img (eqb (length (children img root)) 1)) (places 0 (children img root) (suc top_key))
  unfolding tree_ok tree_in index_ok top_place
  tree-one =
      let only = eqb (length (children img root)) 1 in
      let ls = leaves_in format1 img 1 root in
      let names = names_of img root in
      let leaves : length ls ≡ length (children img root) = ap length (leaves-named img root) ∙ length-map (children img root) child_of in
      let test : Bool = all_b (leaf_at img only) (places 0 (children img root) (suc top_key)) in
      let P : ℕ → Type 0 = λ q. is_page (page_count img) q ≡ true in
      let same : (x : ℕ) → count x (names ++ root ∷ []) ≡ count x (root ∷ names) = λ x. let a = count-append x names (root ∷ []) in omega (arith, a) in
      let node : node_ok img 1 (root ∷ []) (top_place root) ≡ true = rw h at e in
      ap (λ (n : ℕ). tree_in format1 img n root) h
      ∙ same_test (tree_in format1 img 1 root) test
      (λ t.
      let k = everything _ t in
      let d : distinct (root ∷ names) ≡ true = rw (pages-named img root) at k.1.1.0 in
      (index-tests img only (top_place root) (root ∷ [])
      (record {
        under = rw leaves at k.0;
        inside = (all_b-true (is_page (page_count img)) P (λ q e. e) (root ∷ names) (rw (pages-named img root) at k.1.0)).1;
        apart = distinct-alike (root ∷ names) (names ++ root ∷ []) (λ x. sym (same x)) d;
      })).1)
      (λ t.
      let k = tests-index img only (top_place root) (root ∷ []) node t in
      all-every _ (
        rw leaves k.under,
        (rw (pages-named img root) (true-all_b (is_page (page_count img)) P (λ q e. e) (root ∷ names) (i, k.inside)), (rw (pages-named img root) (distinct-alike (names ++ root ∷ []) (root ∷ names) same k.apart), tt)),
      ))

-- ---- two heights: the index pages under a top page, one after the other

module _ (img : List ℕ) where
  -- the pages under some index pages are they and those that they name
  count-pages : (x : ℕ) (cs : List Rec) → count x (joined (λ y. pages_in format1 img 1 y) cs) ≡ count x (map child_of cs) + count x (joined (λ y. names_of img y) cs)
  count-pages x [] = omega arith
  count-pages x (c ∷ cs) =
      let q = child_of c in
      let e = ap (λ (l : List ℕ). count x (l ++ joined (λ y. pages_in format1 img 1 y) cs)) (pages-named img q) in
      let a = count-append x (names_of img q) (joined (λ y. pages_in format1 img 1 y) cs) in
      let b = count-append x (names_of img q) (joined (λ y. names_of img y) cs) in
      let r = count-pages x cs in
      omega (arith, e, a, b, r)

  abbrev IsPage : ℕ → Type 0
  IsPage q = is_page (page_count img) q ≡ true

  names-inside : (cs : List Rec) → All IsPage (joined (λ y. pages_in format1 img 1 y) cs) → All (λ (c : Rec). All IsPage (names_of img (child_of c))) cs
  names-inside [] a = tt
  names-inside (c ∷ cs) a =
      let here : All IsPage (child_of c ∷ names_of img (child_of c)) =
      rw (pages-named img (child_of c)) at (All-left IsPage (pages_in format1 img 1 (child_of c)) (joined (λ y. pages_in format1 img 1 y) cs) a) in
      (here.1, names-inside cs (All-right IsPage (pages_in format1 img 1 (child_of c)) (joined (λ y. pages_in format1 img 1 y) cs) a))

  inside-names : (cs : List Rec) → All IsPage (map child_of cs) → All (λ (c : Rec). All IsPage (names_of img (child_of c))) cs → All IsPage (joined (λ y. pages_in format1 img 1 y) cs)
  inside-names [] a b = tt
  inside-names (c ∷ cs) a b =
      All-append IsPage (pages_in format1 img 1 (child_of c)) (joined (λ y. pages_in format1 img 1 y) cs) (rw (pages-named img (child_of c)) (a.0, b.0)) (inside-names cs a.1 b.1)

  -- the names once they are read too
  named_on : List Rec → List ℕ → List ℕ
  named_on [] named = named
  named_on (c ∷ cs) named = named_on cs (names_of img (child_of c) ++ named)

  count-on : (x : ℕ) (cs : List Rec) (named : List ℕ) → count x (named_on cs named) ≡ count x named + count x (joined (λ y. names_of img y) cs)
  unfolding named_on
  count-on x [] named = omega arith
  count-on x (c ∷ cs) named =
      let a = count-on x cs (names_of img (child_of c) ++ named) in
      let b = count-append x (names_of img (child_of c)) named in
      let d = count-append x (names_of img (child_of c)) (joined (λ y. names_of img y) cs) in
      omega (arith, a, b, d)

  -- `alone`: the top page names one page
  module _ (alone : Bool) where
    abbrev pub only_at : ℕ → Bool
    only_at q = alone && eqb (length (children img q)) 1

    abbrev pub leaves_at : Place → Bool
    leaves_at p = all_b (leaf_at img (only_at p.page)) (places p.from (children img p.page) p.below)

    -- what is to be tested of the index pages that cs name, once the pages in `named` are named
    pub indexes_test : ℕ → List Rec → List ℕ → Bool
    indexes_test lo [] named = true
    indexes_test lo (c ∷ cs) named =
        let p : Place = record { page = child_of c; from = lo; below = first_key cs (suc top_key) } in
        (node_ok img 1 named p && leaves_at p) && indexes_test (first_key cs (suc top_key)) cs (names_of img (child_of c) ++ named)

    -- ---- one index page more

    module _ (lo : ℕ) (cs : List Rec) (i : ℕ) (named : List ℕ) where
      pub indexes-end : length cs ≤ i → indexes_test lo (drop i cs) named ≡ true
      unfolding indexes_test
      indexes-end h = rw (drop_of_length-le cs {i = i} h)

      module _ (d : Rec) (less : i < length cs) (hi : ℕ) (e : hi ≡ first_key (drop (i + 1) cs) (suc top_key)) (q : ℕ) (g : q ≡ child_of (get_or cs i d)) where
        abbrev here : Place
        here = record { page = q; from = lo; below = hi }

        pub indexes-on : node_ok img 1 named here ≡ true → leaves_at here ≡ true → indexes_test hi (drop (i + 1) cs) (names_of img q ++ named) ≡ indexes_test lo (drop i cs) named
        unfolding indexes_test
        indexes-on t l = rw (drop-next cs i d less, ← e, ← g, t, l)

        pub indexes-stop : (node_ok img 1 named here && leaves_at here) ≡ false → indexes_test lo (drop i cs) named ≡ false
        unfolding indexes_test
        indexes-stop t = rw (drop-next cs i d less, ← e, ← g, t)

    -- ---- what it stands for

    abbrev Sub : ℕ → ℕ → ℕ → Type 0
    Sub a b x = (under_ok format1 (only_at x) img 1 a b x ≡ true) × All IsPage (names_of img x)

    test-index : (lo : ℕ) (c : Rec) (cs : List Rec) (named : List ℕ) → indexes_test lo (c ∷ cs) named ≡ true →
        IndexOk img (only_at (child_of c)) (record { page = child_of c; from = lo; below = first_key cs (suc top_key) }) named
        × (indexes_test (first_key cs (suc top_key)) cs (names_of img (child_of c) ++ named) ≡ true)
    unfolding indexes_test
    test-index lo c cs named t =
        let p : Place = record { page = child_of c; from = lo; below = first_key cs (suc top_key) } in
        let rest = indexes_test (first_key cs (suc top_key)) cs (names_of img (child_of c) ++ named) in
        let here = first (node_ok img 1 named p && leaves_at p) rest t in (
          tests-index img (only_at (child_of c)) p named (first (node_ok img 1 named p) (leaves_at p) here) (second (node_ok img 1 named p) (leaves_at p) here),
          second (node_ok img 1 named p && leaves_at p) rest t,
        )

    test-spans : (lo : ℕ) (cs : List Rec) (named : List ℕ) → indexes_test lo cs named ≡ true → Spans Sub lo cs (suc top_key)
    test-spans lo [] named t = tt
    test-spans lo (c ∷ cs) named t =
        let k = test-index lo c cs named t in
        ((k.0.under, k.0.inside), test-spans (first_key cs (suc top_key)) cs (names_of img (child_of c) ++ named) k.1)

    test-apart : (lo : ℕ) (cs : List Rec) (named : List ℕ) → distinct named ≡ true → indexes_test lo cs named ≡ true → distinct (named_on cs named) ≡ true
    unfolding named_on
    test-apart lo [] named d t = d
    test-apart lo (c ∷ cs) named d t =
        let k = test-index lo c cs named t in
        test-apart (first_key cs (suc top_key)) cs (names_of img (child_of c) ++ named) k.0.apart k.1

    spans-test : (lo : ℕ) (cs : List Rec) (named : List ℕ) → Spans Sub lo cs (suc top_key) → distinct (named_on cs named) ≡ true → indexes_test lo cs named ≡ true
    unfolding indexes_test named_on
    spans-test lo [] named s d = refl
    spans-test lo (c ∷ cs) named s d =
        let p : Place = record { page = child_of c; from = lo; below = first_key cs (suc top_key) } in
        let more = names_of img (child_of c) ++ named in
        let apart : distinct more ≡ true = count-distinct more (λ x. let a = count-on x cs more in let b = distinct-count (named_on cs more) d x in omega (arith, a, b)) in
        let t = index-tests img (only_at (child_of c)) p named (record { under = s.0.0; inside = s.0.1; apart = apart }) in
        both (both t.0 t.1) (spans-test (first_key cs (suc top_key)) cs more s.1 d)

    -- "no leaf is empty unless it is the only one": under one index page
    abbrev Filled : Rec → Type 0
    Filled c = (only_at (child_of c) ≡ true) ⊎ All (Nonempty format1 img) (leaves_in format1 img 1 (child_of c))

    spans-under : (lo : ℕ) (cs : List Rec) → Rising lo cs (suc top_key) → Spans Sub lo cs (suc top_key) → Spans (λ a b x. Under format1 img 1 a b x) lo cs (suc top_key) × All Filled cs
    spans-under lo [] r s = (tt, tt)
    spans-under lo (c ∷ cs) r s =
        let hi = first_key cs (suc top_key) in
        let u = under-facts format1 (only_at (child_of c)) img format1-reads 1 lo hi (child_of c) (omega (arith, r.0, first-least (suc c.key) cs (suc top_key) r.1)) s.0.0 in
        let more = spans-under hi cs (rising-first (suc c.key) cs (suc top_key) r.1) s.1 in
        ((u.0, more.0), (u.1, more.1))

    under-spans : (lo : ℕ) (cs : List Rec) → Spans (λ a b x. Under format1 img 1 a b x) lo cs (suc top_key) → All Filled cs → All (λ (c : Rec). All IsPage (names_of img (child_of c))) cs →
        Spans Sub lo cs (suc top_key)
    under-spans lo [] s f i = tt
    under-spans lo (c ∷ cs) s f i =
        let hi = first_key cs (suc top_key) in
        ((facts-under format1 (only_at (child_of c)) img 1 lo hi (child_of c) s.0 f.0, i.0), under-spans hi cs s.1 f.1 i.1)

    -- and under all of them
    abbrev AllFilled : List Rec → Type 0
    AllFilled cs = (length (joined (λ y. leaves_in format1 img 1 y) cs) ≡ 1) ⊎ All (Nonempty format1 img) (joined (λ y. leaves_in format1 img 1 y) cs)

    each-nonempty : (cs : List Rec) → All (Nonempty format1 img) (joined (λ y. leaves_in format1 img 1 y) cs) → All Filled cs
    each-nonempty [] a = tt
    each-nonempty (c ∷ cs) a =
        let l = leaves_in format1 img 1 (child_of c) in
        let r = joined (λ y. leaves_in format1 img 1 y) cs in
        (inr (All-left (Nonempty format1 img) l r a), each-nonempty cs (All-right (Nonempty format1 img) l r a))

    filled-each : (lo : ℕ) (cs : List Rec) → alone ≡ eqb (length cs) 1 → Spans (λ a b x. Under format1 img 1 a b x) lo cs (suc top_key) → AllFilled cs → All Filled cs
    filled-each lo cs e s (inr a) = each-nonempty cs a
    filled-each lo [] e s (inl n) = tt
    filled-each lo (c ∷ []) e s (inl n) =
        let l = leaves_in format1 img 1 (child_of c) in
        let one : length (children img (child_of c)) ≡ 1 =
        sym (ap length (leaves-named img (child_of c)) ∙ length-map (children img (child_of c)) child_of) ∙ ap length (sym (append-nil l)) ∙ n in
        (inl (both e (eq-eqb (length (children img (child_of c))) 1 one)), tt)
    filled-each lo (c ∷ d ∷ cs) e s (inl n) =
        let a = leaves-some format1 img 1 lo d.key (child_of c) s.0 in
        let b = leaves-some format1 img 1 d.key (first_key cs (suc top_key)) (child_of d) s.1.0 in
        let l = length-append (leaves_in format1 img 1 (child_of c)) (joined (λ y. leaves_in format1 img 1 y) (d ∷ cs)) in
        let m = length-append (leaves_in format1 img 1 (child_of d)) (joined (λ y. leaves_in format1 img 1 y) cs) in
        absurd (omega (arith, a, b, l, m, n))

    none-alone : (cs : List Rec) → alone ≡ false → All Filled cs → All (Nonempty format1 img) (joined (λ y. leaves_in format1 img 1 y) cs)
    none-alone [] e f = tt
    none-alone (c ∷ cs) e f = All-append (Nonempty format1 img) (leaves_in format1 img 1 (child_of c)) (joined (λ y. leaves_in format1 img 1 y) cs) (go f.0) (none-alone cs e f.1)
      where
        go : Filled c → All (Nonempty format1 img) (leaves_in format1 img 1 (child_of c))
        go (inl t) = absurd (false≢true (sym e ∙ first alone (eqb (length (children img (child_of c))) 1) t))
        go (inr a) = a

    each-filled : (cs : List Rec) → alone ≡ eqb (length cs) 1 → All Filled cs → AllFilled cs
    each-filled [] e f = inr tt
    each-filled (c ∷ []) e f = go f.0
      where
        go : Filled c → AllFilled (c ∷ [])
        go (inl t) =
            let l = leaves_in format1 img 1 (child_of c) in
            inl (ap length (append-nil l) ∙ ap length (leaves-named img (child_of c)) ∙ length-map (children img (child_of c)) child_of
            ∙ eqb-true (length (children img (child_of c))) 1 (second alone (eqb (length (children img (child_of c))) 1) t))
        go (inr a) = inr (All-append (Nonempty format1 img) (leaves_in format1 img 1 (child_of c)) [] a tt)
    each-filled (c ∷ d ∷ cs) e f = inr (none-alone (c ∷ d ∷ cs) (e ∙ ne_eqb (length (c ∷ d ∷ cs)) 1 (λ k. omega arith)) f)

module _ (img : List ℕ) (root : ℕ) (h : height_of img root ≡ 2) (i : is_page (page_count img) root ≡ true) (e : index_ok img root ≡ true) where
  abbrev pub top_names : List ℕ
  top_names = names_of img root ++ root ∷ []

  abbrev alone : Bool
  alone = eqb (length (children img root)) 1

  count-tree : (x : ℕ) → count x (named_on img (children img root) top_names) ≡ count x (pages_in format1 img 2 root)
  unfolding pages_in gathered children
  count-tree x =
      let cs = children img root in
      let a = count-on img x cs top_names in
      let b = count-append x (names_of img root) (root ∷ []) in
      let c = count-pages img x cs in
      omega (arith, a, b, c)

  tree-indexes : TreeIn format1 img 2 root → indexes_test img alone 0 (children img root) top_names ≡ true
  unfolding pages_in leaves_in gathered children
  tree-indexes t =
      let cs = children img root in
      let s = t.under.1.1 in
      spans-test img alone 0 cs top_names (under-spans img alone 0 cs s (filled-each img alone 0 cs refl s t.filled) (names-inside img cs t.inside.1))
      (distinct-alike (pages_in format1 img 2 root) (named_on img cs top_names) (λ x. sym (count-tree x)) t.apart)

  node : Node img 2 (root ∷ []) (top_place root)
  node = subst (λ (n : ℕ). Node img n (root ∷ []) (top_place root)) h (index-facts img root e)

  indexes-tree : indexes_test img alone 0 (children img root) top_names ≡ true → TreeIn format1 img 2 root
  unfolding pages_in leaves_in gathered children top_place
  indexes-tree t =
      let cs = children img root in
      let s = test-spans img alone 0 cs top_names t in
      let u = spans-under img alone 0 cs node.bound.rising s in
      record {
        under = (bound-fine format1 3 false 0 (suc top_key) root (page_of img root) node.bound, (node-some img 2 (root ∷ []) (top_place root) node, u.0));
        filled = each-filled img alone cs refl u.1;
        inside = (i, inside-names img cs node.inside (subs 0 cs s));
        apart = distinct-alike (named_on img cs top_names) (pages_in format1 img 2 root) count-tree (test-apart img alone 0 cs top_names node.apart t);
      }
    where
      subs : (lo : ℕ) (l : List Rec) → Spans (Sub img alone) lo l (suc top_key) → All (λ (c : Rec). All (IsPage img) (names_of img (child_of c))) l
      subs lo [] s = tt
      subs lo (c ∷ l) s = (s.0.1, subs (first_key l (suc top_key)) l s.1)

  pub tree-two : tree_ok img root ≡ indexes_test img (eqb (length (children img root)) 1) 0 (children img root) (names_of img root ++ root ∷ [])
  tree-two =
      same_test (tree_ok img root) (indexes_test img alone 0 (children img root) top_names)
      (λ t. tree-indexes (subst (λ (n : ℕ). TreeIn format1 img n root) h (tree-facts img root t)))
      (λ t. facts-tree img root (subst (λ (n : ℕ). TreeIn format1 img n root) (sym h) (indexes-tree t)))

-- ---- the root by itself

pub tree-no-index : (img : List ℕ) (root : ℕ) → index_ok img root ≡ false → tree_ok img root ≡ false
tree-no-index img root e = not-true (tree_ok img root) (λ t. false≢true (sym e ∙ facts-index img root (tree-index img root (tree-facts img root t))))

-- ---- the loop through the index pages that cs name: what is left to test of them, with the pages that are marked, is the whole test

pub record Checking (img : List ℕ) (root : ℕ) (cs : List Rec) (i lo : ℕ) (marks : List ℕ) : Type 0 where
  pub named : List ℕ
  pub is : Named named marks
  pub left : indexes_test img (eqb (length cs) 1) lo (drop i cs) named ≡ tree_ok img root

pub checking-starts : (img : List ℕ) (root : ℕ) → is_page (page_count img) root ≡ true → height_of img root ≡ 2 → index_ok img root ≡ true → (marks : List ℕ) → Marked img root (root_read root) marks →
    (cs : List Rec) → cs ≡ children img root → Checking img root cs 0 0 marks
unfolding named_by
checking-starts img root i h e marks m cs same =
    record {
      named = names_of img root ++ root ∷ [];
      is = m.named;
      left = ap (λ (l : List Rec). indexes_test img (eqb (length l) 1) 0 l (names_of img root ++ root ∷ [])) same ∙ sym (tree-two img root h i e);
    }

module _ {img : List ℕ} {root : ℕ} {cs : List Rec} {i lo : ℕ} {marks : List ℕ} (k : Checking img root cs i lo marks) where
  pub checking-ends : length cs ≤ i → tree_ok img root ≡ true
  checking-ends h = sym k.left ∙ indexes-end img (eqb (length cs) 1) lo cs i k.named h

  module _ (d : Rec) (less : i < length cs) (hi : ℕ) (e : hi ≡ first_key (drop (i + 1) cs) (suc top_key)) (q : ℕ) (g : q ≡ child_of (get_or cs i d)) {answer : Bool} {after : List ℕ}
      (by : NodeBy img 1 (record { page = q; from = lo; below = hi }) marks answer after) where
    abbrev at : Place
    at = record { page = q; from = lo; below = hi }

    abbrev alone_is : Bool
    alone_is = eqb (length cs) 1

    pub checking-node : answer ≡ true → Judged img q
    checking-node a = node-judged img 0 k.named at (node-holds img 1 k.named at (sym (by.value k.named k.is) ∙ a))

    pub checking-not : answer ≡ false → tree_ok img root ≡ false
    checking-not a =
        let n : node_ok img 1 k.named at ≡ false = sym (by.value k.named k.is) ∙ a in
        sym k.left ∙ indexes-stop img alone_is lo cs i k.named d less hi e q g (ap (λ (t : Bool). t && leaves_at img alone_is at) n)

    pub checking-stop : answer ≡ true → leaves_at img alone_is at ≡ false → tree_ok img root ≡ false
    checking-stop a l =
        let n : node_ok img 1 k.named at ≡ true = sym (by.value k.named k.is) ∙ a in
        sym k.left ∙ indexes-stop img alone_is lo cs i k.named d less hi e q g (rw (n, l) refl)

    pub checking-on : answer ≡ true → leaves_at img alone_is at ≡ true → Checking img root cs (i + 1) hi after
    checking-on a l =
        let n : node_ok img 1 k.named at ≡ true = sym (by.value k.named k.is) ∙ a in
        record { named = names_of img q ++ k.named; is = by.names k.named k.is a; left = indexes-on img alone_is lo cs i k.named d less hi e q g n l ∙ k.left }

-- ---- pages in order: what f says of the pages that records name is put behind some others; what is left of it, behind what is put, is the whole

module _ (f : ℕ → List ℕ) where
  pub record Putting (before : Leaves) (cs : List Rec) (i : ℕ) (leaves : Leaves) : Type 0 where
    pub long : length leaves.pages ≡ 64
    pub size : leaves.count + length (joined f (drop i cs)) ≡ before.count + length (joined f cs)
    pub order : take leaves.count leaves.pages ++ joined f (drop i cs) ≡ take before.count before.pages ++ joined f cs

  pub putting-starts : (before : Leaves) (cs : List Rec) → length before.pages ≡ 64 → Putting before cs 0 before
  putting-starts before cs h = record { long = h; size = refl; order = refl }

  module _ {before : Leaves} {cs : List Rec} {i : ℕ} {leaves : Leaves} (k : Putting before cs i leaves) where
    pub putting-ends : length cs ≤ i → (leaves.count ≡ before.count + length (joined f cs)) × (take leaves.count leaves.pages ≡ take before.count before.pages ++ joined f cs)
    putting-ends h =
        let none : drop i cs ≡ [] = drop_of_length-le cs {i = i} h in (
          omega (arith, k.size, ap (λ (l : List Rec). length (joined f l)) none),
          sym (append-nil (take leaves.count leaves.pages)) ∙ sym (ap (λ (l : List Rec). take leaves.count leaves.pages ++ joined f l) none) ∙ k.order,
        )

    module _ (d : Rec) (less : i < length cs) (q : ℕ) (e : q ≡ child_of (get_or cs i d)) where
      here_left : joined f (drop i cs) ≡ f q ++ joined f (drop (i + 1) cs)
      here_left = ap (joined f) (drop-next cs i d less) ∙ ap (λ (x : ℕ). f x ++ joined f (drop (i + 1) cs)) (sym e)

      here-long : length (joined f (drop i cs)) ≡ length (f q) + length (joined f (drop (i + 1) cs))
      here-long = ap length here_left ∙ length-append (f q) (joined f (drop (i + 1) cs))

      -- there is room for it
      pub putting-room : before.count + length (joined f cs) ≤ 64 → leaves.count + length (f q) ≤ 64
      putting-room h = omega (arith, h, k.size, here-long)

      pub putting-on : (next : Leaves) → length next.pages ≡ 64 → next.count ≡ leaves.count + length (f q) → take next.count next.pages ≡ take leaves.count leaves.pages ++ f q → Putting before cs (i + 1) next
      putting-on next long count order =
          record {
            long = long;
            size = omega (arith, count, k.size, here-long);
            order =
                ap (λ (l : List ℕ). l ++ joined f (drop (i + 1) cs)) order
                ∙ append_assoc (take leaves.count leaves.pages) (f q) (joined f (drop (i + 1) cs))
                ∙ ap (λ (l : List ℕ). take leaves.count leaves.pages ++ l) (sym here_left)
                ∙ k.order;
          }

-- one page more
pub one-more : (pages : List ℕ) (n q : ℕ) → n < length pages → take (n + 1) (set pages n q) ≡ take n pages ++ q ∷ []
one-more pages n q h = ap (λ (m : ℕ). take m (set pages n q)) (add-one n) ∙ take-suc-set pages n q h

-- ---- the leaves of a tree

module _ (img : List ℕ) (root : ℕ) (t : TreeIn format1 img (height_of img root) root) where
  pub tree-page : is_page (page_count img) root ≡ true
  tree-page =
      let h = height_of img root in
      All-among (λ (p : ℕ). is_page (page_count img) p ≡ true) (pages_in format1 img h root) t.inside root (page-first format1 img h root)

  pub tree-judged : Judged img root
  tree-judged = (root-judged img root (tree-index img root t)).0

  -- "An image has N pages, 8 to 64"
  pub leaves-few : page_count img ≤ 64 → length (leaves_in format1 img (height_of img root) root) ≤ 64
  leaves-few few =
      let h = height_of img root in
      let ls = leaves_in format1 img h root in
      let P : ℕ → Type 0 = λ p. is_page (page_count img) p ≡ true in
      let low : All (λ (p : ℕ). p < page_count img) ls =
      All-map P (λ (p : ℕ). p < page_count img) (λ p e. (is_page-true (page_count img) p e).1) ls (pages-leaves format1 P img h root t.inside) in
      let n = distinct-few (page_count img) ls low (leaves-apart format1 img h root t.apart) in
      omega (arith, n, few)

module _ (img : List ℕ) (root : ℕ) (h : height_of img root ≡ 2) where
  pub leaves-two : leaves_in format1 img (height_of img root) root ≡ joined (λ y. names_of img y) (children img root)
  unfolding leaves_in gathered children
  leaves-two =
      let cs = children img root in
      ap (λ (n : ℕ). leaves_in format1 img n root) h
      ∙ joined_same (λ y. leaves_in format1 img 1 y) (λ y. names_of img y) cs
      (All-any (λ (c : Rec). leaves_in format1 img 1 (child_of c) ≡ names_of img (child_of c)) (λ c. leaves-named img (child_of c)) cs)

  -- each index page is sound by itself
  pub index-judged : TreeIn format1 img (height_of img root) root → All (λ (c : Rec). Judged img (child_of c)) (children img root)
  unfolding children pages_in gathered
  index-judged t = go 0 (suc top_key) (children img root) u.under.1.1 (names-inside img (children img root) u.inside.1) (λ a b x v. (v.0.page, v.1.0))
    where
      u : TreeIn format1 img 2 root
      u = subst (λ (n : ℕ). TreeIn format1 img n root) h t

      go : (lo hi : ℕ) (cs : List Rec) → Spans (λ a b x. Under format1 img 1 a b x) lo cs hi → All (λ (c : Rec). All (IsPage img) (names_of img (child_of c))) cs →
          ((a b x : ℕ) → Under format1 img 1 a b x → (page_ok 2 x (page_of img x) ≡ true) × (1 ≤ length (records (page_of img x)))) → All (λ (c : Rec). Judged img (child_of c)) cs
      go lo hi [] s i f = tt
      go lo hi (c ∷ cs) s i f =
          let k = f lo (first_key cs hi) (child_of c) s.0 in
          (record { page = record { kind = 2; above = omega arith; page = k.0; some = k.1 }; inside = i.0 }, go (first_key cs hi) hi cs s.1 i.1 f)

  pub index-at : TreeIn format1 img (height_of img root) root → (cs : List Rec) → cs ≡ children img root → (i : ℕ) (d : Rec) → i < length cs → (q : ℕ) → q ≡ child_of (get_or cs i d) → Judged img q
  index-at t cs e i d less q g =
      let a : All (λ (c : Rec). Judged img (child_of c)) cs = subst (λ (l : List Rec). All (λ (c : Rec). Judged img (child_of c)) l) (sym e) (index-judged t) in
      subst (Judged img) (sym g) (All-at (λ (c : Rec). Judged img (child_of c)) cs i d a less)
