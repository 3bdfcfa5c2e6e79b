-- A page that lists records in order, over pages in order, stands for its range; so do the two pages of a split. And the records of a page when those
-- that stand for one of its pages take its place.
-- Assumes nothing.
use Prim.Native.Nat.{ℕ, zero, suc, ◌+◌, ◌≤◌, ◌<◌}
use mathlib.Core.Path.{◌≡◌, refl, sym, ap, ap₂, ◌∙◌, subst}
use mathlib.Core.Logic.{inl}
use mathlib.Core.Bool.{true}
use mathlib.Core.List.{List, [], ◌∷◌, ◌++◌, append-nil}
use native.Mathlib.Omega.{arith}
use native.Mathlib.Nat.{not-suc-le-zero}
use lib.ListN.{length}
use Rattle.codec.specs.Lists.{All}
use Rattle.page.specs.Layout.{Rec, top_key}
use Rattle.page.specs.Operations.{page_of}
use Rattle.page.specs.Page.{form_ok}
use Rattle.page.specs.PageFormat.{PageFormat, Rules}
use Rattle.image.specs.Facts.{Body, Fine, Rising, Spans, Under}
use Rattle.image.specs.Image.{Entries, IsEntry, child_of, first_key, gathered, index_rec, joined, leaves_in, pages_in, start_of, count, hit}
use Rattle.image.specs.Table.{table_in}
use Rattle.image.proofs.General.{All-left}
use Rattle.image.proofs.IndexRecords.{index-child, index-entry}
use Rattle.image.proofs.Ranges.{joined-append, spans-append, spans-cut, spans-hi, spans-lo}
use Rattle.image.proofs.Rising.{rising-append, rising_le, rising-rise, rising-split}
use Rattle.image.proofs.Times.{count-append, hit-self}
use Rattle.edit.proofs.General.{all_right}
use Rattle.tree.specs.Edits.{Change, gone, kept, one, two}
use Rattle.tree.specs.Good.{inside}
use Rattle.tree.proofs.Change.{Held, Holds, SepsOk, stand, standing}
use Rattle.tree.proofs.Counts.{count-joined, inside-range}

-- records as a page of height h lists them
abbrev pub Forms : ℕ → List Rec → Type 0
Forms h rs = All (λ (r : Rec). form_ok (suc h) r ≡ true) rs

-- ---- the records of the page above

module _ (P : ℕ → ℕ → ℕ → Type 0) (wide : (lo hi lo' hi' x : ℕ) → lo' ≤ lo → hi ≤ hi' → P lo hi x → P lo' hi' x) where
  pub replaced-spans : (lo : ℕ) (pre : List Rec) (c : Rec) (post : List Rec) (hi : ℕ) (ch : Change) → Spans P lo pre c.key → Spans P (start_of pre lo c.key) (stand c (start_of pre lo c.key) ch) (first_key post hi) →
      Spans P (first_key post hi) post hi → lo ≤ first_key post hi → c.key ≤ first_key post hi → Spans P lo (pre ++ (stand c (start_of pre lo c.key) ch ++ post)) hi
  unfolding index_rec
  replaced-spans lo [] c post hi kept a b d u v = spans-append P lo (c ∷ []) post hi b d
  replaced-spans lo [] c post hi gone a b d u v = spans-lo P wide (first_key post hi) lo post hi u d
  replaced-spans lo [] c post hi (one x) a b d u v = spans-append P lo (index_rec lo x ∷ []) post hi b d
  replaced-spans lo [] c post hi (two x k y) a b d u v = spans-append P lo (index_rec lo x ∷ index_rec k y ∷ []) post hi b d
  replaced-spans lo (p ∷ pre) c post hi kept a b d u v = spans-append P lo (p ∷ pre) (c ∷ post) hi a (spans-append P c.key (c ∷ []) post hi b d)
  replaced-spans lo (p ∷ pre) c post hi gone a b d u v = spans-append P lo (p ∷ pre) post hi (spans-hi P wide lo (p ∷ pre) c.key (first_key post hi) v a) d
  replaced-spans lo (p ∷ pre) c post hi (one x) a b d u v =
      spans-append P lo (p ∷ pre) (index_rec c.key x ∷ post) hi a (spans-append P c.key (index_rec c.key x ∷ []) post hi b d)
  replaced-spans lo (p ∷ pre) c post hi (two x k y) a b d u v =
      spans-append P lo (p ∷ pre) (index_rec c.key x ∷ index_rec k y ∷ post) hi a (spans-append P c.key (index_rec c.key x ∷ index_rec k y ∷ []) post hi b d)

pub replaced-rising : (lo : ℕ) (pre : List Rec) (sep : ℕ) (ds post : List Rec) (hi : ℕ) → Rising lo pre sep → Rising (start_of pre lo sep) ds (first_key post hi) → Rising (first_key post hi) post hi →
    Rising lo (pre ++ (ds ++ post)) hi
replaced-rising lo [] sep ds post hi a b d = rising-append lo ds (first_key post hi) post hi b d
replaced-rising lo (p ∷ pre) sep ds post hi a b d = rising-append lo (p ∷ pre) sep (ds ++ post) hi a (rising-append sep ds (first_key post hi) post hi b d)

-- the range of a list that has a record
rising-some : (lo : ℕ) (l : List Rec) (hi : ℕ) → Rising lo l hi → 1 ≤ length l → lo < hi
rising-some lo [] hi h s = absurd (not-suc-le-zero s)
rising-some lo (r ∷ l) hi h s = omega (arith, h.0, rising_le (suc r.key) l hi h.1)

first-own : (l : List Rec) (hi : ℕ) → 1 ≤ length l → first_key l hi ≡ first_key l 0
first-own [] hi h = absurd (omega arith)
first-own (r ∷ l) hi h = refl

module _ (Pg : PageFormat) where
  -- ---- what lies under a page of height h that lists rs

  abbrev pub content : List ℕ → ℕ → List Rec → List Rec
  content img zero rs = rs
  content img (suc h) rs = joined (λ x. table_in Pg img h x) rs

  abbrev pub names : List ℕ → ℕ → List Rec → List ℕ
  names img zero rs = []
  names img (suc h) rs = joined (λ x. pages_in Pg img h x) rs

  abbrev pub Inner : List ℕ → ℕ → ℕ → List Rec → ℕ → Type 0
  Inner img zero lo rs hi = Unit {0}
  Inner img (suc h) lo rs hi = Body (λ a b x. Under Pg img h a b x) lo rs hi

  -- the leaves under pages ps of height h that list rs
  abbrev pub tips : List ℕ → ℕ → List ℕ → List Rec → List ℕ
  tips img zero ps rs = ps
  tips img (suc h) ps rs = joined (λ x. leaves_in Pg img h x) rs

  -- the same, but for a page that is gone
  abbrev pub InnerFor : Change → List ℕ → ℕ → ℕ → List Rec → ℕ → Type 0
  InnerFor kept img h lo rs hi = Inner img h lo rs hi
  InnerFor gone img h lo rs hi = Unit {0}
  InnerFor (one a) img h lo rs hi = Inner img h lo rs hi
  InnerFor (two a k b) img h lo rs hi = Inner img h lo rs hi

  content-append : (img : List ℕ) (h : ℕ) (a b : List Rec) → content img h (a ++ b) ≡ content img h a ++ content img h b
  content-append img zero a b = refl
  content-append img (suc h) a b = joined-append (λ x. table_in Pg img h x) a b

  content-none : (img : List ℕ) (h : ℕ) → content img h [] ≡ []
  content-none img zero = refl
  content-none img (suc h) = refl

  names-count : (img : List ℕ) (h x : ℕ) (a b : List Rec) → count x (names img h (a ++ b)) ≡ count x (names img h a) + count x (names img h b)
  names-count img zero x a b = refl
  names-count img (suc h) x a b = count-joined (λ y. pages_in Pg img h y) x a b

  names-none : (img : List ℕ) (h x : ℕ) → count x (names img h []) ≡ 0
  names-none img zero x = refl
  names-none img (suc h) x = refl

  inner_cut : (img : List ℕ) (h lo : ℕ) (a b : List Rec) (hi : ℕ) → 1 ≤ length a → 1 ≤ length b → Inner img h lo (a ++ b) hi → Inner img h lo a (first_key b hi) × Inner img h (first_key b hi) b hi
  inner_cut img zero lo a b hi s t k = (tt, tt)
  inner_cut img (suc h) lo [] b hi s t k = absurd (omega arith)
  inner_cut img (suc h) lo (x ∷ a) b hi s t k = let c = spans-cut (λ y z w. Under Pg img h y z w) lo (x ∷ a) b hi k.1 in ((s, c.0), (t, c.1))

  -- ---- one page

  pub record PageUnder (img : List ℕ) (h lo hi q : ℕ) (rs : List Rec) : Type 0 where
    pub under : Under Pg img h lo hi q
    pub table : table_in Pg img h q ≡ content img h rs
    pub pages : pages_in Pg img h q ≡ q ∷ names img h rs
    pub leaves : leaves_in Pg img h q ≡ tips img h (q ∷ []) rs

  -- ---- what stands for a page

  pub record Settled (img : List ℕ) (h lo hi : ℕ) (c : Rec) (rs : List Rec) (ch : Change) : Type 0 where
    pub spans : Spans (λ a b x. Under Pg img h a b x) lo (stand c lo ch) hi
    pub seps : Rising lo (stand c lo ch) hi
    pub seps-ok : SepsOk lo ch
    pub entries : Entries (stand c lo ch)
    pub lists : joined (λ x. table_in Pg img h x) (stand c lo ch) ≡ content img h rs
    pub pages : (x : ℕ) → count x (joined (λ y. pages_in Pg img h y) (stand c lo ch)) ≡ count x (standing (child_of c) ch) + count x (names img h rs)
    pub leaves : joined (λ y. leaves_in Pg img h y) (stand c lo ch) ≡ tips img h (standing (child_of c) ch) rs

  tips-none : (img : List ℕ) (h : ℕ) → tips img h [] [] ≡ []
  tips-none img zero = refl
  tips-none img (suc h) = refl

  tips-append : (img : List ℕ) (h a b : ℕ) (l r : List Rec) → tips img h (a ∷ []) l ++ tips img h (b ∷ []) r ≡ tips img h (a ∷ b ∷ []) (l ++ r)
  tips-append img zero a b l r = refl
  tips-append img (suc h) a b l r = sym (joined-append (λ x. leaves_in Pg img h x) l r)

module _ (Pg : PageFormat) (rules : Rules Pg) where
  fine-lists : (img : List ℕ) (h lo hi q : ℕ) (rs : List Rec) → Holds Pg img (suc h) q rs → Forms h rs → Rising lo rs hi → Fine Pg img h lo hi q
  fine-lists img h lo hi q rs L forms up =
      record {
        page =
            rules.true-ok (suc h) q (page_of img q) (record {
              laid = L.lists.laid;
              kind = L.lists.kind;
              own = L.lists.own;
              forms = rw L.lists.recs forms;
              rise = rw L.lists.recs (rising-rise lo rs hi up);
            });
        filled = inl refl;
        rising = rw L.lists.recs up;
      }

  pub lists-under : (img : List ℕ) (h lo hi q : ℕ) (rs : List Rec) → Holds Pg img (suc h) q rs → Forms h rs → Rising lo rs hi → Inner Pg img h lo rs hi → PageUnder Pg img h lo hi q rs
  unfolding table_in pages_in leaves_in gathered
  lists-under img zero lo hi q rs L forms up k =
      record { under = fine-lists img 0 lo hi q rs L forms up; table = L.lists.recs; pages = refl; leaves = refl }
  lists-under img (suc h) lo hi q rs L forms up k =
      record {
        under = (fine-lists img (suc h) lo hi q rs L forms up, subst (λ (l : List Rec). Body (λ a b x. Under Pg img h a b x) lo l hi) (sym L.lists.recs) k);
        table = ap (λ (l : List Rec). joined (λ x. table_in Pg img h x) l) L.lists.recs;
        pages = ap (λ (l : List Rec). q ∷ joined (λ x. pages_in Pg img h x) l) L.lists.recs;
        leaves = ap (λ (l : List Rec). joined (λ x. leaves_in Pg img h x) l) L.lists.recs;
      }

  module _ (n : ℕ) (few : n ≤ 64) (img : List ℕ) (h lo hi : ℕ) (high : hi ≤ suc top_key) (c : Rec) (entry : IsEntry c) (low : lo ≤ c.key) (below : c.key < hi)
      (rs : List Rec) (forms : Forms h rs) (up : Rising lo rs hi) where
    -- a record that names page a
    child : (sep a : ℕ) → 1 ≤ inside n a → child_of (index_rec sep a) ≡ a
    child sep a i = index-child sep a (omega (arith, inside-range n a i))

    one-page : (d : Rec) → PageUnder Pg img h lo hi (child_of d) rs → (x : ℕ) → count x (joined (λ y. pages_in Pg img h y) (d ∷ [])) ≡ hit x (child_of d) + count x (names Pg img h rs)
    one-page d P x = omega (arith, count-append x (pages_in Pg img h (child_of d)) [], ap (count x) P.pages)

    pub settled : (ch : Change) → Held Pg img (suc h) (child_of c) ch rs → ((x : ℕ) → count x (standing (child_of c) ch) ≤ inside n x) → InnerFor Pg ch img h lo rs hi → Settled Pg img h lo hi c rs ch
    unfolding index_rec
    settled kept L inn k =
        let P = lists-under img h lo hi (child_of c) rs L forms up k in
        record {
          spans = (P.under, tt);
          seps = (low, below);
          seps-ok = tt;
          entries = (entry, tt);
          lists = append-nil (table_in Pg img h (child_of c)) ∙ P.table;
          pages = λ x. omega (arith, one-page c P x);
          leaves = append-nil (leaves_in Pg img h (child_of c)) ∙ P.leaves;
        }
    settled gone e inn k =
        record {
          spans = tt;
          seps = omega arith;
          seps-ok = tt;
          entries = tt;
          lists = sym (ap (content Pg img h) e ∙ content-none Pg img h);
          pages = λ x. omega (arith, ap (λ (l : List Rec). count x (names Pg img h l)) e, names-none Pg img h x);
          leaves = sym (ap (tips Pg img h []) e ∙ tips-none Pg img h);
        }
    settled (one a) L inn k =
        let e : child_of (index_rec lo a) ≡ a = child lo a (omega (arith, inn a, hit-self a)) in
        let P = lists-under img h lo hi (child_of (index_rec lo a)) rs (subst (λ (y : ℕ). Holds Pg img (suc h) y rs) (sym e) L) forms up k in
        record {
          spans = (P.under, tt);
          seps = (omega arith, omega arith);
          seps-ok = omega arith;
          entries = (index-entry lo a, tt);
          lists = append-nil (table_in Pg img h (child_of (index_rec lo a))) ∙ P.table;
          pages = λ x. omega (arith, one-page (index_rec lo a) P x, ap (hit x) e);
          leaves = append-nil (leaves_in Pg img h (child_of (index_rec lo a))) ∙ P.leaves ∙ ap (λ (y : ℕ). tips Pg img h (y ∷ []) rs) e;
        }
    settled (two a m b) H inn k =
        let l = H.left in
        let r = H.right in
        let whole : rs ≡ l ++ r = sym H.whole in
        let e : child_of (index_rec lo a) ≡ a = child lo a (omega (arith, inn a, hit-self a)) in
        let f : child_of (index_rec m b) ≡ b = child m b (omega (arith, inn b, hit-self b)) in
        let mid : m ≡ first_key r hi = H.sep ∙ sym (first-own r hi H.some_right) in
        let ups : Rising lo l m × Rising m r hi =
        subst (λ (y : ℕ). Rising lo l y × Rising y r hi) (sym mid) (rising-split lo l r hi (subst (λ (y : List Rec). Rising lo y hi) whole up)) in
        let ks : Inner Pg img h lo l m × Inner Pg img h m r hi =
        subst (λ (y : ℕ). Inner Pg img h lo l y × Inner Pg img h y r hi) (sym mid) (inner_cut Pg img h lo l r hi H.some_left H.some_right (subst (λ (y : List Rec). Inner Pg img h lo y hi) whole k)) in
        let fs : Forms h (l ++ r) = subst (Forms h) whole forms in
        let P = lists-under img h lo m (child_of (index_rec lo a)) l (subst (λ (y : ℕ). Holds Pg img (suc h) y l) (sym e) H.left-page) (All-left (λ (y : Rec). form_ok (suc h) y ≡ true) l r fs) ups.0 ks.0 in
        let Q = lists-under img h m hi (child_of (index_rec m b)) r (subst (λ (y : ℕ). Holds Pg img (suc h) y r) (sym f) H.right-page) (all_right (λ (y : Rec). form_ok (suc h) y ≡ true) l r fs) ups.1 ks.1 in
        let up_left : lo < m = rising-some lo l m ups.0 H.some_left in
        let up_right : m < hi = rising-some m r hi ups.1 H.some_right in
        record {
          spans = (P.under, (Q.under, tt));
          seps = (omega arith, (omega arith, omega arith));
          seps-ok = (omega arith, omega arith);
          entries = (index-entry lo a, (index-entry m b, tt));
          lists =
              ap₂ (λ (x y : List Rec). x ++ y) P.table (append-nil (table_in Pg img h (child_of (index_rec m b))) ∙ Q.table)
              ∙ sym (content-append Pg img h l r)
              ∙ ap (content Pg img h) H.whole;
          pages = λ x.
              omega (
                arith,
                count-append x (pages_in Pg img h (child_of (index_rec lo a))) (joined (λ y. pages_in Pg img h y) (index_rec m b ∷ [])),
                count-append x (pages_in Pg img h (child_of (index_rec m b))) [],
                ap (count x) P.pages,
                ap (count x) Q.pages,
                ap (hit x) e,
                ap (hit x) f,
                ap (λ (y : List Rec). count x (names Pg img h y)) whole,
                names-count Pg img h x l r,
              );
          leaves =
              ap₂ (λ (x y : List ℕ). x ++ y) P.leaves (append-nil (leaves_in Pg img h (child_of (index_rec m b))) ∙ Q.leaves)
              ∙ tips-append Pg img h (child_of (index_rec lo a)) (child_of (index_rec m b)) l r
              ∙ ap₂ (λ (x y : ℕ). tips Pg img h (x ∷ y ∷ []) (l ++ r)) e f
              ∙ ap (tips Pg img h (a ∷ b ∷ [])) H.whole;
        }
