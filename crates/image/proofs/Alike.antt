-- What lies under a page, for pages of any format and at any height: the pages, the leaves and what the leaves list; that all of it is the same in two images where the pages
-- are alike; that its range may be wider; and that the keys of its leaves rise.
-- Assumes nothing.
use Prim.Native.Nat.{ℕ, zero, suc, ◌≤◌}
use mathlib.Core.Path.{◌≡◌, refl, sym, ap, ◌∙◌, subst}
use mathlib.Core.Logic.{◌⊎◌, inl, inr}
use mathlib.Core.Bool.{true}
use mathlib.Core.List.{List, [], ◌∷◌, ◌++◌, map}
use native.Mathlib.Omega.{arith}
use lib.ListN.{length, length-append}
use Rattle.codec.specs.Lists.{All}
use Rattle.codec.proofs.Tests.{All-map}
use Rattle.page.specs.Layout.{top_key, Rec}
use Rattle.page.specs.PageFormat.{PageFormat}
use Rattle.page.specs.Operations.{page_of}
use Rattle.image.specs.Image.{child_of, among, records_at, joined, gathered, itself, pages_in, leaves_in, height_in, first_key}
use Rattle.image.specs.Facts.{Rising, Spans, Fine, Body, Under, Nonempty, TreeIn}
use Rattle.image.specs.Table.{table_in}
use Rattle.image.proofs.General.{All-any}
use Rattle.image.proofs.Rising.{rising-lo, rising-hi}
use Rattle.image.proofs.Ranges.{spans-map, spans-lo, spans-hi, spans-rising, spans_all, joined-map, joined_same, joined-all}
use Rattle.image.proofs.Apart.{among_first, among-left, among-right, All-among, among-All}

module _ (Pg : PageFormat) where
  -- ---- the pages

  -- the page itself, and those under the pages that it names
  pub page-first : (img : List ℕ) (h q : ℕ) → among q (pages_in Pg img h q) ≡ true
  unfolding pages_in gathered
  page-first img zero q = among_first q []
  page-first img (suc h) q = among_first q (joined (λ x. pages_in Pg img h x) (records_at Pg img q))

  pub page-under : (img : List ℕ) (h q x : ℕ) → among x (joined (λ y. pages_in Pg img h y) (records_at Pg img q)) ≡ true → among x (pages_in Pg img (suc h) q) ≡ true
  unfolding pages_in gathered
  page-under img h q x e = among-right x (q ∷ []) (joined (λ y. pages_in Pg img h y) (records_at Pg img q)) e

  -- what holds of all pages under the pages that records name holds of those under each
  pub each-pages : (P : ℕ → Type 0) (img : List ℕ) (h : ℕ) (cs : List Rec) → ((x : ℕ) → among x (joined (λ y. pages_in Pg img h y) cs) ≡ true → P x) →
      All (λ (c : Rec). (x : ℕ) → among x (pages_in Pg img h (child_of c)) ≡ true → P x) cs
  each-pages P img h [] g = tt
  each-pages P img h (c ∷ cs) g =
      let a = pages_in Pg img h (child_of c) in
      let b = joined (λ x. pages_in Pg img h x) cs in
      (λ x k. g x (among-left x a b k), each-pages P img h cs (λ x k. g x (among-right x a b k)))

  -- the leaves are pages
  pub pages-leaves : (P : ℕ → Type 0) (img : List ℕ) (h q : ℕ) → All P (pages_in Pg img h q) → All P (leaves_in Pg img h q)
  unfolding pages_in leaves_in gathered
  pages-leaves P img zero q a = a
  pages-leaves P img (suc h) q a =
      joined-all (λ x. pages_in Pg img h x) (λ x. leaves_in Pg img h x) P P (λ x b. pages-leaves P img h x b) (records_at Pg img q) a.1

  -- ---- what the leaves say

  -- what holds of all that a leaf says holds of all that they say
  pub gathered-all : {A : Type 0} (P : ℕ → Type 0) (Q : A → Type 0) (leaf : ℕ → List A) → ((x : ℕ) → P x → All Q (leaf x)) → (img : List ℕ) (h q : ℕ) →
      All P (leaves_in Pg img h q) → All Q (gathered Pg leaf (λ x. []) img h q)
  unfolding leaves_in gathered
  gathered-all P Q leaf f img zero q a = f q a.0
  gathered-all P Q leaf f img (suc h) q a =
      joined-all (λ x. leaves_in Pg img h x) (λ x. gathered Pg leaf (λ y. []) img h x) P Q (λ x b. gathered-all P Q leaf f img h x b) (records_at Pg img q) a

  -- f of all that they say
  pub gathered-map : {A B : Type 0} (f : A → B) (leaf : ℕ → List A) (img : List ℕ) (h q : ℕ) →
      map f (gathered Pg leaf (λ x. []) img h q) ≡ gathered Pg (λ x. map f (leaf x)) (λ x. []) img h q
  unfolding gathered
  gathered-map f leaf img zero q = refl
  gathered-map f leaf img (suc h) q =
      let cs = records_at Pg img q in
      joined-map (λ x. gathered Pg leaf (λ y. []) img h x) f cs
      ∙ joined_same (λ x. map f (gathered Pg leaf (λ y. []) img h x)) (λ x. gathered Pg (λ y. map f (leaf y)) (λ y. []) img h x) cs
      (All-any (λ (c : Rec). map f (gathered Pg leaf (λ y. []) img h (child_of c)) ≡ gathered Pg (λ y. map f (leaf y)) (λ y. []) img h (child_of c)) (λ c. gathered-map f leaf img h (child_of c)) cs)

  -- ---- pages alike

  -- q lists what p lists, and is sound where p is: the same pages, or the same live bytes
  pub record Like (p q : List ℕ) : Type 0 where
    pub recs : Pg.recs q ≡ Pg.recs p
    pub sound : (kind own : ℕ) → Pg.ok kind own q ≡ Pg.ok kind own p

  pub like : (p q : List ℕ) → q ≡ p → Like p q
  like p q e = record { recs = ap Pg.recs e; sound = λ kind own. ap (Pg.ok kind own) e }

  -- the pages ps are alike in both
  abbrev pub Agree : List ℕ → List ℕ → List ℕ → Type 0
  Agree img w ps = (x : ℕ) → among x ps ≡ true → Like (page_of img x) (page_of w x)

  module _ (img w : List ℕ) where
    -- what is gathered under a page is the same, if the leaves say the same
    pub gathered-same : {A : Type 0} (leaf leaf' node : ℕ → List A) (h q : ℕ) → Agree img w (pages_in Pg img h q) → ((x : ℕ) → among x (pages_in Pg img h q) ≡ true → leaf' x ≡ leaf x) →
        gathered Pg leaf' node w h q ≡ gathered Pg leaf node img h q
    unfolding gathered
    gathered-same leaf leaf' node zero q g e = e q (page-first img 0 q)
    gathered-same {A} leaf leaf' node (suc h) q g e =
        let cs = records_at Pg img q in
        let P : ℕ → Type 0 = λ x. Like (page_of img x) (page_of w x) × (leaf' x ≡ leaf x) in
        ap (λ (l : List A). node q ++ l)
        (ap (joined (λ x. gathered Pg leaf' node w h x)) (g q (page-first img (suc h) q)).recs
        ∙ joined_same (λ x. gathered Pg leaf' node w h x) (λ x. gathered Pg leaf node img h x) cs
        (All-map (λ (c : Rec). (x : ℕ) → among x (pages_in Pg img h (child_of c)) ≡ true → P x)
        (λ (c : Rec). gathered Pg leaf' node w h (child_of c) ≡ gathered Pg leaf node img h (child_of c))
        (λ c f. gathered-same leaf leaf' node h (child_of c) (λ x k. (f x k).0) (λ x k. (f x k).1)) cs
        (each-pages P img h cs (λ x k. let z = page-under img h q x k in (g x z, e x z)))))

    fine-same : (h lo hi q : ℕ) → Like (page_of img q) (page_of w q) → Fine Pg img h lo hi q → Fine Pg w h lo hi q
    fine-same h lo hi q e f = record { page = e.sound (suc h) q ∙ f.page; filled = inl refl; rising = rw e.recs f.rising }

    pub under_same : (h lo hi q : ℕ) → Agree img w (pages_in Pg img h q) → Under Pg img h lo hi q → Under Pg w h lo hi q
    under_same zero lo hi q g u = fine-same 0 lo hi q (g q (page-first img 0 q)) u
    under_same (suc h) lo hi q g u =
        let cs = records_at Pg img q in
        let e = g q (page-first img (suc h) q) in
        let P : ℕ → Type 0 = λ x. Like (page_of img x) (page_of w x) in (
          fine-same (suc h) lo hi q e u.0,
          subst (λ (ds : List Rec). Body (λ a b x. Under Pg w h a b x) lo ds hi) (sym e.recs) (
            u.1.0,
            spans-map (λ a b x. Under Pg img h a b x) (λ a b x. Under Pg w h a b x) lo cs hi
                (All-map (λ (c : Rec). (x : ℕ) → among x (pages_in Pg img h (child_of c)) ≡ true → P x) (λ (c : Rec). (a b : ℕ) → Under Pg img h a b (child_of c) → Under Pg w h a b (child_of c))
                (λ c f a b v. under_same h a b (child_of c) f v) cs (each-pages P img h cs (λ x k. g x (page-under img h q x k))))
                u.1.1,
          ),
        )

    -- the leaves ls, if they are alike
    full-same : (ls : List ℕ) → All (λ (x : ℕ). Like (page_of img x) (page_of w x)) ls → All (Nonempty Pg img) ls → All (Nonempty Pg w) ls
    full-same ls a f =
        among-All (Nonempty Pg w) ls
        (λ x k. rw (All-among (λ (x : ℕ). Like (page_of img x) (page_of w x)) ls a x k).recs (All-among (Nonempty Pg img) ls f x k))

  -- all of it
  pub record Alike (img w : List ℕ) (h q : ℕ) : Type 0 where
    pub pages : pages_in Pg w h q ≡ pages_in Pg img h q
    pub table : table_in Pg w h q ≡ table_in Pg img h q
    pub leaves : leaves_in Pg w h q ≡ leaves_in Pg img h q
    pub under : (lo hi : ℕ) → Under Pg img h lo hi q → Under Pg w h lo hi q
    pub full : All (Nonempty Pg img) (leaves_in Pg img h q) → All (Nonempty Pg w) (leaves_in Pg w h q)

  pub alike : (img w : List ℕ) (h q : ℕ) → Agree img w (pages_in Pg img h q) → Alike img w h q
  unfolding pages_in leaves_in table_in
  alike img w h q g =
      let leaves : leaves_in Pg w h q ≡ leaves_in Pg img h q = gathered-same img w itself itself (λ x. []) h q g (λ x k. refl) in
      record {
        pages = gathered-same img w itself itself itself h q g (λ x k. refl);
        table = gathered-same img w (λ x. records_at Pg img x) (λ x. records_at Pg w x) (λ x. []) h q g (λ x k. (g x k).recs);
        leaves = leaves;
        under = λ lo hi u. under_same img w h lo hi q g u;
        full = λ f.
            subst (All (Nonempty Pg w)) (sym leaves)
            (full-same img w (leaves_in Pg img h q)
            (pages-leaves (λ (x : ℕ). Like (page_of img x) (page_of w x)) img h q (among-All (λ (x : ℕ). Like (page_of img x) (page_of w x)) (pages_in Pg img h q) g)) f);
      }

  -- and of the pages that the records cs name
  pub record AllAlike (img w : List ℕ) (h : ℕ) (cs : List Rec) : Type 0 where
    pub pages : joined (λ x. pages_in Pg w h x) cs ≡ joined (λ x. pages_in Pg img h x) cs
    pub table : joined (λ x. table_in Pg w h x) cs ≡ joined (λ x. table_in Pg img h x) cs
    pub leaves : joined (λ x. leaves_in Pg w h x) cs ≡ joined (λ x. leaves_in Pg img h x) cs
    pub spans : (lo hi : ℕ) → Spans (λ a b x. Under Pg img h a b x) lo cs hi → Spans (λ a b x. Under Pg w h a b x) lo cs hi
    pub full : All (Nonempty Pg img) (joined (λ x. leaves_in Pg img h x) cs) → All (Nonempty Pg w) (joined (λ x. leaves_in Pg w h x) cs)

  pub all_alike : (img w : List ℕ) (h : ℕ) (cs : List Rec) → Agree img w (joined (λ x. pages_in Pg img h x) cs) → AllAlike img w h cs
  all_alike img w h cs g =
      let like : ℕ → Type 0 = λ x. Like (page_of img x) (page_of w x) in
      let each : All (λ (c : Rec). Alike img w h (child_of c)) cs =
      All-map (λ (c : Rec). (x : ℕ) → among x (pages_in Pg img h (child_of c)) ≡ true → like x) (λ (c : Rec). Alike img w h (child_of c)) (λ c f. alike img w h (child_of c) f) cs (each-pages like img h cs g) in
      let leaves : joined (λ x. leaves_in Pg w h x) cs ≡ joined (λ x. leaves_in Pg img h x) cs =
      joined_same (λ x. leaves_in Pg w h x) (λ x. leaves_in Pg img h x) cs
      (All-map (λ (c : Rec). Alike img w h (child_of c)) (λ (c : Rec). leaves_in Pg w h (child_of c) ≡ leaves_in Pg img h (child_of c)) (λ c a. a.leaves) cs each) in
      record {
        pages =
            joined_same (λ x. pages_in Pg w h x) (λ x. pages_in Pg img h x) cs
            (All-map (λ (c : Rec). Alike img w h (child_of c)) (λ (c : Rec). pages_in Pg w h (child_of c) ≡ pages_in Pg img h (child_of c)) (λ c a. a.pages) cs each);
        table =
            joined_same (λ x. table_in Pg w h x) (λ x. table_in Pg img h x) cs
            (All-map (λ (c : Rec). Alike img w h (child_of c)) (λ (c : Rec). table_in Pg w h (child_of c) ≡ table_in Pg img h (child_of c)) (λ c a. a.table) cs each);
        leaves = leaves;
        spans = λ lo hi s.
            spans-map (λ a b x. Under Pg img h a b x) (λ a b x. Under Pg w h a b x) lo cs hi
            (All-map (λ (c : Rec). Alike img w h (child_of c)) (λ (c : Rec). (a b : ℕ) → Under Pg img h a b (child_of c) → Under Pg w h a b (child_of c)) (λ c a. a.under) cs each) s;
        full = λ f.
            subst (All (Nonempty Pg w)) (sym leaves)
            (full-same img w (joined (λ x. leaves_in Pg img h x) cs)
            (joined-all (λ x. pages_in Pg img h x) (λ x. leaves_in Pg img h x) like like (λ x b. pages-leaves like img h x b) cs (among-All like (joined (λ x. pages_in Pg img h x) cs) g)) f);
      }

  -- "no leaf is empty unless it is the only one"
  pub filled-alike : (img w : List ℕ) (h q : ℕ) → Alike img w h q → (length (leaves_in Pg img h q) ≡ 1) ⊎ All (Nonempty Pg img) (leaves_in Pg img h q) →
      (length (leaves_in Pg w h q) ≡ 1) ⊎ All (Nonempty Pg w) (leaves_in Pg w h q)
  filled-alike img w h q a (inl e) = inl (ap length a.leaves ∙ e)
  filled-alike img w h q a (inr f) = inr (a.full f)

  -- a root's height
  pub height-alike : (img w : List ℕ) (root : ℕ) → Pg.kind_of (page_of w root) ≡ Pg.kind_of (page_of img root) → height_in Pg w root ≡ height_in Pg img root
  unfolding height_in
  height-alike img w root e = rw e

  -- a tree, in images of one length
  pub tree-alike : (img w : List ℕ) (h root : ℕ) → length img ≡ length w → Agree img w (pages_in Pg img h root) → TreeIn Pg img h root → TreeIn Pg w h root
  tree-alike img w h root l g t =
      let a = alike img w h root g in
      record {
        under = a.under 0 (suc top_key) t.under;
        filled = filled-alike img w h root a t.filled;
        inside = rw (a.pages, ← l) t.inside;
        apart = rw a.pages t.apart;
      }

  module _ (img : List ℕ) where
    -- ---- wider ranges

    fine-wide : (h lo hi lo' hi' q : ℕ) → lo' ≤ lo → hi ≤ hi' → Fine Pg img h lo hi q → Fine Pg img h lo' hi' q
    fine-wide h lo hi lo' hi' q a b f =
        record {
          page = f.page;
          filled = inl refl;
          rising = rising-lo lo lo' (records_at Pg img q) hi' a (rising-hi lo (records_at Pg img q) hi hi' b f.rising);
        }

    pub under-wide : (h lo hi lo' hi' q : ℕ) → lo' ≤ lo → hi ≤ hi' → Under Pg img h lo hi q → Under Pg img h lo' hi' q
    under-wide zero lo hi lo' hi' q a b u = fine-wide 0 lo hi lo' hi' q a b u
    under-wide (suc h) lo hi lo' hi' q a b u =
        let P : ℕ → ℕ → ℕ → Type 0 = λ y z x. Under Pg img h y z x in
        let wide : (l m l' m' x : ℕ) → l' ≤ l → m ≤ m' → P l m x → P l' m' x = λ l m l' m' x c d v. under-wide h l m l' m' x c d v in
        let cs = records_at Pg img q in
        (fine-wide (suc h) lo hi lo' hi' q a b u.0, (u.1.0, spans-lo P wide lo lo' cs hi' a (spans-hi P wide lo cs hi hi' b u.1.1)))

    -- ---- what is known of each page, and of each leaf

    pub under-pages : (P : ℕ → Type 0) → ((h lo hi x : ℕ) → Fine Pg img h lo hi x → P x) → (h lo hi q : ℕ) → Under Pg img h lo hi q → All P (pages_in Pg img h q)
    unfolding pages_in gathered
    under-pages P f zero lo hi q u = (f 0 lo hi q u, tt)
    under-pages P f (suc h) lo hi q u = (
      f (suc h) lo hi q u.0,
      spans_all (λ a b x. Under Pg img h a b x) P (λ x. pages_in Pg img h x) (λ a b x v. under-pages P f h a b x v) lo (records_at Pg img q) hi u.1.1,
    )

    pub under-leaves : (P : ℕ → Type 0) → ((lo hi x : ℕ) → Fine Pg img 0 lo hi x → P x) → (h lo hi q : ℕ) → Under Pg img h lo hi q → All P (leaves_in Pg img h q)
    unfolding leaves_in gathered
    under-leaves P f zero lo hi q u = (f lo hi q u, tt)
    under-leaves P f (suc h) lo hi q u =
        spans_all (λ a b x. Under Pg img h a b x) P (λ x. leaves_in Pg img h x) (λ a b x v. under-leaves P f h a b x v) lo (records_at Pg img q) hi u.1.1

    -- there is a leaf
    pub leaves-some : (h lo hi q : ℕ) → Under Pg img h lo hi q → 1 ≤ length (leaves_in Pg img h q)
    unfolding leaves_in gathered
    leaves-some zero lo hi q u = omega arith
    leaves-some (suc h) lo hi q u = go (records_at Pg img q) u.1.0 u.1.1 (λ a b x v. leaves-some h a b x v)
      where
        go : (cs : List Rec) → 1 ≤ length cs → Spans (λ a b x. Under Pg img h a b x) lo cs hi → ((a b x : ℕ) → Under Pg img h a b x → 1 ≤ length (leaves_in Pg img h x)) →
            1 ≤ length (joined (λ x. leaves_in Pg img h x) cs)
        go [] k s f = absurd (omega arith)
        go (c ∷ cs) k s f = omega (arith, length-append (leaves_in Pg img h (child_of c)) (joined (λ x. leaves_in Pg img h x) cs), f lo (first_key cs hi) (child_of c) s.0)

    -- "keys rising"
    pub under-rising : (h lo hi q : ℕ) → Under Pg img h lo hi q → Rising lo (table_in Pg img h q) hi
    unfolding table_in gathered
    under-rising zero lo hi q u = u.rising
    under-rising (suc h) lo hi q u =
        spans-rising (λ a b x. Under Pg img h a b x) (λ x. table_in Pg img h x) (λ a b x v. under-rising h a b x v) lo (records_at Pg img q) hi u.0.rising u.1.1
