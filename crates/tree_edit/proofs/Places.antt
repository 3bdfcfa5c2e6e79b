-- Where the pages on the way to a leaf stand in a sound tree, and what they can take.
-- Assumes nothing.
use Prim.Native.Nat.{ℕ, zero, suc, ◌+◌, ◌*◌, ◌≤◌, ◌<◌}
use mathlib.Core.Path.{◌≡◌, refl, sym, ap, ◌∙◌, subst}
use mathlib.Core.Bool.{true}
use mathlib.Core.List.{List, [], ◌∷◌, map}
use native.Mathlib.Omega.{arith}
use native.Mathlib.Nat.{not-suc-le-zero}
use lib.ListN.{length, get_or}
use borrow.Author.Tests.{eq-eqb, ne_eqb}
use Rattle.codec.specs.Lists.{All}
use Rattle.codec.proofs.Tests.{All-map}
use Rattle.page.specs.Layout.{page_size, leaf_kind, index_kind, top_kind, top_key, Rec, rec_of}
use Rattle.page.specs.Page.{records, laid_out, form_ok, RecOk}
use Rattle.page.specs.Operations.{page_of}
use Rattle.page.specs.PageFormat.{format1, PageOk}
use Rattle.page.proofs.Facts.{page_ok-true, records-ok, index-form}
use Rattle.page.proofs.Listed.{All-at}
use Rattle.image.specs.Image.{child_of, children, names_of, first_key, joined, gathered, pages_in, height_of, IsEntry, tallest, hit, count}
use Rattle.image.specs.Facts.{Spans, Under}
use Rattle.image.specs.Route.{route}
use Rattle.image.proofs.Alike.{page-first}
use Rattle.image.proofs.Routing.{routed}
use Rattle.image.proofs.CodeDescent.{laid-rising}
use Rattle.image.proofs.Times.{hit-self, count-append, among-count}
use Rattle.tree.specs.State.{State}
use Rattle.tree.specs.Edits.{low_of}
use Rattle.tree.specs.Good.{inside, Good}
use Rattle.tree.proofs.Counts.{inside-range}
use Rattle.tree.proofs.Height.{height-range}
use Rattle.tree_edit.specs.Steps.{root_place, child_for, way_at, way_of}
use Rattle.tree_edit.specs.Asked.{CanPut, CanTake, IndexAt, Names, OnWay}
use Rattle.tree_edit.specs.declared.Child.{Child}
use Rattle.tree_edit.specs.declared.Way.{Way}
use Rattle.tree_edit.specs.declared.Put.{Put}

abbrev none : Rec
none = rec_of 0 []

-- ---- the pages that records name

-- all pages under one of them are among those under all
count-named : (f : ℕ → List ℕ) (x : ℕ) (cs : List Rec) (i : ℕ) → i < length cs → count x (f (child_of (get_or cs i (rec_of 0 [])))) ≤ count x (joined f cs)
count-named f x [] i h = absurd (not-suc-le-zero h)
count-named f x (c ∷ cs) zero h = omega (arith, count-append x (f (child_of c)) (joined f cs))
count-named f x (c ∷ cs) (suc i) h = omega (arith, count-append x (f (child_of c)) (joined f cs), count-named f x cs i (omega arith))

-- P of the page x, in some range
record Ranged (P : ℕ → ℕ → ℕ → Type 0) (x : ℕ) : Type 0 where
  lo : ℕ
  hi : ℕ
  is : P lo hi x

spans-at : (P : ℕ → ℕ → ℕ → Type 0) (lo : ℕ) (cs : List Rec) (hi : ℕ) → Spans P lo cs hi → (i : ℕ) → i < length cs → Ranged P (child_of (get_or cs i (rec_of 0 [])))
spans-at P lo [] hi s i h = absurd (not-suc-le-zero h)
spans-at P lo (c ∷ cs) hi s zero h = record { lo = lo; hi = first_key cs hi; is = s.0 }
spans-at P lo (c ∷ cs) hi s (suc i) h = spans-at P (first_key cs hi) cs hi s.1 i (omega arith)

-- "keeps its separator, or takes 0 if first"
pub low_first : (i lo sep : ℕ) → i ≡ 0 → lo ≡ low_of i lo sep
unfolding low_of
low_first i lo sep e = ap (λ (k : ℕ). low_of k lo sep) (sym e)

pub low-other : (i lo sep : ℕ) → (i ≡ 0 → ⊥) → sep ≡ low_of i lo sep
unfolding low_of
low-other zero lo sep h = absurd (h refl)
low-other (suc i) lo sep h = refl

low-most : (i lo sep : ℕ) → lo ≤ top_key → sep ≤ top_key → low_of i lo sep ≤ top_key
unfolding low_of
low-most zero lo sep a b = a
low-most (suc i) lo sep a b = b

-- ---- a page above the leaves, of height h + 1

module _ (img : List ℕ) (h lo hi q : ℕ) (u : Under format1 img (suc h) lo hi q) where
  page-ok : PageOk (suc (suc h)) q (page_of img q)
  page-ok = page_ok-true (suc (suc h)) q (page_of img q) u.0.page

  pub under-names : page_size * q + page_size ≤ length img → Names img q
  under-names fits =
      record {
        fits = fits;
        laid = page-ok.laid;
        rise = page-ok.rise;
        entries = All-map (λ (r : Rec). form_ok (suc (suc h)) r ≡ true) IsEntry (λ r f. index-form h r f) (records (page_of img q)) page-ok.forms;
        some = u.1.0;
      }

  pages-at : (x : ℕ) → count x (pages_in format1 img (suc h) q) ≡ hit x q + count x (joined (λ y. pages_in format1 img h y) (records (page_of img q)))
  unfolding pages_in gathered
  pages-at x = refl

-- and the page c that it names for the key k, in a state with n pages

module _ (n : ℕ) (st : State) (h lo hi : ℕ) (above : Child) (u : Under format1 st.image (suc h) lo hi above.page) (k : ℕ) where
  abbrev rs : List Rec
  rs = records (page_of st.image above.page)

  abbrev c : Child
  c = child_for st.image above k

  slot-in : (child_for st.image above k).slot < length (records (page_of st.image above.page))
  slot-in = (routed k lo rs hi none u.0.rising u.1.0).inside

  under-child : Ranged (λ a b x. Under format1 st.image h a b x) (child_for st.image above k).page
  under-child = spans-at (λ a b x. Under format1 st.image h a b x) lo rs hi u.1.1 c.slot slot-in

  pages-child : (x : ℕ) → hit x above.page + count x (pages_in format1 st.image h (child_for st.image above k).page) ≤ count x (pages_in format1 st.image (suc h) above.page)
  pages-child x = omega (arith, pages-at st.image h lo hi above.page u x, count-named (λ y. pages_in format1 st.image h y) x rs c.slot slot-in)

  low-child : above.low ≤ top_key → (child_for st.image above k).low ≤ top_key
  low-child low =
      low-most c.slot above.low (get_or rs c.slot none).key low
      (All-at RecOk rs c.slot none (records-ok (page_of st.image above.page) (page-ok st.image h lo hi above.page u).laid) slot-in).low

  index-at : n ≤ 64 → length st.image ≡ page_size * n → above.low ≤ top_key → ((x : ℕ) → hit x above.page + count x st.free ≤ inside n x) →
      Names st.image above.page → IndexAt n st (suc (suc h)) above.page (child_for st.image above k)
  index-at few long low apart names =
      let ok = page-ok st.image h lo hi above.page u in
      record {
        few = few;
        long = long;
        apart = apart;
        lists = record { laid = ok.laid; kind = ok.kind; own = ok.own; recs = refl };
        entries = names.entries;
        slot = slot-in;
        low = low-child low;
      }

-- ---- the way to a leaf

-- the root, where it is a top page
pub record TopOk (n : ℕ) (st : State) (w : Way) : Type 0 where
  pub high : w.height ≡ 2
  pub root : IndexAt n st top_kind st.root w.index
  pub apart : (x : ℕ) → hit x w.leaf.page + (hit x w.index.page + (hit x st.root + count x st.free)) ≤ inside n x

pub record WayOk (n : ℕ) (st : State) (w : Way) : Type 0 where
  pub names-root : Names st.image st.root
  pub names-index : Names st.image w.index.page
  pub index : IndexAt n st index_kind w.index.page w.leaf
  pub leaf : PageOk leaf_kind w.leaf.page (page_of st.image w.leaf.page)
  pub apart : (x : ℕ) → hit x w.leaf.page + (hit x w.index.page + count x st.free) ≤ inside n x
  pub top : (w.height ≡ 1 → ⊥) → TopOk n st w

module _ {n : ℕ} {st : State} (G : Good n st) where
  page-fits : (q : ℕ) → 1 ≤ inside n q → page_size * q + page_size ≤ length st.image
  page-fits q h = omega (arith, G.size, inside-range n q h)

  pub root-inside : 1 ≤ inside n st.root
  root-inside =
      let h = height_of st.image st.root in
      omega (arith, G.apart st.root, among-count st.root (pages_in format1 st.image h st.root) (page-first format1 st.image h st.root))

  -- with no free pages the tree is as sound
  pub good_none : Good n (record { image = st.image; root = st.root; free = [] })
  good_none = record { few = G.few; size = G.size; under = G.under; full = G.full; apart = λ x. omega (arith, G.apart x) }

  leaf-count : (x q : ℕ) → count x (pages_in format1 st.image 0 q) ≡ hit x q
  unfolding pages_in gathered
  leaf-count x q = omega arith

  module _ (k : ℕ) where
    one-ok : Under format1 st.image 1 0 (suc top_key) st.root → ((x : ℕ) → count x (pages_in format1 st.image 1 st.root) + count x st.free ≤ inside n x) →
        WayOk n st (way_at 1 st.image st.root k)
    one-ok u apart =
        let top = root_place st.root in
        let c = child_for st.image top k in
        let each : (x : ℕ) → hit x c.page + (hit x st.root + count x st.free) ≤ inside n x =
        λ x. omega (arith, apart x, pages-child n st 0 0 (suc top_key) top u k x, leaf-count x c.page) in
        let names = under-names st.image 0 0 (suc top_key) st.root u (page-fits st.root (omega (arith, each st.root, hit-self st.root))) in
        record {
          names-root = names;
          names-index = names;
          index = index-at n st 0 0 (suc top_key) top u k G.few G.size (omega arith) (λ x. omega (arith, each x)) names;
          leaf = page_ok-true leaf_kind c.page (page_of st.image c.page) (under-child n st 0 0 (suc top_key) top u k).is.page;
          apart = each;
          top = λ ne. absurd (ne refl);
        }

    two-ok : Under format1 st.image 2 0 (suc top_key) st.root → ((x : ℕ) → count x (pages_in format1 st.image 2 st.root) + count x st.free ≤ inside n x) →
        WayOk n st (way_at 2 st.image st.root k)
    two-ok u apart =
        let top = root_place st.root in
        let d = child_for st.image top k in
        let c = child_for st.image d k in
        let r = under-child n st 1 0 (suc top_key) top u k in
        let each : (x : ℕ) → hit x c.page + (hit x d.page + (hit x st.root + count x st.free)) ≤ inside n x =
        λ x. omega (arith, apart x, pages-child n st 1 0 (suc top_key) top u k x, pages-child n st 0 r.lo r.hi d r.is k x, leaf-count x c.page) in
        let names-root = under-names st.image 1 0 (suc top_key) st.root u (page-fits st.root (omega (arith, each st.root, hit-self st.root))) in
        let names-index = under-names st.image 0 r.lo r.hi d.page r.is (page-fits d.page (omega (arith, each d.page, hit-self d.page))) in
        record {
          names-root = names-root;
          names-index = names-index;
          index = index-at n st 0 r.lo r.hi d r.is k G.few G.size (low-child n st 1 0 (suc top_key) top u k (omega arith)) (λ x. omega (arith, each x)) names-index;
          leaf = page_ok-true leaf_kind c.page (page_of st.image c.page) (under-child n st 0 r.lo r.hi d r.is k).is.page;
          apart = λ x. omega (arith, each x);
          top = λ ne. record { high = refl; root = index-at n st 1 0 (suc top_key) top u k G.few G.size (omega arith) (λ x. omega (arith, each x)) names-root; apart = each };
        }

    pub way-ok : WayOk n st (way_of st.image st.root k)
    way-ok = let r = height-range format1 st.image st.root in go (height_of st.image st.root) r.0 r.1 G.under G.apart
      where
        go : (h : ℕ) → 1 ≤ h → h ≤ tallest → Under format1 st.image h 0 (suc top_key) st.root → ((x : ℕ) → count x (pages_in format1 st.image h st.root) + count x st.free ≤ inside n x) →
            WayOk n st (way_at h st.image st.root k)
        go zero a b u p = absurd (not-suc-le-zero a)
        go (suc zero) a b u p = one-ok u p
        go (suc (suc zero)) a b u p = two-ok u p
        go (suc (suc (suc h))) a b u p = absurd (omega arith)

  -- all index pages can be read
  pub named-all : height_of st.image st.root ≡ 2 → All (λ (q : ℕ). Names st.image q) (names_of st.image st.root)
  unfolding children
  named-all z =
      let u : Under format1 st.image 2 0 (suc top_key) st.root = subst (λ (h : ℕ). Under format1 st.image h 0 (suc top_key) st.root) z G.under in
      let apart : (x : ℕ) → count x (pages_in format1 st.image 2 st.root) + count x st.free ≤ inside n x =
      subst (λ (h : ℕ). (x : ℕ) → count x (pages_in format1 st.image h st.root) + count x st.free ≤ inside n x) z G.apart in
      go 0 (records (page_of st.image st.root)) (suc top_key) u.1.1 (λ x. omega (arith, apart x, pages-at st.image 1 0 (suc top_key) st.root u x))
    where
      f : ℕ → List ℕ
      f q = pages_in format1 st.image 1 q

      go : (lo : ℕ) (cs : List Rec) (hi : ℕ) → Spans (λ a b x. Under format1 st.image 1 a b x) lo cs hi → ((x : ℕ) → count x (joined f cs) ≤ inside n x) →
          All (λ (q : ℕ). Names st.image q) (map child_of cs)
      go lo [] hi s a = tt
      go lo (c ∷ cs) hi s a =
          let q = child_of c in
          let page : 1 ≤ inside n q = omega (arith, a q, count-append q (f q) (joined f cs), pages-at st.image 0 lo (first_key cs hi) q s.0 q, hit-self q) in
          (under-names st.image 0 lo (first_key cs hi) q s.0 (page-fits q page), go (first_key cs hi) cs hi s.1 (λ x. omega (arith, a x, count-append x (f q) (joined f cs))))

pub way-on : {n : ℕ} {st : State} → Good n st → (k : ℕ) (w : Way) → w ≡ way_of st.image st.root k → OnWay n st w
way-on G k w e = record { good = G; key = k; is = e }

pub on-way : {n : ℕ} {st : State} {w : Way} → OnWay n st w → WayOk n st w
on-way {n} {st} o = subst (WayOk n st) (sym o.is) (way-ok o.good o.key)

-- with no free pages it is the same way
pub on-none : {n : ℕ} {st : State} {w : Way} → OnWay n st w → OnWay n (record { image = st.image; root = st.root; free = [] }) w
on-none o = record { good = good_none o.good; key = o.key; is = o.is }

module _ {n : ℕ} {st : State} {w : Way} (o : OnWay n st w) where
  abbrev ok : WayOk n st w
  ok = on-way o

  pub leaf-read : (page_size * w.leaf.page + page_size ≤ length st.image) × (laid_out (page_of st.image w.leaf.page) ≡ true)
  leaf-read = (page-fits o.good w.leaf.page (omega (arith, ok.apart w.leaf.page, hit-self w.leaf.page)), ok.leaf.laid)

  pub leaf-takes : (new : Put) (v : List ℕ) → CanPut (page_of st.image w.leaf.page) new v → CanTake n st w.leaf.page new v
  leaf-takes new v can = record { few = o.good.few; long = o.good.size; apart = λ x. omega (arith, ok.apart x); put = can }

-- ---- what is read of a page above the leaves

module _ {img : List ℕ} {q : ℕ} (N : Names img q) where
  pub names-read : (page_size * q + page_size ≤ length img) × (laid_out (page_of img q) ≡ true)
  names-read = (N.fits, N.laid)

  -- the page x that a key is routed in
  module _ (x : List ℕ) (e : x ≡ page_of img q) (k i : ℕ) (r : i ≡ route k (records x)) where
    same : records x ≡ records (page_of img q)
    same = ap records e

    pub slot-less : i < length (records x)
    slot-less = omega (arith, r, ap (route k) same, ap length same, (routed k 0 (records (page_of img q)) (suc top_key) none (laid-rising (page_of img q) N.laid N.rise) N.some).inside)

    pub slot-two : length (get_or (records x) i (rec_of 0 [])).value ≡ 2
    slot-two = All-at IsEntry (records x) i none (rw same N.entries) slot-less

    pub child-is : (lo low p : ℕ) → low ≡ low_of i lo (get_or (records x) i (rec_of 0 [])).key → p ≡ child_of (get_or (records x) i (rec_of 0 [])) → (s : ℕ) →
        ◌≡◌ {A = Child} (record { slot = i; low = low; page = p }) (child_for img (record { slot = s; low = lo; page = q }) k)
    child-is lo low p f g s =
        let cs = records (page_of img q) in
        let j : i ≡ route k cs = r ∙ ap (route k) same in
        let h : get_or (records x) i none ≡ get_or cs (route k cs) none = ap (λ (l : List Rec). get_or l i none) same ∙ ap (λ (m : ℕ). get_or cs m none) j in
        λ d. record { slot = j d; low = (f ∙ ap (λ (y : Rec). low_of i lo y.key) h ∙ ap (λ (m : ℕ). low_of m lo (get_or cs (route k cs) none).key) j) d; page = (g ∙ ap child_of h) d }

-- ---- the way, by the height that is read

module _ (img : List ℕ) (root k h : ℕ) (high : h ≡ height_of img root) where
  pub index-root : h ≡ 1 → root_place root ≡ (way_of img root k).index
  index-root e = rw (← high, eq-eqb h 1 e)

  pub index-under : (h ≡ 1 → ⊥) → child_for img (root_place root) k ≡ (way_of img root k).index
  index-under n = rw (← high, ne_eqb h 1 n)

  pub way-is : (index : Child) → index ≡ (way_of img root k).index → (leaf : Child) → leaf ≡ child_for img index k →
      ◌≡◌ {A = Way} (record { height = h; index = index; leaf = leaf }) (way_of img root k)
  way-is index e leaf f = λ d. record { height = high d; index = e d; leaf = (f ∙ ap (λ (c : Child). child_for img c k) e) d }
