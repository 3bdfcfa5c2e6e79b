-- Where each key's way is read and its leaf is sound, the whole tree is: each page above the leaves and each leaf is read for some key; and no page is named twice, since a page's
-- kind tells its height, and its keys tell its range.
-- Assumes nothing.
use Rattle.std.specs.Prelude.{Some}
use Prim.Native.Nat.{ℕ, zero, suc, ◌-◌, ◌≤◌, ◌<◌}
use mathlib.Core.Path.{◌≡◌, refl, sym, ap, ◌∙◌, subst}
use mathlib.Core.Logic.{◌⊎◌, inl, inr}
use mathlib.Core.Bool.{Bool, true, false, ◌&&◌, true≢false}
use mathlib.Core.List.{List, [], ◌∷◌, ◌++◌, map, append-nil, append_assoc}
use native.Mathlib.Omega.{arith}
use lib.ListN.{length, length-append}
use lib.Dec.{leb, eqb}
use borrow.Author.Tests.{leb-true, leb-false, eqb-true}
use Rattle.codec.specs.Lists.{All}
use Rattle.codec.proofs.Tests.{first, second, All-map}
use Rattle.page.specs.Layout.{leaf_kind, top_key, Rec, read_head}
use Rattle.page.specs.PageFormat.{format1}
use Rattle.page.specs.Operations.{page_of}
use Rattle.page.proofs.Facts.{page_ok-true}
use Rattle.image.specs.PageZero.{page_count, is_page}
use Rattle.image.specs.Image.{child_of, children, names_of, among, distinct, records_at, joined, gathered, pages_in, leaves_in, height_of, start_of, first_key, top_place, leaf_at, count}
use Rattle.image.specs.Facts.{Rising, Node, Index, Spans, Under, Nonempty, TreeIn}
use Rattle.image.specs.Table.{table_in}
use Rattle.image.specs.Descent.{down, named_by, Way, way_from, way_to, leaf_read, root_read}
use Rattle.image.specs.declared.Place.{Place}
use Rattle.image.proofs.Parts.{some-injective}
use Rattle.image.proofs.General.{map-append, All-append, All-left, All-right}
use Rattle.image.proofs.Rising.{rising_le}
use Rattle.image.proofs.Ranges.{rising-first, first-least, first-most}
use Rattle.image.proofs.Alike.{under-rising}
use Rattle.image.proofs.Times.{count-append, hit_other, distinct_one, count-distinct, distinct-count}
use Rattle.image.proofs.Apart.{among_first, among-right, All-among}
use Rattle.image.proofs.Under.{bound-fine}
use Rattle.image.proofs.Soundness.{node-some, node-rising, leaf-facts}
use Rattle.image.proofs.Belonging.{place_in, down_is, belongs-in, range-in}
use Rattle.image.proofs.InTree.{Full, leaves-many}
use Rattle.image.proofs.Once.{Once, read-as, once-on, once-root}
use Rattle.image.proofs.Ways.{height-in, read-again, way-step, way-end, leaf-way}

-- ---- distinct pages

-- numbers of which f is below m, and others of which it is not
module _ (f : ℕ → ℕ) (m : ℕ) where
  low-none : (x : ℕ) (l : List ℕ) → m ≤ f x → All (λ (q : ℕ). f q < m) l → count x l ≡ 0
  low-none x [] h a = refl
  low-none x (q ∷ l) h a = let r = low-none x l h a.1 in let n = hit_other x q (λ e. let g = ap f e in let b = a.0 in omega (arith, g, b)) in omega (arith, r, n)

  high-none : (x : ℕ) (l : List ℕ) → f x < m → All (λ (q : ℕ). m ≤ f q) l → count x l ≡ 0
  high-none x [] h a = refl
  high-none x (q ∷ l) h a = let r = high-none x l h a.1 in let n = hit_other x q (λ e. let g = ap f e in let b = a.0 in omega (arith, g, b)) in omega (arith, r, n)

  apart-by : (a b : List ℕ) → All (λ (q : ℕ). f q < m) a → All (λ (q : ℕ). m ≤ f q) b → distinct a ≡ true → distinct b ≡ true → distinct (a ++ b) ≡ true
  apart-by a b la lb da db = count-distinct (a ++ b) (λ x. go x (leb m (f x)) refl)
    where
      go : (x : ℕ) (t : Bool) → leb m (f x) ≡ t → count x (a ++ b) ≤ 1
      go x true q = let h = leb-true m (f x) q in let z = low-none x a h la in let d = distinct-count b db x in let e = count-append x a b in omega (arith, z, d, e)
      go x false q = let h = leb-false m (f x) q in let z = high-none x b h lb in let d = distinct-count a da x in let e = count-append x a b in omega (arith, z, d, e)

module _ (img : List ℕ) where
  abbrev kind : ℕ → ℕ
  kind x = (read_head (page_of img x)).kind

  -- the first key under a page, which its kind finds
  abbrev spot : ℕ → ℕ
  spot x = first_key (table_in format1 img (kind x - 1) x) 0

  -- a page under one of height h, whose keys are from lo on and below hi
  record Seen (h lo hi x : ℕ) : Type 0 where
    from : lo ≤ spot x
    below : spot x < hi
    low : kind x ≤ suc h

  -- its kind tells its height
  kind-is : (h lo hi q : ℕ) → Under format1 img h lo hi q → kind q ≡ suc h
  kind-is zero lo hi q u = (page_ok-true (suc zero) q (page_of img q) u.page).kind
  kind-is (suc h) lo hi q u = (page_ok-true (suc (suc h)) q (page_of img q) u.0.page).kind

  table-some : (h lo hi q : ℕ) → Under format1 img h lo hi q → All (Nonempty format1 img) (leaves_in format1 img h q) → 1 ≤ length (table_in format1 img h q)
  unfolding table_in leaves_in gathered
  table-some zero lo hi q u a = a.0
  table-some (suc h) lo hi q u a = go (records_at format1 img q) u.1.0 u.1.1 a (λ x y z v b. table-some h x y z v b)
    where
      go : (cs : List Rec) → 1 ≤ length cs → Spans (λ x y z. Under format1 img h x y z) lo cs hi → All (Nonempty format1 img) (joined (λ x. leaves_in format1 img h x) cs) →
          ((x y z : ℕ) → Under format1 img h x y z → All (Nonempty format1 img) (leaves_in format1 img h z) → 1 ≤ length (table_in format1 img h z)) → 1 ≤ length (joined (λ x. table_in format1 img h x) cs)
      go [] k s b f = absurd (omega arith)
      go (c ∷ cs) k s b f =
          let r = f lo (first_key cs hi) (child_of c) s.0 (All-left (Nonempty format1 img) (leaves_in format1 img h (child_of c)) (joined (λ x. leaves_in format1 img h x) cs) b) in
          omega (arith, r, length-append (table_in format1 img h (child_of c)) (joined (λ x. table_in format1 img h x) cs))

  first-in : (lo : ℕ) (l : List Rec) (hi : ℕ) → Rising lo l hi → 1 ≤ length l → (lo ≤ first_key l 0) × (first_key l 0 < hi)
  first-in lo [] hi r k = absurd (omega arith)
  first-in lo (x ∷ l) hi r k = (r.0, rising_le (suc x.key) l hi r.1)

  itself-seen : (h lo hi q : ℕ) → Under format1 img h lo hi q → All (Nonempty format1 img) (leaves_in format1 img h q) → Seen h lo hi q
  itself-seen h lo hi q u a =
      let e : kind q ≡ suc h = kind-is h lo hi q u in
      let n : kind q - 1 ≡ h = omega arith in
      let i = first-in lo (table_in format1 img h q) hi (under-rising format1 img h lo hi q u) (table-some h lo hi q u a) in
      let s : spot q ≡ first_key (table_in format1 img h q) 0 = ap (λ (x : ℕ). first_key (table_in format1 img x q) 0) n in
      record { from = omega (arith, i.0, s); below = omega (arith, i.1, s); low = omega arith }

  -- a page, and pages of smaller kinds under it
  above-apart : (h q : ℕ) (l : List ℕ) → kind q ≡ suc (suc h) → All (λ (x : ℕ). kind x ≤ suc h) l → distinct l ≡ true → distinct (q ∷ l) ≡ true
  above-apart h q l e a d =
      apart-by (λ (x : ℕ). suc (suc h) - kind x) 1 (q ∷ []) l (omega arith, tt) (All-map (λ (x : ℕ). kind x ≤ suc h) (λ (x : ℕ). 1 ≤ suc (suc h) - kind x) (λ x k. omega arith) l a) (distinct_one q) d

  -- the pages under one are seen, and distinct
  abbrev Fair : ℕ → ℕ → ℕ → List ℕ → Type 0
  Fair h lo hi l = All (Seen h lo hi) l × (distinct l ≡ true)

  wider : (h h' lo lo' hi hi' : ℕ) → h ≤ h' → lo' ≤ lo → hi ≤ hi' → (l : List ℕ) → All (Seen h lo hi) l → All (Seen h' lo' hi') l
  wider h h' lo lo' hi hi' a b c l s = All-map (Seen h lo hi) (Seen h' lo' hi') (λ x t. record { from = omega (arith, t.from); below = omega (arith, t.below); low = omega (arith, t.low) }) l s

  pages-fair : (h lo hi q : ℕ) → Under format1 img h lo hi q → All (Nonempty format1 img) (leaves_in format1 img h q) → Fair h lo hi (pages_in format1 img h q)
  unfolding pages_in leaves_in gathered
  pages-fair zero lo hi q u a = ((itself-seen zero lo hi q u a, tt), distinct_one q)
  pages-fair (suc h) lo hi q u a =
      let f = go lo (records_at format1 img q) u.0.rising u.1.1 a (λ x y z v b. pages-fair h x y z v b) in
      let l = joined (λ x. pages_in format1 img h x) (records_at format1 img q) in (
        (itself-seen (suc h) lo hi q u a, wider h (suc h) lo lo hi hi (omega arith) (omega arith) (omega arith) l f.0),
        above-apart h q l (kind-is (suc h) lo hi q u) (All-map (Seen h lo hi) (λ (x : ℕ). kind x ≤ suc h) (λ x t. t.low) l f.0) f.1,
      )
    where
      go : (lo : ℕ) (cs : List Rec) → Rising lo cs hi → Spans (λ x y z. Under format1 img h x y z) lo cs hi → All (Nonempty format1 img) (joined (λ x. leaves_in format1 img h x) cs) →
          ((x y z : ℕ) → Under format1 img h x y z → All (Nonempty format1 img) (leaves_in format1 img h z) → Fair h x y (pages_in format1 img h z)) → Fair h lo hi (joined (λ x. pages_in format1 img h x) cs)
      go lo [] r s b f = (tt, count-distinct [] (λ x. omega arith))
      go lo (c ∷ cs) r s b f =
          let m = first_key cs hi in
          let A = pages_in format1 img h (child_of c) in
          let B = joined (λ x. pages_in format1 img h x) cs in
          let x = f lo m (child_of c) s.0 (All-left (Nonempty format1 img) (leaves_in format1 img h (child_of c)) (joined (λ x. leaves_in format1 img h x) cs) b) in
          let y = go m cs (rising-first (suc c.key) cs hi r.1) s.1 (All-right (Nonempty format1 img) (leaves_in format1 img h (child_of c)) (joined (λ x. leaves_in format1 img h x) cs) b) f in
          let low : lo ≤ m = omega (arith, r.0, first-least (suc c.key) cs hi r.1) in
          let high : m ≤ hi = first-most (suc c.key) cs hi r.1 in (
            All-append (Seen h lo hi) A B (wider h h lo lo m hi (omega arith) (omega arith) high A x.0) (wider h h m lo hi hi (omega arith) low (omega arith) B y.0),
            apart-by spot m A B (All-map (Seen h lo m) (λ (p : ℕ). spot p < m) (λ p t. t.below) A x.0) (All-map (Seen h m hi) (λ (p : ℕ). m ≤ spot p) (λ p t. t.from) B y.0) x.1 y.1,
          )

  -- over one leaf, a page of each height
  one-leaf : (h lo hi q : ℕ) → Under format1 img h lo hi q → length (leaves_in format1 img h q) ≡ 1 → All (λ (x : ℕ). kind x ≤ suc h) (pages_in format1 img h q) × (distinct (pages_in format1 img h q) ≡ true)
  unfolding pages_in leaves_in gathered
  one-leaf zero lo hi q u e = ((let k = kind-is zero lo hi q u in omega (arith, k), tt), distinct_one q)
  one-leaf (suc h) lo hi q u e =
      let k = kind-is (suc h) lo hi q u in
      let f = go (records_at format1 img q) u.1.0 u.1.1 e (λ x y z v d. one-leaf h x y z v d) in
      let l = joined (λ x. pages_in format1 img h x) (records_at format1 img q) in
      ((omega (arith, k), All-map (λ (x : ℕ). kind x ≤ suc h) (λ (x : ℕ). kind x ≤ suc (suc h)) (λ x t. omega (arith, t)) l f.0), above-apart h q l k f.0 f.1)
    where
      go : (cs : List Rec) → 1 ≤ length cs → Spans (λ x y z. Under format1 img h x y z) lo cs hi → length (joined (λ x. leaves_in format1 img h x) cs) ≡ 1 →
          ((x y z : ℕ) → Under format1 img h x y z → length (leaves_in format1 img h z) ≡ 1 → All (λ (x : ℕ). kind x ≤ suc h) (pages_in format1 img h z) × (distinct (pages_in format1 img h z) ≡ true)) →
          All (λ (x : ℕ). kind x ≤ suc h) (joined (λ x. pages_in format1 img h x) cs) × (distinct (joined (λ x. pages_in format1 img h x) cs) ≡ true)
      go [] k s d f = absurd (omega arith)
      go (c ∷ []) k s d f =
          let r = f lo hi (child_of c) s.0 (ap length (sym (append-nil (leaves_in format1 img h (child_of c)))) ∙ d) in
          subst (λ (l : List ℕ). All (λ (x : ℕ). kind x ≤ suc h) l × (distinct l ≡ true)) (sym (append-nil (pages_in format1 img h (child_of c)))) r
      go (c ∷ e ∷ cs) k s d f = let n = leaves-many img h lo (c ∷ e ∷ cs) hi s in absurd (omega (arith, n, d))

  -- "distinct" follows from the rest of soundness
  pub under-apart : (h lo hi q : ℕ) → Under format1 img h lo hi q → (length (leaves_in format1 img h q) ≡ 1) ⊎ All (Nonempty format1 img) (leaves_in format1 img h q) → distinct (pages_in format1 img h q) ≡ true
  under-apart h lo hi q u (inl e) = (one-leaf h lo hi q u e).1
  under-apart h lo hi q u (inr a) = (pages-fair h lo hi q u a).1

-- ---- the tree, from what is read of it

-- a page after one starts at its separator
pub start-past : (before : List Rec) (c : Rec) (lo sep : ℕ) → start_of (before ++ c ∷ []) lo sep ≡ sep
start-past [] c lo sep = refl
start-past (b ∷ before) c lo sep = refl

module _ (img : List ℕ) (root : ℕ) where
  -- the way of k down from the page at p, and its leaf, are sound
  abbrev Good : ℕ → ℕ → Bool → Place → List ℕ → Type 0
  Good k h only p nodes = (w : Way) × (way_from img root k h only p nodes ≡ Some w) × (leaf_at img w.only w.leaf ≡ true)

  abbrev P : ℕ → Type 0
  P q = is_page (page_count img) q ≡ true

  -- what is known of the page x then
  record Whole (h : ℕ) (only : Bool) (lo hi x : ℕ) : Type 0 where
    under : Under format1 img h lo hi x
    full : Full img h only x
    inside : All P (pages_in format1 img h x)

  abbrev Reach : ℕ → Bool → List ℕ → Place → Type 0
  Reach h only nodes p = (p.from < p.below) × P p.page × Once img root nodes p.page × ((k : ℕ) → p.from ≤ k → k < p.below → Good k h only p nodes)

  module _ (h : ℕ) (only : Bool) (p : Place) (names ns : List ℕ) (order : p.from < p.below) (inside : P p.page) (n : Node img (suc h) names p) where
    abbrev one : Bool
    one = only && eqb (length (children img p.page)) 1

    abbrev cs : List Rec
    cs = children img p.page

    abbrev W : ℕ → ℕ → ℕ → Type 0
    W a b x = Whole h one a b x

    seps : Rising p.from (children img p.page) p.below
    seps = node-rising img (suc h) names p n

    module _ (inv : (x : ℕ) → among x (names_of img p.page) ≡ true → Once img root ns x) (good : (k : ℕ) → p.from ≤ k → k < p.below → Good k h one (down img k p) ns)
        (rest : (q : Place) → Reach h one ns q → Whole h one q.from q.below q.page) where
      child : (before : List Rec) (c : Rec) (later : List Rec) → children img p.page ≡ before ++ c ∷ later → Whole h one (start_of before p.from c.key) (first_key later p.below) (child_of c)
      child before c later shape =
          let q = place_in p.from before c later p.below in
          let t = range-in p.from before c later p.below (subst (λ (l : List Rec). Rising p.from l p.below) shape seps) in
          let named : among (child_of c) (names_of img p.page) ≡ true =
          ap (λ (l : List Rec). among (child_of c) (map child_of l)) shape ∙ ap (among (child_of c)) (map-append child_of before (c ∷ later)) ∙ among-right (child_of c) (map child_of before) (child_of c ∷ map child_of later) (among_first (child_of c) (map child_of later)) in
          rest q (
            t.1,
            All-among P (names_of img p.page) n.inside (child_of c) named,
            inv (child_of c) named,
            λ k low high. subst (λ (x : Place). Good k h one x ns) (down_is img k p (belongs-in k p.from (children img p.page) before c later p.below seps shape low high)) (good k (omega (arith, t.0)) (omega (arith, t.2))),
          )

      abbrev Starts : List Rec → List Rec → ℕ → Type 0
      Starts before [] lo = Unit {0}
      Starts before (c ∷ l) lo = start_of before p.from c.key ≡ lo

      next-starts : (before : List Rec) (c : Rec) (l : List Rec) → Starts (before ++ c ∷ []) l (first_key l p.below)
      next-starts before c [] = tt
      next-starts before c (d ∷ l) = start-past before c p.from d.key

      wholes : (before l : List Rec) → children img p.page ≡ before ++ l → (lo : ℕ) → Starts before l lo → Spans W lo l p.below
      wholes before [] shape lo s = tt
      wholes before (c ∷ l) shape lo s = (
        subst (λ (m : ℕ). Whole h one m (first_key l p.below) (child_of c)) s (child before c l shape),
        wholes (before ++ c ∷ []) l (shape ∙ sym (append_assoc before (c ∷ []) l)) (first_key l p.below) (next-starts before c l),
      )

      first-starts : (l : List Rec) → Starts [] l p.from
      first-starts [] = tt
      first-starts (c ∷ l) = refl

      spans : Spans W p.from (children img p.page) p.below
      spans = wholes [] (children img p.page) refl p.from (first-starts (children img p.page))

      unders : (lo : ℕ) (l : List Rec) → Spans W lo l p.below → Spans (λ a b x. Under format1 img h a b x) lo l p.below
      unders lo [] s = tt
      unders lo (c ∷ l) s = (s.0.under, unders (first_key l p.below) l s.1)

      insides : (lo : ℕ) (l : List Rec) → Spans W lo l p.below → All P (joined (λ x. pages_in format1 img h x) l)
      insides lo [] s = tt
      insides lo (c ∷ l) s = All-append P (pages_in format1 img h (child_of c)) (joined (λ x. pages_in format1 img h x) l) s.0.inside (insides (first_key l p.below) l s.1)

      alls : one ≡ false → (lo : ℕ) (l : List Rec) → Spans W lo l p.below → All (Nonempty format1 img) (joined (λ x. leaves_in format1 img h x) l)
      alls e lo [] s = tt
      alls e lo (c ∷ l) s =
          All-append (Nonempty format1 img) (leaves_in format1 img h (child_of c)) (joined (λ x. leaves_in format1 img h x) l) (go s.0.full) (alls e (first_key l p.below) l s.1)
        where
          go : Full img h one (child_of c) → All (Nonempty format1 img) (leaves_in format1 img h (child_of c))
          go (inl x) = absurd (true≢false (sym x.0 ∙ e))
          go (inr x) = x

      fulls : (t : Bool) → one ≡ t → (lo : ℕ) (l : List Rec) → (t ≡ true → length l ≡ 1) → Spans W lo l p.below →
          ((only ≡ true) × (length (joined (λ x. leaves_in format1 img h x) l) ≡ 1)) ⊎ All (Nonempty format1 img) (joined (λ x. leaves_in format1 img h x) l)
      fulls false e lo l k s = inr (alls e lo l s)
      fulls true e lo [] k s = inr tt
      fulls true e lo (c ∷ []) k s = go s.0.full
        where
          same : leaves_in format1 img h (child_of c) ++ [] ≡ leaves_in format1 img h (child_of c)
          same = append-nil (leaves_in format1 img h (child_of c))

          go : Full img h one (child_of c) →
              ((only ≡ true) × (length (leaves_in format1 img h (child_of c) ++ []) ≡ 1)) ⊎ All (Nonempty format1 img) (leaves_in format1 img h (child_of c) ++ [])
          go (inl x) = inl (first only (eqb (length (children img p.page)) 1) e, ap length same ∙ x.1)
          go (inr x) = inr (subst (λ (m : List ℕ). All (Nonempty format1 img) m) (sym same) x)
      fulls true e lo (c ∷ d ∷ l) k s = let n = k refl in absurd (omega arith)

      whole : Whole (suc h) only p.from p.below p.page
      unfolding children pages_in leaves_in gathered
      whole =
          record {
            under = (bound-fine format1 (suc (suc h)) false p.from p.below p.page (page_of img p.page) n.bound, (node-some img (suc h) names p n, unders p.from (children img p.page) spans));
            full = fulls one refl p.from (children img p.page) (λ e. eqb-true (length (children img p.page)) 1 (second only (eqb (length (children img p.page)) 1) e)) spans;
            inside = (inside, insides p.from (children img p.page) spans);
          }

  -- ---- below the root

  below : (h : ℕ) (only : Bool) (nodes : List ℕ) (p : Place) → Reach h only nodes p → Whole h only p.from p.below p.page
  unfolding pages_in leaves_in gathered leaf_at
  below zero only nodes p (order, inside, inv, good) =
      let g = good p.from (omega arith) order in
      let w = g.0 in
      let e = way-end img root p.from only p nodes w g.1 in
      let t : leaf_at img only p ≡ true = ap (λ (x : Way). leaf_at img x.only x.leaf) (sym e) ∙ g.2 in
      let l = leaf-facts only p.from p.below p.page (page_of img p.page) (omega arith) t in
      record { under = bound-fine format1 leaf_kind only p.from p.below p.page (page_of img p.page) l; full = some l.filled; inside = (inside, tt) }
    where
      some : (only ≡ true) ⊎ (1 ≤ length (records_at format1 img p.page)) → Full img zero only p.page
      some (inl x) = inl (x, refl)
      some (inr x) = inr (x, tt)
  below (suc h) only nodes p (order, inside, inv, good) = whole h only p (named_by img root nodes) ns order inside n keep on (λ q r. below h one ns q r)
    where
      one : Bool
      one = only && eqb (length (children img p.page)) 1

      ns : List ℕ
      ns = p.page ∷ nodes

      n : Node img (suc h) (named_by img root nodes) p
      n =
          let g = good p.from (omega arith) order in
          let s = way-step img root p.from h only p nodes g.0 g.1 in
          (read-as img root h p nodes s.nodes' inv.new s.read).0

      keep : (x : ℕ) → among x (names_of img p.page) ≡ true → Once img root (p.page ∷ nodes) x
      keep = once-on img root h p nodes inv n

      on : (k : ℕ) → p.from ≤ k → k < p.below → Good k h (only && eqb (length (children img p.page)) 1) (down img k p) (p.page ∷ nodes)
      on k low high =
          let g = good k low high in
          let s = way-step img root k h only p nodes g.0 g.1 in
          let e = (read-as img root h p nodes s.nodes' inv.new s.read).1 in
          (g.0, ap (λ (l : List ℕ). way_from img root k h one (down img k p) l) (sym e) ∙ s.on, g.2)

  -- ---- the root

  pub from-reads : Index img root → P root → ((k : ℕ) → (w : Way) × (leaf_read img root (root_read root) k ≡ Some w)) → TreeIn format1 img (height_of img root) root
  unfolding way_to top_place
  from-reads i inside r =
      let w = from-root (height_of img root) (height-in img root).0 i (λ k. good k) in
      record { under = w.under; filled = some w.full; inside = w.inside; apart = under-apart img (height_of img root) 0 (suc top_key) root w.under (some w.full) }
    where
      good : (k : ℕ) → Good k (height_of img root) true (top_place root) (root ∷ [])
      good k = let x = r k in let y = leaf-way img root k (root ∷ []) x.0 x.1 in (x.0, y.0, y.1)

      some : Full img (height_of img root) true root → (length (leaves_in format1 img (height_of img root) root) ≡ 1) ⊎ All (Nonempty format1 img) (leaves_in format1 img (height_of img root) root)
      some (inl x) = inl x.1
      some (inr x) = inr x

      from-root : (h : ℕ) → 1 ≤ h → Node img h (root ∷ []) (top_place root) → ((k : ℕ) → Good k h true (top_place root) (root ∷ [])) → Whole h true 0 (suc top_key) root
      from-root zero q n g = absurd (omega arith)
      from-root (suc h) q n g = whole h true p ns ns (omega arith) inside n keep on (λ q r. below h one ns q r)
        where
          p : Place
          p = top_place root

          ns : List ℕ
          ns = root ∷ []

          one : Bool
          one = true && eqb (length (children img root)) 1

          keep : (x : ℕ) → among x (names_of img root) ≡ true → Once img root (root ∷ []) x
          keep = once-root img root n.apart

          on : (k : ℕ) → 0 ≤ k → k < suc top_key → Good k h (true && eqb (length (children img root)) 1) (down img k (top_place root)) (root ∷ [])
          on k low high =
              let w = g k in
              let s = way-step img root k h true p ns w.0 w.1 in
              let e : s.nodes' ≡ ns = some-injective s.nodes' ns (sym s.read ∙ read-again img root (suc h) p ns (among_first root [])) in
              (w.0, ap (λ (l : List ℕ). way_from img root k h one (down img k p) l) (sym e) ∙ s.on, w.2)
