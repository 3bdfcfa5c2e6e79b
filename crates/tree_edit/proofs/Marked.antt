-- Marks of the pages under a root: those that a page names, page by page.
-- Assumes nothing.
use Prim.Native.Nat.{ℕ, zero, suc, ◌+◌, ◌≤◌, ◌<◌}
use mathlib.Core.Path.{◌≡◌, refl, sym, ap, ◌∙◌, subst}
use mathlib.Core.Bool.{Bool, true, false, ◌||◌, or-false}
use mathlib.Core.List.{List, [], ◌∷◌, ◌++◌, map}
use native.Mathlib.Omega.{arith}
use native.Mathlib.Nat.{not-suc-le-zero}
use lib.ListN.{length, get_or, drop, set, length-set, replicate, length-replicate, drop_of_length-le}
use lib.Seq.{get_or-set_same, get_or-set_other}
use lib.Dec.{eqb}
use borrow.Author.Tests.{eqb-true, eqb-false}
use Rattle.codec.specs.Lists.{All}
use Rattle.codec.proofs.Tests.{All-map}
use Rattle.page.specs.Layout.{Rec, rec_of}
use Rattle.page.specs.Page.{records}
use Rattle.page.specs.Operations.{page_of}
use Rattle.page.specs.PageFormat.{format1}
use Rattle.page.proofs.Listed.{All-at}
use Rattle.image.specs.PageZero.{is_page}
use Rattle.image.specs.Image.{child_of, children, among, joined, gathered, pages_in, reached, height_of, IsEntry, tallest}
use Rattle.image.proofs.General.{All-left, All-right}
use Rattle.image.proofs.Zero.{is_page-true}
use Rattle.image.proofs.CodePages.{drop-next}
use Rattle.tree.specs.State.{State}
use Rattle.tree.specs.Good.{Good}
use Rattle.tree.proofs.Counts.{inside-pages}
use Rattle.tree.proofs.Height.{height-range}
use Rattle.tree_edit.specs.Steps.{is_marked, Marks, marked}
use Rattle.tree_edit.specs.Asked.{Names, CanMark}
use Rattle.tree_edit.proofs.Places.{way-ok, named-all}

-- ---- pages marked

unmarked-zeros : (m p : ℕ) → is_marked (replicate m 0) p ≡ false
unmarked-zeros zero p = refl
unmarked-zeros (suc m) zero = refl
unmarked-zeros (suc m) (suc p) = unmarked-zeros m p

marked-set : (marks : List ℕ) (q : ℕ) → q < length marks → (p : ℕ) → is_marked (set marks q 1) p ≡ (eqb p q || is_marked marks p)
marked-set marks q h p = go (eqb p q) refl
  where
    go : (b : Bool) → eqb p q ≡ b → is_marked (set marks q 1) p ≡ (b || is_marked marks p)
    go true e = rw (eqb-true p q e, get_or-set_same marks q 1 0 h)
    go false e = rw (get_or-set_other marks q p 1 0 (eqb-false p q e))

or_swap : (a b c : Bool) → (a || (b || c)) ≡ ((b || a) || c)
or_swap true true c = refl
or_swap true false c = refl
or_swap false true c = refl
or_swap false false c = refl

marked-is : (rs marks : List ℕ) → All (λ (p : ℕ). p < length marks) rs → (p : ℕ) → is_marked (marked rs marks) p ≡ (among p rs || is_marked marks p)
unfolding marked among
marked-is [] marks a p = refl
marked-is (q ∷ rs) marks a p =
    let small : All (λ (x : ℕ). x < length (set marks q 1)) rs = All-map (λ (x : ℕ). x < length marks) (λ (x : ℕ). x < length (set marks q 1)) (λ x h. simp length-set h) rs a.1 in
    marked-is rs (set marks q 1) small p
    ∙ ap (λ (b : Bool). among p rs || b) (marked-set marks q a.0 p)
    ∙ or_swap (among p rs) (eqb p q) (is_marked marks p)

marked-length : (rs marks : List ℕ) → length (marked rs marks) ≡ length marks
unfolding marked
marked-length [] marks = refl
marked-length (q ∷ rs) marks = marked-length rs (set marks q 1) ∙ length-set marks q 1

-- marks are 1 or 0
zeros-most : (n p : ℕ) → get_or {A = ℕ} (replicate n 0) p 0 ≤ 1
zeros-most zero p = omega arith
zeros-most (suc n) zero = omega arith
zeros-most (suc n) (suc p) = zeros-most n p

ones-set : (marks : List ℕ) (q : ℕ) → ((p : ℕ) → get_or marks p 0 ≤ 1) → (p : ℕ) → get_or (set marks q 1) p 0 ≤ 1
ones-set [] q h p = h p
ones-set (m ∷ marks) zero h zero = omega arith
ones-set (m ∷ marks) zero h (suc p) = h (suc p)
ones-set (m ∷ marks) (suc q) h zero = h zero
ones-set (m ∷ marks) (suc q) h (suc p) = ones-set marks q (λ r. h (suc r)) p

marked-most : (rs marks : List ℕ) → ((p : ℕ) → get_or marks p 0 ≤ 1) → (p : ℕ) → get_or (marked rs marks) p 0 ≤ 1
unfolding marked
marked-most [] marks h p = h p
marked-most (q ∷ rs) marks h p = marked-most rs (set marks q 1) (ones-set marks q h) p

marked-append : (a b marks : List ℕ) → marked (a ++ b) marks ≡ marked b (marked a marks)
unfolding marked
marked-append [] b marks = refl
marked-append (p ∷ a) b marks = marked-append a b (set marks p 1)

-- of all pages rs, from no marks on
module _ (rs : List ℕ) (small : All (λ (p : ℕ). p < 64) rs) (m : List ℕ) (made : m ≡ marked rs (replicate 64 0)) where
  pub marks-all : Marks m rs
  marks-all p =
      let wide : All (λ (x : ℕ). x < length {A = ℕ} (replicate 64 0)) rs = All-map (λ (x : ℕ). x < 64) (λ (x : ℕ). x < length {A = ℕ} (replicate 64 0)) (λ x h. simp length-replicate h) rs small in
      ap (λ (l : List ℕ). is_marked l p) made
      ∙ marked-is rs (replicate 64 0) wide p
      ∙ ap (λ (b : Bool). among p rs || b) (unmarked-zeros 64 p)
      ∙ or-false (among p rs)

  pub marks-most : ((p : ℕ) → get_or m p 0 ≤ 1) × (length m ≡ 64)
  marks-most = (
    λ p. subst (λ (l : List ℕ). get_or l p 0 ≤ 1) (sym made) (marked-most rs (replicate 64 0) (zeros-most 64) p),
    ap length made ∙ marked-length rs (replicate 64 0) ∙ length-replicate {A = ℕ} 64 0,
  )

-- ---- a page above the leaves and the pages that it names

pages-one : (img : List ℕ) (q : ℕ) → pages_in format1 img 1 q ≡ q ∷ map child_of (records (page_of img q))
unfolding pages_in gathered
pages-one img q = ap (λ (l : List ℕ). q ∷ l) (go (records (page_of img q)))
  where
    go : (cs : List Rec) → joined (λ x. pages_in format1 img 0 x) cs ≡ map child_of cs
    go [] = refl
    go (c ∷ cs) = ap (λ (l : List ℕ). child_of c ∷ l) (go cs)

all-named : (P : ℕ → Type 0) (cs : List Rec) (i : ℕ) → i < length cs → All P (map child_of cs) → P (child_of (get_or cs i (rec_of 0 [])))
all-named P [] i h a = absurd (not-suc-le-zero h)
all-named P (c ∷ cs) zero h a = a.0
all-named P (c ∷ cs) (suc i) h a = all-named P cs i (omega arith) a.1

module _ (img : List ℕ) (q : ℕ) (N : Names img q) (small : All (λ (p : ℕ). p < 64) (pages_in format1 img 1 q)) (x : List ℕ) (e : x ≡ page_of img q) where
  same : records x ≡ records (page_of img q)
  same = ap records e

  low : All (λ (p : ℕ). p < 64) (q ∷ map child_of (records x))
  low = rw same (subst (All (λ (p : ℕ). p < 64)) (pages-one img q) small)

  pub page-low : q < 64
  page-low = low.0

  pub mark-first : (marks : List ℕ) → marked (map child_of (drop 0 (records x))) (set marks q 1) ≡ marked (pages_in format1 img 1 q) marks
  unfolding marked
  mark-first marks = ap (λ (l : List ℕ). marked l marks) (ap (λ (cs : List Rec). q ∷ map child_of cs) same ∙ sym (pages-one img q))

  module _ (i : ℕ) (less : i < length (records x)) where
    pub named-two : length (get_or (records x) i (rec_of 0 [])).value ≡ 2
    named-two = All-at IsEntry (records x) i (rec_of 0 []) (rw same N.entries) less

    module _ (p : ℕ) (z : p ≡ child_of (get_or (records x) i (rec_of 0 []))) where
      pub named-low : p < 64
      named-low = omega (arith, z, all-named (λ (y : ℕ). y < 64) (records x) i less low.1)

      pub mark-next : (marks : List ℕ) → marked (map child_of (drop (i + 1) (records x))) (set marks p 1) ≡ marked (map child_of (drop i (records x))) marks
      unfolding marked
      mark-next marks =
          ap (λ (y : ℕ). marked (map child_of (drop (i + 1) (records x))) (set marks y 1)) z
          ∙ sym (ap (λ (cs : List Rec). marked (map child_of cs) marks) (drop-next (records x) i (rec_of 0 []) less))

  pub mark-last : (marks : List ℕ) (i : ℕ) → length (records x) ≤ i → marks ≡ marked (map child_of (drop i (records x))) marks
  unfolding marked
  mark-last marks i h = sym (ap (λ (cs : List Rec). marked (map child_of cs) marks) (drop_of_length-le (records x) {i = i} h))

-- ---- all pages under a root

module _ (img : List ℕ) (root : ℕ) (can : CanMark img root) (h : ℕ) (high : h ≡ height_of img root) where
  reached-one : h ≡ 1 → pages_in format1 img 1 root ≡ reached img root
  unfolding reached
  reached-one e = ap (λ (m : ℕ). pages_in format1 img m root) (sym e ∙ high)

  pub one-small : h ≡ 1 → All (λ (p : ℕ). p < 64) (pages_in format1 img 1 root)
  one-small e = subst (All (λ (p : ℕ). p < 64)) (sym (reached-one e)) can.small

  pub one-marked : h ≡ 1 → (m : List ℕ) → m ≡ marked (pages_in format1 img 1 root) (replicate 64 0) → m ≡ marked (reached img root) (replicate 64 0)
  one-marked e m z = z ∙ ap (λ (l : List ℕ). marked l (replicate 64 0)) (reached-one e)

  module _ (other : h ≡ 1 → ⊥) where
    is-two : height_of img root ≡ 2
    is-two = let r = height-range format1 img root in go (height_of img root) r.0 r.1 (λ z. other (high ∙ z))
      where
        go : (m : ℕ) → 1 ≤ m → m ≤ tallest → (m ≡ 1 → ⊥) → m ≡ 2
        go zero a b n = absurd (not-suc-le-zero a)
        go (suc zero) a b n = absurd (n refl)
        go (suc (suc zero)) a b n = refl
        go (suc (suc (suc m))) a b n = absurd (omega arith)

    -- the pages under the top page, read as x
    module _ (x : List ℕ) (e : x ≡ page_of img root) where
      abbrev f : ℕ → List ℕ
      f = λ y. pages_in format1 img 1 y

      reached-two : root ∷ joined (λ y. pages_in format1 img 1 y) (records x) ≡ reached img root
      unfolding reached pages_in gathered
      reached-two = ap (λ (p : List ℕ). root ∷ joined f (records p)) e ∙ ap (λ (m : ℕ). pages_in format1 img m root) (sym is-two)

      all-small : All (λ (p : ℕ). p < 64) (root ∷ joined (λ y. pages_in format1 img 1 y) (records x))
      all-small = subst (All (λ (p : ℕ). p < 64)) (sym reached-two) can.small

      pub root-low : root < 64
      root-low = all-small.0

      pub top-first : marked (joined (λ y. pages_in format1 img 1 y) (drop 0 (records x))) (set (replicate 64 0) root 1) ≡ marked (reached img root) (replicate 64 0)
      unfolding marked
      top-first = ap (λ (l : List ℕ). marked l (replicate 64 0)) reached-two

      -- the i-th
      module _ (i : ℕ) (less : i < length (records x)) where
        pub index-two : length (get_or (records x) i (rec_of 0 [])).value ≡ 2
        index-two = All-at IsEntry (records x) i (rec_of 0 []) (subst (λ (p : List ℕ). All IsEntry (records p)) (sym e) can.top.entries) less

        module _ (q : ℕ) (z : q ≡ child_of (get_or (records x) i (rec_of 0 []))) where
          pub index-names : Names img q
          unfolding children
          index-names = subst (λ (y : ℕ). Names img y) (sym z) (all-named (λ (y : ℕ). Names img y) (records x) i less (subst (λ (p : List ℕ). All (λ (y : ℕ). Names img y) (map child_of (records p))) (sym e) (can.index is-two)))

          pub index-small : All (λ (p : ℕ). p < 64) (pages_in format1 img 1 q)
          index-small = subst (λ (y : ℕ). All (λ (p : ℕ). p < 64) (f y)) (sym z) (go (records x) i less all-small.1)
            where
              go : (cs : List Rec) (i : ℕ) → i < length cs → All (λ (p : ℕ). p < 64) (joined f cs) → All (λ (p : ℕ). p < 64) (f (child_of (get_or cs i (rec_of 0 []))))
              go [] i h a = absurd (not-suc-le-zero h)
              go (c ∷ cs) zero h a = All-left (λ (p : ℕ). p < 64) (f (child_of c)) (joined f cs) a
              go (c ∷ cs) (suc i) h a = go cs i (omega arith) (All-right (λ (p : ℕ). p < 64) (f (child_of c)) (joined f cs) a)

          pub top-next : (marks m : List ℕ) → m ≡ marked (pages_in format1 img 1 q) marks →
              marked (joined (λ y. pages_in format1 img 1 y) (drop (i + 1) (records x))) m ≡ marked (joined (λ y. pages_in format1 img 1 y) (drop i (records x))) marks
          top-next marks m made =
              let rest = joined f (drop (i + 1) (records x)) in
              ap (marked rest) (made ∙ ap (λ (y : ℕ). marked (f y) marks) z)
              ∙ sym (marked-append (f (child_of (get_or (records x) i (rec_of 0 [])))) rest marks)
              ∙ sym (ap (λ (cs : List Rec). marked (joined f cs) marks) (drop-next (records x) i (rec_of 0 []) less))

      pub top-last : (marks : List ℕ) (i : ℕ) → length (records x) ≤ i → marked (joined (λ y. pages_in format1 img 1 y) (drop i (records x))) marks ≡ marked (reached img root) (replicate 64 0) →
          marks ≡ marked (reached img root) (replicate 64 0)
      unfolding marked
      top-last marks i h m = sym (ap (λ (cs : List Rec). marked (joined f cs) marks) (drop_of_length-le (records x) {i = i} h)) ∙ m

-- ---- in a sound tree

pub good-marks : (n : ℕ) (st : State) → Good n st → CanMark st.image st.root
unfolding reached
good-marks n st G =
    record {
      top = (way-ok G 0).names-root;
      index = λ z. named-all G z;
      small =
          All-map (λ (p : ℕ). is_page n p ≡ true) (λ (p : ℕ). p < 64) (λ p h. omega (arith, is_page-true n p h, G.few)) (reached st.image st.root)
          (inside-pages n (reached st.image st.root) (λ x. omega (arith, G.apart x)));
    }
