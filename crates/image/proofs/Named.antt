-- In a tree, the pages above the leaves that a call has read name distinct pages, whichever they are: how often a number is named, counted.
-- Assumes nothing.
use Prim.Native.Nat.{ℕ, zero, suc, ◌+◌, ◌≤◌}
use mathlib.Core.Path.{◌≡◌, refl, sym, ap}
use mathlib.Core.Bool.{Bool, true, false}
use mathlib.Core.List.{List, [], ◌∷◌, ◌++◌, map}
use native.Mathlib.Omega.{arith}
use lib.Dec.{eqb}
use borrow.Author.Tests.{eqb-true, eqb-false}
use Rattle.page.specs.Layout.{Rec}
use Rattle.page.specs.PageFormat.{format1}
use Rattle.image.specs.Image.{child_of, children, names_of, among, distinct, hit, count, records_at, joined, gathered, itself, pages_in}
use Rattle.image.specs.Descent.{named_by}
use Rattle.image.proofs.Times.{hit-self, hit_other, hit-most, count-append, among_none, distinct-count, count-distinct}

-- ---- what is said of each number of a list, added up

abbrev sum : (ℕ → ℕ) → List ℕ → ℕ
sum f [] = 0
sum f (q ∷ qs) = f q + sum f qs

sum-append : (f : ℕ → ℕ) (a b : List ℕ) → sum f (a ++ b) ≡ sum f a + sum f b
sum-append f [] b = omega arith
sum-append f (q ∷ a) b = let e = sum-append f a b in omega (arith, e)

-- a number taken out of a list
record Out (q : ℕ) (l : List ℕ) : Type 0 where
  rest : List ℕ
  times : (x : ℕ) → count x l ≡ hit x q + count x rest
  all : (f : ℕ → ℕ) → sum f l ≡ f q + sum f rest

out : (q : ℕ) (l : List ℕ) → 1 ≤ count q l → Out q l
out q [] h = absurd (omega arith)
out q (p ∷ l) h = go (eqb q p) refl h (out q l)
  where
    go : (t : Bool) → eqb q p ≡ t → 1 ≤ hit q p + count q l → (1 ≤ count q l → Out q l) → Out q (p ∷ l)
    go true e k g = let s = eqb-true q p e in record { rest = l; times = λ x. ap (λ (y : ℕ). hit x y + count x l) (sym s); all = λ f. ap (λ (y : ℕ). f y + sum f l) (sym s) }
    go false e k g =
        let o = g (omega (arith, k, hit_other q p (eqb-false q p e))) in
        record { rest = p ∷ o.rest; times = λ x. let t = o.times x in omega (arith, t); all = λ f. let t = o.all f in omega (arith, t) }

-- the numbers of a stand in b as often at least
sum-least : (f : ℕ → ℕ) (a b : List ℕ) → ((x : ℕ) → count x a ≤ count x b) → sum f a ≤ sum f b
sum-least f [] b h = omega arith
sum-least f (q ∷ a) b h =
    let o = out q b (let t = h q in let s = hit-self q in omega (arith, t, s)) in
    let r = sum-least f a o.rest (λ x. let t = h x in let u = o.times x in omega (arith, t, u)) in
    let e = o.all f in
    omega (arith, r, e)

-- ---- in a tree

module _ (img : List ℕ) where
  -- the pages above the leaves, under page q of height h
  unfoldable pub uppers : ℕ → ℕ → List ℕ
  uppers h q = gathered format1 (λ x. []) itself img h q

  abbrev named_in : ℕ → ℕ → ℕ
  named_in x q = count x (names_of img q)

  -- each page under a page is named once
  pub pages-named : (x h q : ℕ) → count x (pages_in format1 img h q) ≡ hit x q + sum (named_in x) (uppers h q)
  unfolding pages_in gathered uppers children
  pages-named x zero q = refl
  pages-named x (suc h) q = let e = go (records_at format1 img q) (pages-named x h) in omega (arith, e)
    where
      go : (cs : List Rec) → ((y : ℕ) → count x (pages_in format1 img h y) ≡ hit x y + sum (named_in x) (uppers h y)) →
          count x (joined (λ y. pages_in format1 img h y) cs) ≡ count x (map child_of cs) + sum (named_in x) (joined (λ y. uppers h y) cs)
      go [] f = refl
      go (c ∷ cs) f =
          let e = count-append x (pages_in format1 img h (child_of c)) (joined (λ y. pages_in format1 img h y) cs) in
          let s = sum-append (named_in x) (uppers h (child_of c)) (joined (λ y. uppers h y) cs) in
          let a = f (child_of c) in
          let r = go cs f in
          omega (arith, e, s, a, r)

  named-sum : (root x : ℕ) (nodes : List ℕ) → count x (named_by img root nodes) ≡ sum (named_in x) nodes + hit x root
  unfolding named_by
  named-sum root x [] = omega arith
  named-sum root x (q ∷ qs) = let e = count-append x (names_of img q) (named_by img root qs) in let r = named-sum root x qs in omega (arith, e, r)

  module _ (h root : ℕ) where
    -- pages above the leaves, each once
    abbrev pub Some-read : List ℕ → Type 0
    Some-read nodes = (x : ℕ) → count x nodes ≤ count x (uppers h root)

    pub named-apart : distinct (pages_in format1 img h root) ≡ true → (nodes : List ℕ) → Some-read nodes → distinct (named_by img root nodes) ≡ true
    named-apart d nodes r =
        count-distinct (named_by img root nodes)
        (λ x.
        let a = named-sum root x nodes in
        let b = pages-named x h root in
        let c = distinct-count (pages_in format1 img h root) d x in
        let l = sum-least (named_in x) nodes (uppers h root) r in
        omega (arith, a, b, c, l))

    pub read-more : (q : ℕ) (nodes : List ℕ) → 1 ≤ count q (uppers h root) → among q nodes ≡ false → Some-read nodes → Some-read (q ∷ nodes)
    read-more q nodes k a r x = go (eqb x q) refl
      where
        go : (t : Bool) → eqb x q ≡ t → hit x q + count x nodes ≤ count x (uppers h root)
        go true e = let z = among_none q nodes a in let m = hit-most x q in let s = eqb-true x q e in let u = ap (λ (y : ℕ). count y nodes) s in let v = ap (λ (y : ℕ). count y (uppers h root)) s in omega (arith, z, m, u, v, k)
        go false e = omega (arith, hit_other x q (eqb-false x q e), r x)

    pub root_some : 1 ≤ h → Some-read (root ∷ [])
    unfolding uppers gathered
    root_some k x = go h k
      where
        go : (n : ℕ) → 1 ≤ n → hit x root + 0 ≤ count x (uppers n root)
        go zero q = absurd (omega arith)
        go (suc n) q = omega arith
