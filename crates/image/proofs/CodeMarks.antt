-- Distinct pages by marks: a page is marked when it is named, and none that is marked is named again.
-- Assumes nothing.
use Prim.Native.Nat.{ℕ, zero, suc, ◌+◌, ◌≤◌, ◌<◌}
use mathlib.Core.Path.{◌≡◌, refl, sym, ap, ◌∙◌}
use mathlib.Core.Bool.{Bool, true, false, ◌&&◌, ◌||◌, not}
use mathlib.Core.List.{List, [], ◌∷◌, ◌++◌, map}
use native.Mathlib.Omega.{arith}
use lib.ListN.{length, get_or, drop, set, replicate, length-set, drop_of_length-le}
use lib.Seq.{get_or-set_same, get_or-set_other}
use lib.Dec.{ltb, eqb}
use borrow.Author.Tests.{ltb-true, ltb-false, lt-ltb, le-ltb, eqb-true, eqb-false, eq-eqb, ne_eqb}
use Rattle.codec.specs.Lists.{all_b, All}
use Rattle.codec.proofs.Tests.{both, first, second, all_b-true, true-all_b}
use Rattle.page.specs.Layout.{Rec}
use Rattle.page.proofs.CheckBytes.{same_test}
use Rattle.image.specs.PageZero.{is_page}
use Rattle.image.specs.Image.{child_of, among, distinct, count}
use Rattle.image.specs.Marks.{claims, claimed, Named}
use Rattle.image.proofs.General.{zeros-at}
use Rattle.image.proofs.Zero.{is_page-true, true-is_page}
use Rattle.image.proofs.Times.{count-append, among-count, hit-self, distinct-count, among-alike, distinct-alike}
use Rattle.image.proofs.CodePages.{drop-next}

-- ---- one page more

module _ (n : ℕ) (marks : List ℕ) (p : ℕ) (ps : List ℕ) where
  pub claims-on : p < n → get_or marks p 0 ≡ 0 → claims n marks (p ∷ ps) ≡ claims n (set marks p 1) ps
  unfolding claims
  claims-on h e = rw (lt-ltb p n h, eq-eqb (get_or marks p 0) 0 e)

  pub claims-past : n ≤ p → claims n marks (p ∷ ps) ≡ false
  unfolding claims
  claims-past h = rw (le-ltb p n h)

  pub claims-twice : p < n → (get_or marks p 0 ≡ 0 → ⊥) → claims n marks (p ∷ ps) ≡ false
  unfolding claims
  claims-twice h e = rw (lt-ltb p n h, ne_eqb (get_or marks p 0) 0 e)

pub claims-none : (n : ℕ) (marks : List ℕ) → claims n marks [] ≡ true
unfolding claims
claims-none n marks = refl

-- ---- the pages that records name, one record more: what is left, with the marks, is the whole

pub record Claiming (n : ℕ) (marks₀ : List ℕ) (cs : List Rec) (i : ℕ) (marks : List ℕ) : Type 0 where
  pub left : claims n marks (map child_of (drop i cs)) ≡ claims n marks₀ (map child_of cs)
  pub after : claimed marks (map child_of (drop i cs)) ≡ claimed marks₀ (map child_of cs)

module _ {n : ℕ} {marks₀ : List ℕ} {cs : List Rec} {i : ℕ} {marks : List ℕ} (k : Claiming n marks₀ cs i marks) where
  pub claiming-ends : length cs ≤ i → (claims n marks₀ (map child_of cs) ≡ true) × (marks ≡ claimed marks₀ (map child_of cs))
  unfolding claims claimed
  claiming-ends h =
      let none : drop i cs ≡ [] = drop_of_length-le cs {i = i} h in
      (sym k.left ∙ ap (λ (l : List Rec). claims n marks (map child_of l)) none, sym (ap (λ (l : List Rec). claimed marks (map child_of l)) none) ∙ k.after)

  module _ (d : Rec) (less : i < length cs) (q : ℕ) (e : q ≡ child_of (get_or cs i d)) where
    here : map child_of (drop i cs) ≡ q ∷ map child_of (drop (i + 1) cs)
    here = rw (drop-next cs i d less, e)

    pub claiming-past : n ≤ q → claims n marks₀ (map child_of cs) ≡ false
    claiming-past h = sym k.left ∙ ap (claims n marks) here ∙ claims-past n marks q (map child_of (drop (i + 1) cs)) h

    pub claiming-twice : q < n → (get_or marks q 0 ≡ 0 → ⊥) → claims n marks₀ (map child_of cs) ≡ false
    claiming-twice h z = sym k.left ∙ ap (claims n marks) here ∙ claims-twice n marks q (map child_of (drop (i + 1) cs)) h z

    pub claiming-on : q < n → get_or marks q 0 ≡ 0 → Claiming n marks₀ cs (i + 1) (set marks q 1)
    unfolding claimed
    claiming-on h z =
        record {
          left = sym (ap (claims n marks) here ∙ claims-on n marks q (map child_of (drop (i + 1) cs)) h z) ∙ k.left;
          after = sym (ap (claimed marks) here) ∙ k.after;
        }

-- ---- what the marks stand for

-- the same pages in another order
named-alike : (a b marks : List ℕ) → ((x : ℕ) → count x a ≡ count x b) → Named a marks → Named b marks
named-alike a b marks same k =
    record { size = k.size; zero = k.zero; apart = distinct-alike a b same k.apart; marked = λ p h. sym (among-alike a b same p) ∙ k.marked p h }

module _ (named marks : List ℕ) (k : Named named marks) (p : ℕ) where
  -- page 0 is marked, so that none names it
  free-page : get_or marks p 0 ≡ 0 → 1 ≤ p
  free-page z = go p z
    where
      go : (q : ℕ) → get_or marks q 0 ≡ 0 → 1 ≤ q
      go zero e = absurd (k.zero e)
      go (suc q) e = omega arith

  free-new : get_or marks p 0 ≡ 0 → among p named ≡ false
  free-new z = k.marked p (free-page z) ∙ ap (ltb 0) z

  new-free : 1 ≤ p → among p named ≡ false → get_or marks p 0 ≡ 0
  new-free h e = let f = ltb-false 0 (get_or marks p 0) (sym (k.marked p h) ∙ e) in omega arith

  -- p is marked too
  name-one : (v : ℕ) → 1 ≤ v → p < 64 → get_or marks p 0 ≡ 0 → Named (p ∷ named) (set marks p v)
  unfolding distinct among
  name-one v some small z =
      let h = free-page z in
      let less : p < length marks = omega (arith, k.size) in
      record {
        size = length-set marks p v ∙ k.size;
        zero = λ e. k.zero (sym (get_or-set_other marks p 0 v 0 (λ f. omega (arith, f, h))) ∙ e);
        apart = both (ap not (free-new z)) k.apart;
        marked = λ q l. go q l (eqb q p) refl less;
      }
    where
      go : (q : ℕ) → 1 ≤ q → (t : Bool) → eqb q p ≡ t → p < length marks → (t || among q named) ≡ ltb 0 (get_or (set marks p v) q 0)
      go q l true e less =
          let f : get_or (set marks p v) q 0 ≡ v = ap (λ (x : ℕ). get_or (set marks p v) x 0) (eqb-true q p e) ∙ get_or-set_same marks p v 0 less in
          sym (ap (ltb 0) f ∙ lt-ltb 0 v some)
      go q l false e less = k.marked q l ∙ ap (ltb 0) (sym (get_or-set_other marks p q v 0 (eqb-false q p e)))

-- a page more, at either end of what is named
one-first : (p : ℕ) (ps named : List ℕ) (x : ℕ) → count x (ps ++ p ∷ named) ≡ count x (p ∷ (ps ++ named))
one-first p ps named x = let a = count-append x ps (p ∷ named) in let b = count-append x ps named in omega (arith, a, b)

claims-true : (n : ℕ) (named marks : List ℕ) (ps : List ℕ) → n ≤ 64 → Named named marks → claims n marks ps ≡ true →
    All (λ (p : ℕ). is_page n p ≡ true) ps × Named (ps ++ named) (claimed marks ps)
unfolding claims claimed
claims-true n named marks [] few k h = (tt, k)
claims-true n named marks (p ∷ ps) few k h =
    let free : Bool = ltb p n && eqb (get_or marks p 0) 0 in
    let f = first free (claims n (set marks p 1) ps) h in
    let low : p < n = ltb-true p n (first (ltb p n) (eqb (get_or marks p 0) 0) f) in
    let z : get_or marks p 0 ≡ 0 = eqb-true (get_or marks p 0) 0 (second (ltb p n) (eqb (get_or marks p 0) 0) f) in
    let r = claims-true n (p ∷ named) (set marks p 1) ps few (name-one named marks k p 1 (omega arith) (omega arith) z) (second free (claims n (set marks p 1) ps) h) in
    ((true-is_page n p (free-page named marks k p z) low, r.0), named-alike (ps ++ p ∷ named) (p ∷ (ps ++ named)) (claimed (set marks p 1) ps) (one-first p ps named) r.1)

true-claims : (n : ℕ) (named marks : List ℕ) (ps : List ℕ) → n ≤ 64 → Named named marks → All (λ (p : ℕ). is_page n p ≡ true) ps → distinct (ps ++ named) ≡ true → claims n marks ps ≡ true
unfolding claims
true-claims n named marks [] few k a d = refl
true-claims n named marks (p ∷ ps) few k a d =
    let i = is_page-true n p a.0 in
    let z : get_or marks p 0 ≡ 0 = new-free named marks k p i.0 (go (among p named) refl) in
    let d' = distinct-alike (p ∷ (ps ++ named)) (ps ++ p ∷ named) (λ x. sym (one-first p ps named x)) d in
    both (both (lt-ltb p n i.1) (eq-eqb (get_or marks p 0) 0 z))
    (true-claims n (p ∷ named) (set marks p 1) ps few (name-one named marks k p 1 (omega arith) (omega (arith, i.1)) z) a.1 d')
  where
    go : (t : Bool) → among p named ≡ t → t ≡ false
    go false e = refl
    go true e =
        let one = distinct-count (p ∷ (ps ++ named)) d p in
        let b = count-append p ps named in
        let c = among-count p named e in
        let o = hit-self p in
        absurd (omega (arith, one, b, c, o))

module _ (n : ℕ) (few : n ≤ 64) (named marks : List ℕ) (k : Named named marks) (ps : List ℕ) where
  -- none of them was named before, nor twice
  pub named-claims : claims n marks ps ≡ (all_b (is_page n) ps && distinct (ps ++ named))
  named-claims =
      let P : ℕ → Type 0 = λ p. is_page n p ≡ true in
      same_test (claims n marks ps) (all_b (is_page n) ps && distinct (ps ++ named))
      (λ t. let r = claims-true n named marks ps few k t in both (true-all_b (is_page n) P (λ p e. e) ps r.0) r.1.apart)
      (λ t. true-claims n named marks ps few k (all_b-true (is_page n) P (λ p e. e) ps (first (all_b (is_page n) ps) (distinct (ps ++ named)) t)) (second (all_b (is_page n) ps) (distinct (ps ++ named)) t))

  -- and the marks then stand for them too
  pub named-claimed : claims n marks ps ≡ true → Named (ps ++ named) (claimed marks ps)
  named-claimed t = (claims-true n named marks ps few k t).1

-- what was marked otherwise stays
pub claimed-other : (n v : ℕ) (marks ps : List ℕ) → 2 ≤ v → n ≤ length marks → claims n marks ps ≡ true → (q : ℕ) → eqb (get_or (claimed marks ps) q 0) v ≡ eqb (get_or marks q 0) v
unfolding claims claimed
claimed-other n v marks [] w few h q = refl
claimed-other n v marks (p ∷ ps) w few h q =
    let free : Bool = ltb p n && eqb (get_or marks p 0) 0 in
    let f = first free (claims n (set marks p 1) ps) h in
    let low : p < n = ltb-true p n (first (ltb p n) (eqb (get_or marks p 0) 0) f) in
    let z : get_or marks p 0 ≡ 0 = eqb-true (get_or marks p 0) 0 (second (ltb p n) (eqb (get_or marks p 0) 0) f) in
    claimed-other n v (set marks p 1) ps w (omega (arith, length-set marks p 1)) (second free (claims n (set marks p 1) ps) h) q ∙ go (eqb p q) refl z (omega arith)
  where
    go : (t : Bool) → eqb p q ≡ t → get_or marks p 0 ≡ 0 → p < length marks → eqb (get_or (set marks p 1) q 0) v ≡ eqb (get_or marks q 0) v
    go false e z less = ap (λ (x : ℕ). eqb x v) (get_or-set_other marks p q 1 0 (λ g. eqb-false p q e (sym g)))
    go true e z less =
        let same : p ≡ q = eqb-true p q e in
        let old : eqb (get_or marks q 0) v ≡ false = ap (λ (x : ℕ). eqb (get_or marks x 0) v) (sym same) ∙ ap (λ (x : ℕ). eqb x v) z ∙ ne_eqb 0 v (λ g. omega (arith, w, g)) in
        let new : get_or (set marks p 1) q 0 ≡ 1 = ap (λ (x : ℕ). get_or (set marks p 1) x 0) (sym same) ∙ get_or-set_same marks p 1 0 less in
        ap (λ (x : ℕ). eqb x v) new ∙ ne_eqb 1 v (λ g. omega (arith, w, g)) ∙ sym old

-- ---- page 0 and the root are marked first

pub zero-named : Named [] (set (replicate 64 0) 0 1)
unfolding distinct among
zero-named =
    record { size = refl; zero = λ e. omega (arith, e); apart = refl; marked = λ p h. go p h }
  where
    go : (p : ℕ) → 1 ≤ p → false ≡ ltb 0 (get_or (set (replicate 64 0) 0 1) p 0)
    go zero h = absurd (omega (arith, h))
    go (suc p) h = ap (ltb 0) (sym (zeros-at 63 p))

module _ (n root : ℕ) (few : n ≤ 64) (inside : is_page n root ≡ true) where
  -- as any number but 0
  pub root-named : (v : ℕ) → 1 ≤ v → Named (root ∷ []) (set (set (replicate 64 0) 0 1) root v)
  root-named v some =
      let i = is_page-true n root inside in
      let z : ◌≡◌ {A = ℕ} (get_or (set (replicate 64 0) 0 1) root 0) 0 = unmarked root i.0 in
      name-one [] (set (replicate 64 0) 0 1) zero-named root v some (omega (arith, i.1)) z
    where
      unmarked : (p : ℕ) → 1 ≤ p → ◌≡◌ {A = ℕ} (get_or (set (replicate 64 0) 0 1) p 0) 0
      unmarked zero h = absurd (omega (arith, h))
      unmarked (suc p) h = zeros-at 63 p
