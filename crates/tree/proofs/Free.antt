-- The pages that a transaction may take: those neither reached before nor taken, each once, the highest first.
-- Assumes nothing.
use Prim.Native.Nat.{ℕ, zero, suc, ◌+◌, ◌≤◌, ◌<◌}
use mathlib.Core.Path.{◌≡◌, refl, sym, ap, ap₂, ◌∙◌}
use mathlib.Core.Bool.{Bool, true, false, ◌||◌, true≢false, or-true, or_assoc, or_comm}
use mathlib.Core.List.{List, [], ◌∷◌, ◌++◌}
use native.Mathlib.Omega.{arith}
use lib.Dec.{leb, eqb}
use borrow.Author.Tests.{leb-true, leb-false, eqb-true, eqb-false, eq-eqb, ne_eqb}
use Rattle.codec.specs.Lists.{pick}
use Rattle.image.specs.Image.{among, hit, count}
use Rattle.image.proofs.Zero.{true-is_page}
use Rattle.image.proofs.Apart.{among-append}
use Rattle.image.proofs.Times.{hit-self, hit_other, among_none}
use Rattle.tree.specs.State.{others}
use Rattle.tree.specs.Good.{inside}
use Rattle.tree.specs.NewPages.{Highest}
use Rattle.edit.proofs.General.{by-test}
use Rattle.tree.proofs.Counts.{inside_is}

-- ---- what they are

-- no page but those of 1 to n that are not among rs
others-none : (n : ℕ) (rs : List ℕ) (x : ℕ) → ((y : ℕ) → 1 ≤ y → y ≤ n → among y rs ≡ false → x ≡ y → ⊥) → count x (others n rs) ≡ 0
unfolding others
others-none zero rs x h = refl
others-none (suc n) rs x h =
    let rest = others-none n rs x (λ y a b c. h y a (omega arith) c) in
    by-test (λ (l : List ℕ). count x l ≡ 0) (among (suc n) rs) (λ e. rest) (λ e. omega (arith, hit_other x (suc n) (h (suc n) (omega arith) (omega arith) e)))

-- and each of those once
pub others-once : (n : ℕ) (rs : List ℕ) (x : ℕ) → 1 ≤ x → x ≤ n → among x rs ≡ false → count x (others n rs) ≡ 1
unfolding others
others-once zero rs x low high free = absurd (omega arith)
others-once (suc n) rs x low high free = go (eqb x (suc n)) refl (others-once n rs x low)
  where
    go : (b : Bool) → eqb x (suc n) ≡ b → (x ≤ n → among x rs ≡ false → count x (others n rs) ≡ 1) → count x (others (suc n) rs) ≡ 1
    go true e f =
        let z : x ≡ suc n = eqb-true x (suc n) e in
        let rest : count x (others n rs) ≡ 0 = others-none n rs x (λ y a b c w. omega arith) in
        rw (ap (λ (y : ℕ). among y rs) (sym z) ∙ free) (omega (arith, ap (hit x) z, hit-self x))
    go false e f =
        let ne : x ≡ suc n → ⊥ = eqb-false x (suc n) e in
        let rest : count x (others n rs) ≡ 1 = f (omega (arith, ne)) free in
        by-test (λ (l : List ℕ). count x l ≡ 1) (among (suc n) rs) (λ c. rest) (λ c. omega (arith, hit_other x (suc n) ne))

-- with the pages rs they are distinct and in range
pub others_apart : (n m : ℕ) (rs : List ℕ) → m < n → ((x : ℕ) → count x rs ≤ inside n x) → (x : ℕ) → count x rs + count x (others m rs) ≤ inside n x
others_apart n m rs low h x = go (among x rs) refl (leb x m) refl (leb 1 x) refl
  where
    go : (a : Bool) → among x rs ≡ a → (b : Bool) → leb x m ≡ b → (c : Bool) → leb 1 x ≡ c → count x rs + count x (others m rs) ≤ inside n x
    go true e b p c q = omega (arith, h x, others-none m rs x (λ y u v w z. true≢false (sym e ∙ ap (λ (k : ℕ). among k rs) z ∙ w)))
    go false e true p true q =
        let r = leb-true 1 x q in
        let s = leb-true x m p in
        omega (arith, among_none x rs e, others-once m rs x r s e, inside_is n x (true-is_page n x r (omega arith)))
    go false e true p false q = omega (arith, among_none x rs e, leb-false 1 x q, others-none m rs x (λ y u v w z. omega (arith, leb-false 1 x q)))
    go false e false p c q = omega (arith, among_none x rs e, others-none m rs x (λ y u v w z. omega (arith, leb-false x m p)))

-- ---- the first of them

pub others-first : (n : ℕ) (rs : List ℕ) (p : ℕ) (ps : List ℕ) → others n rs ≡ p ∷ ps → Highest n rs p
unfolding others
others-first zero rs p ps e = let z : ◌≡◌ {A = ℕ} 0 1 = cc in absurd (omega arith)
others-first (suc n) rs p ps e = go (among (suc n) rs) refl e (others-first n rs p ps)
  where
    go : (b : Bool) → among (suc n) rs ≡ b → pick b (others n rs) (suc n ∷ others n rs) ≡ p ∷ ps → (others n rs ≡ p ∷ ps → Highest n rs p) → Highest (suc n) rs p
    go true c e f =
        let r = f e in
        record { low = r.low; high = omega (arith, r.high); free = r.free; highest = λ q h k. at q h k (leb q n) refl }
      where
        at : (q : ℕ) → p < q → q ≤ suc n → (b : Bool) → leb q n ≡ b → among q rs ≡ true
        at q h k true d = (f e).highest q h (leb-true q n d)
        at q h k false d = let z : q ≡ suc n = omega (arith, leb-false q n d) in ap (λ (y : ℕ). among y rs) z ∙ c
    go false c e f =
        let z : suc n ≡ p = cc in
        record { low = omega arith; high = omega arith; free = ap (λ (y : ℕ). among y rs) (sym z) ∙ c; highest = λ q h k. absurd (omega arith) }

others_same : (n : ℕ) (rs ss : List ℕ) → ((q : ℕ) → q ≤ n → among q rs ≡ among q ss) → others n rs ≡ others n ss
unfolding others
others_same zero rs ss h = refl
others_same (suc n) rs ss h =
    ap₂ (λ (b : Bool) (l : List ℕ). pick b l (suc n ∷ l)) (h (suc n) (omega arith)) (others_same n rs ss (λ q k. h q (omega arith)))

-- the others are those that are left once it is taken
pub others-rest : (n : ℕ) (rs : List ℕ) (p : ℕ) (ps : List ℕ) → others n rs ≡ p ∷ ps → ps ≡ others n (p ∷ rs)
unfolding others among
others-rest zero rs p ps e = let z : ◌≡◌ {A = ℕ} 0 1 = cc in absurd (omega arith)
others-rest (suc n) rs p ps e = go (among (suc n) rs) refl e (others-rest n rs p ps)
  where
    go : (b : Bool) → among (suc n) rs ≡ b → pick b (others n rs) (suc n ∷ others n rs) ≡ p ∷ ps → (others n rs ≡ p ∷ ps → ps ≡ others n (p ∷ rs)) →
        ps ≡ others (suc n) (p ∷ rs)
    go true c e f = f e ∙ rw (c, or-true (eqb (suc n) p))
    go false c e f =
        let z : suc n ≡ p = cc in
        let w : others n rs ≡ ps = cc in
        sym w
        ∙ others_same n rs (p ∷ rs) (λ q k. sym (ap (λ (b : Bool). b || among q rs) (ne_eqb q p (λ y. omega arith))))
        ∙ rw (eq-eqb (suc n) p z)

-- ---- the first of them once some are taken

others-after : (n : ℕ) (rs ts ps : List ℕ) → others n rs ≡ ts ++ ps → ps ≡ others n (ts ++ rs)
unfolding among
others-after n rs [] ps e = sym e
others-after n rs (t ∷ ts) ps e =
    others-after n (t ∷ rs) ts ps (sym (others-rest n rs t (ts ++ ps) e)) ∙ others_same n (ts ++ t ∷ rs) (t ∷ ts ++ rs) (λ q h. moved q)
  where
    moved : (q : ℕ) → among q (ts ++ t ∷ rs) ≡ among q (t ∷ ts ++ rs)
    moved q =
        among-append q ts (t ∷ rs)
        ∙ sym (or_assoc (among q ts) (eqb q t) (among q rs))
        ∙ ap (λ (b : Bool). b || among q rs) (or_comm (among q ts) (eqb q t))
        ∙ or_assoc (eqb q t) (among q ts) (among q rs)
        ∙ ap (λ (b : Bool). eqb q t || b) (sym (among-append q ts rs))

-- the pages ts are taken, and p is the next
pub others-next : (n : ℕ) (rs ts : List ℕ) (p : ℕ) (ps : List ℕ) → others n rs ≡ ts ++ p ∷ ps → Highest n (ts ++ rs) p
others-next n rs ts p ps e = others-first n (ts ++ rs) p ps (sym (others-after n rs ts (p ∷ ps) e))
