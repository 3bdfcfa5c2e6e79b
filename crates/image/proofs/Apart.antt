-- Distinct page numbers: `among` is membership, in a part and by place, and `distinct` says that no two places hold the same number.
-- Assumes nothing.
use Prim.Native.Nat.{ℕ, zero, suc, ◌<◌}
use mathlib.Core.Path.{◌≡◌, refl, sym, ap, ◌∙◌, subst}
use mathlib.Core.Bool.{Bool, true, false, ◌||◌, not, true≢false, false≢true, or-true, or_assoc}
use mathlib.Core.List.{List, [], ◌∷◌, ◌++◌}
use native.Mathlib.Omega.{arith}
use native.Mathlib.Nat.{not-suc-le-zero}
use lib.ListN.{length, get_or}
use lib.Dec.{eqb}
use borrow.Author.Tests.{eqb-true, eq-eqb, not-true}
use Rattle.codec.specs.Lists.{All}
use Rattle.codec.proofs.Tests.{first, second}
use Rattle.image.specs.Image.{among, distinct}

pub among_first : (q : ℕ) (qs : List ℕ) → among q (q ∷ qs) ≡ true
unfolding among
among_first q qs = rw (eq-eqb q q refl)

pub among-rest : (q r : ℕ) (qs : List ℕ) → among q qs ≡ true → among q (r ∷ qs) ≡ true
unfolding among
among-rest q r qs h = rw h (or-true (eqb q r))

pub among-append : (q : ℕ) (a b : List ℕ) → among q (a ++ b) ≡ (among q a || among q b)
unfolding among
among-append q [] b = refl
among-append q (p ∷ a) b = ap (λ (t : Bool). eqb q p || t) (among-append q a b) ∙ sym (or_assoc (eqb q p) (among q a) (among q b))

pub among-left : (q : ℕ) (a b : List ℕ) → among q a ≡ true → among q (a ++ b) ≡ true
among-left q a b h = among-append q a b ∙ rw h

pub among-right : (q : ℕ) (a b : List ℕ) → among q b ≡ true → among q (a ++ b) ≡ true
among-right q a b h = among-append q a b ∙ rw h (or-true (among q a))

-- what holds of all numbers of a list holds of each among them
module _ (P : ℕ → Type 0) where
  pub All-among : (ps : List ℕ) → All P ps → (q : ℕ) → among q ps ≡ true → P q
  unfolding among
  All-among [] a q h = absurd (false≢true h)
  All-among (p ∷ ps) a q h = go (eqb q p) refl h (All-among ps a.1 q)
    where
      go : (t : Bool) → eqb q p ≡ t → (t || among q ps) ≡ true → (among q ps ≡ true → P q) → P q
      go true e f g = subst P (sym (eqb-true q p e)) a.0
      go false e f g = g f

  pub among-All : (ps : List ℕ) → ((q : ℕ) → among q ps ≡ true → P q) → All P ps
  among-All [] f = tt
  among-All (p ∷ ps) f = (f p (among_first p ps), among-All ps (λ q h. f q (among-rest q p ps h)))

pub at-among : (ps : List ℕ) (i : ℕ) → i < length ps → among (get_or ps i 0) ps ≡ true
at-among [] i h = absurd (not-suc-le-zero h)
at-among (p ∷ ps) zero h = among_first p ps
at-among (p ∷ ps) (suc i) h = among-rest (get_or ps i 0) p ps (at-among ps i (omega arith))

-- the numbers at any two places differ
abbrev pub Distinct : List ℕ → Type 0
Distinct ps = (i j : ℕ) → i < length ps → j < length ps → get_or ps i 0 ≡ get_or ps j 0 → i ≡ j

pub distinct-true : (ps : List ℕ) → distinct ps ≡ true → Distinct ps
unfolding distinct
distinct-true [] h i j hi hj e = absurd (not-suc-le-zero hi)
distinct-true (p ∷ ps) h i j hi hj e = go i j hi hj e (distinct-true ps (second (not (among p ps)) (distinct ps) h))
  where
    new : (j : ℕ) → j < length ps → p ≡ get_or ps j 0 → ⊥
    new j k f =
        true≢false (sym (ap (λ (q : ℕ). among q ps) f ∙ at-among ps j k) ∙ not-true (among p ps) (first (not (among p ps)) (distinct ps) h))

    go : (i j : ℕ) → i < length (p ∷ ps) → j < length (p ∷ ps) → get_or (p ∷ ps) i 0 ≡ get_or (p ∷ ps) j 0 → Distinct ps → i ≡ j
    go zero zero hi hj e g = refl
    go zero (suc j) hi hj e g = absurd (new j (omega arith) e)
    go (suc i) zero hi hj e g = absurd (new i (omega arith) (sym e))
    go (suc i) (suc j) hi hj e g = ap suc (g i j (omega arith) (omega arith) e)
