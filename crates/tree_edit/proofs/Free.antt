-- Free pages by marks: those below a page that is looked at, the first of them, and that it is the one that the definition takes.
-- Assumes nothing.
use Prim.Native.Nat.{ℕ, zero, suc, ◌-◌, ◌≤◌}
use mathlib.Core.Path.{◌≡◌, refl, sym, ap, ap₂, ◌∙◌}
use mathlib.Core.Bool.{Bool, true, false, false≢true}
use mathlib.Core.List.{List, [], ◌∷◌}
use native.Mathlib.Omega.{arith}
use native.Mathlib.Nat.{not-suc-le-zero}
use lib.ListN.{get_or}
use lib.Dec.{eqb}
use borrow.Author.Tests.{eq-eqb, ne_eqb, eqb-true, eqb-false}
use Rattle.codec.specs.Lists.{pick}
use Rattle.image.specs.PageZero.{page_count, root_of}
use Rattle.image.specs.Image.{reached, hit, count}
use Rattle.image.proofs.Times.{hit-self}
use Rattle.tree.specs.State.{State, others, begin, take_page, taken}
use Rattle.tree_edit.specs.Steps.{is_marked, Marks, unmarked, state_of}

-- ---- one page looked at

pub unmarked-past : (marks : List ℕ) (p : ℕ) → 1 ≤ p → (get_or marks p 0 ≡ 0 → ⊥) → unmarked marks p ≡ unmarked marks (p - 1)
unfolding unmarked
unmarked-past marks zero h ne = absurd (not-suc-le-zero h)
unmarked-past marks (suc n) h ne = let e : suc n - 1 ≡ n = omega arith in rw (ne_eqb (get_or marks (suc n) 0) 0 ne, e)

pub unmarked-first : (marks : List ℕ) (p : ℕ) → 1 ≤ p → get_or marks p 0 ≡ 0 → unmarked marks p ≡ p ∷ unmarked marks (p - 1)
unfolding unmarked
unmarked-first marks zero h z = absurd (not-suc-le-zero h)
unmarked-first marks (suc n) h z = let e : suc n - 1 ≡ n = omega arith in rw (eq-eqb (get_or marks (suc n) 0) 0 z, e)

pub unmarked-none : (marks : List ℕ) (p : ℕ) → p ≤ 1 → unmarked marks (p - 1) ≡ []
unfolding unmarked
unmarked-none marks p h = let e : p - 1 ≡ 0 = omega arith in rw e

-- ---- the first of them is taken

module _ {A : Type 0} (out : A) (st : State) (k : ℕ → State → A) where
  pub taken_none : st.free ≡ [] → taken out st k ≡ out
  unfolding taken take_page
  taken_none e = ap (λ (l : List ℕ). take_page out l st k) e

  pub taken-first : (p : ℕ) (f : List ℕ) → st.free ≡ p ∷ f → taken out st k ≡ k p (record { image = st.image; root = st.root; free = f })
  unfolding taken take_page
  taken-first p f e = ap (λ (l : List ℕ). take_page out l st k) e

-- ---- a page that is not marked is one of them

pub unmarked-counts : (marks : List ℕ) (n p : ℕ) → 1 ≤ p → p ≤ n → is_marked marks p ≡ false → 1 ≤ count p (unmarked marks n)
unfolding unmarked
unmarked-counts marks zero p one low e = absurd (omega arith)
unmarked-counts marks (suc n) p one low e = go (eqb p (suc n)) refl (is_marked marks (suc n)) refl (λ k. unmarked-counts marks n p one k e)
  where
    rest : List ℕ
    rest = unmarked marks n

    go : (b : Bool) → eqb p (suc n) ≡ b → (m : Bool) → is_marked marks (suc n) ≡ m → (p ≤ n → 1 ≤ count p rest) → 1 ≤ count p (pick m rest (suc n ∷ rest))
    go true z true y more = absurd (false≢true (sym e ∙ ap (is_marked marks) (eqb-true p (suc n) z) ∙ y))
    go true z false y more = omega (arith, hit-self (suc n), ap (λ (k : ℕ). hit k (suc n)) (eqb-true p (suc n) z))
    go false z true y more = more (omega (arith, eqb-false p (suc n) z))
    go false z false y more = omega (arith, more (omega (arith, eqb-false p (suc n) z)))

-- ---- before the first edit

-- the pages that are not marked are those that were not reached before the transaction
pub unmarked-others : (marks rs : List ℕ) → Marks marks rs → (n : ℕ) → unmarked marks n ≡ others n rs
unfolding unmarked others
unmarked-others marks rs h zero = refl
unmarked-others marks rs h (suc n) =
    ap₂ (λ (b : Bool) (l : List ℕ). pick b l (suc n ∷ l)) (h (suc n)) (unmarked-others marks rs h n)

pub begin-state : (marks a : List ℕ) → Marks marks (reached a (root_of a)) → begin a ≡ state_of marks a (record { root = root_of a; top = page_count a })
unfolding begin
begin-state marks a h = ap (λ (l : List ℕ). record { image = a; root = root_of a; free = l }) (sym (unmarked-others marks (reached a (root_of a)) h (page_count a - 1)))
