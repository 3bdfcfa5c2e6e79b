-- Page numbers counted in an image of n pages: that pages are distinct, in range and not taken is one inequality of numbers for each page.
-- Assumes nothing.
use Prim.Native.Nat.{ℕ, ◌+◌, ◌≤◌, ◌<◌}
use mathlib.Core.Path.{◌≡◌, sym, ap, ◌∙◌, refl}
use mathlib.Core.Bool.{true, false, true≢false}
use mathlib.Core.List.{List, [], ◌∷◌, ◌++◌}
use native.Mathlib.Omega.{arith}
use lib.ListN.{length}
use Rattle.codec.specs.Lists.{All}
use Rattle.codec.proofs.Tests.{All-map}
use Rattle.page.specs.Layout.{Rec}
use Rattle.image.specs.PageZero.{is_page}
use Rattle.image.specs.Image.{distinct, count, joined}
use Rattle.image.proofs.Zero.{is_page-true}
use Rattle.image.proofs.Ranges.{joined-append}
use Rattle.image.proofs.Times.{hit-self, hit_other, count-append, distinct-count, count-distinct, distinct-few}
use Rattle.edit.proofs.General.{by-test}
use Rattle.tree.specs.Good.{inside}

-- ---- one page

pub inside-most : (n x : ℕ) → inside n x ≤ 1
unfolding inside
inside-most n x = by-test (λ (k : ℕ). k ≤ 1) (is_page n x) (λ e. omega arith) (λ e. omega arith)

pub inside_is : (n x : ℕ) → is_page n x ≡ true → inside n x ≡ 1
unfolding inside
inside_is n x h = rw h

pub inside-page : (n x : ℕ) → 1 ≤ inside n x → is_page n x ≡ true
unfolding inside
inside-page n x = by-test (λ (k : ℕ). 1 ≤ k → is_page n x ≡ true) (is_page n x) (λ e h. e) (λ e h. absurd (omega arith))

pub inside-range : (n x : ℕ) → 1 ≤ inside n x → (1 ≤ x) × (x < n)
inside-range n x h = is_page-true n x (inside-page n x h)

-- ---- records

pub count-joined : (f : ℕ → List ℕ) (x : ℕ) (a b : List Rec) → count x (joined f (a ++ b)) ≡ count x (joined f a) + count x (joined f b)
count-joined f x a b = ap (count x) (joined-append f a b) ∙ count-append x (joined f a) (joined f b)

-- ---- distinct pages

abbrev pub Pages : ℕ → List ℕ → Type 0
Pages n l = All (λ (p : ℕ). is_page n p ≡ true) l

count-out : (n : ℕ) (l : List ℕ) → Pages n l → (x : ℕ) → is_page n x ≡ false → count x l ≡ 0
count-out n [] h x e = refl
count-out n (p ∷ l) h x e =
    omega (arith, hit_other x p (λ z. true≢false (sym h.0 ∙ sym (ap (is_page n) z) ∙ e)), count-out n l h.1 x e)

-- distinct pages in range are counted once where they are in range
pub count-inside : (n : ℕ) (l : List ℕ) → Pages n l → distinct l ≡ true → (x : ℕ) → count x l ≤ inside n x
unfolding inside
count-inside n l h d x = by-test (λ (k : ℕ). count x l ≤ k) (is_page n x) (λ e. distinct-count l d x) (λ e. omega (arith, count-out n l h x e))

pub inside-pages : (n : ℕ) (l : List ℕ) → ((x : ℕ) → count x l ≤ inside n x) → Pages n l
inside-pages n [] h = tt
inside-pages n (p ∷ l) h = (inside-page n p (omega (arith, h p, hit-self p)), inside-pages n l (λ x. omega (arith, h x)))

-- distinct pages in range are not more than the pages of the image
pub inside-few : (n : ℕ) (l : List ℕ) → ((x : ℕ) → count x l ≤ inside n x) → length l ≤ n
inside-few n l h =
    distinct-few n l (All-map (λ (p : ℕ). is_page n p ≡ true) (λ (p : ℕ). p < n) (λ p e. (is_page-true n p e).1) l (inside-pages n l h))
    (count-distinct l (λ x. omega (arith, h x, inside-most n x)))
