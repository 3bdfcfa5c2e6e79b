-- Records whose keys rise strictly between two bounds: how `Rising` is joined and weakened, and that the tests of a page give it.
-- Assumes nothing.
use Prim.Native.Nat.{ℕ, suc, ◌≤◌, ◌<◌}
use mathlib.Core.Path.{◌≡◌, refl}
use mathlib.Core.Bool.{true}
use mathlib.Core.List.{List, [], ◌∷◌, ◌++◌}
use native.Mathlib.Omega.{arith}
use borrow.Author.Tests.{leb-true, le-leb}
use Rattle.codec.specs.Lists.{All}
use Rattle.codec.proofs.Tests.{both, first, second}
use Rattle.page.specs.Layout.{Rec}
use Rattle.page.specs.Page.{starts_at, keys_rise}
use Rattle.image.specs.Image.{first_key}
use Rattle.image.specs.Facts.{Rising}

-- the keys are not below lo, below hi
abbrev pub From : ℕ → List Rec → Type 0
From lo l = All (λ (r : Rec). lo ≤ r.key) l

abbrev pub Below : List Rec → ℕ → Type 0
Below l hi = All (λ (r : Rec). r.key < hi) l

-- ---- bounds

pub rising_le : (lo : ℕ) (l : List Rec) (hi : ℕ) → Rising lo l hi → lo ≤ hi
rising_le lo [] hi h = h
rising_le lo (r ∷ l) hi h = omega (arith, h.0, rising_le (suc r.key) l hi h.1)

pub rising-lo : (lo lo' : ℕ) (l : List Rec) (hi : ℕ) → lo' ≤ lo → Rising lo l hi → Rising lo' l hi
rising-lo lo lo' [] hi q h = omega arith
rising-lo lo lo' (r ∷ l) hi q h = (omega (arith, h.0), h.1)

pub rising-hi : (lo : ℕ) (l : List Rec) (hi hi' : ℕ) → hi ≤ hi' → Rising lo l hi → Rising lo l hi'
rising-hi lo [] hi hi' q h = omega arith
rising-hi lo (r ∷ l) hi hi' q h = (h.0, rising-hi (suc r.key) l hi hi' q h.1)

pub rising-from : (lo : ℕ) (l : List Rec) (hi : ℕ) → Rising lo l hi → From lo l
rising-from lo [] hi h = tt
rising-from lo (r ∷ l) hi h = (h.0, rising-from lo l hi (rising-lo (suc r.key) lo l hi (omega (arith, h.0)) h.1))

pub rising-below : (lo : ℕ) (l : List Rec) (hi : ℕ) → Rising lo l hi → Below l hi
rising-below lo [] hi h = tt
rising-below lo (r ∷ l) hi h = (rising_le (suc r.key) l hi h.1, rising-below (suc r.key) l hi h.1)

-- another start that the keys are not below
pub rising-start : (lo lo' : ℕ) (l : List Rec) (hi : ℕ) → lo' ≤ hi → From lo' l → Rising lo l hi → Rising lo' l hi
rising-start lo lo' [] hi q f h = q
rising-start lo lo' (r ∷ l) hi q f h = (f.0, h.1)

-- ---- joined and taken apart

pub rising-append : (lo : ℕ) (a : List Rec) (mid : ℕ) (b : List Rec) (hi : ℕ) → Rising lo a mid → Rising mid b hi → Rising lo (a ++ b) hi
rising-append lo [] mid b hi h g = rising-lo mid lo b hi h g
rising-append lo (r ∷ a) mid b hi h g = (h.0, rising-append (suc r.key) a mid b hi h.1 g)

pub rising-split : (lo : ℕ) (a b : List Rec) (hi : ℕ) → Rising lo (a ++ b) hi → Rising lo a (first_key b hi) × Rising (first_key b hi) b hi
rising-split lo [] [] hi h = (h, omega arith)
rising-split lo [] (r ∷ b) hi h = (h.0, (omega arith, h.1))
rising-split lo (x ∷ a) b hi h = let t = rising-split (suc x.key) a b hi h.1 in ((h.0, t.0), t.1)

-- ---- the tests

pub starts-true : (lo : ℕ) (l : List Rec) → From lo l → starts_at lo l ≡ true
unfolding starts_at
starts-true lo [] f = refl
starts-true lo (r ∷ l) f = le-leb lo r.key f.0

rises : (lo : ℕ) (l : List Rec) (hi : ℕ) → lo ≤ hi → starts_at lo l ≡ true → keys_rise l ≡ true → Below l hi → Rising lo l hi
unfolding starts_at keys_rise
rises lo [] hi q s k b = q
rises lo (r ∷ l) hi q s k b = (
  leb-true lo r.key s,
  rises (suc r.key) l hi b.0 (first (starts_at (suc r.key) l) (keys_rise l) k) (second (starts_at (suc r.key) l) (keys_rise l) k) b.1,
)

-- "keys and separators rise strictly", within their bounds
pub rise-rising : (lo : ℕ) (l : List Rec) (hi : ℕ) → lo ≤ hi → From lo l → keys_rise l ≡ true → Below l hi → Rising lo l hi
rise-rising lo l hi q f k b = rises lo l hi q (starts-true lo l f) k b

pub rising-rise : (lo : ℕ) (l : List Rec) (hi : ℕ) → Rising lo l hi → keys_rise l ≡ true
unfolding keys_rise
rising-rise lo [] hi h = refl
rising-rise lo (r ∷ l) hi h = both (starts-true (suc r.key) l (rising-from (suc r.key) l hi h.1)) (rising-rise (suc r.key) l hi h.1)
