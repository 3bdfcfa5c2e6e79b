-- Laws in general that codec's lack: tests that do not hold, what a test chooses, and the properties of the elements of joined lists.
-- Assumes nothing.
use mathlib.Core.Path.{◌≡◌, refl, sym, ◌∙◌}
use mathlib.Core.Bool.{Bool, true, false, ◌&&◌, ◌||◌, true≢false, false≢true}
use mathlib.Core.List.{List, [], ◌∷◌, ◌++◌}
use Rattle.codec.specs.Lists.{pick, All}

-- ---- tests

pub neither : (a b : Bool) → (a || b) ≡ false → (a ≡ false) × (b ≡ false)
neither true b e = absurd (true≢false e)
neither false b e = (refl, e)

pub not-both : (a b : Bool) → (a && b) ≡ false → a ≡ true → b ≡ false
not-both true b e h = e
not-both false b e h = absurd (false≢true h)

pub never_both : (a b : Bool) → (a ≡ true → b ≡ false) → (a && b) ≡ false
never_both true b h = h refl
never_both false b h = refl

-- one of two tests holds, and it is not the first, or not the second
pub not_first : (a b : Bool) → (a || b) ≡ true → a ≡ false → b ≡ true
not_first true b h e = absurd (true≢false e)
not_first false b h e = h

pub not-second : (a b : Bool) → (a || b) ≡ true → b ≡ false → a ≡ true
not-second true b h e = refl
not-second false b h e = absurd (true≢false (sym h ∙ e))

-- ---- choices

-- what a test chooses has a property that each choice has where it is chosen
pub by-test {ℓ} : {A : Type ℓ} (P : A → Type 0) (t : Bool) {x y : A} → (t ≡ true → P x) → (t ≡ false → P y) → P (pick t x y)
by-test P true f g = f refl
by-test P false f g = g refl

-- the same of two choices by one test
pub by_tests {ℓ κ} : {A : Type ℓ} {B : Type κ} (P : A → B → Type 0) (t : Bool) {x y : A} {u v : B} → (t ≡ true → P x u) → (t ≡ false → P y v) → P (pick t x y) (pick t u v)
by_tests P true f g = f refl
by_tests P false f g = g refl

-- ---- joined lists

module _ {ℓ} {A : Type ℓ} (P : A → Type 0) where
  pub all_right : (a b : List A) → All P (a ++ b) → All P b
  all_right [] b h = h
  all_right (x ∷ a) b h = all_right a b h.1
