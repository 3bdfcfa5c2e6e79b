-- The separators of new pages: that of a left one, and the first of a right one's records.
-- Assumes nothing.
use Prim.Native.Nat.{ℕ, ◌≤◌}
use mathlib.Core.Path.{◌≡◌, refl}
use mathlib.Core.List.{List, [], ◌∷◌}
use native.Mathlib.Omega.{arith}
use native.Mathlib.Nat.{not-suc-le-zero}
use lib.ListN.{length}
use Rattle.page.specs.Layout.{Rec}
use Rattle.image.specs.Image.{first_key, start_of}
use Rattle.tree.specs.Moved.{Separator}

-- "keeps its separator, or takes 0 if first"
pub separator-is : (lo : ℕ) (pre : List Rec) (c : Rec) → Separator lo pre c (start_of pre lo c.key)
separator-is lo [] c = record { first = λ e. refl; later = λ h. absurd (not-suc-le-zero h) }
separator-is lo (p ∷ pre) c = record { first = λ e. let z : ◌≡◌ {A = ℕ} 0 1 = cc in absurd (omega arith); later = λ h. refl }

-- "takes its smallest key"
pub first_of : (l : List Rec) → 1 ≤ length l → (r : Rec) × (more : List Rec) × (l ≡ r ∷ more) × (first_key l 0 ≡ r.key)
first_of [] h = absurd (not-suc-le-zero h)
first_of (r ∷ l) h = (r, l, refl, refl)
