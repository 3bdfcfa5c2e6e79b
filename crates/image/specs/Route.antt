-- Which leaf a key belongs to (document 01, 'Edits').
-- Assumes nothing.
use Rattle.std.specs.Prelude.{ℕ, suc, List, [], ◌∷◌, leb}
use Rattle.codec.specs.Lists.{pick}
use Rattle.page.specs.Layout.{Rec}

-- the last place, counted from i, of a separator that is not above k; d where there is none
unfoldable pub last_from : ℕ → ℕ → ℕ → List Rec → ℕ
last_from k d i [] = d
last_from k d i (c ∷ cs) = last_from k (pick (leb c.key k) i d) (suc i) cs

-- "A key belongs to the last leaf whose separator is not above it, else to the first."
unfoldable pub route : ℕ → List Rec → ℕ
route k cs = last_from k 0 0 cs
