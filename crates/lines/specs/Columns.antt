-- Numbers in columns: "decimal, right-justified, no leading zeros" (document 01, 'The sheet program'), of any width.
-- Assumes nothing.
use Rattle.std.specs.Prelude.{ℕ, zero, suc, ◌+◌, ◌*◌, ◌-◌, ◌/◌, ◌%◌, ◌≤◌, ◌<◌, List, [], ◌∷◌, ◌++◌, ◌≡◌, ◌⊎◌, eqb, replicate}
use Rattle.codec.specs.Lists.{pick, All}

-- the bytes of a space and of the digit 0
abbrev pub space : ℕ
space = 32

abbrev pub digit_zero : ℕ
digit_zero = 48

-- the last digit of a number
abbrev pub digit : ℕ → ℕ
digit n = digit_zero + n % 10

-- what is left of a number before its last digit, in w columns: spaces where nothing is left
unfoldable pub front : ℕ → ℕ → List ℕ
front zero n = []
front (suc w) n = front w (n / 10) ++ (pick (eqb n 0) space (digit n) ∷ [])

-- a number in w columns: its last digit stands in the last one, also where it is 0
unfoldable pub columns : ℕ → ℕ → List ℕ
columns zero n = []
columns (suc w) n = front w (n / 10) ++ (digit n ∷ [])

-- the number that the digits of columns hold, after the number n; a space counts as 0. Whether they are a number in columns is not asked here.
unfoldable pub value_from : ℕ → List ℕ → ℕ
value_from n [] = n
value_from n (c ∷ cs) = value_from (10 * n + (c - digit_zero)) cs

abbrev pub value : List ℕ → ℕ
value cs = value_from 0 cs

-- ---- "right-justified, no leading zeros", said without numbers

abbrev pub Digit : ℕ → Type 0
Digit c = (digit_zero ≤ c) × (c < digit_zero + 10)

-- spaces, then digits, of which the first is no 0 unless it is the only one
pub record Justified (cs : List ℕ) : Type 0 where
  pub spaces : ℕ
  pub first : ℕ
  pub rest : List ℕ
  pub is : cs ≡ replicate spaces space ++ (first ∷ rest)
  pub digits : All Digit (first ∷ rest)
  pub no_zero : (first ≡ digit_zero → ⊥) ⊎ (rest ≡ [])
