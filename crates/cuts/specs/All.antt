-- All cuts of a tape, as a list (document 02 (e)).
-- Assumes nothing.
use Rattle.std.specs.Prelude.{ℕ, zero, suc, List, [], ◌∷◌, ◌++◌, map, length, take}
use Rattle.device.specs.Tape.{Op}
use Rattle.device.specs.Cut.{pending}

-- a number for each of k lines, from line l on
unfoldable pub each_line : (ℕ → ℕ) → ℕ → ℕ → List ℕ
each_line f l zero = []
each_line f l (suc k) = f l ∷ each_line f (suc l) k

-- their pending stores
abbrev pub pendings : ℕ → ℕ → List Op → List ℕ
pendings l k cs = each_line (λ m. pending m cs) l k

-- k numbers, rising from x, each in front of every list that may follow it
unfoldable pub headed : ℕ → ℕ → (ℕ → List (List ℕ)) → List (List ℕ)
headed x zero rest = []
headed x (suc k) rest = map (λ ys. x ∷ ys) (rest x) ++ headed (suc x) k rest

-- "A choice never exceeds the line's pending stores": one number a line, from 0 to the line's; line 0 in front
unfoldable pub choices_up_to : List ℕ → List (List ℕ)
choices_up_to [] = [] ∷ []
choices_up_to (m ∷ ms) = headed 0 (suc m) (λ x. choices_up_to ms)

-- the choice bytes of the cuts after c commands
abbrev pub choices_after : ℕ → List Op → ℕ → List (List ℕ)
choices_after lines cs c = choices_up_to (pendings 0 lines (take c cs))

-- "every cut of a tape [..] as a count of commands and the choice bytes": after none of the commands, after one, .., after all
unfoldable pub cuts : ℕ → List Op → List (List ℕ)
cuts lines cs = headed 0 (suc (length cs)) (choices_after lines cs)
