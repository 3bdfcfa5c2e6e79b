-- Lists of cuts written out, for few lines and commands.
-- Assumes nothing.
use Prim.Native.Nat.{ℕ}
use mathlib.Core.Path.{◌≡◌, refl}
use mathlib.Core.List.{List, [], ◌∷◌}
use Rattle.device.specs.Tape.{store, flush, barrier}
use Rattle.device.specs.Cut.{some, durable, stores_where}
use Rattle.cuts.specs.All.{each_line, headed, choices_up_to, cuts}

-- no command: power fails before the first
empty-tape : cuts 2 [] ≡ (0 ∷ 0 ∷ 0 ∷ []) ∷ []
unfolding cuts headed choices_up_to each_line stores_where
empty-tape = refl

-- a store to line 1, its flush, after which it may still be lost, and the barrier
waited : (v : List ℕ) → cuts 2 (store 64 v ∷ flush 1 ∷ barrier ∷ []) ≡
    (0 ∷ 0 ∷ 0 ∷ []) ∷ (1 ∷ 0 ∷ 0 ∷ []) ∷ (1 ∷ 0 ∷ 1 ∷ []) ∷ (2 ∷ 0 ∷ 0 ∷ []) ∷ (2 ∷ 0 ∷ 1 ∷ []) ∷ (3 ∷ 0 ∷ 0 ∷ []) ∷ []
unfolding cuts headed choices_up_to each_line stores_where some durable
waited v = refl

-- stores to lines 1 and 0: line 0 comes first, whichever was stored to first
two-lines : (v w : List ℕ) → cuts 2 (store 64 v ∷ store 0 w ∷ []) ≡
    (0 ∷ 0 ∷ 0 ∷ []) ∷ (1 ∷ 0 ∷ 0 ∷ []) ∷ (1 ∷ 0 ∷ 1 ∷ []) ∷ (2 ∷ 0 ∷ 0 ∷ []) ∷ (2 ∷ 0 ∷ 1 ∷ []) ∷ (2 ∷ 1 ∷ 0 ∷ []) ∷ (2 ∷ 1 ∷ 1 ∷ []) ∷ []
unfolding cuts headed choices_up_to each_line stores_where some durable
two-lines v w = refl
