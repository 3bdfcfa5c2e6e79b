-- What is promised of the device, without the functions that say it (document 02 (h)).
-- Assumes nothing.
use Rattle.std.specs.Prelude.{ℕ, ◌≡◌, List, ◌∷◌, ◌++◌}
use Rattle.device.specs.Tape.{Op, flush, barrier}

-- "its line has been flushed after it and a barrier has come after that flush": of the commands cs after a store to line l, one flushes the line,
-- and a barrier comes after it
pub record Waited (l : ℕ) (cs : List Op) : Type 0 where
  pub before : List Op
  pub between : List Op
  pub rest : List Op
  pub shape : cs ≡ before ++ (flush l ∷ (between ++ (barrier ∷ rest)))
