-- What the code keeps count of instead of a list: a command by its line, the number of choices as a product, and where a cut stands.
-- Assumes nothing.
use Rattle.std.specs.Prelude.{ℕ, suc, ◌+◌, ◌*◌, ◌≤◌, ◌<◌, ◌≡◌, ◌⊎◌, Option, None, Some, List, [], ◌∷◌, length, get_or, set, take}
use Rattle.device.specs.Tape.{Op, store, flush, barrier, malformed, decode}
use Rattle.device.specs.Cut.{line_of}
use Rattle.cuts.specs.All.{pendings, headed, choices_after, cuts}
use Rattle.cuts.specs.declared.Does.{Does}
use Rattle.cuts.specs.declared.Does.TheVariants.{Stores, Flushes, Waits}
use Rattle.cuts.specs.declared.Command.{Command}
use Rattle.cuts.specs.declared.Place.{Place}

-- a command by what it does, the line that it stores to or flushes, which is 0 for a barrier, and its bytes on the tape
abbrev pub Describes : Op → Command → Type 0
Describes (store p vs) m = (m.line ≡ line_of p) × (m.size ≡ 4 + length vs) × (m.does ≡ Stores)
Describes (flush l) m = (m.line ≡ l) × (m.size ≡ 4) × (m.does ≡ Flushes)
Describes barrier m = (m.line ≡ 0) × (m.size ≡ 4) × (m.does ≡ Waits)
Describes malformed m = ⊥

-- the lines' pending stores ms, and those that no flush has come after, us: each after one more command, which is of line l. A barrier makes
-- durable what was flushed
unfoldable pub pending_after : Does → ℕ → List ℕ → List ℕ → List ℕ
pending_after Stores l ms us = set ms l (get_or ms l 0 + 1)
pending_after Flushes l ms us = ms
pending_after Waits l ms us = us

unfoldable pub unflushed_after : Does → ℕ → List ℕ → List ℕ
unflushed_after Stores l us = set us l (get_or us l 0 + 1)
unflushed_after Flushes l us = set us l 0
unflushed_after Waits l us = us

-- a line of so many, unless the command is a barrier, which is of none
unfoldable pub LineIn : Does → ℕ → ℕ → Type 0
LineIn Stores l lines = l < lines
LineIn Flushes l lines = l < lines
LineIn Waits l lines = Unit {0}

-- the cuts of a tape over an image of so many lines
abbrev pub cuts_over : ℕ → List ℕ → List (List ℕ)
cuts_over lines tape = cuts lines (decode (64 * lines) tape)

-- the number of choices for lines with so many pending stores
unfoldable pub ways : List ℕ → ℕ
ways [] = 1
ways (m ∷ ms) = suc m * ways ms

-- every line that has a number is among those named
abbrev pub Names : List ℕ → List ℕ → Type 0
Names named ms = (l : ℕ) → ((i : ℕ) → i < length named → get_or named i 0 ≡ l → ⊥) → get_or ms l 0 ≡ 0

-- the number of lines up to the one found and with it
abbrev pub lines_to : Option ℕ → ℕ
lines_to None = 0
lines_to (Some line) = line + 1

-- the highest of the lines named that is below the bound, if one is: no other of them is between it and the bound
pub record Highest (named : List ℕ) (bound : ℕ) (line : Option ℕ) : Type 0 where
  pub within : lines_to line ≤ bound
  pub above : (i : ℕ) → i < length named → get_or named i 0 < bound → get_or named i 0 < lines_to line
  pub is_one : (line ≡ None) ⊎ ((i : ℕ) × (i < length named) × (line ≡ Some (get_or named i 0)))

-- cut number r stands at p: so many cuts have fewer commands. If p is within the tape, ms are the pending stores of the lines there
pub record Sought (lines : ℕ) (cs : List Op) (r : ℕ) (p : Place) (ms named : List ℕ) : Type 0 where
  pub before : length (headed 0 p.commands (choices_after lines cs)) + p.rest ≡ r
  pub at_most : p.commands ≤ suc (length cs)
  pub found : p.commands ≤ length cs → (p.rest < ways ms) × (ms ≡ pendings 0 lines (take p.commands cs)) × Names (take p.commands named) ms
