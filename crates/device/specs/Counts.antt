-- What the code of run and cut keeps count of: a command's size by its head, the commands of a tape, and where each line's flushes end.
-- Assumes nothing.
use Rattle.std.specs.Prelude.{ℕ, ◌+◌, ◌-◌, ◌/◌, ◌<◌, ◌≡◌, true, false, ◌||◌, List, [], ◌∷◌, length, take, get_or, set, ltb, leb, eqb, Option, Some, None}
use Rattle.codec.specs.Lists.{pick, splice}
use Rattle.device.specs.Tape.{Op, store, flush, barrier, malformed, well_formed, is_barrier}
use Rattle.device.specs.Cut.{flushes_line, some}
use Rattle.device.specs.declared.Judged.{Judged}

-- the bytes of a command whose kind and zero byte are this number of two bytes; 0 if it is none
unfoldable pub size_of : ℕ → ℕ
size_of head = pick (eqb head 1) 12 (pick (eqb head 2) 68 (pick (eqb head 3) 4 (pick (eqb head 4) 4 0)))

-- a size, unless it is 0
abbrev pub sized : ℕ → Option ℕ
sized k = pick (eqb k 0) None (Some k)

-- the number of commands, unless one is malformed
abbrev pub scanned : List Op → Option ℕ
scanned cs = pick (well_formed cs) (Some (length cs)) None

-- the commands up to the last barrier, that one too: those whose flushes are waited for
unfoldable pub finished : List Op → List Op
finished [] = []
finished (o ∷ cs) = pick (some is_barrier (o ∷ cs)) (o ∷ finished cs) []

-- where the last flush of line l ends on the tape, on which these commands start at `at`; 0 if there is none
unfoldable pub flush_end : ℕ → ℕ → List Op → ℕ
flush_end l at [] = 0
flush_end l at (store p vs ∷ cs) = flush_end l (at + (4 + length vs)) cs
flush_end l at (flush m ∷ cs) = pick (some (flushes_line l) cs) (flush_end l (at + 4) cs) (pick (eqb m l) (at + 4) 0)
flush_end l at (barrier ∷ cs) = flush_end l (at + 4) cs
flush_end l at (malformed ∷ cs) = flush_end l at cs

-- what is noted of a tape: two numbers a line, first of every line where its last flush ends, then of every line where the last one ended that a
-- barrier had come after when the last flush came. Where line l's last flush ends that a barrier comes after, if the last barrier ends at `fence`
abbrev pub flush_done : List ℕ → ℕ → ℕ → ℕ
flush_done flushes fence l = pick (leb (get_or flushes l 0) fence) (get_or flushes l 0) (get_or flushes (length flushes / 2 + l) 0)

-- the same once a flush of line l has come, which ends at `end`
abbrev pub note_flush : List ℕ → ℕ → ℕ → ℕ → List ℕ
note_flush flushes fence l end = set (set flushes (length flushes / 2 + l) (flush_done flushes fence l)) l end

-- what is noted, with the last barrier's end, says of these commands where each line's last flush ends that a barrier comes after
abbrev pub Tells : List ℕ → ℕ → List Op → Type 0
Tells flushes fence cs = (l : ℕ) → l < length flushes / 2 → flush_done flushes fence l ≡ flush_end l 0 (finished cs)

-- what reading these commands finds: a malformed one, or how many they are, and then the notes tell of the first c
unfoldable pub Found : ℕ → List Op → List ℕ → Option Judged → Type 0
Found c cs flushes (Some j) = (well_formed cs ≡ true) × (j.count ≡ length cs) × Tells flushes j.fence (take c cs)
Found c cs flushes None = well_formed cs ≡ false

-- a store at `at` of the tape, of these bytes at p in `line`: it is made if the line's last flush that is done ends past it or its choice is not used
-- up, of which it takes one in the second case
pub record Kept (work left : List ℕ) (done at line p : ℕ) (vs : List ℕ) (work' left' : List ℕ) : Type 0 where
  pub made : work' ≡ pick (ltb at done || ltb 0 (get_or left line 0)) (splice work p vs) work
  pub counted : left' ≡ pick (ltb at done) left (set left line (get_or left line 0 - 1))
