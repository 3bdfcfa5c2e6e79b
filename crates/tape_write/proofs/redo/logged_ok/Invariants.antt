-- `logged_ok`: what the marks leave to be tested of the headers from the i-th on is the whole test.
-- Assumes nothing.
use Prim.Native.Nat.{◌+◌, ◌-◌}
use mathlib.Core.Path.{◌≡◌}
use mathlib.Core.List.{map}
use Rattle.image.specs.Marks.{claims}
use Rattle.journal.specs.Log.{own_page}
use Rattle.journal.specs.Recovery.{lines_from, logged, logged_ok}
use Rattle.tape_write.proofs.redo.logged_ok.Given as goal

abbrev pub invariant-loop-i : goal.invariant-loop-i
invariant-loop-i l = claims l.n l.marks (map own_page (lines_from (l.headers - l.i) (l.i + 1) l.image)) ≡ logged_ok l.n (logged l.headers l.image)
