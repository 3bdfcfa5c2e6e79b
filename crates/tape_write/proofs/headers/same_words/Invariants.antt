-- `same_words`: what differed so far, with what is left to compare, tells as much as the whole.
-- Assumes nothing.
use Prim.Native.Nat.{◌+◌, ◌-◌, ◌*◌}
use mathlib.Core.Path.{◌≡◌}
use mathlib.Core.Bool.{◌&&◌}
use lib.Dec.{eqb}
use Rattle.codec.specs.Lists.{part, eqs}
use Rattle.tape_write.proofs.headers.same_words.Given as goal

abbrev pub invariant-loop-i : goal.invariant-loop-i
invariant-loop-i l = (eqb l.differ 0 && eqs (part l.a (l.at + 8 * l.i) (8 * (l.n - l.i))) (part l.b (l.at + 8 * l.i) (8 * (l.n - l.i)))) ≡ eqs (part l.a l.at (8 * l.n)) (part l.b l.at (8 * l.n))
