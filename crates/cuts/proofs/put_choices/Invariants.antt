-- `put_choices`: from the last line named to the first, what is left counts the choices of the lines written.
-- Assumes nothing.
use Rattle.cuts.proofs.Digits.{Digits}
use Rattle.cuts.proofs.put_choices.Given as goal

abbrev pub invariant-loop-line : goal.invariant-loop-line
invariant-loop-line l = Digits l.pending l.r l.left l.bound l.choices

abbrev pub decreases-loop-line : goal.decreases-loop-line
decreases-loop-line l = l.bound
