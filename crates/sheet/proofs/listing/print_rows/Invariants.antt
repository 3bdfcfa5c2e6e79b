-- `print_rows`: what is left to print is the rest of the listing.
-- Assumes nothing.
use Prim.Native.Nat.{◌-◌}
use Rattle.sheet.proofs.Printing.{Listed}
use Rattle.sheet.proofs.listing.print_rows.Given as goal

abbrev pub invariant-loop-row : goal.invariant-loop-row
invariant-loop-row l = Listed l.image l.rows l.last

-- keys rise
abbrev pub decreases-loop-row : goal.decreases-loop-row
decreases-loop-row l = 1000000000000 - l.last.key
