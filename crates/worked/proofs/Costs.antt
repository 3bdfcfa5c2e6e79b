-- The claim: every row of what one quote costs holds.
-- Assumes nothing.
use mathlib.Core.Path.{refl}
use Rattle.codec.specs.Lists.{All}
use Rattle.worked.specs.Row.{Holds}
use Rattle.worked.specs.CostRows.{six-flushes, one-flush, cost_rows}
use Rattle.worked.proofs.Open.{opened}
use Rattle.worked.proofs.Short.{insert-one-holds}

six-flushes-holds : Holds six-flushes
unfolding opened
six-flushes-holds = refl

one-flush-holds : Holds one-flush
unfolding opened
one-flush-holds = refl

pub costs-on-paper : All Holds cost_rows
costs-on-paper = (six-flushes-holds, (insert-one-holds, (one-flush-holds, tt)))
