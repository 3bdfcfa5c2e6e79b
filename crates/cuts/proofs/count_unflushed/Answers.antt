-- `count_unflushed`: a store counts one more of its line, a flush leaves none of it, and a barrier changes nothing.
-- Assumes nothing.
use mathlib.Core.Path.{subst}
use lib.ListN.{length}
use Rattle.cuts.specs.Products.{unflushed_after, LineIn}
use Rattle.cuts.specs.declared.Does.{Does}
use Rattle.cuts.proofs.count_unflushed.Goals as goal

pub tally-requires : goal.tally-requires
unfolding LineIn
tally-requires c =
    record { line_in_bounds = (subst (λ (d : Does). LineIn d c.args.line (length c.args.unflushed.now)) c.in-Stores.is c.requires.line_in.0, c.requires.line_in.1); product_value = c.requires.later_value }

pub tally-requires-in-Flushes : goal.tally-requires-in-Flushes
unfolding LineIn
tally-requires-in-Flushes c =
    record { line_in_bounds = (subst (λ (d : Does). LineIn d c.args.line (length c.args.unflushed.now)) c.in-Flushes.is c.requires.line_in.0, c.requires.line_in.1); product_value = c.requires.later_value }

pub returns-in-Stores : goal.returns-in-Stores
unfolding unflushed_after
returns-in-Stores c = record { value = c.tally.ensures.value; unflushed_after = rw c.in-Stores.is c.tally.ensures.counts_after }

pub returns-in-Flushes : goal.returns-in-Flushes
unfolding unflushed_after
returns-in-Flushes c = record { value = c.tally-in-Flushes.ensures.value; unflushed_after = rw c.in-Flushes.is c.tally-in-Flushes.ensures.counts_after }

pub returns-in-Waits : goal.returns-in-Waits
unfolding unflushed_after
returns-in-Waits c = record { value = c.requires.later_value.0; unflushed_after = rw c.in-Waits.is }
