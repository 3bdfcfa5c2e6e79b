-- `count_pending`: a store counts one more of its line, a flush changes nothing, and a barrier leaves what was not flushed.
-- Assumes nothing.
use mathlib.Core.Path.{sym, ap, ◌∙◌, subst}
use lib.ListN.{length}
use Rattle.cuts.specs.Products.{pending_after, LineIn, ways}
use Rattle.cuts.specs.declared.Does.{Does}
use Rattle.cuts.proofs.count_pending.Goals as goal

pub tally-requires : goal.tally-requires
unfolding LineIn
tally-requires c =
    record { line_in_bounds = (subst (λ (d : Does). LineIn d c.args.line (length c.args.pending.now)) c.in-Stores.is c.requires.line_in.0, c.requires.line_in.3); product_value = (c.requires.product_value.0, c.requires.product_value.2) }

pub returns-in-Stores : goal.returns-in-Stores
unfolding pending_after
returns-in-Stores c = record { value = c.tally.ensures.value; pending_after = rw c.in-Stores.is c.tally.ensures.counts_after }

pub returns-in-Flushes : goal.returns-in-Flushes
unfolding pending_after
returns-in-Flushes c = record { value = c.requires.product_value.0; pending_after = rw c.in-Flushes.is }

pub returns-in-Waits : goal.returns-in-Waits
unfolding pending_after
returns-in-Waits c =
    record { value = c.requires.product_value.1 ∙ sym (ap ways c.copy_all.ensures); pending_after = rw c.in-Waits.is c.copy_all.ensures }
