-- `put_transacted`: the number and the array of what a transaction answers.
-- Assumes nothing.
use mathlib.Core.Path.{◌∙◌}
use Rattle.std.specs.Prelude.{Err, Ok}
use Rattle.store.proofs.Written.{written}
use Rattle.store.specs.Numbers.{transacted_numbers}
use Rattle.store.proofs.put_transacted.Goals as goal

pub returns-in-Ok : goal.returns-in-Ok
unfolding transacted_numbers
returns-in-Ok c = let whole =
    written transacted_numbers c.args.transacted (Ok c.in-Ok.commit) c.in-Ok.is _ _ c.put_commit.ensures in record { value = whole.0; answer_after = whole.1 }

pub returns-in-Err : goal.returns-in-Err
unfolding transacted_numbers
returns-in-Err c = let whole =
    written transacted_numbers c.args.transacted (Err c.in-Err.refusal) c.in-Err.is _ _ c.put_numbers.ensures in record { value = c.number.ensures ∙ whole.0; answer_after = whole.1 }
