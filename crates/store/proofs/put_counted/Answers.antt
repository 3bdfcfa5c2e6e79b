-- `put_counted`: the number and the array of what a call on all cuts answers.
-- Assumes nothing.
use Rattle.std.specs.Prelude.{Err, Ok}
use mathlib.Core.Path.{sym, ◌∙◌}
use Rattle.store.proofs.Written.{lent_none, written}
use Rattle.store.specs.Numbers.{counted_numbers}
use Rattle.store.proofs.put_counted.Goals as goal

pub returns-in-Ok : goal.returns-in-Ok
unfolding counted_numbers
returns-in-Ok c = let whole =
    written counted_numbers c.args.counted (Ok c.in-Ok.number) c.in-Ok.is _ _ c.put_numbers.ensures in record { value = whole.0; answer_after = whole.1 }

pub returns-in-Err : goal.returns-in-Err
unfolding counted_numbers
returns-in-Err c = let whole =
    written counted_numbers c.args.counted (Err c.in-Err.refusal) c.in-Err.is _ _ (sym (lent_none _)) in record { value = c.number.ensures ∙ whole.0; answer_after = whole.1 }
