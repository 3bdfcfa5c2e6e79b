-- `put_recovered`: the number and the array of what a recovery answers.
-- Assumes nothing.
use Rattle.std.specs.Prelude.{Err, Ok}
use mathlib.Core.Path.{sym, ◌∙◌}
use Rattle.store.proofs.Written.{lent_none, written}
use Rattle.store.specs.Numbers.{recovered_numbers}
use Rattle.store.proofs.put_recovered.Goals as goal

pub returns-in-Ok : goal.returns-in-Ok
unfolding recovered_numbers
returns-in-Ok c = let whole =
    written recovered_numbers c.args.recovered (Ok c.in-Ok.done) c.in-Ok.is _ _ c.put_numbers.ensures in record { value = whole.0; answer_after = whole.1 }

pub returns-in-Err : goal.returns-in-Err
unfolding recovered_numbers
returns-in-Err c = let whole =
    written recovered_numbers c.args.recovered (Err c.in-Err.refusal) c.in-Err.is _ _ (sym (lent_none _)) in record { value = c.number.ensures ∙ whole.0; answer_after = whole.1 }
