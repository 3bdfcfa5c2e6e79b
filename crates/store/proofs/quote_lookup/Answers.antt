-- `quote_lookup`: the number and the array of what the call answers.
-- Assumes nothing.
use Rattle.std.specs.Prelude.{Err, None, Ok, Some}
use mathlib.Core.Path.{sym, ap, ◌∙◌}
use Rattle.store.specs.Numbers.{lookup_numbers}
use Rattle.store.proofs.Written.{lent_none, written}
use Rattle.store.proofs.quote_lookup.Goals as goal

pub returns-in-Ok-Some : goal.returns-in-Ok-Some
unfolding lookup_numbers
returns-in-Ok-Some c = let whole =
    written lookup_numbers _ (Ok (Some c.in-Ok-Some.part)) (sym c.lookup.ensures ∙ c.in-Ok-Some.is ∙ ap Ok c.in-Ok-Some.field-0-is) _ _ c.put_numbers.ensures in record { value = whole.0; answer_after = whole.1 }

pub returns-in-Ok-None : goal.returns-in-Ok-None
unfolding lookup_numbers
returns-in-Ok-None c = let whole = written lookup_numbers _ (Ok None) (sym c.lookup.ensures ∙ c.in-Ok-None.is ∙ ap Ok c.in-Ok-None.field-0-is) _ _ c.put_numbers-in-Ok-None.ensures in record { value = whole.0; answer_after = whole.1 }

pub returns-in-Err : goal.returns-in-Err
unfolding lookup_numbers
returns-in-Err c = let whole = written lookup_numbers _ (Err c.in-Err.refusal) (sym c.lookup.ensures ∙ c.in-Err.is) _ _ (sym (lent_none _)) in record { value = c.number.ensures ∙ whole.0; answer_after = whole.1 }
