-- `quote_preview`: the number and the array of what the call answers.
-- Assumes nothing.
use Rattle.std.specs.Prelude.{Err, None, Ok, Some}
use mathlib.Core.Path.{sym, ap, ◌∙◌}
use Rattle.preview.specs.declared.Preview.TheVariants.{InImage, InList}
use Rattle.store.specs.Numbers.{preview_numbers}
use Rattle.store.proofs.Written.{written}
use Rattle.store.proofs.quote_preview.Goals as goal

pub returns-in-Ok-Some-InList : goal.returns-in-Ok-Some-InList
unfolding preview_numbers
returns-in-Ok-Some-InList c = let whole =
    written preview_numbers _ (Ok (Some (InList c.in-Ok-Some-InList.part))) (sym c.preview.ensures ∙ c.in-Ok-Some-InList.is ∙ ap Ok (c.in-Ok-Some-InList.field-0-is ∙ ap Some c.in-Ok-Some-InList.field-0-0-is)) _ _ c.put_numbers.ensures in record { value = whole.0; answer_after = whole.1 }

pub returns-in-Ok-Some-InImage : goal.returns-in-Ok-Some-InImage
unfolding preview_numbers
returns-in-Ok-Some-InImage c = let whole =
    written preview_numbers _ (Ok (Some (InImage c.in-Ok-Some-InImage.part))) (sym c.preview.ensures ∙ c.in-Ok-Some-InImage.is ∙ ap Ok (c.in-Ok-Some-InImage.field-0-is ∙ ap Some c.in-Ok-Some-InImage.field-0-0-is)) _ _ c.put_numbers-in-Ok-Some-InImage.ensures in record { value = whole.0; answer_after = whole.1 }

pub returns-in-Ok-None : goal.returns-in-Ok-None
unfolding preview_numbers
returns-in-Ok-None c = let whole = written preview_numbers _ (Ok None) (sym c.preview.ensures ∙ c.in-Ok-None.is ∙ ap Ok c.in-Ok-None.field-0-is) _ _ c.put_numbers-in-Ok-None.ensures in record { value = whole.0; answer_after = whole.1 }

pub returns-in-Err : goal.returns-in-Err
unfolding preview_numbers
returns-in-Err c = let whole =
    written preview_numbers _ (Err c.in-Err.refusal) (sym c.preview.ensures ∙ c.in-Err.is) _ _ c.put_numbers-in-Err.ensures in record { value = c.number.ensures ∙ whole.0; answer_after = whole.1 }
