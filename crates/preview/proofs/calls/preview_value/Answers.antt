-- `preview_value` lends the part that the preview names, from the slice that it names.
-- Assumes nothing.
use Rattle.std.specs.Prelude.{Ok, Some}
use Prim.Native.Nat.{ℕ, ◌+◌, ◌≤◌}
use mathlib.Core.Path.{sym, ap, ◌∙◌}
use native.Mathlib.Omega.{arith}
use native.Mathlib.Nat.{add-sub_cancel_left}
use lib.ListN.{length, take, drop}
use Rattle.codec.specs.Lists.{part}
use Rattle.preview.specs.Calls.{part_of, preview_value_call}
use Rattle.preview.proofs.Answers.{preview-inside}
use Rattle.preview.proofs.calls.preview_value.Goals as goal
use Rattle.preview.proofs.calls.preview_value.Goals.{In-Ok-Some-InImage, In-Ok-Some-InList}

-- each part lies in its slice
listed : (c : In-Ok-Some-InList) → c.in-Ok-Some-InList.part.offset + c.in-Ok-Some-InList.part.length ≤ length c.args.edits.now
listed c = preview-inside _ _ _ _ (sym c.preview.ensures ∙ c.in-Ok-Some-InList.is ∙ ap Ok (c.in-Ok-Some-InList.field-0-is ∙ ap Some c.in-Ok-Some-InList.field-0-0-is))

stored : (c : In-Ok-Some-InImage) → c.in-Ok-Some-InImage.part.offset + c.in-Ok-Some-InImage.part.length ≤ length c.args.image.now
stored c = preview-inside _ _ _ _ (sym c.preview.ensures ∙ c.in-Ok-Some-InImage.is ∙ ap Ok (c.in-Ok-Some-InImage.field-0-is ∙ ap Some c.in-Ok-Some-InImage.field-0-0-is))

pub overflow_add-end : goal.overflow_add-end
overflow_add-end c = omega (arith, listed (goal.at.overflow_add-end c).In-Ok-Some-InList)

pub slice_bounds-result-end : goal.slice_bounds-result-end
slice_bounds-result-end c = omega (arith, listed (goal.at.slice_bounds-result-end c).In-Ok-Some-InList)

pub overflow_add-end-in-Ok-Some-InImage : goal.overflow_add-end-in-Ok-Some-InImage
overflow_add-end-in-Ok-Some-InImage c = omega (arith, stored (goal.at.overflow_add-end-in-Ok-Some-InImage c).In-Ok-Some-InImage)

pub slice_bounds-result-end-in-Ok-Some-InImage : goal.slice_bounds-result-end-in-Ok-Some-InImage
slice_bounds-result-end-in-Ok-Some-InImage c = omega (arith, stored (goal.at.slice_bounds-result-end-in-Ok-Some-InImage c).In-Ok-Some-InImage)

pub returns-in-Ok-Some-InList : goal.returns-in-Ok-Some-InList
unfolding preview_value_call part_of part
returns-in-Ok-Some-InList c =
    let a = c.args in
    ap (λ (n : ℕ). take n (drop c.in-Ok-Some-InList.part.offset a.edits.now)) (add-sub_cancel_left c.in-Ok-Some-InList.part.offset c.in-Ok-Some-InList.part.length) ∙ ap (part_of a.image.now a.edits.now) (sym (sym c.preview.ensures ∙ c.in-Ok-Some-InList.is ∙ ap Ok (c.in-Ok-Some-InList.field-0-is ∙ ap Some c.in-Ok-Some-InList.field-0-0-is)))

pub returns-in-Ok-Some-InImage : goal.returns-in-Ok-Some-InImage
unfolding preview_value_call part_of part
returns-in-Ok-Some-InImage c =
    let a = c.args in
    ap (λ (n : ℕ). take n (drop c.in-Ok-Some-InImage.part.offset a.image.now)) (add-sub_cancel_left c.in-Ok-Some-InImage.part.offset c.in-Ok-Some-InImage.part.length) ∙ ap (part_of a.image.now a.edits.now) (sym (sym c.preview.ensures ∙ c.in-Ok-Some-InImage.is ∙ ap Ok (c.in-Ok-Some-InImage.field-0-is ∙ ap Some c.in-Ok-Some-InImage.field-0-0-is)))

pub returns-in-Ok-None : goal.returns-in-Ok-None
unfolding preview_value_call part_of
returns-in-Ok-None c = ap (part_of c.args.image.now c.args.edits.now) (sym (sym c.preview.ensures ∙ c.in-Ok-None.is ∙ ap Ok c.in-Ok-None.field-0-is))

pub returns-in-Err : goal.returns-in-Err
unfolding preview_value_call part_of
returns-in-Err c = ap (part_of c.args.image.now c.args.edits.now) (sym (sym c.preview.ensures ∙ c.in-Err.is))
