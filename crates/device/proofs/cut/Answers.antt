-- `cut`: each test on the way is one of the definition's.
-- Assumes nothing.
use mathlib.Core.Path.{◌≡◌, refl, sym, ap, ◌∙◌}
use native.Mathlib.Omega.{arith}
use mathlib.Core.Bool.{true}
use lib.ListN.{length, get_or}
use borrow.Author.Tests.{eq-eqb, ne_eqb, not-true, not-false}
use Rattle.device.specs.Calls.{is_image_size, refused, cut_call}
use Rattle.std.specs.Prelude.{Err}
use Rattle.device.specs.Calls.{cut_tape}
use Rattle.device.proofs.Calls.{holds, fails, said, image-size-le}
use Rattle.device.proofs.cut.Goals as goal
use Rattle.device.proofs.cut.Goals.{Else-choices-n, Else-not-is_image_size}

pub returns-then-not-is_image_size : goal.returns-then-not-is_image_size
unfolding cut_call
returns-then-not-is_image_size c =
    let a = c.args in
    let s = said (cut_call a.image.now a.work.now a.tape.now a.c a.choices.now) (refused 1 a.work.now) (fails _ _ _ _ (sym c.is_image_size.ensures ∙ not-true _ c.if-not-is_image_size.true-raw)) in
    record { value = ap Err c.of.ensures ∙ s.0; work_after = s.1 }

sized : (c : Else-not-is_image_size) → is_image_size (length c.args.image.now) ≡ true
sized c = sym c.is_image_size.ensures ∙ not-false _ c.if-not-is_image_size.false-raw

pub returns-then-work-n : goal.returns-then-work-n
unfolding cut_call
returns-then-work-n c =
    let a = c.args in
    let s = said (cut_call a.image.now a.work.now a.tape.now a.c a.choices.now) (refused 2 a.work.now) (holds _ _ _ _ (sized (goal.at.returns-then-work-n c).Else-not-is_image_size) ∙ fails _ _ _ _ (ne_eqb _ _ c.if-work-n.true)) in
    record { value = ap Err c.of-then-work-n.ensures ∙ s.0; work_after = s.1 }

pub returns-then-choices-n : goal.returns-then-choices-n
unfolding cut_call
returns-then-choices-n c =
    let a = c.args in
    let s = said (cut_call a.image.now a.work.now a.tape.now a.c a.choices.now) (refused 16 a.work.now) (holds _ _ _ _ (sized (goal.at.returns-then-choices-n c).Else-not-is_image_size) ∙ holds _ _ _ _ (eq-eqb _ _ c.if-work-n.false) ∙ fails _ _ _ _ (ne_eqb _ _ c.if-choices-n.true)) in
    record { value = ap Err c.of-then-choices-n.ensures ∙ s.0; work_after = s.1 }

-- what is left once the buffers are of the right sizes
past : (c : Else-choices-n) →
    let a = c.args in
    cut_call a.image.now a.work.now a.tape.now a.c a.choices.now ≡ cut_tape a.image.now a.work.now a.tape.now a.c (λ l. get_or a.choices.now l 0)
unfolding cut_call
past c = holds _ _ _ _ (sym c.is_image_size.ensures ∙ not-false _ c.if-not-is_image_size.false-raw) ∙ holds _ _ _ _ (eq-eqb _ _ c.if-work-n.false) ∙ holds _ _ _ _ (eq-eqb _ _ c.if-choices-n.false)

pub returns-then-n-eq8192 : goal.returns-then-n-eq8192
returns-then-n-eq8192 c = let s = said _ _ (past (goal.at.returns-then-n-eq8192 c).Else-choices-n) in record { value = c.cut_with.ensures.value ∙ s.0; work_after = c.cut_with.ensures.work_after ∙ s.1 }

pub cut_with-requires-2 : goal.cut_with-requires-2
cut_with-requires-2 c = let small = image-size-le _ (sized (goal.at.cut_with-requires-2 c).Else-not-is_image_size) in record { room = (omega arith, refl); sizes = (small, c.if-work-n.false, c.if-choices-n.false) }

pub returns : goal.returns
returns c = let s = said _ _ (past (goal.at.returns c).Else-choices-n) in record { value = c.cut_with-2.ensures.value ∙ s.0; work_after = c.cut_with-2.ensures.work_after ∙ s.1 }
