-- `merge` answers and leaves what `merge_call` says: the third buffer's size, the two checks, and then the tables.
-- Assumes nothing.
use Rattle.std.proofs.lemmas.Result.{err_from_is_err_and}
use Rattle.std.specs.Prelude.{Err, Ok}
use mathlib.Core.Path.{◌≡◌, sym, ap, ◌∙◌}
use mathlib.Core.Bool.{true}
use lib.ListN.{length}
use borrow.Author.Tests.{not-true, not-false}
use Rattle.device.specs.Calls.{is_image_size, refused}
use Rattle.device.proofs.Calls.{said}
use Rattle.image.specs.Table.{table}
use Rattle.image.specs.Calls.{check_call}
use Rattle.image.proofs.Answers.{check_sound}
use Rattle.merge.specs.Calls.{merge_tables, merge_call}
use Rattle.merge.specs.Says.{Begun, bad-buffer, bad-first, bad-second}
use Rattle.merge.proofs.Grounds.{begun-call, says-merge}
use Rattle.merge.proofs.merge.Goals as goal
use Rattle.merge.proofs.merge.Goals.{Else-not-is_image_size, In_ok-check, In_ok-check-2}

pub returns-then-not-is_image_size : goal.returns-then-not-is_image_size
returns-then-not-is_image_size c =
    let a = c.args in
    let bad = bad-buffer (sym c.is_image_size.ensures ∙ not-true _ c.if-not-is_image_size.true-raw) in
    let done = said (merge_call a.first.now a.second.now a.out.now) (refused 1 a.out.now) (says-merge _ _ _ _ bad) in
    record { value = ap Err c.of.ensures ∙ done.0; out_after = done.1 }

-- the third buffer is an image
sized : (c : Else-not-is_image_size) → is_image_size (length c.args.out.now) ≡ true
sized c = sym c.is_image_size.ensures ∙ not-false _ c.if-not-is_image_size.false-raw

-- the first image is sound, and so is the second
first-checked : (c : In_ok-check) → check_call c.args.first.now ≡ Ok tt
first-checked c = sym c.check.ensures ∙ c.in_ok-check.was

begun : (c : In_ok-check-2) → (is_image_size (length c.args.out.now) ≡ true) → (check_call c.args.first.now ≡ Ok tt) → let a = c.args in Begun a.first.now a.second.now a.out.now
begun c sized first-checked = record { size = sized; first = first-checked; second = sym c.check-2.ensures ∙ c.in_ok-check-2.was }

pub merge_sound-requires : goal.merge_sound-requires
merge_sound-requires c = let b = begun (goal.at.merge_sound-requires c).In_ok-check-2 (sized (goal.at.merge_sound-requires c).Else-not-is_image_size) (first-checked (goal.at.merge_sound-requires c).In_ok-check) in (check_sound _ b.first, check_sound _ b.second, b.size)

pub returns-in_err-check : goal.returns-in_err-check
returns-in_err-check c =
    let a = c.args in
    let p = err_from_is_err_and c.from_residual.result c.from_residual.ensures.1 in
    let bad = bad-first (sized (goal.at.returns-in_err-check c).Else-not-is_image_size) c.in_err-check.field-0.0 (sym c.check.ensures ∙ c.in_err-check.was) in
    let done = said (merge_call a.first.now a.second.now a.out.now) _ (says-merge _ _ _ _ bad) in record { value = rw (p.1, p.2) done.0; out_after = done.1 }

pub returns-in_err-check-2 : goal.returns-in_err-check-2
returns-in_err-check-2 c =
    let a = c.args in
    let p = err_from_is_err_and c.from_residual-in_err-check-2.result c.from_residual-in_err-check-2.ensures.1 in
    let bad = bad-second (sized (goal.at.returns-in_err-check-2 c).Else-not-is_image_size) (first-checked (goal.at.returns-in_err-check-2 c).In_ok-check) c.in_err-check-2.field-0.0 (sym c.check-2.ensures ∙ c.in_err-check-2.was) in
    let done = said (merge_call a.first.now a.second.now a.out.now) _ (says-merge _ _ _ _ bad) in record { value = rw (p.1, p.2) done.0; out_after = done.1 }

pub returns : goal.returns
returns c =
    let a = c.args in
    let done = said (merge_call a.first.now a.second.now a.out.now) (merge_tables (table a.first.now) (table a.second.now) a.out.now) (begun-call _ _ _ (begun (goal.at.returns c).In_ok-check-2 (sized (goal.at.returns c).Else-not-is_image_size) (first-checked (goal.at.returns c).In_ok-check))) in
    record { value = c.merge_sound.ensures.value ∙ done.0; out_after = c.merge_sound.ensures.out_after ∙ done.1 }
