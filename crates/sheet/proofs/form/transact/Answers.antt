-- `transact`: on acceptance the image is what work holds.
-- Assumes nothing.
use mathlib.Core.Path.{refl}
use Rattle.sheet.specs.Steps.{tried}
use Rattle.sheet.proofs.Taking.{accepted-says, refused_says}
use Rattle.sheet.proofs.form.transact.Goals as goal

pub returns-in-Ok : goal.returns-in-Ok
unfolding tried
returns-in-Ok c = let whole =
    let a = c.args in
    accepted-says a.image.now a.edits.now _ c.transaction.ensures.value _ _ _ c.in-Ok.is c.transaction.ensures.work_after c.copy_all.ensures in record { value = whole.0; image_after = whole.1 }

pub returns-in-Err : goal.returns-in-Err
unfolding tried
returns-in-Err c =
    let a = c.args in
    record { value = refused_says a.image.now a.edits.now _ c.transaction.ensures.value _ c.in-Err.is; image_after = refl }
