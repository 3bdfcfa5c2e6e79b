-- `cut_with`: the choices are copied over zeros.
-- Assumes nothing.
use mathlib.Core.Path.{ap, ◌∙◌}
use Rattle.device.specs.Calls.{cut_tape}
use Rattle.device.proofs.Counts.{copied-choices}
use Rattle.device.proofs.Calls.{said}
use Rattle.device.proofs.cut_with.Goals as goal

pub returns : goal.returns
returns g c =
    let a = c.args in
    let s = said _ _ (ap (cut_tape a.image.now a.work.now a.tape.now a.c) (copied-choices g.row.LINES a.choices.now _ c.copy.ensures)) in
    record { value = c.cut_tape.ensures.value ∙ s.0; work_after = c.cut_tape.ensures.work_after ∙ s.1 }
