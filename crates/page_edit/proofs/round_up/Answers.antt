-- `round_up`: the definition's sum.
-- Assumes nothing.
use mathlib.Core.Path.{refl}
use Rattle.page.specs.Layout.{up8}
use Rattle.page_edit.proofs.round_up.Goals as goal

pub returns : goal.returns
unfolding up8
returns c = refl
