-- `same`: `==` of two slices is the definition.
-- Assumes nothing.
use mathlib.Core.Path.{◌∙◌}
use Rattle.codec.proofs.Tests.{eqs-pointwise}
use Rattle.codec.proofs.same.Goals as goal

pub returns : goal.returns
returns c = c.eq.ensures ∙ eqs-pointwise c.args.a.now c.args.b.now
