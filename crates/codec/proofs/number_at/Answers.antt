-- `number_at`: what `from_le_bytes` gives is the number of the part.
-- Assumes nothing.
use mathlib.Core.Path.{ap, ◌∙◌}
use native.Mathlib.Omega.{arith}
use lib.ListN.{length}
use Rattle.codec.specs.Numbers.{number}
use Rattle.codec.proofs.Lists.{length_part}
use Rattle.codec.proofs.Numbers.{from_le-number}
use Rattle.codec.proofs.number_at.Goals as goal

pub returns : goal.returns
returns c =
    let a = c.args in
    let n = ap length c.bytes_at.ensures ∙ length_part a.s.now a.at 2 c.requires in
    (c.from.ensures ∙ c.from_le_bytes.ensures ∙ from_le-number c.bytes_at.result 1 n ∙ ap number c.bytes_at.ensures, omega arith)
