-- `put_long`: what `to_le_bytes` gives are the number's bytes.
-- Assumes nothing.
use mathlib.Core.Path.{ap, ◌∙◌}
use Rattle.codec.specs.Lists.{splice}
use Rattle.codec.proofs.Numbers.{to_le-bytes_of}
use Rattle.codec.proofs.put_long.Goals as goal

pub returns : goal.returns
returns c =
    let a = c.args in
    c.put_bytes.ensures ∙ ap (splice a.s.now a.at) (c.to_le_bytes.ensures ∙ to_le-bytes_of 8 a.v)
