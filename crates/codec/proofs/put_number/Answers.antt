-- `put_number`: what `to_le_bytes` gives are the number's two low bytes.
-- Assumes nothing.
use Prim.Native.Nat.{◌%◌}
use mathlib.Core.Path.{ap, ◌∙◌}
use Rattle.codec.specs.Lists.{splice}
use Rattle.codec.proofs.Numbers.{to_le-bytes_of, bytes_of-two}
use Rattle.codec.proofs.put_number.Goals as goal

pub returns : goal.returns
returns c =
    let a = c.args in
    c.put_bytes.ensures ∙ ap (splice a.s.now a.at) (c.to_le_bytes.ensures ∙ to_le-bytes_of 2 (a.v % 65536) ∙ bytes_of-two a.v)
