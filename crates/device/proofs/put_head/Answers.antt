-- `put_head`: two numbers of two bytes are the head's bytes.
-- Assumes nothing.
use Prim.Native.Nat.{◌+◌}
use mathlib.Core.Path.{◌≡◌, ap, ◌∙◌}
use native.Mathlib.Omega.{arith}
use lib.ListN.{length}
use Rattle.codec.specs.Lists.{splice}
use Rattle.codec.specs.Numbers.{bytes_of}
use Rattle.codec.proofs.Lists.{splice-next}
use Rattle.codec.proofs.Numbers.{length-bytes_of}
use Rattle.device.proofs.Encode.{head_bytes-two}
use Rattle.device.proofs.put_head.Goals as goal

pub returns : goal.returns
returns c =
    let a = c.args in
    let four : length (bytes_of 2 a.kind) ≡ 2 = length-bytes_of 2 a.kind in
    let two : length (bytes_of 2 a.place) ≡ 2 = length-bytes_of 2 a.place in
    c.put_number-2.ensures
    ∙ splice-next a.tape.now a.at (bytes_of 2 a.kind) (bytes_of 2 a.place) _ (a.at + 2) c.put_number.ensures (omega arith) (omega arith)
    ∙ ap (splice a.tape.now a.at) (head_bytes-two a.kind a.place c.requires.1)
