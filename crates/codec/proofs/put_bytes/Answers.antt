-- `put_bytes`: the range `at..at + N` is written over.
-- Assumes nothing.
use mathlib.Core.Path.{ap, ◌∙◌}
use native.Mathlib.Omega.{arith}
use Prim.Native.Nat.{ℕ}
use lib.ListN.{length-take, length-drop}
use Rattle.codec.specs.Lists.{splice}
use Rattle.codec.proofs.Lists.{put_mid-splice}
use Rattle.codec.proofs.put_bytes.Goals as goal

pub returns : goal.returns
returns g c =
    let a = c.args in
    put_mid-splice a.s.now _ a.at _ (omega (arith, c.copy_from_slice.ensures.len, length-take {A = ℕ}, length-drop {A = ℕ})) ∙ ap (splice a.s.now a.at) c.copy_from_slice.ensures.after
