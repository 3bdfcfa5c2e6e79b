-- `copy`: the ranges are parts.
-- Assumes nothing.
use mathlib.Core.Path.{ap, ◌∙◌}
use native.Mathlib.Omega.{arith}
use Prim.Native.Nat.{ℕ}
use lib.ListN.{take, drop, length-take, length-drop}
use Rattle.codec.specs.Lists.{part, splice}
use Rattle.codec.proofs.Lists.{put_mid-splice}
use Rattle.codec.proofs.copy.Goals as goal

pub returns : goal.returns
unfolding part
returns c =
    let a = c.args in
    put_mid-splice a.dst.now _ a.at _ (omega (arith, c.copy_from_slice.ensures.len, length-take {A = ℕ}, length-drop {A = ℕ}))
    ∙ ap (splice a.dst.now a.at) (c.copy_from_slice.ensures.after ∙ ap (λ (n : ℕ). take n (drop a.from a.src.now)) (omega arith))
