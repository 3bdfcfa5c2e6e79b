-- `fill`: the range `at..at + n` is written over.
-- Assumes nothing.
use mathlib.Core.Path.{ap, ◌∙◌}
use native.Mathlib.Omega.{arith}
use Prim.Native.Nat.{ℕ}
use lib.ListN.{replicate, length-take, length-drop}
use Rattle.codec.specs.Lists.{splice}
use Rattle.codec.proofs.Lists.{put_mid-splice}
use Rattle.codec.proofs.fill.Goals as goal

pub returns : goal.returns
returns c =
    let a = c.args in
    put_mid-splice a.dst.now _ a.at _ (omega (arith, c.fill.ensures.len, length-take {A = ℕ}, length-drop {A = ℕ}))
    ∙ ap (splice a.dst.now a.at) (c.fill.ensures.after (λ y h. h) ∙ ap (λ (n : ℕ). replicate n a.value) (omega (arith, length-take {A = ℕ}, length-drop {A = ℕ})))
