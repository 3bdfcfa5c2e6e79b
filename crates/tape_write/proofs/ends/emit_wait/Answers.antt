-- `emit_wait`: the flush, and the barrier behind it.
-- Assumes nothing.
use Prim.Native.Nat.{◌+◌}
use mathlib.Core.Path.{refl, ◌∙◌}
use mathlib.Core.List.{[], ◌∷◌}
use native.Mathlib.Omega.{arith}
use Rattle.device.specs.Tape.{barrier}
use Rattle.tape_write.proofs.Encoding.{flush-next, barrier-last}
use Rattle.tape_write.proofs.ends.emit_wait.Goals as goal

pub returns : goal.returns
returns c =
    barrier-last _ _ (c.args.at + 4) c.emit_barrier.ensures (omega (arith, c.emit_flush.auto.tape))
    ∙ flush-next c.args.tape.now _ c.args.at (c.args.at + 4) (barrier ∷ []) c.args.line c.emit_flush.ensures refl (omega arith)
