-- `emit_settled`: the store, and the flush and the barrier behind it.
-- Assumes nothing.
use Prim.Native.Nat.{◌+◌, ◌*◌}
use mathlib.Core.List.{[], ◌∷◌}
use native.Mathlib.Omega.{arith}
use Rattle.codec.specs.Numbers.{bytes_of}
use Rattle.device.specs.Tape.{store, flush}
use Rattle.device.specs.Cut.{with_barrier}
use Rattle.tape_write.proofs.Encoding.{tape-then}
use Rattle.tape_write.proofs.Endings.{length-number}
use Rattle.tape_write.proofs.ends.emit_settled.Goals as goal

pub returns : goal.returns
returns c =
    tape-then c.args.tape.now _ _ c.args.at (c.args.at + 12) (store (8 * c.args.word) (bytes_of 8 c.args.v) ∷ []) (with_barrier (flush 0 ∷ [])) c.emit_number.ensures (omega (arith, length-number c.args.word c.args.v)) c.emit_wait.ensures
