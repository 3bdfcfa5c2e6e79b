-- `emit_ending`: with the root word or without.
-- Assumes nothing.
use Prim.Native.Nat.{◌+◌, ◌*◌}
use mathlib.Core.Path.{sym, ap, ◌∙◌}
use mathlib.Core.List.{List, [], ◌∷◌}
use native.Mathlib.Omega.{arith}
use lib.Seq.{sets}
use Rattle.codec.specs.Numbers.{bytes_of}
use Rattle.device.specs.Tape.{Op, tape_bytes, store}
use Rattle.tape_write.proofs.Encoding.{tape-then}
use Rattle.tape_write.proofs.Endings.{length-number, ending-same, ending-other}
use Rattle.tape_write.proofs.ends.emit_ending.Goals as goal

pub returns-then-same : goal.returns-then-same
returns-then-same c =
    rw c.if-same.true (c.emit_settled.ensures ∙ ap (λ (cs : List Op). sets c.args.tape.now c.args.at (tape_bytes cs)) (sym (ending-same c.args.root)))

pub returns-else-same : goal.returns-else-same
returns-else-same c =
    rw c.if-same.false (tape-then c.args.tape.now _ _ c.args.at (c.args.at + 12) (store (8 * 1) (bytes_of 8 c.args.root) ∷ []) _ c.emit_number.ensures (omega (arith, length-number 1 c.args.root)) c.emit_settled-else-same.ensures ∙ ap (λ (cs : List Op). sets c.args.tape.now c.args.at (tape_bytes cs)) (sym (ending-other c.args.root)))
