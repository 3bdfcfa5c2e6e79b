-- `emit_line`: a head, and the bytes after it.
-- Assumes nothing.
use native.Mathlib.Omega.{arith}
use Rattle.codec.specs.Lists.{part}
use Rattle.codec.proofs.Lists.{length_part}
use Rattle.device.proofs.Encode.{emitted}
use Rattle.device.proofs.emit_line.Goals as goal

pub returns : goal.returns
returns c =
    let a = c.args in
    let new = length_part a.src.now a.from 64 (omega arith) in
    emitted a.tape.now a.at 2 a.line (part a.src.now a.from 64) _ _ c.put_head.ensures c.copy_line.ensures (omega arith)
