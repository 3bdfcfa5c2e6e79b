-- `emit_word`: a head, and the bytes after it.
-- Assumes nothing.
use native.Mathlib.Omega.{arith}
use Rattle.codec.specs.Lists.{part}
use Rattle.codec.proofs.Lists.{length_part}
use Rattle.device.proofs.Encode.{emitted}
use Rattle.device.proofs.emit_word.Goals as goal

pub returns : goal.returns
returns c =
    let a = c.args in
    let new = length_part a.src.now a.from 8 (omega arith) in
    emitted a.tape.now a.at 1 a.word (part a.src.now a.from 8) _ _ c.put_head.ensures c.copy_word.ensures (omega arith)
