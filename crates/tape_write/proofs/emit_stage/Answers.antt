-- `emit_stage`: the chain of its three writers.
-- Assumes nothing.
use mathlib.Core.Path.{refl}
use native.Mathlib.Omega.{arith}
use Rattle.tape_write.proofs.Encoding.{closing-size}
use Rattle.tape_write.proofs.StageTape.{stage-chain}
use Rattle.tape_write.proofs.emit_stage.Goals as goal

pub emit_flushes-requires : goal.emit_flushes-requires
emit_flushes-requires c = omega (arith, closing-size c.args.lines)

pub overflow_mul-lines : goal.overflow_mul-lines
overflow_mul-lines c = omega (arith, closing-size c.args.lines)

pub overflow_add-flushes : goal.overflow_add-flushes
overflow_add-flushes c = omega (arith, closing-size c.args.lines)

pub emit_closing-requires : goal.emit_closing-requires
emit_closing-requires c = omega (arith, closing-size c.args.lines)

pub returns : goal.returns
returns c =
    stage-chain c.args.work.now c.args.words.now c.args.tape.now _ _ _ _ c.args.lines c.requires.1 refl c.requires.2 c.emit_words.ensures c.emit_flushes.ensures c.emit_closing.ensures
