-- `emit_replay`: the chain of its two writers.
-- Assumes nothing.
use native.Mathlib.Omega.{arith}
use Rattle.journal.specs.Recovery.{logged}
use Rattle.tape_write.specs.Sizes.{replay_bytes}
use Rattle.tape_write.proofs.LogLines.{logged-lines, logged-length}
use Rattle.tape_write.proofs.Endings.{replay-chain}
use Rattle.tape_write.proofs.ends.emit_replay.Goals as goal

pub overflow_add-size : goal.overflow_add-size
unfolding replay_bytes
overflow_add-size c = omega arith

pub emit_lines-requires : goal.emit_lines-requires
unfolding replay_bytes
emit_lines-requires c = omega arith

pub overflow_add-at : goal.overflow_add-at
unfolding replay_bytes
overflow_add-at c = omega arith

pub emit_ending-requires : goal.emit_ending-requires
unfolding replay_bytes
emit_ending-requires c = omega arith

pub returns : goal.returns
returns c =
    let hs = logged c.args.log.count c.args.log.src.now in
    replay-chain c.args.way hs c.args.log.count (logged-lines c.args.log.count c.args.log.src.now c.args.log.there) (logged-length c.args.log.count c.args.log.src.now) c.args.same c.args.root c.args.tape.now _ _ c.args.at _ (omega arith) c.emit_lines.ensures c.emit_ending.ensures
