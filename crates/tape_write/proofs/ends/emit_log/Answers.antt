-- `emit_log`: the chain of its three writers.
-- Assumes nothing.
use native.Mathlib.Omega.{arith}
use Rattle.journal.specs.Recovery.{logged}
use Rattle.tape_write.specs.Sizes.{log_bytes}
use Rattle.tape_write.proofs.LogLines.{logged-lines, logged-length}
use Rattle.tape_write.proofs.Endings.{log-chain}
use Rattle.tape_write.proofs.ends.emit_log.Goals as goal

pub overflow_add-size : goal.overflow_add-size
unfolding log_bytes
overflow_add-size c = omega arith

pub emit_lines-requires : goal.emit_lines-requires
unfolding log_bytes
emit_lines-requires c = omega arith

pub overflow_add-at : goal.overflow_add-at
unfolding log_bytes
overflow_add-at c = omega arith

pub emit_settled-requires : goal.emit_settled-requires
unfolding log_bytes
emit_settled-requires c = omega arith

pub overflow_add-at-2 : goal.overflow_add-at-2
unfolding log_bytes
overflow_add-at-2 c = omega arith

pub overflow_add-at-3 : goal.overflow_add-at-3
unfolding log_bytes
overflow_add-at-3 c = omega arith

pub emit_replay-requires : goal.emit_replay-requires
unfolding log_bytes
emit_replay-requires c = omega arith

pub returns : goal.returns
returns c =
    let hs = logged c.args.log.count c.args.log.src.now in
    log-chain c.args.way hs c.args.log.count (logged-lines c.args.log.count c.args.log.src.now c.args.log.there) (logged-length c.args.log.count c.args.log.src.now) c.args.same c.args.root (omega arith) c.args.tape.now _ _ _ c.args.at _ (omega arith) c.emit_lines.ensures c.emit_settled.ensures c.emit_replay.ensures
