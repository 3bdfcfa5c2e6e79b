-- `emit_lines`: the chain of its three writers.
-- Assumes nothing.
use native.Mathlib.Omega.{arith}
use Rattle.journal.specs.Recovery.{logged}
use Rattle.tape_write.proofs.Encoding.{closing-size}
use Rattle.tape_write.proofs.LogLines.{logged-lines, logged-length, lines-chain}
use Rattle.tape_write.proofs.headers.emit_lines.Goals as goal

pub flush_headers-requires : goal.flush_headers-requires
flush_headers-requires c = omega (arith, closing-size c.args.log.count)

pub emit_closing-requires : goal.emit_closing-requires
emit_closing-requires c = omega (arith, closing-size c.args.log.count)

pub returns : goal.returns
returns c =
    let hs = logged c.args.log.count c.args.log.src.now in
    lines-chain c.args.way c.args.own hs c.args.log.count (logged-lines c.args.log.count c.args.log.src.now c.args.log.there) (logged-length c.args.log.count c.args.log.src.now) c.args.tape.now _ _ _ c.args.at _ (omega arith) c.emit_headers.ensures c.flush_headers.ensures c.emit_closing.ensures
