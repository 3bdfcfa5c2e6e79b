-- `flush_headers`: the flushes that are left, over what is written, are the whole.
-- Assumes nothing.
use Prim.Native.Nat.{◌+◌, ◌*◌}
use mathlib.Core.Path.{sym, ◌∙◌}
use native.Mathlib.Omega.{arith}
use Rattle.journal.specs.Recovery.{logged}
use Rattle.tape_write.proofs.Encoding.{start-at}
use Rattle.tape_write.proofs.LogLines.{flush-step, flush-end}
use Rattle.tape_write.proofs.headers.flush_headers.Goals as goal

pub loop-i-init : goal.loop-i-init
unfolding logged
loop-i-init c = rw ((start-at c.args.at 4 c.args.log.count).0, (start-at c.args.at 4 c.args.log.count).1)

pub loop-i-preserved : goal.loop-i-preserved
loop-i-preserved c =
    let loop = c.loop-i in
    flush-step c.args.log.src.now c.args.log.count loop.i c.args.own loop.tape _ c.args.at c.line_for.result c.loop-i-test.true (omega arith) c.line_for.ensures.0 c.emit_flush.ensures ∙ loop.invariant

pub returns : goal.returns
returns c =
    sym (flush-end c.args.log.src.now c.args.log.count c.loop-i.i c.args.own c.loop-i.tape c.loop-i.tape (c.args.at + 4 * c.loop-i.i) c.loop-i-test.false) ∙ c.loop-i.invariant
