-- `emit_headers`: the stores that are left, over what is written, are the whole.
-- Assumes nothing.
use Prim.Native.Nat.{◌+◌}
use mathlib.Core.Path.{sym, ◌∙◌}
use native.Mathlib.Omega.{arith}
use Rattle.tape_write.specs.Sizes.{lines_bytes}
use Rattle.tape_write.proofs.LineBytes.{lines_more, lines-grow}
use Rattle.tape_write.proofs.LogLines.{line_step, line-start, line-end}
use Rattle.tape_write.proofs.headers.emit_headers.Goals as goal

pub loop-i-init : goal.loop-i-init
loop-i-init c = line-start c.args.log.src.now c.args.log.count 0 c.args.own c.args.tape.now c.args.tape.now c.args.at c.args.way

pub overflow_add-to : goal.overflow_add-to
overflow_add-to c =
    omega (arith, c.lines_bytes.ensures, lines-grow c.args.way c.loop-i.i c.args.log.count (omega arith))

pub emit_line-requires : goal.emit_line-requires
emit_line-requires c =
    let i = c.loop-i.i in
    (omega (arith, c.lines_bytes.ensures, lines_more c.args.way i, lines-grow c.args.way (i + 1) c.args.log.count (omega arith)), omega arith, c.line_for.ensures.1)

pub loop-i-preserved : goal.loop-i-preserved
loop-i-preserved c =
    let loop = c.loop-i in
    line_step c.args.log.src.now c.args.log.count loop.i c.args.way c.args.own loop.tape _ c.args.at c.line_for.result c.lines_bytes.result c.loop-i-test.true c.args.log.there c.line_for.ensures.0 c.lines_bytes.ensures c.emit_line.ensures ∙ loop.invariant

pub returns : goal.returns
returns c =
    let loop = c.loop-i in
    sym (line-end c.args.log.src.now c.args.log.count loop.i c.args.own loop.tape loop.tape (c.args.at + lines_bytes c.args.way loop.i) c.args.way c.loop-i-test.false) ∙ loop.invariant
