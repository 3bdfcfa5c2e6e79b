-- `emit_eight`: the words that are left, over what is written, are the whole line.
-- Assumes nothing.
use Prim.Native.Nat.{◌+◌, ◌*◌}
use mathlib.Core.Path.{sym, ◌∙◌}
use native.Mathlib.Omega.{arith}
use Rattle.tape_write.proofs.LineBytes.{word-step, words-end, words-all}
use Rattle.tape_write.proofs.lines.emit_eight.Goals as goal

pub loop-i-init : goal.loop-i-init
loop-i-init c = words-all c.args.src.now c.args.from c.args.line c.requires.1 c.args.tape.now c.args.at

pub loop-i-preserved : goal.loop-i-preserved
loop-i-preserved c =
    let loop = c.loop-i in
    word-step c.args.src.now c.args.from c.args.line c.requires.1 loop.tape _ c.args.at loop.i c.loop-i-test.true (omega arith) c.emit_word.ensures ∙ loop.invariant

pub returns : goal.returns
returns c =
    let loop = c.loop-i in
    sym (words-end c.args.src.now c.args.from c.args.line c.requires.1 loop.tape loop.tape (c.args.at + 12 * loop.i) loop.i c.loop-i-test.false) ∙ loop.invariant
