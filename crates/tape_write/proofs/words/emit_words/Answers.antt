-- `emit_words`: the stores that are left, over what is written, are the whole.
-- Assumes nothing.
use Prim.Native.Nat.{◌+◌, ◌*◌}
use mathlib.Core.Path.{sym, ◌∙◌, subst}
use native.Mathlib.Omega.{arith}
use Rattle.tape_write.specs.Words.{WordIn}
use Rattle.tape_write.proofs.StageTape.{word-step, words-end, all-at}
use Rattle.tape_write.proofs.words.emit_words.Goals as goal

pub loop-i-preserved : goal.loop-i-preserved
loop-i-preserved c =
    let w = c.args.work.now in
    let ks = c.args.words.now in
    let loop = c.loop-i in
    let more = c.loop-i-test.true in
    let inn = subst (WordIn w) (sym c.wide16-word.ensures.0) (all-at (WordIn w) ks loop.i c.requires.1 more) in
    word-step loop.tape _ c.args.at w ks loop.i c.wide16-word.result more c.wide16-word.ensures.0 inn (omega arith) c.emit_word.ensures ∙ loop.invariant

pub returns : goal.returns
returns c =
    sym (words-end c.loop-i.tape c.loop-i.tape (c.args.at + 12 * c.loop-i.i) c.args.work.now c.args.words.now c.loop-i.i c.loop-i-test.false) ∙ c.loop-i.invariant
