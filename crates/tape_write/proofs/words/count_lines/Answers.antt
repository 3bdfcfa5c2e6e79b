-- `count_lines`: the lines counted and those still to come are the whole.
-- Assumes nothing.
use mathlib.Core.Path.{ap}
use native.Mathlib.Omega.{arith}
use lib.ListN.{length}
use Rattle.tape_write.proofs.StageTape.{lines_end, line_same, line_other}
use Rattle.tape_write.proofs.words.count_lines.Goals as goal
use Rattle.tape_write.proofs.words.count_lines.Goals.{then-line-last, else-line-last}

pub loop-k-preserved : goal.loop-k-preserved
loop-k-preserved c =
    let ks = c.args.words.now in
    let loop = c.loop-k in
    elim c.if-line-last.branch [
      | then-line-last w ↦ rw (w.lines-is, w.last-is) (omega arith, omega (arith, ap length (line_other ks loop.k-index c.wide16-line.result c.loop-k-test.true c.wide16-line.ensures.0 loop.last w.if-line-last.true)))
      | else-line-last w ↦ rw (w.lines-is, w.last-is) (omega arith, omega (arith, ap length (line_same ks loop.k-index c.wide16-line.result c.loop-k-test.true c.wide16-line.ensures.0 loop.last w.if-line-last.false)))
    ]

pub returns : goal.returns
returns c = omega (arith, ap length (lines_end c.args.words.now c.loop-k.last c.loop-k.k-index c.loop-k-test.false))
