-- `value_of`: what is left to read, after what was read, is the whole.
-- Assumes nothing.
use mathlib.Core.Path.{sym, ◌∙◌}
use native.Mathlib.Omega.{arith}
use Rattle.lines.proofs.Columns.{value-next, value-end, ten-more, ten-most}
use Rattle.lines.proofs.value_of.Goals as goal

pub overflow_mul-n : goal.overflow_mul-n
overflow_mul-n c = omega (arith, ten-most c.loop-c.n c.loop-c.c-index 13 (omega arith) (omega arith) c.loop-c.invariant.0)

pub overflow_add-n : goal.overflow_add-n
overflow_add-n c = omega (arith, ten-most c.loop-c.n c.loop-c.c-index 13 (omega arith) (omega arith) c.loop-c.invariant.0, c.worth.ensures.1)

pub loop-c-preserved : goal.loop-c-preserved
loop-c-preserved c =
    let l = c.loop-c in
    (ten-more l.n l.c-index _ l.invariant.0 c.worth.ensures.1, sym (value-next c.args.columns.now l.c-index l.n _ c.loop-c-test.true c.worth.ensures.0) ∙ l.invariant.1)

pub returns : goal.returns
returns c =
    let l = c.loop-c in
    sym (value-end c.args.columns.now l.c-index l.n (omega arith)) ∙ l.invariant.1
