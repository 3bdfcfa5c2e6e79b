-- `Marks::run`: the two words of a run of places, by shifts.
-- Assumes nothing.
use Rattle.std.proofs.Common.{arith, pow_pos}
use Rattle.page.proofs.CheckBits.{run, ones-shifted, run-lower, run-upper}
use Rattle.page.proofs.check.Marks.run.Goals as goal

pub overflow_sub-ones : goal.overflow_sub-ones
overflow_sub-ones c = omega (arith, ones-shifted c.args.k c.requires.2, pow_pos c.args.k)

pub returns-then-u-lt64 : goal.returns-then-u-lt64
unfolding run
returns-then-u-lt64 c = rw (ones-shifted c.args.k c.requires.2) (run-lower c.args.u c.args.k c.if-u-lt64.true)

pub overflow_shl-result-2 : goal.overflow_shl-result-2
overflow_shl-result-2 c = omega arith

pub returns : goal.returns
unfolding run
returns c = rw (ones-shifted c.args.k c.requires.2) (run-upper c.args.u c.args.k c.if-u-lt64.false c.requires.3)
