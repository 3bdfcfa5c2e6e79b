-- `command_at`: its kind decides which command stands there.
-- Assumes nothing.
use native.Mathlib.Omega.{arith}
use Rattle.cuts.proofs.Commands.{describes-word, describes-line, describes-flush, describes-barrier}
use Rattle.cuts.proofs.command_at.Goals as goal

pub returns-then-kind-eq1 : goal.returns-then-kind-eq1
returns-then-kind-eq1 c n is = describes-word n c.args.at c.args.tape.now (omega arith) is _ c.number_at-place.ensures.0 c.if-kind-eq1.true

pub returns-then-kind-eq2 : goal.returns-then-kind-eq2
returns-then-kind-eq2 c n is = describes-line n c.args.at c.args.tape.now (omega arith) is _ c.number_at-place.ensures.0 c.if-kind-eq2.true

pub returns-then-kind-eq3 : goal.returns-then-kind-eq3
returns-then-kind-eq3 c n is = describes-flush n c.args.at c.args.tape.now (omega arith) is _ c.number_at-place.ensures.0 c.if-kind-eq1.false c.if-kind-eq2.false c.if-kind-eq3.true

pub returns : goal.returns
returns c n is = describes-barrier n c.args.at c.args.tape.now (omega arith) is _ c.number_at-place.ensures.0 c.if-kind-eq1.false c.if-kind-eq2.false c.if-kind-eq3.false
