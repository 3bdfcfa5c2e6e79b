-- `put_columns`: the last digit, and then what is left before it.
-- Assumes nothing.
use native.Mathlib.Omega.{arith}
use mathlib.Core.Path.{sym}
use Rattle.lines.proofs.Columns.{columns-put, columns-none}
use Rattle.lines.proofs.put_columns.Goals as goal

pub returns-then-w-eq0 : goal.returns-then-w-eq0
returns-then-w-eq0 c = sym (columns-none c.args.dst.now c.args.at c.args.w c.args.n c.if-w-eq0.true (omega arith))

pub returns : goal.returns
returns c = columns-put c.args.dst.now c.args.at c.args.w c.args.n _ _ c.if-w-eq0.false c.requires c.last_digit.ensures c.put_front.ensures
