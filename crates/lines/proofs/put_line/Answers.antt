-- `put_line`: the fields that are left to put.
-- Assumes nothing.
use native.Mathlib.Omega.{arith}
use Rattle.lines.proofs.Writing.{putting-first, putting-fits, putting-next, putting-room, putting-end}
use Rattle.lines.proofs.put_line.Goals as goal

pub loop-w-init : goal.loop-w-init
loop-w-init c = putting-first c.args.fields.now c.args.dst.now c.requires

pub put_columns-requires : goal.put_columns-requires
put_columns-requires c = putting-fits c.args.fields.now _ _ _ c.loop-w.invariant _ c.loop-w-test.true

pub overflow_add-at : goal.overflow_add-at
overflow_add-at c = omega (arith, putting-fits c.args.fields.now _ _ _ c.loop-w.invariant (0, 0) c.loop-w-test.true)

pub loop-w-preserved : goal.loop-w-preserved
loop-w-preserved c = putting-next c.args.fields.now _ _ _ c.loop-w.invariant _ c.loop-w-test.true _ c.put_columns.ensures

pub bounds-dst-at : goal.bounds-dst-at
bounds-dst-at c = putting-room c.args.fields.now _ _ _ c.loop-w.invariant c.loop-w-test.false

pub returns : goal.returns
returns c = putting-end c.args.fields.now _ _ _ c.loop-w.invariant c.loop-w-test.false
