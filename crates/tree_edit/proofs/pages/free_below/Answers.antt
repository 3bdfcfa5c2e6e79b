-- `free_below`: the free pages below those looked at are all of them.
-- Assumes nothing.
use Prim.Native.Nat.{◌-◌}
use mathlib.Core.Path.{sym, ◌∙◌}
use native.Mathlib.Omega.{arith}
use Rattle.tree_edit.proofs.Free.{unmarked-past, unmarked-first, unmarked-none}
use Rattle.tree_edit.proofs.pages.free_below.Goals as goal

pub returns-then-before-p-eq0 : goal.returns-then-before-p-eq0
returns-then-before-p-eq0 c =
    let l = c.loop-p in
    (sym l.invariant ∙ unmarked-first c.args.before.now (l.p - 1) (omega arith) c.if-before-p-eq0.true, omega arith)

pub loop-p-preserved : goal.loop-p-preserved
loop-p-preserved c =
    let l = c.loop-p in
    sym (unmarked-past c.args.before.now (l.p - 1) (omega arith) c.if-before-p-eq0.false) ∙ l.invariant

pub returns : goal.returns
returns c =
    let l = c.loop-p in
    sym l.invariant ∙ unmarked-none c.args.before.now l.p (omega arith)
