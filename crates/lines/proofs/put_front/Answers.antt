-- `put_front`: what is left to put, in front of what was put, is the whole.
-- Assumes nothing.
use Prim.Native.Nat.{◌-◌}
use mathlib.Core.Path.{sym, ◌∙◌}
use native.Mathlib.Omega.{arith}
use Rattle.lines.proofs.Columns.{front-put, front-done}
use Rattle.lines.proofs.put_front.Goals as goal

pub loop-i-preserved : goal.loop-i-preserved
loop-i-preserved c =
    let l = c.loop-i in
    front-put l.dst l.i (l.i - 1) l.left _ (omega arith) (omega arith) c.front_digit.ensures ∙ l.invariant

pub returns : goal.returns
returns c =
    let l = c.loop-i in
    sym (front-done l.dst l.i l.left (omega arith)) ∙ l.invariant
