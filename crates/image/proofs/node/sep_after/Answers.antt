-- `sep_after` reads the separator of the record after the i-th, or answers the end that it is given.
-- Assumes nothing.
use Prim.Native.Nat.{◌+◌}
use mathlib.Core.Path.{sym, ◌∙◌}
use mathlib.Core.List.{[]}
use native.Mathlib.Omega.{arith}
use Rattle.page.specs.Layout.{rec_of}
use Rattle.page.specs.Page.{records}
use Rattle.page.proofs.Listed.{few-listed}
use Rattle.image.proofs.CodeNode.{sep-here, sep-end}
use Rattle.image.proofs.node.sep_after.Goals as goal

pub overflow_add-i : goal.overflow_add-i
overflow_add-i c = omega (arith, few-listed _ c.args.page.laid)

pub returns-then-i-count : goal.returns-then-i-count
returns-then-i-count c =
    let a = c.args in
    c.key_at.ensures ∙ sym (sep-here (records a.page.bytes.now) (a.i + 1) (rec_of 0 []) a.end (omega (arith, c.count.ensures, c.if-i-count.true)))

pub returns : goal.returns
returns c =
    let a = c.args in
    sym (sep-end (records a.page.bytes.now) (a.i + 1) a.end (omega (arith, c.count.ensures, c.if-i-count.false)))
