-- `line_for`: the own page number is read in the log line.
-- Assumes nothing.
use Prim.Native.Nat.{ℕ, ◌*◌}
use mathlib.Core.Path.{ap, ◌∙◌}
use native.Mathlib.Omega.{arith}
use Rattle.tape_write.proofs.LogLines.{line-own, line-log}
use Rattle.tape_write.proofs.headers.line_for.Goals as goal

pub returns-then-own : goal.returns-then-own
returns-then-own c =
    (rw c.if-own.true (ap (λ (n : ℕ). 16 * n) c.number_at.ensures.0 ∙ line-own c.args.src.now c.args.l), omega (arith, c.number_at.ensures.1))

pub returns : goal.returns
returns c =
    (rw c.if-own.false (line-log c.args.src.now c.args.l), c.requires.1)
