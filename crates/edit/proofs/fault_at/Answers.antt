-- `fault_at`: each test is one of `fault_in`'s, by the numbers that stand at the edit.
-- Assumes nothing.
use Prim.Native.Nat.{ℕ}
use native.Mathlib.Omega.{arith}
use mathlib.Core.Path.{sym, ap, ◌∙◌}
use Rattle.codec.specs.Lists.{pick}
use Rattle.image.specs.Calls.{key_ok}
use Rattle.edit.specs.Judged.{cause_named}
use Rattle.edit.proofs.Judging.{fault-short, fault-head, fault-value, fault-empty, fault-cut, fault-key}
use Rattle.edit.proofs.fault_at.Goals as goal

pub returns-then-left-lt10 : goal.returns-then-left-lt10
returns-then-left-lt10 c =
    rw (fault-short c.args.list.now c.args.at c.if-left-lt10.true)

pub returns-then-bad_head : goal.returns-then-bad_head
returns-then-bad_head c =
    rw (fault-head c.args.list.now c.args.at c.if-left-lt10.false c.wide-n.result c.wide-n.ensures.0 (sym c.bad_head.ensures ∙ c.if-bad_head.true))

pub returns-then-n-gt200 : goal.returns-then-n-gt200
returns-then-n-gt200 c =
    rw (fault-value c.args.list.now c.args.at c.if-left-lt10.false c.wide-n.result c.wide-n.ensures.0 (sym c.bad_head.ensures ∙ c.if-bad_head.false) c.if-n-gt200.true)

pub returns-then-is_empty : goal.returns-then-is_empty
returns-then-is_empty c =
    rw (fault-empty c.args.list.now c.args.at c.if-left-lt10.false c.wide-n.result c.wide-n.ensures.0 (sym c.bad_head.ensures ∙ c.if-bad_head.false) (omega arith) (sym c.is_empty.ensures ∙ c.if-is_empty.true))

pub returns-then-left-whole : goal.returns-then-left-whole
returns-then-left-whole c =
    rw (fault-cut c.args.list.now c.args.at c.if-left-lt10.false c.wide-n.result c.wide-n.ensures.0 (sym c.bad_head.ensures ∙ c.if-bad_head.false) (omega arith) (sym c.is_empty.ensures ∙ c.if-is_empty.false) c.if-left-whole.true)

pub returns : goal.returns
returns c =
    c.key_fault.ensures ∙ ap (λ (k : ℕ). cause_named (pick (key_ok k) 0 6)) c.long_at.ensures ∙ ap cause_named (sym (fault-key c.args.list.now c.args.at c.if-left-lt10.false c.wide-n.result c.wide-n.ensures.0 (sym c.bad_head.ensures ∙ c.if-bad_head.false) (omega arith) (sym c.is_empty.ensures ∙ c.if-is_empty.false) c.if-left-whole.false))
