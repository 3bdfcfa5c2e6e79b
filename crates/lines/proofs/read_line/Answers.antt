-- `read_line`: each test is one of `line_in`'s.
-- Assumes nothing.
use native.Mathlib.Omega.{arith}
use mathlib.Core.Path.{sym, ◌∙◌}
use lib.ListN.{length-drop}
use Rattle.lines.proofs.Reading.{line-short, line-cut, line-is}
use Rattle.lines.proofs.read_line.Goals as goal

pub returns-in_err-get : goal.returns-in_err-get
returns-in_err-get c = c.from_residual.ensures ∙ sym (line-short _ (simp length-drop (omega (arith, c.in_err-get.ensures.lookup))))

pub returns-in_err-line : goal.returns-in_err-line
returns-in_err-line c = c.from_residual-in_err-line.ensures ∙ sym (line-short _ (simp length-drop (omega (arith, c.in_err-line.ensures.lookup, c.in_ok-get.ensures.lookup))))

pub returns-then-not-is_line : goal.returns-then-not-is_line
returns-then-not-is_line c =
    let g = c.in_ok-get.ensures.lookup.0 in
    let h = c.in_ok-line.ensures.lookup.0 in
    sym (line-cut _ _ _ c.args.at g.2 h.2
    ∙ line-is _ _ _ _ (omega arith) c.value_of-kind.ensures c.value_of-key.ensures c.value_of-price.ensures
    ∙ rw (sym c.is_line.ensures ∙ c.if-not-is_line.true))

pub returns : goal.returns
returns c =
    let g = c.in_ok-get.ensures.lookup.0 in
    let h = c.in_ok-line.ensures.lookup.0 in
    c.line_of.ensures
    ∙ sym (line-cut _ _ _ c.args.at g.2 h.2
    ∙ line-is _ _ _ _ (omega arith) c.value_of-kind.ensures c.value_of-key.ensures c.value_of-price.ensures
    ∙ rw (sym c.is_line.ensures ∙ c.if-not-is_line.false))
