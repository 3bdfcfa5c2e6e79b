-- `put_edit`: the head, and then the value of an insert or an update.
-- Assumes nothing.
use native.Mathlib.Omega.{arith}
use mathlib.Core.Path.{◌≡◌, sym, ap, ◌∙◌}
use mathlib.Core.Logic.{◌⊎◌, inl, inr, ⊎_elim}
use borrow.Author.Tests.{eqb-false, not-true}
use Rattle.codec.specs.Lists.{splice}
use Rattle.lines.proofs.Editing.{edit-deletes, edit-written, length-changes, length-deletes}
use Rattle.lines.proofs.put_edit.Goals as goal

pub returns-then-kind-ne2 : goal.returns-then-kind-ne2
returns-then-kind-ne2 c =
    let a = c.args in
    let two = eqb-false a.kind 2 (not-true _ c.if-kind-ne2.true-raw) in
    let one = c.if-kind-ne1.true in
    record { value = omega (arith, length-deletes a.kind a.key a.price one two); list_after = c.put_head.ensures ∙ ap (splice a.list.now a.at) (sym (edit-deletes a.kind a.key a.price one two)) }

pub returns : goal.returns
returns c =
    let a = c.args in
    let k : (a.kind ≡ 1) ⊎ (a.kind ≡ 2) = ⊎_elim (λ t. inr t.1) (λ e. inl e) c.else-kind-ne1.either in
    record { value = omega (arith, length-changes a.kind a.key a.price k); list_after = edit-written a.list.now a.at a.kind a.key a.price _ _ c.requires k c.put_head-2.ensures c.put_long.ensures }
