-- `commit`: the transaction's answer, counted.
-- Assumes nothing.
use mathlib.Core.Path.{ap, ◌∙◌}
use Prim.Native.Nat.{ℕ}
use mathlib.Core.List.{List}
use Rattle.codec.specs.Lists.{pick}
use Rattle.transaction.specs.Calls.{is_accepted}
use Rattle.sheet.specs.Steps.{tried}
use Rattle.sheet.proofs.Taking.{commits-accepted, commits-refused}
use Rattle.sheet.proofs.form.commit.Goals as goal

pub returns-then-accepted : goal.returns-then-accepted
returns-then-accepted c =
    let a = c.args in
    let t = c.transact-accepted in
    commits-accepted a.image.now a.waiting.now c.new.result a.totals.now _ _ c.new.ensures.edits c.new.ensures.used
    (t.ensures.value ∙ ap (λ (l : List ℕ). is_accepted (tried a.image.now l).answer) c.list.ensures)
    (t.ensures.image_after ∙ ap (λ (l : List ℕ). pick t.result (tried a.image.now l).work a.image.now) c.list.ensures) c.if-accepted.true

pub returns-else-accepted : goal.returns-else-accepted
returns-else-accepted c =
    let a = c.args in
    let t = c.transact-accepted in
    commits-refused a.image.now a.waiting.now c.new.result a.totals.now _ _ c.new.ensures.edits c.new.ensures.used
    (t.ensures.value ∙ ap (λ (l : List ℕ). is_accepted (tried a.image.now l).answer) c.list.ensures)
    (t.ensures.image_after ∙ ap (λ (l : List ℕ). pick t.result (tried a.image.now l).work a.image.now) c.list.ensures) c.if-accepted.false
