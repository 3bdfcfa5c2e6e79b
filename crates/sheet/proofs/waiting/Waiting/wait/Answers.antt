-- `wait`: the edit stands behind those that wait.
-- Assumes nothing.
use native.Mathlib.Omega.{arith}
use Rattle.lines.proofs.Editing.{length-edit}
use Rattle.sheet.proofs.Taking.{waits_dropped, waits-added}
use Rattle.sheet.proofs.waiting.Waiting.wait.Goals as goal

pub returns-then-self-ge-MOST_EDITS : goal.returns-then-self-ge-MOST_EDITS
returns-then-self-ge-MOST_EDITS c = λ image totals. waits_dropped c.args.kind c.args.key c.args.price image c.args.self.now totals (omega arith)

pub invariant_of-self : goal.invariant_of-self
invariant_of-self c =
    record { few = omega arith; fits = omega (arith, length-edit c.args.kind c.args.key c.args.price, c.put_edit-self.ensures.value, c.args.self.now.fits) }

pub returns : goal.returns
returns c =
    let a = c.args in
    λ image totals.
    waits-added a.kind a.key a.price image a.self.now totals _ _ (omega arith) (omega (arith, a.self.now.fits)) c.put_edit-self.ensures.list_after c.put_edit-self.ensures.value
