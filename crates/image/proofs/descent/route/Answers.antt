-- `route` answers the routed slot: that of the key itself, or the one before its place.
-- Assumes nothing.
use Prim.Native.Nat.{ℕ, ◌-◌}
use mathlib.Core.Path.{sym, ap, ◌∙◌}
use Rattle.image.proofs.CodeDescent.{route-searched}
use Rattle.image.proofs.descent.route.Goals as goal

pub returns-then-i-eq0 : goal.returns-then-i-eq0
returns-then-i-eq0 c =
    let a = c.args in
    sym (ap (λ (i : ℕ). i - 1) c.if-i-eq0.true) ∙ route-searched _ a.page.laid c.requires a.key _ (sym c.in-Err.is ∙ c.find.ensures)

pub returns-in-Ok : goal.returns-in-Ok
returns-in-Ok c =
    let a = c.args in
    route-searched _ a.page.laid c.requires a.key _ (sym c.in-Ok.is ∙ c.find.ensures)

pub returns-else-i-eq0 : goal.returns-else-i-eq0
returns-else-i-eq0 c =
    let a = c.args in
    route-searched _ a.page.laid c.requires a.key _ (sym c.in-Err.is ∙ c.find.ensures)
