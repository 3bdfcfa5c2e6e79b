-- `delete_at`: the page is lent to a delete, and comes back in its place.
-- Assumes nothing.
use mathlib.Core.Path.{ap, ◌∙◌}
use mathlib.Core.List.{List}
use Prim.Native.Nat.{ℕ}
use Rattle.page.specs.Operations.{delete}
use Rattle.page.proofs.Images.{lent, back}
use Rattle.tree_edit.proofs.pages.delete_at.Goals as goal

pub delete_record-requires : goal.delete_record-requires
delete_record-requires c =
    rw (lent c.args.work.now c.args.p) (c.requires.1, c.requires.2)

pub returns : goal.returns
returns c =
    back c.args.work.now c.args.p _ _ c.requires.0 c.delete_record.auto.page (c.delete_record.ensures ∙ ap (λ (x : List ℕ). delete x c.args.i) (lent c.args.work.now c.args.p))
