-- `delete_record`: the header without the slot, written over the page.
-- Assumes nothing.
use mathlib.Core.Path.{◌∙◌}
use native.Mathlib.Omega.{arith}
use Rattle.page.specs.Layout.{Head}
use Rattle.page.specs.Operations.{delete_head, delete}
use Rattle.page.proofs.Facts.{ok-is}
use Rattle.page_edit.proofs.Written.{opened, sealed}
use Rattle.page_edit.proofs.delete_record.Goals as goal

pub read-h-requires : goal.read-h-requires
read-h-requires c = omega (arith, (ok-is _ c.requires.0).body.whole)

pub removed-requires : goal.removed-requires
removed-requires c = let o = opened _ _ c.requires.0 c.read-h.ensures in (o.clean, o.few, omega arith)

pub write-requires : goal.write-requires
write-requires c = omega (arith, (ok-is _ c.requires.0).body.whole)

pub returns : goal.returns
unfolding delete
returns c =
    let o = opened _ _ c.requires.0 c.read-h.ensures in
    c.write.ensures ∙ sealed _ _ _ (λ (x : Head). delete_head x c.args.i) _ o c.removed.ensures
