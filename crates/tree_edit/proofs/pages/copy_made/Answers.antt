-- `copy_made`: the old page is copied, and the new page is lent to be filled from the copy.
-- Assumes nothing.
use Prim.Native.Nat.{ℕ}
use mathlib.Core.Path.{sym, ap, ◌∙◌}
use mathlib.Core.List.{List}
use lib.ListN.{length}
use Rattle.page.specs.Operations.{fill, page_of, between}
use Rattle.page.proofs.Images.{length-page_of, lent, back}
use Rattle.tree_edit.specs.Steps.{made_by}
use Rattle.tree_edit.proofs.pages.copy_made.Goals as goal

pub copy_from_slice-requires : goal.copy_from_slice-requires
copy_from_slice-requires c =
    sym (ap length c.page_of.ensures ∙ length-page_of c.args.work.now c.args.from c.requires.page_size_in_bounds.0)

pub returns : goal.returns
returns c =
    let a = c.args in
    back a.work.now a.to _ _ c.requires.page_size_in_bounds.1 c.fill_made.auto.page
    (c.fill_made.ensures
    ∙ ap (λ (x : List ℕ). fill x a.kind a.to (between (made_by a.new a.value.now c.copy_from_slice.new.self) a.first a.last)) (lent a.work.now a.to)
    ∙ ap (λ (x : List ℕ). fill (page_of a.work.now a.to) a.kind a.to (between (made_by a.new a.value.now x) a.first a.last)) (c.copy_from_slice.ensures.after ∙ c.page_of.ensures))
