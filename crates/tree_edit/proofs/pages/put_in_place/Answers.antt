-- `put_in_place`: the page is lent to an insert or an update, and comes back in its place.
-- Assumes nothing.
use Prim.Native.Nat.{ℕ}
use mathlib.Core.Path.{ap, ◌∙◌}
use mathlib.Core.List.{List}
use Rattle.page.specs.Operations.{insert, update, page_of}
use Rattle.page.proofs.Images.{lent, back}
use Rattle.tree_edit.specs.Steps.{rec_by}
use Rattle.tree_edit.proofs.Room.{can-insert, can-update, place-insert, place-update}
use Rattle.tree_edit.proofs.pages.put_in_place.Goals as goal

pub insert_record-requires : goal.insert_record-requires
insert_record-requires c =
    rw (lent c.args.work.now c.args.p) (can-insert c.requires.page_size_in_bounds.1 c.requires.p_value c.if-new.true)

pub update_record-requires : goal.update_record-requires
update_record-requires c =
    rw (lent c.args.work.now c.args.p) (can-update c.requires.page_size_in_bounds.1 c.requires.p_value c.if-new.false)

pub returns-then-new : goal.returns-then-new
returns-then-new c =
    let a = c.args in
    let r = rec_by a.new a.value.now in
    back a.work.now a.p _ _ c.requires.page_size_in_bounds.0 c.insert_record.auto.page
    (c.insert_record.ensures ∙ ap (λ (x : List ℕ). insert x a.new.at r) (lent a.work.now a.p) ∙ place-insert (page_of a.work.now a.p) a.new.at r a.new.ins c.if-new.true)

pub returns-else-new : goal.returns-else-new
returns-else-new c =
    let a = c.args in
    let r = rec_by a.new a.value.now in
    back a.work.now a.p _ _ c.requires.page_size_in_bounds.0 c.update_record.auto.page
    (c.update_record.ensures ∙ ap (λ (x : List ℕ). update x a.new.at r) (lent a.work.now a.p) ∙ place-update (page_of a.work.now a.p) a.new.at r a.new.ins c.if-new.false)
