-- `edit`: by its kind.
-- Assumes nothing.
use mathlib.Core.Path.{sym, ap, subst}
use Rattle.edit.specs.EditList.{Edit}
use Rattle.edit.specs.Reads.{Proper}
use Rattle.tree.specs.Edits.{edited}
use Rattle.tree_edit.specs.Steps.{state_of}
use Rattle.tree_edit.proofs.Said.{says_same}
use Rattle.tree_edit.proofs.Routed.{kind-insert, kind-update, kind-delete}
use Rattle.tree_edit.proofs.edits.edit.Goals as goal

pub insert_edit-requires : goal.insert_edit-requires
insert_edit-requires c =
    (c.requires.0, c.requires.1, subst Proper (kind-insert _ c.args.key c.args.value.now c.in-1.is) c.requires.2)

pub update_edit-requires : goal.update_edit-requires
update_edit-requires c =
    (c.requires.0, c.requires.1, subst Proper (kind-update _ c.args.key c.args.value.now c.in-2.is) c.requires.2)

pub delete_edit-requires : goal.delete_edit-requires
delete_edit-requires c =
    (c.requires.0, c.requires.1)

pub returns-in-1 : goal.returns-in-1
returns-in-1 c =
    says_same c.insert_edit.ensures _ (ap (λ (e : Edit). edited e (state_of c.args.before.now c.args.work.now c.args.t)) (sym (kind-insert _ c.args.key c.args.value.now c.in-1.is)))

pub returns-in-2 : goal.returns-in-2
returns-in-2 c =
    says_same c.update_edit.ensures _ (ap (λ (e : Edit). edited e (state_of c.args.before.now c.args.work.now c.args.t)) (sym (kind-update _ c.args.key c.args.value.now c.in-2.is)))

pub returns-in_default : goal.returns-in_default
returns-in_default c =
    says_same c.delete_edit.ensures _ (ap (λ (e : Edit). edited e (state_of c.args.before.now c.args.work.now c.args.t)) (sym (kind-delete _ c.args.key c.args.value.now c.in_default.in_default-own.rest.0.1 c.in_default.in_default-own.rest.1)))
