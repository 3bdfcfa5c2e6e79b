-- `make_edits`: the edits made on a copy of the image are those of the definition; then the edited image is committed.
-- Assumes nothing.
use mathlib.Core.Path.{sym, ◌∙◌, subst}
use native.Mathlib.Omega.{arith}
use Rattle.edit.specs.EditList.{edits_of, edit_list}
use Rattle.edit.proofs.Parsing.{list-proper}
use Rattle.tree_edit.specs.Asked.{CanMark}
use Rattle.transaction.proofs.Joining.{image-size, can-mark, marks-at, Begun, first_good, few-pages, made-stopped, Ended, made-ended}
use Rattle.transaction.proofs.Shown.{stopped-shows, finished-shows}
use Rattle.transaction.proofs.make_edits.Goals as goal
use Rattle.transaction.proofs.make_edits.Goals.{After-marks_of-before, In-Ok}

pub copy_all-requires : goal.copy_all-requires
copy_all-requires c =
    (c.requires.1, (image-size c.args.image.now c.requires.0).high)

pub root_of-root-requires : goal.root_of-root-requires
root_of-root-requires c =
    omega (arith, (image-size c.args.image.now c.requires.0).low)

pub marks_of-before-requires : goal.marks_of-before-requires
marks_of-before-requires c =
    subst (CanMark c.args.image.now) (sym c.root_of-root.ensures) (can-mark c.args.image.now c.requires.0)

begun : (c : After-marks_of-before) → Begun c.args.image.now c.copy_all.new.dst c.marks_of-before.result c.root_of-root.result
begun c = record { is_sound = c.requires.0; copied = c.copy_all.ensures; is_root = c.root_of-root.ensures; marks = c.marks_of-before.ensures.marks }

pub edit_list-requires : goal.edit_list-requires
edit_list-requires c = (first_good (begun (goal.at.edit_list-requires c).After-marks_of-before), few-pages (begun (goal.at.edit_list-requires c).After-marks_of-before), c.requires.2)

pub copy_all-requires-in-Err : goal.copy_all-requires-in-Err
copy_all-requires-in-Err c =
    ((c.edit_list.auto.work ∙ c.copy_all.auto.dst ∙ c.requires.1), (image-size c.args.image.now c.requires.0).high)

ended : (c : In-Ok) → (Begun c.args.image.now c.copy_all.new.dst c.marks_of-before.result c.root_of-root.result) → Ended c.args.image.now c.marks_of-before.result (edits_of (edit_list c.args.list.now)) c.edit_list.new.work c.in-Ok.end
ended c begun =
    made-ended begun _ (list-proper c.args.list.now _ c.requires.2) _ _ c.edit_list.ensures _ c.in-Ok.is

pub finish-requires : goal.finish-requires
finish-requires c =
    ((ended (goal.at.finish-requires c).In-Ok (begun (goal.at.finish-requires c).After-marks_of-before)).good (c.edit_list.auto.work ∙ c.copy_all.auto.dst ∙ c.requires.1), sym (c.edit_list.auto.work ∙ c.copy_all.auto.dst ∙ c.requires.1), (ended (goal.at.finish-requires c).In-Ok (begun (goal.at.finish-requires c).After-marks_of-before)).spared)

pub commit_edits-requires : goal.commit_edits-requires
commit_edits-requires c =
    let edited = (ended (goal.at.commit_edits-requires c).In-Ok (begun (goal.at.commit_edits-requires c).After-marks_of-before)).edited _ c.finish.ensures in
    (c.requires.0, edited, marks-at c.args.image.now c.marks_of-before.result _ c.root_of-root.ensures c.marks_of-before.ensures.marks c.marks_of-before.ensures.by_index)

pub returns-in-Err : goal.returns-in-Err
returns-in-Err c = let whole =
    stopped-shows c.args.way c.args.image.now c.args.tape.now _ _ (made-stopped (begun (goal.at.returns-in-Err c).After-marks_of-before) _ (list-proper c.args.list.now _ c.requires.2) _ _ c.edit_list.ensures _ c.in-Err.is) _ c.copy_all-in-Err.ensures in record { value = whole.0; work_after = whole.1.0; tape_after = whole.1.1 }

pub returns-in-Ok : goal.returns-in-Ok
returns-in-Ok c = let whole =
    finished-shows c.args.way c.args.image.now c.args.tape.now _ _ (ended (goal.at.returns-in-Ok c).In-Ok (begun (goal.at.returns-in-Ok c).After-marks_of-before)).finishes _ c.finish.ensures _ (c.commit_edits.ensures.value, (c.commit_edits.ensures.work_after, c.commit_edits.ensures.tape_after)) in record { value = whole.0; work_after = whole.1.0; tape_after = whole.1.1 }
