-- `commit_edits`: what writing the tape came to, with the image put back where the transaction is refused.
-- Assumes nothing.
use Rattle.std.specs.Prelude.{Err, Ok}
use mathlib.Core.Path.{sym, ◌∙◌, subst}
use native.Mathlib.Omega.{arith}
use Rattle.tree_edit.specs.Asked.{CanMark}
use Rattle.transaction.proofs.Joining.{image-size, can-mark, marks-at, lent-are}
use Rattle.transaction.proofs.Shown.{commit-shows, refused-shows}
use Rattle.transaction.proofs.commit_edits.Goals as goal

pub root_of-requires : goal.root_of-requires
root_of-requires c =
    omega (arith, (image-size c.args.work.now c.requires.1.is_sound).low)

pub marks_of-after-requires : goal.marks_of-after-requires
marks_of-after-requires c =
    subst (CanMark c.args.work.now) (sym c.root_of.ensures) (can-mark c.args.work.now c.requires.1.is_sound)

pub commit-requires : goal.commit-requires
commit-requires c =
    lent-are _ _ _ _ c.requires.0 c.requires.1 c.requires.2 (marks-at c.args.work.now c.marks_of-after.result _ c.root_of.ensures c.marks_of-after.ensures.marks c.marks_of-after.ensures.by_index)

pub copy_all-requires : goal.copy_all-requires
copy_all-requires c =
    (c.commit.auto.work ∙ c.requires.1.same_length, (image-size c.args.image.now c.requires.0).high)

pub returns-in-Ok : goal.returns-in-Ok
returns-in-Ok c = let whole =
    commit-shows c.args.way c.args.image.now c.args.work.now c.args.tape.now _ (Ok c.in-Ok.done) c.in-Ok.is _ _ (c.commit.ensures.value, (c.commit.ensures.work_after, c.commit.ensures.tape_after)) in record { value = whole.0; work_after = whole.1.0; tape_after = whole.1.1 }

pub returns-in-Err : goal.returns-in-Err
returns-in-Err c = let whole =
    refused-shows _ c.args.image.now _ _ (commit-shows c.args.way c.args.image.now c.args.work.now c.args.tape.now _ (Err c.in-Err.cause) c.in-Err.is _ _ (c.commit.ensures.value, (c.commit.ensures.work_after, c.commit.ensures.tape_after))) _ c.of.ensures _ c.copy_all.ensures in record { value = whole.0; work_after = whole.1.0; tape_after = whole.1.1 }
