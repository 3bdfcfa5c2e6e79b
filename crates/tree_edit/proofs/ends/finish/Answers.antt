-- `finish`: marks, pages put back, and the root word make the edited image.
-- Assumes nothing.
use native.Mathlib.Omega.{arith}
use Rattle.tree_edit.proofs.Marked.{good-marks}
use Rattle.tree_edit.proofs.Back.{can-put-back, word_fits, edited-is}
use Rattle.tree_edit.proofs.ends.finish.Goals as goal

pub marks_of-marks-requires : goal.marks_of-marks-requires
marks_of-marks-requires c = good-marks _ _ c.requires.0

pub put_back-requires : goal.put_back-requires
put_back-requires c =
    (can-put-back _ _ _ c.requires.0 c.requires.1, c.requires.2)

pub put_long-requires : goal.put_long-requires
put_long-requires c =
    omega (arith, word_fits c.args.image.now _ _ c.requires.0 c.requires.1, c.put_back.auto.work)

pub returns : goal.returns
returns c =
    edited-is _ _ _ c.requires.0 c.requires.1 c.marks_of-marks.result c.marks_of-marks.ensures.marks _ c.put_back.ensures _ c.put_long.ensures _
