-- `put_back`: page by page, those below p are done.
-- Assumes nothing.
use Prim.Native.Nat.{◌+◌, ◌*◌, ◌≤◌}
use mathlib.Core.Path.{sym, ap, ◌∙◌}
use mathlib.Core.Bool.{not}
use native.Mathlib.Omega.{arith}
use lib.ListN.{length, get_or}
use borrow.Author.Tests.{eq-eqb}
use Rattle.page.specs.Layout.{page_size}
use Rattle.page.proofs.Images.{length-page_of, length-lent, back}
use Rattle.tree_edit.proofs.Back.{done-keep, done-spare, done-back, done_all}
use Rattle.tree_edit.proofs.ends.put_back.Goals as goal
use Rattle.tree_edit.proofs.ends.put_back.Goals.{In-loop-p, then-marks-p-eq0+then-top-p, else-marks-p-eq0, else-marks-p-eq0-via-then-marks-p-eq0+else-top-p, else-marks-p-eq0-via-else-marks-p-eq0}

-- page p lies in both images
inside : (c : In-loop-p) → (page_size * c.loop-p.p + page_size ≤ length c.args.image.now) × (page_size * c.loop-p.p + page_size ≤ length c.loop-p.work)
inside c =
    let k = c.requires.0 in
    (omega (arith, k.whole, c.loop-p-test.true), omega (arith, k.whole, k.same, c.loop-p-test.true, c.loop-p.invariant.long))

pub copy_from_slice-requires : goal.copy_from_slice-requires
copy_from_slice-requires c =
    let fits = inside (goal.at.copy_from_slice-requires c).In-loop-p in
    let p = c.loop-p.p in
    length-lent c.loop-p.work p fits.1 ∙ sym (ap length c.page_of.ensures ∙ length-page_of c.args.image.now p fits.0)

pub loop-p-preserved : goal.loop-p-preserved
loop-p-preserved c =
    let l = c.loop-p in
    let fits = inside (goal.at.loop-p-preserved c).In-loop-p in
    elim c.if-marks-p-eq0.branch [
      | then-marks-p-eq0+then-top-p w ↦
          let copy = w.copy_from_slice in
          let put = back l.work l.p copy.new.self _ fits.1 copy.ensures.len (copy.ensures.after ∙ w.page_of.ensures) in
          done-back l.invariant c.requires.0.same fits.0 w.if-marks-p-eq0.true _ (w.work-is ∙ put)
      | else-marks-p-eq0 w ↦
          rw w.work-is (elim w.else-marks-p-eq0.branch [
            | else-marks-p-eq0-via-then-marks-p-eq0+else-top-p w' ↦
                let spared = w'.if-top-p.false in
                done-spare l.invariant w'.if-marks-p-eq0.true (c.requires.1 l.p l.invariant.some spared.1 (ap not (eq-eqb (get_or c.args.before.now l.p 0) 0 spared.0)))
            | else-marks-p-eq0-via-else-marks-p-eq0 w' ↦ done-keep l.invariant w'.if-marks-p-eq0.false
          ])
    ]

pub returns : goal.returns
returns c = done_all c.loop-p.invariant c.requires.0.same c.requires.0.whole c.loop-p-test.false
