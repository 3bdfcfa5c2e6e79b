-- `emit_end`, case by case.
-- Assumes nothing.
use mathlib.Core.Path.{sym, ap, ◌∙◌, subst}
use mathlib.Core.List.{[]}
use native.Mathlib.Omega.{arith}
use lib.ListN.{length}
use borrow.Author.Tests.{eqb-true, eqb-false}
use Rattle.journal.specs.Tape.{by_header}
use Rattle.tape_write.specs.Lines.{PageIn}
use Rattle.tape_write.proofs.StageTape.{all-at}
use Rattle.tape_write.proofs.Choosing.{end-root, end-header, end-log, bytes-log, bytes_one, bytes-none, leaves-as, leaves-root, leaves-header, leaves-log}
use Rattle.tape_write.proofs.ends.emit_end.Goals as goal

pub emit_settled-requires : goal.emit_settled-requires
emit_settled-requires c =
    omega (arith, (bytes-none c.args.way (length c.args.pages.now) c.args.same (eqb-true _ 0 (sym c.if-is_empty.ensures))).0)

pub returns-then-is_empty : goal.returns-then-is_empty
returns-then-is_empty c = let whole =
    leaves-as _ _ c.args.tape.now c.args.at _ _ _ (end-root c.args.way c.args.work.now c.args.same c.args.pages.now (eqb-true _ 0 (sym c.if-is_empty.ensures))) (leaves-root c.args.work.now c.args.tape.now _ c.args.at c.long_at.result c.long_at.ensures c.emit_settled.ensures) in record { value = whole.0; work_after = whole.1.0; tape_after = whole.1.1 }

pub emit_header-requires : goal.emit_header-requires
emit_header-requires c =
    let alone = sym c.commits_alone.ensures ∙ c.if-commits_alone.true in
    let some = eqb-false (length c.args.pages.now) 0 (sym c.if-is_empty.ensures) in
    (omega (arith, (bytes_one c.args.way (length c.args.pages.now) c.args.same some alone).0), subst (PageIn c.args.work.now) (sym c.wide-page.ensures.0) (all-at (PageIn c.args.work.now) c.args.pages.now 0 c.requires.3 (omega (arith, some))))

pub returns-then-commits_alone : goal.returns-then-commits_alone
returns-then-commits_alone c = let whole =
    let alone = sym c.commits_alone.ensures ∙ c.if-commits_alone.true in
    leaves-as _ _ c.args.tape.now c.args.at _ _ _ (end-header c.args.way c.args.work.now c.args.same c.args.pages.now alone ∙ ap (by_header [] c.args.work.now) (sym c.wide-page.ensures.0)) (leaves-header c.args.work.now c.args.tape.now _ c.args.at c.wide-page.result c.emit_header.ensures) in record { value = whole.0; work_after = whole.1.0; tape_after = whole.1.1 }

pub emit_by_log-requires : goal.emit_by_log-requires
emit_by_log-requires c =
    let several = sym c.commits_alone.ensures ∙ c.if-commits_alone.false in
    let some = eqb-false (length c.args.pages.now) 0 (sym c.if-is_empty.ensures) in
    (omega (arith, (bytes-log c.args.way (length c.args.pages.now) c.args.same some several).0), c.requires.1, c.requires.2, c.requires.3)

pub returns : goal.returns
returns c = let whole =
    let several = sym c.commits_alone.ensures ∙ c.if-commits_alone.false in
    let some = eqb-false (length c.args.pages.now) 0 (sym c.if-is_empty.ensures) in
    leaves-as _ _ c.args.tape.now c.args.at _ _ _ (end-log c.args.way c.args.work.now c.args.same c.args.pages.now some several) (leaves-log c.args.work.now c.args.tape.now _ c.args.at c.args.way c.args.same c.args.pages.now _ c.emit_by_log.ensures.work_after c.emit_by_log.ensures.tape_after) in record { value = whole.0; work_after = whole.1.0; tape_after = whole.1.1 }
