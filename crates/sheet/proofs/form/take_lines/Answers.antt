-- `take_lines`: what the lines that are left do after those taken is the whole.
-- Assumes nothing.
use Prim.Native.Nat.{◌+◌}
use native.Mathlib.Omega.{arith}
use mathlib.Core.Path.{◌≡◌, sym, ap, ◌∙◌}
use Rattle.std.proofs.Common.{rules, Some, Err}
use Rattle.std.proofs.lemmas.Result.{err_from_is_err_and}
use Rattle.sheet.specs.Steps.{does}
use Rattle.sheet.proofs.Taking.{ends_with, taken-first, taken-last, taken-over, taken-bad, taken-next, opened-with}
use Rattle.sheet.proofs.form.take_lines.Goals as goal

pub loop-done-init : goal.loop-done-init
loop-done-init c =
    let a = c.args in
    let w = c.new-waiting in
    let t = c.default-totals in
    record {
      can_next = search rules;
      is_finite = search rules;
      size = search rules;
      taken = taken-first a.input.now a.image.now _ _ _ (search rules) (search rules) (opened-with a.image.now w.result t.result w.ensures.edits w.ensures.used t.ensures.0 t.ensures.1);
    }

pub returns-then-done-ge-MOST_LINES : goal.returns-then-done-ge-MOST_LINES
returns-then-done-ge-MOST_LINES c =
    let l = c.loop-done in
    let t = c.in-Some.ensures.steps in
    let e = ends_with _ _ (taken-over _ _ c.in-Some.done _ _ _ _ _ l.invariant.taken t.1 l.invariant.size t.0.1 (omega arith)) in
    record { value = e.0; image_after = e.1 }

pub returns-in_err-ok_or : goal.returns-in_err-ok_or
returns-in_err-ok_or c =
    let l = c.loop-done in
    let t = c.in-Some.ensures.steps in
    let o = c.in_err-ok_or.ensures in
    let e = ends_with _ _ (taken-bad _ _ c.in-Some.done _ _ _ _ _ l.invariant.taken t.1 l.invariant.size t.0.1 (omega arith) (sym o.ok_part ∙ c.read_line.ensures)) in
    let p = err_from_is_err_and c.from_residual.result c.from_residual.ensures.1 in
    let was = rw o.ok_part at o.value in
    let number : c.in_err-ok_or.field-0.0 ≡ record { 0 = c.in-Some.done + 1 } = cc in
    record { value = p.1 ∙ ap Err (p.2 ∙ number) ∙ e.0; image_after = e.1 }

pub loop-done-preserved-in-Commit : goal.loop-done-preserved-in-Commit
unfolding does
loop-done-preserved-in-Commit c =
    let l = c.loop-done in
    let t = c.in-Some.ensures.steps in
    let line = sym (ap Some c.in-Commit.is) ∙ sym c.in_ok-ok_or.ensures.ok_part ∙ c.read_line.ensures in
    record {
      can_next = search rules;
      is_finite = search rules;
      size = search rules;
      taken = taken-next _ _ c.in-Some.done _ _ _ _ _ l.invariant.taken t.1 l.invariant.size t.0.1 (omega arith) _ _ _ line c.commit.ensures t.2;
    }

pub loop-done-preserved : goal.loop-done-preserved
unfolding does
loop-done-preserved c =
    let l = c.loop-done in
    let t = c.in-Some.ensures.steps in
    let line = sym (ap Some c.in-Edit.is) ∙ sym c.in_ok-ok_or.ensures.ok_part ∙ c.read_line.ensures in
    record {
      can_next = search rules;
      is_finite = search rules;
      size = search rules;
      taken = taken-next _ _ c.in-Some.done _ _ _ _ _ l.invariant.taken t.1 l.invariant.size t.0.1 (omega arith) _ _ _ line (c.wait.ensures l.image l.totals) t.2;
    }

pub returns : goal.returns
returns c =
    let l = c.loop-done in
    let e = ends_with _ _ (taken-last _ _ _ _ l.invariant.taken c.in-None.ensures.steps.0.1.0) in
    record { value = e.0; image_after = e.1 }
