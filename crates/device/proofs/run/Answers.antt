-- `run`: each test on the way is one of the definition's.
-- Assumes nothing.
use Prim.Native.Nat.{ℕ}
use mathlib.Core.Path.{◌≡◌, sym, ap, ◌∙◌}
use mathlib.Core.Bool.{true}
use mathlib.Core.List.{List}
use lib.ListN.{length}
use borrow.Author.Tests.{eq-eqb, ne_eqb, not-true, not-false}
use Rattle.device.specs.Tape.{decode, well_formed}
use Rattle.device.specs.Cut.{after}
use Rattle.device.specs.Calls.{is_image_size, accepted, refused, run_call}
use Rattle.std.specs.Prelude.{Err}
use Rattle.device.proofs.Calls.{holds, fails, said, scanned-none, scanned-some}
use Rattle.device.proofs.run.Goals as goal
use Rattle.device.proofs.run.Goals.{Else-not-is_image_size, In-Some}

pub returns-then-not-is_image_size : goal.returns-then-not-is_image_size
unfolding run_call
returns-then-not-is_image_size c =
    let a = c.args in
    let s = said (run_call a.image.now a.work.now a.tape.now) (refused 1 a.work.now) (fails _ _ _ _ (sym c.is_image_size.ensures ∙ not-true _ c.if-not-is_image_size.true-raw)) in
    record { value = ap Err c.of.ensures ∙ s.0; work_after = s.1 }

sized : (c : Else-not-is_image_size) → is_image_size (length c.args.image.now) ≡ true
sized c = sym c.is_image_size.ensures ∙ not-false _ c.if-not-is_image_size.false-raw

pub returns-then-work-n : goal.returns-then-work-n
unfolding run_call
returns-then-work-n c =
    let a = c.args in
    let s = said (run_call a.image.now a.work.now a.tape.now) (refused 2 a.work.now) (holds _ _ _ _ (sized (goal.at.returns-then-work-n c).Else-not-is_image_size) ∙ fails _ _ _ _ (ne_eqb _ _ c.if-work-n.true)) in
    record { value = ap Err c.of-then-work-n.ensures ∙ s.0; work_after = s.1 }

-- the tape is well formed
formed : (c : In-Some) → well_formed (decode (length c.args.image.now) c.args.tape.now) ≡ true
formed c = (scanned-some _ _ (sym c.count_commands.ensures ∙ c.in-Some.is)).0

pub returns-in_default : goal.returns-in_default
unfolding run_call
returns-in_default c =
    let a = c.args in
    let s = said (run_call a.image.now a.work.now a.tape.now) (refused 14 a.work.now) (holds _ _ _ _ (sized (goal.at.returns-in_default c).Else-not-is_image_size) ∙ holds _ _ _ _ (eq-eqb _ _ c.if-work-n.false) ∙ fails _ _ _ _ (scanned-none _ (sym c.in_default.ensures))) in
    record { value = ap Err c.of-in_default.ensures ∙ s.0; work_after = s.1 }

pub returns : goal.returns
unfolding run_call
returns c =
    let a = c.args in
    let done = after a.image.now (decode (length a.image.now) a.tape.now) in
    let s = said (run_call a.image.now a.work.now a.tape.now) (accepted done) (holds _ _ _ _ (sized (goal.at.returns c).Else-not-is_image_size) ∙ holds _ _ _ _ (eq-eqb _ _ c.if-work-n.false) ∙ holds _ _ _ _ (formed (goal.at.returns c).In-Some)) in
    record { value = s.0; work_after = c.play.ensures ∙ ap (λ (w : List ℕ). after w (decode (length w) a.tape.now)) c.copy_all.ensures ∙ s.1 }
