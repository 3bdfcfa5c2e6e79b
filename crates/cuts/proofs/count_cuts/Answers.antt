-- `count_cuts`: the number of cuts, where the tape is a small one.
-- Assumes nothing.
use Rattle.std.proofs.lemmas.Result.{err_from_is_err_and}
use Rattle.std.specs.Prelude.{Ok}
use Prim.Native.Nat.{ℕ, ◌/◌}
use mathlib.Core.Path.{sym, ap, ◌∙◌}
use native.Mathlib.Omega.{arith}
use lib.ListN.{length}
use Rattle.device.specs.Tape.{decode, well_formed}
use Rattle.cuts.specs.All.{cuts}
use Rattle.cuts.specs.Says.{Small, count-given}
use Rattle.cuts.proofs.Calls.{whole-lines, small_is, count-refuses, says-count}
use Rattle.cuts.proofs.count_cuts.Goals as goal
use Rattle.cuts.proofs.count_cuts.Goals.{In_ok-small_tape}

small : (c : In_ok-small_tape) → Small c.args.image.now c.args.tape.now
small c = (small_is _ _ _ (sym c.small_tape.ensures ∙ c.in_ok-small_tape.was)).0

pub number_of_cuts-requires : goal.number_of_cuts-requires
number_of_cuts-requires c =
    let k = small (goal.at.number_of_cuts-requires c).In_ok-small_tape in
    let whole = whole-lines _ k.size in
    record { lines_bound = whole.1; tape_value = (ap (λ (n : ℕ). well_formed (decode n c.args.tape.now)) whole.0 ∙ k.formed, omega (arith, ap (λ (n : ℕ). length (decode n c.args.tape.now)) whole.0, k.few)) }

pub returns-in_err-small_tape : goal.returns-in_err-small_tape
returns-in_err-small_tape c = let p = err_from_is_err_and c.from_residual.result c.from_residual.ensures.1 in rw (p.1, p.2) (sym (count-refuses _ _ _ (sym c.small_tape.ensures ∙ c.in_err-small_tape.was)))

pub returns : goal.returns
returns c =
    let a = c.args in
    let k = small (goal.at.returns c).In_ok-small_tape in
    ap Ok (c.number_of_cuts.ensures ∙ ap (λ (n : ℕ). length (cuts (length a.image.now / 64) (decode n a.tape.now))) (whole-lines _ k.size).0) ∙ sym (says-count a.image.now a.tape.now _ (count-given k))
