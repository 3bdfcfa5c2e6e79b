-- `count_commands`: the commands left are well formed as all are, and with those counted they are all.
-- Assumes nothing.
use mathlib.Core.Path.{◌≡◌, refl, sym, ap, ◌∙◌}
use mathlib.Core.Bool.{true, false}
use mathlib.Core.List.{[]}
use native.Mathlib.Omega.{arith}
use lib.ListN.{length, drop}
use Rattle.device.specs.Tape.{decode, well_formed}
use Rattle.std.specs.Prelude.{Some}
use Rattle.device.proofs.Counts.{sized-none, sized-some}
use Rattle.device.proofs.Decode.{past-at, broken-at, decode-end, well_formed-next}
use Rattle.device.proofs.count_commands.Goals as goal

pub loop-at-init : goal.loop-at-init
loop-at-init c = (omega arith, omega arith, refl, omega arith)

pub returns-in_err-size : goal.returns-in_err-size
unfolding well_formed
returns-in_err-size c =
    let a = c.args in
    let l = c.loop-at in
    let f : well_formed (decode a.n a.tape.now) ≡ false = sym l.invariant.2 ∙ ap well_formed (broken-at a.n l.at a.tape.now c.loop-at-test.true (sized-none _ c.in_err-size.ensures.value)) in
    rw (c.from_residual.ensures, f)

pub loop-at-preserved : goal.loop-at-preserved
loop-at-preserved c =
    let a = c.args in
    let l = c.loop-at in
    let size = sized-some _ _ c.in_ok-size.ensures.value in
    let next = past-at a.n l.at a.tape.now c.loop-at-test.true _ size.0 (omega (arith, size.1)) in
    (c.in_ok-size.ensures.inside, omega (arith, size, c.in_ok-size.ensures.inside), sym (ap well_formed next ∙ well_formed-next _ _ (omega (arith, size))) ∙ l.invariant.2, omega (arith, ap length next, size))

pub returns : goal.returns
unfolding well_formed
returns c =
    let a = c.args in
    let l = c.loop-at in
    let none : decode a.n (drop l.at a.tape.now) ≡ [] = decode-end a.n l.at a.tape.now c.loop-at-test.false in
    let f : well_formed (decode a.n a.tape.now) ≡ true = sym l.invariant.2 ∙ ap well_formed none in
    let g : l.count ≡ length (decode a.n a.tape.now) = omega (arith, ap length none) in
    rw f (ap Some g)
