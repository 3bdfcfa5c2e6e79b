-- `play`: the stores left, made over what is there, are all stores made.
-- Assumes nothing.
use Prim.Native.Nat.{◌*◌}
use mathlib.Core.Path.{◌≡◌, refl, sym, ap, ◌∙◌}
use mathlib.Core.Bool.{true}
use native.Mathlib.Omega.{arith}
use lib.ListN.{length, drop}
use Rattle.device.specs.Tape.{is_command}
use Rattle.device.specs.Cut.{after}
use Rattle.device.proofs.Decode.{StoreAt, QuietAt, good-command, word_at, line_at, quiet_at, head_at, decode-end, store-good, quiet-good}
use Rattle.device.proofs.Turns.{play-store, play-quiet}
use Rattle.device.proofs.play.Goals as goal
use Rattle.device.proofs.play.Goals.{Else-kind-eq2, In-loop-at, Then-kind-eq1, Then-kind-eq2}

pub loop-at-init : goal.loop-at-init
loop-at-init c = (omega arith, refl, c.requires, refl)

pub bounds-tape-at : goal.bounds-tape-at
bounds-tape-at c = omega arith

-- a command stands at the place reached
here : (c : In-loop-at) → is_command (length c.args.work.now) (drop c.loop-at.at c.args.tape.now) ≡ true
here c = good-command _ _ _ c.loop-at-test.true c.loop-at.invariant.2

pub number_at-place-requires : goal.number_at-place-requires
number_at-place-requires c = let k = head_at _ _ _ c.loop-at-test.true (here (goal.at.number_at-place-requires c).In-loop-at) in omega arith

-- the word store, the line store, or what is no store, that was read
word : (c : Then-kind-eq1) → (is_command (length c.args.work.now) (drop c.loop-at.at c.args.tape.now) ≡ true) → StoreAt (length c.args.work.now) c.args.tape.now c.loop-at.at (8 * c.number_at-place.result) 8
word c here = word_at _ _ _ c.loop-at-test.true here _ c.number_at-place.ensures.0 c.if-kind-eq1.true

line : (c : Then-kind-eq2) → (is_command (length c.args.work.now) (drop c.loop-at.at c.args.tape.now) ≡ true) → StoreAt (length c.args.work.now) c.args.tape.now c.loop-at.at (64 * c.number_at-place.result) 64
line c here = line_at _ _ _ c.loop-at-test.true here _ c.number_at-place.ensures.0 c.if-kind-eq2.true

quiet : (c : Else-kind-eq2) → (is_command (length c.args.work.now) (drop c.loop-at.at c.args.tape.now) ≡ true) → QuietAt (length c.args.work.now) c.args.tape.now c.loop-at.at c.number_at-place.result
quiet c here = quiet_at _ _ _ c.loop-at-test.true here _ c.number_at-place.ensures.0 c.if-kind-eq1.false c.if-kind-eq2.false

pub copy_word-requires : goal.copy_word-requires
copy_word-requires c = let k = word (goal.at.copy_word-requires c).Then-kind-eq1 (here (goal.at.copy_word-requires c).In-loop-at) in (omega arith, omega arith)

pub loop-at-preserved-then-kind-eq1 : goal.loop-at-preserved-then-kind-eq1
loop-at-preserved-then-kind-eq1 c =
    let k = word (goal.at.loop-at-preserved-then-kind-eq1 c).Then-kind-eq1 (here (goal.at.loop-at-preserved-then-kind-eq1 c).In-loop-at) in
    let l = c.loop-at in
    (k.in_tape, omega (arith, c.copy_word.auto.dst), store-good _ _ _ _ _ k l.invariant.2, play-store _ _ _ _ _ l.work _ k l.invariant.1 c.copy_word.ensures ∙ l.invariant.3)

pub copy_line-requires : goal.copy_line-requires
copy_line-requires c = let k = line (goal.at.copy_line-requires c).Then-kind-eq2 (here (goal.at.copy_line-requires c).In-loop-at) in (omega arith, omega arith)

pub loop-at-preserved-then-kind-eq2 : goal.loop-at-preserved-then-kind-eq2
loop-at-preserved-then-kind-eq2 c =
    let k = line (goal.at.loop-at-preserved-then-kind-eq2 c).Then-kind-eq2 (here (goal.at.loop-at-preserved-then-kind-eq2 c).In-loop-at) in
    let l = c.loop-at in
    (k.in_tape, omega (arith, c.copy_line.auto.dst), store-good _ _ _ _ _ k l.invariant.2, play-store _ _ _ _ _ l.work _ k l.invariant.1 c.copy_line.ensures ∙ l.invariant.3)

pub loop-at-preserved : goal.loop-at-preserved
loop-at-preserved c =
    let k = quiet (goal.at.loop-at-preserved c).Else-kind-eq2 (here (goal.at.loop-at-preserved c).In-loop-at) in
    let l = c.loop-at in
    (k.in_tape, l.invariant.1, quiet-good _ _ _ _ k l.invariant.2, play-quiet _ _ _ _ l.work k ∙ l.invariant.3)

pub returns : goal.returns
unfolding after
returns c =
    sym (ap (after c.loop-at.work) (decode-end (length c.args.work.now) c.loop-at.at c.args.tape.now c.loop-at-test.false)) ∙ c.loop-at.invariant.3
