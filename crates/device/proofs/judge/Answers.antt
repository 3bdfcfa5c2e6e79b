-- `judge`: the commands left are well formed as all are, with those counted they are all, and with what is noted they come to what is to be told.
-- Assumes nothing.
use Prim.Native.Nat.{◌+◌, ◌-◌}
use mathlib.Core.Path.{◌≡◌, refl, sym, ap, ◌∙◌}
use mathlib.Core.List.{[]}
use native.Mathlib.Omega.{arith}
use native.Mathlib.Nat.{sub-zero}
use lib.ListN.{length, take, drop}
use lib.Seq.{take-nil}
use Rattle.device.specs.Tape.{Op, decode, well_formed}
use Rattle.device.specs.Counts.{Found}
use Rattle.device.proofs.Decode.{head_at, past-at, broken-at, decode-end, well_formed-next, some-command}
use Rattle.device.proofs.Counts.{sized-none, sized-some, Noting, noting-start, noting-end}
use Rattle.device.proofs.Turns.{on-at, flush-inside, judge-before, judge-past}
use Rattle.device.proofs.judge.Goals as goal
use Rattle.device.proofs.judge.Goals.{then-count-c, else-count-c}

pub loop-at-init : goal.loop-at-init
loop-at-init c =
    let a = c.args in
    (omega arith, omega arith, refl, refl, omega arith, simp sub-zero (noting-start a.flushes.now (take a.c (decode a.n a.tape.now)) c.requires.1))

pub returns-in_err-size : goal.returns-in_err-size
unfolding well_formed Found
returns-in_err-size c =
    let a = c.args in
    let l = c.loop-at in
    rw c.from_residual.ensures (sym l.invariant.3 ∙ ap well_formed (broken-at a.n l.at a.tape.now c.loop-at-test.true (sized-none _ c.in_err-size.ensures.value)))

pub note-fence-requires : goal.note-fence-requires
note-fence-requires c =
    let loop-test = c.loop-at-test in
    let a = c.args in
    let l = c.loop-at in
    let is = some-command a.n l.at a.tape.now (omega (arith, sized-some _ _ c.in_ok-size.ensures.value)) in
    (head_at a.n l.at a.tape.now loop-test.true is, λ q. omega (arith, c.requires.0, l.invariant.2, flush-inside a.n l.at a.tape.now loop-test.true is q))

pub loop-at-preserved : goal.loop-at-preserved
loop-at-preserved c =
    let a = c.args in
    let l = c.loop-at in
    let size = sized-some _ _ c.in_ok-size.ensures.value in
    let j = c.if-count-c in
    let taken = c.loop-at-test.true in
    let is = some-command a.n l.at a.tape.now (omega (arith, size)) in
    let on = on-at a.n l.at a.tape.now taken is in
    let next = past-at a.n l.at a.tape.now taken _ size.0 (omega (arith, size.1)) in
    let rest = take (a.c - (l.count + 1)) (decode a.n (drop (l.at + c.in_ok-size.size) a.tape.now)) in
    let noted : (length j.flushes ≡ length l.flushes) × Noting j.flushes j.fence (l.at + c.in_ok-size.size) rest (take a.c (decode a.n a.tape.now)) =
    elim j.branch [
      | then-count-c w ↦
          (ap length w.flushes-is ∙ w.note-fence.auto.flushes, judge-before a.c l.count _ _ _ _ l.flushes l.fence l.at _ next l.invariant.5 j.flushes j.fence _ _ w.if-count-c.true on (λ q. omega (arith, flush-inside a.n l.at a.tape.now taken is q)) (w.fence-is ∙ w.note-fence.ensures.value) (w.flushes-is ∙ w.note-fence.ensures.flushes_after) size.0)
      | else-count-c w ↦
          (ap length w.flushes-is, rw (w.flushes-is, w.fence-is) (judge-past a.c l.count _ _ _ _ l.flushes l.fence l.at _ next l.invariant.5 w.if-count-c.false))
    ] in (
      c.in_ok-size.ensures.inside,
      omega (arith, size, c.in_ok-size.ensures.inside),
      noted.0 ∙ l.invariant.2,
      sym (ap well_formed next ∙ well_formed-next _ _ (omega (arith, size))) ∙ l.invariant.3,
      omega (arith, ap length next, size),
      noted.1,
    )

pub returns : goal.returns
unfolding well_formed Found
returns c =
    let a = c.args in
    let l = c.loop-at in
    let none : decode a.n (drop l.at a.tape.now) ≡ [] = decode-end a.n l.at a.tape.now c.loop-at-test.false in
    let left : take (a.c - l.count) (decode a.n (drop l.at a.tape.now)) ≡ [] = ap (take (a.c - l.count)) none ∙ take-nil {A = Op} (a.c - l.count) in
    (sym l.invariant.3 ∙ ap well_formed none, omega (arith, ap length none), noting-end l.flushes l.fence l.at (take a.c (decode a.n a.tape.now)) (rw left at l.invariant.5))
