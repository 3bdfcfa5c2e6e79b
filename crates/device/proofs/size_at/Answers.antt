-- `size_at`: each test on the way is one of a command's.
-- Assumes nothing.
use Prim.Native.Nat.{ℕ, ◌≤◌}
use mathlib.Core.Path.{◌≡◌, sym, ap, ◌∙◌}
use native.Mathlib.Omega.{arith}
use native.Mathlib.Nat.{add-zero}
use lib.ListN.{length, drop, length-drop}
use lib.Seq.{get_or-drop}
use borrow.Author.Tests.{not-true, not-false}
use Rattle.codec.specs.Lists.{part}
use Rattle.codec.specs.Numbers.{number}
use Rattle.device.specs.Tape.{place_of}
use Rattle.device.proofs.Counts.{sized-none, sized-some, none-sized, some-sized}
use Rattle.device.proofs.Decode.{extent-kind, extent-none, extent-cut, extent-out, extent-size}
use Rattle.codec.proofs.Lists.{part-drop}
use Rattle.device.proofs.size_at.Goals as goal
use Rattle.device.proofs.size_at.Goals.{After-number_at-place}

pub returns-then-left-lt4-clause-value : goal.returns-then-left-lt4-clause-value
returns-then-left-lt4-clause-value c =
    let a = c.args in
    none-sized _ (extent-none a.n (drop a.at a.tape.now) (λ s. omega (arith, s.head, length-drop a.at a.tape.now)))

-- the two numbers that were read are the command's
read : (c : After-number_at-place) →
    let a = c.args in
    let t = drop a.at a.tape.now in
    (4 ≤ length t) × (c.number_at-head.result ≡ number (part t 0 2)) × (c.number_at-place.result ≡ place_of t)
read c =
    let a = c.args in
    let t = a.tape.now in (
      simp length-drop (omega arith),
      c.number_at-head.ensures.0 ∙ ap number (sym (part-drop t a.at 0 2 ∙ ap (λ (i : ℕ). part t i 2) (add-zero a.at))),
      c.number_at-place.ensures.0 ∙ ap number (sym (part-drop t a.at 2 2)),
    )

pub returns-in_err-size-clause-value : goal.returns-in_err-size-clause-value
returns-in_err-size-clause-value c =
    let a = c.args in
    let r = read (goal.at.returns-in_err-size-clause-value c).After-number_at-place in
    rw c.from_residual.ensures (none-sized _ (extent-kind a.n _ r.0 _ _ r.1 r.2 (sized-none _ c.in_err-size.ensures)))

pub returns-then-left-size-clause-value : goal.returns-then-left-size-clause-value
returns-then-left-size-clause-value c =
    let a = c.args in
    let r = read (goal.at.returns-then-left-size-clause-value c).After-number_at-place in
    none-sized _ (extent-cut a.n _ r.0 _ _ r.1 r.2 (omega (arith, length-drop a.at a.tape.now, (sized-some _ _ c.in_ok-size.ensures).0)))

pub returns-then-not-is_place-clause-value : goal.returns-then-not-is_place-clause-value
returns-then-not-is_place-clause-value c =
    let a = c.args in
    let r = read (goal.at.returns-then-not-is_place-clause-value c).After-number_at-place in
    none-sized _ (extent-out a.n _ r.0 _ _ r.1 r.2 (sym c.is_place.ensures ∙ not-true _ c.if-not-is_place.true-raw))

pub returns-clause-value : goal.returns-clause-value
returns-clause-value c =
    let a = c.args in
    let r = read (goal.at.returns-clause-value c).After-number_at-place in
    let size = sized-some _ _ c.in_ok-size.ensures in
    let byte = rw (add-zero a.at) at (get_or-drop a.at a.tape.now 0 0) in
    some-sized _ _ (size.0 ∙ sym (extent-size a.n _ r.0 _ _ r.1 r.2 (omega (arith, byte, c.type_inv.tape a.at)) (omega (arith, length-drop a.at a.tape.now, size.0)) (sym c.is_place.ensures ∙ not-false _ c.if-not-is_place.false-raw))) size.1
