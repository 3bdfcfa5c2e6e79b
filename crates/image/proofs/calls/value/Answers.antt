-- `value` lends the part of the image that the lookup names.
-- Assumes nothing.
use Rattle.std.specs.Prelude.{Ok}
use Prim.Native.Nat.{ℕ, ◌+◌, ◌≤◌}
use mathlib.Core.Path.{sym, ap, ◌∙◌}
use native.Mathlib.Omega.{arith}
use native.Mathlib.Nat.{add-sub_cancel_left}
use lib.ListN.{length, take, drop}
use Rattle.codec.specs.Lists.{part}
use Rattle.image.specs.Calls.{value_at, value_call}
use Rattle.image.proofs.Says.{found_inside}
use Rattle.image.proofs.calls.value.Goals as goal
use Rattle.image.proofs.calls.value.Goals.{In-Ok-Some}

inside : (c : In-Ok-Some) → c.in-Ok-Some.part.offset + c.in-Ok-Some.part.length ≤ length c.args.image.now
inside c =
    let a = c.args in
    found_inside a.image.now a.key _ _ (sym c.lookup.ensures ∙ c.in-Ok-Some.is ∙ ap Ok c.in-Ok-Some.field-0-is)

pub overflow_add-end : goal.overflow_add-end
overflow_add-end c = omega (arith, inside (goal.at.overflow_add-end c).In-Ok-Some)

pub slice_bounds-result-end : goal.slice_bounds-result-end
slice_bounds-result-end c = omega (arith, inside (goal.at.slice_bounds-result-end c).In-Ok-Some)

pub returns-in-Ok-Some : goal.returns-in-Ok-Some
unfolding value_call value_at part
returns-in-Ok-Some c =
    let a = c.args in
    ap (λ (n : ℕ). take n (drop c.in-Ok-Some.part.offset a.image.now)) (add-sub_cancel_left c.in-Ok-Some.part.offset c.in-Ok-Some.part.length) ∙ ap (value_at a.image.now) (sym (sym c.lookup.ensures ∙ c.in-Ok-Some.is ∙ ap Ok c.in-Ok-Some.field-0-is))

pub returns-in-Ok-None : goal.returns-in-Ok-None
unfolding value_call value_at
returns-in-Ok-None c = ap (value_at c.args.image.now) (sym (sym c.lookup.ensures ∙ c.in-Ok-None.is ∙ ap Ok c.in-Ok-None.field-0-is))

pub returns-in-Err : goal.returns-in-Err
unfolding value_call value_at
returns-in-Err c = ap (value_at c.args.image.now) (sym (sym c.lookup.ensures ∙ c.in-Err.is))
