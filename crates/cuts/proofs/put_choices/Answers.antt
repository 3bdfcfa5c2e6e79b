-- `put_choices`: from the last line named to the first, what is left counts the choices of the lines written.
-- Assumes nothing.
use Prim.Native.Nat.{ℕ, ◌+◌}
use mathlib.Core.Path.{◌≡◌, refl, ap, ◌∙◌, subst}
use mathlib.Core.List.{List}
use native.Mathlib.Omega.{arith}
use lib.ListN.{length, get_or, replicate}
use Rattle.std.proofs.Common.{rules}
use Rattle.device.proofs.Counts.{zeros}
use Rattle.cuts.proofs.Digits.{Digits, digits-start, digits-down, digits-put, digits-end}
use Rattle.cuts.proofs.put_choices.Goals as goal

pub loop-line-init : goal.loop-line-init
loop-line-init c =
    let a = c.args in
    let filled : c.fill.new.self ≡ replicate (length a.choices.now) 0 = search rules in
    let long : length c.fill.new.self ≡ length a.pending.now = omega arith in
    subst (λ (x : ℕ). Digits a.pending.now a.r a.r x c.fill.new.self) (omega arith) (digits-start a.pending.now a.r _ long (λ l. ap (λ (x : List ℕ). get_or x l 0) filled ∙ zeros (length a.choices.now) l))

pub loop-line-preserved : goal.loop-line-preserved
loop-line-preserved c =
    let a = c.args in
    let l = c.loop-line in
    digits-put a.pending.now a.r l.left _ c.in-Some.line (c.wide-factor.result + 1) l.choices refl (omega (arith, c.wide-factor.ensures.0))
    (digits-down a.pending.now a.named.now c.requires.2 a.r l.left l.choices _ l.bound c.in-Some.ensures.within c.in-Some.ensures.above l.invariant)

pub returns : goal.returns
returns c =
    let a = c.args in
    let l = c.loop-line in
    digits-end a.pending.now a.r l.left l.choices (digits-down a.pending.now a.named.now c.requires.2 a.r l.left l.choices _ l.bound c.in_default.ensures.within c.in_default.ensures.above l.invariant) c.requires.1
