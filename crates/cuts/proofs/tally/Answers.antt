-- `tally`: the product is the line's factor times the others'.
-- Assumes nothing.
use Prim.Native.Nat.{ℕ, suc, ◌+◌, ◌*◌, ◌/◌, ◌≤◌, ◌<◌}
use mathlib.Core.Path.{◌≡◌, sym, ap, ap₂, ◌∙◌}
use mathlib.Core.List.{List}
use native.Mathlib.Omega.{arith}
use native.Mathlib.Nat.{mul_comm, mul-div_cancel_left, mul-le-mul, div-le_self, le_trans}
use lib.ListN.{length, get_or, set}
use Rattle.cuts.specs.Products.{ways}
use Rattle.cuts.proofs.Choices.{ways-set, ways-factor}
use Rattle.cuts.proofs.tally.Goals as goal

-- the product without the line's factor
others : (ms : List ℕ) (l product k : ℕ) → l < length ms → product ≡ ways ms → k ≡ get_or ms l 0 → product / (k + 1) ≡ ways (set ms l 0)
others ms l product k h e f =
    let one : k + 1 ≡ suc (get_or ms l 0) = omega arith in
    rw (e, one) (ap (λ (x : ℕ). x / suc (get_or ms l 0)) (ways-factor ms l h) ∙ mul-div_cancel_left (ways (set ms l 0)) (omega arith))

others-bound : (product k : ℕ) → product ≤ 4096 → k ≤ 12 → product / (k + 1) * (k + 1 + 1) ≤ 65536
others-bound product k h i = le_trans (mul-le-mul {n₁ = product / (k + 1)} {m₁ = k + 1 + 1} {n₂ = product} {m₂ = 16} (div-le_self product (k + 1)) (omega arith)) (omega arith)

pub returns-then-stores : goal.returns-then-stores
returns-then-stores c =
    let a = c.args in
    let k = get_or a.counts.now a.line 0 in
    let q = others a.counts.now a.line a.product c.wide-factor.result c.requires.line_in_bounds.0 c.requires.product_value.0 c.wide-factor.ensures.0 in
    let more : suc (k + 1) ≡ c.wide-factor.result + 1 + 1 = omega arith in
    record { value = ap₂ (λ (x y : ℕ). x * y) q (sym more) ∙ mul_comm (ways (set a.counts.now a.line 0)) (suc (k + 1)) ∙ sym (ways-set a.counts.now a.line (k + 1) c.requires.line_in_bounds.0); counts_after = rw c.if-stores.true }

pub returns : goal.returns
returns c =
    let a = c.args in
    record { value = others a.counts.now a.line a.product c.wide-factor.result c.requires.line_in_bounds.0 c.requires.product_value.0 c.wide-factor.ensures.0; counts_after = rw c.if-stores.false }
