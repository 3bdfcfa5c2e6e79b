-- `next_in` answers the first key that is not below the number after the given one.
-- Assumes nothing.
use Rattle.std.specs.Prelude.{Ok, Result, Some}
use Prim.Native.Nat.{ℕ, suc}
use mathlib.Core.Path.{◌≡◌, sym, ap, ◌∙◌}
use mathlib.Core.List.{[]}
use native.Mathlib.Omega.{arith}
use native.Mathlib.Numerals.{add-one}
use Rattle.page.specs.Layout.{rec_of}
use Rattle.page.specs.Page.{records}
use Rattle.page.specs.Search.{searched}
use Rattle.image.proofs.Search.{above_at, above-missing, above-end}
use Rattle.image.proofs.descent.next_in.Goals as goal
use Rattle.image.proofs.descent.next_in.Goals.{After-find}

sought : (c : After-find) (s : Result ℕ ℕ) →
    let a = c.args in
    c.find.result ≡ s → searched (suc a.key) 0 (records a.page.bytes.now) ≡ s
sought c s e =
    let a = c.args in
    ap (λ (k : ℕ). searched k 0 (records a.page.bytes.now)) (sym (add-one a.key)) ∙ sym c.find.ensures ∙ e

pub key_at-requires : goal.key_at-requires
key_at-requires c =
    let a = c.args in
    (above_at a.key (records a.page.bytes.now) (rec_of 0 []) c.in-Ok.i (sought (goal.at.key_at-requires c).After-find _ c.in-Ok.is)).0

pub returns-then-i-count : goal.returns-then-i-count
returns-then-i-count c =
    let a = c.args in
    ap (λ (k : ℕ). Ok (Some k)) c.key_at-then-i-count.ensures ∙ sym (above-missing a.key (records a.page.bytes.now) (rec_of 0 []) c.in-Err.i (sought (goal.at.returns-then-i-count c).After-find _ c.in-Err.is) (omega (arith, c.count.ensures, c.if-i-count.true)))

pub returns-in-Ok : goal.returns-in-Ok
returns-in-Ok c =
    let a = c.args in
    ap (λ (k : ℕ). Ok (Some k)) c.key_at.ensures ∙ sym (above_at a.key (records a.page.bytes.now) (rec_of 0 []) c.in-Ok.i (sought (goal.at.returns-in-Ok c).After-find _ c.in-Ok.is)).1

pub returns-else-i-count : goal.returns-else-i-count
returns-else-i-count c =
    let a = c.args in
    sym (above-end a.key (records a.page.bytes.now) (rec_of 0 []) c.in-Err.i (sought (goal.at.returns-else-i-count c).After-find _ c.in-Err.is) (omega (arith, c.count.ensures, c.if-i-count.false)))
