-- Keys in range: what the test stands for.
-- Assumes nothing.
use Prim.Native.Nat.{ℕ, ◌≤◌, ◌<◌}
use mathlib.Core.Path.{◌≡◌, refl}
use mathlib.Core.Logic.{◌⊎◌, inl, inr}
use mathlib.Core.Bool.{Bool, true, false}
use native.Mathlib.Omega.{arith}
use lib.Dec.{leb}
use borrow.Author.Tests.{leb-true, leb-false, le-leb, lt-leb}
use Rattle.codec.proofs.Tests.{both, first, second}
use Rattle.page.specs.Layout.{top_key}
use Rattle.image.specs.Calls.{key_ok}

pub key_ok-true : (k : ℕ) → key_ok k ≡ true → (1 ≤ k) × (k ≤ 999999999999)
unfolding key_ok
key_ok-true k h = (leb-true 1 k (first (leb 1 k) (leb k top_key) h), leb-true k top_key (second (leb 1 k) (leb k top_key) h))

pub true-key_ok : (k : ℕ) → 1 ≤ k → k ≤ 999999999999 → key_ok k ≡ true
unfolding key_ok
true-key_ok k h g = both (le-leb 1 k h) (le-leb k top_key g)

pub key_ok-false : (k : ℕ) → key_ok k ≡ false → (k < 1) ⊎ (999999999999 < k)
unfolding key_ok
key_ok-false k h = go (leb 1 k) refl h
  where
    go : (b : Bool) → leb 1 k ≡ b → key_ok k ≡ false → (k < 1) ⊎ (999999999999 < k)
    go true e f = inr (leb-false k top_key (rw e at f))
    go false e f = inl (leb-false 1 k e)

pub false-key_ok : (k : ℕ) → (k < 1) ⊎ (999999999999 < k) → key_ok k ≡ false
unfolding key_ok
false-key_ok k (inl h) = rw (lt-leb 1 k h)
false-key_ok k (inr h) = rw (lt-leb k top_key h, le-leb 1 k (omega arith))
