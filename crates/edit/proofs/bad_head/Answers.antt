-- `bad_head` tests the kind, and the length of a delete.
-- Assumes nothing.
use Prim.Native.Nat.{ℕ, zero, suc}
use mathlib.Core.Path.{◌≡◌, refl}
use mathlib.Core.Bool.{true}
use native.Mathlib.Omega.{arith}
use borrow.Author.Tests.{lt-ltb, le-ltb}
use Rattle.edit.proofs.Judging.{bad_head}
use Rattle.edit.proofs.bad_head.Goals as goal

pub returns-in-3 : goal.returns-in-3
returns-in-3 c = rw c.in-3.is

-- a kind that is none of these
go : (k n : ℕ) → (k ≡ 1 → ⊥) → (k ≡ 2 → ⊥) → (k ≡ 3 → ⊥) → true ≡ bad_head k n
go zero n a b c = refl
go (suc zero) n a b c = absurd (a refl)
go (suc (suc zero)) n a b c = absurd (b refl)
go (suc (suc (suc zero))) n a b c = absurd (c refl)
go (suc (suc (suc (suc k)))) n a b c = rw (lt-ltb 3 (suc (suc (suc (suc k)))) (omega arith), le-ltb (suc (suc (suc (suc k)))) 1 (omega arith))
