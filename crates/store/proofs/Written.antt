-- What is written of an answer.
-- Assumes nothing.
use Prim.Native.Nat.{ℕ}
use mathlib.Core.Path.{◌≡◌, sym, ap, ◌∙◌}
use mathlib.Core.List.{List, [], ◌∷◌}
use lib.ListN.{length}
use borrow.Author.Tests.{le-leb}
use native.Mathlib.Omega.{arith}
use Rattle.std.specs.Prelude.{Result}
use Rattle.device.specs.Calls.{number_of}
use Rattle.device.specs.declared.Refusal.{Refusal}
use Rattle.journal.specs.declared.CommitPlace.{CommitPlace}
use Rattle.journal.specs.declared.Commit.{Commit}
use Rattle.store.specs.Numbers.{lent, place_kind, place_page, commit_numbers}

-- nothing written
pub lent_none : (old : List ℕ) → lent old [] ≡ old
unfolding lent
lent_none old = rw (le-leb 0 (length old) (omega arith))

-- the number and the array of the case x are those of the answer l, which is x
pub written : {A : Type 0} (numbers : Result A Refusal → List ℕ) (l x : Result A Refusal) → l ≡ x → (old new : List ℕ) → new ≡ lent old (numbers x) →
    (number_of x ≡ number_of l) × (new ≡ lent old (numbers l))
written {A} numbers l x e old new w = (ap (λ (y : Result A Refusal). number_of y) (sym e), w ∙ ap (λ y. lent old (numbers y)) (sym e))

-- the numbers of an accepted transaction, where its commit place is p
pub commit-written : (c : Commit) (p : CommitPlace) → c.place ≡ p → (old : List ℕ) →
    lent old (0 ∷ place_kind p ∷ place_page p ∷ c.bytes ∷ c.flushes ∷ []) ≡ lent old (commit_numbers c)
unfolding commit_numbers
commit-written c p e old = ap (λ (q : CommitPlace). lent old (0 ∷ place_kind q ∷ place_page q ∷ c.bytes ∷ c.flushes ∷ [])) (sym e)
