-- `line_below`: the largest of the lines that are below the bound.
-- Assumes nothing.
use Prim.Native.Nat.{ℕ, zero, suc, ◌≤◌, ◌<◌}
use mathlib.Core.Path.{◌≡◌, refl, sym, ap, ◌∙◌}
use mathlib.Core.Logic.{inl, inr}
use mathlib.Core.Bool.{Bool, true, false, cond}
use mathlib.Core.List.{List, [], ◌∷◌}
use native.Mathlib.Omega.{arith}
use lib.ListN.{length, get_or}
use lib.Dec.{ltb}
use borrow.Author.Tests.{ltb-true, lt-ltb}
use Rattle.std.proofs.Common.{Option, Some, None, rules}
use Rattle.std.specs.List.{filter, Contains, All}
use Rattle.std.specs.Option.{MatchOption}
use Rattle.std.proofs.lemmas.List.{get_or_default}
use Rattle.std.proofs.lemmas.List.Elements.{All-filter, All-contains, All-contains_itself, filter_passes}
use Rattle.cuts.specs.Products.{Highest}
use Rattle.cuts.proofs.line_below.Goals as goal

-- what passes a test is among those that do
passed : (p : ℕ → Bool) (xs : List ℕ) (i : ℕ) → i < length xs → p (get_or xs i 0) ≡ true → Contains (filter p xs) (get_or xs i 0)
passed p [] i h e = absurd (omega arith)
passed p (x ∷ xs) zero h e = rw e (0, omega arith, refl)
passed p (x ∷ xs) (suc i) h e = go (p x) (passed p xs i (omega arith) e)
  where
    go : (t : Bool) → Contains (filter p xs) (get_or xs i 0) → Contains (cond t (x ∷ filter p xs) (filter p xs)) (get_or xs i 0)
    go true (k, l, q) = (suc k, omega arith, q)
    go false c = c

module _ (named : List ℕ) (bound : ℕ) where
  abbrev below : List ℕ
  below = filter (λ (l : ℕ). ltb l bound) named

  within-below : (i : ℕ) → i < length named → get_or named i 0 < bound → Contains below (get_or named i 0)
  within-below i h b = passed (λ (l : ℕ). ltb l bound) named i h (lt-ltb (get_or named i 0) bound b)

  highest : (o : Option ℕ) → MatchOption o (length below ≡ 0) (λ m. Contains below m × All (λ x. x ≤ m) below) → Highest named bound o
  highest None e = record { within = omega arith; above = λ i h b. (let c = within-below i h b in absurd (omega (arith, c.1, e))); is_one = inl refl }
  highest (Some m) (c, a) =
      let low = ltb-true m bound (All-contains (λ (l : ℕ). ltb l bound ≡ true) below m (filter_passes (λ (l : ℕ). ltb l bound) named) c) in
      let n = All-contains (Contains named) below m (All-filter (λ (l : ℕ). ltb l bound) (Contains named) named (All-contains_itself named)) c in
      record {
        within = omega arith;
        above = λ i h b. (let le = All-contains (λ (x : ℕ). x ≤ m) below (get_or named i 0) a (within-below i h b) in omega arith);
        is_one = inr (n.0, n.1, ap (λ (x : ℕ). Some x) (sym (get_or_default named n.0 0 m n.1 ∙ n.2)));
      }

pub returns : goal.returns
returns c =
    let found : MatchOption c.max.result (length (below c.args.named.now c.args.bound) ≡ 0) (λ m. Contains (below c.args.named.now c.args.bound) m × All (λ x. x ≤ m) (below c.args.named.now c.args.bound)) = search rules in
    highest c.args.named.now c.args.bound c.max.result found
