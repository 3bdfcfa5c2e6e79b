-- What the code does with the place that it found: the cut that stands there, or none.
-- Assumes nothing.
use Prim.Native.Nat.{ℕ, zero, suc, ◌+◌, ◌-◌, ◌*◌, ◌≤◌, ◌<◌}
use mathlib.Core.Path.{◌≡◌, refl, sym, ap, subst}
use mathlib.Core.Bool.{Bool, true, false}
use mathlib.Core.List.{List, []}
use native.Mathlib.Omega.{arith}
use lib.ListN.{length, get_or, take, replicate, length-replicate}
use lib.Seq.{length-take-le}
use lib.Dec.{leb}
use borrow.Author.Tests.{leb-true, leb-false}
use Rattle.device.specs.Tape.{Op, decode, well_formed}
use Rattle.cuts.specs.All.{pendings, headed, choices_up_to, choices_after, cuts}
use Rattle.cuts.specs.Products.{ways, Sought}
use Rattle.cuts.specs.Says.{Listed}
use Rattle.cuts.specs.declared.Place.{Place}
use Rattle.cuts.proofs.Listed.{listed_at, few-cuts}

-- ---- the front of a cleared array

pub front_length : (k n : ℕ) → k ≤ n → length (take k (replicate {A = ℕ} n 0)) ≡ k
front_length k n h = length-take-le k (replicate n 0) (omega (arith, length-replicate {A = ℕ} n 0))

front-zeros : (k n l : ℕ) → get_or (take k (replicate {A = ℕ} n 0)) l 0 ≡ 0
front-zeros zero zero l = refl
front-zeros zero (suc n) l = refl
front-zeros (suc k) zero l = refl
front-zeros (suc k) (suc n) zero = refl
front-zeros (suc k) (suc n) (suc l) = front-zeros k n l

-- the pending stores of so many lines are counted there
module _ (lines : ℕ) (tape : List ℕ) (room : lines ≤ 1024) where
  abbrev front : List ℕ
  front = take lines (replicate 1024 0)

  same : length front ≡ lines
  same = front_length lines 1024 room

  -- what `seek` asks of a small tape
  pub front-asks : well_formed (decode (64 * lines) tape) ≡ true → length (decode (64 * lines) tape) ≤ 12 →
      ((l : ℕ) → get_or front l 0 ≡ 0) × (length front ≤ 1024) × ((well_formed (decode (64 * length front) tape) ≡ true) × (length (decode (64 * length front) tape) ≤ 12))
  front-asks formed few = (front-zeros lines 1024, omega (arith, same), subst (λ (n : ℕ). (well_formed (decode (64 * n) tape) ≡ true) × (length (decode (64 * n) tape) ≤ 12)) (sym same) (formed, few))

  -- and what it gives
  pub front-gives : (r : ℕ) (p : Place) (ms named : List ℕ) → Sought (length front) (decode (64 * length front) tape) r p ms named → Sought lines (decode (64 * lines) tape) r p ms named
  front-gives r p ms named = subst (λ (n : ℕ). Sought n (decode (64 * n) tape) r p ms named) same

-- ---- the place

module _ (lines : ℕ) (cs : List Op) (r : ℕ) (p : Place) (ms named : List ℕ) (k : Sought lines cs r p ms named) where
  -- within the tape, the cut is the choice of that number there
  pub sought-listed : p.commands ≤ length cs → Listed lines cs r p.commands (get_or (choices_up_to ms) p.rest [])
  sought-listed h =
      let f = k.found h in
      let there : p.rest < ways (pendings 0 lines (take p.commands cs)) = subst (λ (x : List ℕ). p.rest < ways x) f.1 f.0 in
      subst (λ (i : ℕ). Listed lines cs i p.commands (get_or (choices_up_to ms) p.rest [])) k.before (listed_at lines cs p.commands p.rest h there _ (ap (λ (x : List ℕ). get_or (choices_up_to x) p.rest []) (sym f.1)))

  -- past it, all cuts are passed
  pub sought-past : length cs < p.commands → length (cuts lines cs) + p.rest ≡ r
  unfolding cuts
  sought-past h =
      let all : p.commands ≡ suc (length cs) = omega (arith, k.at_most) in
      subst (λ (n : ℕ). length (headed 0 n (choices_after lines cs)) + p.rest ≡ r) all k.before

  -- which a number of 8,191 always does
  pub all-passed : length cs ≤ 12 → r ≡ 8191 → length (cuts lines cs) ≡ 8191 - p.rest
  all-passed few e = go (leb p.commands (length cs)) refl
    where
      go : (b : Bool) → leb p.commands (length cs) ≡ b → length (cuts lines cs) ≡ 8191 - p.rest
      go true q = absurd (omega (arith, few-cuts lines cs few, (sought-listed (leb-true p.commands (length cs) q)).below))
      go false q = omega (arith, sought-past (leb-false p.commands (length cs) q))
