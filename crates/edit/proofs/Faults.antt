-- The fault of one edit: `fault_in` is the first ground that holds, in the documents' order, and nothing else.
-- Assumes nothing.
use Prim.Native.Nat.{ℕ, ◌≤◌, ◌<◌}
use mathlib.Core.Path.{◌≡◌, refl}
use mathlib.Core.Logic.{◌⊎◌, inl, inr}
use mathlib.Core.Bool.{true, false, ◌&&◌, ◌||◌}
use mathlib.Core.List.{List}
use native.Mathlib.Omega.{arith}
use lib.ListN.{length}
use lib.Dec.{eqb, ltb}
use borrow.Author.Tests.{ltb-true, ltb-false, lt-ltb, le-ltb, eqb-true, eqb-false, eq-eqb, ne_eqb}
use Rattle.codec.proofs.Tests.{first, second}
use Rattle.codec.proofs.Agree.{either}
use Rattle.image.proofs.KeyRange.{key_ok-true, true-key_ok, key_ok-false, false-key_ok}
use Rattle.edit.specs.EditList.{head_size, kind_in, length_in, fault_in}
use Rattle.edit.specs.Reads.{Known, FilledIn, Fault, head-short, unknown-kind, delete-long, long-value, empty-value, value-short, bad-key, none}
use Rattle.edit.proofs.General.{neither, not-both, never_both, by-test}

-- ---- its kind, and no length with a delete

module _ (t : List ℕ) where
  abbrev kind : ℕ
  kind = kind_in t

  abbrev n : ℕ
  n = length_in t

  unknown : (ltb kind 1 || ltb 3 kind) ≡ true → (kind < 1) ⊎ (3 < kind)
  unknown h = go (either (ltb kind 1) (ltb 3 kind) h)
    where
      go : (ltb kind 1 ≡ true) ⊎ (ltb 3 kind ≡ true) → (kind < 1) ⊎ (3 < kind)
      go (inl e) = inl (ltb-true kind 1 e)
      go (inr e) = inr (ltb-true 3 kind e)

  known : (ltb kind 1 || ltb 3 kind) ≡ false → (eqb kind 3 && ltb 0 n) ≡ false → Known t
  known h g =
      let k = neither (ltb kind 1) (ltb 3 kind) h in
      record {
        kind-low = ltb-false kind 1 k.0;
        kind-high = ltb-false 3 kind k.1;
        delete-bare = λ z. omega (arith, ltb-false 0 n (not-both (eqb kind 3) (ltb 0 n) g (eq-eqb kind 3 z)));
      }

  known-kind : Known t → (ltb kind 1 || ltb 3 kind) ≡ false
  known-kind f = rw (le-ltb kind 1 f.kind-low, le-ltb 3 kind f.kind-high)

  known-bare : Known t → (eqb kind 3 && ltb 0 n) ≡ false
  known-bare f = never_both (eqb kind 3) (ltb 0 n) (λ e. le-ltb 0 n (omega (arith, f.delete-bare (eqb-true kind 3 e))))

  -- ---- and no value of length 0 with any other

  filled : (ltb kind 3 && eqb n 0) ≡ false → FilledIn t
  filled h k = omega (arith, eqb-false n 0 (not-both (ltb kind 3) (eqb n 0) h (lt-ltb kind 3 k)))

  filled-test : FilledIn t → (ltb kind 3 && eqb n 0) ≡ false
  filled-test f = never_both (ltb kind 3) (eqb n 0) (λ e. ne_eqb n 0 (λ z. omega (arith, f (ltb-true kind 3 e))))

-- ---- the first ground that holds

pub fault-case : (t : List ℕ) → Fault t (fault_in t)
unfolding fault_in
fault-case t =
    by-test (Fault t) _ (λ a. head-short (ltb-true _ _ a))
    (λ a. by-test (Fault t) _ (λ b. unknown-kind (ltb-false _ _ a) (unknown t b))
    (λ b. by-test (Fault t) _ (λ c. delete-long (ltb-false _ _ a) (eqb-true _ _ (first (eqb (kind_in t) 3) _ c)) (ltb-true _ _ (second (eqb (kind_in t) 3) _ c)))
    (λ c. by-test (Fault t) _ (λ d. long-value (ltb-false _ _ a) (known t b c) (ltb-true _ _ d))
    (λ d. by-test (Fault t) _ (λ g. empty-value (ltb-false _ _ a) (known t b c) (ltb-true _ _ (first (ltb (kind_in t) 3) _ g)) (eqb-true _ _ (second (ltb (kind_in t) 3) _ g)))
    (λ g. by-test (Fault t) _ (λ e. value-short (ltb-false _ _ a) (known t b c) (ltb-false _ _ d) (filled t g) (ltb-true _ _ e))
    (λ e. by-test (Fault t) _
    (λ f. none (record { known = known t b c; short = ltb-false _ _ d; filled = filled t g; whole = ltb-false _ _ e; key-low = (key_ok-true _ f).0; key-high = (key_ok-true _ f).1 }))
    (λ f. bad-key (ltb-false _ _ e) (known t b c) (ltb-false _ _ d) (filled t g) (key_ok-false _ f))))))))

pub case-fault : (t : List ℕ) (k : ℕ) → Fault t k → fault_in t ≡ k
unfolding fault_in
case-fault t k (head-short h) = rw (lt-ltb _ head_size)
case-fault t k (unknown-kind h (inl g)) = rw (le-ltb _ head_size, lt-ltb _ 1)
case-fault t k (unknown-kind h (inr g)) = rw (le-ltb _ head_size, lt-ltb 3, le-ltb (kind_in t) 1 (omega arith))
case-fault t k (delete-long h g m) = rw (le-ltb _ head_size, g, lt-ltb 0)
case-fault t k (long-value h f m) = rw (le-ltb _ head_size, known-kind, known-bare, lt-ltb _ (length_in t))
case-fault t k (empty-value h f l z) = rw (le-ltb _ head_size, known-kind, known-bare, lt-ltb _ 3, z)
case-fault t k (value-short h f m g c) = rw (le-ltb _ head_size, known-kind, known-bare, le-ltb _ (length_in t), filled-test, lt-ltb (length t))
case-fault t k (bad-key c f m g r) =
    let h : head_size ≤ length t = omega arith in
    rw (le-ltb _ head_size, known-kind, known-bare, le-ltb _ (length_in t), filled-test, le-ltb (length t), false-key_ok)
case-fault t k (none f) =
    let h : head_size ≤ length t = omega (arith, f.whole) in
    rw (le-ltb _ head_size, known-kind t f.known, known-bare t f.known, le-ltb _ (length_in t) f.short, filled-test t f.filled, le-ltb (length t) _ f.whole, true-key_ok _ f.key-low f.key-high)

-- ---- its number

-- an edit refuses its list with 5, 6, 7 or 19
pub fault-numbered : (t : List ℕ) (k : ℕ) → Fault t k → (k ≡ 0 → ⊥) → ((5 ≤ k) × (k ≤ 7)) ⊎ (k ≡ 19)
fault-numbered t _ (head-short _) z = inl (omega arith, omega arith)
fault-numbered t _ (unknown-kind _ _) z = inl (omega arith, omega arith)
fault-numbered t _ (delete-long _ _ _) z = inl (omega arith, omega arith)
fault-numbered t _ (long-value _ _ _) z = inl (omega arith, omega arith)
fault-numbered t _ (empty-value _ _ _ _) z = inr refl
fault-numbered t _ (value-short _ _ _ _ _) z = inl (omega arith, omega arith)
fault-numbered t _ (bad-key _ _ _ _ _) z = inl (omega arith, omega arith)
fault-numbered t _ (none _) z = absurd (z refl)
