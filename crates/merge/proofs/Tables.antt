-- Two rising tables into one: of the two records that come first, the one with the smaller key comes next.
-- Assumes nothing.
use Prim.Native.Nat.{ℕ, suc, ◌<◌, ◌≤◌}
use mathlib.Core.Path.{◌≡◌, refl, sym, ap, ◌∙◌}
use mathlib.Core.Bool.{Bool, true, false, not, ◌&&◌, false≢true}
use mathlib.Core.List.{List, [], ◌∷◌}
use native.Mathlib.Omega.{arith}
use lib.ListN.{take, drop}
use borrow.Author.Tests.{lt-ltb, le-ltb, eq-eqb, ne_eqb}
use Rattle.codec.specs.Lists.{All, all_b}
use Rattle.codec.proofs.Tests.{All-map}
use Rattle.page.specs.Layout.{top_key, Rec}
use Rattle.image.specs.Image.{first_key}
use Rattle.image.specs.Facts.{Rising}
use Rattle.image.specs.Table.{find}
use Rattle.image.proofs.Rising.{From, rising_le, rising-from, rising-split}
use Rattle.edit.specs.Ledger.{add}
use Rattle.edit.specs.Keys.{holds}
use Rattle.edit.proofs.Ledger.{Lacks, lacks-find, above-lacks, all-add}
use Rattle.edit.proofs.Keys.{missing-holds}
use Rattle.merge.specs.Tables.{merged, apart}

-- ---- bounds

-- a rising list starts where its first key is
at_first : (lo : ℕ) (l : List Rec) (hi : ℕ) → Rising lo l hi → Rising (first_key l hi) l hi
at_first lo l hi h = (rising-split lo [] l hi h).1

first-le : (lo : ℕ) (l : List Rec) (hi : ℕ) → Rising lo l hi → first_key l hi ≤ hi
first-le lo l hi h = rising_le (first_key l hi) l hi (at_first lo l hi h)

-- keys not below j are not below k
from_le : (k j : ℕ) (l : List Rec) → k ≤ j → From j l → From k l
from_le k j l q h = All-map (λ (r : Rec). j ≤ r.key) (λ (r : Rec). k ≤ r.key) (λ r p. omega arith) l h

-- a rising list without keys up to k
past : (k lo : ℕ) (l : List Rec) (hi : ℕ) → Rising lo l hi → k < first_key l hi → From (suc k) l
past k lo l hi h q = from_le (suc k) (first_key l hi) l q (rising-from (first_key l hi) l hi (at_first lo l hi h))

-- ---- which record comes first

-- a record whose key is not above those that are added stays first
stays-first : (r : Rec) (t u : List Rec) → From r.key u → merged (r ∷ t) u ≡ r ∷ merged t u
unfolding merged add
stays-first r t [] h = refl
stays-first r t (s ∷ u) h = rw (le-ltb s.key r.key h.0) (stays-first r (add s.key s.value t) u h.1)

-- one whose key is below those of the table is put in front of it
put_first : (s : Rec) (t : List Rec) → From (suc s.key) t → add s.key s.value t ≡ s ∷ t
unfolding add
put_first s [] h = refl
put_first s (r ∷ t) h = rw (lt-ltb s.key r.key h.0)

added-first : (s : Rec) (t u : List Rec) → From (suc s.key) t → From (suc s.key) u → merged t (s ∷ u) ≡ s ∷ merged t u
unfolding merged
added-first s t u f g = rw (put_first s t f) (stays-first s t u (from_le s.key (suc s.key) u (omega arith) g))

-- ---- keys in both

holds-skip : (r : Rec) (t : List Rec) (k : ℕ) → (r.key ≡ k → ⊥) → holds k (r ∷ t) ≡ holds k t
unfolding holds find
holds-skip r t k h = rw (ne_eqb r.key k h)

holds-first : (r : Rec) (t : List Rec) (k : ℕ) → r.key ≡ k → holds k (r ∷ t) ≡ true
unfolding holds find
holds-first r t k e = rw (eq-eqb r.key k e)

apart-skip : (r : Rec) (t u : List Rec) → From (suc r.key) u → apart t u ≡ apart (r ∷ t) u
unfolding apart all_b
apart-skip r t [] h = refl
apart-skip r t (s ∷ u) h =
    let other : r.key ≡ s.key → ⊥ = λ e. omega (arith, h.0) in
    rw (holds-skip r t s.key other) (ap (λ (b : Bool). not (holds s.key t) && b) (apart-skip r t u h.1))

apart-less : (s : Rec) (t u : List Rec) → Lacks s.key t → apart t u ≡ apart t (s ∷ u)
unfolding apart all_b
apart-less s t u h = rw (missing-holds s.key t (lacks-find s.key t h))

apart-not : (r s : Rec) (t u : List Rec) → r.key ≡ s.key → apart (r ∷ t) (s ∷ u) ≡ false
unfolding apart all_b
apart-not r s t u e = rw (holds-first r t s.key e)

-- ---- what comes next

pub next-first : (lo mo : ℕ) (t u : List Rec) → Rising lo t (suc top_key) → Rising mo u (suc top_key) → first_key t (suc top_key) < first_key u (suc top_key) →
    (take 1 (merged t u) ≡ take 1 t) × (drop 1 (merged t u) ≡ merged (drop 1 t) u) × (apart (drop 1 t) u ≡ apart t u)
next-first lo mo [] u p q h = absurd (omega (arith, first-le mo u (suc top_key) q))
next-first lo mo (r ∷ t) u p q h =
    let f : From (suc r.key) u = past r.key mo u (suc top_key) q h in
    let e : merged (r ∷ t) u ≡ r ∷ merged t u = stays-first r t u (from_le r.key (suc r.key) u (omega arith) f) in
    (ap (take 1) e, ap (drop 1) e, apart-skip r t u f)

pub next-second : (lo mo : ℕ) (t u : List Rec) → Rising lo t (suc top_key) → Rising mo u (suc top_key) → first_key u (suc top_key) < first_key t (suc top_key) →
    (take 1 (merged t u) ≡ take 1 u) × (drop 1 (merged t u) ≡ merged t (drop 1 u)) × (apart t (drop 1 u) ≡ apart t u)
next-second lo mo t [] p q h = absurd (omega (arith, first-le lo t (suc top_key) p))
next-second lo mo t (s ∷ u) p q h =
    let f : From (suc s.key) t = past s.key lo t (suc top_key) p h in
    let g : From (suc s.key) u = rising-from (suc s.key) u (suc top_key) q.1 in
    let e : merged t (s ∷ u) ≡ s ∷ merged t u = added-first s t u f g in
    (ap (take 1) e, ap (drop 1) e, apart-less s t u (above-lacks s.key t f))

-- nothing is left where both have the same key and no key is in both
pub keys-equal : (lo mo : ℕ) (t u : List Rec) → Rising lo t (suc top_key) → Rising mo u (suc top_key) → first_key t (suc top_key) ≡ first_key u (suc top_key) →
    apart t u ≡ true → (t ≡ []) × (u ≡ [])
keys-equal lo mo [] [] p q e h = (refl, refl)
keys-equal lo mo [] (s ∷ u) p q e h = absurd (omega (arith, rising_le (suc s.key) u (suc top_key) q.1))
keys-equal lo mo (r ∷ t) [] p q e h = absurd (omega (arith, rising_le (suc r.key) t (suc top_key) p.1))
keys-equal lo mo (r ∷ t) (s ∷ u) p q e h = absurd (false≢true (sym (apart-not r s t u e) ∙ h))

pub key_twice : (lo mo : ℕ) (t u : List Rec) → Rising lo t (suc top_key) → Rising mo u (suc top_key) → first_key t (suc top_key) ≡ first_key u (suc top_key) →
    first_key t (suc top_key) < suc top_key → apart t u ≡ false
key_twice lo mo [] u p q e h = absurd (omega arith)
key_twice lo mo (r ∷ t) [] p q e h = absurd (omega arith)
key_twice lo mo (r ∷ t) (s ∷ u) p q e h = apart-not r s t u e

-- a rising table whose first key is past all keys is empty
pub none_left : (lo : ℕ) (t : List Rec) → Rising lo t (suc top_key) → suc top_key ≤ first_key t (suc top_key) → t ≡ []
none_left lo [] p h = refl
none_left lo (r ∷ t) p h = absurd (omega (arith, rising_le (suc r.key) t (suc top_key) p.1))

pub All-merged : (P : Rec → Type 0) (t u : List Rec) → All P t → All P u → All P (merged t u)
unfolding merged
All-merged P t [] a b = a
All-merged P t (r ∷ u) a b = All-merged P (add r.key r.value t) u (all-add P r.key r.value t b.0 a) b.1
