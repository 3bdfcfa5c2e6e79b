-- Where a search says that a key is, or would be, the ledger's edit of the key is made.
-- Assumes nothing.
use Rattle.std.specs.Prelude.{Err, None, Ok, Result}
use Prim.Native.Nat.{ℕ, suc, ◌+◌, ◌≤◌, ◌<◌}
use mathlib.Core.Path.{◌≡◌, refl, sym, ap, subst}
use mathlib.Core.Bool.{true, false}
use mathlib.Core.List.{List, [], ◌∷◌}
use native.Mathlib.Omega.{arith}
use lib.ListN.{length, set}
use lib.Dec.{ltb, eqb}
use borrow.Author.Tests.{ltb-true, ltb-false, lt-ltb, le-ltb, eqb-true, eqb-false, eq-eqb, ne_eqb}
use Rattle.codec.specs.Lists.{insert_at, remove_at}
use Rattle.page.specs.Layout.{Rec, rec_of}
use Rattle.page.specs.Search.{searched}
use Rattle.image.specs.Facts.{Rising}
use Rattle.image.specs.Table.{find}
use Rattle.image.proofs.Rising.{rising-lo, rising-from}
use Rattle.edit.specs.Ledger.{add, replace, without}
use Rattle.edit.proofs.General.{by-test}
use Rattle.edit.proofs.Ledger.{Lacks, above-lacks, replace-lacks, without-lacks}

-- the n-th record of t has the key k
pub record There (k n : ℕ) (t : List Rec) : Type 0 where
  pub inside : n < length t
  pub found : find k t ≡ None → ⊥
  pub updated : (v : List ℕ) → set t n (rec_of k v) ≡ replace k v t
  pub deleted : remove_at n t ≡ without k t

-- none has, and one would be the n-th
pub record NotThere (k n : ℕ) (t : List Rec) : Type 0 where
  pub inside : n ≤ length t
  pub lacks : Lacks k t
  pub inserted : (v : List ℕ) → insert_at n (rec_of k v) t ≡ add k v t

-- what a search that counts from i says
abbrev Says : ℕ → ℕ → List Rec → Result ℕ ℕ → Type 0
Says k i t (Ok j) = (n : ℕ) × (j ≡ i + n) × There k n t
Says k i t (Err j) = (n : ℕ) × (j ≡ i + n) × NotThere k n t

-- the first record is the one
here : (k : ℕ) (r : Rec) (t : List Rec) (hi : ℕ) → r.key ≡ k → Rising (suc r.key) t hi → There k 0 (r ∷ t)
unfolding find replace without remove_at
here k r t hi e h =
    let rest : Lacks k t = above-lacks k t (rising-from (suc k) t hi (subst (λ (j : ℕ). Rising (suc j) t hi) e h)) in
    let same : eqb r.key k ≡ true = eq-eqb r.key k e in
    record {
      inside = omega arith;
      found = rw same (λ z. let y : ◌≡◌ {A = ℕ} 0 1 = cc in omega arith);
      updated = λ v. rw same (ap (λ (l : List Rec). rec_of k v ∷ l) (sym (replace-lacks k v t rest)));
      deleted = rw same (sym (without-lacks k t rest));
    }

-- the first record's key is above k
before : (k : ℕ) (r : Rec) (t : List Rec) (hi : ℕ) → k < r.key → Rising (suc r.key) t hi → NotThere k 0 (r ∷ t)
unfolding add insert_at
before k r t hi q h =
    record {
      inside = omega arith;
      lacks = above-lacks k (r ∷ t) (q, rising-from (suc k) t hi (rising-lo (suc r.key) (suc k) t hi (omega arith) h));
      inserted = λ v. rw (lt-ltb k r.key q);
    }

-- the first record's key is below k
on : (k i : ℕ) (r : Rec) (t : List Rec) (s : Result ℕ ℕ) → r.key < k → Says k (i + 1) t s → Says k i (r ∷ t) s
unfolding find replace without remove_at add insert_at
on k i r t (Ok j) q a =
    let other : eqb r.key k ≡ false = ne_eqb r.key k (λ z. omega arith) in (
      suc a.0,
      omega (arith, a.1),
      record {
        inside = omega (arith, a.2.inside);
        found = rw other a.2.found;
        updated = λ v. rw other (ap (λ (l : List Rec). r ∷ l) (a.2.updated v));
        deleted = rw other (ap (λ (l : List Rec). r ∷ l) a.2.deleted);
      },
    )
on k i r t (Err j) q a = (
  suc a.0,
  omega (arith, a.1),
  record {
    inside = omega (arith, a.2.inside);
    lacks = ((λ z. omega arith), a.2.lacks);
    inserted = λ v. rw (le-ltb k r.key (omega arith)) (ap (λ (l : List Rec). r ∷ l) (a.2.inserted v));
  },
)

says : (k i lo : ℕ) (t : List Rec) (hi : ℕ) → Rising lo t hi → Says k i t (searched k i t)
unfolding searched add insert_at
says k i lo [] hi h = (0, omega arith, record { inside = omega arith; lacks = tt; inserted = λ v. refl })
says k i lo (r ∷ t) hi h =
    by-test (Says k i (r ∷ t)) (ltb r.key k) (λ c. on k i r t (searched k (i + 1) t) (ltb-true r.key k c) (says k (i + 1) (suc r.key) t hi h.1))
    (λ c. by-test (Says k i (r ∷ t)) (eqb r.key k) (λ d. (0, omega arith, here k r t hi (eqb-true r.key k d) h.1))
    (λ d. (0, omega arith, before k r t hi (omega (arith, ltb-false r.key k c, eqb-false r.key k d)) h.1)))

-- ---- the search of a whole table

module _ (k lo : ℕ) (t : List Rec) (hi : ℕ) (h : Rising lo t hi) (j : ℕ) where
  pub search-there : searched k 0 t ≡ Ok j → There k j t
  search-there e =
      let a : Says k 0 t (Ok j) = subst (Says k 0 t) e (says k 0 lo t hi h) in
      let z : a.0 ≡ j = omega (arith, a.1) in
      subst (λ (n : ℕ). There k n t) z a.2

  pub search-missing : searched k 0 t ≡ Err j → NotThere k j t
  search-missing e =
      let a : Says k 0 t (Err j) = subst (Says k 0 t) e (says k 0 lo t hi h) in
      let z : a.0 ≡ j = omega (arith, a.1) in
      subst (λ (n : ℕ). NotThere k n t) z a.2
