-- The ledger's edits on a table whose keys rise: the keys go on rising, what is found changes for the edit's own key alone, and an
-- edit of a table in three parts is made in the part that its key belongs to.
-- Assumes nothing.
use Rattle.std.specs.Prelude.{None, Some}
use Prim.Native.Nat.{ℕ, suc, ◌≤◌, ◌<◌}
use mathlib.Core.Path.{◌≡◌, refl, sym, ap, ◌∙◌, subst}
use mathlib.Core.Bool.{Bool, true, false}
use mathlib.Core.List.{List, [], ◌∷◌, ◌++◌}
use native.Mathlib.Omega.{arith}
use lib.Dec.{ltb, eqb}
use borrow.Author.Tests.{ltb-true, ltb-false, lt-ltb, le-ltb, eqb-true, eqb-false, eq-eqb, ne_eqb}
use Rattle.codec.specs.Lists.{pick, All}
use Rattle.codec.proofs.Tests.{All-map}
use Rattle.page.specs.Layout.{Rec, rec_of}
use Rattle.image.specs.Facts.{Rising}
use Rattle.image.specs.Table.{find}
use Rattle.image.proofs.Rising.{From, Below, rising-lo}
use Rattle.edit.specs.EditList.{Edit, insert, update, delete, key_of}
use Rattle.edit.specs.Ledger.{add, replace, without, apply_edit, apply_edits}
use Rattle.edit.proofs.General.{by-test}

-- ---- a key that a table lacks

abbrev pub Lacks : ℕ → List Rec → Type 0
Lacks k t = All (λ (r : Rec). r.key ≡ k → ⊥) t

pub lacks-find : (k : ℕ) (t : List Rec) → Lacks k t → find k t ≡ None
unfolding find
lacks-find k [] h = refl
lacks-find k (r ∷ t) h = rw (ne_eqb r.key k h.0) (lacks-find k t h.1)

pub find-lacks : (k : ℕ) (t : List Rec) → find k t ≡ None → Lacks k t
unfolding find
find-lacks k [] e = tt
find-lacks k (r ∷ t) e = go (eqb r.key k) refl e (find-lacks k t)
  where
    go : (b : Bool) → eqb r.key k ≡ b → pick b (Some r.value) (find k t) ≡ None → (find k t ≡ None → Lacks k t) → Lacks k (r ∷ t)
    go true c e f = let z : ◌≡◌ {A = ℕ} 0 1 = cc in absurd (omega arith)
    go false c e f = (eqb-false r.key k c, f e)

pub below-lacks : (k : ℕ) (t : List Rec) → Below t k → Lacks k t
below-lacks k t h = All-map (λ (r : Rec). r.key < k) (λ (r : Rec). r.key ≡ k → ⊥) (λ r q e. omega arith) t h

pub above-lacks : (k : ℕ) (t : List Rec) → From (suc k) t → Lacks k t
above-lacks k t h = All-map (λ (r : Rec). suc k ≤ r.key) (λ (r : Rec). r.key ≡ k → ⊥) (λ r q e. omega arith) t h

pub replace-lacks : (k : ℕ) (v : List ℕ) (t : List Rec) → Lacks k t → replace k v t ≡ t
unfolding replace
replace-lacks k v [] h = refl
replace-lacks k v (r ∷ t) h = rw (ne_eqb r.key k h.0) (ap (λ (l : List Rec). r ∷ l) (replace-lacks k v t h.1))

pub without-lacks : (k : ℕ) (t : List Rec) → Lacks k t → without k t ≡ t
unfolding without
without-lacks k [] h = refl
without-lacks k (r ∷ t) h = rw (ne_eqb r.key k h.0) (ap (λ (l : List Rec). r ∷ l) (without-lacks k t h.1))

-- ---- the keys go on rising

pub rising-add : (k : ℕ) (v : List ℕ) (lo : ℕ) (t : List Rec) (hi : ℕ) → Rising lo t hi → lo ≤ k → k < hi → Lacks k t → Rising lo (add k v t) hi
unfolding add
rising-add k v lo [] hi h q p e = (q, p)
rising-add k v lo (r ∷ t) hi h q p e =
    by-test (λ (l : List Rec). Rising lo l hi) (ltb k r.key) (λ c. (q, (ltb-true k r.key c, h.1)))
    (λ c. (h.0, rising-add k v (suc r.key) t hi h.1 (omega (arith, ltb-false k r.key c, e.0)) p e.1))

pub rising-replace : (k : ℕ) (v : List ℕ) (lo : ℕ) (t : List Rec) (hi : ℕ) → Rising lo t hi → Rising lo (replace k v t) hi
unfolding replace
rising-replace k v lo [] hi h = h
rising-replace k v lo (r ∷ t) hi h =
    let rest = rising-replace k v (suc r.key) t hi h.1 in
    by-test (λ (x : Rec). Rising lo (x ∷ replace k v t) hi) (eqb r.key k)
    (λ c. let z : r.key ≡ k = eqb-true r.key k c in (omega (arith, h.0), subst (λ (j : ℕ). Rising (suc j) (replace k v t) hi) z rest))
    (λ c. (h.0, rest))

pub rising-without : (k lo : ℕ) (t : List Rec) (hi : ℕ) → Rising lo t hi → Rising lo (without k t) hi
unfolding without
rising-without k lo [] hi h = h
rising-without k lo (r ∷ t) hi h =
    let rest = rising-without k (suc r.key) t hi h.1 in
    by-test (λ (l : List Rec). Rising lo l hi) (eqb r.key k) (λ c. rising-lo (suc r.key) lo (without k t) hi (omega (arith, h.0)) rest) (λ c. (h.0, rest))

-- ---- each record of the table keeps its properties

module _ (P : Rec → Type 0) (k : ℕ) (v : List ℕ) where
  pub all-add : (t : List Rec) → P (rec_of k v) → All P t → All P (add k v t)
  unfolding add
  all-add [] p h = (p, tt)
  all-add (r ∷ t) p h = by-test (All P) (ltb k r.key) (λ c. (p, h)) (λ c. (h.0, all-add t p h.1))

  pub all-replace : (t : List Rec) → P (rec_of k v) → All P t → All P (replace k v t)
  unfolding replace
  all-replace [] p h = tt
  all-replace (r ∷ t) p h = (by-test P (eqb r.key k) (λ c. p) (λ c. h.0), all-replace t p h.1)

pub all_without : (P : Rec → Type 0) (k : ℕ) (t : List Rec) → All P t → All P (without k t)
unfolding without
all_without P k [] h = tt
all_without P k (r ∷ t) h = by-test (All P) (eqb r.key k) (λ c. all_without P k t h.1) (λ c. (h.0, all_without P k t h.1))

-- ---- what is found after an edit

module _ (k : ℕ) (v : List ℕ) where
  pub find-add-same : (t : List Rec) → Lacks k t → find k (add k v t) ≡ Some v
  unfolding add find
  find-add-same [] h = rw (eq-eqb k k refl)
  find-add-same (r ∷ t) h =
      by-test (λ (l : List Rec). find k l ≡ Some v) (ltb k r.key) (λ c. rw (eq-eqb k k refl)) (λ c. rw (ne_eqb r.key k h.0) (find-add-same t h.1))

  pub find-replace-same : (t : List Rec) → (find k t ≡ None → ⊥) → find k (replace k v t) ≡ Some v
  unfolding replace find
  find-replace-same [] h = absurd (h refl)
  find-replace-same (r ∷ t) h = go (eqb r.key k) refl h (find-replace-same t)
    where
      go : (b : Bool) → eqb r.key k ≡ b → (pick b (Some r.value) (find k t) ≡ None → ⊥) → ((find k t ≡ None → ⊥) → find k (replace k v t) ≡ Some v) →
          find k (pick b (rec_of k v) r ∷ replace k v t) ≡ Some v
      go true c h f = rw (eq-eqb k k refl)
      go false c h f = rw c (f h)

pub find-without-same : (k : ℕ) (t : List Rec) → find k (without k t) ≡ None
unfolding without find
find-without-same k [] = refl
find-without-same k (r ∷ t) =
    let rest = find-without-same k t in
    by-test (λ (l : List Rec). find k l ≡ None) (eqb r.key k) (λ c. rest) (λ c. rw c rest)

module _ (k j : ℕ) (other : k ≡ j → ⊥) where
  pub find-add-other : (v : List ℕ) (t : List Rec) → find j (add k v t) ≡ find j t
  unfolding add find
  find-add-other v [] = rw (ne_eqb k j other)
  find-add-other v (r ∷ t) =
      by-test (λ (l : List Rec). find j l ≡ find j (r ∷ t)) (ltb k r.key) (λ c. rw (ne_eqb k j other))
      (λ c. ap (pick (eqb r.key j) (Some r.value)) (find-add-other v t))

  pub find-replace-other : (v : List ℕ) (t : List Rec) → find j (replace k v t) ≡ find j t
  unfolding replace find
  find-replace-other v [] = refl
  find-replace-other v (r ∷ t) =
      let rest = find-replace-other v t in
      by-test (λ (x : Rec). find j (x ∷ replace k v t) ≡ find j (r ∷ t)) (eqb r.key k)
      (λ c. rw (ne_eqb k j other, ne_eqb r.key j (λ z. other (sym (eqb-true r.key k c) ∙ z))) rest)
      (λ c. ap (pick (eqb r.key j) (Some r.value)) rest)

  pub find-without-other : (t : List Rec) → find j (without k t) ≡ find j t
  unfolding without find
  find-without-other [] = refl
  find-without-other (r ∷ t) =
      let rest = find-without-other t in
      by-test (λ (l : List Rec). find j l ≡ find j (r ∷ t)) (eqb r.key k) (λ c. rw (ne_eqb r.key j (λ z. other (sym (eqb-true r.key k c) ∙ z))) rest)
      (λ c. ap (pick (eqb r.key j) (Some r.value)) rest)

-- ---- a table in parts

module _ (k : ℕ) (v : List ℕ) where
  add-skip : (a x : List Rec) → Below a k → add k v (a ++ x) ≡ a ++ add k v x
  unfolding add
  add-skip [] x h = refl
  add-skip (r ∷ a) x h = rw (le-ltb k r.key (omega (arith, h.0))) (ap (λ (l : List Rec). r ∷ l) (add-skip a x h.1))

  add-stop : (b c : List Rec) → From (suc k) c → add k v (b ++ c) ≡ add k v b ++ c
  unfolding add
  add-stop [] [] h = refl
  add-stop [] (r ∷ c) h = rw (lt-ltb k r.key h.0)
  add-stop (r ∷ b) c h = go (ltb k r.key) (add-stop b c h)
    where
      go : (t : Bool) → add k v (b ++ c) ≡ add k v b ++ c → pick t (rec_of k v ∷ r ∷ (b ++ c)) (r ∷ add k v (b ++ c)) ≡ pick t (rec_of k v ∷ r ∷ b) (r ∷ add k v b) ++ c
      go true e = refl
      go false e = ap (λ (l : List Rec). r ∷ l) e

  replace-append : (a b : List Rec) → replace k v (a ++ b) ≡ replace k v a ++ replace k v b
  unfolding replace
  replace-append [] b = refl
  replace-append (r ∷ a) b = ap (λ (l : List Rec). pick (eqb r.key k) (rec_of k v) r ∷ l) (replace-append a b)

without-append : (k : ℕ) (a b : List Rec) → without k (a ++ b) ≡ without k a ++ without k b
unfolding without
without-append k [] b = refl
without-append k (r ∷ a) b = go (eqb r.key k) (without-append k a b)
  where
    go : (t : Bool) → without k (a ++ b) ≡ without k a ++ without k b → pick t (without k (a ++ b)) (r ∷ without k (a ++ b)) ≡ pick t (without k a) (r ∷ without k a) ++ without k b
    go true e = e
    go false e = ap (λ (l : List Rec). r ∷ l) e

-- the keys of a are below the edit's, those of c above
pub apply-middle : (e : Edit) (a b c : List Rec) → Below a (key_of e) → From (suc (key_of e)) c → apply_edit e (a ++ (b ++ c)) ≡ a ++ (apply_edit e b ++ c)
unfolding apply_edit
apply-middle (insert k v) a b c low high = add-skip k v a (b ++ c) low ∙ ap (λ (l : List Rec). a ++ l) (add-stop k v b c high)
apply-middle (update k v) a b c low high =
    replace-append k v a (b ++ c)
    ∙ rw (replace-append k v b c, replace-lacks k v a (below-lacks k a low), replace-lacks k v c (above-lacks k c high))
apply-middle (delete k) a b c low high =
    without-append k a (b ++ c) ∙ rw (without-append k b c, without-lacks k a (below-lacks k a low), without-lacks k c (above-lacks k c high))

-- ---- a list of edits in two parts

pub apply-append : (es fs : List Edit) (t : List Rec) → apply_edits (es ++ fs) t ≡ apply_edits fs (apply_edits es t)
unfolding apply_edits
apply-append [] fs t = refl
apply-append (e ∷ es) fs t = apply-append es fs (apply_edit e t)
