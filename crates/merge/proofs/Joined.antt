-- Two rising tables into one: it holds every record of both and nothing else, and no other rising table does; and when a key is in both.
-- Assumes nothing.
use Rattle.std.specs.Prelude.{None, Option, Some}
use Prim.Native.Nat.{ℕ, suc, ◌<◌, ◌≤◌}
use mathlib.Core.Path.{◌≡◌, refl, sym, ap, ◌∙◌, subst}
use mathlib.Core.Bool.{Bool, true, false, not, ◌&&◌, false≢true}
use mathlib.Core.Logic.{◌⊎◌, inl, inr, ⊎_elim}
use mathlib.Core.List.{List, [], ◌∷◌}
use native.Mathlib.Omega.{arith}
use lib.Dec.{ltb}
use borrow.Author.Tests.{not-true}
use Rattle.codec.specs.Lists.{all_b}
use Rattle.codec.proofs.Tests.{first, second, not-true as never_true, all_b-true}
use Rattle.page.specs.Layout.{top_key, Rec, rec_of}
use Rattle.image.specs.Facts.{Rising}
use Rattle.image.specs.Says.{Member}
use Rattle.image.specs.Table.{find}
use Rattle.image.proofs.Rising.{From, rising_le, rising-from}
use Rattle.image.proofs.Exact.{member-all, find-member, none-member}
use Rattle.edit.specs.Ledger.{add}
use Rattle.edit.specs.Keys.{holds, is_some}
use Rattle.edit.proofs.General.{by-test}
use Rattle.edit.proofs.Ledger.{Lacks, find-lacks, rising-add, find-add-other}
use Rattle.edit.proofs.Keys.{holds-found, holds-missing}
use Rattle.merge.specs.Tables.{merged, apart, InBoth, Joins}

-- ---- the records of a table to which one is added

module _ (k : ℕ) (v : List ℕ) where
  add-keeps : (r : Rec) (t : List Rec) → Member r t → Member r (add k v t)
  unfolding add
  add-keeps r [] m = absurd m
  add-keeps r (x ∷ t) (inl e) = by-test (Member r) (ltb k x.key) (λ c. inr (inl e)) (λ c. inl e)
  add-keeps r (x ∷ t) (inr m) = by-test (Member r) (ltb k x.key) (λ c. inr (inr m)) (λ c. inr (add-keeps r t m))

  add-has : (t : List Rec) → Member (rec_of k v) (add k v t)
  unfolding add
  add-has [] = inl refl
  add-has (x ∷ t) = by-test (Member (rec_of k v)) (ltb k x.key) (λ c. inl refl) (λ c. inr (add-has t))

  add-only : (r : Rec) (t : List Rec) → Member r (add k v t) → (r ≡ rec_of k v) ⊎ Member r t
  unfolding add
  add-only r [] m = m
  add-only r (x ∷ t) m =
      by-test (λ (l : List Rec). Member r l → (r ≡ rec_of k v) ⊎ Member r (x ∷ t)) (ltb k x.key) (λ c n. n) (λ c n. later n (add-only r t)) m
    where
      later : Member r (x ∷ add k v t) → (Member r (add k v t) → (r ≡ rec_of k v) ⊎ Member r t) → (r ≡ rec_of k v) ⊎ Member r (x ∷ t)
      later (inl e) f = inr (inl e)
      later (inr n) f = ⊎_elim inl (λ o. inr (inr o)) (f n)

-- ---- the records of both

merged-every : (r : Rec) (t u : List Rec) → Member r t ⊎ Member r u → Member r (merged t u)
unfolding merged
merged-every r t [] (inl m) = m
merged-every r t [] (inr m) = absurd m
merged-every r t (s ∷ u) (inl m) = merged-every r (add s.key s.value t) u (inl (add-keeps s.key s.value r t m))
merged-every r t (s ∷ u) (inr (inl e)) =
    let added = add s.key s.value t in
    merged-every r added u (inl (subst (λ (x : Rec). Member x added) (sym e) (add-has s.key s.value t)))
merged-every r t (s ∷ u) (inr (inr m)) = merged-every r (add s.key s.value t) u (inr m)

merged-only : (r : Rec) (t u : List Rec) → Member r (merged t u) → Member r t ⊎ Member r u
unfolding merged
merged-only r t [] m = inl m
merged-only r t (s ∷ u) m = go (merged-only r (add s.key s.value t) u m)
  where
    go : Member r (add s.key s.value t) ⊎ Member r u → Member r t ⊎ Member r (s ∷ u)
    go (inl n) = ⊎_elim (λ e. inr (inl e)) inl (add-only s.key s.value r t n)
    go (inr n) = inr (inr n)

-- ---- keys rise

-- a key below those of u may be added to the table, and no more of u is in it
apart-add : (k : ℕ) (v : List ℕ) (t u : List Rec) → From (suc k) u → apart (add k v t) u ≡ apart t u
unfolding apart all_b holds
apart-add k v t [] h = refl
apart-add k v t (s ∷ u) h =
    let other : k ≡ s.key → ⊥ = λ e. omega (arith, h.0) in
    rw (find-add-other k s.key other v t) (ap (λ (b : Bool). not (is_some (find s.key t)) && b) (apart-add k v t u h.1))

apart-first : (t : List Rec) (s : Rec) (u : List Rec) → apart t (s ∷ u) ≡ true → Lacks s.key t × (apart t u ≡ true)
unfolding apart all_b
apart-first t s u h =
    let one = not (holds s.key t) in
    let rest = all_b (λ (r : Rec). not (holds r.key t)) u in (
      find-lacks s.key t (holds-missing s.key t (not-true (holds s.key t) (first one rest h))),
      second one rest h,
    )

rising-merged : (lo mo : ℕ) (t u : List Rec) (hi : ℕ) → lo ≤ mo → Rising lo t hi → Rising mo u hi → apart t u ≡ true → Rising lo (merged t u) hi
unfolding merged
rising-merged lo mo t [] hi q p h a = p
rising-merged lo mo t (s ∷ u) hi q p h a =
    let f = apart-first t s u a in
    let g = rising-from (suc s.key) u hi h.1 in
    let below : s.key < hi = rising_le (suc s.key) u hi h.1 in
    rising-merged lo (suc s.key) (add s.key s.value t) u hi (omega (arith, h.0))
    (rising-add s.key s.value lo t hi p (omega (arith, h.0)) below f.0) h.1 (apart-add s.key s.value t u g ∙ f.1)

module _ (t u : List Rec) (p : Rising 1 t (suc top_key)) (q : Rising 1 u (suc top_key)) (a : apart t u ≡ true) where
  pub merged-joins : Joins t u (merged t u)
  merged-joins = record {
    rising = rising-merged 1 1 t u (suc top_key) (omega arith) p q a;
    every = λ r. merged-every r t u;
    nothing-else = λ r. merged-only r t u;
  }

-- ---- and no other table does

module _ (x : Rec) (l : List Rec) (hi : ℕ) (h : Rising (suc x.key) l hi) where
  later : (r : Rec) → Member r l → x.key < r.key
  later r m = member-all (λ (y : Rec). suc x.key ≤ y.key) r l (rising-from (suc x.key) l hi h) m

-- of two rising lists with the same members, the rests have the same members
rest_in : (x : Rec) (a : List Rec) (y : Rec) (b : List Rec) (hi : ℕ) → Rising (suc x.key) a hi → x ≡ y → ((r : Rec) → Member r (x ∷ a) → Member r (y ∷ b)) →
    (r : Rec) → Member r a → Member r b
rest_in x a y b hi h e f r m = go (f r (inr m))
  where
    go : Member r (y ∷ b) → Member r b
    go (inl z) = absurd (omega (arith, later x a hi h r m, ap (λ (s : Rec). s.key) (z ∙ sym e)))
    go (inr n) = n

same_first : (x : Rec) (a : List Rec) (y : Rec) (b : List Rec) (hi : ℕ) → Rising (suc x.key) a hi → Rising (suc y.key) b hi →
    Member x (y ∷ b) → Member y (x ∷ a) → x ≡ y
same_first x a y b hi h g (inl e) n = e
same_first x a y b hi h g (inr m) (inl e) = sym e
same_first x a y b hi h g (inr m) (inr n) = absurd (omega (arith, later x a hi h y n, later y b hi g x m))

pub same-members : (lo mo : ℕ) (a b : List Rec) (hi : ℕ) → Rising lo a hi → Rising mo b hi → ((r : Rec) → Member r a → Member r b) →
    ((r : Rec) → Member r b → Member r a) → a ≡ b
same-members lo mo [] [] hi h g f k = refl
same-members lo mo [] (y ∷ b) hi h g f k = absurd (k y (inl refl))
same-members lo mo (x ∷ a) [] hi h g f k = absurd (f x (inl refl))
same-members lo mo (x ∷ a) (y ∷ b) hi h g f k =
    let e : x ≡ y = same_first x a y b hi h.1 g.1 (f x (inl refl)) (k y (inl refl)) in
    let rest : a ≡ b = same-members (suc x.key) (suc y.key) a b hi h.1 g.1 (rest_in x a y b hi h.1 e f) (rest_in y b x a hi g.1 (sym e) k) in
    λ i. e i ∷ rest i

-- two tables that hold the records of both are one
joins-same : (t u j k : List Rec) → Joins t u j → Joins t u k → j ≡ k
joins-same t u j k a b =
    same-members 1 1 j k (suc top_key) a.rising b.rising (λ r m. b.every r (a.nothing-else r m)) (λ r m. a.every r (b.nothing-else r m))

module _ (t u : List Rec) (p : Rising 1 t (suc top_key)) (q : Rising 1 u (suc top_key)) (a : apart t u ≡ true) where
  pub joins-merged : (j : List Rec) → Joins t u j → j ≡ merged t u
  joins-merged j h = joins-same t u j (merged t u) h (merged-joins t u p q a)

-- ---- a key in both

pub in_both : (t u : List Rec) → apart t u ≡ false → InBoth t u
unfolding apart all_b
in_both t [] h = absurd (false≢true (sym h))
in_both t (s ∷ u) h = go (holds s.key t) refl h (in_both t u)
  where
    here : (o : Option (List ℕ)) → find s.key t ≡ o → holds s.key t ≡ true → InBoth t (s ∷ u)
    here None e c = absurd (holds-found s.key t c e)
    here (Some v) e c = record { one = rec_of s.key v; other = s; in_first = find-member s.key v t e; in_second = inl refl; same = refl }

    go : (b : Bool) → holds s.key t ≡ b → (not b && all_b (λ (r : Rec). not (holds r.key t)) u) ≡ false →
        (all_b (λ (r : Rec). not (holds r.key t)) u ≡ false → InBoth t u) → InBoth t (s ∷ u)
    go true c h f = here (find s.key t) refl c
    go false c h f =
        let b = f h in
        record { one = b.one; other = b.other; in_first = b.in_first; in_second = inr b.in_second; same = b.same }

pub both-in : (t u : List Rec) → InBoth t u → apart t u ≡ false
unfolding apart
both-in t u b = never_true (all_b (λ (r : Rec). not (holds r.key t)) u) never
  where
    missing : (k : ℕ) → not (holds k t) ≡ true → find k t ≡ None
    missing k h = holds-missing k t (not-true (holds k t) h)

    never : all_b (λ (r : Rec). not (holds r.key t)) u ≡ true → ⊥
    never h =
        let each = all_b-true (λ (r : Rec). not (holds r.key t)) (λ (r : Rec). find r.key t ≡ None) (λ r. missing r.key) u h in
        let none-there = member-all (λ (r : Rec). find r.key t ≡ None) b.other u each b.in_second in
        none-member b.one.key t (ap (λ (k : ℕ). find k t) b.same ∙ none-there) b.one.value b.in_first
