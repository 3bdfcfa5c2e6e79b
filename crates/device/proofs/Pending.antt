-- Pending stores: how many a command adds or makes durable, and that of a choice only what is pending counts. The device's contract for the crates
-- above.
-- Assumes nothing.
use Prim.Native.Nat.{ℕ, suc, ◌+◌, ◌-◌, ◌≤◌}
use mathlib.Core.Path.{◌≡◌, refl, sym, ap, ap₂, ◌∙◌, fun_ext}
use mathlib.Core.Bool.{Bool, true, false, not, ◌&&◌, ◌||◌, or-true}
use mathlib.Core.List.{List, [], ◌∷◌, ◌++◌}
use mathlib.Core.Logic.{◌⊎◌, inl, inr}
use native.Mathlib.Omega.{arith}
use native.Mathlib.Nat.{add-zero, zero-add}
use lib.ListN.{length, take}
use lib.Dec.{ltb, eqb}
use borrow.Author.Tests.{lt-ltb, eqb-true, eq-eqb}
use Rattle.codec.specs.Lists.{pick}
use Rattle.device.specs.Tape.{Op, store, flush, barrier, malformed, is_barrier}
use Rattle.device.specs.Cut.{after, line_of, flushes_line, some, durable, less, cons_if, kept, cut_image, stores, of_line, stores_where, settled, pending, unflushed}
use Rattle.device.proofs.Durable.{some-append, durable-flushed, durable-barrier, durable-other}

-- ---- how many stores have commands after them that are so

module _ (test : List Op → Bool) (l : ℕ) where
  where-store : (p : ℕ) (vs : List ℕ) (cs : List Op) → stores_where test l (store p vs ∷ cs) ≡ pick (eqb (line_of p) l && test cs) 1 0 + stores_where test l cs
  unfolding stores_where
  where-store p vs cs = refl

  -- with one more command, which may change what is so
  where-last : (cs : List Op) (o : Op) → stores_where test l (cs ++ (o ∷ [])) ≡ stores_where (λ ds. test (ds ++ (o ∷ []))) l cs + stores_where test l (o ∷ [])
  unfolding stores_where
  where-last [] o = sym (zero-add (stores_where test l (o ∷ [])))
  where-last (store p vs ∷ cs) o = omega (arith, where-last cs o)
  where-last (flush m ∷ cs) o = where-last cs o
  where-last (barrier ∷ cs) o = where-last cs o
  where-last (malformed ∷ cs) o = where-last cs o

  -- there are no more than commands
  where-le : (cs : List Op) → stores_where test l cs ≤ length cs
  unfolding stores_where
  where-le [] = omega arith
  where-le (store p vs ∷ cs) = omega (arith, where-le cs, go (eqb (line_of p) l && test cs))
    where
      go : (b : Bool) → pick b 1 0 ≤ 1
      go true = omega arith
      go false = omega arith
  where-le (flush m ∷ cs) = omega (arith, where-le cs)
  where-le (barrier ∷ cs) = omega (arith, where-le cs)
  where-le (malformed ∷ cs) = omega (arith, where-le cs)

  where-none : (cs : List Op) → ((ds : List Op) → test ds ≡ false) → stores_where test l cs ≡ 0
  unfolding stores_where
  where-none [] h = refl
  where-none (store p vs ∷ cs) h = rw (h cs, where-none cs h) (go (eqb (line_of p) l))
    where
      go : (b : Bool) → pick (b && false) 1 0 + 0 ≡ 0
      go true = refl
      go false = refl
  where-none (flush m ∷ cs) h = where-none cs h
  where-none (barrier ∷ cs) h = where-none cs h
  where-none (malformed ∷ cs) h = where-none cs h

  -- every store to the line is one of these or of the others
  where-all : (cs : List Op) → length (stores (of_line l cs)) ≡ stores_where test l cs + stores_where (λ ds. not (test ds)) l cs
  unfolding stores of_line stores_where
  where-all [] = refl
  where-all (store p vs ∷ cs) = go (eqb (line_of p) l) (test cs) (where-all cs)
    where
      go : (b d : Bool) → length (stores (of_line l cs)) ≡ stores_where test l cs + stores_where (λ ds. not (test ds)) l cs →
          length (stores (cons_if b (store p vs) (of_line l cs))) ≡ pick (b && d) 1 0 + stores_where test l cs + (pick (b && not d) 1 0 + stores_where (λ ds. not (test ds)) l cs)
      go true true h = omega arith
      go true false h = omega arith
      go false d h = omega arith
  where-all (flush m ∷ cs) = go (eqb m l) (where-all cs)
    where
      go : (b : Bool) → length (stores (of_line l cs)) ≡ stores_where test l cs + stores_where (λ ds. not (test ds)) l cs →
          length (stores (cons_if b (flush m) (of_line l cs))) ≡ stores_where test l cs + stores_where (λ ds. not (test ds)) l cs
      go true h = h
      go false h = h
  where-all (barrier ∷ cs) = where-all cs
  where-all (malformed ∷ cs) = where-all cs

-- what is so only where something else is
where-fewer : (t u : List Op → Bool) (l : ℕ) (cs : List Op) → ((ds : List Op) → t ds ≡ true → u ds ≡ true) → stores_where t l cs ≤ stores_where u l cs
unfolding stores_where
where-fewer t u l [] h = omega arith
where-fewer t u l (store p vs ∷ cs) h = omega (arith, where-fewer t u l cs h, go (eqb (line_of p) l) (t cs) (u cs) (h cs))
  where
    go : (b d e : Bool) → (d ≡ true → e ≡ true) → pick (b && d) 1 0 ≤ pick (b && e) 1 0
    go false d e k = omega arith
    go true false e k = omega arith
    go true true e k = rw (k refl) (omega arith)
where-fewer t u l (flush m ∷ cs) h = where-fewer t u l cs h
where-fewer t u l (barrier ∷ cs) h = where-fewer t u l cs h
where-fewer t u l (malformed ∷ cs) h = where-fewer t u l cs h

where-alike : (t u : List Op → Bool) (l : ℕ) (cs : List Op) → ((ds : List Op) → t ds ≡ u ds) → stores_where t l cs ≡ stores_where u l cs
where-alike t u l cs h = ap (λ (test : List Op → Bool). stores_where test l cs) (fun_ext h)

-- ---- how many are pending, and how many of them not even flushed: after no command, and after one more

module _ (l : ℕ) where
  pub pending-nil : pending l [] ≡ 0
  unfolding stores_where
  pending-nil = refl

  pub unflushed-nil : unflushed l [] ≡ 0
  unfolding stores_where
  unflushed-nil = refl

  -- every store to the line is durable or pending
  pub settled-pending : (cs : List Op) → length (stores (of_line l cs)) ≡ settled l cs + pending l cs
  settled-pending cs = where-all (durable l) l cs

  pub pending-le : (cs : List Op) → pending l cs ≤ length cs
  pending-le cs = where-le (λ ds. not (durable l ds)) l cs

  -- what was not flushed is pending
  pub unflushed-pending : (cs : List Op) → unflushed l cs ≤ pending l cs
  unflushed-pending cs = where-fewer (λ ds. not (some (flushes_line l) ds)) (λ ds. not (durable l ds)) l cs go
    where
      go : (ds : List Op) → not (some (flushes_line l) ds) ≡ true → not (durable l ds) ≡ true
      go ds = by (durable l ds) (some (flushes_line l) ds) (durable-flushed l ds)
        where
          by : (d s : Bool) → (d ≡ true → s ≡ true) → not s ≡ true → not d ≡ true
          by false s h e = refl
          by true s h e = rw (h refl) at e

  -- but for a barrier, a command makes nothing durable
  pending-other : (cs : List Op) (o : Op) → is_barrier o ≡ false → pending l (cs ++ (o ∷ [])) ≡ pending l cs + pending l (o ∷ [])
  pending-other cs o e =
      where-last (λ ds. not (durable l ds)) l cs o
      ∙ ap (λ (k : ℕ). k + pending l (o ∷ [])) (where-alike (λ ds. not (durable l (ds ++ (o ∷ [])))) (λ ds. not (durable l ds)) l cs (λ ds. ap not (durable-other l ds o e)))

  pub pending-stored : (cs : List Op) (p : ℕ) (vs : List ℕ) → pending l (cs ++ (store p vs ∷ [])) ≡ pick (eqb (line_of p) l) 1 0 + pending l cs
  unfolding stores_where durable
  pending-stored cs p vs = pending-other cs (store p vs) refl ∙ go (eqb (line_of p) l)
    where
      go : (b : Bool) → pending l cs + (pick (b && true) 1 0 + 0) ≡ pick b 1 0 + pending l cs
      go true = omega arith
      go false = omega arith

  -- "a flush [..] only starts the write-back"
  pub pending-flushed : (cs : List Op) (m : ℕ) → pending l (cs ++ (flush m ∷ [])) ≡ pending l cs
  unfolding stores_where
  pending-flushed cs m = pending-other cs (flush m) refl ∙ add-zero (pending l cs)

  -- "a barrier waits for it"
  pub pending-barrier : (cs : List Op) → pending l (cs ++ (barrier ∷ [])) ≡ unflushed l cs
  unfolding stores_where
  pending-barrier cs =
      where-last (λ ds. not (durable l ds)) l cs barrier
      ∙ add-zero _
      ∙ where-alike (λ ds. not (durable l (ds ++ (barrier ∷ [])))) (λ ds. not (some (flushes_line l) ds)) l cs (λ ds. ap not (durable-barrier l ds))

  pub pending-broken : (cs : List Op) → pending l (cs ++ (malformed ∷ [])) ≡ pending l cs
  unfolding stores_where
  pending-broken cs = pending-other cs malformed refl ∙ add-zero (pending l cs)

  -- but for a flush of the line, a command flushes nothing of it
  unflushed-other : (cs : List Op) (o : Op) → flushes_line l o ≡ false → unflushed l (cs ++ (o ∷ [])) ≡ unflushed l cs + unflushed l (o ∷ [])
  unfolding some
  unflushed-other cs o e =
      where-last (λ ds. not (some (flushes_line l) ds)) l cs o
      ∙ ap (λ (k : ℕ). k + unflushed l (o ∷ [])) (where-alike (λ ds. not (some (flushes_line l) (ds ++ (o ∷ [])))) (λ ds. not (some (flushes_line l) ds)) l cs (λ ds. ap not (none ds)))
    where
      none : (ds : List Op) → some (flushes_line l) (ds ++ (o ∷ [])) ≡ some (flushes_line l) ds
      none ds = some-append (flushes_line l) ds (o ∷ []) ∙ rw e (go (some (flushes_line l) ds))
        where
          go : (b : Bool) → (b || (false || false)) ≡ b
          go true = refl
          go false = refl

  pub unflushed-stored : (cs : List Op) (p : ℕ) (vs : List ℕ) → unflushed l (cs ++ (store p vs ∷ [])) ≡ pick (eqb (line_of p) l) 1 0 + unflushed l cs
  unfolding stores_where some
  unflushed-stored cs p vs = unflushed-other cs (store p vs) refl ∙ go (eqb (line_of p) l)
    where
      go : (b : Bool) → unflushed l cs + (pick (b && true) 1 0 + 0) ≡ pick b 1 0 + unflushed l cs
      go true = omega arith
      go false = omega arith

  pub unflushed-flushed : (cs : List Op) (m : ℕ) → unflushed l (cs ++ (flush m ∷ [])) ≡ pick (eqb m l) 0 (unflushed l cs)
  unfolding stores_where some
  unflushed-flushed cs m = go (eqb m l) refl
    where
      here : (ds : List Op) → eqb m l ≡ true → some (flushes_line l) (ds ++ (flush m ∷ [])) ≡ true
      here ds e = some-append (flushes_line l) ds (flush m ∷ []) ∙ rw e (or-true (some (flushes_line l) ds))

      go : (b : Bool) → eqb m l ≡ b → unflushed l (cs ++ (flush m ∷ [])) ≡ pick b 0 (unflushed l cs)
      go true e =
          where-last (λ ds. not (some (flushes_line l) ds)) l cs (flush m)
          ∙ add-zero _
          ∙ where-none (λ ds. not (some (flushes_line l) (ds ++ (flush m ∷ [])))) l cs (λ ds. ap not (here ds e))
      go false e = unflushed-other cs (flush m) e ∙ add-zero (unflushed l cs)

  pub unflushed-barrier : (cs : List Op) → unflushed l (cs ++ (barrier ∷ [])) ≡ unflushed l cs
  unfolding stores_where
  unflushed-barrier cs = unflushed-other cs barrier refl ∙ add-zero (unflushed l cs)

  -- a store between a flush of its line and the barrier is not covered by them: it alone of the line's stores is pending
  pub between-pending : (cs : List Op) (p : ℕ) (vs : List ℕ) → line_of p ≡ l → pending l (((cs ++ (flush l ∷ [])) ++ (store p vs ∷ [])) ++ (barrier ∷ [])) ≡ 1
  between-pending cs p vs e =
      pending-barrier ((cs ++ (flush l ∷ [])) ++ (store p vs ∷ []))
      ∙ unflushed-stored (cs ++ (flush l ∷ [])) p vs
      ∙ rw (eq-eqb (line_of p) l e, unflushed-flushed cs l, eq-eqb l l refl)

-- ---- what a cut keeps of them

-- choices of a and b stores keep the same of k pending ones: they are equal, or each is as many or more
abbrev pub Alike : ℕ → ℕ → ℕ → Type 0
Alike k a b = (a ≡ b) ⊎ ((k ≤ a) × (k ≤ b))

fewer : (j k a b : ℕ) → j ≤ k → Alike k a b → Alike j a b
fewer j k a b h (inl e) = inl e
fewer j k a b h (inr s) = inr (omega arith, omega arith)

some_left : (k a b : ℕ) → Alike (suc k) a b → ltb 0 a ≡ ltb 0 b
some_left k a b (inl e) = ap (ltb 0) e
some_left k a b (inr s) = lt-ltb 0 a (omega arith) ∙ sym (lt-ltb 0 b (omega arith))

one_less : (k a b : ℕ) → Alike (suc k) a b → Alike k (a - 1) (b - 1)
one_less k a b (inl e) = inl (ap (λ (x : ℕ). x - 1) e)
one_less k a b (inr s) = inr (omega arith, omega arith)

-- after a pending store
less-alike : (f g : ℕ → ℕ) (p : ℕ) (vs : List ℕ) (cs : List Op) → durable (line_of p) cs ≡ false → ((l : ℕ) → Alike (pending l (store p vs ∷ cs)) (f l) (g l)) → (l : ℕ) →
    Alike (pending l cs) (less f (line_of p) l) (less g (line_of p) l)
less-alike f g p vs cs d h l = go (eqb l (line_of p)) refl
  where
    go : (b : Bool) → eqb l (line_of p) ≡ b → Alike (pending l cs) (pick b (f l - 1) (f l)) (pick b (g l - 1) (g l))
    go true e =
        let s : l ≡ line_of p = eqb-true l (line_of p) e in
        let k : pending l (store p vs ∷ cs) ≡ suc (pending l cs) =
        where-store (λ ds. not (durable l ds)) l p vs cs ∙ rw (eq-eqb (line_of p) l (sym s), ap (λ (x : ℕ). durable x cs) s ∙ d) (omega arith) in
        one_less (pending l cs) (f l) (g l) (rw k at (h l))
    go false e = fewer (pending l cs) (pending l (store p vs ∷ cs)) (f l) (g l) (omega (arith, where-store (λ ds. not (durable l ds)) l p vs cs)) (h l)

kept-alike : (f g : ℕ → ℕ) (cs : List Op) → ((l : ℕ) → Alike (pending l cs) (f l) (g l)) → kept f cs ≡ kept g cs
unfolding kept stores_where
kept-alike f g [] h = refl
kept-alike f g (store p vs ∷ cs) h = go (durable (line_of p) cs) refl (λ f' g' i. kept-alike f' g' cs i)
  where
    go : (d : Bool) → durable (line_of p) cs ≡ d → ((f' g' : ℕ → ℕ) → ((l : ℕ) → Alike (pending l cs) (f' l) (g' l)) → kept f' cs ≡ kept g' cs) →
        cons_if (d || ltb 0 (f (line_of p))) (store p vs) (kept (pick d f (less f (line_of p))) cs) ≡ cons_if (d || ltb 0 (g (line_of p))) (store p vs) (kept (pick d g (less g (line_of p))) cs)
    go true e i = ap (λ (r : List Op). store p vs ∷ r) (i f g (λ l. fewer (pending l cs) (pending l (store p vs ∷ cs)) (f l) (g l) (omega (arith, where-store (λ ds. not (durable l ds)) l p vs cs)) (h l)))
    go false e i =
        let k : pending (line_of p) (store p vs ∷ cs) ≡ suc (pending (line_of p) cs) =
        where-store (λ ds. not (durable (line_of p) ds)) (line_of p) p vs cs ∙ rw (eq-eqb (line_of p) (line_of p) refl, e) (omega arith) in
        ap₂ (λ (b : Bool) (r : List Op). cons_if b (store p vs) r) (some_left (pending (line_of p) cs) (f (line_of p)) (g (line_of p)) (rw k at (h (line_of p)))) (i (less f (line_of p)) (less g (line_of p)) (less-alike f g p vs cs e h))
kept-alike f g (flush m ∷ cs) h = kept-alike f g cs h
kept-alike f g (barrier ∷ cs) h = kept-alike f g cs h
kept-alike f g (malformed ∷ cs) h = kept-alike f g cs h

-- choices that keep the same of every line's pending stores leave the same image
pub cut-alike : (image : List ℕ) (f g : ℕ → ℕ) (c : ℕ) (cs : List Op) → ((l : ℕ) → Alike (pending l (take c cs)) (f l) (g l)) → cut_image image f c cs ≡ cut_image image g c cs
unfolding cut_image
cut-alike image f g c cs h = ap (after image) (kept-alike f g (take c cs) h)
