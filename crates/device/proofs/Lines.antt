-- Each line on its own: what a cut keeps of a line. The device's contract for the crates above.
-- Assumes nothing.
use Prim.Native.Nat.{ℕ, zero, suc, ◌+◌, ◌-◌}
use mathlib.Core.Path.{◌≡◌, refl, sym, ap, ◌∙◌, fun_ext}
use mathlib.Core.Bool.{Bool, true, false, ◌&&◌, ◌||◌}
use mathlib.Core.List.{List, [], ◌∷◌}
use native.Mathlib.Omega.{arith}
use native.Mathlib.Nat.{add-zero, zero-add}
use lib.ListN.{take}
use lib.Seq.{take-nil}
use lib.Dec.{ltb, eqb}
use borrow.Author.Tests.{lt-ltb, eqb-true, eqb-false, eq-eqb, ne_eqb}
use Rattle.codec.specs.Lists.{pick, All}
use Rattle.codec.proofs.Agree.{or_right}
use Rattle.device.specs.Tape.{Op, store, flush, barrier, malformed, is_barrier}
use Rattle.device.specs.Cut.{line_of, some, durable, less, cons_if, kept, stores, concerns, of_line, stores_where, settled, To}

-- the first g l stores to each line l
firsts : (ℕ → ℕ) → List Op → List Op
firsts g [] = []
firsts g (store p vs ∷ cs) = cons_if (ltb 0 (g (line_of p))) (store p vs) (firsts (less g (line_of p)) cs)
firsts g (flush l ∷ cs) = firsts g cs
firsts g (barrier ∷ cs) = firsts g cs
firsts g (malformed ∷ cs) = firsts g cs

-- ---- a cut keeps the first stores of each line: those that are durable, and as many more as the choice says

settled-none : (l : ℕ) (cs : List Op) → durable l cs ≡ false → settled l cs ≡ 0
unfolding durable stores_where
settled-none l [] e = refl
settled-none l (store p vs ∷ cs) e = go (eqb (line_of p) l) (settled-none l cs e)
  where
    go : (b : Bool) → settled l cs ≡ 0 → pick (b && durable l cs) 1 0 + settled l cs ≡ 0
    go true i = rw (e, i)
    go false i = rw i
settled-none l (flush m ∷ cs) e = settled-none l cs (or_right (eqb m l && some is_barrier cs) (durable l cs) e)
settled-none l (barrier ∷ cs) e = settled-none l cs e
settled-none l (malformed ∷ cs) e = settled-none l cs e

module _ (f : ℕ → ℕ) (m : ℕ) (cs : List Op) where
  -- what is kept of each line, before a store to line m
  abbrev total : ℕ → ℕ
  total l = pick (eqb m l && durable l cs) 1 0 + settled l cs + f l

  total-test : (durable m cs || ltb 0 (f m)) ≡ ltb 0 (total m)
  total-test = go (durable m cs) refl
    where
      go : (b : Bool) → durable m cs ≡ b → (b || ltb 0 (f m)) ≡ ltb 0 (total m)
      go true e = sym (lt-ltb 0 (total m) (rw (eq-eqb m m refl, e) (omega arith)))
      go false e = let q : total m ≡ f m = rw (eq-eqb m m refl, e, settled-none m cs e) (omega arith) in sym (ap (ltb 0) q)

  total-rest : (λ (l : ℕ). settled l cs + pick (durable m cs) f (less f m) l) ≡ less total m
  total-rest = fun_ext (λ l. go l (eqb l m) refl (durable m cs) refl)
    where
      go : (l : ℕ) (b : Bool) → eqb l m ≡ b → (d : Bool) → durable m cs ≡ d → settled l cs + pick d f (less f m) l ≡ pick b (total l - 1) (total l)
      go l true e true q =
          let s : l ≡ m = eqb-true l m e in
          rw (eq-eqb m l (sym s), ap (λ (k : ℕ). durable k cs) s ∙ q) (omega arith)
      go l true e false q =
          let s : l ≡ m = eqb-true l m e in
          let u : durable l cs ≡ false = ap (λ (k : ℕ). durable k cs) s ∙ q in
          rw (eq-eqb m l (sym s), u, e) (omega (arith, settled-none l cs u))
      go l false e true q = rw (ne_eqb m l (λ r. eqb-false l m e (sym r))) (omega arith)
      go l false e false q = rw (ne_eqb m l (λ r. eqb-false l m e (sym r)), e) (omega arith)

kept-firsts : (f : ℕ → ℕ) (cs : List Op) → kept f cs ≡ firsts (λ (l : ℕ). settled l cs + f l) cs
unfolding kept firsts stores_where
kept-firsts f [] = refl
kept-firsts f (store p vs ∷ cs) =
    let m = line_of p in
    let g = pick (durable m cs) f (less f m) in
    ap (λ (b : Bool). cons_if b (store p vs) (kept g cs)) (total-test f m cs)
    ∙ ap (cons_if (ltb 0 (total f m cs m)) (store p vs)) (kept-firsts g cs ∙ ap (λ (h : ℕ → ℕ). firsts h cs) (total-rest f m cs))
kept-firsts f (flush l ∷ cs) = kept-firsts f cs
kept-firsts f (barrier ∷ cs) = kept-firsts f cs
kept-firsts f (malformed ∷ cs) = kept-firsts f cs

-- ---- of one line

take-one : (k : ℕ) (o : Op) (cs : List Op) → cons_if (ltb 0 k) o (take (k - 1) cs) ≡ take k (o ∷ cs)
take-one zero o cs = refl
take-one (suc k) o cs = let e : suc k - 1 ≡ k = omega arith in rw (lt-ltb 0 (suc k) (omega arith), e)

less-here : (g : ℕ → ℕ) (m l : ℕ) → eqb m l ≡ true → less g m l ≡ g l - 1
less-here g m l e = rw (eq-eqb l m (sym (eqb-true m l e)))

less-there : (g : ℕ → ℕ) (m l : ℕ) → eqb m l ≡ false → less g m l ≡ g l
less-there g m l e = rw (ne_eqb l m (λ q. eqb-false m l e (sym q)))

take_less : (g : ℕ → ℕ) (m l : ℕ) (o : Op) (cs : List Op) → eqb m l ≡ true → cons_if (ltb 0 (g m)) o (take (less g m l) cs) ≡ take (g l) (o ∷ cs)
take_less g m l o cs e =
    ap (λ (k : ℕ). cons_if (ltb 0 (g k)) o (take (less g m l) cs)) (eqb-true m l e)
    ∙ ap (λ (k : ℕ). cons_if (ltb 0 (g l)) o (take k cs)) (less-here g m l e)
    ∙ take-one (g l) o cs

line-if : (l p : ℕ) (vs : List ℕ) (b k : Bool) (cs : List Op) → eqb (line_of p) l ≡ b → of_line l (cons_if k (store p vs) cs) ≡ cons_if (b && k) (store p vs) (of_line l cs)
unfolding of_line
line-if l p vs true true cs e = rw e
line-if l p vs true false cs e = refl
line-if l p vs false true cs e = rw e
line-if l p vs false false cs e = refl

-- of the first g stores of each line, those to line l
line-firsts : (l : ℕ) (g : ℕ → ℕ) (cs : List Op) → of_line l (firsts g cs) ≡ take (g l) (of_line l (stores cs))
unfolding firsts of_line stores
line-firsts l g [] = sym (take-nil {A = Op} (g l))
line-firsts l g (store p vs ∷ cs) =
    line-if l p vs (eqb (line_of p) l) (ltb 0 (g (line_of p))) (firsts (less g (line_of p)) cs) refl ∙ go (eqb (line_of p) l) refl (line-firsts l (less g (line_of p)) cs)
  where
    go : (b : Bool) → eqb (line_of p) l ≡ b → of_line l (firsts (less g (line_of p)) cs) ≡ take (less g (line_of p) l) (of_line l (stores cs)) →
        cons_if (b && ltb 0 (g (line_of p))) (store p vs) (of_line l (firsts (less g (line_of p)) cs)) ≡ take (g l) (cons_if b (store p vs) (of_line l (stores cs)))
    go true e i = ap (cons_if (ltb 0 (g (line_of p))) (store p vs)) i ∙ take_less g (line_of p) l (store p vs) (of_line l (stores cs)) e
    go false e i = i ∙ ap (λ (k : ℕ). take k (of_line l (stores cs))) (less-there g (line_of p) l e)
line-firsts l g (flush m ∷ cs) = line-firsts l g cs
line-firsts l g (barrier ∷ cs) = line-firsts l g cs
line-firsts l g (malformed ∷ cs) = line-firsts l g cs

-- of the commands of line l, its first stores
firsts-line : (l : ℕ) (g : ℕ → ℕ) (cs : List Op) → firsts g (of_line l cs) ≡ take (g l) (of_line l (stores cs))
unfolding firsts of_line stores
firsts-line l g [] = sym (take-nil {A = Op} (g l))
firsts-line l g (store p vs ∷ cs) = go (eqb (line_of p) l) refl (λ h. firsts-line l h cs)
  where
    go : (b : Bool) → eqb (line_of p) l ≡ b → ((h : ℕ → ℕ) → firsts h (of_line l cs) ≡ take (h l) (of_line l (stores cs))) →
        firsts g (cons_if b (store p vs) (of_line l cs)) ≡ take (g l) (cons_if b (store p vs) (of_line l (stores cs)))
    go true e i = ap (cons_if (ltb 0 (g (line_of p))) (store p vs)) (i (less g (line_of p))) ∙ take_less g (line_of p) l (store p vs) (of_line l (stores cs)) e
    go false e i = i g
firsts-line l g (flush m ∷ cs) = go (eqb m l) (firsts-line l g cs)
  where
    go : (b : Bool) → firsts g (of_line l cs) ≡ take (g l) (of_line l (stores cs)) → firsts g (cons_if b (flush m) (of_line l cs)) ≡ take (g l) (of_line l (stores cs))
    go true i = i
    go false i = i
firsts-line l g (barrier ∷ cs) = firsts-line l g cs
firsts-line l g (malformed ∷ cs) = firsts-line l g cs

-- no barrier is left out
barrier-line : (l : ℕ) (cs : List Op) → some is_barrier (of_line l cs) ≡ some is_barrier cs
unfolding some of_line
barrier-line l [] = refl
barrier-line l (o ∷ cs) = go o (barrier-line l cs)
  where
    skip : (b : Bool) (x : Op) → is_barrier x ≡ false → some is_barrier (of_line l cs) ≡ some is_barrier cs → some is_barrier (cons_if b x (of_line l cs)) ≡ some is_barrier cs
    skip true x e i = rw e i
    skip false x e i = i

    go : (x : Op) → some is_barrier (of_line l cs) ≡ some is_barrier cs → some is_barrier (cons_if (concerns l x) x (of_line l cs)) ≡ (is_barrier x || some is_barrier cs)
    go (store p vs) i = skip (eqb (line_of p) l) (store p vs) refl i
    go (flush m) i = skip (eqb m l) (flush m) refl i
    go barrier i = refl
    go malformed i = i

durable-line : (l : ℕ) (cs : List Op) → durable l (of_line l cs) ≡ durable l cs
unfolding durable of_line
durable-line l [] = refl
durable-line l (store p vs ∷ cs) = go (eqb (line_of p) l) (durable-line l cs)
  where
    go : (b : Bool) → durable l (of_line l cs) ≡ durable l cs → durable l (cons_if b (store p vs) (of_line l cs)) ≡ durable l cs
    go true i = i
    go false i = i
durable-line l (flush m ∷ cs) = go (eqb m l) refl (durable-line l cs)
  where
    go : (b : Bool) → eqb m l ≡ b → durable l (of_line l cs) ≡ durable l cs → durable l (cons_if b (flush m) (of_line l cs)) ≡ ((b && some is_barrier cs) || durable l cs)
    go true e i = rw (e, barrier-line l cs, i)
    go false e i = i
durable-line l (barrier ∷ cs) = durable-line l cs
durable-line l (malformed ∷ cs) = durable-line l cs

settled-line : (l : ℕ) (cs : List Op) → settled l (of_line l cs) ≡ settled l cs
unfolding stores_where of_line
settled-line l [] = refl
settled-line l (store p vs ∷ cs) = go (eqb (line_of p) l) refl (settled-line l cs)
  where
    go : (b : Bool) → eqb (line_of p) l ≡ b → settled l (of_line l cs) ≡ settled l cs → settled l (cons_if b (store p vs) (of_line l cs)) ≡ pick (b && durable l cs) 1 0 + settled l cs
    go true e i = rw (e, durable-line l cs, i)
    go false e i = i ∙ sym (zero-add (settled l cs))
settled-line l (flush m ∷ cs) = go (eqb m l) (settled-line l cs)
  where
    go : (b : Bool) → settled l (of_line l cs) ≡ settled l cs → settled l (cons_if b (flush m) (of_line l cs)) ≡ settled l cs
    go true i = i
    go false i = i
settled-line l (barrier ∷ cs) = settled-line l cs
settled-line l (malformed ∷ cs) = settled-line l cs

-- of each line a cut keeps a first part of its stores: those that are durable, and as many more as the choice says
pub keep-line : (l : ℕ) (f : ℕ → ℕ) (cs : List Op) → of_line l (kept f cs) ≡ take (settled l cs + f l) (of_line l (stores cs))
keep-line l f cs = ap (of_line l) (kept-firsts f cs) ∙ line-firsts l (λ (m : ℕ). settled m cs + f m) cs

-- a line's durable stores are a first part of its stores: they alone are kept where no choice is left
pub durable-part : (l : ℕ) (cs : List Op) → of_line l (kept (λ (m : ℕ). 0) cs) ≡ take (settled l cs) (of_line l (stores cs))
durable-part l cs = keep-line l (λ (m : ℕ). 0) cs ∙ ap (λ (k : ℕ). take k (of_line l (stores cs))) (add-zero (settled l cs))

-- what a cut keeps of line l is what it keeps of that line's commands alone
pub each_line : (l : ℕ) (f : ℕ → ℕ) (cs : List Op) → of_line l (kept f cs) ≡ kept f (of_line l cs)
each_line l f cs =
    keep-line l f cs
    ∙ ap (λ (k : ℕ). take (k + f l) (of_line l (stores cs))) (sym (settled-line l cs))
    ∙ sym (firsts-line l (λ (m : ℕ). settled m (of_line l cs) + f m) cs)
    ∙ sym (kept-firsts f (of_line l cs))

-- stores to line l alone are all of that line
pub to-line : (l : ℕ) (cs : List Op) → All (To l) cs → of_line l cs ≡ cs
unfolding of_line
to-line l [] h = refl
to-line l (store p vs ∷ cs) h = rw (eq-eqb (line_of p) l h.0) (ap (λ (r : List Op). store p vs ∷ r) (to-line l cs h.1))
to-line l (flush m ∷ cs) h = absurd h.0
to-line l (barrier ∷ cs) h = absurd h.0
to-line l (malformed ∷ cs) h = absurd h.0
