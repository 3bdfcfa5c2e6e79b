-- When a store is durable (document 02 (h)): "once its line has been flushed after it and a barrier has come after that flush". The device's
-- contract for the crates above.
-- Assumes nothing.
use Prim.Native.Nat.{ℕ, ◌≤◌}
use mathlib.Core.Path.{◌≡◌, refl, sym, ap, ap₂, ◌∙◌}
use mathlib.Core.Bool.{Bool, true, false, ◌&&◌, ◌||◌, or-true, false≢true}
use mathlib.Core.List.{List, [], ◌∷◌, ◌++◌}
use mathlib.Core.Logic.{◌⊎◌, inl, inr}
use native.Mathlib.Omega.{arith}
use lib.ListN.{length}
use borrow.Author.Tests.{eq-eqb, eqb-true}
use Rattle.codec.proofs.Tests.{first, second}
use Rattle.codec.proofs.Agree.{either}
use Rattle.device.specs.Tape.{Op, store, flush, barrier, malformed, is_barrier}
use Rattle.device.specs.Cut.{line_of, flushes_line, some, durable}
use Rattle.device.specs.Says.{Waited}

-- ---- the shortest lists

-- one command makes nothing durable
pub one-alone : (l : ℕ) (o : Op) → durable l (o ∷ []) ≡ false
unfolding durable some
one-alone l o = go (flushes_line l o)
  where
    go : (b : Bool) → ((b && false) || false) ≡ false
    go true = refl
    go false = refl

-- "a flush [..] only starts the write-back"
pub flush-alone : (l m : ℕ) → durable l (flush m ∷ []) ≡ false
flush-alone l m = one-alone l (flush m)

-- "a barrier has come after that flush": not before it
pub barrier-early : (l m : ℕ) → durable l (barrier ∷ flush m ∷ []) ≡ false
unfolding durable
barrier-early l m = flush-alone l m

-- so there are two commands at least
pub durable-long : (l : ℕ) (cs : List Op) → durable l cs ≡ true → 2 ≤ length cs
unfolding durable
durable-long l [] e = absurd (false≢true e)
durable-long l (o ∷ []) e = absurd (false≢true (sym (one-alone l o) ∙ e))
durable-long l (o ∷ x ∷ cs) e = omega arith

-- ---- exactly if: a flush of the line, and a barrier after it

is-flush : (l : ℕ) (o : Op) → flushes_line l o ≡ true → o ≡ flush l
is-flush l (store p vs) e = absurd (false≢true e)
is-flush l (flush m) e = ap flush (eqb-true m l e)
is-flush l barrier e = absurd (false≢true e)
is-flush l malformed e = absurd (false≢true e)

is-barrier : (o : Op) → is_barrier o ≡ true → o ≡ barrier
is-barrier (store p vs) e = absurd (false≢true e)
is-barrier (flush m) e = absurd (false≢true e)
is-barrier barrier e = refl
is-barrier malformed e = absurd (false≢true e)

has-barrier : (cs : List Op) → some is_barrier cs ≡ true → (between : List Op) × (rest : List Op) × (cs ≡ between ++ (barrier ∷ rest))
unfolding some
has-barrier [] e = absurd (false≢true e)
has-barrier (o ∷ cs) e = go (either (is_barrier o) (some is_barrier cs) e) (has-barrier cs)
  where
    go : (is_barrier o ≡ true) ⊎ (some is_barrier cs ≡ true) → (some is_barrier cs ≡ true → (between : List Op) × (rest : List Op) × (cs ≡ between ++ (barrier ∷ rest))) →
        (between : List Op) × (rest : List Op) × (o ∷ cs ≡ between ++ (barrier ∷ rest))
    go (inl q) r = ([], cs, ap (λ (x : Op). x ∷ cs) (is-barrier o q))
    go (inr q) r = let h = r q in (o ∷ h.0, h.1, ap (λ (xs : List Op). o ∷ xs) h.2)

pub durable-waited : (l : ℕ) (cs : List Op) → durable l cs ≡ true → Waited l cs
unfolding durable
durable-waited l [] e = absurd (false≢true e)
durable-waited l (o ∷ cs) e = go (either (flushes_line l o && some is_barrier cs) (durable l cs) e) (durable-waited l cs)
  where
    go : ((flushes_line l o && some is_barrier cs) ≡ true) ⊎ (durable l cs ≡ true) → (durable l cs ≡ true → Waited l cs) → Waited l (o ∷ cs)
    go (inl q) r =
        let h = has-barrier cs (second (flushes_line l o) (some is_barrier cs) q) in
        let is_flush = is-flush l o (first (flushes_line l o) (some is_barrier cs) q) in
        record { before = []; between = h.0; rest = h.1; shape = ap₂ (λ (x : Op) (xs : List Op). x ∷ xs) is_flush h.2 }
    go (inr q) r =
        let h = r q in
        record { before = o ∷ h.before; between = h.between; rest = h.rest; shape = ap (λ (xs : List Op). o ∷ xs) h.shape }

-- ---- one list after another

pub some-append : (test : Op → Bool) (a b : List Op) → some test (a ++ b) ≡ (some test a || some test b)
unfolding some
some-append test [] b = refl
some-append test (o ∷ a) b = go (test o) (some-append test a b)
  where
    go : (t : Bool) → some test (a ++ b) ≡ (some test a || some test b) → (t || some test (a ++ b)) ≡ ((t || some test a) || some test b)
    go true q = refl
    go false q = q

-- durable in the first, or flushed in the first and past a barrier of the second, or durable in the second
pub durable-append : (l : ℕ) (a b : List Op) → durable l (a ++ b) ≡ (durable l a || ((some (flushes_line l) a && some is_barrier b) || durable l b))
unfolding durable some
durable-append l [] b = refl
durable-append l (o ∷ a) b =
    rw (some-append is_barrier a b, durable-append l a b) (go (flushes_line l o) (some is_barrier a) (durable l a) (some (flushes_line l) a) (some is_barrier b) (durable l b))
  where
    go : (f s d g t e : Bool) → ((f && (s || t)) || (d || ((g && t) || e))) ≡ (((f && s) || d) || (((f || g) && t) || e))
    go true true d g t e = refl
    go true false true g true e = refl
    go true false true g false e = refl
    go true false false g true e = refl
    go true false false true false e = refl
    go true false false false false e = refl
    go false s d g t e = refl

-- what is durable stays so, whatever comes after it
pub durable-first : (l : ℕ) (a b : List Op) → durable l a ≡ true → durable l (a ++ b) ≡ true
durable-first l a b e = durable-append l a b ∙ rw e

-- and what comes before the flush does no harm
pub durable-second : (l : ℕ) (a b : List Op) → durable l b ≡ true → durable l (a ++ b) ≡ true
durable-second l a b e = durable-append l a b ∙ rw (e, or-true (some (flushes_line l) a && some is_barrier b)) (or-true (durable l a))

pub waited-durable : (l : ℕ) (cs : List Op) → Waited l cs → durable l cs ≡ true
unfolding durable some
waited-durable l cs w = ap (durable l) w.shape ∙ durable-second l w.before (flush l ∷ (w.between ++ (barrier ∷ w.rest))) (rw (eq-eqb l l refl, fenced))
  where
    fenced : some is_barrier (w.between ++ (barrier ∷ w.rest)) ≡ true
    fenced = some-append is_barrier w.between (barrier ∷ w.rest) ∙ or-true (some is_barrier w.between)

-- ---- one more command

-- what is durable was flushed
pub durable-flushed : (l : ℕ) (cs : List Op) → durable l cs ≡ true → some (flushes_line l) cs ≡ true
unfolding durable some
durable-flushed l [] e = absurd (false≢true e)
durable-flushed l (o ∷ cs) e = go (flushes_line l o) (some is_barrier cs) e (durable-flushed l cs)
  where
    go : (f s : Bool) → ((f && s) || durable l cs) ≡ true → (durable l cs ≡ true → some (flushes_line l) cs ≡ true) → (f || some (flushes_line l) cs) ≡ true
    go true s q r = refl
    go false s q r = r q

-- a barrier makes durable what was flushed before it
pub durable-barrier : (l : ℕ) (cs : List Op) → durable l (cs ++ (barrier ∷ [])) ≡ some (flushes_line l) cs
unfolding durable some
durable-barrier l cs = durable-append l cs (barrier ∷ []) ∙ go (durable l cs) refl (some (flushes_line l) cs) refl
  where
    go : (d : Bool) → durable l cs ≡ d → (s : Bool) → some (flushes_line l) cs ≡ s → (d || ((s && true) || false)) ≡ s
    go true p s q = sym (durable-flushed l cs p) ∙ q
    go false p true q = refl
    go false p false q = refl

-- any other command makes nothing durable
pub durable-other : (l : ℕ) (cs : List Op) (o : Op) → is_barrier o ≡ false → durable l (cs ++ (o ∷ [])) ≡ durable l cs
unfolding durable some
durable-other l cs o e = durable-append l cs (o ∷ []) ∙ rw e (go (durable l cs) (some (flushes_line l) cs) (flushes_line l o))
  where
    go : (d s f : Bool) → (d || ((s && false) || ((f && false) || false))) ≡ d
    go true s f = refl
    go false true true = refl
    go false true false = refl
    go false false true = refl
    go false false false = refl

-- ---- two stores

-- of two stores to one line, the first is durable once the second is
pub durable-earlier : (p q : ℕ) (ws : List ℕ) (between rest : List Op) → line_of p ≡ line_of q → durable (line_of q) rest ≡ true → durable (line_of p) (between ++ (store q ws ∷ rest)) ≡ true
unfolding durable
durable-earlier p q ws between rest e d = durable-second (line_of p) between (store q ws ∷ rest) (ap (λ (l : ℕ). durable l rest) e ∙ d)
