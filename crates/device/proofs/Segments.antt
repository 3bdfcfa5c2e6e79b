-- Bytes that no store touches, and lists whose stores are durable at their end: the device's contract for the crates above.
-- Assumes nothing.
use Prim.Native.Nat.{ℕ, zero, suc, ◌+◌, ◌≤◌, ◌<◌}
use mathlib.Core.Path.{◌≡◌, refl, sym, ap, ◌∙◌}
use mathlib.Core.Bool.{Bool, true, false, ◌||◌}
use mathlib.Core.List.{List, [], ◌∷◌, ◌++◌, append-nil}
use mathlib.Core.Logic.{◌⊎◌, inl, inr}
use native.Mathlib.Omega.{arith}
use lib.ListN.{length, get_or, take, drop, length-take, length-drop}
use lib.Seq.{sets, length-sets, take-append-le, take-append-add, take-nil, ext_get_or}
use lib.Dec.{ltb, leb}
use borrow.Author.Tests.{leb-true, leb-false, ltb-true, ltb-false, le-leb, lt-leb, le-ltb}
use Rattle.codec.specs.Lists.{pick, All}
use Rattle.codec.proofs.Tests.{first, second, All-map}
use Rattle.codec.proofs.Lists.{sets-apart, sets-both}
use Rattle.codec.proofs.Agree.{or_left, or_right}
use Rattle.device.specs.Tape.{Op, store, flush, barrier, malformed}
use Rattle.device.specs.Cut.{apply, after, line_of, durable, less, cons_if, kept, cut_image, hits, touches, Closed, IfStore, Sealed}
use Rattle.device.proofs.Cuts.{length-after, kept-durable}
use Rattle.device.proofs.Durable.{durable-long, durable-first, durable-second}

-- ---- bytes that no store touches

pub in-hits : (p : ℕ) (vs : List ℕ) (i : ℕ) → hits (store p vs) i ≡ true → (p ≤ i) × (i < p + length vs)
in-hits p vs i e = (leb-true p i (first (leb p i) (ltb i (p + length vs)) e), ltb-true i (p + length vs) (second (leb p i) (ltb i (p + length vs)) e))

pub hits-out : (p : ℕ) (vs : List ℕ) (i : ℕ) → hits (store p vs) i ≡ false → (i < p) ⊎ (p + length vs ≤ i)
hits-out p vs i e = go (leb p i) refl
  where
    go : (b : Bool) → leb p i ≡ b → (i < p) ⊎ (p + length vs ≤ i)
    go false q = inl (leb-false p i q)
    go true q = inr (ltb-false i (p + length vs) (rw q at e))

-- a byte outside a store's bytes is not hit by it
pub out-hits : (p : ℕ) (vs : List ℕ) (i : ℕ) → (i < p) ⊎ (p + length vs ≤ i) → hits (store p vs) i ≡ false
out-hits p vs i (inl h) = rw (lt-leb p i h)
out-hits p vs i (inr h) = let a : p ≤ i = omega arith in rw (le-leb p i a, le-ltb i (p + length vs) h)

pub touches-append : (a b : List Op) (i : ℕ) → touches (a ++ b) i ≡ (touches a i || touches b i)
unfolding touches
touches-append [] b i = refl
touches-append (o ∷ a) b i = go (hits o i) (touches-append a b i)
  where
    go : (t : Bool) → touches (a ++ b) i ≡ (touches a i || touches b i) → (t || touches (a ++ b) i) ≡ ((t || touches a i) || touches b i)
    go true q = refl
    go false q = q

length-apply : (image : List ℕ) (o : Op) → length (apply image o) ≡ length image
length-apply image (store p vs) = length-sets image p vs
length-apply image (flush l) = refl
length-apply image barrier = refl
length-apply image malformed = refl

apply-other : (image : List ℕ) (o : Op) (i : ℕ) → hits o i ≡ false → get_or (apply image o) i 0 ≡ get_or image i 0
apply-other image (store p vs) i e = sets-apart image p vs i (hits-out p vs i e)
apply-other image (flush l) i e = refl
apply-other image barrier i e = refl
apply-other image malformed i e = refl

-- an untouched byte stays
pub run-other : (image : List ℕ) (cs : List Op) (i : ℕ) → touches cs i ≡ false → get_or (after image cs) i 0 ≡ get_or image i 0
unfolding after touches
run-other image [] i e = refl
run-other image (o ∷ cs) i e = run-other (apply image o) cs i (or_right (hits o i) (touches cs i) e) ∙ apply-other image o i (or_left (hits o i) (touches cs i) e)

-- equally long images that agree at a byte, unless it is stored, agree there afterwards
apply-both : (a b : List ℕ) (o : Op) (i : ℕ) → length a ≡ length b → (hits o i ≡ false → get_or a i 0 ≡ get_or b i 0) → get_or (apply a o) i 0 ≡ get_or (apply b o) i 0
apply-both a b (store p vs) i e h = go (hits (store p vs) i) refl
  where
    go : (t : Bool) → hits (store p vs) i ≡ t → get_or (sets a p vs) i 0 ≡ get_or (sets b p vs) i 0
    go true q = let r = in-hits p vs i q in sets-both a b p vs i e r.0 r.1
    go false q = apply-other a (store p vs) i q ∙ h q ∙ sym (apply-other b (store p vs) i q)
apply-both a b (flush l) i e h = h refl
apply-both a b barrier i e h = h refl
apply-both a b malformed i e h = h refl

run-both : (a b : List ℕ) (cs : List Op) (i : ℕ) → length a ≡ length b → (touches cs i ≡ false → get_or a i 0 ≡ get_or b i 0) → get_or (after a cs) i 0 ≡ get_or (after b cs) i 0
unfolding after touches
run-both a b [] i e h = h refl
run-both a b (o ∷ cs) i e h =
    run-both (apply a o) (apply b o) cs i (length-apply a o ∙ e ∙ sym (length-apply b o)) (λ q. apply-both a b o i e (λ r. h (rw (r, q))))

-- equally long images that agree on the untouched bytes are equal afterwards
pub run-over : (a b : List ℕ) (cs : List Op) → length a ≡ length b → ((i : ℕ) → touches cs i ≡ false → get_or a i 0 ≡ get_or b i 0) → after a cs ≡ after b cs
run-over a b cs e h = ext_get_or 0 (after a cs) (after b cs) (length-after a cs ∙ e ∙ sym (length-after b cs)) (λ i k. run-both a b cs i e (h i))

-- ---- untouched bytes and a cut

touches-if : (t : Bool) (o : Op) (cs : List Op) (i : ℕ) → hits o i ≡ false → touches cs i ≡ false → touches (cons_if t o cs) i ≡ false
unfolding touches
touches-if true o cs i e h = rw (e, h)
touches-if false o cs i e h = h

touches-kept : (f : ℕ → ℕ) (cs : List Op) (i : ℕ) → touches cs i ≡ false → touches (kept f cs) i ≡ false
unfolding kept touches
touches-kept f [] i e = refl
touches-kept f (store p vs ∷ cs) i e =
    let g = pick (durable (line_of p) cs) f (less f (line_of p)) in
    touches-if (durable (line_of p) cs || ltb 0 (f (line_of p))) (store p vs) (kept g cs) i
    (or_left (hits (store p vs) i) (touches cs i) e)
    (touches-kept g cs i (or_right (hits (store p vs) i) (touches cs i) e))
touches-kept f (flush l ∷ cs) i e = touches-kept f cs i e
touches-kept f (barrier ∷ cs) i e = touches-kept f cs i e
touches-kept f (malformed ∷ cs) i e = touches-kept f cs i e

touches-take : (c : ℕ) (cs : List Op) (i : ℕ) → touches cs i ≡ false → touches (take c cs) i ≡ false
unfolding touches
touches-take zero cs i e = refl
touches-take (suc c) [] i e = refl
touches-take (suc c) (o ∷ cs) i e = rw (or_left (hits o i) (touches cs i) e, touches-take c cs i (or_right (hits o i) (touches cs i) e))

-- an untouched byte survives every cut
pub cut-untouched : (image : List ℕ) (f : ℕ → ℕ) (c : ℕ) (cs : List Op) (i : ℕ) → touches cs i ≡ false → get_or (cut_image image f c cs) i 0 ≡ get_or image i 0
unfolding cut_image
cut-untouched image f c cs i e = run-other image (kept f (take c cs)) i (touches-kept f (take c cs) i (touches-take c cs i e))

-- ---- lists whose stores are durable at their end

-- what makes a store durable comes after it, a flush and a barrier: if, of the first c commands, those past the first m do, then they are two at
-- least
pub durable-two : (l m c : ℕ) (cs : List Op) → durable l (drop m (take c cs)) ≡ true → m + 2 ≤ c
durable-two l m c cs e = omega (arith, durable-long l (drop m (take c cs)) e, length-drop m (take c cs), length-take c cs)

pub durable-late : (l m c : ℕ) (cs : List Op) → durable l (drop m (take c cs)) ≡ true → m < c
durable-late l m c cs e = omega (arith, durable-two l m c cs e)

pub closed-append : (a b : List Op) → Closed a → Closed b → Closed (a ++ b)
unfolding Closed
closed-append [] b c d = d
closed-append (store p vs ∷ a) b c d = (durable-first (line_of p) a b c.0, closed-append a b c.1 d)
closed-append (flush l ∷ a) b c d = closed-append a b c d
closed-append (barrier ∷ a) b c d = closed-append a b c d
closed-append (malformed ∷ a) b c d = closed-append a b c d

-- what is so of every stored line, wherever something else is
pub if-store : (t u : ℕ → Bool) → ((l : ℕ) → t l ≡ true → u l ≡ true) → (cs : List Op) → All (IfStore t) cs → All (IfStore u) cs
if-store t u h cs = All-map (IfStore t) (IfStore u) go cs
  where
    go : (o : Op) → IfStore t o → IfStore u o
    go (store p vs) e = h (line_of p) e
    go (flush l) e = tt
    go barrier e = tt
    go malformed e = tt

-- stores, and then a list that makes them durable
pub sealed-closed : (a b : List Op) → Sealed a b → Closed b → Closed (a ++ b)
unfolding Closed
sealed-closed [] b s c = c
sealed-closed (store p vs ∷ a) b s c = (durable-second (line_of p) a b s.0, sealed-closed a b s.1 c)
sealed-closed (flush l ∷ a) b s c = sealed-closed a b s.1 c
sealed-closed (barrier ∷ a) b s c = sealed-closed a b s.1 c
sealed-closed (malformed ∷ a) b s c = sealed-closed a b s.1 c

-- more commands before it do no harm
pub sealed-more : (a b d : List Op) → Sealed a d → Sealed a (b ++ d)
sealed-more a b d s = if-store (λ l. durable l d) (λ l. durable l (b ++ d)) (λ l. durable-second l b d) a s

-- stores that are durable are all kept, and what follows is kept as if it stood alone
kept-closed : (image : List ℕ) (f : ℕ → ℕ) (a b : List Op) → Closed a → after image (kept f (a ++ b)) ≡ after (after image a) (kept f b)
unfolding after kept Closed
kept-closed image f [] b c = refl
kept-closed image f (store p vs ∷ a) b c = ap (after image) (kept-durable f p vs (a ++ b) (durable-first (line_of p) a b c.0)) ∙ kept-closed (sets image p vs) f a b c.1
kept-closed image f (flush l ∷ a) b c = kept-closed image f a b c
kept-closed image f (barrier ∷ a) b c = kept-closed image f a b c
kept-closed image f (malformed ∷ a) b c = kept-closed image f a b c

-- a cut in the first part is a cut of it
pub cut-early : (image : List ℕ) (f : ℕ → ℕ) (c : ℕ) (a b : List Op) → c ≤ length a → cut_image image f c (a ++ b) ≡ cut_image image f c a
unfolding cut_image
cut-early image f c a b h = ap (λ (cs : List Op). after image (kept f cs)) (take-append-le c a b h)

-- a cut past a closed part is a cut of the rest over the image after it
pub cut-late : (image : List ℕ) (f : ℕ → ℕ) (d : ℕ) (a b : List Op) → Closed a → cut_image image f (length a + d) (a ++ b) ≡ cut_image (after image a) f d b
unfolding cut_image
cut-late image f d a b c = ap (λ (cs : List Op). after image (kept f cs)) (take-append-add a b d) ∙ kept-closed image f a (take d b) c

-- a cut where every store so far is durable leaves the image after the commands so far
pub cut-closed : (image : List ℕ) (f : ℕ → ℕ) (c : ℕ) (a : List Op) → Closed (take c a) → cut_image image f c a ≡ after image (take c a)
unfolding cut_image after kept
cut-closed image f c a k = ap (λ (cs : List Op). after image (kept f cs)) (sym (append-nil (take c a))) ∙ kept-closed image f (take c a) [] k

-- no command is done, or there is none
pub cut-zero : (image : List ℕ) (f : ℕ → ℕ) (a : List Op) → cut_image image f 0 a ≡ image
unfolding cut_image after kept
cut-zero image f a = refl

pub cut-nil : (image : List ℕ) (f : ℕ → ℕ) (c : ℕ) → cut_image image f c [] ≡ image
unfolding cut_image after kept
cut-nil image f c = ap (λ (cs : List Op). after image (kept f cs)) (take-nil {A = Op} c)
