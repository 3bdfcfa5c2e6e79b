-- What a tape is made of: stores followed by the flushes of their lines and a barrier, and stores of what stands in an image.
-- Assumes nothing.
use Prim.Native.Nat.{ℕ, ◌+◌, ◌-◌, ◌≤◌, ◌<◌}
use mathlib.Core.Path.{◌≡◌, refl, sym, ap, ◌∙◌}
use mathlib.Core.Logic.{◌⊎◌}
use mathlib.Core.Bool.{Bool, true, false, or-true, false≢true}
use mathlib.Core.List.{List, [], ◌∷◌, ◌++◌, append-nil}
use native.Mathlib.Omega.{arith}
use native.Mathlib.Nat.{add-zero}
use lib.ListN.{length, get_or}
use lib.Seq.{sets, length-sets, ext_get_or}
use borrow.Author.Tests.{le-leb, lt-ltb}
use Rattle.codec.specs.Lists.{part, All}
use Rattle.codec.proofs.Tests.{both}
use Rattle.codec.proofs.Lists.{sets-apart, get_or-part}
use Rattle.codec.proofs.Agree.{or_left, or_right, neither, part-agree, part-sets}
use Rattle.device.specs.Tape.{Op, store, flush, barrier, malformed, how_many, flush_count, barrier_count}
use Rattle.device.specs.Cut.{after, line_of, flushes_line, some, durable, hits, touches, Closed, stores, To, IsFlush, Quiet, FlushedBy, Sealed, Flushing, with_barrier, Writes}
use Rattle.device.proofs.Clauses.{flushed-here}
use Rattle.device.proofs.Durable.{some-append, durable-barrier}
use Rattle.device.proofs.Cuts.{length-after, after-stores, flush_count-append, barrier_count-append}
use Rattle.device.proofs.Segments.{out-hits, touches-append, if-store, sealed-closed, in-hits, hits-out}
use Rattle.device.proofs.Stores.{stores-append, touches-stores, storeless-closed}

-- ---- which bytes a store writes

hits-in : (p : ℕ) (vs : List ℕ) (i : ℕ) → p ≤ i → i < p + length vs → hits (store p vs) i ≡ true
hits-in p vs i low high = both (le-leb p i low) (lt-ltb i (p + length vs) high)

module _ (p : ℕ) (vs : List ℕ) (cs : List Op) where
  pub touches-in : (i : ℕ) → p ≤ i → i < p + length vs → touches (store p vs ∷ cs) i ≡ true
  unfolding touches
  touches-in i low high = rw (hits-in p vs i low high)

  pub touches-out : (i : ℕ) → (i < p) ⊎ (p + length vs ≤ i) → touches cs i ≡ false → touches (store p vs ∷ cs) i ≡ false
  unfolding touches
  touches-out i h k = neither (out-hits p vs i h) k

  pub untouched-first : (i : ℕ) → touches (store p vs ∷ cs) i ≡ false → (i < p) ⊎ (p + length vs ≤ i)
  unfolding touches
  untouched-first i h = hits-out p vs i (or_left (hits (store p vs) i) (touches cs i) h)

  pub untouched-rest : (i : ℕ) → touches (store p vs ∷ cs) i ≡ false → touches cs i ≡ false
  unfolding touches
  untouched-rest i h = or_right (hits (store p vs) i) (touches cs i) h

pub touches-past : (o : Op) (cs : List Op) (i : ℕ) → touches cs i ≡ true → touches (o ∷ cs) i ≡ true
unfolding touches
touches-past o cs i h = rw h (or-true (hits o i))

-- a byte that two lists of commands do not touch
pub touches-both : (xs ys : List Op) (i : ℕ) → touches xs i ≡ false → touches ys i ≡ false → touches (xs ++ ys) i ≡ false
touches-both xs ys i h k = touches-append xs ys i ∙ neither h k

pub touches-left : (xs ys : List Op) (i : ℕ) → touches (xs ++ ys) i ≡ false → touches xs i ≡ false
touches-left xs ys i h = or_left (touches xs i) (touches ys i) (sym (touches-append xs ys i) ∙ h)

pub touches-right : (xs ys : List Op) (i : ℕ) → touches (xs ++ ys) i ≡ false → touches ys i ≡ false
touches-right xs ys i h = or_right (touches xs i) (touches ys i) (sym (touches-append xs ys i) ∙ h)

-- ---- flushes and their barrier

-- "one barrier": not one for each flush
pub group-one : (o : Op) (ys : List Op) → All IsFlush (o ∷ ys) → barrier_count (with_barrier (o ∷ ys)) ≡ 1
unfolding how_many
group-one o ys h = barrier_count-append (o ∷ ys) (barrier ∷ []) ∙ ap (λ (k : ℕ). k + 1) (none (o ∷ ys) h)
  where
    none : (zs : List Op) → All IsFlush zs → barrier_count zs ≡ 0
    none [] k = refl
    none (store p vs ∷ zs) k = absurd k.0
    none (flush l ∷ zs) k = none zs k.1
    none (barrier ∷ zs) k = absurd k.0
    none (malformed ∷ zs) k = absurd k.0

pub group-most : (ys : List Op) → All IsFlush ys → barrier_count (with_barrier ys) ≤ 1
unfolding how_many
group-most [] h = omega arith
group-most (o ∷ ys) h = omega (arith, group-one o ys h)

-- a barrier is no flush
pub group-flushes : (ys : List Op) → flush_count (with_barrier ys) ≡ flush_count ys
unfolding how_many
group-flushes [] = refl
group-flushes (o ∷ ys) = flush_count-append (o ∷ ys) (barrier ∷ []) ∙ add-zero (flush_count (o ∷ ys))

-- ---- stores, then the flushes of their lines and a barrier

pub flushing-none : Flushing [] []
flushing-none = record { flushes = tt; covers = tt }

-- one flush more
pub flushing-flush : (m : ℕ) (xs ys : List Op) → Flushing xs ys → Flushing xs (flush m ∷ ys)
flushing-flush m xs ys f =
    record { flushes = (tt, f.flushes); covers = if-store (λ l. some (flushes_line l) ys) (λ l. some (flushes_line l) (flush m ∷ ys)) more xs f.covers }
  where
    more : (l : ℕ) → some (flushes_line l) ys ≡ true → some (flushes_line l) (flush m ∷ ys) ≡ true
    more l e = some-append (flushes_line l) (flush m ∷ []) ys ∙ rw e (or-true (some (flushes_line l) (flush m ∷ [])))

-- one command more before them, that they flush
pub flushing-past : (o : Op) (xs ys : List Op) → FlushedBy ys o → Flushing xs ys → Flushing (o ∷ xs) ys
flushing-past o xs ys h f = record { flushes = f.flushes; covers = (h, f.covers) }

-- one store more, and its flush
pub flushing-next : (p : ℕ) (vs : List ℕ) (l : ℕ) (xs ys : List Op) → line_of p ≡ l → Flushing xs ys → Flushing (store p vs ∷ xs) (flush l ∷ ys)
flushing-next p vs l xs ys e f =
    flushing-past (store p vs) xs (flush l ∷ ys) (ap (λ (m : ℕ). some (flushes_line m) (flush l ∷ ys)) e ∙ flushed-here l ys) (flushing-flush l xs ys f)

quiet-storeless : (ys : List Op) → All Quiet ys → stores ys ≡ []
unfolding stores
quiet-storeless [] h = refl
quiet-storeless (store p vs ∷ ys) h = absurd h.0
quiet-storeless (flush l ∷ ys) h = quiet-storeless ys h.1
quiet-storeless (barrier ∷ ys) h = quiet-storeless ys h.1
quiet-storeless (malformed ∷ ys) h = absurd h.0

-- flushes and their barrier
pub group-quiet : (ys : List Op) → All IsFlush ys → All Quiet (with_barrier ys)
group-quiet [] h = tt
group-quiet (o ∷ ys) h = go (o ∷ ys) h
  where
    go : (zs : List Op) → All IsFlush zs → All Quiet (zs ++ (barrier ∷ []))
    go [] k = (tt, tt)
    go (store p vs ∷ zs) k = absurd k.0
    go (flush l ∷ zs) k = (tt, go zs k.1)
    go (barrier ∷ zs) k = absurd k.0
    go (malformed ∷ zs) k = absurd k.0

-- they make durable what the flushes flush
group-durable : (l : ℕ) (ys : List Op) → some (flushes_line l) ys ≡ true → durable l (with_barrier ys) ≡ true
unfolding some
group-durable l [] e = absurd (false≢true e)
group-durable l (o ∷ ys) e = durable-barrier l (o ∷ ys) ∙ e

group-sealed : (xs ys : List Op) → All (FlushedBy ys) xs → Sealed xs (with_barrier ys)
group-sealed xs ys h = if-store (λ l. some (flushes_line l) ys) (λ l. durable l (with_barrier ys)) (λ l. group-durable l ys) xs h

module _ (xs ys : List Op) (f : Flushing xs ys) where
  pub flushing-quiet : All Quiet (with_barrier ys)
  flushing-quiet = group-quiet ys f.flushes

  pub flushing-closed : Closed (xs ++ with_barrier ys)
  flushing-closed =
      sealed-closed xs (with_barrier ys) (group-sealed xs ys f.covers) (storeless-closed (with_barrier ys) (quiet-storeless (with_barrier ys) flushing-quiet))

  pub flushing-stores : stores (xs ++ with_barrier ys) ≡ stores xs
  flushing-stores = stores-append xs (with_barrier ys) ∙ ap (λ (r : List Op). stores xs ++ r) (quiet-storeless (with_barrier ys) flushing-quiet) ∙ append-nil (stores xs)

  pub flushing-touches : (i : ℕ) → touches (xs ++ with_barrier ys) i ≡ touches xs i
  flushing-touches i = sym (touches-stores (xs ++ with_barrier ys) i) ∙ ap (λ (cs : List Op). touches cs i) flushing-stores ∙ touches-stores xs i

  pub flushing-after : (image : List ℕ) → after image (xs ++ with_barrier ys) ≡ after image xs
  flushing-after image = sym (after-stores image (xs ++ with_barrier ys)) ∙ ap (after image) flushing-stores ∙ after-stores image xs

-- ---- stores of what stands in an image w

-- a byte stored from w is w's
stored_at : (w a : List ℕ) (p : ℕ) (vs : List ℕ) (i : ℕ) → length a ≡ length w → Writes w (store p vs) → p ≤ i → i < p + length vs → get_or (sets a p vs) i 0 ≡ get_or w i 0
stored_at w a p vs i l h low high =
    let j : p + (i - p) ≡ i = omega arith in
    let k : i - p < length vs = omega arith in
    ap (λ (m : ℕ). get_or (sets a p vs) m 0) (sym j)
    ∙ sym (get_or-part (sets a p vs) p (length vs) (i - p) k)
    ∙ ap (λ (b : List ℕ). get_or b (i - p) 0) (part-sets a p vs (length vs) refl (omega (arith, h.0)) ∙ sym h.1)
    ∙ get_or-part w p (length vs) (i - p) k
    ∙ ap (λ (m : ℕ). get_or w m 0) j

-- stores of what stands in w make a byte w's, or it was w's already
pub writes_at : (w a : List ℕ) (cs : List Op) (i : ℕ) → length a ≡ length w → All (Writes w) cs → (touches cs i ≡ false → get_or a i 0 ≡ get_or w i 0) → get_or (after a cs) i 0 ≡ get_or w i 0
unfolding after touches
writes_at w a [] i l h k = k refl
writes_at w a (flush m ∷ cs) i l h k = writes_at w a cs i l h.1 k
writes_at w a (barrier ∷ cs) i l h k = writes_at w a cs i l h.1 k
writes_at w a (malformed ∷ cs) i l h k = writes_at w a cs i l h.1 k
writes_at w a (store p vs ∷ cs) i l h k =
    writes_at w (sets a p vs) cs i (length-sets a p vs ∙ l) h.1 (λ e. go (hits (store p vs) i) refl e)
  where
    go : (t : Bool) → hits (store p vs) i ≡ t → touches cs i ≡ false → get_or (sets a p vs) i 0 ≡ get_or w i 0
    go true q e = let r = in-hits p vs i q in stored_at w a p vs i l h.0 r.0 r.1
    go false q e = sets-apart a p vs i (hits-out p vs i q) ∙ k (rw (q, e))

-- over an image that is w's wherever they do not touch they leave w
pub writes-after : (w a : List ℕ) (cs : List Op) → length a ≡ length w → All (Writes w) cs → ((i : ℕ) → touches cs i ≡ false → get_or a i 0 ≡ get_or w i 0) → after a cs ≡ w
writes-after w a cs l h k = ext_get_or 0 (after a cs) w (length-after a cs ∙ l) (λ i _. writes_at w a cs i l h (k i))

-- a store of what stands there leaves the image
pub sets-stands : (x : List ℕ) (p : ℕ) (vs : List ℕ) → p + length vs ≤ length x → part x p (length vs) ≡ vs → sets x p vs ≡ x
unfolding after
sets-stands x p vs fits e = writes-after x x (store p vs ∷ []) refl ((fits, e), tt) (λ i _. refl)

-- what stands in w stands in b, if b is w's where it is stored
pub writes-move : (w b : List ℕ) (cs : List Op) → length b ≡ length w → ((i : ℕ) → touches cs i ≡ true → get_or b i 0 ≡ get_or w i 0) → All (Writes w) cs → All (Writes b) cs
writes-move w b [] l h k = tt
writes-move w b (flush m ∷ cs) l h k = (tt, writes-move w b cs l (λ i t. h i (touches-past (flush m) cs i t)) k.1)
writes-move w b (barrier ∷ cs) l h k = (tt, writes-move w b cs l (λ i t. h i (touches-past barrier cs i t)) k.1)
writes-move w b (malformed ∷ cs) l h k = (tt, writes-move w b cs l (λ i t. h i (touches-past malformed cs i t)) k.1)
writes-move w b (store p vs ∷ cs) l h k = (
  (omega (arith, k.0.0), sym (part-agree b w p (length vs) l (λ i low high. h i (touches-in p vs cs i low high))) ∙ k.0.1),
  writes-move w b cs l (λ i t. h i (touches-past (store p vs) cs i t)) k.1,
)

pub quiet_write : (w : List ℕ) (ys : List Op) → All Quiet ys → All (Writes w) ys
quiet_write w [] h = tt
quiet_write w (store p vs ∷ ys) h = absurd h.0
quiet_write w (flush l ∷ ys) h = (tt, quiet_write w ys h.1)
quiet_write w (barrier ∷ ys) h = (tt, quiet_write w ys h.1)
quiet_write w (malformed ∷ ys) h = absurd h.0

-- ---- stores to one line, then its flush

pub to-flushing : (l : ℕ) (xs : List Op) → All (To l) xs → Flushing xs (flush l ∷ [])
to-flushing l xs h = record { flushes = (tt, tt); covers = covered xs h }
  where
    covered : (zs : List Op) → All (To l) zs → All (FlushedBy (flush l ∷ [])) zs
    covered [] k = tt
    covered (store p vs ∷ zs) k = (ap (λ (m : ℕ). some (flushes_line m) (flush l ∷ [])) k.0 ∙ flushed-here l [], covered zs k.1)
    covered (flush m ∷ zs) k = absurd k.0
    covered (barrier ∷ zs) k = absurd k.0
    covered (malformed ∷ zs) k = absurd k.0

-- ---- one flush and its barrier

pub own-storeless : (l : ℕ) → stores (with_barrier (flush l ∷ [])) ≡ []
own-storeless l = quiet-storeless (with_barrier (flush l ∷ [])) (tt, (tt, tt))

pub own-untouched : (l i : ℕ) → touches (with_barrier (flush l ∷ [])) i ≡ false
unfolding touches
own-untouched l i = refl
