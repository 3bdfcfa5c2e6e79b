-- Commands by their stores: wherever flushes stand, the bytes stored are those of the stores, and of stores to one line a cut keeps a
-- first part. The device's contract for the crates above.
-- Assumes nothing.
use Prim.Native.Nat.{ℕ, zero, suc, ◌+◌, ◌≤◌}
use mathlib.Core.Path.{◌≡◌, refl, sym, ap, ◌∙◌, subst}
use mathlib.Core.Logic.{◌⊎◌, inl, inr}
use mathlib.Core.Bool.{Bool, true, false, ◌||◌}
use mathlib.Core.List.{List, [], ◌∷◌, ◌++◌}
use native.Mathlib.Omega.{arith}
use native.Mathlib.Decide.{dec_le}
use lib.ListN.{length, take, length-take}
use lib.Seq.{sets, take-nil, take-take, take_all}
use lib.Dec.{ltb}
use Rattle.codec.specs.Lists.{pick, All}
use Rattle.device.specs.Tape.{Op, store, flush, barrier, malformed}
use Rattle.device.specs.Cut.{after, line_of, durable, less, cons_if, kept, cut_image, hits, touches, Closed, stores, settled, To}
use Rattle.device.proofs.Clauses.{after-nil, after_store, closed-store, stores-store}
use Rattle.device.proofs.Cuts.{after-stores}
use Rattle.device.proofs.Lines.{keep-line, to-line}
use Rattle.device.proofs.Segments.{cut-closed}

-- ---- the stores of a list

pub stores-append : (a b : List Op) → stores (a ++ b) ≡ stores a ++ stores b
unfolding stores
stores-append [] b = refl
stores-append (store p vs ∷ a) b = ap (λ (r : List Op). store p vs ∷ r) (stores-append a b)
stores-append (flush l ∷ a) b = stores-append a b
stores-append (barrier ∷ a) b = stores-append a b
stores-append (malformed ∷ a) b = stores-append a b

-- a byte that the list stores is one that its stores store
pub touches-stores : (cs : List Op) (i : ℕ) → touches (stores cs) i ≡ touches cs i
unfolding touches stores
touches-stores [] i = refl
touches-stores (store p vs ∷ cs) i = ap (λ (t : Bool). hits (store p vs) i || t) (touches-stores cs i)
touches-stores (flush l ∷ cs) i = touches-stores cs i
touches-stores (barrier ∷ cs) i = touches-stores cs i
touches-stores (malformed ∷ cs) i = touches-stores cs i

-- the first n commands have a first part of the stores
stores-take : (n : ℕ) (cs : List Op) → (m : ℕ) × (stores (take n cs) ≡ take m (stores cs))
unfolding stores
stores-take zero cs = (0, refl)
stores-take (suc n) [] = (0, refl)
stores-take (suc n) (store p vs ∷ cs) = let h = stores-take n cs in (suc h.0, ap (λ (r : List Op). store p vs ∷ r) h.1)
stores-take (suc n) (flush l ∷ cs) = stores-take n cs
stores-take (suc n) (barrier ∷ cs) = stores-take n cs
stores-take (suc n) (malformed ∷ cs) = stores-take n cs

-- ---- lists without a store

pub storeless-closed : (cs : List Op) → stores cs ≡ [] → Closed cs
unfolding Closed stores
storeless-closed [] e = tt
storeless-closed (store p vs ∷ cs) e = let z : ◌≡◌ {A = ℕ} (suc (length (stores cs))) 0 = ap length e in absurd (omega arith)
storeless-closed (flush l ∷ cs) e = storeless-closed cs e
storeless-closed (barrier ∷ cs) e = storeless-closed cs e
storeless-closed (malformed ∷ cs) e = storeless-closed cs e

storeless-after : (image : List ℕ) (cs : List Op) → stores cs ≡ [] → after image cs ≡ image
storeless-after image cs e = sym (after-stores image cs) ∙ ap (after image) e ∙ after-nil image

storeless-take : (n : ℕ) (cs : List Op) → stores cs ≡ [] → stores (take n cs) ≡ []
storeless-take n cs e = let h = stores-take n cs in h.1 ∙ ap (take h.0) e ∙ take-nil {A = Op} h.0

-- ---- stores to one line, cut anywhere

pub to-stores : (l : ℕ) (xs : List Op) → All (To l) xs → stores xs ≡ xs
unfolding stores
to-stores l [] h = refl
to-stores l (store p vs ∷ xs) h = ap (λ (r : List Op). store p vs ∷ r) (to-stores l xs h.1)
to-stores l (flush m ∷ xs) h = absurd h.0
to-stores l (barrier ∷ xs) h = absurd h.0
to-stores l (malformed ∷ xs) h = absurd h.0

to_take : (l m : ℕ) (xs : List Op) → All (To l) xs → All (To l) (take m xs)
to_take l zero xs h = tt
to_take l (suc m) [] h = tt
to_take l (suc m) (o ∷ xs) h = (h.0, to_take l m xs h.1)

to-if : (l : ℕ) (t : Bool) (o : Op) (cs : List Op) → To l o → All (To l) cs → All (To l) (cons_if t o cs)
to-if l true o cs h k = (h, k)
to-if l false o cs h k = k

to-kept : (l : ℕ) (f : ℕ → ℕ) (cs : List Op) → All (To l) (stores cs) → All (To l) (kept f cs)
unfolding kept stores
to-kept l f [] h = tt
to-kept l f (store p vs ∷ cs) h =
    let g = pick (durable (line_of p) cs) f (less f (line_of p)) in
    to-if l (durable (line_of p) cs || ltb 0 (f (line_of p))) (store p vs) (kept g cs) h.0 (to-kept l g cs h.1)
to-kept l f (flush m ∷ cs) h = to-kept l f cs h
to-kept l f (barrier ∷ cs) h = to-kept l f cs h
to-kept l f (malformed ∷ cs) h = to-kept l f cs h

take_twice : (m n : ℕ) (xs : List Op) → (k : ℕ) × (take m (take n xs) ≡ take k xs)
take_twice m n xs = go (dec_le m n)
  where
    go : Dec (m ≤ n) → (k : ℕ) × (take m (take n xs) ≡ take k xs)
    go (yes q) = (m, take-take m n xs q)
    go (no q) = (n, take_all m (take n xs) (omega (arith, length-take n xs)))

-- "some first part of its pending stores": those that are durable, and as many more as the choice says
pub kept-first : (l : ℕ) (f : ℕ → ℕ) (cs : List Op) → All (To l) (stores cs) → kept f cs ≡ take (settled l cs + f l) (stores cs)
kept-first l f cs h = sym (to-line l (kept f cs) (to-kept l f cs h)) ∙ keep-line l f cs ∙ ap (take (settled l cs + f l)) (to-line l (stores cs) h)

-- so a cut anywhere keeps a first part of them
pub cut-first : (image : List ℕ) (f : ℕ → ℕ) (c l : ℕ) (cs : List Op) → All (To l) (stores cs) → (m : ℕ) × (cut_image image f c cs ≡ after image (take m (stores cs)))
unfolding cut_image
cut-first image f c l cs h =
    let t = stores-take c cs in
    let n = settled l (take c cs) + f l in
    let q = take_twice n t.0 (stores cs) in
    (q.0, ap (after image) (kept-first l f (take c cs) (subst (All (To l)) (sym t.1) (to_take l t.0 (stores cs) h)) ∙ ap (take n) t.1 ∙ q.1))

-- ---- one store, and no other

module _ (image : List ℕ) (p : ℕ) (vs : List ℕ) (cs : List Op) (none : stores cs ≡ []) where
  pub one-after : after image (store p vs ∷ cs) ≡ sets image p vs
  one-after = after_store p vs cs image ∙ storeless-after (sets image p vs) cs none

  module _ (f : ℕ → ℕ) where
    -- it is kept whole or not at all
    pub one-cut : (c : ℕ) → (cut_image image f c (store p vs ∷ cs) ≡ image) ⊎ (cut_image image f c (store p vs ∷ cs) ≡ sets image p vs)
    one-cut c =
        let one : stores (store p vs ∷ cs) ≡ store p vs ∷ [] = stores-store p vs cs ∙ ap (λ (r : List Op). store p vs ∷ r) none in
        let m = cut-first image f c (line_of p) (store p vs ∷ cs) (subst (All (To (line_of p))) (sym one) (refl, tt)) in
        go m.0 (m.1 ∙ ap (λ (r : List Op). after image (take m.0 r)) one)
      where
        go : (m : ℕ) → cut_image image f c (store p vs ∷ cs) ≡ after image (take m (store p vs ∷ [])) →
            (cut_image image f c (store p vs ∷ cs) ≡ image) ⊎ (cut_image image f c (store p vs ∷ cs) ≡ sets image p vs)
        go zero e = inl (e ∙ after-nil image)
        go (suc m) e = inr (e ∙ ap (λ (r : List Op). after image (store p vs ∷ r)) (take-nil {A = Op} m) ∙ after_store p vs [] image ∙ after-nil (sets image p vs))

    -- once it is durable, it is kept
    pub one-durable : (d : ℕ) → durable (line_of p) (take d cs) ≡ true → cut_image image f (suc d) (store p vs ∷ cs) ≡ sets image p vs
    one-durable d e =
        let none_yet = storeless-take d cs none in
        cut-closed image f (suc d) (store p vs ∷ cs) (closed-store p vs (take d cs) e (storeless-closed (take d cs) none_yet))
        ∙ after_store p vs (take d cs) image
        ∙ storeless-after (sets image p vs) (take d cs) none_yet
