-- What a cut keeps: the device's contract for the crates above.
-- Assumes nothing.
use Prim.Native.Nat.{ℕ, suc, ◌+◌, ◌<◌}
use mathlib.Core.Path.{◌≡◌, refl, sym, ◌∙◌}
use mathlib.Core.Bool.{Bool, true, false, ◌&&◌}
use mathlib.Core.List.{List, [], ◌∷◌, ◌++◌}
use native.Mathlib.Omega.{arith}
use native.Mathlib.Nat.{zero-add}
use lib.ListN.{length, take}
use lib.Seq.{sets, length-sets}
use borrow.Author.Tests.{lt-ltb}
use Rattle.codec.specs.Lists.{pick}
use Rattle.device.specs.Tape.{Op, store, flush, barrier, malformed, well_formed, is_flush, is_barrier, how_many, flush_count, barrier_count}
use Rattle.device.specs.Cut.{apply, after, line_of, durable, less, kept, cut_image, stores}

-- ---- lengths, and one list after another

-- stores keep the length of the image
pub length-after : (image : List ℕ) (cs : List Op) → length (after image cs) ≡ length image
unfolding after
length-after image [] = refl
length-after image (store p vs ∷ cs) = length-after (sets image p vs) cs ∙ length-sets image p vs
length-after image (flush l ∷ cs) = length-after image cs
length-after image (barrier ∷ cs) = length-after image cs
length-after image (malformed ∷ cs) = length-after image cs

-- so does a cut
pub length_cut : (image : List ℕ) (f : ℕ → ℕ) (c : ℕ) (cs : List Op) → length (cut_image image f c cs) ≡ length image
unfolding cut_image
length_cut image f c cs = length-after image (kept f (take c cs))

-- the image after two lists is that after the second, over that after the first
pub after-append : (image : List ℕ) (a b : List Op) → after image (a ++ b) ≡ after (after image a) b
unfolding after
after-append image [] b = refl
after-append image (o ∷ a) b = after-append (apply image o) a b

-- the image does not depend on flushes
pub after-stores : (image : List ℕ) (cs : List Op) → after image (stores cs) ≡ after image cs
unfolding after stores
after-stores image [] = refl
after-stores image (store p vs ∷ cs) = after-stores (sets image p vs) cs
after-stores image (flush l ∷ cs) = after-stores image cs
after-stores image (barrier ∷ cs) = after-stores image cs
after-stores image (malformed ∷ cs) = after-stores image cs

pub well_formed-append : (a b : List Op) → well_formed (a ++ b) ≡ (well_formed a && well_formed b)
unfolding well_formed
well_formed-append [] b = refl
well_formed-append (store p vs ∷ a) b = well_formed-append a b
well_formed-append (flush l ∷ a) b = well_formed-append a b
well_formed-append (barrier ∷ a) b = well_formed-append a b
well_formed-append (malformed ∷ a) b = refl

pub how_many-append : (test : Op → Bool) (a b : List Op) → how_many test (a ++ b) ≡ how_many test a + how_many test b
unfolding how_many
how_many-append test [] b = sym (zero-add (how_many test b))
how_many-append test (o ∷ a) b = go (test o) (how_many-append test a b)
  where
    go : (t : Bool) → how_many test (a ++ b) ≡ how_many test a + how_many test b →
        pick t (suc (how_many test (a ++ b))) (how_many test (a ++ b)) ≡ pick t (suc (how_many test a)) (how_many test a) + how_many test b
    go true q = omega (arith, q)
    go false q = q

pub flush_count-append : (a b : List Op) → flush_count (a ++ b) ≡ flush_count a + flush_count b
flush_count-append a b = how_many-append is_flush a b

pub barrier_count-append : (a b : List Op) → barrier_count (a ++ b) ≡ barrier_count a + barrier_count b
barrier_count-append a b = how_many-append is_barrier a b

-- ---- one store

-- a durable store is kept, and no choice is used up
pub kept-durable : (f : ℕ → ℕ) (p : ℕ) (vs : List ℕ) (cs : List Op) → durable (line_of p) cs ≡ true → kept f (store p vs ∷ cs) ≡ store p vs ∷ kept f cs
unfolding kept
kept-durable f p vs cs h = rw h

-- a pending store is kept where its line's choice is not used up
pub kept-pending : (f : ℕ → ℕ) (p : ℕ) (vs : List ℕ) (cs : List Op) → durable (line_of p) cs ≡ false → 0 < f (line_of p) →
    kept f (store p vs ∷ cs) ≡ store p vs ∷ kept (less f (line_of p)) cs
unfolding kept
kept-pending f p vs cs h k = rw (h, lt-ltb 0 (f (line_of p)) k)
