-- The clauses of the device's definitions, for crates above, which do not unfold them.
-- Assumes nothing.
use Prim.Native.Nat.{ℕ, suc}
use mathlib.Core.Path.{◌≡◌, refl}
use mathlib.Core.Bool.{true, false, ◌&&◌, ◌||◌}
use mathlib.Core.List.{List, [], ◌∷◌}
use lib.Seq.{sets}
use lib.Dec.{eqb}
use borrow.Author.Tests.{eq-eqb}
use Rattle.device.specs.Tape.{Op, store, flush, barrier, well_formed, is_barrier, how_many, flush_count, barrier_count}
use Rattle.device.specs.Cut.{after, line_of, flushes_line, some, durable, hits, touches, stores, Closed}

pub after-nil : (image : List ℕ) → after image [] ≡ image
unfolding after
after-nil image = refl

pub well_formed-nil : well_formed [] ≡ true
unfolding well_formed
well_formed-nil = refl

pub flush_count-nil : flush_count [] ≡ 0
unfolding how_many
flush_count-nil = refl

pub durable-nil : (l : ℕ) → durable l [] ≡ false
unfolding durable
durable-nil l = refl

pub touches-nil : (i : ℕ) → touches [] i ≡ false
unfolding touches
touches-nil i = refl

pub stores-nil : stores [] ≡ []
unfolding stores
stores-nil = refl

pub closed-nil : Closed []
unfolding Closed
closed-nil = tt

module _ (p : ℕ) (vs : List ℕ) (cs : List Op) where
  pub after_store : (image : List ℕ) → after image (store p vs ∷ cs) ≡ after (sets image p vs) cs
  unfolding after
  after_store image = refl

  pub well_formed-store : well_formed (store p vs ∷ cs) ≡ well_formed cs
  unfolding well_formed
  well_formed-store = refl

  pub flush_count-store : flush_count (store p vs ∷ cs) ≡ flush_count cs
  unfolding how_many
  flush_count-store = refl

  pub durable-store : (l : ℕ) → durable l (store p vs ∷ cs) ≡ durable l cs
  unfolding durable
  durable-store l = refl

  pub touches-store : (i : ℕ) → touches (store p vs ∷ cs) i ≡ (hits (store p vs) i || touches cs i)
  unfolding touches
  touches-store i = refl

  pub stores-store : stores (store p vs ∷ cs) ≡ store p vs ∷ stores cs
  unfolding stores
  stores-store = refl

  pub closed-store : durable (line_of p) cs ≡ true → Closed cs → Closed (store p vs ∷ cs)
  unfolding Closed
  closed-store e c = (e, c)

module _ (m : ℕ) (cs : List Op) where
  pub after-flush : (image : List ℕ) → after image (flush m ∷ cs) ≡ after image cs
  unfolding after
  after-flush image = refl

  pub well_formed-flush : well_formed (flush m ∷ cs) ≡ well_formed cs
  unfolding well_formed
  well_formed-flush = refl

  pub flush_count-flush : flush_count (flush m ∷ cs) ≡ suc (flush_count cs)
  unfolding how_many
  flush_count-flush = refl

  pub durable-flush : (l : ℕ) → durable l (flush m ∷ cs) ≡ ((eqb m l && some is_barrier cs) || durable l cs)
  unfolding durable
  durable-flush l = refl

  -- "a barrier waits for it"
  pub durable-here : durable m (flush m ∷ barrier ∷ cs) ≡ true
  unfolding durable some
  durable-here = rw (eq-eqb m m refl)

  pub flushed-here : some (flushes_line m) (flush m ∷ cs) ≡ true
  unfolding some
  flushed-here = rw (eq-eqb m m refl)

  pub touches-flush : (i : ℕ) → touches (flush m ∷ cs) i ≡ touches cs i
  unfolding touches
  touches-flush i = refl

  pub stores-flush : stores (flush m ∷ cs) ≡ stores cs
  unfolding stores
  stores-flush = refl

  pub closed-flush : Closed cs → Closed (flush m ∷ cs)
  unfolding Closed
  closed-flush c = c

module _ (cs : List Op) where
  pub after-barrier : (image : List ℕ) → after image (barrier ∷ cs) ≡ after image cs
  unfolding after
  after-barrier image = refl

  pub well_formed-barrier : well_formed (barrier ∷ cs) ≡ well_formed cs
  unfolding well_formed
  well_formed-barrier = refl

  -- a barrier is no flush
  pub flush_count-barrier : flush_count (barrier ∷ cs) ≡ flush_count cs
  unfolding how_many
  flush_count-barrier = refl

  pub barrier_count-barrier : barrier_count (barrier ∷ cs) ≡ suc (barrier_count cs)
  unfolding how_many
  barrier_count-barrier = refl

  pub durable-past : (l : ℕ) → durable l (barrier ∷ cs) ≡ durable l cs
  unfolding durable
  durable-past l = refl

  pub touches-barrier : (i : ℕ) → touches (barrier ∷ cs) i ≡ touches cs i
  unfolding touches
  touches-barrier i = refl

  pub stores-barrier : stores (barrier ∷ cs) ≡ stores cs
  unfolding stores
  stores-barrier = refl

  pub closed-barrier : Closed cs → Closed (barrier ∷ cs)
  unfolding Closed
  closed-barrier c = c
