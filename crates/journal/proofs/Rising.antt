-- The order of stage A and of the changed pages: stage A's stores rise, and its flushes, and the changed pages.
-- Assumes nothing.
use Prim.Native.Nat.{ℕ, suc, ◌-◌, ◌*◌, ◌/◌, ◌≤◌, ◌<◌}
use mathlib.Core.Path.{◌≡◌, refl, sym, ap, ◌∙◌, subst}
use mathlib.Core.Bool.{Bool, true, false}
use mathlib.Core.List.{List, [], ◌∷◌, ◌++◌}
use native.Mathlib.Decide.{dec_lt}
use native.Mathlib.Omega.{arith}
use lib.ListN.{length}
use lib.Dec.{eqb}
use borrow.Author.Tests.{eqb-true, eqb-false}
use Rattle.codec.specs.Lists.{pick, All}
use Rattle.device.specs.Tape.{Op, store, flush, barrier, malformed}
use Rattle.device.specs.Cut.{Quiet, with_barrier}
use Rattle.device.proofs.Writing.{flushing-quiet}
use Rattle.page.specs.Layout.{line_size}
use Rattle.image.specs.PageZero.{page_count, root_of}
use Rattle.image.specs.Image.{reached}
use Rattle.journal.specs.Changes.{word_size, word_stores, flushes_from, flushes_of, stage_a, changed_pages}
use Rattle.journal.specs.Order.{RisesFrom, Rises, store_places, flush_lines}
use Rattle.journal.proofs.Ways.{rises-lower}
use Rattle.journal.proofs.StageA.{flushing-of, walk, walk-all}
use Rattle.journal.proofs.Changed.{from_all}

-- ---- the changed pages: "by rising page"

pub from_one : (a w : List ℕ) → RisesFrom 1 (changed_pages a w)
unfolding changed_pages
from_one a w =
    from_all (reached a (root_of a)) (reached w (root_of w)) a w (λ n p qs. RisesFrom p qs) (λ p. tt) (λ n p qs q h. rises-lower p (suc p) qs (omega arith) h)
    (λ n p qs e h. (omega arith, h)) (page_count a - 1) 1

pub changed-rising : (a w : List ℕ) → Rises (changed_pages a w)
changed-rising a w = rises-lower 0 1 (changed_pages a w) (omega arith) (from_one a w)

-- ---- stage A: "in rising order; then a flush of each line so stored, rising"

pub walk-rises : (rs a w : List ℕ) (n k : ℕ) → RisesFrom (word_size * k) (store_places (walk rs a w n k))
unfolding store_places
walk-rises rs a w =
    walk-all rs a w (λ n k cs. RisesFrom (word_size * k) (store_places cs)) (λ k. tt) (λ n k cs q h. rises-lower (word_size * k) (word_size * suc k) (store_places cs) (omega arith) h)
    (λ n k cs free differ h. (omega arith, rises-lower (suc (word_size * k)) (word_size * suc k) (store_places cs) (omega arith) h))

-- flushes and barriers store nothing
places-past : (cs ys : List Op) → All Quiet ys → store_places (cs ++ ys) ≡ store_places cs
unfolding store_places
places-past [] [] h = refl
places-past [] (store p vs ∷ ys) h = absurd h.0
places-past [] (flush l ∷ ys) h = places-past [] ys h.1
places-past [] (barrier ∷ ys) h = places-past [] ys h.1
places-past [] (malformed ∷ ys) h = absurd h.0
places-past (store p vs ∷ cs) ys h = ap (λ (ps : List ℕ). p ∷ ps) (places-past cs ys h)
places-past (flush l ∷ cs) ys h = places-past cs ys h
places-past (barrier ∷ cs) ys h = places-past cs ys h
places-past (malformed ∷ cs) ys h = places-past cs ys h

-- a barrier flushes nothing
group_lines : (ys : List Op) → flush_lines (with_barrier ys) ≡ flush_lines ys
unfolding flush_lines
group_lines [] = refl
group_lines (o ∷ ys) = go (o ∷ ys)
  where
    go : (zs : List Op) → flush_lines (zs ++ (barrier ∷ [])) ≡ flush_lines zs
    go [] = refl
    go (store p vs ∷ zs) = go zs
    go (flush l ∷ zs) = ap (λ (ls : List ℕ). l ∷ ls) (go zs)
    go (barrier ∷ zs) = go zs
    go (malformed ∷ zs) = go zs

-- line l, and the flushes of the stores that follow, none of them to a line below it
from-rises : (l low : ℕ) (cs : List Op) → l ≤ low / line_size → RisesFrom low (store_places cs) → RisesFrom l (flush_lines (flushes_from l cs))
unfolding flushes_from store_places flush_lines
from-rises l low [] h r = (omega arith, tt)
from-rises l low (flush m ∷ cs) h r = from-rises l low cs h r
from-rises l low (barrier ∷ cs) h r = from-rises l low cs h r
from-rises l low (malformed ∷ cs) h r = from-rises l low cs h r
from-rises l low (store p vs ∷ cs) h r = go (eqb l (p / line_size)) refl (from-rises (p / line_size) (suc p) cs (omega arith) r.1)
  where
    rest : List Op
    rest = flushes_from (p / line_size) cs

    go : (t : Bool) → eqb l (p / line_size) ≡ t → RisesFrom (p / line_size) (flush_lines rest) → RisesFrom l (flush_lines (pick t rest (flush l ∷ rest)))
    go true e k = rises-lower l (p / line_size) (flush_lines rest) (omega (arith, eqb-true l (p / line_size) e)) k
    go false e k = (omega arith, rises-lower (suc l) (p / line_size) (flush_lines rest) (above (dec_lt l (p / line_size))) k)
      where
        above : Dec (l < p / line_size) → l < p / line_size
        above (yes q) = q
        above (no q) = absurd (eqb-false l (p / line_size) e (omega (arith, r.0)))

of-rises : (low : ℕ) (cs : List Op) → RisesFrom low (store_places cs) → Rises (flush_lines (flushes_of cs))
unfolding flushes_of store_places flush_lines
of-rises low [] r = tt
of-rises low (flush m ∷ cs) r = of-rises low cs r
of-rises low (barrier ∷ cs) r = of-rises low cs r
of-rises low (malformed ∷ cs) r = of-rises low cs r
of-rises low (store p vs ∷ cs) r = rises-lower 0 (p / line_size) (flush_lines (flushes_from (p / line_size) cs)) (omega arith) (from-rises (p / line_size) (suc p) cs (omega arith) r.1)

module _ (a w : List ℕ) where
  abbrev stores : List Op
  stores = word_stores (reached a (root_of a)) (length a / word_size) 0 a w

  pub stage_a-stores-rising : Rises (store_places (stage_a a w))
  unfolding stage_a
  stage_a-stores-rising =
      subst Rises (sym (places-past stores (with_barrier (flushes_of stores)) (flushing-quiet stores (flushes_of stores) (flushing-of stores)))) (walk-rises (reached a (root_of a)) a w (length a / word_size) 0)

  -- its stores are no flushes
  stores-flush : (rest : List Op) → flush_lines (stores ++ rest) ≡ flush_lines rest
  unfolding flush_lines
  stores-flush rest =
      walk-all (reached a (root_of a)) a w (λ n k cs. flush_lines (cs ++ rest) ≡ flush_lines rest) (λ k. refl) (λ n k cs q h. h) (λ n k cs free differ h. h) (length a / word_size) 0

  pub stage_a-flushes-rising : Rises (flush_lines (stage_a a w))
  unfolding stage_a
  stage_a-flushes-rising = subst Rises (sym (stores-flush (with_barrier (flushes_of stores)) ∙ group_lines (flushes_of stores))) (of-rises 0 stores (walk-rises (reached a (root_of a)) a w (length a / word_size) 0))
