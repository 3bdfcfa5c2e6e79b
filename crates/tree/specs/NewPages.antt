-- The new pages of a transaction (document 01, 'Edits').
-- Assumes nothing.
use Rattle.std.specs.Prelude.{ℕ, ◌≤◌, ◌<◌, ◌+◌, ◌-◌, ◌≡◌, true, false, List, ◌∷◌, ◌++◌}
use Rattle.image.specs.Image.{among, reached, count}
use Rattle.image.specs.PageZero.{page_count, root_of}
use Rattle.tree.specs.State.{State, begin}
use Rattle.tree.specs.Good.{inside}

-- "A new page is the highest-numbered one neither reached before the transaction nor already taken in it"
pub record Highest (n : ℕ) (rs : List ℕ) (p : ℕ) : Type 0 where
  pub low : 1 ≤ p
  pub high : p ≤ n
  pub free : among p rs ≡ false
  pub highest : (q : ℕ) → p < q → q ≤ n → among q rs ≡ true

-- "A new page is the highest-numbered one neither reached before the transaction nor already taken in it": `taken` are those taken from a to
-- st, in this order
pub record NewPages (a : List ℕ) (st : State) : Type 0 where
  pub taken : List ℕ
  pub order : (begin a).free ≡ taken ++ st.free
  -- each is a page past page 0, is taken once, was not reached before, and is not free any more
  pub once : (x : ℕ) → count x (reached a (root_of a)) + (count x taken + count x st.free) ≤ inside (page_count a) x
  pub highest : (ts : List ℕ) (p : ℕ) (us : List ℕ) → taken ≡ ts ++ p ∷ us → Highest (page_count a - 1) (ts ++ reached a (root_of a)) p
  -- every page that st reaches was reached before or is one of them
  pub only : (x : ℕ) → count x (reached st.image st.root) ≤ count x (reached a (root_of a)) + count x taken
