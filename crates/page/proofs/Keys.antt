-- The search for a key, record by record.
-- Assumes nothing.
use Rattle.std.specs.Prelude.{Err, Ok}
use Rattle.std.proofs.Common.{◌≡◌, ℕ, ◌+◌, ◌<◌, ◌≤◌, List, [], ◌∷◌, length, get_or, drop, sym, ap, ◌∙◌, add-one, arith, drop-cons, drop_of_length-le, le-ltb, lt-ltb, eq-eqb, ne_eqb}
use Rattle.page.specs.Layout.{Rec, rec_of}
use Rattle.page.specs.Search.{searched}

-- ---- one record more

module _ (k i : ℕ) (r : Rec) (rs : List Rec) where
  pub searched-on : r.key < k → searched k i (r ∷ rs) ≡ searched k (i + 1) rs
  unfolding searched
  searched-on h = rw (lt-ltb r.key k h)

  pub searched-at : r.key ≡ k → searched k i (r ∷ rs) ≡ Ok i
  unfolding searched
  searched-at h = rw (le-ltb r.key k (omega arith), eq-eqb r.key k h)

  pub searched-past : k ≤ r.key → (r.key ≡ k → ⊥) → searched k i (r ∷ rs) ≡ Err i
  unfolding searched
  searched-past h n = rw (le-ltb r.key k h, ne_eqb r.key k n)

pub searched-end : (k i : ℕ) (rs : List Rec) → length rs ≤ i → searched k i (drop i rs) ≡ Err i
unfolding searched
searched-end k i rs h = rw (drop_of_length-le rs {i = i} h)

-- the same of the i-th record, where its key is read
module _ (k i : ℕ) (rs : List Rec) (less : i < length rs) (key : ℕ) (found : key ≡ (get_or rs i (rec_of 0 [])).key) where
  here : drop i rs ≡ get_or rs i (rec_of 0 []) ∷ drop (i + 1) rs
  here = rw add-one (drop-cons rs i (rec_of 0 []) less)

  pub find-on : key < k → searched k i (drop i rs) ≡ searched k (i + 1) (drop (i + 1) rs)
  find-on h = ap (searched k i) here ∙ searched-on k i (get_or rs i (rec_of 0 [])) (drop (i + 1) rs) (omega (arith, found))

  pub find_at : key ≡ k → searched k i (drop i rs) ≡ Ok i
  find_at h = ap (searched k i) here ∙ searched-at k i (get_or rs i (rec_of 0 [])) (drop (i + 1) rs) (sym found ∙ h)

  pub find_past : k ≤ key → (key ≡ k → ⊥) → searched k i (drop i rs) ≡ Err i
  find_past h n = ap (searched k i) here ∙ searched-past k i (get_or rs i (rec_of 0 [])) (drop (i + 1) rs) (omega (arith, found)) (λ e. n (found ∙ e))
