-- Places in two books: whether a record comes next, which key it has, and what is left after it.
-- Assumes nothing.
use Prim.Native.Nat.{ℕ, suc, ◌≤◌, ◌<◌, min}
use mathlib.Core.Path.{◌≡◌, refl, sym, ap, ap₂, ◌∙◌}
use mathlib.Core.Bool.{true, false}
use mathlib.Core.List.{List, [], ◌∷◌}
use native.Mathlib.Omega.{arith}
use native.Mathlib.Decide.{dec_lt}
use lib.ListN.{length, get_or, take, drop}
use lib.Seq.{drop-cons}
use Rattle.codec.specs.Lists.{all_b}
use Rattle.page.specs.Layout.{top_key, Rec, rec_of}
use Rattle.page.specs.Page.{RecOk}
use Rattle.image.specs.Image.{first_key}
use Rattle.image.specs.Facts.{Rising}
use Rattle.page.proofs.Listed.{All-at}
use Rattle.merge.specs.Tables.{merged, apart}
use Rattle.merge.specs.Cursors.{left_at, Ready, left_of, apart_at, Passed}
use Rattle.merge.specs.declared.Cursors.{Cursors}
use Rattle.merge.proofs.Tables.{next-first, next-second, keys-equal, key_twice, none_left}
use Rattle.merge.proofs.Standing.{stands-rising}
use Rattle.merge.proofs.Stepping.{left-ok, left-some}

-- ---- tables

first-take : (l : List Rec) (hi : ℕ) → first_key (take 1 l) hi ≡ first_key l hi
first-take [] hi = refl
first-take (r ∷ l) hi = refl

first-same : (l m : List Rec) (hi : ℕ) → take 1 l ≡ take 1 m → first_key l hi ≡ first_key m hi
first-same l m hi e = sym (first-take l hi) ∙ ap (λ (x : List Rec). first_key x hi) e ∙ first-take m hi

both-none : (t u : List Rec) → t ≡ [] → u ≡ [] → (merged t u ≡ []) × (apart t u ≡ true)
unfolding merged apart all_b
both-none t u e f = (ap₂ merged e f, ap₂ apart e f)

-- ---- places

-- the record that comes next
abbrev pub next_of : List ℕ → List ℕ → Cursors → Rec
next_of a b at = get_or (left_of a b at) 0 (rec_of 0 [])

module _ {a b : List ℕ} {at : Cursors} (k : Ready a b at) where
  abbrev t : List Rec
  t = left_at a at.first

  abbrev u : List Rec
  u = left_at b at.second

  rising-t : Rising 0 t (suc top_key)
  rising-t = stands-rising a at.first k.first

  rising-u : Rising 0 u (suc top_key)
  rising-u = stands-rising b at.second k.second

  same_first : at.first.key ≡ at.second.key → first_key t (suc top_key) ≡ first_key u (suc top_key)
  same_first e = sym k.first.key ∙ e ∙ k.second.key

  -- the end of all keys twice
  pub ends-none : at.first.key ≡ at.second.key → suc top_key ≤ at.first.key → (left_of a b at ≡ []) × (apart_at a b at ≡ true)
  unfolding left_of apart_at
  ends-none e h =
      both-none t u
      (none_left 0 t rising-t (omega (arith, k.first.key)))
      (none_left 0 u rising-u (omega (arith, k.second.key)))

  pub same-twice : at.first.key ≡ at.second.key → at.first.key < suc top_key → apart_at a b at ≡ false
  unfolding apart_at
  same-twice e h =
      key_twice 0 0 t u rising-t rising-u (same_first e) (omega (arith, k.first.key))

  -- the smaller key is that of the record that comes
  pub next-key : apart_at a b at ≡ true → min at.first.key at.second.key ≡ first_key (left_of a b at) (suc top_key)
  unfolding left_of apart_at
  next-key h = go (dec_lt at.first.key at.second.key) (dec_lt at.second.key at.first.key)
    where
      go : Dec (at.first.key < at.second.key) → Dec (at.second.key < at.first.key) → min at.first.key at.second.key ≡ first_key (merged t u) (suc top_key)
      go (yes p) q =
          let n = next-first 0 0 t u rising-t rising-u (omega (arith, p, k.first.key, k.second.key)) in
          omega (arith, p, k.first.key, first-same (merged t u) t (suc top_key) n.0)
      go (no p) (yes q) =
          let n = next-second 0 0 t u rising-t rising-u (omega (arith, q, k.first.key, k.second.key)) in
          omega (arith, q, k.second.key, first-same (merged t u) u (suc top_key) n.0)
      go (no p) (no q) =
          let e : at.first.key ≡ at.second.key = omega (arith, p, q) in
          let n = keys-equal 0 0 t u rising-t rising-u (same_first e) h in
          let f : first_key t (suc top_key) ≡ suc top_key = ap (λ (l : List Rec). first_key l (suc top_key)) n.0 in
          let g : first_key (merged t u) (suc top_key) ≡ suc top_key = ap (λ (l : List Rec). first_key l (suc top_key)) (both-none t u n.0 n.1).0 in
          omega (arith, e, f, g, k.first.key)

  -- keys that differ: the record that comes, and the place after it
  module _ (ne : at.first.key ≡ at.second.key → ⊥) where
    pub next-is : left_of a b at ≡ next_of a b at ∷ drop 1 (left_of a b at)
    next-is = drop-cons (left_of a b at) 0 (rec_of 0 []) (left-some k ne)

    pub next-ok : RecOk (next_of a b at)
    next-ok = All-at RecOk (left_of a b at) 0 (rec_of 0 []) (left-ok k) (left-some k ne)

    pub passed_is : {to : Cursors} → Passed a b at to → left_of a b at ≡ next_of a b at ∷ left_of a b to
    passed_is p = next-is ∙ ap (λ (l : List Rec). next_of a b at ∷ l) (sym p.left)

    pub passed-less : {to : Cursors} → Passed a b at to → length (left_of a b to) < length (left_of a b at)
    passed-less p = omega (arith, ap length (passed_is p))
