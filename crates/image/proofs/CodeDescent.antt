-- One step down: the routed slot by a search of the page, and the place that it leads to.
-- Assumes nothing.
use Rattle.std.specs.Prelude.{Err, Ok, Result}
use Prim.Native.Nat.{ℕ, zero, suc, ◌+◌, ◌-◌, ◌≤◌, ◌<◌}
use mathlib.Core.Path.{◌≡◌, refl, sym, ap, ◌∙◌}
use mathlib.Core.Bool.{Bool, true, false}
use mathlib.Core.List.{List, [], ◌∷◌}
use native.Mathlib.Omega.{arith}
use native.Mathlib.Numerals.{add-one}
use native.Mathlib.Nat.{not-suc-le-zero}
use lib.ListN.{length, get_or, drop}
use lib.Dec.{leb, ltb, eqb}
use borrow.Author.Tests.{ltb-true, ltb-false, eqb-true, eqb-false, le-leb, lt-leb}
use Rattle.codec.specs.Lists.{pick}
use Rattle.codec.proofs.Tests.{All-map}
use Rattle.page.specs.Layout.{top_key, Rec, rec_of}
use Rattle.page.specs.Page.{records, laid_out, page_ok, keys_rise, RecOk}
use Rattle.page.specs.Search.{searched}
use Rattle.page.proofs.Facts.{records-ok}
use Rattle.image.specs.Image.{child_of, first_key, places}
use Rattle.image.specs.Facts.{Rising}
use Rattle.image.specs.Route.{last_from, route}
use Rattle.image.specs.declared.Place.{Place}
use Rattle.image.proofs.Rising.{From, rising-from, rise-rising}
use Rattle.image.proofs.Soundness.{page-rising}
use Rattle.image.proofs.Routing.{routed}
use Rattle.image.proofs.Belonging.{above-all}

-- ---- the routed slot

-- the slot that a search tells: the key's own, or the one before its place
abbrev pub slot_of : Result ℕ ℕ → ℕ
slot_of (Ok i) = i
slot_of (Err i) = i - 1

route-from : (k d i lo : ℕ) (cs : List Rec) (hi : ℕ) → Rising lo cs hi → d ≡ i - 1 → slot_of (searched k i cs) ≡ last_from k d i cs
unfolding last_from searched
route-from k d i lo [] hi s e = sym e
route-from k d i lo (c ∷ cs) hi s e = go (ltb c.key k) refl (eqb c.key k) refl (route-from k i (suc i) (suc c.key) cs hi s.1 (omega arith))
  where
    later : k ≤ c.key → From (suc k) cs
    later h = All-map (λ (r : Rec). suc c.key ≤ r.key) (λ (r : Rec). suc k ≤ r.key) (λ r q. omega arith) cs (rising-from (suc c.key) cs hi s.1)

    go : (t : Bool) → ltb c.key k ≡ t → (u : Bool) → eqb c.key k ≡ u → slot_of (searched k (suc i) cs) ≡ last_from k i (suc i) cs →
        slot_of (pick t (searched k (i + 1) cs) (pick u (Ok i) (Err i))) ≡ last_from k (pick (leb c.key k) i d) (suc i) cs
    go true t u f r =
        let h = ltb-true c.key k t in
        rw (le-leb c.key k (omega arith), add-one) r
    go false t true f r =
        let q : c.key ≡ k = eqb-true c.key k f in
        rw (le-leb c.key k (omega arith)) (sym (above-all k i (suc i) cs (later (omega arith))))
    go false t false f r =
        let h = ltb-false c.key k t in
        rw (lt-leb c.key k (omega (arith, eqb-false c.key k f))) (sym e ∙ sym (above-all k d (suc i) cs (later h)))

pub laid-rising : (p : List ℕ) → laid_out p ≡ true → keys_rise (records p) ≡ true → Rising 0 (records p) (suc top_key)
laid-rising p ok rise =
    let good = records-ok p ok in
    rise-rising 0 (records p) (suc top_key) (omega arith)
    (All-map RecOk (λ (r : Rec). 0 ≤ r.key) (λ r o. omega arith) (records p) good)
    rise
    (All-map RecOk (λ (r : Rec). r.key < suc top_key) (λ r o. omega (arith, o.low)) (records p) good)

pub route-searched : (p : List ℕ) → laid_out p ≡ true → keys_rise (records p) ≡ true → (k : ℕ) (s : Result ℕ ℕ) → s ≡ searched k 0 (records p) → slot_of s ≡ route k (records p)
unfolding route
route-searched p ok rise k s e = ap slot_of e ∙ route-from k 0 0 0 (records p) (suc top_key) (laid-rising p ok rise) refl

-- ---- one step down, by the slot

module _ (lo : ℕ) (cs : List Rec) (hi : ℕ) (z : Place) (d : Rec) where
  pub place-first : 1 ≤ length cs → get_or (places lo cs hi) 0 z ≡ record { page = child_of (get_or cs 0 d); from = lo; below = first_key (drop 1 cs) hi }
  unfolding places
  place-first h = go cs h
    where
      go : (l : List Rec) → 1 ≤ length l → get_or (places lo l hi) 0 z ≡ record { page = child_of (get_or l 0 d); from = lo; below = first_key (drop 1 l) hi }
      go [] q = absurd (not-suc-le-zero q)
      go (c ∷ l) q = refl

place-next : (lo : ℕ) (cs : List Rec) (hi : ℕ) (z : Place) (d : Rec) (i : ℕ) → suc i < length cs →
    get_or (places lo cs hi) (suc i) z ≡ record { page = child_of (get_or cs (suc i) d); from = (get_or cs (suc i) d).key; below = first_key (drop (suc (suc i)) cs) hi }
unfolding places
place-next lo [] hi z d i h = absurd (not-suc-le-zero h)
place-next lo (b ∷ []) hi z d i h = absurd (omega arith)
place-next lo (b ∷ c ∷ cs) hi z d zero h = refl
place-next lo (b ∷ c ∷ cs) hi z d (suc i) h = place-next c.key (c ∷ cs) hi z d i (omega arith)

pub place-later : (lo : ℕ) (cs : List Rec) (hi : ℕ) (z : Place) (d : Rec) (i : ℕ) → (i ≡ 0 → ⊥) → i < length cs →
    get_or (places lo cs hi) i z ≡ record { page = child_of (get_or cs i d); from = (get_or cs i d).key; below = first_key (drop (i + 1) cs) hi }
place-later lo cs hi z d zero some h = absurd (some refl)
place-later lo cs hi z d (suc i) some h =
    let e : suc (suc i) ≡ suc i + 1 = omega arith in
    place-next lo cs hi z d i h ∙ ap (λ (n : ℕ). record { page = child_of (get_or cs (suc i) d); from = (get_or cs (suc i) d).key; below = first_key (drop n cs) hi }) e

-- the slot that a key belongs to is one of a page that lists a record
pub route-inside : (kind own : ℕ) (p : List ℕ) → page_ok kind own p ≡ true → 1 ≤ length (records p) → (k : ℕ) → route k (records p) < length (records p)
route-inside kind own p ok some k = (routed k 0 (records p) (suc top_key) (rec_of 0 []) (page-rising kind own p ok) some).inside
