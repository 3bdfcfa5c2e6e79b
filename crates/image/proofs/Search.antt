-- One page's answer to a lookup and to a next key, by the search among its records.
-- Assumes nothing.
use Rattle.std.specs.Prelude.{Err, None, Ok, Option, Result, Some}
use Prim.Native.Nat.{ℕ, suc, ◌+◌, ◌*◌, ◌≤◌, ◌<◌}
use mathlib.Core.Path.{◌≡◌, refl, sym, ap, ◌∙◌, subst}
use mathlib.Core.Bool.{Bool, true, false}
use mathlib.Core.List.{List, [], ◌∷◌, map}
use native.Mathlib.Omega.{arith}
use native.Mathlib.Numerals.{add-one}
use native.Mathlib.Nat.{not-suc-le-zero}
use lib.ListN.{length, get_or, drop, length-map, get_or-map, drop_of_length-le}
use lib.Seq.{drop-cons}
use lib.Dec.{ltb, eqb}
use borrow.Author.Tests.{ltb-true, ltb-false, eqb-false, ne_eqb}
use Rattle.device.specs.declared.Refusal.{Refusal}
use Rattle.image.specs.declared.Part.{Part}
use Rattle.codec.specs.Lists.{pick}
use Rattle.codec.proofs.Tests.{All-map}
use Rattle.page.specs.Layout.{page_size, top_key, Rec, record_at, read_head}
use Rattle.page.specs.Page.{Entry, entry_at, recs, entries, records, page_ok}
use Rattle.page.specs.Search.{searched}
use Rattle.page.proofs.Facts.{recs-entries, length-entries, length-records}
use Rattle.image.specs.Facts.{Rising}
use Rattle.image.specs.Table.{in_image, find, found_in, above}
use Rattle.image.proofs.General.{map_same, All-unmap}
use Rattle.image.proofs.Rising.{rising-from}
use Rattle.image.proofs.Soundness.{page-rising}
use Rattle.image.proofs.Order.{recs-in_image}
use Rattle.image.proofs.Routing.{seek, seek-lacks, find-seek, found-seek, above-skip, above-first}

-- ---- a lookup

-- what the search among the records of l, counted from i, says of the first element whose key is k
module _ {A : Type 0} {B : Type 0} (rec : A → Rec) (answer : A → B) (nothing : B) (k : ℕ) where
  abbrev first : List A → B
  first l = seek (λ (x : A). (rec x).key) answer nothing k l

  abbrev Answers : ℕ → List A → A → Result ℕ ℕ → Type 0
  Answers i l z (Ok j) = (n : ℕ) × (j ≡ i + n) × (n < length l) × (first l ≡ answer (get_or l n z))
  Answers i l z (Err j) = first l ≡ nothing

  -- keys that rise from above k on lack k
  past-lacks : (lo : ℕ) (l : List A) (hi : ℕ) → k < lo → Rising lo (map rec l) hi → first l ≡ nothing
  past-lacks lo l hi q h =
      seek-lacks (λ (x : A). (rec x).key) answer nothing k l
      (All-map (λ (x : A). lo ≤ (rec x).key) (λ (x : A). (rec x).key ≡ k → ⊥) (λ x le eq. omega arith) l
      (All-unmap rec (λ (r : Rec). lo ≤ r.key) l (rising-from lo (map rec l) hi h)))

  answers : (i lo : ℕ) (l : List A) (hi : ℕ) (z : A) → Rising lo (map rec l) hi → Answers i l z (searched k i (map rec l))
  unfolding searched
  answers i lo [] hi z h = refl
  answers i lo (x ∷ l) hi z h = go (ltb (rec x).key k) refl (eqb (rec x).key k) refl (answers (i + 1) (suc (rec x).key) l hi z h.1)
    where
      on : (s : Result ℕ ℕ) → eqb (rec x).key k ≡ false → Answers (i + 1) l z s → Answers i (x ∷ l) z s
      on (Ok j) d a = (suc a.0, omega (arith, a.1), omega (arith, a.2), rw d a.3)
      on (Err j) d a = rw d a

      go : (t : Bool) → ltb (rec x).key k ≡ t → (u : Bool) → eqb (rec x).key k ≡ u → Answers (i + 1) l z (searched k (i + 1) (map rec l)) →
          Answers i (x ∷ l) z (pick t (searched k (i + 1) (map rec l)) (pick u (Ok i) (Err i)))
      go true c u d a = on (searched k (i + 1) (map rec l)) (ne_eqb (rec x).key k (λ q. omega (arith, ltb-true (rec x).key k c))) a
      go false c true d a = (0, omega arith, omega arith, rw d)
      go false c false d a =
          let ne : (rec x).key ≡ k → ⊥ = eqb-false (rec x).key k d in
          rw d (past-lacks (suc (rec x).key) l hi (omega (arith, ltb-false (rec x).key k c, ne)) h.1)

  module _ (lo : ℕ) (l : List A) (hi : ℕ) (z : A) (h : Rising lo (map rec l) hi) (j : ℕ) where
    search-first : searched k 0 (map rec l) ≡ Ok j → (j < length l) × (first l ≡ answer (get_or l j z))
    search-first e =
        let a : Answers 0 l z (Ok j) = subst (Answers 0 l z) e (answers 0 lo l hi z h) in
        let same : a.0 ≡ j = omega (arith, a.1) in
        (omega (arith, a.2), a.3 ∙ ap (λ (n : ℕ). answer (get_or l n z)) same)

    search-nothing : searched k 0 (map rec l) ≡ Err j → first l ≡ nothing
    search-nothing e = subst (Answers 0 l z) e (answers 0 lo l hi z h)

-- the value that rising records hold for k
module _ (k lo : ℕ) (l : List Rec) (hi : ℕ) (z : Rec) (h : Rising lo l hi) (j : ℕ) where
  abbrev same : Rec → Rec
  same r = r

  rising : Rising lo (map same l) hi
  rising = subst (λ (m : List Rec). Rising lo m hi) (sym (map_same l)) h

  pub search-find : searched k 0 l ≡ Ok j → (j < length l) × (find k l ≡ Some (get_or l j z).value)
  search-find e =
      let t = search-first same (λ (r : Rec). Some r.value) None k lo l hi z rising j (ap (searched k 0) (map_same l) ∙ e) in
      (t.0, find-seek k l ∙ t.1)

  pub search-none : searched k 0 l ≡ Err j → find k l ≡ None
  search-none e = find-seek k l ∙ search-nothing same (λ (r : Rec). Some r.value) None k lo l hi z rising j (ap (searched k 0) (map_same l) ∙ e)

module _ (kind own q : ℕ) (p : List ℕ) (ok : page_ok kind own p ≡ true) (k : ℕ) where
  abbrev es : List Entry
  es = map (in_image q) (entries p)

  abbrev z : Entry
  z = in_image q (entry_at p 0)

  abbrev found : Entry → Result (Option Part) Refusal
  found e = Ok (Some (record { offset = e.at + 16; length = length e.rec.value }))

  listed : recs es ≡ records p
  listed = recs-in_image q (entries p) ∙ recs-entries p

  rises : Rising 0 (recs es) (suc top_key)
  rises = subst (λ (l : List Rec). Rising 0 l (suc top_key)) (sym listed) (page-rising kind own p ok)

  pub search-missing : (j : ℕ) → searched k 0 (records p) ≡ Err j → found_in k (map (in_image q) (entries p)) ≡ Ok None
  search-missing j e =
      found-seek k es ∙ search-nothing (λ (e : Entry). e.rec) found (Ok None) k 0 es (suc top_key) z rises j (ap (searched k 0) listed ∙ e)

  pub search-at : (j : ℕ) → searched k 0 (records p) ≡ Ok j →
      (j < length (records p)) × (found_in k (map (in_image q) (entries p)) ≡ Ok (Some (record { offset = (page_size * q + get_or (read_head p).slots j 0 + 16); length = (length (record_at p (get_or (read_head p).slots j 0)).value) })))
  unfolding entries
  search-at j e =
      let a = search-first (λ (e : Entry). e.rec) found (Ok None) k 0 es (suc top_key) z rises j (ap (searched k 0) listed ∙ e) in
      let at : get_or es j z ≡ in_image q (entry_at p (get_or (read_head p).slots j 0)) =
      get_or-map (in_image q) (entries p) j (entry_at p 0) ∙ ap (in_image q) (get_or-map (entry_at p) (read_head p).slots j 0) in
      (omega (arith, a.0, length-map (entries p) (in_image q), length-entries p, length-records p), found-seek k es ∙ a.1 ∙ ap found at)

-- ---- a next key

-- what the search for the number past k says of a next key: its record is the first whose key is above k
abbrev Nexts : ℕ → ℕ → List Rec → Rec → Result ℕ ℕ → Type 0
Nexts k i l z (Ok j) = (n : ℕ) × (j ≡ i + n) × (n < length l) × (above k l ≡ Ok (Some (get_or l n z).key))
Nexts k i l z (Err j) = (n : ℕ) × (j ≡ i + n) × (n < length l → above k l ≡ Ok (Some (get_or l n z).key)) × (length l ≤ n → above k l ≡ Ok None)

nexts : (k i : ℕ) (l : List Rec) (z : Rec) → Nexts k i l z (searched (suc k) i l)
unfolding searched above
nexts k i [] z = (0, omega arith, (λ q. absurd (not-suc-le-zero q)), λ q. refl)
nexts k i (r ∷ l) z = go (ltb r.key (suc k)) refl (eqb r.key (suc k)) (nexts k (i + 1) l z)
  where
    on : (s : Result ℕ ℕ) → above k (r ∷ l) ≡ above k l → Nexts k (i + 1) l z s → Nexts k i (r ∷ l) z s
    on (Ok j) e a = (suc a.0, omega (arith, a.1), omega (arith, a.2), e ∙ a.3)
    on (Err j) e a = (suc a.0, omega (arith, a.1), (λ q. e ∙ a.2 (omega arith)), λ q. e ∙ a.3 (omega arith))

    go : (t : Bool) → ltb r.key (suc k) ≡ t → (u : Bool) → Nexts k (i + 1) l z (searched (suc k) (i + 1) l) →
        Nexts k i (r ∷ l) z (pick t (searched (suc k) (i + 1) l) (pick u (Ok i) (Err i)))
    go true c u a = on (searched (suc k) (i + 1) l) (above-skip k r l (omega (arith, ltb-true r.key (suc k) c))) a
    go false c true a = (0, omega arith, omega arith, above-first k r l (ltb-false r.key (suc k) c))
    go false c false a = (0, omega arith, (λ q. above-first k r l (ltb-false r.key (suc k) c)), λ q. absurd (not-suc-le-zero q))

module _ (k : ℕ) (l : List Rec) (z : Rec) (j : ℕ) where
  pub above_at : searched (suc k) 0 l ≡ Ok j → (j < length l) × (above k l ≡ Ok (Some (get_or l j z).key))
  above_at e =
      let a : Nexts k 0 l z (Ok j) = subst (Nexts k 0 l z) e (nexts k 0 l z) in
      let same : a.0 ≡ j = omega (arith, a.1) in
      (omega (arith, a.2), a.3 ∙ ap (λ (n : ℕ). Ok (Some (get_or l n z).key)) same)

  pub above-missing : searched (suc k) 0 l ≡ Err j → j < length l → above k l ≡ Ok (Some (get_or l j z).key)
  above-missing e h =
      let a : Nexts k 0 l z (Err j) = subst (Nexts k 0 l z) e (nexts k 0 l z) in
      let same : a.0 ≡ j = omega (arith, a.1) in
      a.2 (omega arith) ∙ ap (λ (n : ℕ). Ok (Some (get_or l n z).key)) same

  pub above-end : searched (suc k) 0 l ≡ Err j → length l ≤ j → above k l ≡ Ok None
  above-end e h = let a : Nexts k 0 l z (Err j) = subst (Nexts k 0 l z) e (nexts k 0 l z) in a.3 (omega (arith, a.1))

-- the same by a walk from slot i on
module _ (k : ℕ) (l : List Rec) (z : Rec) (i : ℕ) where
  pub above_step : i < length l → above k (drop i l) ≡ pick (ltb k (get_or l i z).key) (Ok (Some (get_or l i z).key)) (above k (drop (i + 1) l))
  unfolding above
  above_step h = rw (drop-cons l i z h, add-one)

  pub above-stop : length l ≤ i → above k (drop i l) ≡ Ok None
  unfolding above
  above-stop h = rw (drop_of_length-le l {i = i} h)
