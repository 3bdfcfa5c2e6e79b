-- The rows in order: what next key and lookup answer is the next row.
-- Assumes nothing.
use Rattle.std.specs.Prelude.{Err, Ok}
use Prim.Native.Nat.{ℕ, suc, ◌+◌, ◌-◌, ◌/◌, ◌≤◌, ◌<◌}
use mathlib.Core.Path.{◌≡◌, refl, sym, ap, subst, ◌∙◌}
use mathlib.Core.Bool.{Bool, true, false}
use mathlib.Core.List.{List, [], ◌∷◌}
use native.Mathlib.Omega.{arith}
use lib.ListN.{length}
use Rattle.std.proofs.Common.{Some, None}
use lib.Dec.{ltb}
use borrow.Author.Tests.{ltb-true, ltb-false, lt-ltb, le-ltb, eq-eqb, ne_eqb, le-leb}
use Rattle.codec.specs.Lists.{pick}
use Rattle.codec.proofs.Tests.{both}
use Rattle.page.specs.Layout.{page_size, top_key}
use Rattle.page.specs.Page.{Entry, recs}
use Rattle.image.specs.Facts.{Rising}
use Rattle.image.specs.Image.{sound}
use Rattle.image.specs.Table.{listing, found_in, above}
use Rattle.image.specs.Calls.{key_ok, lookup_call, next_call}
use Rattle.image.proofs.Parts.{part-same}
use Rattle.image.proofs.Answers.{lookup-sound, next-sound}
use Rattle.device.specs.declared.Refusal.{Refusal}
use Rattle.image.proofs.Rising.{rising_le}
use Rattle.image.proofs.Exact.{above-answers}
use Rattle.image.proofs.Order.{recs-listing, table-rising}
use Rattle.sheet.specs.Rows.{next_slot, rows_after, later, first_of}
use Rattle.sheet.specs.declared.listing.Row.{Row}

-- ---- entries above a key

-- the first entry above k has the key j
pub record Ahead (k j : ℕ) (es : List Entry) : Type 0 where
  pub entry : Entry
  pub rest : List Entry
  pub is : later k es ≡ entry ∷ rest
  pub key : entry.rec.key ≡ j

pub above-ahead : (k j : ℕ) (es : List Entry) → above k (recs es) ≡ Ok (Some j) → Ahead k j es
unfolding above later
above-ahead k j [] h = let z : ◌≡◌ {A = ℕ} 0 1 = cc in absurd (omega arith)
above-ahead k j (e ∷ es) h = go (ltb k e.rec.key) refl h (above-ahead k j es)
  where
    go : (t : Bool) → ltb k e.rec.key ≡ t → pick t (Ok (Some e.rec.key)) (above k (recs es)) ≡ Ok (Some j) → (above k (recs es) ≡ Ok (Some j) → Ahead k j es) → Ahead k j (e ∷ es)
    go true p f r = let same : e.rec.key ≡ j = cc in record { entry = e; rest = es; is = rw p; key = same }
    go false p f r = let a = r f in record { entry = a.entry; rest = a.rest; is = rw p a.is; key = a.key }

pub above-none : (k : ℕ) (es : List Entry) → above k (recs es) ≡ Ok None → later k es ≡ []
unfolding above later
above-none k [] h = refl
above-none k (e ∷ es) h = go (ltb k e.rec.key) h (above-none k es)
  where
    go : (t : Bool) → pick t (Ok (Some e.rec.key)) (above k (recs es)) ≡ Ok None → (above k (recs es) ≡ Ok None → later k es ≡ []) → pick t (e ∷ es) (later k es) ≡ []
    go true f r = let z : ◌≡◌ {A = ℕ} 0 1 = cc in absurd (omega arith)
    go false f r = r f

-- where the keys rise from lo on
pub later-all : (k lo : ℕ) (es : List Entry) (hi : ℕ) → Rising lo (recs es) hi → k < lo → later k es ≡ es
unfolding later
later-all k lo [] hi h q = refl
later-all k lo (e ∷ es) hi h q = rw (lt-ltb k e.rec.key (omega (arith, h.0)))

-- what is known of the first entry above k
pub record First (k hi : ℕ) (e : Entry) (rest es : List Entry) : Type 0 where
  pub over : k < e.rec.key
  pub below : e.rec.key < hi
  pub next : later e.rec.key es ≡ rest
  pub found : found_in e.rec.key es ≡ Ok (Some (record { offset = (e.at + 16); length = (length e.rec.value) }))

pub later_first : (k lo : ℕ) (es : List Entry) (hi : ℕ) (e : Entry) (rest : List Entry) → Rising lo (recs es) hi → later k es ≡ e ∷ rest → First k hi e rest es
unfolding later found_in
later_first k lo [] hi e rest h f = absurd (omega (arith, ap length f))
later_first k lo (x ∷ es) hi e rest h f = go (ltb k x.rec.key) refl f (later_first k (suc x.rec.key) es hi e rest h.1)
  where
    here : ltb k x.rec.key ≡ true → First k hi x es (x ∷ es)
    here p = record {
      over = ltb-true k x.rec.key p;
      below = rising_le (suc x.rec.key) (recs es) hi h.1;
      next = rw (le-ltb x.rec.key x.rec.key (omega arith)) (later-all x.rec.key (suc x.rec.key) es hi h.1 (omega arith));
      found = rw (eq-eqb x.rec.key x.rec.key refl);
    }

    go : (t : Bool) → ltb k x.rec.key ≡ t → pick t (x ∷ es) (later k es) ≡ e ∷ rest → (later k es ≡ e ∷ rest → First k hi e rest es) → First k hi e rest (x ∷ es)
    go true p f r =
        let same : x ≡ e = cc in
        let tail : es ≡ rest = cc in
        subst (λ (y : Entry). First k hi y rest (x ∷ es)) same (subst (λ (l : List Entry). First k hi x l (x ∷ es)) tail (here p))
    go false p f r =
        let a = r f in
        let over : k < e.rec.key = a.over in
        let low : x.rec.key ≤ k = ltb-false k x.rec.key p in
        record {
          over = a.over;
          below = a.below;
          next = rw (le-ltb e.rec.key x.rec.key (omega arith)) a.next;
          found = rw (ne_eqb x.rec.key e.rec.key (λ q. omega arith)) a.found;
        }

-- ---- the next row

-- a row taken, and the rows after it
pub record Step (before slot k p s j n hi : ℕ) (es : List Entry) : Type 0 where
  pub row : rows_after before slot (later k es) ≡ record { page = p; slot = s; key = j; size = n } ∷ rows_after p s (later j es)
  pub over : k < j
  pub below : j < hi
  pub slot_is : s ≡ next_slot p before slot

pub visit-step : (before slot k p s j n lo : ℕ) (es : List Entry) (hi : ℕ) → Rising lo (recs es) hi → first_of (rows_after before slot (later k es)) ≡ Some (record { page = p; slot = s; key = j; length = n }) →
    Step before slot k p s j n hi es
unfolding rows_after first_of
visit-step before slot k p s j n lo es hi h f = go (later k es) refl f
  where
    go : (l : List Entry) → later k es ≡ l → first_of (rows_after before slot l) ≡ Some (record { page = p; slot = s; key = j; length = n }) → Step before slot k p s j n hi es
    go [] q f = let z : ◌≡◌ {A = ℕ} 0 1 = cc in absurd (omega arith)
    go (e ∷ rest) q f =
        let F = later_first k lo es hi e rest h q in
        let row : ◌≡◌ {A = Row} (record { page = e.at / page_size; slot = next_slot (e.at / page_size) before slot; key = e.rec.key; length = length e.rec.value })
        (record { page = p; slot = s; key = j; length = n }) = cc in
        let a : e.at / page_size ≡ p = ap (λ (r : Row). r.page) row in
        let b : next_slot (e.at / page_size) before slot ≡ s = ap (λ (r : Row). r.slot) row in
        let c : e.rec.key ≡ j = ap (λ (r : Row). r.key) row in
        let d : length e.rec.value ≡ n = ap (λ (r : Row). r.length) row in
        let rest-is : later j es ≡ rest = ap (λ (m : ℕ). later m es) (sym c) ∙ F.next in
        record {
          row = rw (q, rest-is, sym a, sym c, sym d, sym b, a);
          over = omega (arith, F.over);
          below = omega (arith, F.below);
          slot_is = sym b ∙ ap (λ (m : ℕ). next_slot m before slot) a;
        }

pub visit-end : (before slot k : ℕ) (es : List Entry) → first_of (rows_after before slot (later k es)) ≡ None → rows_after before slot (later k es) ≡ []
unfolding rows_after first_of
visit-end before slot k es f = go (later k es) f
  where
    go : (l : List Entry) → first_of (rows_after before slot l) ≡ None → rows_after before slot l ≡ []
    go [] f = refl
    go (e ∷ rest) f = let z : ◌≡◌ {A = ℕ} 0 1 = cc in absurd (omega arith)

-- the row of an entry, by where its value stands
row-shown : (before slot k : ℕ) (es : List Entry) (e : Entry) (rest : List Entry) (j o n : ℕ) → later k es ≡ e ∷ rest → e.rec.key ≡ j → e.at + 16 ≡ o → length e.rec.value ≡ n →
    (16 ≤ o) × (Some (record { page = (o - 16) / 1024; slot = next_slot ((o - 16) / 1024) before slot; key = j; length = n }) ≡ first_of (rows_after before slot (later k es)))
unfolding rows_after first_of
row-shown before slot k es e rest j o n q key place size =
    let at : o - 16 ≡ e.at = omega arith in
    (omega arith, rw (q, at, sym key, sym size))

-- ---- what next key and lookup answer

module _ (img : List ℕ) (h : sound img ≡ true) where
  pub rising-listing : Rising 1 (recs (listing img)) (suc top_key)
  rising-listing = rw (recs-listing img) (table-rising img h)

  next-above : (k : ℕ) → next_call img k ≡ above k (recs (listing img))
  next-above k = next-sound img h k ∙ ap (above k) (sym (recs-listing img))

  module _ (before slot k : ℕ) where
    pub next-none : next_call img k ≡ Ok None → None ≡ first_of (rows_after before slot (later k (listing img)))
    unfolding rows_after first_of
    next-none e = rw (above-none k (listing img) (sym (next-above k) ∙ e))

    -- the answers of lookup for the next key
    pub record Looked (j : ℕ) : Type 0 where
      pub entry : Entry
      pub rest : List Entry
      pub is : later k (listing img) ≡ entry ∷ rest
      pub key : entry.rec.key ≡ j
      pub found : lookup_call img j ≡ Ok (Some (record { offset = (entry.at + 16); length = (length entry.rec.value) }))

    pub looked : (j : ℕ) → next_call img k ≡ Ok (Some j) → Looked j
    unfolding key_ok
    looked j e =
        let A = above-ahead k j (listing img) (sym (next-above k) ∙ e) in
        let F = later_first k 1 (listing img) (suc top_key) A.entry A.rest rising-listing A.is in
        let same = A.key in
        let over = F.over in
        let below = F.below in
        let ok : key_ok j ≡ true = both (le-leb 1 j (omega arith)) (le-leb j top_key (omega arith)) in
        record {
          entry = A.entry;
          rest = A.rest;
          is = A.is;
          key = A.key;
          found = lookup-sound img h j ∙ rw ok (ap (λ (m : ℕ). found_in m (listing img)) (sym same) ∙ F.found);
        }

    pub row-found : (j o n : ℕ) → next_call img k ≡ Ok (Some j) → lookup_call img j ≡ Ok (Some (record { offset = o; length = n })) →
        (16 ≤ o) × (Some (record { page = (o - 16) / 1024; slot = next_slot ((o - 16) / 1024) before slot; key = j; length = n }) ≡ first_of (rows_after before slot (later k (listing img))))
    row-found j o n e f =
        let L = looked j e in
        let same = part-same _ _ _ _ (sym L.found ∙ f) in
        row-shown before slot k (listing img) L.entry L.rest j o n L.is L.key same.0 same.1

    pub row-not-missing : (j : ℕ) → next_call img k ≡ Ok (Some j) → lookup_call img j ≡ Ok None → ⊥
    row-not-missing j e f = let z : ◌≡◌ {A = ℕ} 0 1 = cc ((looked j e).found, f) in omega arith

    pub row-not-refused : (j : ℕ) (r : Refusal) → next_call img k ≡ Ok (Some j) → lookup_call img j ≡ Err r → ⊥
    row-not-refused j r e f = let z : ◌≡◌ {A = ℕ} 0 1 = cc ((looked j e).found, f) in omega arith

    pub next-not-refused : (r : Refusal) → next_call img k ≡ Err r → ⊥
    next-not-refused r e = above-answers k 1 (recs (listing img)) (suc top_key) rising-listing r (sym (next-above k) ∙ e)
