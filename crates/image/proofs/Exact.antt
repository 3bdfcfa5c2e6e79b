-- What a reader can trust: a lookup answers the table's value where it stands in the image, a next key the smallest larger key,
-- and nothing else.
-- Assumes nothing.
use Rattle.std.specs.Prelude.{Err, None, Ok, Option, Result, Some}
use Prim.Native.Nat.{ℕ, suc, ◌+◌, ◌≤◌, ◌<◌}
use mathlib.Core.Path.{◌≡◌, refl, sym, ap, ◌∙◌, subst}
use mathlib.Core.Logic.{inl, inr}
use mathlib.Core.Bool.{Bool, true, false}
use mathlib.Core.List.{List, [], ◌∷◌}
use native.Mathlib.Omega.{arith}
use lib.ListN.{length}
use lib.Dec.{ltb, eqb}
use borrow.Author.Tests.{ltb-true, ltb-false, eqb-true, eq-eqb, eqb-false, ne_eqb}
use Rattle.image.specs.declared.Part.{Part}
use Rattle.codec.specs.Lists.{part, pick, All}
use Rattle.device.specs.declared.Refusal.{Refusal}
use Rattle.page.specs.Layout.{Rec, rec_of}
use Rattle.page.specs.Page.{Entry, recs}
use Rattle.image.specs.Image.{sound}
use Rattle.image.specs.Facts.{Rising}
use Rattle.image.specs.Table.{table, listing, find, found_in, above}
use Rattle.image.specs.Says.{Member, Smallest, AtMost}
use Rattle.image.proofs.Parts.{some-injective}
use Rattle.image.proofs.Rising.{rising-from}
use Rattle.image.proofs.Order.{recs-listing}
use Rattle.image.proofs.Routing.{above-skip, above-first}
use Rattle.image.proofs.Values.{Listed, listing-listed}

-- ---- lookup and table

-- what a lookup's answer says of records whose values stand in the image
abbrev pub Told : List ℕ → ℕ → List Rec → Result (Option Part) Refusal → Type 0
Told img k rs (Ok (Some x)) = (find k rs ≡ Some (part img x.offset x.length)) × (length (part img x.offset x.length) ≡ x.length) × (x.offset + x.length ≤ length img)
Told img k rs (Ok None) = find k rs ≡ None
Told img k rs (Err r) = ⊥

tells : (img : List ℕ) (k : ℕ) (es : List Entry) → All (Listed img) es → Told img k (recs es) (found_in k es)
unfolding find found_in
tells img k [] h = refl
tells img k (e ∷ es) h = go (eqb e.rec.key k) refl (tells img k es h.1)
  where
    on : (a : Result (Option Part) Refusal) → eqb e.rec.key k ≡ false → Told img k (recs es) a → Told img k (recs (e ∷ es)) a
    on (Ok (Some x)) d t = (rw d t.0, t.1, t.2)
    on (Ok None) d t = rw d t
    on (Err r) d t = t

    go : (t : Bool) → eqb e.rec.key k ≡ t → Told img k (recs es) (found_in k es) →
        Told img k (recs (e ∷ es)) (pick t (Ok (Some (record { offset = e.at + 16; length = length e.rec.value }))) (found_in k es))
    go true d t = (rw d (ap Some (sym h.0.value)), ap length h.0.value, h.0.inside)
    go false d t = on (found_in k es) d t

-- entries whose values stand in the image where they say
module _ (img : List ℕ) (k : ℕ) (es : List Entry) (h : All (Listed img) es) where
  pub entries-tell : (a : Result (Option Part) Refusal) → found_in k es ≡ a → Told img k (recs es) a
  entries-tell a e = subst (Told img k (recs es)) e (tells img k es h)

  pub entries-answer : (r : Refusal) → found_in k es ≡ Err r → ⊥
  entries-answer r e = entries-tell (Err r) e

  pub found-entries : (v : List ℕ) → find k (recs es) ≡ Some v → (o : ℕ) × (n : ℕ) × (found_in k es ≡ Ok (Some (record { offset = o; length = n }))) × (part img o n ≡ v)
  found-entries v e = go (found_in k es) refl (tells img k es h)
    where
      go : (a : Result (Option Part) Refusal) → found_in k es ≡ a → Told img k (recs es) a → (o : ℕ) × (n : ℕ) × (found_in k es ≡ Ok (Some (record { offset = o; length = n }))) × (part img o n ≡ v)
      go (Ok (Some x)) f t = (x.offset, x.length, f, some-injective (part img x.offset x.length) v (sym t.0 ∙ e))
      go (Ok None) f t = let z : ◌≡◌ {A = ℕ} 0 1 = cc (t, e) in absurd (omega arith)
      go (Err r) f t = absurd t

  pub missing-entries : find k (recs es) ≡ None → found_in k es ≡ Ok None
  missing-entries e = go (found_in k es) (tells img k es h)
    where
      go : (a : Result (Option Part) Refusal) → Told img k (recs es) a → a ≡ Ok None
      go (Ok (Some x)) t = let z : ◌≡◌ {A = ℕ} 0 1 = cc (t.0, e) in absurd (omega arith)
      go (Ok None) t = refl
      go (Err r) t = absurd t

-- those of a sound image
module _ (img : List ℕ) (s : sound img ≡ true) (k : ℕ) where
  by-table : find k (table img) ≡ find k (recs (listing img))
  by-table = ap (find k) (sym (recs-listing img))

  pub lookup-found : (o n : ℕ) → found_in k (listing img) ≡ Ok (Some (record { offset = o; length = n })) →
      (find k (table img) ≡ Some (part img o n)) × (length (part img o n) ≡ n) × (o + n ≤ length img)
  lookup-found o n e = let t = entries-tell img k (listing img) (listing-listed img s) (Ok (Some (record { offset = o; length = n }))) e in (by-table ∙ t.0, t.1, t.2)

  pub lookup-missing : found_in k (listing img) ≡ Ok None → find k (table img) ≡ None
  lookup-missing e = by-table ∙ entries-tell img k (listing img) (listing-listed img s) (Ok None) e

  pub lookup-answers : (r : Refusal) → found_in k (listing img) ≡ Err r → ⊥
  lookup-answers r e = entries-answer img k (listing img) (listing-listed img s) r e

  pub found-lookup : (v : List ℕ) → find k (table img) ≡ Some v → (o : ℕ) × (n : ℕ) × (found_in k (listing img) ≡ Ok (Some (record { offset = o; length = n }))) × (part img o n ≡ v)
  found-lookup v e = found-entries img k (listing img) (listing-listed img s) v (sym by-table ∙ e)

  pub missing-lookup : find k (table img) ≡ None → found_in k (listing img) ≡ Ok None
  missing-lookup e = missing-entries img k (listing img) (listing-listed img s) (sym by-table ∙ e)

-- ---- find and the table's records

-- what holds of each record holds of a member
pub member-all : (P : Rec → Type 0) (r : Rec) (l : List Rec) → All P l → Member r l → P r
member-all P r [] h m = absurd m
member-all P r (x ∷ l) h (inl e) = subst P (sym e) h.0
member-all P r (x ∷ l) h (inr m) = member-all P r l h.1 m

pub find-member : (k : ℕ) (v : List ℕ) (l : List Rec) → find k l ≡ Some v → Member (rec_of k v) l
unfolding find
find-member k v [] e = let z : ◌≡◌ {A = ℕ} 0 1 = cc in absurd (omega arith)
find-member k v (r ∷ l) e = go (eqb r.key k) refl e (find-member k v l)
  where
    go : (t : Bool) → eqb r.key k ≡ t → pick t (Some r.value) (find k l) ≡ Some v → (find k l ≡ Some v → Member (rec_of k v) l) → Member (rec_of k v) (r ∷ l)
    go true c f g =
        let a : r.key ≡ k = eqb-true r.key k c in
        let b : r.value ≡ v = some-injective r.value v f in
        inl (λ i. record { key = sym a i; value = sym b i })
    go false c f g = inr (g f)

pub member-find : (k : ℕ) (v : List ℕ) (lo : ℕ) (l : List Rec) (hi : ℕ) → Rising lo l hi → Member (rec_of k v) l → find k l ≡ Some v
unfolding find
member-find k v lo [] hi h m = absurd m
member-find k v lo (r ∷ l) hi h (inl e) =
    let a : r.key ≡ k = ap (λ (x : Rec). x.key) (sym e) in
    let b : r.value ≡ v = ap (λ (x : Rec). x.value) (sym e) in
    rw (eq-eqb r.key k a, b)
member-find k v lo (r ∷ l) hi h (inr m) =
    let later : r.key < k = member-all (λ (x : Rec). suc r.key ≤ x.key) (rec_of k v) l (rising-from (suc r.key) l hi h.1) m in
    rw (ne_eqb r.key k (λ e. omega arith)) (member-find k v (suc r.key) l hi h.1 m)

-- a key that is found nowhere, and back
pub none-member : (k : ℕ) (l : List Rec) → find k l ≡ None → (v : List ℕ) → Member (rec_of k v) l → ⊥
unfolding find
none-member k [] e v m = m
none-member k (r ∷ l) e v m = go (eqb r.key k) refl e m (none-member k l)
  where
    go : (t : Bool) → eqb r.key k ≡ t → pick t (Some r.value) (find k l) ≡ None → Member (rec_of k v) (r ∷ l) → (find k l ≡ None → (w : List ℕ) → Member (rec_of k w) l → ⊥) → ⊥
    go true c f n g = let z : ◌≡◌ {A = ℕ} 0 1 = cc in omega arith
    go false c f (inl q) g = eqb-false r.key k c (ap (λ (x : Rec). x.key) (sym q))
    go false c f (inr n) g = g f v n

pub member-none : (k : ℕ) (l : List Rec) → ((v : List ℕ) → Member (rec_of k v) l → ⊥) → find k l ≡ None
member-none k l h = go (find k l) refl
  where
    go : (a : Option (List ℕ)) → find k l ≡ a → a ≡ None
    go None e = refl
    go (Some v) e = absurd (h v (find-member k v l e))

-- ---- the smallest key above k

abbrev TellsNext : ℕ → List Rec → Result (Option ℕ) Refusal → Type 0
TellsNext k l (Ok (Some j)) = Smallest k j l
TellsNext k l (Ok None) = AtMost k l
TellsNext k l (Err r) = ⊥

tells-next : (k lo : ℕ) (l : List Rec) (hi : ℕ) → Rising lo l hi → TellsNext k l (above k l)
unfolding above
tells-next k lo [] hi h = λ r m. absurd m
tells-next k lo (x ∷ l) hi h = go (ltb k x.key) refl (tells-next k (suc x.key) l hi h.1)
  where
    past : (r : Rec) → Member r l → x.key < r.key
    past r m = member-all (λ (y : Rec). suc x.key ≤ y.key) r l (rising-from (suc x.key) l hi h.1) m

    on : (a : Result (Option ℕ) Refusal) → x.key ≤ k → TellsNext k l a → TellsNext k (x ∷ l) a
    on (Ok (Some j)) q t = record { rec = t.rec; member = inr t.member; is = t.is; over = t.over; least = least }
      where
        least : (r : Rec) → Member r (x ∷ l) → k < r.key → j ≤ r.key
        least r (inl e) o = absurd (omega (arith, ap (λ (y : Rec). y.key) e))
        least r (inr m) o = t.least r m o
    on (Ok None) q t = most
      where
        most : (r : Rec) → Member r (x ∷ l) → r.key ≤ k
        most r (inl e) = omega (arith, ap (λ (y : Rec). y.key) e)
        most r (inr m) = t r m
    on (Err r) q t = t

    go : (t : Bool) → ltb k x.key ≡ t → TellsNext k l (above k l) → TellsNext k (x ∷ l) (above k (x ∷ l))
    go true c t =
        subst (TellsNext k (x ∷ l)) (sym (above-first k x l (ltb-true k x.key c)))
        (record { rec = x; member = inl refl; is = refl; over = ltb-true k x.key c; least = least })
      where
        least : (r : Rec) → Member r (x ∷ l) → k < r.key → x.key ≤ r.key
        least r (inl e) o = omega (arith, ap (λ (y : Rec). y.key) e)
        least r (inr m) o = omega (arith, past r m)
    go false c t = let q = ltb-false k x.key c in subst (TellsNext k (x ∷ l)) (sym (above-skip k x l q)) (on (above k l) q t)

module _ (k lo : ℕ) (l : List Rec) (hi : ℕ) (h : Rising lo l hi) where
  pub above-smallest : (j : ℕ) → above k l ≡ Ok (Some j) → Smallest k j l
  above-smallest j e = subst (TellsNext k l) e (tells-next k lo l hi h)

  pub above_most : above k l ≡ Ok None → AtMost k l
  above_most e = subst (TellsNext k l) e (tells-next k lo l hi h)

  pub above-answers : (r : Refusal) → above k l ≡ Err r → ⊥
  above-answers r e = subst (TellsNext k l) e (tells-next k lo l hi h)

  pub smallest-above : (j : ℕ) → Smallest k j l → above k l ≡ Ok (Some j)
  smallest-above j s = go (above k l) (tells-next k lo l hi h)
    where
      go : (a : Result (Option ℕ) Refusal) → TellsNext k l a → a ≡ Ok (Some j)
      go (Ok (Some i)) t =
          let e : i ≡ j = omega (arith, s.least t.rec t.member (omega (arith, t.is, t.over)), t.least s.rec s.member (omega (arith, s.is, s.over)), s.is, t.is) in
          ap (λ (i : ℕ). Ok (Some i)) e
      go (Ok None) t = absurd (omega (arith, t s.rec s.member, s.is, s.over))
      go (Err r) t = absurd t

  pub most-above : AtMost k l → above k l ≡ Ok None
  most-above m = go (above k l) (tells-next k lo l hi h)
    where
      go : (a : Result (Option ℕ) Refusal) → TellsNext k l a → a ≡ Ok None
      go (Ok (Some i)) t = absurd (omega (arith, m t.rec t.member, t.is, t.over))
      go (Ok None) t = refl
      go (Err r) t = absurd t
