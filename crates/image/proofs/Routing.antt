-- Routing by separators: the pages before the routed one list smaller keys, those after it larger ones.
-- Assumes nothing.
use Rattle.std.specs.Prelude.{None, Ok, Some}
use Prim.Native.Nat.{ℕ, suc, ◌+◌, ◌≤◌, ◌<◌}
use mathlib.Core.Path.{◌≡◌, refl, sym, ap, ◌∙◌, subst}
use mathlib.Core.Logic.{◌⊎◌, inl, inr}
use mathlib.Core.Bool.{Bool, true, false}
use mathlib.Core.List.{List, [], ◌∷◌, ◌++◌, map}
use native.Mathlib.Omega.{arith}
use native.Mathlib.Nat.{not-suc-le-zero}
use lib.ListN.{length, get_or, take, drop}
use lib.Dec.{leb, ltb, eqb}
use borrow.Author.Tests.{leb-true, leb-false, lt-leb, lt-ltb, le-ltb, ne_eqb}
use Rattle.codec.specs.Lists.{All, pick}
use Rattle.codec.proofs.Tests.{All-map}
use Rattle.page.specs.Layout.{Rec}
use Rattle.page.specs.Page.{Entry}
use Rattle.image.specs.Image.{joined, first_key, start_of}
use Rattle.image.specs.Facts.{Rising, Spans}
use Rattle.image.specs.Table.{find, found_in, above, or_else}
use Rattle.image.specs.Route.{last_from, route}
use Rattle.image.proofs.General.{All-unmap}
use Rattle.image.proofs.Rising.{From, Below, rising-hi, rising-from, rising-below, rising-split}
use Rattle.image.proofs.Ranges.{rising-first, spans-cut, spans-rising}

-- ---- the routed place

-- the last place of a separator not above k, among those from place i on: d where there is none
record LastIn (k d i : ℕ) (cs : List Rec) (z : Rec) : Type 0 where
  at : ℕ
  inside : at < length cs
  is : last_from k d i cs ≡ i + at
  low : (get_or cs at z).key ≤ k
  high : k < first_key (drop (suc at) cs) (suc k)

-- no separator from lo on counts where k is below lo
beyond : (k d i lo : ℕ) (cs : List Rec) (hi : ℕ) → k < lo → Rising lo cs hi → last_from k d i cs ≡ d
unfolding last_from
beyond k d i lo [] hi q h = refl
beyond k d i lo (c ∷ cs) hi q h = rw (lt-leb c.key k (omega (arith, h.0))) (beyond k d (suc i) (suc c.key) cs hi (omega (arith, h.0)) h.1)

last-from : (k d i lo : ℕ) (cs : List Rec) (hi : ℕ) (z : Rec) → Rising lo cs hi → ((last_from k d i cs ≡ d) × (k < first_key cs (suc k))) ⊎ LastIn k d i cs z
unfolding last_from
last-from k d i lo [] hi z h = inl (refl, omega arith)
last-from k d i lo (c ∷ cs) hi z h = go (leb c.key k) refl (last-from k i (suc i) (suc c.key) cs hi z h.1)
  where
    go : (t : Bool) → leb c.key k ≡ t → ((last_from k i (suc i) cs ≡ i) × (k < first_key cs (suc k))) ⊎ LastIn k i (suc i) cs z →
        ((last_from k d i (c ∷ cs) ≡ d) × (k < first_key (c ∷ cs) (suc k))) ⊎ LastIn k d i (c ∷ cs) z
    go true e (inl r) = inr (record { at = 0; inside = omega arith; is = rw e (omega (arith, r.0)); low = leb-true c.key k e; high = r.1 })
    go true e (inr r) = inr (record { at = suc r.at; inside = omega (arith, r.inside); is = rw e (omega (arith, r.is)); low = r.low; high = r.high })
    go false e r =
        let q : k < c.key = leb-false c.key k e in
        inl (rw e (beyond k d (suc i) (suc c.key) cs hi (omega arith) h.1), q)

-- "A key belongs to the last leaf whose separator is not above it, else to the first."
pub record Routed (k : ℕ) (cs : List Rec) (z : Rec) : Type 0 where
  pub inside : route k cs < length cs
  pub low : start_of (take (route k cs) cs) 0 (get_or cs (route k cs) z).key ≤ k
  pub high : k < first_key (drop (suc (route k cs)) cs) (suc k)

pub routed : (k lo : ℕ) (cs : List Rec) (hi : ℕ) (z : Rec) → Rising lo cs hi → 1 ≤ length cs → Routed k cs z
unfolding route last_from
routed k lo [] hi z h filled = absurd (omega arith)
routed k lo (c ∷ cs) hi z h filled = go (last-from k 0 1 (suc c.key) cs hi z h.1)
  where
    start : (t : Bool) → ◌≡◌ {A = ℕ} (pick t 0 0) 0
    start true = refl
    start false = refl

    at : (i : ℕ) → last_from k 0 1 cs ≡ i → i < suc (length cs) → start_of (take i (c ∷ cs)) 0 (get_or (c ∷ cs) i z).key ≤ k →
        k < first_key (drop (suc i) (c ∷ cs)) (suc k) → Routed k (c ∷ cs) z
    at i e inside low high =
        let f : route k (c ∷ cs) ≡ i = ap (λ (d : ℕ). last_from k d 1 cs) (start (leb c.key k)) ∙ e in
        record {
          inside = omega arith;
          low = subst (λ (j : ℕ). start_of (take j (c ∷ cs)) 0 (get_or (c ∷ cs) j z).key ≤ k) (sym f) low;
          high = subst (λ (j : ℕ). k < first_key (drop (suc j) (c ∷ cs)) (suc k)) (sym f) high;
        }

    go : ((last_from k 0 1 cs ≡ 0) × (k < first_key cs (suc k))) ⊎ LastIn k 0 1 cs z → Routed k (c ∷ cs) z
    go (inl r) = at 0 r.0 (omega arith) (omega arith) r.1
    go (inr r) = at (suc r.at) (r.is ∙ omega arith) (omega (arith, r.inside)) r.low r.high

-- ---- a lookup

-- the first element whose key is k, as `find` and `found_in` look for it
module _ {A : Type 0} {B : Type 0} (key : A → ℕ) (answer : A → B) (nothing : B) (k : ℕ) where
  abbrev pub seek : List A → B
  seek [] = nothing
  seek (x ∷ l) = pick (eqb (key x) k) (answer x) (seek l)

  abbrev pub Lacks : List A → Type 0
  Lacks l = All (λ (x : A). key x ≡ k → ⊥) l

  pub seek-lacks : (l : List A) → Lacks l → seek l ≡ nothing
  seek-lacks [] h = refl
  seek-lacks (x ∷ l) h = rw (ne_eqb (key x) k h.0) (seek-lacks l h.1)

  seek-skip : (a b : List A) → Lacks a → seek (a ++ b) ≡ seek b
  seek-skip [] b h = refl
  seek-skip (x ∷ a) b h = rw (ne_eqb (key x) k h.0) (seek-skip a b h.1)

  seek_stop : (a b : List A) → Lacks b → seek (a ++ b) ≡ seek a
  seek_stop [] b h = seek-lacks b h
  seek_stop (x ∷ a) b h = ap (pick (eqb (key x) k) (answer x)) (seek_stop a b h)

  -- only the middle one of three lists may have the key
  pub seek-middle : (a b c : List A) → Lacks a → Lacks c → seek (a ++ (b ++ c)) ≡ seek b
  seek-middle a b c h g = seek-skip a (b ++ c) h ∙ seek_stop b c g

pub find-seek : (k : ℕ) (l : List Rec) → find k l ≡ seek (λ (r : Rec). r.key) (λ (r : Rec). Some r.value) None k l
unfolding find
find-seek k [] = refl
find-seek k (r ∷ l) = ap (pick (eqb r.key k) (Some r.value)) (find-seek k l)

pub found-seek : (k : ℕ) (es : List Entry) → found_in k es ≡ seek (λ (e : Entry). e.rec.key) (λ (e : Entry). Ok (Some (record { offset = e.at + 16; length = length e.rec.value }))) (Ok None) k es
unfolding found_in
found-seek k [] = refl
found-seek k (e ∷ es) = ap (pick (eqb e.rec.key k) (Ok (Some (record { offset = e.at + 16; length = length e.rec.value })))) (found-seek k es)

-- ---- a next key

-- a key that is not above k is passed over, one that is answers
pub above-skip : (k : ℕ) (r : Rec) (l : List Rec) → r.key ≤ k → above k (r ∷ l) ≡ above k l
unfolding above
above-skip k r l h = rw le-ltb

pub above-first : (k : ℕ) (r : Rec) (l : List Rec) → k < r.key → above k (r ∷ l) ≡ Ok (Some r.key)
unfolding above
above-first k r l h = rw lt-ltb

pub above-append : (k : ℕ) (a b : List Rec) → above k (a ++ b) ≡ or_else (above k a) (above k b)
unfolding above
above-append k [] b = refl
above-append k (r ∷ a) b = go (ltb k r.key) (above-append k a b)
  where
    go : (t : Bool) → above k (a ++ b) ≡ or_else (above k a) (above k b) → pick t (Ok (Some r.key)) (above k (a ++ b)) ≡ or_else (pick t (Ok (Some r.key)) (above k a)) (above k b)
    go true e = refl
    go false e = e

pub above-none : (k : ℕ) (l : List Rec) → Below l (suc k) → above k l ≡ Ok None
unfolding above
above-none k [] h = refl
above-none k (r ∷ l) h = above-skip k r l (omega (arith, h.0)) ∙ above-none k l h.1

-- it answers its first key, whatever follows it
pub after-answers : (k : ℕ) (l m : List Rec) (z : Rec) → 1 ≤ length l → From (suc k) l → above k (l ++ m) ≡ Ok (Some (get_or l 0 z).key)
after-answers k [] m z q f = absurd (not-suc-le-zero q)
after-answers k (r ∷ l) m z q f = above-first k r (l ++ m) f.0

-- ---- the pages before the routed one list smaller keys, those after it larger ones

-- pages of any kind: f says what a page lists, in its range
module _ (P : ℕ → ℕ → ℕ → Type 0) (f : ℕ → List Rec) (rises : (a b x : ℕ) → P a b x → Rising a (f x) b) (lo : ℕ) (pre : List Rec) (c : Rec) (post : List Rec) (hi : ℕ)
    (seps : Rising lo (pre ++ c ∷ post) hi) (spans : Spans P lo (pre ++ c ∷ post) hi) (k : ℕ) where
  pub pages-before : start_of pre lo c.key ≤ k → Below (joined f pre) k
  pages-before low = go pre (rising-split lo pre (c ∷ post) hi seps).0 (spans-cut P lo pre (c ∷ post) hi spans).0 low
    where
      go : (ps : List Rec) → Rising lo ps c.key → Spans P lo ps c.key → start_of ps lo c.key ≤ k → Below (joined f ps) k
      go [] r s l = tt
      go (p ∷ ps) r s l = rising-below lo (joined f (p ∷ ps)) k (rising-hi lo (joined f (p ∷ ps)) c.key k l (spans-rising P f rises lo (p ∷ ps) c.key r s))

  pub pages-after : k < first_key post (suc k) → From (suc k) (joined f post)
  pages-after high = go post (rising-split lo pre (c ∷ post) hi seps).1.1 (spans-cut P lo pre (c ∷ post) hi spans).1.1 high
    where
      go : (ps : List Rec) → Rising (suc c.key) ps hi → Spans P (first_key ps hi) ps hi → k < first_key ps (suc k) → From (suc k) (joined f ps)
      go [] r s q = tt
      go (d ∷ ps) r s q =
          All-map (λ (r : Rec). d.key ≤ r.key) (λ (r : Rec). suc k ≤ r.key) (λ r le. omega arith) (joined f (d ∷ ps))
          (rising-from d.key (joined f (d ∷ ps)) hi (spans-rising P f rises d.key (d ∷ ps) hi (rising-first (suc c.key) (d ∷ ps) hi r) s))

-- so only the middle one of three lists may have the key
module _ {A B : Type 0} (rec : A → Rec) (answer : A → B) (nothing : B) (k : ℕ) where
  pub seek-between : (a b d : List A) → Below (map rec a) k → From (suc k) (map rec d) →
      seek (λ (x : A). (rec x).key) answer nothing k (a ++ (b ++ d)) ≡ seek (λ (x : A). (rec x).key) answer nothing k b
  seek-between a b d low high =
      seek-middle (λ (x : A). (rec x).key) answer nothing k a b d
      (All-map (λ (x : A). (rec x).key < k) (λ (x : A). (rec x).key ≡ k → ⊥) (λ x q e. omega arith) a (All-unmap rec (λ (r : Rec). r.key < k) a low))
      (All-map (λ (x : A). suc k ≤ (rec x).key) (λ (x : A). (rec x).key ≡ k → ⊥) (λ x q e. omega arith) d (All-unmap rec (λ (r : Rec). suc k ≤ r.key) d high))
