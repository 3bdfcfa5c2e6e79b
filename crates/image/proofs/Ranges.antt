-- The pages that a page names, each with its range of keys: their ranges joined, taken apart and widened, a test of each of them, and what they say one after the other.
-- Assumes nothing.
use Prim.Native.Nat.{ℕ, suc, ◌≤◌}
use mathlib.Core.Path.{◌≡◌, refl, sym, ap, ap₂, ◌∙◌}
use mathlib.Core.Bool.{Bool, true}
use mathlib.Core.List.{List, [], ◌∷◌, ◌++◌, map, append_assoc}
use native.Mathlib.Omega.{arith}
use Rattle.codec.specs.Lists.{all_b, All}
use Rattle.codec.proofs.Tests.{both, first, second}
use Rattle.page.specs.Layout.{Rec}
use Rattle.image.specs.Image.{child_of, first_key, start_of, places, joined}
use Rattle.image.specs.Facts.{Rising, Spans}
use Rattle.image.specs.declared.Place.{Place}
use Rattle.image.proofs.General.{map-append, All-append, All-left, All-right}
use Rattle.image.proofs.Rising.{rising_le, rising-append}

-- ---- where the first of them ends

pub rising-first : (lo : ℕ) (cs : List Rec) (hi : ℕ) → Rising lo cs hi → Rising (first_key cs hi) cs hi
rising-first lo [] hi h = omega arith
rising-first lo (c ∷ cs) hi h = (omega arith, h.1)

pub first-least : (lo : ℕ) (cs : List Rec) (hi : ℕ) → Rising lo cs hi → lo ≤ first_key cs hi
first-least lo [] hi h = h
first-least lo (c ∷ cs) hi h = h.0

pub first-most : (lo : ℕ) (cs : List Rec) (hi : ℕ) → Rising lo cs hi → first_key cs hi ≤ hi
first-most lo [] hi h = omega arith
first-most lo (c ∷ cs) hi h = omega (arith, rising_le (suc c.key) cs hi h.1)

-- ---- P of each of them

module _ (P : ℕ → ℕ → ℕ → Type 0) where
  pub spans-append : (lo : ℕ) (a b : List Rec) (hi : ℕ) → Spans P lo a (first_key b hi) → Spans P (start_of a lo (first_key b hi)) b hi → Spans P lo (a ++ b) hi
  spans-append lo [] b hi h k = k
  spans-append lo (x ∷ []) b hi h k = (h.0, k)
  spans-append lo (x ∷ y ∷ a) b hi h k = (h.0, spans-append y.key (y ∷ a) b hi h.1 k)

  pub spans-cut : (lo : ℕ) (a b : List Rec) (hi : ℕ) → Spans P lo (a ++ b) hi → Spans P lo a (first_key b hi) × Spans P (start_of a lo (first_key b hi)) b hi
  spans-cut lo [] b hi h = (tt, h)
  spans-cut lo (x ∷ []) b hi h = ((h.0, tt), h.1)
  spans-cut lo (x ∷ y ∷ a) b hi h = let t = spans-cut y.key (y ∷ a) b hi h.1 in ((h.0, t.0), t.1)

  pub spans-map : (Q : ℕ → ℕ → ℕ → Type 0) (lo : ℕ) (cs : List Rec) (hi : ℕ) → All (λ (c : Rec). (a b : ℕ) → P a b (child_of c) → Q a b (child_of c)) cs → Spans P lo cs hi → Spans Q lo cs hi
  spans-map Q lo [] hi f h = tt
  spans-map Q lo (c ∷ cs) hi f h = (f.0 lo (first_key cs hi) h.0, spans-map Q (first_key cs hi) cs hi f.1 h.1)

  -- where P holds of wider ranges too
  module _ (wide : (lo hi lo' hi' x : ℕ) → lo' ≤ lo → hi ≤ hi' → P lo hi x → P lo' hi' x) where
    pub spans-lo : (lo lo' : ℕ) (cs : List Rec) (hi : ℕ) → lo' ≤ lo → Spans P lo cs hi → Spans P lo' cs hi
    spans-lo lo lo' [] hi q h = tt
    spans-lo lo lo' (c ∷ cs) hi q h = (wide lo (first_key cs hi) lo' (first_key cs hi) (child_of c) q (omega arith) h.0, h.1)

    pub spans-hi : (lo : ℕ) (cs : List Rec) (hi hi' : ℕ) → hi ≤ hi' → Spans P lo cs hi → Spans P lo cs hi'
    spans-hi lo [] hi hi' q h = tt
    spans-hi lo (c ∷ []) hi hi' q h = (wide lo hi lo hi' (child_of c) (omega arith) q h.0, tt)
    spans-hi lo (c ∷ d ∷ cs) hi hi' q h = (h.0, spans-hi d.key (d ∷ cs) hi hi' q h.1)

  -- a test of each place stands for P of each page with its range
  module _ (f : Place → Bool) where
    pub each-facts : ((a b x : ℕ) → a ≤ b → f (record { page = x; from = a; below = b }) ≡ true → P a b x) → (lo : ℕ) (cs : List Rec) (hi : ℕ) → Rising lo cs hi →
        all_b f (places lo cs hi) ≡ true → Spans P lo cs hi
    unfolding places all_b
    each-facts g lo [] hi r z = tt
    each-facts g lo (c ∷ cs) hi r z =
        let here : Bool = f (record { page = child_of c; from = lo; below = first_key cs hi }) in
        let rest : Bool = all_b f (places (first_key cs hi) cs hi) in (
          g lo (first_key cs hi) (child_of c) (omega (arith, r.0, first-least (suc c.key) cs hi r.1)) (first here rest z),
          each-facts g (first_key cs hi) cs hi (rising-first (suc c.key) cs hi r.1) (second here rest z),
        )

    pub facts-each : ((a b x : ℕ) → P a b x → f (record { page = x; from = a; below = b }) ≡ true) → (lo : ℕ) (cs : List Rec) (hi : ℕ) → Spans P lo cs hi → all_b f (places lo cs hi) ≡ true
    unfolding places all_b
    facts-each g lo [] hi h = refl
    facts-each g lo (c ∷ cs) hi h = both (g lo (first_key cs hi) (child_of c) h.0) (facts-each g (first_key cs hi) cs hi h.1)

  -- the keys that the pages list rise
  pub spans-rising : (f : ℕ → List Rec) → ((a b x : ℕ) → P a b x → Rising a (f x) b) → (lo : ℕ) (cs : List Rec) (hi : ℕ) → Rising lo cs hi → Spans P lo cs hi → Rising lo (joined f cs) hi
  spans-rising f g lo [] hi s h = s
  spans-rising f g lo (c ∷ cs) hi s h =
      rising-append lo (f (child_of c)) (first_key cs hi) (joined f cs) hi (g lo (first_key cs hi) (child_of c) h.0)
      (spans-rising f g (first_key cs hi) cs hi (rising-first (suc c.key) cs hi s.1) h.1)

  -- what holds of all that a page says holds of all that they say
  pub spans_all : {A : Type 0} (Q : A → Type 0) (f : ℕ → List A) → ((a b x : ℕ) → P a b x → All Q (f x)) → (lo : ℕ) (cs : List Rec) (hi : ℕ) → Spans P lo cs hi → All Q (joined f cs)
  spans_all Q f g lo [] hi h = tt
  spans_all Q f g lo (c ∷ cs) hi h =
      All-append Q (f (child_of c)) (joined f cs) (g lo (first_key cs hi) (child_of c) h.0) (spans_all Q f g (first_key cs hi) cs hi h.1)

-- ---- what they say

module _ {A : Type 0} (f : ℕ → List A) where
  pub joined-append : (a b : List Rec) → joined f (a ++ b) ≡ joined f a ++ joined f b
  joined-append [] b = refl
  joined-append (c ∷ a) b = ap (λ (l : List A). f (child_of c) ++ l) (joined-append a b) ∙ sym (append_assoc (f (child_of c)) (joined f a) (joined f b))

  pub joined-map : {B : Type 0} (g : A → B) (cs : List Rec) → map g (joined f cs) ≡ joined (λ x. map g (f x)) cs
  joined-map g [] = refl
  joined-map {B} g (c ∷ cs) = map-append g (f (child_of c)) (joined f cs) ∙ ap (λ (l : List B). map g (f (child_of c)) ++ l) (joined-map g cs)

  pub joined_same : (g : ℕ → List A) (cs : List Rec) → All (λ (c : Rec). f (child_of c) ≡ g (child_of c)) cs → joined f cs ≡ joined g cs
  joined_same g [] e = refl
  joined_same g (c ∷ cs) e = ap₂ (λ (x y : List A). x ++ y) e.0 (joined_same g cs e.1)

  -- what holds of all that f says of a page follows from what holds of all that g says of it
  pub joined-all : {B : Type 0} (g : ℕ → List B) (P : A → Type 0) (Q : B → Type 0) → ((x : ℕ) → All P (f x) → All Q (g x)) → (cs : List Rec) → All P (joined f cs) → All Q (joined g cs)
  joined-all g P Q t [] h = tt
  joined-all g P Q t (c ∷ cs) h =
      All-append Q (g (child_of c)) (joined g cs) (t (child_of c) (All-left P (f (child_of c)) (joined f cs) h)) (joined-all g P Q t cs (All-right P (f (child_of c)) (joined f cs) h))
