-- Leaves take records in key order, each as many as 28 records and 960 bytes allow: the definition does that, and nothing else does.
-- Assumes nothing.
use Prim.Native.Nat.{suc, ◌+◌, ◌≤◌, ◌<◌}
use mathlib.Core.Path.{◌≡◌, refl, sym, ap, ◌∙◌, subst}
use mathlib.Core.Bool.{Bool, true, false}
use mathlib.Core.Logic.{◌⊎◌, inl, inr}
use mathlib.Core.List.{List, [], ◌∷◌, ◌++◌, append_assoc, append-nil}
use native.Mathlib.Omega.{arith}
use native.Mathlib.Decide.{dec_lt}
use lib.ListN.{length, length-append}
use borrow.Author.Tests.{le-leb, lt-leb}
use Rattle.codec.specs.Lists.{All}
use Rattle.codec.proofs.Tests.{All-map}
use Rattle.page.specs.Layout.{slot_count, top_key, Rec, size}
use Rattle.page.specs.Page.{RecOk}
use Rattle.page.specs.Operations.{sizes, fits_page, OnePage, TwoPages}
use Rattle.page.proofs.Totals.{size-most, sizes-append, one-page, two-pages}
use Rattle.image.specs.Facts.{Rising}
use Rattle.image.specs.Fresh.{index_count, all_records, Storable}
use Rattle.image.proofs.General.{All-left, All-right}
use Rattle.merge.specs.Leaves.{packed, leaves_of, Fullest, Packed}
use Rattle.merge.specs.Cursors.{takes}

-- ---- one record more

pub length_last : (l : List Rec) (r : Rec) → length (l ++ (r ∷ [])) ≡ suc (length l)
length_last l r = omega (arith, length-append l (r ∷ []))

pub sizes-last : (l : List Rec) (r : Rec) → sizes (l ++ (r ∷ [])) ≡ sizes l + size r
unfolding sizes
sizes-last l r = omega (arith, sizes-append l (r ∷ []))

pub fits-takes : (l : List Rec) (r : Rec) → fits_page (l ++ (r ∷ [])) ≡ takes (length l) (sizes l) (size r)
unfolding takes
fits-takes l r = rw (length_last l r, sizes-last l r)

-- a page holds one record
pub one-alone : (r : Rec) → RecOk r → OnePage (r ∷ [])
unfolding sizes
one-alone r k = record { few = omega arith; small = omega (arith, size-most r k) }

-- and the first of those that it holds
one-front : (l m : List Rec) → OnePage (l ++ m) → OnePage l
one-front l m o = record { few = omega (arith, o.few, length-append l m); small = omega (arith, o.small, sizes-append l m) }

-- ---- the definition's step

pub packed-end : (l : List Rec) → packed l [] ≡ l ∷ []
unfolding packed
packed-end l = refl

pub packed-takes : (l : List Rec) (r : Rec) (rs : List Rec) → OnePage (l ++ (r ∷ [])) → packed l (r ∷ rs) ≡ packed (l ++ (r ∷ [])) rs
unfolding packed
packed-takes l r rs o =
    let few : length (l ++ (r ∷ [])) ≤ 28 = o.few in
    let small : sizes (l ++ (r ∷ [])) ≤ 960 = o.small in
    rw (le-leb, le-leb)

pub packed-closes : (l : List Rec) (r : Rec) (rs : List Rec) → TwoPages (l ++ (r ∷ [])) → packed l (r ∷ rs) ≡ l ∷ packed (r ∷ []) rs
unfolding packed
packed-closes l r rs (inl many) = rw lt-leb
packed-closes l r rs (inr large) = go (dec_lt 28 (length (l ++ (r ∷ []))))
  where
    go : Dec (28 < length (l ++ (r ∷ []))) → packed l (r ∷ rs) ≡ l ∷ packed (r ∷ []) rs
    go (yes many) = rw lt-leb
    go (no h) = let few : length (l ++ (r ∷ [])) ≤ 28 = omega arith in rw (le-leb, lt-leb)

-- a leaf takes a record that fits; else it is closed, and the next starts with the record
pub packed_step : (P : List (List Rec) → Type 0) (l : List Rec) (r : Rec) (rs : List Rec) → (OnePage (l ++ (r ∷ [])) → P (packed (l ++ (r ∷ [])) rs)) →
    (TwoPages (l ++ (r ∷ [])) → P (l ∷ packed (r ∷ []) rs)) → P (packed l (r ∷ rs))
packed_step P l r rs f g = go (fits_page (l ++ (r ∷ []))) refl
  where
    go : (t : Bool) → fits_page (l ++ (r ∷ [])) ≡ t → P (packed l (r ∷ rs))
    go true e = let o = one-page (l ++ (r ∷ [])) e in subst P (sym (packed-takes l r rs o)) (f o)
    go false e = let o = two-pages (l ++ (r ∷ [])) e in subst P (sym (packed-closes l r rs o)) (g o)

-- the first leaf takes the first record
pub packed-starts : (r : Rec) (rs : List Rec) → RecOk r → packed [] (r ∷ rs) ≡ packed (r ∷ []) rs
packed-starts r rs k = packed-takes [] r rs (one-alone r k)

-- ---- what the leaves hold

packed-order : (l rs : List Rec) → all_records (packed l rs) ≡ l ++ rs
unfolding all_records
packed-order l [] = ap all_records (packed-end l)
packed-order l (r ∷ rs) =
    packed_step (λ (ls : List (List Rec)). all_records ls ≡ l ++ (r ∷ rs)) l r rs (λ c. packed-order (l ++ (r ∷ [])) rs ∙ append_assoc l (r ∷ []) rs)
    (λ c. ap (λ (m : List Rec). l ++ m) (packed-order (r ∷ []) rs))

packed-count : (l rs : List Rec) → 1 ≤ length (packed l rs)
packed-count l [] = subst (λ (ls : List (List Rec)). 1 ≤ length ls) (sym (packed-end l)) (omega arith)
packed-count l (r ∷ rs) = packed_step (λ (ls : List (List Rec)). 1 ≤ length ls) l r rs (λ c. packed-count (l ++ (r ∷ [])) rs) (λ c. omega arith)

module _ (P : List Rec → Type 0) where
  -- what holds of the first leaf as it stands, and goes on holding, holds of every leaf
  packed_all : (l rs : List Rec) → P l → ((m : List Rec) (r : Rec) → P m → OnePage (m ++ (r ∷ [])) → P (m ++ (r ∷ []))) → All (λ (r : Rec). P (r ∷ [])) rs → All P (packed l rs)
  packed_all l [] p f k = subst (All P) (sym (packed-end l)) (p, tt)
  packed_all l (r ∷ rs) p f k =
      packed_step (All P) l r rs (λ c. packed_all (l ++ (r ∷ [])) rs (f l r p c) f k.1) (λ c. (p, packed_all (r ∷ []) rs k.0 f k.1))

-- leaves of which the first starts with r
abbrev pub Starts : Rec → List (List Rec) → Type 0
Starts r [] = ⊥
Starts r ([] ∷ ls) = ⊥
Starts r ((x ∷ m) ∷ ls) = x ≡ r

pub packed-first : (r : Rec) (l rs : List Rec) → Starts r (packed (r ∷ l) rs)
packed-first r l [] = subst (Starts r) (sym (packed-end (r ∷ l))) refl
packed-first r l (s ∷ rs) = packed_step (Starts r) (r ∷ l) s rs (λ c. packed-first r (l ++ (s ∷ [])) rs) (λ c. refl)

-- a leaf is closed where the next record does not fit
closed-full : (l : List Rec) (r : Rec) (ls : List (List Rec)) → TwoPages (l ++ (r ∷ [])) → Starts r ls → Fullest ls → Fullest (l ∷ ls)
closed-full l r [] o s f = tt
closed-full l r ([] ∷ ls) o s f = s
closed-full l r ((x ∷ m) ∷ ls) o s f = (go o, f)
  where
    same : size x ≡ size r
    same = ap size s

    go : TwoPages (l ++ (r ∷ [])) → (28 < length l + 1) ⊎ (960 < sizes l + size x)
    go (inl h) = inl (omega (arith, h, length_last l r))
    go (inr h) = inr (omega (arith, h, sizes-last l r, same))

packed-full : (l rs : List Rec) → Fullest (packed l rs)
packed-full l [] = subst Fullest (sym (packed-end l)) tt
packed-full l (r ∷ rs) =
    packed_step Fullest l r rs (λ c. packed-full (l ++ (r ∷ [])) rs) (λ c. closed-full l r (packed (r ∷ []) rs) c (packed-first r [] rs) (packed-full (r ∷ []) rs))

pub leaves-fit : (rs : List Rec) → All RecOk rs → All OnePage (leaves_of rs)
unfolding leaves_of sizes
leaves-fit rs k = packed_all OnePage [] rs (record { few = omega arith; small = omega arith }) (λ m r p c. c) (All-map RecOk (λ (r : Rec). OnePage (r ∷ [])) one-alone rs k)

pub packed-is : (rs : List Rec) → All RecOk rs → Packed rs (leaves_of rs)
unfolding leaves_of
packed-is rs k =
    record {
      in_order = packed-order [] rs;
      some = packed-count [] rs;
      few = All-map OnePage (λ (l : List Rec). length l ≤ 28) (λ l o. o.few) (leaves_of rs) (leaves-fit rs k);
      small = All-map OnePage (λ (l : List Rec). sizes l ≤ 960) (λ l o. o.small) (leaves_of rs) (leaves-fit rs k);
      full = packed-full [] rs;
    }

abbrev Some : List Rec → Type 0
Some l = 1 ≤ length l

-- a leaf that has a record keeps it, and the others start with one: "no leaf is empty unless it is the only one"
packed-some : (r : Rec) (rs : List Rec) → All RecOk rs → All Some (packed (r ∷ []) rs)
packed-some r rs k =
    packed_all Some (r ∷ []) rs (omega arith) (λ m s p c. omega (arith, length_last m s)) (All-map RecOk (λ (s : Rec). Some (s ∷ [])) (λ s o. omega arith) rs k)

pub leaves-filled : (rs : List Rec) → All RecOk rs → (length (leaves_of rs) ≡ 1) ⊎ All (λ (l : List Rec). 1 ≤ length l) (leaves_of rs)
unfolding leaves_of
leaves-filled [] k = inl (ap length (packed-end []))
leaves-filled (r ∷ rs) k = inr (subst (All Some) (sym (packed-starts r rs k.0)) (packed-some r rs k.1))

-- ---- nothing else does

-- records that fit are taken all
pub packed-over : (l m rs : List Rec) → OnePage (l ++ m) → packed l (m ++ rs) ≡ packed (l ++ m) rs
packed-over l [] rs o = ap (λ (x : List Rec). packed x rs) (sym (append-nil l))
packed-over l (x ∷ m) rs o =
    let on : l ++ (x ∷ m) ≡ (l ++ (x ∷ [])) ++ m = sym (append_assoc l (x ∷ []) m) in
    let all : OnePage ((l ++ (x ∷ [])) ++ m) = subst OnePage on o in
    packed-takes l x (m ++ rs) (one-front (l ++ (x ∷ [])) m all) ∙ packed-over (l ++ (x ∷ [])) m rs all ∙ ap (λ (w : List Rec). packed w rs) (sym on)

-- a leaf whose next record would have been its 29th, or would have passed 960 bytes
passes : (l : List Rec) (r : Rec) → (28 < length l + 1) ⊎ (960 < sizes l + size r) → TwoPages (l ++ (r ∷ []))
passes l r (inl h) = inl (omega (arith, h, length_last l r))
passes l r (inr h) = inr (omega (arith, h, sizes-last l r))

-- the leaves after one that is filled
refilled : (l : List Rec) (ls : List (List Rec)) → All OnePage ls → Fullest (l ∷ ls) → packed l (all_records ls) ≡ l ∷ ls
unfolding all_records
refilled l [] o f = packed-end l
refilled l ([] ∷ ls) o f = absurd f
refilled l ((r ∷ m) ∷ ls) o f =
    packed-closes l r (m ++ all_records ls) (passes l r f.0)
    ∙ ap (λ (ms : List (List Rec)). l ∷ ms) (packed-over (r ∷ []) m (all_records ls) o.0 ∙ refilled (r ∷ m) ls o.1 f.1)

pages-one : (ls : List (List Rec)) → All (λ (l : List Rec). length l ≤ 28) ls → All (λ (l : List Rec). sizes l ≤ 960) ls → All OnePage ls
pages-one [] f s = tt
pages-one (l ∷ ls) f s = (record { few = f.0; small = s.0 }, pages-one ls f.1 s.1)

pub is-packed : (rs : List Rec) (ls : List (List Rec)) → Packed rs ls → ls ≡ leaves_of rs
unfolding leaves_of all_records
is-packed rs [] p = absurd (omega (arith, p.some))
is-packed rs (l ∷ ls) p =
    let o : All OnePage (l ∷ ls) = pages-one (l ∷ ls) p.few p.small in
    sym (packed-over [] l (all_records ls) o.0 ∙ refilled l ls o.1 p.full) ∙ ap (packed []) p.in_order

-- ---- a store can be made of them

pub all-parts : (P : Rec → Type 0) (ls : List (List Rec)) → All P (all_records ls) → All (All P) ls
unfolding all_records
all-parts P [] h = tt
all-parts P (l ∷ ls) h = (All-left P l (all_records ls) h, all-parts P ls (All-right P l (all_records ls) h))

pub packed-storable : (rs : List Rec) → All RecOk rs → Rising 1 rs (suc top_key) → index_count (length (leaves_of rs)) ≤ slot_count → Storable (leaves_of rs)
packed-storable rs k up few =
    let p = packed-is rs k in
    record {
      some = p.some;
      few = few;
      good = all-parts RecOk (leaves_of rs) (subst (All RecOk) (sym p.in_order) k);
      fit = leaves-fit rs k;
      filled = leaves-filled rs k;
      rising = subst (λ (l : List Rec). Rising 1 l (suc top_key)) (sym p.in_order) up;
    }
