-- How many leaves the records of two books fill: one leaf at a time, by what is left of both.
-- Assumes nothing.
use Rattle.std.specs.Prelude.{Result, Err, Ok}
use Prim.Native.Nat.{ℕ, suc, ◌+◌, ◌-◌, ◌≤◌, ◌<◌}
use mathlib.Core.Path.{◌≡◌, refl, sym, ap, ◌∙◌}
use mathlib.Core.Bool.{Bool, true, false}
use mathlib.Core.List.{List, [], ◌∷◌, ◌++◌}
use native.Mathlib.Omega.{arith}
use lib.ListN.{length}
use Rattle.device.specs.declared.Refusal.{Refusal}
use Rattle.device.specs.Calls.{key_in_both, refusal}
use Rattle.codec.specs.Lists.{pick}
use Rattle.page.specs.Layout.{page_size, line_size, top_key, Rec, size}
use Rattle.page.specs.Operations.{sizes, OnePage}
use Rattle.page.proofs.Totals.{size-most, one-page, two-pages}
use Rattle.image.specs.Image.{sound}
use Rattle.image.specs.Table.{table}
use Rattle.merge.specs.Tables.{merged, apart}
use Rattle.merge.specs.Leaves.{packed, leaves_of}
use Rattle.merge.specs.Cursors.{Ready, left_of, apart_at, Passed, takes}
use Rattle.merge.specs.declared.Cursors.{Cursors}
use Rattle.merge.proofs.Bounds.{few-merged}
use Rattle.merge.proofs.Coming.{next_of, ends-none, same-twice, next-ok, passed_is}
use Rattle.merge.proofs.Packing.{length_last, sizes-last, fits-takes, one-alone, packed-end, packed-takes, packed-closes}

-- ---- counting leaves

-- a leaf takes a record of z bytes, or is closed
pub takes_one : (l : List Rec) (r : Rec) (n s z : ℕ) → n ≡ length l → s ≡ sizes l → z ≡ size r → takes n s z ≡ true → OnePage (l ++ (r ∷ []))
takes_one l r n s z en es ez h = one-page (l ++ (r ∷ [])) (fits-takes l r ∙ rw (en, es, ez) at h)

pub closes-two : (l : List Rec) (r : Rec) (rs : List Rec) (n s z : ℕ) → n ≡ length l → s ≡ sizes l → z ≡ size r → takes n s z ≡ false → packed l (r ∷ rs) ≡ l ∷ packed (r ∷ []) rs
closes-two l r rs n s z en es ez h = packed-closes l r rs (two-pages (l ++ (r ∷ [])) (fits-takes l r ∙ rw (en, es, ez) at h))

-- so many leaves up to the place `at`, the last with n records of s bytes so far
pub record Counting (a b : List ℕ) (at : Cursors) (leaves n s : ℕ) : Type 0 where
  pub ready : Ready a b at
  pub still : apart_at a b at ≡ apart (table a) (table b)
  pub last : List Rec
  pub one : OnePage last
  pub count : n ≡ length last
  pub sum : s ≡ sizes last
  pub whole : leaves + length (packed last (left_of a b at)) ≡ 1 + length (leaves_of (merged (table a) (table b)))
  pub few : leaves + length (left_of a b at) ≤ 3585

pub count-starts : {a b : List ℕ} {at : Cursors} → (sound a ≡ true) × (sound b ≡ true) →
    Ready a b at × (left_of a b at ≡ merged (table a) (table b)) × (apart_at a b at ≡ apart (table a) (table b)) → Counting a b at 1 0 0
unfolding leaves_of sizes
count-starts {a = a} {b = b} h k =
    record {
      ready = k.0;
      still = k.2;
      last = [];
      one = record { few = omega arith; small = omega arith };
      count = refl;
      sum = refl;
      whole = ap (λ (l : List Rec). 1 + length (packed [] l)) k.1;
      few = omega (arith, ap length k.1, few-merged a b h.0 h.1);
    }

module _ {a b : List ℕ} {at : Cursors} {leaves n s : ℕ} (k : Counting a b at leaves n s) where
  pub small : s ≤ page_size - line_size
  small = omega (arith, k.sum, k.one.small)

  module _ (ne : at.first.key ≡ at.second.key → ⊥) {z : ℕ} (size_is : z ≡ size (next_of a b at)) where
    abbrev r : Rec
    r = next_of a b at

    pub next_small : z ≤ 216
    next_small = omega (arith, size_is, size-most r (next-ok k.ready ne))

    module _ {to : Cursors} (p : Passed a b at to) where
      is-next : left_of a b at ≡ r ∷ left_of a b to
      is-next = passed_is k.ready ne p

      pub count-takes : takes n s z ≡ true → Counting a b to leaves (n + 1) (s + z)
      count-takes h =
          let o = takes_one k.last r n s z k.count k.sum size_is h in
          record {
            ready = p.ready;
            still = p.still ∙ k.still;
            last = k.last ++ (r ∷ []);
            one = o;
            count = omega (arith, k.count, length_last k.last r);
            sum = omega (arith, k.sum, size_is, sizes-last k.last r);
            whole =
                ap (λ (ls : List (List Rec)). leaves + length ls)
                (sym (ap (packed k.last) is-next ∙ packed-takes k.last r (left_of a b to) o))
                ∙ k.whole;
            few = omega (arith, k.few, ap length is-next);
          }

      pub count-closes : takes n s z ≡ false → Counting a b to (leaves + 1) 1 z
      unfolding sizes
      count-closes h =
          let e : packed k.last (left_of a b at) ≡ k.last ∷ packed (r ∷ []) (left_of a b to) =
          ap (packed k.last) is-next ∙ closes-two k.last r (left_of a b to) n s z k.count k.sum size_is h in
          record {
            ready = p.ready;
            still = p.still ∙ k.still;
            last = r ∷ [];
            one = one-alone r (next-ok k.ready ne);
            count = refl;
            sum = omega (arith, size_is);
            whole = omega (arith, ap length e, k.whole);
            few = omega (arith, k.few, ap length is-next);
          }

  -- both are at the same key: it is in both, or all are counted
  module _ (e : at.first.key ≡ at.second.key) where
    pub count-twice : at.first.key < suc top_key → (Err (refusal key_in_both)) ≡ pick (apart (table a) (table b)) (Ok (length (leaves_of (merged (table a) (table b))))) (Err (refusal key_in_both))
    count-twice h = rw (sym k.still ∙ same-twice k.ready e h)

    pub count-ends : suc top_key ≤ at.first.key → Ok leaves ≡ pick (apart (table a) (table b)) (Ok (length (leaves_of (merged (table a) (table b))))) (Err (refusal key_in_both))
    count-ends h =
        let n = ends-none k.ready e h in
        let f : length (packed k.last (left_of a b at)) ≡ 1 = ap length (ap (packed k.last) n.0 ∙ packed-end k.last) in
        let g : leaves ≡ length (leaves_of (merged (table a) (table b))) = omega (arith, f, k.whole) in
        rw (sym k.still ∙ n.1) (ap Ok g)

-- ---- what was counted, by its answer

pub counted-both : (t : Bool) (n : ℕ) (r : Refusal) → ◌≡◌ {A = Result ℕ Refusal} (pick t (Ok n) (Err (refusal key_in_both))) (Err r) → (t ≡ false) × (refusal key_in_both ≡ r)
counted-both true n r e = let z : ◌≡◌ {A = ℕ} 0 1 = cc in absurd (omega arith)
counted-both false n r e = (refl, cc)

pub counted-leaves : (t : Bool) (n m : ℕ) → ◌≡◌ {A = Result ℕ Refusal} (pick t (Ok n) (Err (refusal key_in_both))) (Ok m) → (t ≡ true) × (m ≡ n)
counted-leaves true n m e = (refl, cc)
counted-leaves false n m e = let z : ◌≡◌ {A = ℕ} 0 1 = cc in absurd (omega arith)
