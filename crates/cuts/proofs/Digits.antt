-- Writing a choice by its number, the last line's first: what is left counts all choices of the lines written.
-- Assumes nothing.
use Prim.Native.Nat.{ℕ, zero, suc, ◌+◌, ◌-◌, ◌*◌, ◌/◌, ◌%◌, ◌≤◌, ◌<◌}
use mathlib.Core.Path.{◌≡◌, refl, sym, ap, ap₂, ◌∙◌, subst}
use mathlib.Core.Bool.{Bool, true, false}
use mathlib.Core.List.{List, [], ◌∷◌}
use native.Mathlib.Omega.{arith}
use native.Mathlib.Nat.{add-zero, add-suc, mul-one, one-mul, mul_assoc, add-mul, mul-le-mul_right, mod-lt, div-add-mod', div-one, mod-one}
use lib.ListN.{length, get_or, set, drop, length-set}
use lib.Seq.{drop-length, drop-cons, drop-set-lt, get_or-set_same, get_or-set_other, set-get_or}
use lib.Dec.{eqb}
use borrow.Author.Tests.{eqb-true, eqb-false}
use Rattle.cuts.specs.All.{choices_up_to}
use Rattle.cuts.specs.Products.{ways, Names}
use Rattle.cuts.proofs.Choices.{Within, rank, rank-at}

-- choice number r is written from the line `bound` on
pub record Digits (ms : List ℕ) (r left bound : ℕ) (ds : List ℕ) : Type 0 where
  pub inside : bound ≤ length ms
  pub within : Within ms ds
  pub total : left * ways (drop bound ms) + rank (drop bound ms) (drop bound ds) ≡ r
  pub unwritten : (l : ℕ) → l < bound → get_or ds l 0 ≡ 0

pub digits-start : (ms : List ℕ) (r : ℕ) (ds : List ℕ) → length ds ≡ length ms → ((l : ℕ) → get_or ds l 0 ≡ 0) → Digits ms r r (length ms) ds
unfolding ways rank
digits-start ms r ds e h =
    record {
      inside = omega arith;
      within = record { per_line = e; up_to = λ l. omega (arith, h l) };
      total = rw (drop-length ms) (omega (arith, mul-one r));
      unwritten = λ l k. h l;
    }

module _ (ms : List ℕ) (r left line : ℕ) (ds : List ℕ) (k : Digits ms r left (suc line) ds) where
  abbrev pub m : ℕ
  m = get_or ms line 0

  abbrev pub d : ℕ
  d = left % suc m

  there : line < length ds
  there = omega (arith, k.inside, k.within.per_line)

  next-rest : drop line (set ds line d) ≡ d ∷ drop (suc line) ds
  next-rest =
      drop-cons (set ds line d) line 0 (omega (arith, there, length-set ds line d))
      ∙ ap₂ (λ (x : ℕ) (xs : List ℕ). x ∷ xs) (get_or-set_same ds line d 0 there) (drop-set-lt (suc line) ds line d (omega arith))

  next-total : left / suc m * ways (drop line ms) + rank (drop line ms) (drop line (set ds line d)) ≡ r
  unfolding ways rank
  next-total =
      let W = ways (drop (suc line) ms) in
      let q = left / suc m in
      let split : left * W ≡ q * (suc m * W) + d * W =
      ap (λ (x : ℕ). x * W) (sym (div-add-mod' left (suc m))) ∙ add-mul (q * suc m) d W ∙ ap (λ (x : ℕ). x + d * W) (mul_assoc q (suc m) W) in
      rw (drop-cons ms line 0 (omega (arith, k.inside)), next-rest) (omega (arith, split, k.total))

  next-within : Within ms (set ds line d)
  next-within = record { per_line = length-set ds line d ∙ k.within.per_line; up_to = λ l. go l (eqb l line) refl }
    where
      go : (l : ℕ) (b : Bool) → eqb l line ≡ b → get_or (set ds line d) l 0 ≤ get_or ms l 0
      go l true e = let s : l ≡ line = eqb-true l line e in rw s (omega (arith, get_or-set_same ds line d 0 there, mod-lt left {m = suc m} (omega arith)))
      go l false e = omega (arith, get_or-set_other ds line l d 0 (eqb-false l line e), k.within.up_to l)

  -- one line more
  pub digits-line : Digits ms r (left / suc m) line (set ds line d)
  digits-line =
      record {
        inside = omega (arith, k.inside);
        within = next-within;
        total = next-total;
        unwritten = λ l h. get_or-set_other ds line l d 0 (λ e. omega arith) ∙ k.unwritten l (omega arith);
      }

  -- a line without pending stores is written already
  digits-none : m ≡ 0 → Digits ms r left line ds
  digits-none e =
      let one : left / suc m ≡ left = rw e (div-one left) in
      let same : set ds line d ≡ ds = ap (set ds line) (rw e (mod-one left) ∙ sym (k.unwritten line (omega arith))) ∙ set-get_or ds line 0 in
      subst (λ (x : List ℕ). Digits ms r left line x) same (subst (λ (x : ℕ). Digits ms r x line (set ds line d)) one digits-line)

skip : (ms : List ℕ) (r left : ℕ) (ds : List ℕ) (b j : ℕ) → Digits ms r left (b + j) ds → ((l : ℕ) → b ≤ l → l < b + j → get_or ms l 0 ≡ 0) → Digits ms r left b ds
skip ms r left ds b zero k h = rw (add-zero b) at k
skip ms r left ds b (suc j) k h =
    let one : Digits ms r left (suc (b + j)) ds = rw (add-suc b j) at k in
    skip ms r left ds b j (digits-none ms r left (b + j) ds one (h (b + j) (omega arith) (omega arith))) (λ l p q. h l p (omega arith))

-- and so are all lines down to the next that has any
digits-skip : (ms : List ℕ) (r left : ℕ) (ds : List ℕ) (b bound : ℕ) → b ≤ bound → Digits ms r left bound ds → ((l : ℕ) → b ≤ l → l < bound → get_or ms l 0 ≡ 0) → Digits ms r left b ds
digits-skip ms r left ds b bound h k none =
    let e : bound ≡ b + (bound - b) = omega arith in
    skip ms r left ds b (bound - b) (subst (λ (x : ℕ). Digits ms r left x ds) e k) (λ l p q. none l p (omega arith))

-- down to the highest line named below the bound
pub digits-down : (ms named : List ℕ) → Names named ms → (r left : ℕ) (ds : List ℕ) (b bound : ℕ) → b ≤ bound → ((i : ℕ) → i < length named → get_or named i 0 < bound → get_or named i 0 < b) →
    Digits ms r left bound ds → Digits ms r left b ds
digits-down ms named names r left ds b bound h low k = digits-skip ms r left ds b bound h k (λ l p q. names l (λ i n e. omega (arith, low i n (omega arith))))

-- one line, of which the code knows the number of its choices
pub digits-put : (ms : List ℕ) (r left bound line factor : ℕ) (ds : List ℕ) → bound ≡ line + 1 → factor ≡ get_or ms line 0 + 1 → Digits ms r left bound ds →
    Digits ms r (left / factor) line (set ds line (left % factor))
digits-put ms r left bound line factor ds one e k =
    let next : bound ≡ suc line = omega arith in
    let f : factor ≡ suc (get_or ms line 0) = omega arith in
    rw f (digits-line ms r left line ds (subst (λ (x : ℕ). Digits ms r left x ds) next k))

-- all lines are written
pub digits-end : (ms : List ℕ) (r left : ℕ) (ds : List ℕ) → Digits ms r left 0 ds → r < ways ms → ds ≡ get_or (choices_up_to ms) r []
digits-end ms r left ds k h = sym (ap (λ (i : ℕ). get_or (choices_up_to ms) i []) (sym (go left k.total)) ∙ rank-at ms ds k.within)
  where
    go : (x : ℕ) → x * ways ms + rank ms ds ≡ r → rank ms ds ≡ r
    go zero e = omega (arith, e)
    go (suc x) e = absurd (omega (arith, mul-le-mul_right {m = 1} {n = suc x} (ways ms) (omega arith), one-mul (ways ms), e))
