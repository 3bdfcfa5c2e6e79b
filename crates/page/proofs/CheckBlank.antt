-- A pass over the words of a part that is to be zero: they are joined, and what comes of it is 0 exactly if all of its bytes are.
-- Assumes nothing.
use Rattle.std.proofs.Common.{◌≡◌, ℕ, ◌+◌, ◌-◌, ◌*◌, ◌/◌, ◌%◌, ◌^◌, ◌<◌, ◌≤◌, eqb, List, ◌++◌, length, replicate, sym, ap, ◌∙◌, arith, length-append, eq-eqb, eqb-true}
use lib.Bits.{bit_or}
use Rattle.codec.specs.Lists.{part, eqs}
use Rattle.codec.specs.Numbers.{number}
use Rattle.codec.proofs.Lists.{length_part, part-whole}
use Rattle.codec.proofs.Agree.{part-add}
use Rattle.page.proofs.CheckBytes.{Bytes, Blank, blank_join, blank-test, test-blank, word-from, word-aligned, from-word, same_test, same_first, same_rest}
use Rattle.page.proofs.CheckBits.{or-none, none_or}

-- `joined` is 0 only if the bytes from `at` on, below a, are zero, and is 0 if those below `end` are
pub record Joined (p : List ℕ) (at end joined a : ℕ) : Type 0 where
  pub after : at ≤ a
  pub inside : a ≤ end
  pub even : a % 8 ≡ 0
  pub zero : joined ≡ 0 → Blank p at a
  pub none : Blank p at end → joined ≡ 0

module _ (p : List ℕ) (bytes : Bytes p) (at end w : ℕ) (even : end % 8 ≡ 0) (fits : end ≤ length p) where
  -- the first word, without its bytes below `at`
  joined-first : at < end → w ≡ number (part p (at - at % 8) 8) → Joined p at end (w / 2 ^ (8 * (at % 8))) (at - at % 8 + 8)
  joined-first less e =
      record {
        after = omega arith;
        inside = omega arith;
        even = omega arith;
        zero = λ z. word-from p bytes at end less even fits (rw e at z);
        none = λ b. rw e (from-word p bytes at end less even fits b);
      }

  -- one word more
  joined-next : (j a : ℕ) → Joined p at end j a → a < end → w ≡ number (part p a 8) → Joined p at end (bit_or j w) (a + 8)
  joined-next j a k less e =
      let word = e ∙ word-aligned p bytes a end less even fits k.even in
      let up : a - a % 8 + 8 ≡ a + 8 = omega (arith, k.even) in
      record {
        after = omega (arith, k.after);
        inside = omega (arith, k.even);
        even = omega (arith, k.even);
        zero = λ z.
            let t = or-none _ _ z in
            blank_join p at a (a + 8) (k.zero t.0) (λ i h l. word-from p bytes a end less even fits (sym word ∙ t.1) i h (omega (arith, up)));
        none = λ b. none_or _ _ (k.none b) (word ∙ from-word p bytes a end less even fits (λ i h l. b i (omega (arith, k.after)) l));
      }

-- at the end it tells
joined-end : (p : List ℕ) (at end j a : ℕ) → at ≤ end → end ≤ length p → Joined p at end j a → end ≤ a → eqb j 0 ≡ eqs (part p at (end - at)) (replicate (end - at) 0)
joined-end p at end j a order fits k done =
    same_test _ _
    (λ t. blank-test p at end order fits (λ i h l. k.zero (eqb-true j 0 t) i h (omega arith)))
    (λ t. eq-eqb j 0 (k.none (test-blank p at end order t)))

-- ---- word by word: `rest` is what is left of the part

pub record Words (p : List ℕ) (at end joined : ℕ) (rest : List ℕ) : Type 0 where
  pub short : length rest ≤ end
  pub there : rest ≡ part p (end - length rest) (length rest)
  pub so_far : Joined p at end joined (end - length rest)

module _ (p : List ℕ) (bytes : Bytes p) (at end : ℕ) (even : end % 8 ≡ 0) (fits : end ≤ length p) where
  pub words-first : (w : ℕ) → at < end → w ≡ number (part p (at - at % 8) 8) → (rest : List ℕ) → rest ≡ part p (at - at % 8 + 8) (end - (at - at % 8 + 8)) →
      Words p at end (w / 2 ^ (8 * (at % 8))) rest
  words-first w less e rest there =
      let a = at - at % 8 + 8 in
      let n : length rest ≡ end - a = ap length there ∙ length_part p a (end - a) (omega arith) in
      let k : end - length rest ≡ a = omega arith in
      record { short = omega arith; there = rw (k, n) there; so_far = rw k (joined-first p bytes at end w even fits less e) }

  pub words-next : (j w : ℕ) (rest x others : List ℕ) → Words p at end j rest → rest ≡ x ++ others → length x ≡ 8 → w ≡ number (part x 0 8) → Words p at end (bit_or j w) others
  words-next j w rest x others k e eight word =
      let a = end - length rest in
      let n : length rest ≡ 8 + length others = ap length e ∙ length-append x others ∙ omega arith in
      let up : end - length others ≡ a + 8 = omega (arith, k.short) in
      let all : x ++ others ≡ part p a 8 ++ part p (a + 8) (length others) = sym e ∙ k.there ∙ ap (part p a) n ∙ part-add p a 8 (length others) in
      let first : length x ≡ length (part p a 8) = eight ∙ sym (length_part p a 8 (omega (arith, k.short))) in
      let own : part x 0 8 ≡ part p a 8 = ap (part x 0) (sym eight) ∙ part-whole x ∙ same_first x (part p a 8) others (part p (a + 8) (length others)) first all in
      record {
        short = omega (arith, k.short);
        there = rw up (same_rest x (part p a 8) others (part p (a + 8) (length others)) first all);
        so_far = rw up (joined-next p bytes at end w even fits j a k.so_far (omega (arith, k.short)) (word ∙ ap number own));
      }

  pub words-end : (j : ℕ) (rest : List ℕ) → at ≤ end → Words p at end j rest → length rest < 8 → eqb j 0 ≡ eqs (part p at (end - at)) (replicate (end - at) 0)
  words-end j rest order k few = joined-end p at end j (end - length rest) order fits k.so_far (omega (arith, k.short, k.so_far.even))
