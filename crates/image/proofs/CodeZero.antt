-- Page 0 read by numbers: the tests of eight-byte numbers that `page_zero` makes stand for the bytes that `page_zero` compares.
-- Assumes nothing.
use Prim.Native.Nat.{ℕ, zero, suc, ◌+◌, ◌*◌, ◌/◌, ◌%◌, ◌^◌, ◌≤◌, ◌<◌}
use mathlib.Core.Path.{◌≡◌, refl, sym, ap, ◌∙◌}
use mathlib.Core.Bool.{Bool, true, false, ◌&&◌}
use mathlib.Core.List.{List, ◌++◌}
use native.Mathlib.Omega.{arith}
use native.Mathlib.Nat.{add-zero}
use lib.ListN.{length, take, replicate, replicate-append-replicate}
use lib.Seq.{take_at}
use lib.Dec.{eqb}
use borrow.Author.Tests.{eqb-true, eqb-false}
use Rattle.std.specs.List.{range_with_len, list_all}
use Rattle.codec.specs.Lists.{part, eqs}
use Rattle.codec.specs.Numbers.{number, bytes_of}
use Rattle.codec.proofs.Tests.{eqs-true, eqs-same, eqs-differ}
use Rattle.codec.proofs.Lists.{length_part}
use Rattle.codec.proofs.Numbers.{length-bytes_of, number-bytes_of}
use Rattle.codec.proofs.Agree.{part-add}
use Rattle.page.proofs.CheckBytes.{Bytes, same_rest, bytes-part}
use Rattle.image.specs.PageZero.{page_count, is_page, root_of, log_most, mark_bytes, no_mark, words_past, page_zero}
use Rattle.image.specs.declared.PageZero.{PageZero}
use Rattle.image.specs.declared.PageZero.TheVariants.{Wrong, Waiting, Ready}
use Rattle.image.proofs.Zero.{Size, is_page-true, Line, Marked, ready-facts, waiting-facts, facts-ready, facts-waiting}

-- ---- a word and its number

module _ (l : List ℕ) (bytes : Bytes l) (o : ℕ) (fits : o + 8 ≤ length l) where
  word-is : (v : ℕ) → number (part l o 8) ≡ v → part l o 8 ≡ bytes_of 8 v
  word-is v e = sym (bytes-part l bytes o 8 fits) ∙ ap (bytes_of 8) e

  word-says : (v : ℕ) → v < 256 ^ 8 → part l o 8 ≡ bytes_of 8 v → number (part l o 8) ≡ v
  word-says v h e = ap number e ∙ number-bytes_of 8 v h

-- what stands in front of a list of known length
first-eight : (a b x y : List ℕ) → length a ≡ 8 → length x ≡ 8 → a ++ b ≡ x ++ y → a ≡ x
first-eight a b x y la lx e = sym (take_at a b 8 la) ∙ ap (take 8) e ∙ take_at x y 8 lx

-- ---- words 1 to 7

-- word 2 as one number: N and the format number 1
word_two : (n : ℕ) → n < 65536 → bytes_of 2 n ++ (bytes_of 2 1 ++ replicate 44 0) ≡ bytes_of 8 (n + 65536) ++ replicate 40 0
unfolding bytes_of
word_two n h =
    let e0 : (n + 65536) % 256 ≡ n % 256 = omega arith in
    let e1 : (n + 65536) / 256 ≡ n / 256 + 256 = omega arith in
    let e2 : (n / 256 + 256) % 256 ≡ n / 256 % 256 = omega arith in
    let e3 : (n / 256 + 256) / 256 ≡ 1 = omega arith in
    rw (e0, e1, e2, e3)

pub past_words : (n root : ℕ) → n < 65536 → words_past n root ≡ bytes_of 8 root ++ (bytes_of 8 (n + 65536) ++ replicate 40 0)
unfolding words_past
past_words n root h = ap (λ (l : List ℕ). bytes_of 8 root ++ l) (word_two n h)

-- line 0 past the mark, by numbers
pub record Past (img : List ℕ) : Type 0 where
  pub root : is_page (page_count img) (root_of img) ≡ true
  pub second : number (part img 16 8) ≡ page_count img + 65536
  pub rest : eqs (part img 24 40) (replicate 40 0) ≡ true

module _ (img : List ℕ) (bytes : Bytes img) (fits : Size (length img)) where
  line-words : part img 8 56 ≡ part img 8 8 ++ (part img 16 8 ++ part img 24 40)
  line-words = part-add img 8 8 48 ∙ ap (λ (l : List ℕ). part img 8 8 ++ l) (part-add img 16 8 40)

  line-root : part img 8 8 ≡ bytes_of 8 (root_of img)
  unfolding root_of
  line-root = word-is img bytes 8 (omega arith) (number (part img 8 8)) refl

  past_bytes : Past img → part img 8 56 ≡ words_past (page_count img) (root_of img)
  past_bytes l =
      let n = page_count img in
      let two : part img 16 8 ≡ bytes_of 8 (n + 65536) = word-is img bytes 16 (omega arith) (n + 65536) l.second in
      let rest : part img 24 40 ≡ replicate 40 0 = eqs-true (part img 24 40) (replicate 40 0) l.rest in
      line-words ∙ rw (line-root, two, rest) (sym (past_words n (root_of img) (omega arith)))

  bytes_past : (root : ℕ) → root_of img ≡ root → is_page (page_count img) root ≡ true → part img 8 56 ≡ words_past (page_count img) root → Past img
  bytes_past r s page e =
      let n = page_count img in
      let two = bytes_of 8 (n + 65536) in
      let l2 = length_part img 16 8 (omega arith) in
      let past = same_rest (part img 8 8) (bytes_of 8 r) (part img 16 8 ++ part img 24 40) (two ++ replicate 40 0)
      (length_part img 8 8 (omega arith) ∙ sym (length-bytes_of 8 r)) (sym line-words ∙ e ∙ past_words n r (omega arith)) in
      let zeros = same_rest (part img 16 8) two (part img 24 40) (replicate 40 0) (l2 ∙ sym (length-bytes_of 8 (n + 65536))) past in
      record {
        root = ap (is_page n) s ∙ page;
        second = word-says img bytes 16 (omega arith) (n + 65536) (omega arith) (first-eight (part img 16 8) (part img 24 40) two (replicate 40 0) l2 (length-bytes_of 8 (n + 65536)) past);
        rest = ap (λ (l : List ℕ). eqs l (replicate 40 0)) zeros ∙ eqs-same (replicate 40 0);
      }

-- ---- the mark

-- a mark that waits, by its number
pub record Mark (n m : ℕ) : Type 0 where
  pub one : m % 256 ≡ 1
  pub some : 1 ≤ m / 256 % 256
  pub few : m / 256 % 256 ≤ log_most
  pub page : is_page n (m / 65536) ≡ true

mark-bytes : (k root : ℕ) → k < 256 → root < 65536 → mark_bytes k root ≡ bytes_of 8 (1 + 256 * k + 65536 * root)
unfolding mark_bytes bytes_of
mark-bytes k root hk hr =
    let e0 : (1 + 256 * k + 65536 * root) % 256 ≡ 1 = omega arith in
    let e1 : (1 + 256 * k + 65536 * root) / 256 ≡ k + 256 * root = omega arith in
    let e2 : (k + 256 * root) % 256 ≡ k = omega arith in
    let e3 : (k + 256 * root) / 256 ≡ root = omega arith in
    let e4 : root / 256 / 256 ≡ 0 = omega arith in
    rw (e0, e1, e2, e3, e4)

-- ---- what page 0 says, by the numbers

module _ (img : List ℕ) (bytes : Bytes img) (fits : Size (length img)) where
  pub zero-wrong : (Past img → ⊥) → page_zero img ≡ Wrong
  zero-wrong h = go (page_zero img) refl
    where
      go : (z : PageZero) → page_zero img ≡ z → page_zero img ≡ Wrong
      go Wrong e = e
      go (Waiting k new) e = let l = (waiting-facts img k new e).line in absurd (h (bytes_past img bytes fits (root_of img) refl l.page l.past))
      go (Ready root) e = let l = ready-facts img root e in absurd (h (bytes_past img bytes fits root l.reads l.page l.past))

  module _ (past : Past img) where
    line : (m : List ℕ) → part img 0 8 ≡ m → Line img m (root_of img)
    line m e = record { reads = refl; page = past.root; mark = e; past = past_bytes img bytes fits past }

    pub zero-ready : number (part img 0 8) ≡ 0 → page_zero img ≡ Ready (root_of img)
    unfolding no_mark bytes_of
    zero-ready e = facts-ready img (root_of img) (line (replicate 8 0) (word-is img bytes 0 (omega arith) 0 e))

    pub zero-waits : Mark (page_count img) (number (part img 0 8)) → page_zero img ≡ Waiting (number (part img 0 8) / 256 % 256) (number (part img 0 8) / 65536)
    zero-waits w =
        let m = number (part img 0 8) in
        let h = is_page-true (page_count img) (m / 65536) w.page in
        let e : m ≡ 1 + 256 * (m / 256 % 256) + 65536 * (m / 65536) = omega (arith, w.one) in
        let f = word-is img bytes 0 (omega arith) (1 + 256 * (m / 256 % 256) + 65536 * (m / 65536)) e ∙ sym (mark-bytes (m / 256 % 256) (m / 65536) (omega arith) (omega arith)) in
        facts-waiting img (m / 256 % 256) (m / 65536) (omega arith) (record { line = line _ f; some = w.some; few = w.few; page = w.page })

    pub zero-bad-mark : (number (part img 0 8) ≡ 0 → ⊥) → (Mark (page_count img) (number (part img 0 8)) → ⊥) → page_zero img ≡ Wrong
    unfolding no_mark number
    zero-bad-mark some h = go (page_zero img) refl
      where
        marked : (k new : ℕ) → Marked img k new → Mark (page_count img) (number (part img 0 8))
        marked k new w =
            let m = number (part img 0 8) in
            let q = is_page-true (page_count img) new w.page in
            let e : m ≡ 1 + 256 * k + 65536 * new =
            ap number (w.line.mark ∙ mark-bytes k new (omega (arith, w.few)) (omega arith)) ∙ number-bytes_of 8 (1 + 256 * k + 65536 * new) (omega (arith, w.few)) in
            let ek : m / 256 % 256 ≡ k = omega (arith, w.few) in
            let er : m / 65536 ≡ new = omega (arith, w.few) in
            record { one = omega arith; some = omega (arith, w.some); few = omega (arith, w.few); page = ap (is_page (page_count img)) er ∙ w.page }

        go : (z : PageZero) → page_zero img ≡ z → page_zero img ≡ Wrong
        go Wrong e = e
        go (Waiting k new) e = absurd (h (marked k new (waiting-facts img k new e)))
        go (Ready root) e = absurd (some (ap number (ready-facts img root e).mark))

-- ---- zeros, a word at a time

abbrev pub zeros : List ℕ → ℕ → ℕ → Bool
zeros l o m = eqs (part l o m) (replicate m 0)

zeros-none : (l : List ℕ) (o m : ℕ) → m ≡ 0 → zeros l o m ≡ true
unfolding part eqs
zeros-none l o m e = rw e

module _ (l : List ℕ) (bytes : Bytes l) (o m k : ℕ) (fits : o + 8 ≤ length l) (more : m ≡ 8 + k) where
  zeros-part : part l o m ≡ part l o 8 ++ part l (o + 8) k
  zeros-part = ap (part l o) more ∙ part-add l o 8 k

  zeros-list : ◌≡◌ {A = List ℕ} (replicate m 0) (replicate 8 0 ++ replicate k 0)
  zeros-list = ap (λ (n : ℕ). replicate {A = ℕ} n 0) more ∙ sym (replicate-append-replicate 8 k 0)

  zeros-on : number (part l o 8) ≡ 0 → zeros l o m ≡ zeros l (o + 8) k
  unfolding eqs bytes_of
  zeros-on e = rw (zeros-part, zeros-list, word-is l bytes o fits 0 e)

  zeros-stop : (number (part l o 8) ≡ 0 → ⊥) → zeros l o m ≡ false
  unfolding bytes_of
  zeros-stop h =
      eqs-differ (part l o m) (replicate m 0)
      (λ e.
      h (word-says l bytes o fits 0 (omega arith)
      (first-eight (part l o 8) (part l (o + 8) k) (replicate 8 0) (replicate k 0) (length_part l o 8 fits) refl (sym zeros-part ∙ e ∙ zeros-list))))

-- whether the i-th word from o on is zero
abbrev pub is_zero : List ℕ → ℕ → ℕ → Bool
is_zero l o i = eqb (number (part l (o + 8 * i) 8)) 0

module _ (l : List ℕ) (bytes : Bytes l) (o : ℕ) where
  words-from : (i n : ℕ) → o + 8 * (i + n) ≤ length l → list_all (is_zero l o) (range_with_len i n) ≡ zeros l (o + 8 * i) (8 * n)
  words-from i zero h = sym (zeros-none l (o + 8 * i) 0 refl)
  words-from i (suc n) h = go (is_zero l o i) refl (words-from (i + 1) n (omega arith))
    where
      more : 8 * suc n ≡ 8 + 8 * n
      more = omega arith

      next : o + 8 * (i + 1) ≡ o + 8 * i + 8
      next = omega arith

      go : (t : Bool) → is_zero l o i ≡ t → list_all (is_zero l o) (range_with_len (i + 1) n) ≡ zeros l (o + 8 * (i + 1)) (8 * n) → (t && list_all (is_zero l o) (range_with_len (i + 1) n)) ≡ zeros l (o + 8 * i) (8 * suc n)
      go true e rest = rest ∙ rw next (sym (zeros-on l bytes (o + 8 * i) (8 * suc n) (8 * n) (omega arith) more (eqb-true _ 0 e)))
      go false e rest = sym (zeros-stop l bytes (o + 8 * i) (8 * suc n) (8 * n) (omega arith) more (eqb-false _ 0 e))

  -- n words are zero if each of them is
  pub zeros-words : (n : ℕ) → o + 8 * n ≤ length l → list_all (is_zero l o) (range_with_len 0 n) ≡ zeros l o (8 * n)
  zeros-words n h = words-from 0 n (omega arith) ∙ ap (λ (a : ℕ). zeros l a (8 * n)) (add-zero o)
