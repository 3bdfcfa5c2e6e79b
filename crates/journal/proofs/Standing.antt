-- While the mark stands, logged header lines may hold anything and the root word may be the old or the new one: the replayed image is the same.
-- Assumes nothing.
use Prim.Native.Nat.{ℕ, suc, ◌+◌, ◌/◌, ◌≤◌, ◌<◌}
use mathlib.Core.Path.{◌≡◌, refl, sym, ap, ap₂, ◌∙◌}
use mathlib.Core.Logic.{◌⊎◌, inl, inr}
use mathlib.Core.Bool.{true, false}
use mathlib.Core.List.{List, [], ◌∷◌, ◌++◌}
use native.Mathlib.Omega.{arith}
use lib.ListN.{length, get_or, replicate, length-append}
use lib.Seq.{sets, take_all}
use Rattle.codec.specs.Lists.{part, splice}
use Rattle.codec.specs.Numbers.{number, bytes_of}
use Rattle.codec.proofs.Lists.{splice-sets, length-splice}
use Rattle.codec.proofs.Numbers.{length-bytes_of, number-bytes_of}
use Rattle.codec.proofs.Agree.{part-add, part-agree}
use Rattle.device.specs.Tape.{store}
use Rattle.device.specs.Cut.{after, touches}
use Rattle.device.proofs.Clauses.{after-nil, after_store}
use Rattle.device.proofs.Cuts.{length-after, after-append}
use Rattle.device.proofs.Segments.{run-over}
use Rattle.device.proofs.Writing.{touches-left, touches-right, untouched-first}
use Rattle.page.specs.Layout.{page_size}
use Rattle.image.specs.PageZero.{page_count, is_page, root_of, mark_bytes, no_mark, words_past}
use Rattle.image.proofs.General.{part-part, part-front, part-past}
use Rattle.image.proofs.Zero.{Size, is_page-true, Line, Marked, waiting-facts, facts-waiting}
use Rattle.journal.specs.Log.{header_stores, end_stores}
use Rattle.journal.specs.Recovery.{logged, with_headers, replayed, replay_from}
use Rattle.journal.specs.Holds.{replay, Waits}
use Rattle.journal.specs.declared.Way.TheVariants.{ByLine}
use Rattle.journal.proofs.Headers.{Lines, Inside, logged-inside, lines-from, lines-agree, headers-outside, headers-after}

-- ---- line 0 by its words

-- a page number takes two bytes
pub page-small : (n p : ℕ) → Size n → is_page (n / page_size) p ≡ true → p < 65536
page-small n p s h = let q = is_page-true (n / page_size) p h in omega (arith, s.high)

-- words 2 to 7
abbrev words_after : ℕ → List ℕ
words_after n = bytes_of 2 n ++ (bytes_of 2 1 ++ replicate 44 0)

-- word 1 holds the root
pub line-root : (img m : List ℕ) (root : ℕ) → Line img m root → part img 8 8 ≡ bytes_of 8 root
unfolding words_past
line-root img m root l =
    sym (part-part img 8 56 0 8 (omega arith))
    ∙ ap (λ (x : List ℕ). part x 0 8) l.past
    ∙ part-front (bytes_of 8 root) (words_after (page_count img)) 8 (length-bytes_of 8 root)

-- line 0 with another mark and another root
module _ (a b m : List ℕ) (root : ℕ) (l : Line a m root) (same : length b ≡ length a) (rest : part b 16 48 ≡ part a 16 48) where
  line-rest : part b 16 48 ≡ words_after (page_count a)
  unfolding words_past part
  line-rest =
      rest
      ∙ sym (part-part a 8 56 8 48 (omega arith))
      ∙ ap (λ (x : List ℕ). part x 8 48) l.past
      ∙ part-past (bytes_of 8 root) (words_after (page_count a)) 8 0 48 (length-bytes_of 8 root)
      ∙ take_all 48 (words_after (page_count a)) (simp (length-append, length-bytes_of) (omega arith))

  pub line_other : (m' : List ℕ) (new : ℕ) → new < 65536 → is_page (page_count a) new ≡ true → part b 0 8 ≡ m' → part b 8 8 ≡ bytes_of 8 new → Line b m' (root_of b)
  unfolding words_past root_of
  line_other m' new small page e f =
      let r : root_of b ≡ new = ap number f ∙ number-bytes_of 8 new (omega arith) in
      record {
        reads = refl;
        page = rw (same, r) page;
        mark = e;
        past = rw (same, r) (part-add b 8 8 48 ∙ ap₂ (λ (x y : List ℕ). x ++ y) f line-rest);
      }

-- ---- an image that waits

pub length-no_mark : length no_mark ≡ 8
unfolding no_mark
length-no_mark = refl

pub length-mark : (k root : ℕ) → length (mark_bytes k root) ≡ 8
unfolding mark_bytes
length-mark k root = ap (λ (n : ℕ). suc (suc n)) (length-append (bytes_of 2 root) (replicate 4 0) ∙ omega (arith, length-bytes_of 2 root))

-- the root word and the mark's clearing, stored
pub end-sets : (x : List ℕ) (root : ℕ) → after x (end_stores false root) ≡ sets (sets x 8 (bytes_of 8 root)) 0 no_mark
end-sets x root = after_store 8 (bytes_of 8 root) (store 0 no_mark ∷ []) x ∙ after_store 0 no_mark [] (sets x 8 (bytes_of 8 root)) ∙ after-nil _

end-splice : (x : List ℕ) (root : ℕ) → 16 ≤ length x → after x (end_stores false root) ≡ splice (splice x 8 (bytes_of 8 root)) 0 no_mark
end-splice x root long =
    let fits : 8 + length (bytes_of 8 root) ≤ length x = omega (arith, length-bytes_of 8 root) in
    let same = length-splice x 8 (bytes_of 8 root) fits in
    end-sets x root
    ∙ ap (λ (y : List ℕ). sets y 0 no_mark) (sym (splice-sets x 8 (bytes_of 8 root) fits))
    ∙ sym (splice-sets (splice x 8 (bytes_of 8 root)) 0 no_mark (omega (arith, length-no_mark)))

-- b is a, but for anything in the lines of the logged headers, and for the new root
pub record Standing (a b : List ℕ) (k root : ℕ) : Type 0 where
  pub same_length : length b ≡ length a
  pub elsewhere : (i : ℕ) → touches (header_stores ByLine (logged k a)) i ≡ false → (i < 8) ⊎ (16 ≤ i) → get_or b i 0 ≡ get_or a i 0
  pub root_word : (part b 8 8 ≡ part a 8 8) ⊎ (part b 8 8 ≡ bytes_of 8 root)

module _ (a : List ℕ) (k root : ℕ) (w : Waits a k root) where
  pub marked : Marked a k root
  marked = waiting-facts a k root w.zero

  pub waits-long : page_size ≤ length a
  waits-long = let p = is_page-true (page_count a) root marked.page in omega arith

  pub logged-lines : Lines (logged k a)
  unfolding logged
  logged-lines = lines-from k 1 a (omega (arith, marked.few, waits-long))

  pub logged-pages : Inside (page_count a) (logged k a)
  logged-pages = logged-inside (page_count a) (logged k a) w.ok

  pub logged-outside : (i : ℕ) → i < page_size → touches (header_stores ByLine (logged k a)) i ≡ false
  logged-outside i h = headers-outside ByLine (page_count a) (logged k a) i logged-lines logged-pages h

  -- the replayed image, as stores
  pub replay-after : replay a ≡ after a (header_stores ByLine (logged k a) ++ end_stores false root)
  unfolding replay_from replayed
  replay-after =
      let hs = logged k a in
      let h : with_headers hs a ≡ after a (header_stores ByLine hs) = headers-after hs a logged-lines logged-pages in
      ap (replay_from a) w.zero
      ∙ ap (λ (x : List ℕ). splice (splice x 8 (bytes_of 8 root)) 0 no_mark) h
      ∙ sym (end-splice (after a (header_stores ByLine hs)) root (omega (arith, length-after a (header_stores ByLine hs), waits-long)))
      ∙ sym (after-append a (header_stores ByLine hs) (end_stores false root))

  pub length-replay : length (replay a) ≡ length a
  length-replay = ap length replay-after ∙ length-after a (header_stores ByLine (logged k a) ++ end_stores false root)

module _ (a b : List ℕ) (k root : ℕ) (size : Size (length a)) (w : Waits a k root) (s : Standing a b k root) where
  m : Marked a k root
  m = marked a k root w

  page-zero : (i : ℕ) → i < page_size → (i < 8) ⊎ (16 ≤ i) → get_or b i 0 ≡ get_or a i 0
  page-zero i h o = s.elsewhere i (logged-outside a k root w i h) o

  same_logged : logged k b ≡ logged k a
  unfolding logged
  same_logged = lines-agree k 1 a b s.same_length (λ i p q. page-zero i (omega (arith, m.few)) (inr (omega arith)))

  same-mark : part b 0 8 ≡ mark_bytes k root
  same-mark = sym (part-agree b a 0 8 s.same_length (λ i p q. page-zero i (omega arith) (inl (omega arith)))) ∙ m.line.mark

  same_rest : part b 16 48 ≡ part a 16 48
  same_rest = sym (part-agree b a 16 48 s.same_length (λ i p q. page-zero i (omega arith) (inr p)))

  -- line 0 is right with the old root, and with the new one
  line : Line b (mark_bytes k root) (root_of b)
  line = go s.root_word
    where
      with_root : (new : ℕ) → is_page (page_count a) new ≡ true → part b 8 8 ≡ bytes_of 8 new → Line b (mark_bytes k root) (root_of b)
      with_root new page e =
          line_other a b (mark_bytes k root) (root_of a) m.line s.same_length same_rest (mark_bytes k root) new (page-small (length a) new size page) page same-mark e

      go : (part b 8 8 ≡ part a 8 8) ⊎ (part b 8 8 ≡ bytes_of 8 root) → Line b (mark_bytes k root) (root_of b)
      go (inl e) = with_root (root_of a) m.line.page (e ∙ line-root a (mark_bytes k root) (root_of a) m.line)
      go (inr e) = with_root root m.page e

  pub standing-waits : Waits b k root
  standing-waits =
      let count : page_count b ≡ page_count a = ap (λ (n : ℕ). n / page_size) s.same_length in
      record {
        zero =
            facts-waiting b k root (page-small (length a) root size m.page)
            (record { line = line; some = m.some; few = m.few; page = rw count m.page });
        ok = rw (same_logged, count) w.ok;
      }

  untouched : (i : ℕ) → touches (header_stores ByLine (logged k a) ++ end_stores false root) i ≡ false → get_or b i 0 ≡ get_or a i 0
  untouched i t =
      s.elsewhere i (touches-left (header_stores ByLine (logged k a)) (end_stores false root) i t)
      (rw (length-bytes_of 8 root) at (untouched-first 8 (bytes_of 8 root) (store 0 no_mark ∷ []) i (touches-right (header_stores ByLine (logged k a)) (end_stores false root) i t)))

  pub standing-replay : replay b ≡ replay a
  standing-replay =
      replay-after b k root standing-waits
      ∙ ap (λ (hs : List (List ℕ)). after b (header_stores ByLine hs ++ end_stores false root)) same_logged
      ∙ run-over b a (header_stores ByLine (logged k a) ++ end_stores false root) s.same_length untouched
      ∙ sym (replay-after a k root w)
