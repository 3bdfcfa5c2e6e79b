-- The words of stage A: page by page, those that differ past what a page keeps; their stores are stage A's.
-- Assumes nothing.
use Prim.Native.Nat.{ℕ, zero, suc, ◌+◌, ◌-◌, ◌*◌, ◌/◌, ◌%◌, ◌≤◌, ◌<◌}
use mathlib.Core.Path.{◌≡◌, refl, sym, ap, ap₂, ◌∙◌}
use mathlib.Core.Logic.{◌⊎◌, inl, inr}
use mathlib.Core.Bool.{Bool, true, false, ◌||◌, not, or-true}
use mathlib.Core.List.{List, [], ◌∷◌, ◌++◌, map}
use native.Mathlib.Omega.{arith}
use native.Mathlib.Nat.{add-zero, zero-add}
use lib.ListN.{length, get_or}
use lib.Dec.{leb}
use borrow.Author.Tests.{le-leb, lt-leb}
use Rattle.codec.specs.Lists.{pick, part, eqs, All}
use Rattle.codec.proofs.Tests.{All-map, eqs-same, eqs-differ}
use Rattle.device.specs.Tape.{Op, store}
use Rattle.page.specs.Layout.{page_size}
use Rattle.image.specs.Image.{among}
use Rattle.journal.specs.Changes.{word_size, page_words, line_words, free_word}
use Rattle.journal.proofs.StageA.{word_at, walk, walk-all, free-outside}
use Rattle.tape_write.specs.Words.{differing, stored_words, stage_words, word_store}
use Rattle.tape_write.specs.Calls.{reached_in, Images, Marks}

-- word j is one of the n words from word k on, past page 0
abbrev pub InWords : ℕ → ℕ → ℕ → Type 0
InWords n k j = (k ≤ j) × (j < k + n) × (page_words ≤ j)

-- ---- words that are free or not

module _ (rs a w : List ℕ) where
  abbrev stored : ℕ → ℕ → List ℕ
  stored n k = stored_words rs a w n k

  pub stored-split : (n m k : ℕ) → stored (n + m) k ≡ stored n k ++ stored m (k + n)
  unfolding stored_words
  stored-split zero m k = rw (zero-add m, add-zero k)
  stored-split (suc n) m k =
      let e : suc n + m ≡ suc (n + m) = omega arith in
      let f : k + suc n ≡ suc k + n = omega arith in
      rw (e, f) (go (free_word rs k) (eqs (part a (word_size * k) word_size) (part w (word_size * k) word_size)) (stored-split n m (suc k)))
    where
      more : List ℕ
      more = stored m (suc k + n)

      rest : List ℕ
      rest = stored n (suc k)

      whole : List ℕ
      whole = stored (n + m) (suc k)

      go : (t u : Bool) → whole ≡ rest ++ more → pick t (pick u whole (k ∷ whole)) whole ≡ pick t (pick u rest (k ∷ rest)) rest ++ more
      go true true h = h
      go true false h = ap (λ (x : List ℕ). k ∷ x) h
      go false u h = h

  stored-none : (n k : ℕ) → ((j : ℕ) → j < n → free_word rs (k + j) ≡ false) → stored n k ≡ []
  unfolding stored_words
  stored-none zero k h = refl
  stored-none (suc n) k h =
      let e : free_word rs k ≡ false = ap (free_word rs) (sym (add-zero k)) ∙ h 0 (omega arith) in
      let rest : stored n (suc k) ≡ [] = stored-none n (suc k) (λ j q. ap (free_word rs) (next k j) ∙ h (suc j) (omega arith)) in
      rw (e, rest)
    where
      next : (k j : ℕ) → suc k + j ≡ k + suc j
      next k j = omega arith

  pub stored-all : (n k : ℕ) → ((j : ℕ) → j < n → free_word rs (k + j) ≡ true) → stored n k ≡ differing a w n k
  unfolding stored_words differing
  stored-all zero k h = refl
  stored-all (suc n) k h =
      let e : free_word rs k ≡ true = ap (free_word rs) (sym (add-zero k)) ∙ h 0 (omega arith) in
      let rest : stored n (suc k) ≡ differing a w n (suc k) = stored-all n (suc k) (λ j q. ap (free_word rs) (next k j) ∙ h (suc j) (omega arith)) in
      rw (e, rest)
    where
      next : (k j : ℕ) → suc k + j ≡ k + suc j
      next k j = omega arith

  -- ---- a page

  in-zero : (k : ℕ) → k < page_words → free_word rs k ≡ false
  unfolding free_word
  in-zero k h = rw (lt-leb page_words k h)

  module _ (p : ℕ) (one : 1 ≤ p) where
    free_in : (j : ℕ) → j < page_words → free_word rs (page_words * p + j) ≡ (leb line_words j || not (among p rs))
    unfolding free_word
    free_in j h =
        let e : (page_words * p + j) % page_words ≡ j = omega arith in
        let f : (page_words * p + j) / page_words ≡ p = omega arith in
        rw (le-leb page_words (page_words * p + j) (omega arith), e, f)

    -- the words past `skip`, which is a header's words if the page was reached
    pub stored-page : (skip : ℕ) → skip ≡ 8 * pick (among p rs) 1 0 → stored page_words (page_words * p) ≡ differing a w (page_words - skip) (page_words * p + skip)
    stored-page skip e = go (among p rs) refl
      where
        go : (t : Bool) → among p rs ≡ t → stored page_words (page_words * p) ≡ differing a w (page_words - skip) (page_words * p + skip)
        go true q =
            let eight : skip ≡ 8 = e ∙ rw q in
            rw eight
            (stored-split 8 120 (page_words * p)
            ∙ rw (stored-none 8 (page_words * p) (λ j h. free_in j (omega arith) ∙ rw (lt-leb line_words j h, q)))
            (stored-all 120 (page_words * p + 8) (λ j h.
            let f : page_words * p + 8 + j ≡ page_words * p + (8 + j) = omega arith in
            ap (free_word rs) f ∙ free_in (8 + j) (omega arith) ∙ rw (le-leb line_words (8 + j) (omega arith)))))
        go false q =
            let none : skip ≡ 0 = e ∙ rw q in
            rw (none, add-zero (page_words * p)) (stored-all page_words (page_words * p) (λ j h. free_in j h ∙ rw q (or-true (leb line_words j))))

  -- page by page from page p on, up to page n
  pub stored_next : (n p from to : ℕ) → 1 ≤ p → p < n → from ≡ page_words * p + 8 * pick (among p rs) 1 0 → to ≡ page_words * p + page_words →
      stored (page_words * (n - p)) (page_words * p) ≡ differing a w (to - from) from ++ stored (page_words * (n - (p + 1))) (page_words * (p + 1))
  stored_next n p from to one more e f =
      let skip : ℕ = 8 * pick (among p rs) 1 0 in
      let g : page_words * (n - p) ≡ page_words + page_words * (n - (p + 1)) = omega arith in
      let h : page_words * p + page_words ≡ page_words * (p + 1) = omega arith in
      let size : page_words - skip ≡ to - from = omega arith in
      ap (λ (m : ℕ). stored m (page_words * p)) g
      ∙ stored-split page_words (page_words * (n - (p + 1))) (page_words * p)
      ∙ ap₂ (λ (x : List ℕ) (k : ℕ). x ++ stored (page_words * (n - (p + 1))) k) (stored-page p one skip refl ∙ ap₂ (differing a w) size (sym e)) h

  pub stored_last : (n p : ℕ) → n ≤ p → stored (page_words * (n - p)) (page_words * p) ≡ []
  unfolding stored_words
  stored_last n p h = let e : page_words * (n - p) ≡ 0 = omega arith in rw e

  -- page 0 has none
  pub stored-first : (n : ℕ) → 1 ≤ n → stored (page_words * n) 0 ≡ stored (page_words * (n - 1)) (page_words * 1)
  stored-first n h =
      let e : page_words * n ≡ page_words + page_words * (n - 1) = omega arith in
      ap (λ (m : ℕ). stored m 0) e
      ∙ stored-split page_words (page_words * (n - 1)) 0
      ∙ ap (λ (x : List ℕ). x ++ stored (page_words * (n - 1)) page_words) (stored-none page_words 0 (λ j q. ap (free_word rs) (zero-add j) ∙ in-zero j q))

  -- ---- their stores

  -- stage A's walk stores these words
  pub walk-words : (n k : ℕ) → walk rs a w n k ≡ map (word_store w) (stored n k)
  unfolding stored_words
  walk-words =
      walk-all rs a w (λ n k cs. cs ≡ map (word_store w) (stored n k)) (λ k. refl) past kept
    where
      past : (n k : ℕ) (cs : List Op) → (free_word rs k ≡ false) ⊎ (word_at a k ≡ word_at w k) → cs ≡ map (word_store w) (stored n (suc k)) → cs ≡ map (word_store w) (stored (suc n) k)
      past n k cs (inl e) h = rw e h
      past n k cs (inr e) h = go (free_word rs k)
        where
          go : (t : Bool) → cs ≡ map (word_store w) (pick t (pick (eqs (word_at a k) (word_at w k)) (stored n (suc k)) (k ∷ stored n (suc k))) (stored n (suc k)))
          go true = rw (e, eqs-same (word_at w k)) h
          go false = h

      kept : (n k : ℕ) (cs : List Op) → free_word rs k ≡ true → (word_at a k ≡ word_at w k → ⊥) → cs ≡ map (word_store w) (stored n (suc k)) →
          store (word_size * k) (word_at w k) ∷ cs ≡ map (word_store w) (stored (suc n) k)
      kept n k cs e other h = rw (e, eqs-differ (word_at a k) (word_at w k) other) (ap (λ (r : List Op). store (word_size * k) (word_at w k) ∷ r) h)

  -- they lie there
  pub stored-in : (n k : ℕ) → All (InWords n k) (stored n k)
  unfolding stored_words
  stored-in zero k = tt
  stored-in (suc n) k =
      go (free_word rs k) refl (eqs (part a (word_size * k) word_size) (part w (word_size * k) word_size))
      (All-map (InWords n (suc k)) (InWords (suc n) k) (λ j h. (omega (arith, h.0), omega (arith, h.1), h.2)) (stored n (suc k)) (stored-in n (suc k)))
    where
      rest : List ℕ
      rest = stored n (suc k)

      go : (t : Bool) → free_word rs k ≡ t → (u : Bool) → All (InWords (suc n) k) rest → All (InWords (suc n) k) (pick t (pick u rest (k ∷ rest)) rest)
      go true e true q = q
      go true e false q = ((omega arith, omega arith, free-outside rs k e), q)
      go false e u q = q

  pub stored-length : (n k : ℕ) → length (stored n k) ≤ n
  unfolding stored_words
  stored-length zero k = omega arith
  stored-length (suc n) k = go (free_word rs k) (eqs (part a (word_size * k) word_size) (part w (word_size * k) word_size)) (stored-length n (suc k))
    where
      rest : List ℕ
      rest = stored n (suc k)

      go : (t u : Bool) → length rest ≤ n → length (pick t (pick u rest (k ∷ rest)) rest) ≤ suc n
      go true true h = omega arith
      go true false h = omega arith
      go false u h = omega arith

-- the words of stage A, from page 1 on
pub stage-start : (a w : List ℕ) → Images a w → stage_words a w ≡ stored_words (reached_in a) a w (page_words * (length a / page_size - 1)) (page_words * 1)
unfolding stage_words
stage-start a w is =
    let e : length a / word_size ≡ page_words * (length a / page_size) = omega (arith, is.whole) in
    ap (λ (n : ℕ). stored_words (reached_in a) a w n 0) e ∙ stored-first (reached_in a) a w (length a / page_size) (omega (arith, is.low))

-- a mark is 1 or 0
pub mark-few : {marks rs : List ℕ} → Marks marks rs → (p : ℕ) → p < 64 → get_or marks p 0 ≤ 1
mark-few {marks} {rs} m p h = go (among p rs) (m.mark p h)
  where
    go : (t : Bool) → get_or marks p 0 ≡ pick t 1 0 → get_or marks p 0 ≤ 1
    go true e = omega arith
    go false e = omega arith
