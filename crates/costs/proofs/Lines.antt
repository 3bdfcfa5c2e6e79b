-- The longest stage A: a word store for each of the 8 words of a line and a flush of the line are 100 bytes, a page has 16 lines, and the header line of a page
-- that was reached is not stored. So 1,600 bytes a page hold stage A, with 100 to spare for each changed header.
-- Assumes nothing.
use Prim.Native.Nat.{ℕ, zero, suc, ◌+◌, ◌-◌, ◌*◌, ◌/◌, ◌%◌, ◌≤◌}
use mathlib.Core.Path.{◌≡◌, refl, sym, ap, ap₂, ◌∙◌, subst}
use mathlib.Core.Bool.{Bool, true, false, ◌&&◌, or-true}
use mathlib.Core.List.{List, [], ◌∷◌, ◌++◌, append_assoc}
use native.Mathlib.Omega.{arith}
use lib.ListN.{length, length-append}
use lib.Dec.{eqb, leb}
use borrow.Author.Tests.{eq-eqb, eqb-true, le-leb}
use Rattle.codec.specs.Lists.{pick, eqs, All}
use Rattle.codec.proofs.Tests.{All-map}
use Rattle.image.specs.Image.{among}
use Rattle.journal.specs.Changes.{page_words, line_words, free_word, header_line, changed_from}
use Rattle.tape_write.specs.Words.{differing, stored_words, lines_past}
use Rattle.tape_write.proofs.StageWords.{stored-split, stored-all, stored-page, InWords, stored-in, stored-length}

-- ---- the lines of words

-- ys lie in at most b lines, whatever line comes before them
abbrev Few : List ℕ → ℕ → Type 0
Few ys b = (last : ℕ) → length (lines_past last ys) ≤ b

-- the words xs of line l, and then ys: one line more
module _ (l : ℕ) (ys : List ℕ) (b : ℕ) (few : Few ys b) where
  line-open : (xs : List ℕ) → All (λ (k : ℕ). k / line_words ≡ l) xs → length (lines_past l (xs ++ ys)) ≤ b
  unfolding lines_past
  line-open [] h = few l
  line-open (k ∷ xs) h = rw (eq-eqb (k / line_words) l h.0) (line-open xs h.1)

  line-more : (xs : List ℕ) → All (λ (k : ℕ). k / line_words ≡ l) xs → Few (xs ++ ys) (b + 1)
  unfolding lines_past
  line-more [] h last = omega (arith, few last)
  line-more (k ∷ xs) h last = rw h.0 (go (eqb l last) refl)
    where
      go : (t : Bool) → eqb l last ≡ t → length (pick t (lines_past last (xs ++ ys)) (l ∷ lines_past l (xs ++ ys))) ≤ b + 1
      go true e = let z = eqb-true l last e in omega (arith, ap (λ (m : ℕ). length (lines_past m (xs ++ ys))) z, line-open xs h.1)
      go false e = omega (arith, line-open xs h.1)

-- ---- the words that stage A stores

-- those of n lines from line l on
lines-few : (rs a w ys : List ℕ) (b : ℕ) → Few ys b → (n l : ℕ) → Few (stored_words rs a w (line_words * n) (line_words * l) ++ ys) (b + n)
unfolding stored_words
lines-few rs a w ys b few zero l last = omega (arith, few last)
lines-few rs a w ys b few (suc n) l last =
    let e : line_words * suc n ≡ line_words + line_words * n = omega arith in
    let f : line_words * l + line_words ≡ line_words * suc l = omega arith in
    let here = stored_words rs a w line_words (line_words * l) in
    let rest = stored_words rs a w (line_words * n) (line_words * suc l) in
    let whole : stored_words rs a w (line_words * suc n) (line_words * l) ++ ys ≡ here ++ (rest ++ ys) =
    ap (λ (x : List ℕ). x ++ ys)
    (ap (λ (m : ℕ). stored_words rs a w m (line_words * l)) e ∙ stored-split rs a w line_words (line_words * n) (line_words * l) ∙ ap (λ (k : ℕ). here ++ stored_words rs a w (line_words * n) k) f)
    ∙ append_assoc here rest ys in
    let one = All-map (InWords line_words (line_words * l)) (λ (j : ℕ). j / line_words ≡ l) (λ j h. omega (arith, h.0, h.1)) here (stored-in rs a w line_words (line_words * l)) in
    omega (arith, ap (λ (x : List ℕ). length (lines_past last x)) whole, line-more l (rest ++ ys) (b + n) (lines-few rs a w ys b few n (suc l)) here one last)

-- past page 0 all words that differ are stored, where no page was reached
all-stored : (a w : List ℕ) (n k : ℕ) → page_words ≤ k → differing a w n k ≡ stored_words [] a w n k
unfolding free_word among
all-stored a w n k low = sym (stored-all [] a w n k (λ j h. rw (le-leb page_words (k + j) (omega arith)) (or-true (leb line_words ((k + j) % page_words)))))

-- ---- page by page

module _ (rs ss a w : List ℕ) where
  -- 1 for a page that was reached
  abbrev was : ℕ → ℕ
  was p = pick (among p rs) 1 0

  changed-few : (n p : ℕ) → length (changed_from rs ss a w (suc n) p) ≤ was p + length (changed_from rs ss a w n (suc p))
  unfolding changed_from
  changed-few n p = go (among p rs) (among p ss) (eqs (header_line a p) (header_line w p))
    where
      rest : List ℕ
      rest = changed_from rs ss a w n (suc p)

      go : (t u v : Bool) → length (pick (t && u) (pick v rest (p ∷ rest)) rest) ≤ pick t 1 0 + length rest
      go true true true = omega arith
      go true true false = omega arith
      go true false v = omega arith
      go false u v = omega arith

  was-most : (p : ℕ) → was p ≤ 1
  was-most p = go (among p rs)
    where
      go : (t : Bool) → pick t 1 0 ≤ 1
      go true = omega arith
      go false = omega arith

  -- a page, with what follows it
  page-few : (p : ℕ) → 1 ≤ p → (ys : List ℕ) (b : ℕ) → Few ys b →
      (length (stored_words rs a w page_words (page_words * p)) + 8 * was p ≤ 128) × Few (stored_words rs a w page_words (page_words * p) ++ ys) (b + (16 - was p))
  page-few p one ys b few =
      let m = was-most p in
      let n : page_words - 8 * was p ≡ line_words * (16 - was p) = omega arith in
      let k : page_words * p + 8 * was p ≡ line_words * (16 * p + was p) = omega arith in
      let words = stored_words [] a w (line_words * (16 - was p)) (line_words * (16 * p + was p)) in
      let is : stored_words rs a w page_words (page_words * p) ≡ words =
      stored-page rs a w p one (8 * was p) refl ∙ ap₂ (differing a w) n k ∙ all-stored a w (line_words * (16 - was p)) (line_words * (16 * p + was p)) (omega arith) in (
        omega (arith, ap length is, stored-length [] a w (line_words * (16 - was p)) (line_words * (16 * p + was p))),
        subst (λ (xs : List ℕ). Few (xs ++ ys) (b + (16 - was p))) (sym is) (lines-few [] a w ys b few (16 - was p) (16 * p + was p)),
      )

  -- a page of d words before w more, where c is 1 if it was reached
  page-adds : (d w lines changed more c b n : ℕ) → d + 8 * c ≤ 128 → lines ≤ b + (16 - c) → changed ≤ c + more → c ≤ 1 → 4 * b + 12 * w + 100 * more ≤ 1600 * n →
      12 * (d + w) + 4 * lines + 100 * changed ≤ 1600 * suc n
  page-adds d w lines changed more c b n h k l m r = omega arith

  -- the bytes of stage A's words and flushes for the n pages from p on, with 100 for each changed header there
  abbrev bytes_for : ℕ → ℕ → ℕ → ℕ
  bytes_for n p last =
      let words = stored_words rs a w (page_words * n) (page_words * p) in
      12 * length words + 4 * length (lines_past last words) + 100 * length (changed_from rs ss a w n p)

  stage-none : (p last : ℕ) → bytes_for zero p last ≤ 1600 * 0
  unfolding stored_words lines_past changed_from
  stage-none p last = omega arith

  pub stage-most : (n p : ℕ) → 1 ≤ p → (last : ℕ) →
      12 * length (stored_words rs a w (page_words * n) (page_words * p)) + 4 * length (lines_past last (stored_words rs a w (page_words * n) (page_words * p))) + 100 * length (changed_from rs ss a w n p) ≤ 1600 * n
  stage-most zero p one last = stage-none p last
  stage-most (suc n) p one last =
      let e : page_words * suc n ≡ page_words + page_words * n = omega arith in
      let f : page_words * p + page_words ≡ page_words * suc p = omega arith in
      let here = stored_words rs a w page_words (page_words * p) in
      let rest = stored_words rs a w (page_words * n) (page_words * suc p) in
      let whole : stored_words rs a w (page_words * suc n) (page_words * p) ≡ here ++ rest =
      ap (λ (m : ℕ). stored_words rs a w m (page_words * p)) e ∙ stored-split rs a w page_words (page_words * n) (page_words * p) ∙ ap (λ (k : ℕ). here ++ stored_words rs a w (page_words * n) k) f in
      let left : ℕ = 1600 * n - 12 * length rest - 100 * length (changed_from rs ss a w n (suc p)) in
      let more : (m : ℕ) → bytes_for n (suc p) m ≤ 1600 * n = λ m. stage-most n (suc p) (omega arith) m in
      let k = page-few p one rest (left / 4) (λ m. omega (arith, more m)) in
      rw (whole, length-append here rest)
      (page-adds (length here) (length rest) (length (lines_past last (here ++ rest))) (length (changed_from rs ss a w (suc n) p)) (length (changed_from rs ss a w n (suc p))) (was p) (left / 4) n k.0 (k.1 last) (changed-few n p) (was-most p)
      (omega (arith, more 0)))
