-- An accepted list of edits: the edited image is sound, its table is the ledger's, and it differs from the image before only where the
-- journal allows.
-- Assumes nothing.
use Prim.Native.Nat.{ℕ, ◌-◌, ◌/◌, ◌%◌, ◌≤◌, ◌<◌}
use mathlib.Core.Path.{◌≡◌, refl, sym, ap, ap₂, ◌∙◌}
use mathlib.Core.Logic.{◌⊎◌, inl, inr}
use mathlib.Core.Bool.{Bool, true, false, ◌&&◌, ◌||◌, not, false≢true}
use mathlib.Core.List.{List, [], ◌∷◌, ◌++◌}
use native.Mathlib.Omega.{arith}
use lib.ListN.{length, get_or, drop, replicate, get_or-eq_default}
use lib.Seq.{drop_at}
use lib.Dec.{leb, ltb}
use borrow.Author.Tests.{leb-true, ltb-true, ltb-false, le-ltb}
use Rattle.codec.specs.Lists.{part, All}
use Rattle.codec.specs.Numbers.{bytes_of}
use Rattle.codec.proofs.Lists.{length_part}
use Rattle.codec.proofs.Numbers.{length-bytes_of}
use Rattle.codec.proofs.Tests.{first, second}
use Rattle.codec.proofs.Agree.{part-add}
use Rattle.page.specs.Layout.{page_size, line_size, read_head}
use Rattle.page.specs.Page.{Entry, end, entries, Held}
use Rattle.page.specs.Operations.{page_of}
use Rattle.page.specs.PageFormat.{OldPage, format1}
use Rattle.page.proofs.Facts.{ok-is}
use Rattle.page.proofs.Format1.{format1-rules}
use Rattle.image.specs.PageZero.{page_count, root_of, no_mark, words_past}
use Rattle.image.specs.Image.{height_of, reached, among, sound, count}
use Rattle.image.specs.Facts.{Sound}
use Rattle.image.specs.Table.{table_in, table}
use Rattle.image.specs.Live.{covered, live_in, live}
use Rattle.image.proofs.Zero.{Line, size-true, ready-facts, facts-ready}
use Rattle.image.proofs.Soundness.{sound-facts, tree_in-sound}
use Rattle.image.proofs.Times.{count-among, among-count}
use Rattle.edit.specs.EditList.{Edit}
use Rattle.edit.specs.Ledger.{apply_edits}
use Rattle.edit.specs.Reads.{Proper}
use Rattle.edit.proofs.General.{not_first, not-second}
use Rattle.journal.specs.Changes.{word_size, page_words, line_words, free_word}
use Rattle.journal.specs.Edited.{Edited}
use Rattle.tree.specs.State.{State, begin}
use Rattle.tree.specs.Whole.{finished, edits_on, edited_image}
use Rattle.tree.specs.Good.{inside}
use Rattle.tree.proofs.General.{byte-part, byte_past}
use Rattle.tree.proofs.Counts.{inside-most, inside-range, inside-page}
use Rattle.tree.proofs.SameTree.{SameTree, same-tree, own-page, pages-laid}
use Rattle.tree.proofs.Runs.{Run, begin-good, begin-table, edits-run}
use Rattle.tree.proofs.PutBack.{byte-page, Ended, edited-length, edited-root, edited-reached, edited-other, edited-mark, edited-word, edited-past}

-- a byte that a listed record covers is not below start
covered_start : (p : List ℕ) (start : ℕ) (es : List Entry) (o : ℕ) → All (Held p start) es → covered o es ≡ true → start ≤ o
unfolding covered
covered_start p start [] o k h = absurd (false≢true h)
covered_start p start (e ∷ es) o k h = go (leb e.at o) refl h (covered_start p start es o k.1)
  where
    go : (b : Bool) → leb e.at o ≡ b → ((b && ltb o (end e)) || covered o es) ≡ true → (covered o es ≡ true → start ≤ o) → start ≤ o
    go true c h f = omega (arith, k.0.low, leb-true e.at o c)
    go false c h f = f h

module _ (a : List ℕ) (h : sound a ≡ true) (es : List Edit) (st : State) (R : Run (page_count a) (begin a).free es (begin a) st) where
  abbrev n : ℕ
  n = page_count a

  abbrev w : List ℕ
  w = edited_image a st

  S : Sound a
  S = sound-facts a h

  root_in : 1 ≤ inside n st.root
  root_in = omega (arith, R.good.apart st.root, own-page format1 st.image (height_of st.image st.root) st.root)

  ended : Ended a n st
  unfolding begin
  ended =
      let size = size-true (length a) S.size in
      record {
        size = omega (arith, size.whole);
        some = omega (arith, size.low);
        long = R.leads.long;
        small = omega (arith, inside-range n st.root root_in, R.good.few);
        zero = R.leads.zero;
      }

  -- ---- what the edited image reaches

  -- a page that the new tree reaches
  pub reached-page : (x : ℕ) → 1 ≤ count x (reached st.image st.root) → page_of w x ≡ page_of st.image x
  unfolding reached
  reached-page x k =
      let r = inside-range n x (omega (arith, R.good.apart x)) in
      edited-reached a n st ended x r.0 r.1 (count-among x (reached st.image st.root) k)

  pub root_is : root_of w ≡ st.root
  root_is = edited-root a n st ended

  same_length : length w ≡ length a
  same_length = edited-length a n st ended

  same : SameTree format1 st w
  unfolding reached
  same = same-tree format1 n st R.good w (ended.long ∙ sym same_length) (λ x k. reached-page x k)

  pub reached-are : reached w (root_of w) ≡ reached st.image st.root
  unfolding reached
  reached-are = ap (reached w) root_is ∙ same.pages

  -- ---- sound

  old-line : Line a no_mark (root_of a)
  old-line = ready-facts a (root_of a) S.zero

  line : Line w no_mark st.root
  unfolding words_past
  line =
      let rest = bytes_of 2 n ++ (bytes_of 2 1 ++ replicate 44 0) in
      let front : length (part a 8 8) ≡ 8 = length_part a 8 8 (omega (arith, (size-true (length a) S.size).low)) in
      let past : part a 16 48 ≡ rest =
      sym (drop_at (part a 8 8) (part a 16 48) 8 front)
      ∙ ap (drop 8) (sym (part-add a 8 8 48) ∙ old-line.past)
      ∙ drop_at (bytes_of 8 (root_of a)) rest 8 (length-bytes_of 8 (root_of a)) in
      record {
        reads = root_is;
        page = rw same_length (inside-page n st.root root_in);
        mark = edited-mark a n st ended ∙ old-line.mark;
        past =
            rw same_length
            (part-add w 8 8 48
            ∙ ap₂ (λ (x y : List ℕ). x ++ y) (edited-word a n st ended)
            (edited-past a n st ended 16 48 (omega arith) (omega arith) ∙ past));
      }

  pub edited-sound : sound (edited_image a st) ≡ true
  edited-sound = tree_in-sound w st.root (rw same_length S.size) (facts-ready w st.root line) same.tree

  pub edited-table : table (edited_image a st) ≡ apply_edits es (table a)
  unfolding table
  edited-table =
      ap (λ (r : ℕ). table_in format1 w (height_of w r) r) root_is
      ∙ same.table
      ∙ R.makes
      ∙ ap (apply_edits es) (begin-table a)

  -- ---- what has not changed

  -- a page past page 0 is the new tree's, or as it was
  pages-kept : (q : ℕ) → 1 ≤ q → q < n → (page_of w q ≡ page_of st.image q) ⊎ (page_of w q ≡ page_of a q)
  pages-kept q low high = go (among q (reached st.image st.root)) refl
    where
      go : (b : Bool) → among q (reached st.image st.root) ≡ b → (page_of w q ≡ page_of st.image q) ⊎ (page_of w q ≡ page_of a q)
      go true e = inl (edited-reached a n st ended q low high e)
      go false e = inr (edited-other a n st ended q low high e)

  zero-kept : (i : ℕ) → i < page_size → (i < 8) ⊎ (16 ≤ i) → get_or w i 0 ≡ get_or a i 0
  zero-kept i k (inl l) = byte-part w a 0 8 i (edited-mark a n st ended) (omega arith) (omega arith)
  zero-kept i k (inr l) = byte-part w a 16 (page_size - 16) i (edited-past a n st ended 16 (page_size - 16) (omega arith) (omega arith)) l (omega arith)

  unreached-kept : (i : ℕ) → page_size ≤ i → among (i / page_size) (reached w (root_of w)) ≡ false → get_or w i 0 ≡ get_or a i 0
  unreached-kept i k e = go (ltb (i / page_size) n) refl
    where
      go : (b : Bool) → ltb (i / page_size) n ≡ b → get_or w i 0 ≡ get_or a i 0
      go true c =
          let same : page_of w (i / page_size) ≡ page_of a (i / page_size) =
          edited-other a n st ended (i / page_size) (omega arith) (ltb-true (i / page_size) n c) (rw reached-are at e) in
          byte-page w i ∙ ap (λ (p : List ℕ). get_or p (i % page_size) 0) same ∙ sym (byte-page a i)
      go false c =
          let past : length a ≤ i = omega (arith, ended.size, ltb-false (i / page_size) n c) in
          get_or-eq_default w 0 {n = i} (omega (arith, same_length)) ∙ sym (get_or-eq_default a 0 {n = i} past)

  -- the bytes of a page reached before stay from its content start on
  above_kept : (q : ℕ) → among q (reached a (root_of a)) ≡ true → (o : ℕ) → (read_head (page_of a q)).start ≤ o → get_or (page_of w q) o 0 ≡ get_or (page_of a q) o 0
  unfolding begin reached
  above_kept q e o k = go (pages-kept q range.0 range.1)
    where
      here : 1 ≤ count q (reached a (root_of a))
      here = among-count q (reached a (root_of a)) e

      range : (1 ≤ q) × (q < n)
      range = inside-range n q (omega (arith, (begin-good a h).apart q, here))

      old : OldPage (page_of a q) (page_of st.image q)
      old = R.leads.old q (omega (arith, (begin-good a h).apart q, here, inside-most n q))

      go : (page_of w q ≡ page_of st.image q) ⊎ (page_of w q ≡ page_of a q) → get_or (page_of w q) o 0 ≡ get_or (page_of a q) o 0
      go (inr z) = ap (λ (p : List ℕ). get_or p o 0) z
      go (inl z) = ap (λ (p : List ℕ). get_or p o 0) z ∙ byte_past (page_of st.image q) (page_of a q) (read_head (page_of a q)).start o old.above k

  live-kept : (i : ℕ) → live a i ≡ true → free_word (reached a (root_of a)) (i / word_size) ≡ true → (j : ℕ) → j / word_size ≡ i / word_size → get_or w j 0 ≡ get_or a j 0
  unfolding live live_in free_word begin reached
  live-kept i lv fw j e =
      let rs = reached a (root_of a) in
      let q = i / page_size in
      let o = i % page_size in
      let p = page_of a q in
      let high : page_words ≤ i / word_size = leb-true page_words (i / word_size) (first (leb page_words (i / word_size)) _ fw) in
      let lives = not_first (ltb i line_size) (among q rs && live_in p o) lv (le-ltb i line_size (omega arith)) in
      let busy : among q rs ≡ true = first (among q rs) (live_in p o) lives in
      let same : i / word_size / page_words ≡ q = omega arith in
      let line : line_words ≤ i / word_size % page_words =
      leb-true line_words (i / word_size % page_words)
      (not-second (leb line_words (i / word_size % page_words)) (not (among (i / word_size / page_words) rs)) (second (leb page_words (i / word_size)) _ fw)
      (ap (λ (x : ℕ). not (among x rs)) same ∙ ap not busy)) in
      let inside : covered o (entries p) ≡ true = not_first (ltb o line_size) (covered o (entries p)) (second (among q rs) (live_in p o) lives) (le-ltb o line_size (omega arith)) in
      let laid = pages-laid format1 n (begin a) (begin-good a h) format1-rules q (among-count q rs busy) in
      let body = (ok-is p laid).body in
      let start : (read_head p).start ≤ o = covered_start p (read_head p).start (entries p) o body.held inside in
      let page : j / page_size ≡ q = omega arith in
      let above : (read_head p).start ≤ j % page_size = omega (arith, body.head.even) in
      byte-page w j
      ∙ ap (λ (x : ℕ). get_or (page_of w x) (j % page_size) 0) page
      ∙ above_kept q busy (j % page_size) above
      ∙ ap (λ (x : ℕ). get_or (page_of a x) (j % page_size) 0) (sym page)
      ∙ sym (byte-page a j)

  pub edited-is : Edited a (edited_image a st)
  edited-is =
      record { is_sound = edited-sound; same_length = same_length; page_zero_kept = zero-kept; unreached_kept = unreached-kept; live_kept = live-kept }

-- ---- an accepted list

module _ (a : List ℕ) (h : sound a ≡ true) (es : List Edit) (P : All Proper es) (st : State) (q : edits_on a es ≡ finished st) where
  pub edits-accepted : Edited a (edited_image a st)
  edits-accepted = edited-is a h es st (edits-run a h es P st q)

  pub edits-table : table (edited_image a st) ≡ apply_edits es (table a)
  edits-table = edited-table a h es st (edits-run a h es P st q)
