-- An image a and its edited image w: the new headers, and that a and w agree wherever neither stage A nor a header nor the root word is stored.
-- Assumes nothing.
use Prim.Native.Nat.{ℕ, ◌+◌, ◌*◌, ◌/◌, ◌%◌, ◌≤◌, ◌<◌}
use mathlib.Core.Path.{◌≡◌, refl, sym, ap, ap₂, ◌∙◌, subst}
use mathlib.Core.Logic.{◌⊎◌, inl, inr}
use mathlib.Core.Bool.{Bool, true, false, ◌||◌, not, true≢false, false≢true}
use mathlib.Core.List.{List, [], ◌∷◌, map}
use native.Mathlib.Decide.{dec_lt}
use native.Mathlib.Omega.{arith}
use lib.ListN.{length, get_or}
use lib.Dec.{leb, eqb}
use borrow.Author.Tests.{leb-false, le-leb, not-false, eqb-true}
use Rattle.codec.specs.Lists.{part, All}
use Rattle.codec.proofs.Tests.{both, true-all_b}
use Rattle.codec.proofs.Lists.{length_part}
use Rattle.codec.proofs.Agree.{or_left, or_right, either, agree-part}
use Rattle.device.specs.Tape.{Op, store}
use Rattle.device.specs.Cut.{touches, Writes}
use Rattle.device.proofs.Writing.{touches-in, touches-past}
use Rattle.page.specs.Layout.{page_size, line_size}
use Rattle.image.specs.PageZero.{page_count, is_page, root_of, no_mark}
use Rattle.image.specs.Image.{reached, among, sound}
use Rattle.image.proofs.Zero.{Size, size-true, is_page-true, Line, ready-facts}
use Rattle.image.proofs.General.{All-append}
use Rattle.image.proofs.Soundness.{sound-facts}
use Rattle.journal.specs.Changes.{word_size, page_words, line_words, free_word, stage_a, header_line, changed_pages}
use Rattle.journal.specs.Way.{line_by}
use Rattle.journal.specs.Log.{own_page, header_stores}
use Rattle.journal.specs.Recovery.{logged_ok}
use Rattle.journal.specs.Tape.{new_headers}
use Rattle.journal.specs.Edited.{Edited}
use Rattle.journal.specs.declared.Way.{Way}
use Rattle.journal.specs.declared.Way.TheVariants.{ByLine}
use Rattle.journal.proofs.Ways.{line_writes}
use Rattle.journal.proofs.Headers.{Lines}
use Rattle.journal.proofs.StageA.{free_byte, stage_a-covers}
use Rattle.journal.proofs.Changed.{InBoth, reached-page, reached-own, changed-both, changed-distinct, changed-all}

-- a word outside page 0 that is not free lies in a header reached before
header-word : (rs : List ℕ) (k : ℕ) → page_words ≤ k → free_word rs k ≡ false → (k % page_words < line_words) × (among (k / page_words) rs ≡ true)
unfolding free_word
header-word rs k low h =
    let q : (leb line_words (k % page_words) || not (among (k / page_words) rs)) ≡ false = rw (le-leb page_words k low) at h in (
      leb-false line_words (k % page_words) (or_left (leb line_words (k % page_words)) (not (among (k / page_words) rs)) q),
      not-false (among (k / page_words) rs) (or_right (leb line_words (k % page_words)) (not (among (k / page_words) rs)) q),
    )

module _ (a w : List ℕ) (s : sound a ≡ true) (d : Edited a w) where
  pub size : Size (length a)
  size = size-true (length a) (sound-facts a s).size

  pub line-w : Line w no_mark (root_of w)
  line-w = ready-facts w (root_of w) (sound-facts w d.is_sound).zero

  -- ---- the new headers

  -- the header of a page that stays
  header-fits : (p : ℕ) → InBoth a w p → page_size * p + line_size ≤ length w
  header-fits p h = let q = is_page-true (page_count a) p h.page in omega (arith, d.same_length)

  pub header-own : (p : ℕ) → InBoth a w p → own_page (header_line w p) ≡ p
  header-own p h = reached-own w d.is_sound p h.stays

  pub header-length : (p : ℕ) → InBoth a w p → length (header_line w p) ≡ line_size
  unfolding header_line
  header-length p h = length_part w (page_size * p) line_size (header-fits p h)

  pub own-all : (qs : List ℕ) → All (InBoth a w) qs → map own_page (new_headers w qs) ≡ qs
  own-all [] h = refl
  own-all (q ∷ qs) h = ap₂ (λ (x : ℕ) (xs : List ℕ). x ∷ xs) (header-own q h.0) (own-all qs h.1)

  pub headers-lines : (qs : List ℕ) → All (InBoth a w) qs → Lines (new_headers w qs)
  headers-lines [] h = tt
  headers-lines (q ∷ qs) h = (header-length q h.0, headers-lines qs h.1)

  -- their stores are of what stands in w
  pub header-write : (p : ℕ) → InBoth a w p → Writes w (store (page_size * p) (header_line w p))
  unfolding header_line
  header-write p h = let n = header-length p h in (omega (arith, n, header-fits p h), ap (part w (page_size * p)) n)

  pub headers-write : (way : Way) (qs : List ℕ) → All (InBoth a w) qs → All (Writes w) (header_stores way (new_headers w qs))
  unfolding header_stores
  headers-write way [] h = tt
  headers-write way (q ∷ qs) h =
      let line = header_line w q in
      let p = page_size * own_page line in
      All-append (Writes w) (line_by way p line) (header_stores way (new_headers w qs))
      (line_writes p line (header-length q h.0) way w (subst (λ (p : ℕ). Writes w (store (page_size * p) line)) (sym (header-own q h.0)) (header-write q h.0)))
      (headers-write way qs h.1)

  headers-touch : (qs : List ℕ) (p i : ℕ) → All (InBoth a w) qs → among p qs ≡ true → page_size * p ≤ i → i < page_size * p + line_size → touches (header_stores ByLine (new_headers w qs)) i ≡ true
  unfolding among header_stores line_by
  headers-touch [] p i h e low high = absurd (false≢true e)
  headers-touch (q ∷ qs) p i h e low high = go (either (eqb p q) (among p qs) e) (λ e. headers-touch qs p i h.1 e low high)
    where
      own : own_page (header_line w q) ≡ q
      own = header-own q h.0

      n : length (header_line w q) ≡ line_size
      n = header-length q h.0

      rest : List Op
      rest = header_stores ByLine (new_headers w qs)

      go : (eqb p q ≡ true) ⊎ (among p qs ≡ true) → (among p qs ≡ true → touches rest i ≡ true) → touches (store (page_size * own_page (header_line w q)) (header_line w q) ∷ rest) i ≡ true
      go (inl e) g = let same = eqb-true p q e in touches-in (page_size * own_page (header_line w q)) (header_line w q) rest i (omega (arith, own)) (omega (arith, own, n))
      go (inr e) g = touches-past (store (page_size * own_page (header_line w q)) (header_line w q)) rest i (g e)

  -- ---- those of the changed pages

  pub changed : All (InBoth a w) (changed_pages a w)
  changed = changed-both a w (omega (arith, size.low))

  pub headers-ok : logged_ok (page_count a) (new_headers w (changed_pages a w)) ≡ true
  unfolding logged_ok
  headers-ok =
      rw (own-all (changed_pages a w) changed)
      (both (changed-distinct a w) (true-all_b (is_page (page_count a)) (InBoth a w) (λ p h. h.page) (changed_pages a w) changed))

  -- a header that is not stored does not differ
  header-kept : (i : ℕ) → page_size ≤ i → i % page_size < line_size → among (i / page_size) (reached a (root_of a)) ≡ true →
      touches (header_stores ByLine (new_headers w (changed_pages a w))) i ≡ false → get_or a i 0 ≡ get_or w i 0
  unfolding header_line
  header-kept i low line was t = go (among (i / page_size) (reached w (root_of w))) refl
    where
      p : ℕ
      p = i / page_size

      same : (header_line a p ≡ header_line w p) ⊎ (among p (changed_pages a w) ≡ true) → get_or a i 0 ≡ get_or w i 0
      same (inl e) = agree-part w a (page_size * p) line_size e i (omega arith) (omega arith)
      same (inr e) = absurd (true≢false (sym (headers-touch (changed_pages a w) p i changed e (omega arith) (omega arith)) ∙ t))

      go : (b : Bool) → among p (reached w (root_of w)) ≡ b → get_or a i 0 ≡ get_or w i 0
      go false e = sym (d.unreached_kept i low e)
      go true e = same (changed-all a w p (record { page = reached-page a s p was; was = was; stays = e }))

  -- a and w agree where neither stage A nor a header nor the root word is stored
  pub agree : (i : ℕ) → (i < 8) ⊎ (16 ≤ i) → touches (stage_a a w) i ≡ false → touches (header_stores ByLine (new_headers w (changed_pages a w))) i ≡ false → get_or a i 0 ≡ get_or w i 0
  agree i o t u = go (dec_lt i page_size) (free_byte a i) refl
    where
      go : Dec (i < page_size) → (b : Bool) → free_byte a i ≡ b → get_or a i 0 ≡ get_or w i 0
      go (yes h) b e = sym (d.page_zero_kept i h o)
      go (no h) true e = stage_a-covers a w d.same_length size.whole i e t
      go (no h) false e =
          let k = header-word (reached a (root_of a)) (i / word_size) (omega arith) e in
          let same : i / word_size / page_words ≡ i / page_size = omega arith in
          header-kept i (omega arith) (omega (arith, k.0)) (rw same at k.1) u
