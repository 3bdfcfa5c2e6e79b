-- Stage A: it is durable in itself, stores only free words that differ, and stores what stands in the edited image.
-- Assumes nothing.
use Prim.Native.Nat.{ℕ, zero, suc, ◌+◌, ◌*◌, ◌/◌, ◌%◌, ◌≤◌, ◌<◌}
use mathlib.Core.Path.{◌≡◌, refl, sym, ap, ap₂, ◌∙◌, subst}
use mathlib.Core.Logic.{◌⊎◌, inl, inr}
use mathlib.Core.Bool.{Bool, true, false, ◌||◌, not, true≢false}
use mathlib.Core.List.{List, [], ◌∷◌}
use native.Mathlib.Decide.{dec_le, dec_lt}
use native.Mathlib.Omega.{arith}
use lib.ListN.{length, get_or, drop, get_or-eq_default}
use lib.Seq.{drop-drop}
use lib.Dec.{leb, eqb}
use borrow.Author.Tests.{leb-true, eqb-true}
use Rattle.codec.specs.Lists.{part, eqs, pick, All}
use Rattle.codec.proofs.Tests.{first, not-true, eqs-true, eqs-same}
use Rattle.codec.proofs.Lists.{length_part}
use Rattle.codec.proofs.Agree.{length-part-le, agree-part, part-agree}
use Rattle.device.specs.Tape.{Op, store, flush, barrier, malformed}
use Rattle.device.specs.Cut.{after, flushes_line, some, touches, Closed, Flushing, with_barrier, Writes}
use Rattle.device.proofs.Clauses.{flushed-here, touches-nil}
use Rattle.device.proofs.Writing.{flushing-none, flushing-flush, flushing-past, flushing-closed, flushing-quiet, flushing-touches, writes_at, quiet_write, touches-out, untouched-first, untouched-rest}
use Rattle.page.specs.Layout.{page_size, line_size}
use Rattle.image.specs.PageZero.{root_of}
use Rattle.image.specs.Image.{reached, among}
use Rattle.image.specs.Live.{live}
use Rattle.image.proofs.General.{All-append}
use Rattle.journal.specs.Changes.{word_size, page_words, line_words, free_word, word_stores, flushes_from, flushes_of, stage_a}
use Rattle.journal.specs.Edited.{Edited}

-- ---- the flushes of a list of stores

flushing-from : (l : ℕ) (cs : List Op) → Flushing cs (flushes_from l cs) × (some (flushes_line l) (flushes_from l cs) ≡ true)
unfolding flushes_from
flushing-from l [] = (flushing-flush l [] [] flushing-none, flushed-here l [])
flushing-from l (flush m ∷ cs) = let h = flushing-from l cs in (flushing-past (flush m) cs (flushes_from l cs) tt h.0, h.1)
flushing-from l (barrier ∷ cs) = let h = flushing-from l cs in (flushing-past barrier cs (flushes_from l cs) tt h.0, h.1)
flushing-from l (malformed ∷ cs) = let h = flushing-from l cs in (flushing-past malformed cs (flushes_from l cs) tt h.0, h.1)
flushing-from l (store p vs ∷ cs) = go (eqb l (p / line_size)) refl (flushing-from (p / line_size) cs)
  where
    rest : List Op
    rest = flushes_from (p / line_size) cs

    go : (t : Bool) → eqb l (p / line_size) ≡ t → Flushing cs rest × (some (flushes_line (p / line_size)) rest ≡ true) →
        Flushing (store p vs ∷ cs) (pick t rest (flush l ∷ rest)) × (some (flushes_line l) (pick t rest (flush l ∷ rest)) ≡ true)
    go true e h = (flushing-past (store p vs) cs rest h.1 h.0, ap (λ (m : ℕ). some (flushes_line m) rest) (eqb-true l (p / line_size) e) ∙ h.1)
    go false e h = (flushing-flush l (store p vs ∷ cs) rest (flushing-past (store p vs) cs rest h.1 h.0), flushed-here l rest)

pub flushing-of : (cs : List Op) → Flushing cs (flushes_of cs)
unfolding flushes_of
flushing-of [] = flushing-none
flushing-of (flush m ∷ cs) = flushing-past (flush m) cs (flushes_of cs) tt (flushing-of cs)
flushing-of (barrier ∷ cs) = flushing-past barrier cs (flushes_of cs) tt (flushing-of cs)
flushing-of (malformed ∷ cs) = flushing-past malformed cs (flushes_of cs) tt (flushing-of cs)
flushing-of (store p vs ∷ cs) = let h = flushing-from (p / line_size) cs in flushing-past (store p vs) cs (flushes_from (p / line_size) cs) h.1 h.0

-- ---- the walk over both images, word by word

-- word k of an image
abbrev pub word_at : List ℕ → ℕ → List ℕ
word_at img k = part img (word_size * k) word_size

module _ (rs a w : List ℕ) where
  -- the stores of n words from word k on
  abbrev pub walk : ℕ → ℕ → List Op
  walk n k = word_stores rs n k (drop (word_size * k) a) (drop (word_size * k) w)

  walk-next : (n k : ℕ) →
      walk (suc n) k ≡ pick (free_word rs k) (pick (eqs (word_at a k) (word_at w k)) (walk n (suc k)) (store (word_size * k) (word_at w k) ∷ walk n (suc k))) (walk n (suc k))
  unfolding word_stores part
  walk-next n k =
      let e : word_size * k + word_size ≡ word_size * suc k = omega arith in
      let da : drop word_size (drop (word_size * k) a) ≡ drop (word_size * suc k) a = drop-drop word_size (word_size * k) a ∙ ap (λ (m : ℕ). drop m a) e in
      let dw : drop word_size (drop (word_size * k) w) ≡ drop (word_size * suc k) w = drop-drop word_size (word_size * k) w ∙ ap (λ (m : ℕ). drop m w) e in
      ap₂
      (λ (x y : List ℕ).
      pick (free_word rs k) (pick (eqs (word_at a k) (word_at w k)) (word_stores rs n (suc k) x y) (store (word_size * k) (word_at w k) ∷ word_stores rs n (suc k) x y)) (word_stores rs n (suc k) x y))
      da dw

  -- what holds of the empty list, is kept past a word that is not stored, and by a word that is, holds of the walk
  pub walk-all : (P : ℕ → ℕ → List Op → Type 0) →
      ((k : ℕ) → P zero k []) →
      ((n k : ℕ) (cs : List Op) → (free_word rs k ≡ false) ⊎ (word_at a k ≡ word_at w k) → P n (suc k) cs → P (suc n) k cs) →
      ((n k : ℕ) (cs : List Op) → free_word rs k ≡ true → (word_at a k ≡ word_at w k → ⊥) → P n (suc k) cs → P (suc n) k (store (word_size * k) (word_at w k) ∷ cs)) →
      (n k : ℕ) → P n k (walk n k)
  unfolding word_stores
  walk-all P none past stored zero k = none k
  walk-all P none past stored (suc n) k =
      subst (P (suc n) k) (sym (walk-next n k)) (go (free_word rs k) refl (eqs (word_at a k) (word_at w k)) refl (walk-all P none past stored n (suc k)))
    where
      go : (t : Bool) → free_word rs k ≡ t → (u : Bool) → eqs (word_at a k) (word_at w k) ≡ u → P n (suc k) (walk n (suc k)) →
          P (suc n) k (pick t (pick u (walk n (suc k)) (store (word_size * k) (word_at w k) ∷ walk n (suc k))) (walk n (suc k)))
      go false e u g h = past n k _ (inl e) h
      go true e true g h = past n k _ (inr (eqs-true _ _ g)) h
      go true e false g h = stored n k _ e (λ q. true≢false (sym (eqs-same (word_at w k)) ∙ ap (λ (l : List ℕ). eqs l (word_at w k)) (sym q) ∙ g)) h

  -- a byte of a word that is not free, or does not differ, is not stored
  walk-touches : (n k i : ℕ) → (free_word rs (i / word_size) ≡ false) ⊎ (word_at a (i / word_size) ≡ word_at w (i / word_size)) → touches (walk n k) i ≡ false
  walk-touches n k i h = walk-all (λ n k cs. touches cs i ≡ false) (λ k. touches-nil i) (λ n k cs q r. r) stored n k
    where
      stored : (n k : ℕ) (cs : List Op) → free_word rs k ≡ true → (word_at a k ≡ word_at w k → ⊥) → touches cs i ≡ false → touches (store (word_size * k) (word_at w k) ∷ cs) i ≡ false
      stored n k cs free differ r = touches-out (word_size * k) (word_at w k) cs i (go (dec_lt i (word_size * k)) (dec_lt (word_size * k + 7) i)) r
        where
          here : i / word_size ≡ k → (free_word rs (i / word_size) ≡ false) ⊎ (word_at a (i / word_size) ≡ word_at w (i / word_size)) → ⊥
          here e (inl q) = true≢false (sym free ∙ ap (free_word rs) (sym e) ∙ q)
          here e (inr q) = differ (ap (word_at a) (sym e) ∙ q ∙ ap (word_at w) e)

          go : Dec (i < word_size * k) → Dec (word_size * k + 7 < i) → (i < word_size * k) ⊎ (word_size * k + length (word_at w k) ≤ i)
          go (yes u) v = inl u
          go (no u) (yes v) = inr (omega (arith, length-part-le w (word_size * k) word_size))
          go (no u) (no v) = absurd (here (omega arith) h)

  -- a free word that is not stored does not differ
  walk-covers : (n k i : ℕ) → word_size * (k + n) ≤ length w → word_size * k ≤ i → i < word_size * (k + n) → free_word rs (i / word_size) ≡ true → touches (walk n k) i ≡ false → get_or a i 0 ≡ get_or w i 0
  walk-covers n k i fits low high free = walk-all P (λ k fits low high r. absurd (omega arith)) past stored n k fits low high
    where
      P : ℕ → ℕ → List Op → Type 0
      P n k cs = word_size * (k + n) ≤ length w → word_size * k ≤ i → i < word_size * (k + n) → touches cs i ≡ false → get_or a i 0 ≡ get_or w i 0

      past : (n k : ℕ) (cs : List Op) → (free_word rs k ≡ false) ⊎ (word_at a k ≡ word_at w k) → P n (suc k) cs → P (suc n) k cs
      past n k cs q ih fits low high r = go (dec_le (word_size * suc k) i) q
        where
          go : Dec (word_size * suc k ≤ i) → (free_word rs k ≡ false) ⊎ (word_at a k ≡ word_at w k) → get_or a i 0 ≡ get_or w i 0
          go (yes u) q = ih (omega arith) u (omega arith) r
          go (no u) (inl e) =
              let here : i / word_size ≡ k = omega arith in
              absurd (true≢false (sym free ∙ ap (free_word rs) here ∙ e))
          go (no u) (inr e) = agree-part w a (word_size * k) word_size e i low (omega arith)

      stored : (n k : ℕ) (cs : List Op) → free_word rs k ≡ true → (word_at a k ≡ word_at w k → ⊥) → P n (suc k) cs → P (suc n) k (store (word_size * k) (word_at w k) ∷ cs)
      stored n k cs q differ ih fits low high r = ih (omega arith) (out (untouched-first (word_size * k) (word_at w k) cs i r)) (omega arith) (untouched-rest (word_size * k) (word_at w k) cs i r)
        where
          out : (i < word_size * k) ⊎ (word_size * k + length (word_at w k) ≤ i) → word_size * suc k ≤ i
          out (inl u) = absurd (omega arith)
          out (inr u) = omega (arith, length_part w (word_size * k) word_size (omega arith))

  -- the stores are of what stands in w
  walk-writes : (n k : ℕ) → word_size * (k + n) ≤ length w → All (Writes w) (walk n k)
  walk-writes = walk-all (λ n k cs. word_size * (k + n) ≤ length w → All (Writes w) cs) (λ k fits. tt) (λ n k cs q ih fits. ih (omega arith)) stored
    where
      stored : (n k : ℕ) (cs : List Op) → free_word rs k ≡ true → (word_at a k ≡ word_at w k → ⊥) → (word_size * (suc k + n) ≤ length w → All (Writes w) cs) → word_size * (k + suc n) ≤ length w → All (Writes w) (store (word_size * k) (word_at w k) ∷ cs)
      stored n k cs q differ ih fits =
          let e : length (word_at w k) ≡ word_size = length_part w (word_size * k) word_size (omega arith) in
          ((omega arith, ap (part w (word_size * k)) e), ih (omega arith))

-- ---- stage A

-- "outside page 0"
pub free-outside : (rs : List ℕ) (k : ℕ) → free_word rs k ≡ true → page_words ≤ k
unfolding free_word
free-outside rs k h = leb-true page_words k (first (leb page_words k) (leb line_words (k % page_words) || not (among (k / page_words) rs)) h)

-- whether byte i lies in a word that stage A may store
abbrev pub free_byte : List ℕ → ℕ → Bool
free_byte a i = free_word (reached a (root_of a)) (i / word_size)

module _ (a w : List ℕ) where
  abbrev stores : List Op
  stores = word_stores (reached a (root_of a)) (length a / word_size) 0 a w

  pub stage_a-closed : Closed (stage_a a w)
  unfolding stage_a
  stage_a-closed = flushing-closed stores (flushes_of stores) (flushing-of stores)

  touches-is : (i : ℕ) → touches (stage_a a w) i ≡ touches stores i
  unfolding stage_a
  touches-is i = flushing-touches stores (flushes_of stores) (flushing-of stores) i

  -- only free words that differ are stored
  pub stage_a-touches : (i : ℕ) → (free_byte a i ≡ false) ⊎ (word_at a (i / word_size) ≡ word_at w (i / word_size)) → touches (stage_a a w) i ≡ false
  stage_a-touches i h = touches-is i ∙ walk-touches (reached a (root_of a)) a w (length a / word_size) 0 i h

  -- page 0 is not touched
  pub stage_a-outside : (i : ℕ) → i < page_size → touches (stage_a a w) i ≡ false
  stage_a-outside i h =
      stage_a-touches i (inl (not-true (free_byte a i) (λ e. let q = free-outside (reached a (root_of a)) (i / word_size) e in omega arith)))

  module _ (same : length w ≡ length a) (whole : length a % page_size ≡ 0) where
    -- what is stored stands in w
    pub stage_a-writes : All (Writes w) (stage_a a w)
    unfolding stage_a
    stage_a-writes =
        All-append (Writes w) stores (with_barrier (flushes_of stores)) (walk-writes (reached a (root_of a)) a w (length a / word_size) 0 (omega arith))
        (quiet_write w (with_barrier (flushes_of stores)) (flushing-quiet stores (flushes_of stores) (flushing-of stores)))

    -- a free word that is not stored does not differ
    pub stage_a-covers : (i : ℕ) → free_byte a i ≡ true → touches (stage_a a w) i ≡ false → get_or a i 0 ≡ get_or w i 0
    stage_a-covers i free t = go (dec_lt i (length a))
      where
        go : Dec (i < length a) → get_or a i 0 ≡ get_or w i 0
        go (yes q) = walk-covers (reached a (root_of a)) a w (length a / word_size) 0 i (omega arith) (omega arith) (omega arith) free (sym (touches-is i) ∙ t)
        go (no q) = get_or-eq_default a 0 {n = i} (omega arith) ∙ sym (get_or-eq_default w 0 {n = i} (omega arith))

    -- after it the free words are w's
    pub stage_a-after : (i : ℕ) → free_byte a i ≡ true → get_or (after a (stage_a a w)) i 0 ≡ get_or w i 0
    stage_a-after i free = writes_at w a (stage_a a w) i (sym same) stage_a-writes (stage_a-covers i free)

-- live bytes are not stored
pub stage_a-dead : (a w : List ℕ) → Edited a w → (i : ℕ) → live a i ≡ true → touches (stage_a a w) i ≡ false
stage_a-dead a w d i q = stage_a-touches a w i (go (free_byte a i) refl)
  where
    go : (t : Bool) → free_byte a i ≡ t → (free_byte a i ≡ false) ⊎ (word_at a (i / word_size) ≡ word_at w (i / word_size))
    go false e = inl e
    go true e = inr (part-agree w a (word_size * (i / word_size)) word_size d.same_length (λ j low high. d.live_kept i q e j (omega arith)))
