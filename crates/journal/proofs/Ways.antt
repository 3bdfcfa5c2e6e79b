-- A line written in either way, by one line store or by eight word stores: the same image, the same bytes stored, all in its line; of what
-- stands in an image if the line is; fitting the image if the line does; and rising.
-- Assumes nothing.
use Prim.Native.Nat.{ℕ, zero, suc, ◌+◌, ◌*◌, ◌%◌, ◌≤◌, ◌<◌}
use mathlib.Core.Path.{◌≡◌, refl, sym, ap, ap₂, ◌∙◌, subst}
use mathlib.Core.Logic.{◌⊎◌, inl, inr}
use mathlib.Core.Bool.{Bool, true, false}
use mathlib.Core.List.{List, [], ◌∷◌, ◌++◌}
use native.Mathlib.Decide.{dec_lt}
use native.Mathlib.Omega.{arith}
use native.Mathlib.Nat.{add-zero}
use lib.ListN.{length, take, drop, length-drop, take-append-drop}
use lib.Seq.{sets, length-take-le, take_all}
use borrow.Author.Tests.{le-leb}
use Rattle.codec.specs.Lists.{part, All}
use Rattle.codec.proofs.Lists.{sets-append}
use Rattle.device.specs.Tape.{Op, store, flush, barrier, malformed, Writable}
use Rattle.device.specs.Cut.{after, flushes_line, some, hits, touches, stores, To, Flushing, Writes}
use Rattle.device.proofs.Clauses.{after-nil, after_store, touches-nil, flushed-here}
use Rattle.device.proofs.Segments.{in-hits, hits-out}
use Rattle.device.proofs.Stores.{to-stores}
use Rattle.device.proofs.Writing.{touches-in, touches-out, touches-past, flushing-flush, flushing-past}
use Rattle.page.specs.Layout.{line_size}
use Rattle.image.proofs.General.{part-part}
use Rattle.journal.specs.Changes.{word_size, line_words}
use Rattle.journal.specs.Way.{words_of, line_by, IsWord}
use Rattle.journal.specs.Order.{RisesFrom, places_past}
use Rattle.journal.specs.declared.Way.{Way}
use Rattle.journal.specs.declared.Way.TheVariants.{ByLine, ByWords}

-- ---- n words: the first, and the rest

module _ (n : ℕ) (h : List ℕ) (long : length h ≡ word_size * suc n) where
  word-length : length (take word_size h) ≡ word_size
  word-length = length-take-le word_size h (omega arith)

  words-rest : length (drop word_size h) ≡ word_size * n
  words-rest = length-drop word_size h ∙ omega arith

words-after : (n p : ℕ) (h y : List ℕ) → length h ≡ word_size * n → after y (words_of n p h) ≡ sets y p h
unfolding words_of
words-after zero p [] y e = after-nil y
words-after zero p (b ∷ h) y e = absurd (omega arith)
words-after (suc n) p h y e =
    let x = take word_size h in
    after_store p x (words_of n (p + word_size) (drop word_size h)) y
    ∙ words-after n (p + word_size) (drop word_size h) (sets y p x) (words-rest n h e)
    ∙ ap (λ (o : ℕ). sets (sets y p x) (p + o) (drop word_size h)) (sym (word-length n h e))
    ∙ sets-append y p x (drop word_size h)
    ∙ ap (sets y p) (take-append-drop word_size h)

words-untouched : (n p : ℕ) (h : List ℕ) (i : ℕ) → length h ≡ word_size * n → (i < p) ⊎ (p + length h ≤ i) → touches (words_of n p h) i ≡ false
unfolding words_of
words-untouched zero p h i e o = touches-nil i
words-untouched (suc n) p h i e o =
    touches-out p (take word_size h) (words_of n (p + word_size) (drop word_size h)) i (here o) (words-untouched n (p + word_size) (drop word_size h) i (words-rest n h e) (there o))
  where
    here : (i < p) ⊎ (p + length h ≤ i) → (i < p) ⊎ (p + length (take word_size h) ≤ i)
    here (inl q) = inl q
    here (inr q) = inr (omega (arith, word-length n h e))

    there : (i < p) ⊎ (p + length h ≤ i) → (i < p + word_size) ⊎ (p + word_size + length (drop word_size h) ≤ i)
    there (inl q) = inl (omega arith)
    there (inr q) = inr (omega (arith, words-rest n h e))

words-touched : (n p : ℕ) (h : List ℕ) (i : ℕ) → length h ≡ word_size * n → p ≤ i → i < p + length h → touches (words_of n p h) i ≡ true
unfolding words_of
words-touched zero p h i e low high = absurd (omega arith)
words-touched (suc n) p h i e low high =
    go (dec_lt i (p + word_size)) (λ q. words-touched n (p + word_size) (drop word_size h) i (words-rest n h e) q (omega (arith, words-rest n h e)))
  where
    x : List ℕ
    x = take word_size h

    rest : List Op
    rest = words_of n (p + word_size) (drop word_size h)

    go : Dec (i < p + word_size) → (p + word_size ≤ i → touches rest i ≡ true) → touches (store p x ∷ rest) i ≡ true
    go (yes q) later = touches-in p x rest i low (omega (arith, word-length n h e))
    go (no q) later = touches-past (store p x) rest i (later (omega arith))

words-to : (n p : ℕ) (h : List ℕ) (l : ℕ) → line_size * l ≤ p → p + word_size * n ≤ line_size * l + line_size → All (To l) (words_of n p h)
unfolding words_of
words-to zero p h l low high = tt
words-to (suc n) p h l low high = (omega arith, words-to n (p + word_size) (drop word_size h) l (omega arith) (omega arith))

words-words : (n p : ℕ) (h : List ℕ) → length h ≡ word_size * n → All IsWord (words_of n p h)
unfolding words_of
words-words zero p h e = tt
words-words (suc n) p h e = (word-length n h e, words-words n (p + word_size) (drop word_size h) (words-rest n h e))

-- a first part of what stands in w stands there, and so does the rest
words-write : (n p : ℕ) (h w : List ℕ) → length h ≡ word_size * n → Writes w (store p h) → All (Writes w) (words_of n p h)
unfolding words_of part
words-write zero p h w e k = tt
words-write (suc n) p h w e k =
    let x = take word_size h in
    let y = drop word_size h in
    let a = word-length n h e in
    let b = words-rest n h e in
    let first : part w p (length x) ≡ x =
    ap₂ (part w) (sym (add-zero p)) a ∙ sym (part-part w p (length h) 0 word_size (omega arith)) ∙ ap (λ (v : List ℕ). part v 0 word_size) k.1 in
    let second : part w (p + word_size) (length y) ≡ y =
    sym (part-part w p (length h) word_size (length y) (omega arith)) ∙ ap (λ (v : List ℕ). part v word_size (length y)) k.1 ∙ take_all (length y) y (omega arith) in
    ((omega (arith, k.0), first), words-write n (p + word_size) y w b (omega (arith, k.0), second))

words-fit : (n p : ℕ) (h : List ℕ) (m : ℕ) → length h ≡ word_size * n → p % word_size ≡ 0 → p + word_size * n ≤ m → All (Writable m) (words_of n p h)
unfolding words_of
words-fit zero p h m e even fits = tt
words-fit (suc n) p h m e even fits =
    (inl (word-length n h e, even, omega arith), words-fit n (p + word_size) (drop word_size h) m (words-rest n h e) (omega arith) (omega arith))

-- ---- places that rise, one more

place-past : (p : ℕ) (vs : List ℕ) (rest : List Op) → line_size ≤ p → places_past (store p vs ∷ rest) ≡ p ∷ places_past rest
unfolding places_past
place-past p vs rest h = rw (le-leb line_size p h)

-- numbers that rise from `high` on rise from anything below it on
pub rises-lower : (low high : ℕ) (ns : List ℕ) → low ≤ high → RisesFrom high ns → RisesFrom low ns
rises-lower low high [] h r = tt
rises-lower low high (n ∷ ns) h r = (omega (arith, r.0), r.1)

place-rises : (low p : ℕ) (vs : List ℕ) (rest : List Op) → low ≤ p → line_size ≤ p → RisesFrom (suc p) (places_past rest) → RisesFrom low (places_past (store p vs ∷ rest))
place-rises low p vs rest h k r = subst (RisesFrom low) (sym (place-past p vs rest k)) (h, r)

words-rise : (n p : ℕ) (h : List ℕ) (rest : List Op) → line_size ≤ p → RisesFrom (p + word_size * n) (places_past rest) → RisesFrom p (places_past (words_of n p h ++ rest))
unfolding words_of
words-rise zero p h rest k r = rises-lower p (p + word_size * 0) (places_past rest) (omega arith) r
words-rise (suc n) p h rest k r =
    let next = p + word_size in
    let e : p + word_size * suc n ≡ next + word_size * n = omega arith in
    let ih = words-rise n next (drop word_size h) rest (omega arith) (subst (λ (m : ℕ). RisesFrom m (places_past rest)) e r) in
    place-rises p p (take word_size h) (words_of n next (drop word_size h) ++ rest) (omega arith) k
    (rises-lower (suc p) next (places_past (words_of n next (drop word_size h) ++ rest)) (omega arith) ih)

-- ---- a line

module _ (p : ℕ) (h : List ℕ) where
  module _ (line : length h ≡ line_size) where
    pub line_after : (way : Way) (y : List ℕ) → after y (line_by way p h) ≡ sets y p h
    unfolding line_by
    line_after ByLine y = after_store p h [] y ∙ after-nil (sets y p h)
    line_after ByWords y = words-after line_words p h y line

    pub line-untouched : (way : Way) (i : ℕ) → (i < p) ⊎ (p + length h ≤ i) → touches (line_by way p h) i ≡ false
    unfolding line_by
    line-untouched ByLine i o = touches-out p h [] i o (touches-nil i)
    line-untouched ByWords i o = words-untouched line_words p h i line o

    line-touched : (way : Way) (i : ℕ) → p ≤ i → i < p + length h → touches (line_by way p h) i ≡ true
    unfolding line_by
    line-touched ByLine i low high = touches-in p h [] i low high
    line-touched ByWords i low high = words-touched line_words p h i line low high

    -- the same bytes as by the line store
    pub line-touches : (way : Way) (i : ℕ) → touches (line_by way p h) i ≡ hits (store p h) i
    line-touches way i = go (hits (store p h) i) refl
      where
        go : (t : Bool) → hits (store p h) i ≡ t → touches (line_by way p h) i ≡ hits (store p h) i
        go true e = let r = in-hits p h i e in line-touched way i r.0 r.1 ∙ sym e
        go false e = line-untouched way i (hits-out p h i e) ∙ sym e

    pub line_writes : (way : Way) (w : List ℕ) → Writes w (store p h) → All (Writes w) (line_by way p h)
    unfolding line_by
    line_writes ByLine w k = (k, tt)
    line_writes ByWords w k = words-write line_words p h w line k

    pub line-fits : (way : Way) (n : ℕ) → p % line_size ≡ 0 → p + line_size ≤ n → All (Writable n) (line_by way p h)
    unfolding line_by
    line-fits ByLine n even fits = (inr (line, even, fits), tt)
    line-fits ByWords n even fits = words-fit line_words p h n line (omega arith) (omega arith)

    pub line-words : All IsWord (line_by ByWords p h)
    unfolding line_by
    line-words = words-words line_words p h line

  pub line-to : (way : Way) (l : ℕ) → p ≡ line_size * l → All (To l) (line_by way p h)
  unfolding line_by
  line-to ByLine l e = (omega arith, tt)
  line-to ByWords l e = words-to line_words p h l (omega arith) (omega arith)

  pub line-stores : (way : Way) (l : ℕ) → p ≡ line_size * l → stores (line_by way p h) ≡ line_by way p h
  line-stores way l e = to-stores l (line_by way p h) (line-to way l e)

  pub line-rises : (way : Way) (low : ℕ) (rest : List Op) → low ≤ p → line_size ≤ p → RisesFrom (p + line_size) (places_past rest) → RisesFrom low (places_past (line_by way p h ++ rest))
  unfolding line_by
  line-rises ByLine low rest k past r = place-rises low p h rest k past (rises-lower (suc p) (p + line_size) (places_past rest) (omega arith) r)
  line-rises ByWords low rest k past r = rises-lower low p (places_past (words_of line_words p h ++ rest)) k (words-rise line_words p h rest past r)

-- ---- stores to a line and its flush, before others

to-past : (l : ℕ) (xs zs ys : List Op) → All (To l) xs → Flushing zs ys → Flushing (xs ++ zs) (flush l ∷ ys)
to-past l [] zs ys h f = flushing-flush l zs ys f
to-past l (store p vs ∷ xs) zs ys h f =
    flushing-past (store p vs) (xs ++ zs) (flush l ∷ ys) (ap (λ (m : ℕ). some (flushes_line m) (flush l ∷ ys)) h.0 ∙ flushed-here l ys) (to-past l xs zs ys h.1 f)
to-past l (flush m ∷ xs) zs ys h f = absurd h.0
to-past l (barrier ∷ xs) zs ys h f = absurd h.0
to-past l (malformed ∷ xs) zs ys h f = absurd h.0

pub line-flushing : (way : Way) (p : ℕ) (h : List ℕ) (l : ℕ) (xs ys : List Op) → p ≡ line_size * l → Flushing xs ys → Flushing (line_by way p h ++ xs) (flush l ∷ ys)
line-flushing way p h l xs ys e f = to-past l (line_by way p h) xs ys (line-to p h way l e) f
