-- Headers compared word by word, the changed ones collected page by page, and written to the log's lines of work.
-- Assumes nothing.
use Prim.Native.Nat.{ℕ, suc, ◌+◌, ◌-◌, ◌*◌, ◌≤◌, ◌<◌}
use mathlib.Core.Path.{◌≡◌, refl, sym, ap, ap₂, ◌∙◌}
use mathlib.Core.Bool.{Bool, true, false, ◌&&◌, and-false}
use mathlib.Core.List.{List, [], ◌∷◌, ◌++◌, append_assoc}
use native.Mathlib.Omega.{arith}
use native.Mathlib.Numerals.{add-one}
use lib.ListN.{length, get_or, take, drop, length-map, drop_of_length-le}
use lib.Seq.{sets, take_at}
use lib.Bits.{bit_or, bit_xor, or_zero_r, xor_self, xor_add_and, and_le_l, and_le_r}
use lib.Dec.{eqb}
use borrow.Author.Tests.{ne_eqb, eqb-true, eqb-false}
use Rattle.std.specs.List.{copy_within}
use Rattle.codec.specs.Lists.{pick, part, splice, eqs, All}
use Rattle.codec.proofs.Tests.{eqs-same, eqs-differ, eqs-append}
use Rattle.codec.proofs.Lists.{length_part, part-drop, drop-splice, splice-sets, sets-append}
use Rattle.page.specs.Layout.{page_size, line_size}
use Rattle.page.proofs.CheckBits.{or-none}
use Rattle.image.specs.Image.{among}
use Rattle.journal.specs.Changes.{header_line, changed_from}
use Rattle.journal.specs.Tape.{new_headers, join_lines}
use Rattle.codec.proofs.Agree.{part-add}
use Rattle.journal.proofs.Headers.{Lines}
use Rattle.journal.proofs.Log.{length-join}
use Rattle.tape_write.specs.Lines.{PageIn}
use Rattle.tape_write.specs.Calls.{Marks}
use Rattle.tape_write.proofs.StageTape.{first-cons}

-- ---- parts compared word by word

eqs-apart : (x y u v : List ℕ) → length x ≡ length y → (x ≡ y → ⊥) → eqs (x ++ u) (y ++ v) ≡ false
eqs-apart x y u v e other = eqs-differ (x ++ u) (y ++ v) (λ q. other (sym (take_at x u (length y) e) ∙ ap (take (length y)) q ∙ take_at y v (length y) refl))

xor-none : (u v : ℕ) → bit_xor u v ≡ 0 → u ≡ v
xor-none u v e = omega (arith, xor_add_and u v, and_le_l u v, and_le_r u v)

module _ (a b : List ℕ) (at n i : ℕ) where
  -- the words from the i-th on
  abbrev pub words_of : List ℕ → ℕ → List ℕ
  words_of l j = part l (at + 8 * j) (8 * (n - j))

  pub compare-end : n ≤ i → eqs (words_of a i) (words_of b i) ≡ true
  unfolding part
  compare-end h = let e : 8 * (n - i) ≡ 0 = omega arith in rw e (eqs-same [])

  module _ (more : i < n) where
    first : (l : List ℕ) → words_of l i ≡ part l (at + 8 * i) 8 ++ words_of l (i + 1)
    first l =
        let e : 8 * (n - i) ≡ 8 + 8 * (n - (i + 1)) = omega arith in
        let f : at + 8 * i + 8 ≡ at + 8 * (i + 1) = omega arith in
        ap (part l (at + 8 * i)) e ∙ part-add l (at + 8 * i) 8 (8 * (n - (i + 1))) ∙ ap (λ (o : ℕ). part l (at + 8 * i) 8 ++ part l o (8 * (n - (i + 1)))) f

    pub compare_same : part a (at + 8 * i) 8 ≡ part b (at + 8 * i) 8 → eqs (words_of a i) (words_of b i) ≡ eqs (words_of a (i + 1)) (words_of b (i + 1))
    compare_same e =
        ap₂ eqs (first a ∙ ap (λ (x : List ℕ). x ++ words_of a (i + 1)) e) (first b) ∙ eqs-append (part b (at + 8 * i) 8) (words_of a (i + 1)) (words_of b (i + 1))

    pub compare-other : at + 8 * i + 8 ≤ length a → at + 8 * i + 8 ≤ length b → (part a (at + 8 * i) 8 ≡ part b (at + 8 * i) 8 → ⊥) → eqs (words_of a i) (words_of b i) ≡ false
    compare-other fa fb other =
        ap₂ eqs (first a) (first b)
        ∙ eqs-apart (part a (at + 8 * i) 8) (part b (at + 8 * i) 8) (words_of a (i + 1)) (words_of b (i + 1)) (length_part a (at + 8 * i) 8 fa ∙ sym (length_part b (at + 8 * i) 8 fb)) other

    -- what differs is joined to d: with the words that are left, it tells as much as before
    pub compare-joined : at + 8 * i + 8 ≤ length a → at + 8 * i + 8 ≤ length b → (d u v : ℕ) →
        (u ≡ v → part a (at + 8 * i) 8 ≡ part b (at + 8 * i) 8) → (part a (at + 8 * i) 8 ≡ part b (at + 8 * i) 8 → u ≡ v) →
        (eqb (bit_or d (bit_xor u v)) 0 && eqs (words_of a (i + 1)) (words_of b (i + 1))) ≡ (eqb d 0 && eqs (words_of a i) (words_of b i))
    compare-joined fa fb d u v same back = go (eqb u v) refl
      where
        go : (t : Bool) → eqb u v ≡ t → (eqb (bit_or d (bit_xor u v)) 0 && eqs (words_of a (i + 1)) (words_of b (i + 1))) ≡ (eqb d 0 && eqs (words_of a i) (words_of b i))
        go true e =
            let z : u ≡ v = eqb-true u v e in
            let x : bit_or d (bit_xor u v) ≡ d = ap (λ (w : ℕ). bit_or d (bit_xor w v)) z ∙ ap (bit_or d) (xor_self v) ∙ or_zero_r d in
            ap₂ (λ (w : ℕ) (t : Bool). eqb w 0 && t) x (sym (compare_same (same z)))
        go false e =
            let ne = eqb-false u v e in
            rw (ne_eqb (bit_or d (bit_xor u v)) 0 (λ q. ne (xor-none u v (or-none d (bit_xor u v) q).1)), compare-other fa fb (λ q. ne (back q)))
            (sym (and-false (eqb d 0)))

-- ---- the changed headers, page by page

-- a page that is marked, or not, is reached, or not
module _ {marks rs : List ℕ} (m : Marks marks rs) (p : ℕ) (low : p < 64) where
  pub mark-none : get_or marks p 0 ≡ 0 → among p rs ≡ false
  mark-none e = go (among p rs) (m.mark p low)
    where
      go : (t : Bool) → get_or marks p 0 ≡ pick t 1 0 → t ≡ false
      go true q = absurd (omega arith)
      go false q = refl

  pub mark-some : (get_or marks p 0 ≡ 0 → ⊥) → among p rs ≡ true
  mark-some e = go (among p rs) (m.mark p low)
    where
      go : (t : Bool) → get_or marks p 0 ≡ pick t 1 0 → t ≡ true
      go true q = refl
      go false q = absurd (e q)

module _ (rs ss a w : List ℕ) (n p : ℕ) where
  abbrev pub from : ℕ → List ℕ
  from q = changed_from rs ss a w (n - q) q

  pub changed-end : n ≤ p → from p ≡ []
  unfolding changed_from
  changed-end h = let e : n - p ≡ 0 = omega arith in rw e

  module _ (more : p < n) where
    step : from p ≡ pick (among p rs && among p ss) (pick (eqs (header_line a p) (header_line w p)) (from (p + 1)) (p ∷ from (p + 1))) (from (p + 1))
    unfolding changed_from
    step = let e : n - p ≡ suc (n - (p + 1)) = omega arith in rw (e, add-one p)

    pub changed-before : among p rs ≡ false → from p ≡ from (p + 1)
    changed-before e = step ∙ rw e

    pub changed-after : among p ss ≡ false → from p ≡ from (p + 1)
    changed-after e = step ∙ rw e (go (among p rs))
      where
        rest : List ℕ
        rest = pick (eqs (header_line a p) (header_line w p)) (from (p + 1)) (p ∷ from (p + 1))

        go : (t : Bool) → pick (t && false) rest (from (p + 1)) ≡ from (p + 1)
        go true = refl
        go false = refl

    pub changed-same : eqs (header_line a p) (header_line w p) ≡ true → from p ≡ from (p + 1)
    changed-same e = step ∙ rw e (go (among p rs && among p ss))
      where
        go : (t : Bool) → pick t (from (p + 1)) (from (p + 1)) ≡ from (p + 1)
        go true = refl
        go false = refl

    pub changed-page : among p rs ≡ true → among p ss ≡ true → eqs (header_line a p) (header_line w p) ≡ false → from p ≡ p ∷ from (p + 1)
    changed-page e f g = step ∙ rw (e, f, g)

-- ---- their headers in the log's lines

pub header-length : (w : List ℕ) (p : ℕ) → PageIn w p → length (header_line w p) ≡ line_size
unfolding header_line
header-length w p h = length_part w (page_size * p) line_size (omega (arith, h.1))

pub new-lines : (w ps : List ℕ) → All (PageIn w) ps → Lines (new_headers w ps)
new-lines w [] h = tt
new-lines w (p ∷ ps) h = (header-length w p h.0, new-lines w ps h.1)

-- what is equal past page 0 has equal headers
pub header-past : (w v : List ℕ) (p : ℕ) → drop page_size v ≡ drop page_size w → 1 ≤ p → part v (page_size * p) line_size ≡ header_line w p
unfolding header_line
header-past w v p e one =
    let f : page_size + (page_size * p - page_size) ≡ page_size * p = omega arith in
    ap (λ (o : ℕ). part v o line_size) (sym f)
    ∙ sym (part-drop v page_size (page_size * p - page_size) line_size)
    ∙ ap (λ (l : List ℕ). part l (page_size * p - page_size) line_size) e
    ∙ part-drop w page_size (page_size * p - page_size) line_size
    ∙ ap (λ (o : ℕ). part w o line_size) f

-- what is copied within a list is a part of it written over another
pub copied : (s : List ℕ) (to from n : ℕ) → from + n ≤ length s → copy_within s from (from + n) to ≡ splice s to (part s from n)
unfolding splice part
copied s to from n fits =
    let size : from + n - from ≡ n = omega arith in
    rw (size, length_part s from n fits) (append_assoc (take to s) (part s from n) (drop (to + n) s))

-- one header more, from the i-th of the pages ps on
module _ (w v v' ps : List ℕ) (i : ℕ) where
  abbrev left : ℕ → List ℕ
  left j = join_lines (new_headers w (drop j ps))

  pub log-end : length ps ≤ i → sets v (64 * i + 64) (left i) ≡ v
  unfolding join_lines
  log-end h = rw (drop_of_length-le ps {i = i} h)

  module _ (p : ℕ) (more : i < length ps) (there : p ≡ get_or ps i 0) (inn : PageIn w p) (same : length v ≡ length w) (e : v' ≡ splice v (64 * i + 64) (part v (1024 * p) 64)) (low : length ps ≤ 15) where
    fits : 64 * i + 64 + length (part v (1024 * p) 64) ≤ length v
    fits = omega (arith, length_part v (1024 * p) 64 (omega (arith, inn.1)), inn.0, inn.1)

    pub log-kept : drop page_size v ≡ drop page_size w → drop page_size v' ≡ drop page_size w
    log-kept q = ap (drop page_size) e ∙ drop-splice v (64 * i + 64) (part v (1024 * p) 64) fits page_size (omega (arith, length_part v (1024 * p) 64 (omega (arith, inn.1)))) ∙ q

    pub log-step : drop page_size v ≡ drop page_size w → sets v' (64 * (i + 1) + 64) (left (i + 1)) ≡ sets v (64 * i + 64) (left i)
    unfolding join_lines
    log-step q =
        let h = header-past w v p q inn.0 in
        let n : 64 * (i + 1) + 64 ≡ 64 * i + 64 + length (header_line w p) = omega (arith, header-length w p inn) in
        ap (λ (x : List ℕ). sets x (64 * (i + 1) + 64) (left (i + 1))) (e ∙ splice-sets v (64 * i + 64) (part v (1024 * p) 64) fits ∙ ap (sets v (64 * i + 64)) h)
        ∙ ap (λ (o : ℕ). sets (sets v (64 * i + 64) (header_line w p)) o (left (i + 1))) n
        ∙ sets-append v (64 * i + 64) (header_line w p) (left (i + 1))
        ∙ ap (λ (ps : List ℕ). sets v (64 * i + 64) (join_lines (new_headers w ps))) (sym (first-cons ps i p more there))

-- all of them: a part of work written over
pub log-whole : (w ps : List ℕ) → All (PageIn w) ps → length ps ≤ 15 → page_size ≤ length w →
    sets w 64 (join_lines (new_headers w ps)) ≡ splice w line_size (join_lines (new_headers w ps))
log-whole w ps h few long =
    sym (splice-sets w 64 (join_lines (new_headers w ps)) (omega (arith, length-join (new_headers w ps) (new-lines w ps h), length-map ps (header_line w))))
