-- What a transaction that changes one leaf costs: it commits by the leaf's header, stores no word that lies elsewhere, and flushes each line that
-- it stores to once, with one barrier for the words and one for the header.
-- Assumes nothing.
use Prim.Native.Nat.{ℕ, zero, suc, ◌+◌, ◌-◌, ◌*◌, ◌/◌, ◌%◌, ◌≤◌, ◌<◌}
use mathlib.Core.Path.{◌≡◌, refl, sym, ap, ◌∙◌}
use mathlib.Core.Logic.{inl, inr}
use mathlib.Core.Bool.{Bool, true, false, ◌&&◌, ◌||◌, not, true≢false}
use mathlib.Core.List.{List, [], ◌∷◌, ◌++◌}
use native.Mathlib.Decide.{dec_lt}
use native.Mathlib.Omega.{arith}
use lib.ListN.{length}
use lib.Dec.{eqb, leb}
use borrow.Author.Tests.{eq-eqb, lt-leb}
use Rattle.codec.specs.Lists.{part, pick, All}
use Rattle.codec.proofs.Tests.{eqs-same, eqs-differ}
use Rattle.codec.proofs.Lists.{length_part}
use Rattle.codec.proofs.Agree.{part-agree}
use Rattle.device.specs.Tape.{Op, store, flush, barrier, malformed, how_many, flush_count, barrier_count}
use Rattle.device.specs.Cut.{stores, with_barrier}
use Rattle.device.proofs.Cuts.{flush_count-append, barrier_count-append}
use Rattle.device.proofs.Stores.{stores-append}
use Rattle.device.proofs.Writing.{flushing-stores, group-most, group-flushes}
use Rattle.page.specs.Layout.{page_size, line_size}
use Rattle.image.specs.PageZero.{page_count, root_of}
use Rattle.image.specs.Image.{reached, among, sound}
use Rattle.image.proofs.Zero.{is_page-true}
use Rattle.journal.specs.Changes.{word_size, page_words, line_words, free_word, flushes_from, flushes_of, stage_a, header_line, changed_from, changed_pages, same_root}
use Rattle.journal.specs.Tape.{by_header, one_header, choose, taken_for}
use Rattle.journal.specs.Edited.{Edited}
use Rattle.journal.specs.Order.{RisesFrom, store_places}
use Rattle.journal.specs.Cost.{Elsewhere, OneLeaf, lines_between, Costs}
use Rattle.journal.specs.declared.Way.TheVariants.{ByLine}
use Rattle.journal.proofs.StageA.{flushing-of, word_at, walk, walk-all}
use Rattle.journal.proofs.Changed.{reached-page}
use Rattle.journal.proofs.Rising.{walk-rises}
use Rattle.journal.proofs.Devices.{walk-words}

-- ---- the flushes of stores that rise: at most one for each line, "then a flush of each line so stored"

module _ (bottom top : ℕ) where
  -- the stores at the places ps are to the lines from `bottom` on and below `top`
  abbrev Between : List ℕ → Type 0
  Between ps = All (λ (p : ℕ). (bottom ≤ p / line_size) × (p / line_size < top)) ps

  from-few : (l low : ℕ) (cs : List Op) → l < top → l ≤ low / line_size → RisesFrom low (store_places cs) → Between (store_places cs) → flush_count (flushes_from l cs) ≤ top - l
  unfolding flushes_from store_places how_many
  from-few l low [] inside h r b = omega arith
  from-few l low (flush m ∷ cs) inside h r b = from-few l low cs inside h r b
  from-few l low (barrier ∷ cs) inside h r b = from-few l low cs inside h r b
  from-few l low (malformed ∷ cs) inside h r b = from-few l low cs inside h r b
  from-few l low (store p vs ∷ cs) inside h r b = at (dec_lt l (p / line_size)) (from-few (p / line_size) (suc p) cs b.0.1 (omega arith) r.1 b.1)
    where
      rest : List Op
      rest = flushes_from (p / line_size) cs

      -- at most one flush of line l
      one : (t : Bool) → flush_count (pick t rest (flush l ∷ rest)) ≤ flush_count rest + 1
      one true = omega arith
      one false = omega arith

      -- and none yet if this store is to the same line
      at : Dec (l < p / line_size) → flush_count rest ≤ top - p / line_size → flush_count (flushes_from l (store p vs ∷ cs)) ≤ top - l
      at (yes u) k = omega (arith, one (eqb l (p / line_size)), b.0.1)
      at (no u) k = let e : l ≡ p / line_size = omega (arith, r.0) in rw (eq-eqb l (p / line_size) e) (omega (arith, e, k))

  of-few : (low : ℕ) (cs : List Op) → RisesFrom low (store_places cs) → Between (store_places cs) → flush_count (flushes_of cs) ≤ top - bottom
  unfolding flushes_of store_places how_many
  of-few low [] r b = omega arith
  of-few low (flush m ∷ cs) r b = of-few low cs r b
  of-few low (barrier ∷ cs) r b = of-few low cs r b
  of-few low (malformed ∷ cs) r b = of-few low cs r b
  of-few low (store p vs ∷ cs) r b = omega (arith, b.0.0, from-few (p / line_size) (suc p) cs b.0.1 (omega arith) r.1 b.1)

-- where nothing is stored, nothing is flushed and nothing waited for
none-flushed : (cs : List Op) → length cs ≡ 0 → (flush_count (flushes_of cs) ≡ 0) × (barrier_count (with_barrier (flushes_of cs)) ≡ 0)
unfolding flushes_of how_many
none-flushed [] e = (refl, refl)
none-flushed (o ∷ cs) e = absurd (omega arith)

-- ---- stage A, where the words that it stores lie in a page's bytes from `from` on and below `to`

module _ (rs a w : List ℕ) (from to : ℕ) (inside : (k : ℕ) → free_word rs k ≡ true → (word_at a k ≡ word_at w k → ⊥) → (from ≤ word_size * k) × (word_size * k + word_size ≤ to)) where
  walk-few : (n k : ℕ) → (word_size * length (walk rs a w n k) ≤ to - from) × (word_size * length (walk rs a w n k) ≤ to - word_size * k)
  walk-few =
      walk-all rs a w (λ n k cs. (word_size * length cs ≤ to - from) × (word_size * length cs ≤ to - word_size * k)) (λ k. (omega arith, omega arith))
      (λ n k cs q h. (h.0, omega (arith, h.1))) (λ n k cs free differ h. (omega (arith, inside k free differ, h.1), omega (arith, inside k free differ, h.1)))

  walk-between : (n k : ℕ) → Between (from / line_size) ((to + 63) / line_size) (store_places (walk rs a w n k))
  unfolding store_places
  walk-between =
      walk-all rs a w (λ n k cs. Between (from / line_size) ((to + 63) / line_size) (store_places cs)) (λ k. tt) (λ n k cs q h. h)
      (λ n k cs free differ h. ((omega (arith, inside k free differ), omega (arith, inside k free differ)), h))

-- no flush and no barrier is among its stores
walk-stores : (rs a w : List ℕ) (n k : ℕ) → (stores (walk rs a w n k) ≡ walk rs a w n k) × (flush_count (walk rs a w n k) ≡ 0) × (barrier_count (walk rs a w n k) ≡ 0)
unfolding stores how_many
walk-stores rs a w =
    walk-all rs a w (λ n k cs. (stores cs ≡ cs) × (flush_count cs ≡ 0) × (barrier_count cs ≡ 0)) (λ k. (refl, refl, refl)) (λ n k cs q h. h)
    (λ n k cs free differ h. (ap (λ (r : List Op). store (word_size * k) (word_at w k) ∷ r) h.0, h.1, h.2))

-- ---- the changed pages, where one header differs

module _ (before after a w : List ℕ) (q : ℕ) (same : (p : ℕ) → (p ≡ q → ⊥) → header_line a p ≡ header_line w p) where
  changed-past : (n p : ℕ) → (p ≡ q → ⊥) → changed_from before after a w (suc n) p ≡ changed_from before after a w n (suc p)
  unfolding changed_from
  changed-past n p other = rw (same p other, eqs-same (header_line w p)) (go (among p before && among p after))
    where
      rest : List ℕ
      rest = changed_from before after a w n (suc p)

      go : (t : Bool) → pick t rest rest ≡ rest
      go true = refl
      go false = refl

  changed-none : (n p : ℕ) → q < p → changed_from before after a w n p ≡ []
  unfolding changed_from
  changed-none zero p h = refl
  changed-none (suc n) p h = changed-past n p (λ e. omega arith) ∙ changed-none n (suc p) (omega arith)

  changed-one : among q before ≡ true → among q after ≡ true → (header_line a q ≡ header_line w q → ⊥) → (n p : ℕ) → p ≤ q → q < p + n → changed_from before after a w n p ≡ q ∷ []
  unfolding changed_from
  changed-one was stays differ zero p low high = absurd (omega arith)
  changed-one was stays differ (suc n) p low high = go (dec_lt p q) (λ h. changed-one was stays differ n (suc p) h (omega arith))
    where
      here : changed_from before after a w (suc n) q ≡ q ∷ []
      here = rw (was, stays, eqs-differ (header_line a q) (header_line w q) differ) (ap (λ (r : List ℕ). q ∷ r) (changed-none n (suc q) (omega arith)))

      go : Dec (p < q) → (p < q → changed_from before after a w n (suc p) ≡ q ∷ []) → changed_from before after a w (suc n) p ≡ q ∷ []
      go (yes h) later = changed-past n p (λ e. omega arith) ∙ later h
      go (no h) later = let e : p ≡ q = omega arith in ap (changed_from before after a w (suc n)) e ∙ here

-- ---- one leaf

module _ (a w : List ℕ) (s : sound a ≡ true) (d : Edited a w) (q from to : ℕ) (O : OneLeaf a w q from to) where
  open O use {span}
  open span use {low, order, high, even_from, even_to}

  abbrev rs : List ℕ
  rs = reached a (root_of a)

  past-zero : (1 ≤ q) × (q < page_count a)
  past-zero = is_page-true (page_count a) q (reached-page a s q O.was)

  -- bytes of both images that lie elsewhere
  kept : (o n : ℕ) → ((i : ℕ) → o ≤ i → i < o + n → Elsewhere q from to i) → part a o n ≡ part w o n
  kept o n h = part-agree w a o n d.same_length (λ i l u. O.elsewhere i (h i l u))

  in-header : (k : ℕ) → page_size * q ≤ word_size * k → word_size * k < page_size * q + line_size → free_word rs k ≡ false
  unfolding free_word
  in-header k l u =
      let e : k / page_words ≡ q = omega arith in
      rw (lt-leb line_words (k % page_words) (omega arith), e, O.was) (go (leb page_words k))
    where
      go : (t : Bool) → (t && (false || not true)) ≡ false
      go true = refl
      go false = refl

  inside : (k : ℕ) → free_word rs k ≡ true → (word_at a k ≡ word_at w k → ⊥) → (page_size * q + from ≤ word_size * k) × (word_size * k + word_size ≤ page_size * q + to)
  inside k free differ = go (dec_lt (word_size * k) (page_size * q)) (dec_lt (word_size * k) (page_size * q + line_size)) (dec_lt (word_size * k) (page_size * q + from)) (dec_lt (word_size * k) (page_size * q + to))
    where
      go : Dec (word_size * k < page_size * q) → Dec (word_size * k < page_size * q + line_size) → Dec (word_size * k < page_size * q + from) → Dec (word_size * k < page_size * q + to) →
          (page_size * q + from ≤ word_size * k) × (word_size * k + word_size ≤ page_size * q + to)
      go (yes t) u v x = absurd (differ (kept (word_size * k) word_size (λ i l h. inl (omega arith))))
      go (no t) (yes u) v x = absurd (true≢false (sym free ∙ in-header k (omega arith) u))
      go (no t) (no u) (yes v) x = absurd (differ (kept (word_size * k) word_size (λ i l h. inr (omega arith, inl (omega arith)))))
      go (no t) (no u) (no v) (yes x) = (omega arith, omega arith)
      go (no t) (no u) (no v) (no x) = absurd (differ (kept (word_size * k) word_size (λ i l h. inr (omega arith, inr (omega arith)))))

  same-header : (p : ℕ) → (p ≡ q → ⊥) → header_line a p ≡ header_line w p
  unfolding header_line
  same-header p other = kept (page_size * p) line_size (λ i l h. go i l h (dec_lt p q))
    where
      go : (i : ℕ) → page_size * p ≤ i → i < page_size * p + line_size → Dec (p < q) → Elsewhere q from to i
      go i l h (yes below) = inl (omega arith)
      go i l h (no above) = let past : q < p = omega (arith, other) in inr (omega arith, inr (omega arith))

  one-changed : changed_pages a w ≡ q ∷ []
  unfolding changed_pages
  one-changed = changed-one rs (reached w (root_of w)) a w q same-header O.was O.stays O.header (page_count a - 1) 1 past-zero.0 (omega (arith, past-zero.0, past-zero.1))

  same-root : same_root a w ≡ true
  unfolding same_root
  same-root = rw (kept 8 8 (λ i l h. inl (omega (arith, past-zero.0)))) (eqs-same (part w 8 8))

  commit-is : taken_for ByLine a w ≡ by_header (stage_a a w) w q
  unfolding taken_for choose one_header
  commit-is = rw (same-root, one-changed)

  -- ---- its tape

  abbrev A : List Op
  A = walk rs a w (length a / word_size) 0

  stage-stores : stores (stage_a a w) ≡ A
  unfolding stage_a
  stage-stores = flushing-stores A (flushes_of A) (flushing-of A) ∙ (walk-stores rs a w (length a / word_size) 0).0

  stage-flushes : flush_count (stage_a a w) ≡ flush_count (flushes_of A)
  unfolding stage_a
  stage-flushes = flush_count-append A (with_barrier (flushes_of A)) ∙ omega (arith, (walk-stores rs a w (length a / word_size) 0).1, group-flushes (flushes_of A))

  stage-barriers : barrier_count (stage_a a w) ≡ barrier_count (with_barrier (flushes_of A))
  unfolding stage_a
  stage-barriers = barrier_count-append A (with_barrier (flushes_of A)) ∙ omega (arith, (walk-stores rs a w (length a / word_size) 0).2)

  tape-stores : stores (by_header (stage_a a w) w q).tape ≡ A ++ (store (page_size * q) (header_line w q) ∷ [])
  unfolding by_header stores
  tape-stores = stores-append (stage_a a w) _ ∙ ap (λ (r : List Op). r ++ (store (page_size * q) (header_line w q) ∷ [])) stage-stores

  -- "One changed place: its line store .., then its flush."
  tape-flushes : flush_count (by_header (stage_a a w) w q).tape ≡ flush_count (flushes_of A) + 1
  unfolding by_header how_many
  tape-flushes = flush_count-append (stage_a a w) _ ∙ omega (arith, stage-flushes)

  -- and its barrier
  tape-barriers : barrier_count (by_header (stage_a a w) w q).tape ≡ barrier_count (with_barrier (flushes_of A)) + 1
  unfolding by_header how_many
  tape-barriers = barrier_count-append (stage_a a w) _ ∙ omega (arith, stage-barriers)

  few-flushes : flush_count (flushes_of A) ≤ lines_between from to
  few-flushes =
      omega (
        arith,
        of-few ((page_size * q + from) / line_size) ((page_size * q + to + 63) / line_size) 0 A (walk-rises rs a w (length a / word_size) 0)
            (walk-between rs a w (page_size * q + from) (page_size * q + to) inside (length a / word_size) 0),
      )

  pub leaf-costs : Costs (taken_for ByLine a w).place (flush_count (taken_for ByLine a w).tape) (taken_for ByLine a w).tape q ((to - from) / word_size) (lines_between from to + 1)
  unfolding header_line by_header
  leaf-costs =
      rw commit-is
      (record {
        commits = refl;
        before = A;
        line = header_line w q;
        stores_are = tape-stores;
        is_line = length_part w (page_size * q) line_size (omega (arith, past-zero.1, d.same_length));
        are_words = walk-words rs a w (length a / word_size) 0 (omega (arith, d.same_length));
        few_words = omega (arith, (walk-few rs a w (page_size * q + from) (page_size * q + to) inside (length a / word_size) 0).0);
        few_flushes = omega (arith, tape-flushes, few-flushes);
        few_barriers = omega (arith, tape-barriers, group-most (flushes_of A) (flushing-of A).flushes);
        alone = λ e. (omega (arith, tape-flushes, (none-flushed A e).0), omega (arith, tape-barriers, (none-flushed A e).1));
      })
