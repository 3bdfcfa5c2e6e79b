-- The commit by the changed places: which of the three it is, that stage A stands before it, and its bytes and flushes.
-- Assumes nothing.
use Prim.Native.Nat.{ℕ, ◌+◌, ◌*◌, ◌≤◌, ◌<◌}
use mathlib.Core.Path.{◌≡◌, refl, sym, ap, ap₂, ◌∙◌}
use mathlib.Core.Bool.{Bool, true, false, true≢false, false≢true}
use mathlib.Core.List.{List, [], ◌∷◌, ◌++◌, append_assoc}
use native.Mathlib.Omega.{arith}
use lib.ListN.{length, get_or, length-map}
use lib.Seq.{sets}
use lib.Dec.{eqb}
use borrow.Author.Tests.{eq-eqb, ne_eqb, eqb-true, eqb-false}
use Rattle.codec.specs.Lists.{pick, part, splice, All}
use Rattle.codec.specs.Numbers.{number, bytes_of}
use Rattle.codec.proofs.Tests.{first, second}
use Rattle.device.specs.Tape.{Op, how_many, flush_count, tape_bytes, store, flush}
use Rattle.device.specs.Cut.{with_barrier}
use Rattle.page.specs.Layout.{page_size, line_size}
use Rattle.image.specs.PageZero.{root_of, mark_bytes}
use Rattle.journal.specs.Changes.{header_line}
use Rattle.journal.specs.Log.{page_lines, log_tape, replay_tape}
use Rattle.journal.specs.Tape.{Taken, new_headers, join_lines, by_header, by_root, mark_flush, by_log, one_header, choose}
use Rattle.journal.specs.Recovery.{logged}
use Rattle.journal.proofs.Log.{log-after, log-read}
use Rattle.journal.specs.declared.Way.{Way}
use Rattle.journal.specs.declared.Way.TheVariants.{ByLine, ByWords}
use Rattle.journal.specs.declared.CommitPlace.{CommitPlace}
use Rattle.journal.specs.declared.CommitPlace.TheVariants.{Header, Root, Log}
use Rattle.tape_write.specs.Lines.{PageIn}
use Rattle.tape_write.specs.Sizes.{lines_bytes, group_bytes, replay_bytes, log_bytes, commits_alone, end_bytes, end_flushes}
use Rattle.tape_write.proofs.Encoding.{length-next, group-few}
use Rattle.tape_write.proofs.StageTape.{all-at}
use Rattle.tape_write.proofs.HeaderPages.{header-length, new-lines}
use Rattle.tape_write.proofs.LineBytes.{lines-most}
use Rattle.tape_write.proofs.Endings.{length-wait, length-settled, log-size, log-count}

-- ---- which it is

-- a header commits by itself only on the line-store device, alone
pub alone-true : (way : Way) (k : ℕ) (same : Bool) → commits_alone way k same ≡ true → (way ≡ ByLine) × ((k ≡ 1) × (same ≡ true))
unfolding commits_alone
alone-true ByLine k same h = (refl, (eqb-true k 1 (first (eqb k 1) same h), second (eqb k 1) same h))
alone-true ByWords k same h = absurd (false≢true h)

module _ (way : Way) (w : List ℕ) (same : Bool) (ps : List ℕ) where
  pub end-root : length ps ≡ 0 → choose way [] w same ps ≡ by_root [] w
  unfolding choose
  end-root e = go ps e
    where
      go : (qs : List ℕ) → length qs ≡ 0 → choose way [] w same qs ≡ by_root [] w
      go [] q = refl
      go (p ∷ qs) q = absurd (omega arith)

  pub end-header : commits_alone way (length ps) same ≡ true → choose way [] w same ps ≡ by_header [] w (get_or ps 0 0)
  unfolding choose one_header
  end-header e = let h = alone-true way (length ps) same e in rw (h.0, h.1.1) (go ps h.1.0)
    where
      go : (qs : List ℕ) → length qs ≡ 1 → choose ByLine [] w true qs ≡ by_header [] w (get_or qs 0 0)
      go [] q = absurd (omega arith)
      go (p ∷ []) q = refl
      go (p ∷ r ∷ qs) q = absurd (omega arith)

  pub end-log : (length ps ≡ 0 → ⊥) → commits_alone way (length ps) same ≡ false → choose way [] w same ps ≡ by_log way [] w same (new_headers w ps)
  unfolding choose one_header commits_alone
  end-log e f = go way same ps e f
    where
      go : (v : Way) (t : Bool) (qs : List ℕ) → (length qs ≡ 0 → ⊥) → commits_alone v (length qs) t ≡ false → choose v [] w t qs ≡ by_log v [] w t (new_headers w qs)
      go v t [] q r = absurd (q refl)
      go ByLine true (p ∷ []) q r = absurd (true≢false r)
      go ByWords true (p ∷ []) q r = refl
      go v false (p ∷ []) q r = refl
      go v t (p ∷ r ∷ qs) q s = refl

-- ---- stage A stands before it

pub record Behind (A : List Op) (t u : Taken) : Type 0 where
  pub tape : t.tape ≡ A ++ u.tape
  pub place : t.place ≡ u.place
  pub work : t.work ≡ u.work

module _ (A : List Op) (w : List ℕ) where
  by-log : (way : Way) (same : Bool) (hs : List (List ℕ)) → Behind A (by_log way A w same hs) (by_log way [] w same hs)
  unfolding by_log
  by-log way same hs = record { tape = append_assoc A (log_tape way hs) _; place = refl; work = refl }

  one-behind : (way : Way) (p : ℕ) → Behind A (one_header way A w p) (one_header way [] w p)
  unfolding one_header by_header
  one-behind ByLine p = record { tape = refl; place = refl; work = refl }
  one-behind ByWords p = by-log ByWords true (new_headers w (p ∷ []))

  pub choose-behind : (way : Way) (same : Bool) (ps : List ℕ) → Behind A (choose way A w same ps) (choose way [] w same ps)
  unfolding choose by_root
  choose-behind way same [] = record { tape = refl; place = refl; work = refl }
  choose-behind way true (p ∷ []) = one-behind way p
  choose-behind way false (p ∷ []) = by-log way false (new_headers w (p ∷ []))
  choose-behind way same (p ∷ q ∷ ps) = by-log way same (new_headers w (p ∷ q ∷ ps))

-- ---- its bytes and flushes

pub replay-same : (way : Way) (k : ℕ) (same : Bool) → same ≡ true → replay_bytes way k same ≡ lines_bytes way k + group_bytes k + 20
unfolding replay_bytes
replay-same way k same e = rw e (omega arith)

pub replay-other : (way : Way) (k : ℕ) (same : Bool) → same ≡ false → replay_bytes way k same ≡ lines_bytes way k + group_bytes k + 32
unfolding replay_bytes
replay-other way k same e = rw e (omega arith)

module _ (way : Way) (k : ℕ) (same : Bool) where
  pub bytes-none : k ≡ 0 → (end_bytes way k same ≡ 20) × (end_flushes way k same ≡ 1)
  unfolding end_bytes end_flushes
  bytes-none e = rw (eq-eqb k 0 e) (refl, refl)

  module _ (some : k ≡ 0 → ⊥) where
    pub bytes_one : commits_alone way k same ≡ true → (end_bytes way k same ≡ 76) × (end_flushes way k same ≡ 1)
    unfolding end_bytes end_flushes
    bytes_one t = rw (ne_eqb k 0 some, t) (refl, refl)

    pub bytes-log : commits_alone way k same ≡ false → (end_bytes way k same ≡ log_bytes way k same) × (end_flushes way k same ≡ 2 * k + 2)
    unfolding end_bytes end_flushes
    bytes-log t = rw (ne_eqb k 0 some, t) (refl, refl)

  pub replay-few : k ≤ 15 → replay_bytes way k same ≤ 1536
  unfolding replay_bytes
  replay-few h = omega (arith, lines-most way k, group-few k, go same)
    where
      go : (t : Bool) → pick t 0 12 ≤ 12
      go true = omega arith
      go false = omega arith

  log-few : k ≤ 15 → log_bytes way k same ≤ 3060
  unfolding log_bytes
  log-few h = omega (arith, lines-most way k, group-few k, replay-few h)

  pub end-few : k ≤ 15 → (end_bytes way k same ≤ 3060) × (end_flushes way k same ≤ 32)
  unfolding end_bytes end_flushes
  end-few h = go (eqb k 0) (commits_alone way k same)
    where
      go : (s t : Bool) → (pick s 20 (pick t 76 (log_bytes way k same)) ≤ 3060) × (pick s 1 (pick t 1 (2 * k + 2)) ≤ 32)
      go true t = (omega arith, omega arith)
      go false true = (omega arith, omega arith)
      go false false = (log-few h, omega arith)

module _ (way : Way) (w : List ℕ) where
  -- the bytes and flushes of a tape
  abbrev Sized : List Op → ℕ → ℕ → Type 0
  Sized cs n m = (length (tape_bytes cs) ≡ n) × (flush_count cs ≡ m)

  root-sized : Sized (by_root [] w).tape 20 1
  unfolding by_root how_many
  root-sized = (length-settled 1 (root_of w), refl)

  header-sized : (p : ℕ) → PageIn w p → Sized (by_header [] w p).tape 76 1
  unfolding by_header how_many
  header-sized p h = (
    length-next (store (page_size * p) (header_line w p)) (with_barrier (flush (page_lines * p) ∷ []))
        ∙ omega (arith, length-wait (page_lines * p), header-length w p h),
    refl,
  )

  log-sized : (same : Bool) (ps : List ℕ) → All (PageIn w) ps → length ps < 256 → Sized (by_log way [] w same (new_headers w ps)).tape (log_bytes way (length ps) same) (2 * length ps + 2)
  unfolding by_log
  log-sized same ps h small =
      let hs = new_headers w ps in
      let n : length hs ≡ length ps = length-map ps (header_line w) in
      rw n (log-size way hs (length ps) (new-lines w ps h) n same (root_of w) small, log-count way hs (length ps) (new-lines w ps h) n same (root_of w) (mark_bytes (length ps) (root_of w)))

  pub end-sized : (same : Bool) (ps : List ℕ) → All (PageIn w) ps → length ps < 256 → Sized (choose way [] w same ps).tape (end_bytes way (length ps) same) (end_flushes way (length ps) same)
  end-sized same ps h small = go (eqb (length ps) 0) refl (commits_alone way (length ps) same) refl
    where
      n : ℕ
      n = length ps

      sized : (t : Taken) (b f : ℕ) → choose way [] w same ps ≡ t → (end_bytes way n same ≡ b) × (end_flushes way n same ≡ f) → Sized t.tape b f →
          Sized (choose way [] w same ps).tape (end_bytes way n same) (end_flushes way n same)
      sized t b f e s z = rw (e, s.0, s.1) z

      go : (z : Bool) → eqb n 0 ≡ z → (t : Bool) → commits_alone way n same ≡ t → Sized (choose way [] w same ps).tape (end_bytes way n same) (end_flushes way n same)
      go true z t e = let q = eqb-true n 0 z in sized (by_root [] w) 20 1 (end-root way w same ps q) (bytes-none way n same q) root-sized
      go false z true e =
          let q = eqb-false n 0 z in
          let one = (alone-true way n same e).1.0 in
          sized (by_header [] w (get_or ps 0 0)) 76 1 (end-header way w same ps e) (bytes_one way n same q e) (header-sized (get_or ps 0 0) (all-at (PageIn w) ps 0 h (omega arith)))
      go false z false e =
          let q = eqb-false n 0 z in
          sized (by_log way [] w same (new_headers w ps)) (log_bytes way n same) (2 * n + 2) (end-log way w same ps q e) (bytes-log way n same q e) (log-sized same ps h small)

-- ---- the log read back from work's lines

pub log_back : (w : List ℕ) (ps : List ℕ) → All (PageIn w) ps → length ps ≤ 15 → page_size ≤ length w →
    logged (length ps) (splice w line_size (join_lines (new_headers w ps))) ≡ new_headers w ps
log_back w ps h few long =
    let hs = new_headers w ps in
    let n : length hs ≡ length ps = length-map ps (header_line w) in
    let fits : line_size * (1 + length hs) ≤ length w = omega arith in
    ap (λ (k : ℕ). logged k (splice w line_size (join_lines hs))) (sym n)
    ∙ ap (logged (length hs)) (sym (log-after ByLine hs (new-lines w ps h) w fits))
    ∙ log-read ByLine hs (new-lines w ps h) w fits

-- ---- what a writer leaves

-- the place, the work image and the tape t' that a writer leaves are those of x
abbrev pub Leaves : Taken → List ℕ → ℕ → CommitPlace → List ℕ → List ℕ → Type 0
Leaves x t at place work t' = (place ≡ x.place) × ((work ≡ x.work) × (t' ≡ sets t at (tape_bytes x.tape)))

pub leaves-as : (x y : Taken) (t : List ℕ) (at : ℕ) (place : CommitPlace) (work t' : List ℕ) → x ≡ y → Leaves y t at place work t' → Leaves x t at place work t'
leaves-as x y t at place work t' e h = rw e h

module _ (w : List ℕ) (t t' : List ℕ) (at : ℕ) where
  pub leaves-root : (v : ℕ) → v ≡ number (part w 8 8) → t' ≡ sets t at (tape_bytes (store (8 * 1) (bytes_of 8 v) ∷ with_barrier (flush 0 ∷ []))) → Leaves (by_root [] w) t at Root w t'
  unfolding by_root root_of
  leaves-root v e h = (refl, (refl, h ∙ ap (λ (n : ℕ). sets t at (tape_bytes (store (8 * 1) (bytes_of 8 n) ∷ with_barrier (flush 0 ∷ [])))) e))

  pub leaves-header : (p : ℕ) → t' ≡ sets t at (tape_bytes (store (page_size * p) (header_line w p) ∷ with_barrier (flush (page_lines * p) ∷ []))) → Leaves (by_header [] w p) t at (Header p) w t'
  unfolding by_header
  leaves-header p h = (refl, (refl, h))

  -- by the log, the headers stand in the log's lines of the new work image
  pub log-tape : (way : Way) (k root : ℕ) (w' ps : List ℕ) (same : Bool) → w' ≡ splice w line_size (join_lines (new_headers w ps)) → length ps ≡ k → root ≡ number (part w 8 8) →
      All (PageIn w) ps → k ≤ 15 → page_size ≤ length w →
      t' ≡ sets t at (tape_bytes (log_tape way (logged k w') ++ (store 0 (mark_bytes k root) ∷ (mark_flush ++ replay_tape way (logged k w') same root)))) →
      t' ≡ sets t at (tape_bytes (by_log way [] w same (new_headers w ps)).tape)
  unfolding by_log root_of
  log-tape way k root w' ps same e n r inn few long h =
      let m : length (new_headers w ps) ≡ length ps = length-map ps (header_line w) in
      let hs : logged k w' ≡ new_headers w ps = ap (λ (j : ℕ). logged j w') (sym n) ∙ ap (logged (length ps)) e ∙ log_back w ps inn (omega arith) long in
      h
      ∙ ap₂ (λ (x : List (List ℕ)) (q : ℕ). sets t at (tape_bytes (log_tape way x ++ (store 0 (mark_bytes k q) ∷ (mark_flush ++ replay_tape way x same q))))) hs r
      ∙ ap (λ (j : ℕ). sets t at (tape_bytes (log_tape way (new_headers w ps) ++ (store 0 (mark_bytes j (number (part w 8 8))) ∷ (mark_flush ++ replay_tape way (new_headers w ps) same (number (part w 8 8))))))) (sym n ∙ sym m)

  pub leaves-log : (way : Way) (same : Bool) (ps w' : List ℕ) → w' ≡ (by_log way [] w same (new_headers w ps)).work → t' ≡ sets t at (tape_bytes (by_log way [] w same (new_headers w ps)).tape) →
      Leaves (by_log way [] w same (new_headers w ps)) t at Log w' t'
  unfolding by_log
  leaves-log way same ps w' e h = (refl, (e, h))
