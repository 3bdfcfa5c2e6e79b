-- The order of the stores past stage A on a transaction's tape: log lines 1 to k, which take the new headers, and then the headers by rising
-- page, each by one store or by its words, rising.
-- Assumes nothing.
use Prim.Native.Nat.{ℕ, suc, ◌+◌, ◌*◌, ◌≤◌, ◌<◌}
use mathlib.Core.Path.{◌≡◌, refl, sym, ap, ◌∙◌, subst}
use mathlib.Core.Bool.{Bool, true, false}
use mathlib.Core.List.{List, [], ◌∷◌, ◌++◌, append_assoc}
use native.Mathlib.Omega.{arith}
use lib.ListN.{length, length-map}
use borrow.Author.Tests.{leb-true, lt-leb, eq-eqb}
use Rattle.codec.specs.Lists.{splice, All}
use Rattle.codec.specs.Numbers.{bytes_of}
use Rattle.codec.proofs.Numbers.{length-bytes_of}
use Rattle.device.specs.Tape.{Op, store, flush, barrier, malformed}
use Rattle.device.specs.Cut.{Quiet, with_barrier}
use Rattle.device.proofs.Writing.{flushing-quiet}
use Rattle.page.specs.Layout.{page_size, line_size}
use Rattle.image.specs.PageZero.{root_of, log_most, mark_bytes, no_mark}
use Rattle.image.specs.Image.{sound}
use Rattle.journal.specs.Changes.{word_size, stage_a, header_line, changed_pages, same_root}
use Rattle.journal.specs.Way.{line_by}
use Rattle.journal.specs.Log.{page_lines, own_page, log_stores, log_flushes, log_tape, header_stores, header_flushes, header_tape, ending, replay_tape}
use Rattle.journal.specs.Tape.{new_headers, join_lines, by_header, by_root, mark_flush, by_log, room_in_log, taken_for}
use Rattle.journal.specs.Recovery.{logged}
use Rattle.journal.specs.Edited.{Edited}
use Rattle.journal.specs.Order.{RisesFrom, Rises, places_past}
use Rattle.journal.specs.declared.Way.{Way}
use Rattle.journal.specs.declared.Way.TheVariants.{ByLine}
use Rattle.journal.specs.declared.CommitPlace.TheVariants.{Log}
use Rattle.journal.proofs.Ways.{rises-lower, line-rises}
use Rattle.journal.proofs.Headers.{Lines, header-flushing}
use Rattle.journal.proofs.Standing.{length-no_mark, length-mark}
use Rattle.journal.proofs.Log.{log-flushing, log-after, log-read}
use Rattle.journal.proofs.Chosen.{choose-all}
use Rattle.journal.proofs.Changed.{InBoth}
use Rattle.journal.proofs.Edits.{size, changed, header-own, headers-lines}
use Rattle.journal.proofs.Rising.{from_one}

-- ---- the places past the words of line 0

place-near : (p : ℕ) (vs : List ℕ) (rest : List Op) → p < line_size → length vs ≡ word_size → places_past (store p vs ∷ rest) ≡ places_past rest
unfolding places_past
place-near p vs rest h e = rw (lt-leb line_size p h, eq-eqb (length vs) word_size e)

past-quiet : (ys rest : List Op) → All Quiet ys → places_past (ys ++ rest) ≡ places_past rest
unfolding places_past
past-quiet [] rest h = refl
past-quiet (store p vs ∷ ys) rest h = absurd h.0
past-quiet (flush l ∷ ys) rest h = past-quiet ys rest h.1
past-quiet (barrier ∷ ys) rest h = past-quiet ys rest h.1
past-quiet (malformed ∷ ys) rest h = absurd h.0

ending-near : (same : Bool) (root : ℕ) → places_past (ending same root) ≡ []
unfolding ending places_past
ending-near same root = go same
  where
    cleared : places_past (store 0 no_mark ∷ with_barrier (flush 0 ∷ [])) ≡ []
    cleared = place-near 0 no_mark (with_barrier (flush 0 ∷ [])) (omega arith) length-no_mark

    go : (same : Bool) → places_past (ending same root) ≡ []
    go true = cleared
    go false = place-near 8 (bytes_of 8 root) (store 0 no_mark ∷ with_barrier (flush 0 ∷ [])) (omega arith) (length-bytes_of 8 root) ∙ cleared

-- ---- the log, with what follows it

log-rises : (way : Way) (l : ℕ) (hs : List (List ℕ)) (rest : List Op) → 1 ≤ l → RisesFrom (line_size * (l + length hs)) (places_past rest) →
    RisesFrom (line_size * l) (places_past (log_stores way l hs ++ rest))
unfolding log_stores
log-rises way l [] rest some r = rises-lower (line_size * l) (line_size * (l + 0)) (places_past rest) (omega arith) r
log-rises way l (h ∷ hs) rest some r =
    let p = line_size * l in
    let next = log_stores way (suc l) hs ++ rest in
    let ih = log-rises way (suc l) hs rest (omega arith) (rises-lower (line_size * (suc l + length hs)) (line_size * (l + suc (length hs))) (places_past rest) (omega arith) r) in
    subst (λ (cs : List Op). RisesFrom p (places_past cs)) (sym (append_assoc (line_by way p h) (log_stores way (suc l) hs) rest))
    (line-rises p h way p next (omega arith) (omega arith) (rises-lower (p + line_size) (line_size * suc l) (places_past next) (omega arith) ih))

-- ---- the tape

module _ (way : Way) (a w : List ℕ) (s : sound a ≡ true) (d : Edited a w) (room : room_in_log (changed_pages a w) ≡ true) where
  headers-rise : (low : ℕ) (qs : List ℕ) (rest : List Op) → 1 ≤ low → All (InBoth a w) qs → RisesFrom low qs → places_past rest ≡ [] →
      RisesFrom (page_size * low) (places_past (header_stores way (new_headers w qs) ++ rest))
  unfolding header_stores
  headers-rise low [] rest some h r e = subst (RisesFrom (page_size * low)) (sym e) tt
  headers-rise low (q ∷ qs) rest some h r e =
      let own = header-own a w s d q h.0 in
      let line = header_line w q in
      let p = page_size * own_page line in
      let next = header_stores way (new_headers w qs) ++ rest in
      subst (λ (cs : List Op). RisesFrom (page_size * low) (places_past cs)) (sym (append_assoc (line_by way p line) (header_stores way (new_headers w qs)) rest))
      (line-rises p line way (page_size * low) next (omega (arith, own, r.0)) (omega (arith, own, r.0))
      (rises-lower (p + line_size) (page_size * suc q) (places_past next) (omega (arith, own)) (headers-rise (suc q) qs rest (omega arith) h.1 r.1 e)))

  abbrev new : List (List ℕ)
  new = new_headers w (changed_pages a w)

  lines : Lines new
  lines = headers-lines a w s d (changed_pages a w) (changed a w s d)

  -- the log lines end before page 1
  pub log-inside : line_size * (1 + length new) ≤ page_size
  unfolding room_in_log
  log-inside = omega (arith, length-map (changed_pages a w) (header_line w), leb-true (length (changed_pages a w)) log_most room)

  replay-rises : (same : Bool) → RisesFrom page_size (places_past (replay_tape way new same (root_of w)))
  unfolding replay_tape header_tape
  replay-rises same =
      let H = header_stores way new in
      let F = with_barrier (header_flushes new) in
      let E = ending same (root_of w) in
      subst (λ (cs : List Op). RisesFrom page_size (places_past cs)) (sym (append_assoc H F E))
      (headers-rise 1 (changed_pages a w) (F ++ E) (omega arith) (changed a w s d) (from_one a w)
      (past-quiet F E (flushing-quiet H (header_flushes new) (header-flushing way new)) ∙ ending-near same (root_of w)))

  log-tape : (rest : List Op) → RisesFrom page_size (places_past rest) → RisesFrom line_size (places_past (log_tape way new ++ rest))
  unfolding log_tape
  log-tape rest r =
      let L = log_stores way 1 new in
      let F = with_barrier (log_flushes 1 new) in
      subst (λ (cs : List Op). RisesFrom line_size (places_past cs)) (sym (append_assoc L F rest))
      (log-rises way 1 new (F ++ rest) (omega arith)
      (subst (RisesFrom (line_size * (1 + length new))) (sym (past-quiet F rest (flushing-quiet L (log_flushes 1 new) (log-flushing way 1 new)))) (rises-lower (line_size * (1 + length new)) page_size (places_past rest) log-inside r)))

  -- stage A first; past it, all stores but the words of line 0 rise
  abbrev Ordered : List Op → Type 0
  Ordered cs = (rest : List Op) × (cs ≡ stage_a a w ++ rest) × Rises (places_past rest)

  by-log : (same : Bool) (ps : List ℕ) → changed_pages a w ≡ ps → Ordered (by_log way (stage_a a w) w same (new_headers w ps)).tape
  unfolding by_log mark_flush places_past
  by-log same ps e = subst (λ (qs : List ℕ). Ordered (by_log way (stage_a a w) w same (new_headers w qs)).tape) e (log_tape way new ++ (store 0 mark ∷ T), append_assoc (stage_a a w) (log_tape way new) (store 0 mark ∷ T), go)
    where
      T : List Op
      T = with_barrier (flush 0 ∷ []) ++ replay_tape way new same (root_of w)

      mark : List ℕ
      mark = mark_bytes (length new) (root_of w)

      go : Rises (places_past (log_tape way new ++ (store 0 mark ∷ T)))
      go =
          rises-lower 0 line_size (places_past (log_tape way new ++ (store 0 mark ∷ T))) (omega arith)
          (log-tape (store 0 mark ∷ T) (subst (RisesFrom page_size) (sym (place-near 0 mark T (omega arith) (length-mark (length new) (root_of w)))) (replay-rises same)))

  -- log lines 1 to k, then the headers by rising page
  pub lines-rising : Ordered (taken_for way a w).tape
  unfolding taken_for by_header by_root places_past line_by
  lines-rising =
      choose-all way (stage_a a w) w (λ same ps t. changed_pages a w ≡ ps → Ordered t.tape) (λ same e. (store 8 (bytes_of 8 (root_of w)) ∷ with_barrier (flush 0 ∷ []), refl, root)) header (λ same p ps e. by-log same (p ∷ ps) e)
      (same_root a w) (changed_pages a w) refl
    where
      root : Rises (places_past (store 8 (bytes_of 8 (root_of w)) ∷ with_barrier (flush 0 ∷ [])))
      root = subst Rises (sym (place-near 8 (bytes_of 8 (root_of w)) (with_barrier (flush 0 ∷ [])) (omega arith) (length-bytes_of 8 (root_of w)))) tt

      header : way ≡ ByLine → (p : ℕ) → changed_pages a w ≡ p ∷ [] → Ordered (by_header (stage_a a w) w p).tape
      header line p e =
          let ends = with_barrier (flush (page_lines * p) ∷ []) in
          let past = (subst (RisesFrom 1) e (from_one a w)).0 in
          (store (page_size * p) (header_line w p) ∷ ends, refl, line-rises (page_size * p) (header_line w p) ByLine 0 ends (omega arith) (omega arith) tt)

  log-work : (same : Bool) (ps : List ℕ) → changed_pages a w ≡ ps → logged (length ps) (by_log way (stage_a a w) w same (new_headers w ps)).work ≡ new_headers w ps
  unfolding by_log
  log-work same ps e = subst (λ (qs : List ℕ). logged (length qs) (splice w line_size (join_lines (new_headers w qs))) ≡ new_headers w qs) e go
    where
      fits : line_size * (1 + length new) ≤ length w
      fits = omega (arith, log-inside, (size a w s d).low, d.same_length)

      go : logged (length (changed_pages a w)) (splice w line_size (join_lines new)) ≡ new
      go =
          ap (λ (n : ℕ). logged n (splice w line_size (join_lines new))) (sym (length-map (changed_pages a w) (header_line w)))
          ∙ ap (logged (length new)) (sym (log-after way new lines w fits))
          ∙ log-read way new lines w fits

  -- "log lines 1 to k take the new headers by rising page"
  pub log-holds : (taken_for way a w).place ≡ Log → logged (length (changed_pages a w)) (taken_for way a w).work ≡ new_headers w (changed_pages a w)
  unfolding taken_for by_header by_root
  log-holds =
      choose-all way (stage_a a w) w (λ same ps t. changed_pages a w ≡ ps → t.place ≡ Log → logged (length ps) t.work ≡ new_headers w ps)
      (λ same e l. let z : ◌≡◌ {A = ℕ} 0 1 = cc in absurd (omega arith)) (λ line p e l. let z : ◌≡◌ {A = ℕ} 0 1 = cc in absurd (omega arith)) (λ same p ps e l. log-work same (p ∷ ps) e)
      (same_root a w) (changed_pages a w) refl
