-- Every tape is groups, each of stores, the flushes of their lines and one barrier (document 02 (h)): a transaction's and a recovery's, on both devices.
-- Assumes nothing.
use Prim.Native.Nat.{ℕ, suc, ◌*◌, ◌/◌}
use mathlib.Core.Path.{◌≡◌, refl, sym, ap, ◌∙◌, subst}
use mathlib.Core.Bool.{Bool, true, false, false≢true}
use mathlib.Core.List.{List, [], ◌∷◌, ◌++◌, append_assoc}
use native.Mathlib.Omega.{arith}
use lib.ListN.{length}
use Rattle.codec.specs.Lists.{All}
use Rattle.codec.specs.Numbers.{bytes_of}
use Rattle.device.specs.Tape.{Op, store, flush, barrier, malformed}
use Rattle.device.specs.Cut.{some, To, Flushing, with_barrier}
use Rattle.page.specs.Layout.{page_size, line_size}
use Rattle.image.specs.PageZero.{root_of, mark_bytes, no_mark, page_zero}
use Rattle.image.specs.Image.{reached}
use Rattle.image.specs.declared.PageZero.{PageZero}
use Rattle.image.specs.declared.PageZero.TheVariants.{Wrong, Waiting, Ready}
use Rattle.image.proofs.General.{All-append}
use Rattle.journal.specs.Changes.{word_size, word_stores, flushes_of, stage_a, header_line, changed_pages, same_root}
use Rattle.journal.specs.Way.{words_of, line_by}
use Rattle.journal.specs.Log.{page_lines, own_page, log_stores, log_flushes, log_tape, header_stores, header_flushes, header_tape, ending, replay_tape}
use Rattle.journal.specs.Tape.{new_headers, by_header, by_root, mark_flush, by_log, taken_for}
use Rattle.journal.specs.Recovery.{logged, root_is, recovery_tape}
use Rattle.journal.specs.Holds.{tape_of}
use Rattle.journal.specs.Order.{IsStore, Grouped, no-group, group}
use Rattle.journal.specs.declared.Way.{Way}
use Rattle.journal.specs.declared.Way.TheVariants.{ByLine, ByWords}
use Rattle.journal.proofs.Ways.{line-to}
use Rattle.journal.proofs.Headers.{header-flushing}
use Rattle.journal.proofs.StageA.{flushing-of, walk-all}
use Rattle.journal.proofs.Log.{log-flushing}
use Rattle.journal.proofs.Chosen.{choose-all}

-- ---- one group, and one list of groups after another

-- stores, and the flushes of their lines: none where there is no store
group_of : (xs ys : List Op) → All IsStore xs → Flushing xs ys → (xs ≡ [] → ys ≡ []) → Grouped (xs ++ with_barrier ys)
unfolding some
group_of [] ys s f none = subst (λ (zs : List Op). Grouped (with_barrier zs)) (sym (none refl)) no-group
group_of (store p vs ∷ xs) [] s f none = absurd (false≢true f.covers.0)
group_of (store p vs ∷ xs) (y ∷ ys) s f none = group (store p vs ∷ xs) (y ∷ ys) [] s (omega arith) f.flushes (omega arith) no-group
group_of (flush l ∷ xs) ys s f none = absurd s.0
group_of (barrier ∷ xs) ys s f none = absurd s.0
group_of (malformed ∷ xs) ys s f none = absurd s.0

grouped-append : (a b : List Op) → Grouped a → Grouped b → Grouped (a ++ b)
grouped-append _ b no-group g = g
grouped-append _ b (group xs ys rest s i f j r) g =
    subst Grouped (sym (append_assoc xs (ys ++ (barrier ∷ rest)) b ∙ ap (λ (zs : List Op). xs ++ zs) (append_assoc ys (barrier ∷ rest) b)))
    (group xs ys (rest ++ b) s i f j (grouped-append rest b r g))

-- one store, its flush and the barrier
own-group : (p : ℕ) (vs : List ℕ) (l : ℕ) → Grouped (store p vs ∷ with_barrier (flush l ∷ []))
own-group p vs l = group (store p vs ∷ []) (flush l ∷ []) [] (tt, tt) (omega arith) (tt, tt) (omega arith) no-group

-- stores to one line
to-are : (l : ℕ) (xs : List Op) → All (To l) xs → All IsStore xs
to-are l [] h = tt
to-are l (store p vs ∷ xs) h = (tt, to-are l xs h.1)
to-are l (flush m ∷ xs) h = absurd h.0
to-are l (barrier ∷ xs) h = absurd h.0
to-are l (malformed ∷ xs) h = absurd h.0

-- ---- stage A, the log, the headers, the end

stage_a-grouped : (a w : List ℕ) → Grouped (stage_a a w)
unfolding stage_a flushes_of
stage_a-grouped a w =
    let stores = word_stores (reached a (root_of a)) (length a / word_size) 0 a w in
    group_of stores (flushes_of stores) (walk-all (reached a (root_of a)) a w (λ n k cs. All IsStore cs) (λ k. tt) (λ n k cs q h. h) (λ n k cs free differ h. (tt, h)) (length a / word_size) 0)
    (flushing-of stores) (λ e. ap flushes_of e)

module _ (way : Way) where
  log-are : (l : ℕ) (hs : List (List ℕ)) → All IsStore (log_stores way l hs)
  unfolding log_stores
  log-are l [] = tt
  log-are l (h ∷ hs) =
      All-append IsStore (line_by way (line_size * l) h) (log_stores way (suc l) hs) (to-are l (line_by way (line_size * l) h) (line-to (line_size * l) h way l refl)) (log-are (suc l) hs)

  headers-are : (hs : List (List ℕ)) → All IsStore (header_stores way hs)
  unfolding header_stores
  headers-are [] = tt
  headers-are (h ∷ hs) =
      let p = page_size * own_page h in
      All-append IsStore (line_by way p h) (header_stores way hs) (to-are (page_lines * own_page h) (line_by way p h) (line-to p h way (page_lines * own_page h) (omega arith))) (headers-are hs)

  -- a line has a store
  line-some : (v : Way) (p : ℕ) (h : List ℕ) (rest : List Op) → line_by v p h ++ rest ≡ [] → ⊥
  unfolding line_by words_of
  line-some ByLine p h rest e = let z : ◌≡◌ {A = ℕ} (suc (length rest)) 0 = ap length e in omega arith
  line-some ByWords p h rest e = let z = ap length e in omega arith

  log-grouped : (hs : List (List ℕ)) → Grouped (log_tape way hs)
  unfolding log_tape log_stores log_flushes
  log-grouped hs = group_of (log_stores way 1 hs) (log_flushes 1 hs) (log-are 1 hs) (log-flushing way 1 hs) (none hs)
    where
      none : (gs : List (List ℕ)) → log_stores way 1 gs ≡ [] → log_flushes 1 gs ≡ []
      none [] e = refl
      none (g ∷ gs) e = absurd (line-some way (line_size * 1) g (log_stores way 2 gs) e)

  headers-grouped : (hs : List (List ℕ)) → Grouped (header_tape way hs)
  unfolding header_tape header_stores header_flushes
  headers-grouped hs = group_of (header_stores way hs) (header_flushes hs) (headers-are hs) (header-flushing way hs) (none hs)
    where
      none : (gs : List (List ℕ)) → header_stores way gs ≡ [] → header_flushes gs ≡ []
      none [] e = refl
      none (g ∷ gs) e = absurd (line-some way (page_size * own_page g) g (header_stores way gs) e)

  ending-grouped : (same : Bool) (root : ℕ) → Grouped (ending same root)
  unfolding ending
  ending-grouped true root = own-group 0 no_mark 0
  ending-grouped false root = group (store 8 (bytes_of 8 root) ∷ store 0 no_mark ∷ []) (flush 0 ∷ []) [] (tt, (tt, tt)) (omega arith) (tt, tt) (omega arith) no-group

  replay-grouped : (hs : List (List ℕ)) (same : Bool) (root : ℕ) → Grouped (replay_tape way hs same root)
  unfolding replay_tape
  replay-grouped hs same root = grouped-append (header_tape way hs) (ending same root) (headers-grouped hs) (ending-grouped same root)

  -- ---- the tapes

  log-taken : (a w : List ℕ) (same : Bool) (hs : List (List ℕ)) → Grouped (by_log way (stage_a a w) w same hs).tape
  unfolding by_log mark_flush
  log-taken a w same hs =
      let mark = store 0 (mark_bytes (length hs) (root_of w)) in
      grouped-append (stage_a a w ++ log_tape way hs) (mark ∷ (with_barrier (flush 0 ∷ []) ++ replay_tape way hs same (root_of w))) (grouped-append (stage_a a w) (log_tape way hs) (stage_a-grouped a w) (log-grouped hs))
      (grouped-append (mark ∷ with_barrier (flush 0 ∷ [])) (replay_tape way hs same (root_of w)) (own-group 0 (mark_bytes (length hs) (root_of w)) 0) (replay-grouped hs same (root_of w)))

  -- a transaction's
  pub taken-grouped : (a w : List ℕ) → Grouped (taken_for way a w).tape
  unfolding taken_for by_header by_root
  taken-grouped a w =
      choose-all way (stage_a a w) w (λ same ps t. Grouped t.tape) (λ same. one 8 (bytes_of 8 (root_of w)) 0) (λ line p. one (page_size * p) (header_line w p) (page_lines * p))
      (λ same p ps. log-taken a w same (new_headers w (p ∷ ps))) (same_root a w) (changed_pages a w)
    where
      one : (p : ℕ) (vs : List ℕ) (l : ℕ) → Grouped (stage_a a w ++ (store p vs ∷ with_barrier (flush l ∷ [])))
      one p vs l = grouped-append (stage_a a w) (store p vs ∷ with_barrier (flush l ∷ [])) (stage_a-grouped a w) (own-group p vs l)

  -- a recovery's
  pub recovery-grouped : (img : List ℕ) → Grouped (tape_of way img)
  unfolding recovery_tape
  recovery-grouped img = go (page_zero img)
    where
      go : (z : PageZero) → Grouped (recovery_tape way img z)
      go Wrong = no-group
      go (Waiting k root) = replay-grouped (logged k img) (root_is img root) root
      go (Ready root) = no-group
