-- A transaction that needs the log follows the method: its mark commits, and what follows is recovery's tape, which leaves the edited image with the log lines in.
-- Assumes nothing.
use Prim.Native.Nat.{ℕ, ◌+◌, ◌*◌, ◌/◌, ◌≤◌, ◌<◌}
use mathlib.Core.Path.{◌≡◌, refl, sym, ap, ap₂, ◌∙◌, subst}
use mathlib.Core.Logic.{◌⊎◌, inl, inr}
use mathlib.Core.Bool.{Bool, true, false, true≢false}
use mathlib.Core.List.{List, [], ◌∷◌, ◌++◌, map}
use native.Mathlib.Decide.{dec_lt}
use native.Mathlib.Omega.{arith}
use lib.ListN.{length, get_or, length-map}
use lib.Seq.{sets, length-sets}
use Rattle.codec.specs.Lists.{part, splice, eqs, All}
use Rattle.codec.specs.Numbers.{bytes_of}
use Rattle.codec.proofs.Tests.{All-map}
use Rattle.codec.proofs.Lists.{sets-apart, length-splice}
use Rattle.codec.proofs.Numbers.{length-bytes_of}
use Rattle.codec.proofs.Agree.{part-sets, part-agree}
use Rattle.device.specs.Tape.{Op, store, flush, barrier}
use Rattle.device.specs.Cut.{after, durable, touches, stores, with_barrier, Writes}
use Rattle.device.proofs.Clauses.{after-nil, after_store, durable-here}
use Rattle.device.proofs.Cuts.{length-after, after-append, after-stores}
use Rattle.device.proofs.Segments.{run-other, closed-append}
use Rattle.device.proofs.Writing.{writes_at, writes-after, writes-move, own-storeless, flushing-quiet, quiet_write, touches-both, touches-left, touches-right, untouched-first, untouched-rest}
use Rattle.page.specs.Layout.{page_size, line_size}
use Rattle.image.specs.PageZero.{page_count, is_page, root_of, log_most, mark_bytes, no_mark, page_zero}
use Rattle.image.specs.Image.{reached, among, distinct, sound}
use Rattle.image.specs.Table.{table}
use Rattle.image.specs.Live.{live}
use Rattle.image.specs.declared.PageZero.TheVariants.{Waiting}
use Rattle.image.proofs.General.{All-append}
use Rattle.image.proofs.Zero.{Size, Line, ready-facts, facts-waiting}
use Rattle.image.proofs.Soundness.{sound-facts}
use Rattle.image.proofs.Frame.{frame, live-place}
use Rattle.journal.specs.Changes.{stage_a, changed_pages, same_root}
use Rattle.journal.specs.Log.{own_page, header_stores, header_flushes, header_tape, log_tape, ending, replay_tape}
use Rattle.journal.specs.Recovery.{lines_from, logged, logged_ok, root_is, recovery_tape}
use Rattle.journal.specs.Tape.{new_headers, join_lines, mark_flush, by_log}
use Rattle.journal.specs.Edited.{Edited}
use Rattle.journal.specs.Commit.{commit_store, commit_line}
use Rattle.journal.specs.Holds.{tape_of}
use Rattle.journal.specs.Safe.{Redo, ByMark}
use Rattle.journal.specs.declared.Way.{Way}
use Rattle.journal.specs.declared.Way.TheVariants.{ByLine}
use Rattle.journal.proofs.Headers.{Lines, lines-agree, header-flushing, logged-inside, headers-outside, headers-in, headers-touches}
use Rattle.journal.proofs.Standing.{page-small, line-root, line_other, length-no_mark, length-mark}
use Rattle.journal.proofs.Replay.{recovery-redo}
use Rattle.journal.proofs.StageA.{stage_a-closed, stage_a-outside, stage_a-writes, stage_a-dead}
use Rattle.journal.proofs.Log.{log-closed, log-touches, log-after, log-read, log-writes, length-join}
use Rattle.journal.proofs.Changed.{InBoth, changed-distinct}
use Rattle.journal.proofs.Follows.{Follows}
use Rattle.journal.proofs.Edits.{size, line-w, changed, own-all, headers-lines, headers-write, headers-ok, agree}
use Rattle.journal.proofs.OnePlace.{agree_same}

-- ---- the mark's flush and its barrier

mark-storeless : stores mark_flush ≡ []
unfolding mark_flush
mark-storeless = own-storeless 0

-- the mark is durable before the headers are stored
mark-durable : durable 0 mark_flush ≡ true
unfolding mark_flush
mark-durable = durable-here 0 []

mark-own : mark_flush ≡ flush 0 ∷ barrier ∷ []
unfolding mark_flush
mark-own = refl

-- a byte that the end of the tape does not store
ending-untouched : (root i : ℕ) (same : Bool) → touches (ending same root) i ≡ false → (8 ≤ i) × ((same ≡ true) ⊎ (16 ≤ i))
unfolding ending
ending-untouched root i same t = go same t
  where
    clear : List Op
    clear = store 0 no_mark ∷ with_barrier (flush 0 ∷ [])

    past : touches clear i ≡ false → 8 ≤ i
    past u = out (untouched-first 0 no_mark (with_barrier (flush 0 ∷ [])) i u)
      where
        out : (i < 0) ⊎ (0 + length no_mark ≤ i) → 8 ≤ i
        out (inl h) = absurd (omega arith)
        out (inr h) = omega (arith, length-no_mark)

    go : (same : Bool) → touches (ending same root) i ≡ false → (8 ≤ i) × ((same ≡ true) ⊎ (16 ≤ i))
    go true u = (past u, inl refl)
    go false u =
        let h = past (untouched-rest 8 (bytes_of 8 root) clear i u) in
        (h, inr (out h (untouched-first 8 (bytes_of 8 root) clear i u)))
      where
        out : 8 ≤ i → (i < 8) ⊎ (8 + length (bytes_of 8 root) ≤ i) → 16 ≤ i
        out h (inl k) = absurd (omega arith)
        out h (inr k) = omega (arith, length-bytes_of 8 root)

-- w with the log lines hs in
abbrev work_of : List ℕ → List (List ℕ) → List ℕ
work_of w hs = splice w line_size (join_lines hs)

-- ---- the log lines in w

module _ (way : Way) (w : List ℕ) (s : sound w ≡ true) (hs : List (List ℕ)) (lines : Lines hs) (few : length hs ≤ log_most) (long : page_size ≤ length w) where
  fits : line_size * (1 + length hs) ≤ length w
  fits = omega arith

  pub length-work : length (work_of w hs) ≡ length w
  length-work = length-splice w line_size (join_lines hs) (omega (arith, length-join hs lines))

  -- where the log is not stored
  pub work-other : (i : ℕ) → touches (log_tape way hs) i ≡ false → get_or (work_of w hs) i 0 ≡ get_or w i 0
  work-other i t = ap (λ (l : List ℕ). get_or l i 0) (sym (log-after way hs lines w fits)) ∙ run-other w (log_tape way hs) i t

  pub log-apart : (i : ℕ) → (i < line_size) ⊎ (page_size ≤ i) → touches (log_tape way hs) i ≡ false
  log-apart i (inl h) = log-touches way hs lines i (inl h)
  log-apart i (inr h) = log-touches way hs lines i (inr (omega arith))

  -- "log lines may hold anything"
  work-sound : (sound (work_of w hs) ≡ true) × (table (work_of w hs) ≡ table w)
  work-sound =
      let f = frame w (work_of w hs) s (sym length-work) (λ i v. sym (work-other i (log-apart i (live-place w i s v).1))) in
      (f.0, f.1)

  work-log : All (Writes (work_of w hs)) (log_tape way hs)
  work-log = log-writes way hs lines (work_of w hs) (omega (arith, length-work, fits)) (ap (logged (length hs)) (sym (log-after way hs lines w fits)) ∙ log-read way hs lines w fits)

  -- what stands in w outside page 0
  work-move : (cs : List Op) → ((i : ℕ) → i < page_size → touches cs i ≡ false) → All (Writes w) cs → All (Writes (work_of w hs)) cs
  work-move cs out h = writes-move w (work_of w hs) cs length-work (λ i t. go i t (dec_lt i page_size)) h
    where
      go : (i : ℕ) → touches cs i ≡ true → Dec (i < page_size) → get_or (work_of w hs) i 0 ≡ get_or w i 0
      go i t (yes q) = absurd (true≢false (sym t ∙ out i q))
      go i t (no q) = work-other i (log-apart i (inr (omega arith)))

-- ---- the transaction

module _ (way : Way) (a w : List ℕ) (s : sound a ≡ true) (d : Edited a w) (same : Bool) (is_same : same_root a w ≡ same) (some : 1 ≤ length (changed_pages a w)) (few : length (changed_pages a w) ≤ log_most) where
  abbrev hs : List (List ℕ)
  hs = new_headers w (changed_pages a w)

  abbrev root : ℕ
  root = root_of w

  count : length hs ≡ length (changed_pages a w)
  count = length-map (changed_pages a w) _

  lines : Lines hs
  lines = headers-lines a w s d (changed_pages a w) (changed a w s d)

  few-hs : length hs ≤ log_most
  few-hs = omega (arith, count)

  size_a : Size (length a)
  size_a = size a w s d

  long : page_size ≤ length w
  long = omega (arith, size_a.low, d.same_length)

  abbrev prepare : List Op
  prepare = stage_a a w ++ log_tape way hs

  -- ---- the image that the mark commits

  abbrev mark : List ℕ
  mark = mark_bytes (length hs) root

  abbrev x : List ℕ
  x = after a prepare

  abbrev b : List ℕ
  b = sets x 0 mark

  length-b : length b ≡ length a
  length-b = length-sets x 0 mark ∙ length-after a prepare

  -- line 0 is a's, but for the mark
  line_x : (i : ℕ) → i < line_size → get_or x i 0 ≡ get_or a i 0
  line_x i h = run-other a (stage_a a w ++ log_tape way hs) i (touches-both (stage_a a w) (log_tape way hs) i (stage_a-outside a w i (omega arith)) (log-touches way hs lines i (inl h)))

  past-mark : (i : ℕ) → 8 ≤ i → get_or b i 0 ≡ get_or x i 0
  past-mark i h = sets-apart x 0 mark i (inr (omega (arith, length-mark (length hs) root)))

  part-line : (o n : ℕ) → 8 ≤ o → o + n ≤ line_size → part b o n ≡ part a o n
  part-line o n low high = sym (part-agree b a o n length-b (λ i p q. past-mark i (omega arith) ∙ line_x i (omega arith)))

  mark-b : part b 0 8 ≡ mark_bytes (length hs) root
  mark-b = part-sets (after a prepare) 0 (mark_bytes (length hs) root) 8 (length-mark (length hs) root) (omega (arith, length-after a prepare, size_a.low))

  -- the log is read back
  x-is : x ≡ after (after a (stage_a a w)) (log_tape way hs)
  x-is = after-append a (stage_a a w) (log_tape way hs)

  logged-b : logged (length hs) b ≡ hs
  unfolding logged
  logged-b =
      lines-agree (length hs) 1 x b (length-sets x 0 mark) (λ i p q. past-mark i (omega arith))
      ∙ ap (lines_from (length hs) 1) x-is
      ∙ log-read way hs lines (after a (stage_a a w)) (omega (arith, length-after a (stage_a a w), size_a.low, few-hs))

  root-page : is_page (page_count a) root ≡ true
  root-page = ap (λ (n : ℕ). is_page (n / page_size) (root_of w)) (sym d.same_length) ∙ (line-w a w s d).page

  hs-ok : logged_ok (page_count a) hs ≡ true
  hs-ok = headers-ok a w s d

  waiting : page_zero b ≡ Waiting (length hs) root
  waiting =
      let za : Line a no_mark (root_of a) = ready-facts a (root_of a) (sound-facts a s).zero in
      let pages : page_count b ≡ page_count a = ap (λ (n : ℕ). n / page_size) length-b in
      let line =
      line_other a b no_mark (root_of a) za length-b (part-line 16 48 (omega arith) (omega arith)) (mark_bytes (length hs) root) (root_of a) (page-small (length a) (root_of a) size_a za.page) za.page mark-b
      (part-line 8 8 (omega arith) (omega arith) ∙ line-root a no_mark (root_of a) za) in
      facts-waiting b (length hs) root (page-small (length a) root size_a root-page) (record { line = line; some = omega (arith, count); few = few-hs; page = rw pages root-page })

  root-w : part w 8 8 ≡ bytes_of 8 root
  root-w = line-root w no_mark (root_of w) (line-w a w s d)

  same-b : root_is b root ≡ same
  unfolding same_root
  same-b = ap₂ eqs (part-line 8 8 (omega arith) (omega arith)) (sym root-w) ∙ is_same

  tape-b : tape_of way b ≡ replay_tape way hs same root
  unfolding recovery_tape
  tape-b = ap (recovery_tape way b) waiting ∙ ap₂ (λ (l : List (List ℕ)) (q : Bool). replay_tape way l q root) logged-b same-b

  -- ---- what the tape stores stands in the work image, but for the mark

  abbrev work : List ℕ
  work = work_of w hs

  length-work-w : length work ≡ length w
  length-work-w = length-work way w d.is_sound hs lines few-hs long

  move : (cs : List Op) → ((i : ℕ) → i < page_size → touches cs i ≡ false) → All (Writes w) cs → All (Writes work) cs
  move = work-move way w d.is_sound hs lines few-hs long

  prepare-writes : All (Writes work) prepare
  prepare-writes =
      All-append (Writes work) (stage_a a w) (log_tape way hs) (move (stage_a a w) (stage_a-outside a w) (stage_a-writes a w d.same_length size_a.whole)) (work-log way w d.is_sound hs lines few-hs long)

  -- a word of line 0 that stands in w
  line_writes : (o : ℕ) (vs : List ℕ) → o + 8 ≤ line_size → length vs ≡ 8 → part w o 8 ≡ vs → Writes work (store o vs)
  line_writes o vs h n e = (
    omega (arith, length-work-w, long),
    ap (part work o) n ∙ sym (part-agree work w o 8 length-work-w (λ i p q. work-other way w d.is_sound hs lines few-hs long i (log-touches way hs lines i (inl (omega arith))))) ∙ e,
  )

  ending-writes : All (Writes work) (ending same root)
  unfolding ending
  ending-writes = go same
    where
      root_in : Writes work (store 8 (bytes_of 8 root))
      root_in = line_writes 8 (bytes_of 8 root) (omega arith) (length-bytes_of 8 root) root-w

      cleared : Writes work (store 0 no_mark)
      cleared = line_writes 0 no_mark (omega arith) length-no_mark (line-w a w s d).mark

      go : (q : Bool) → All (Writes work) (ending q root)
      go true = (cleared, (tt, (tt, tt)))
      go false = (root_in, (cleared, (tt, (tt, tt))))

  replay-writes : All (Writes work) (replay_tape way hs same root)
  unfolding replay_tape header_tape
  replay-writes =
      All-append (Writes work) (header_tape way hs) (ending same root)
      (All-append (Writes work) (header_stores way hs) (with_barrier (header_flushes hs))
      (move (header_stores way hs) (λ i h. headers-outside way (page_count a) hs i lines (logged-inside (page_count a) hs hs-ok) h) (headers-write a w s d way (changed_pages a w) (changed a w s d)))
      (quiet_write work (with_barrier (header_flushes hs)) (flushing-quiet (header_stores way hs) (header_flushes hs) (header-flushing way hs)))) ending-writes

  -- ---- and every byte where a and the work image differ is stored

  replay-untouched : (i : ℕ) → touches (replay_tape way hs same root) i ≡ false → (touches (header_stores ByLine hs) i ≡ false) × (8 ≤ i) × ((same ≡ true) ⊎ (16 ≤ i))
  unfolding replay_tape header_tape
  replay-untouched i u =
      let e = ending-untouched root i same (touches-right (header_tape way hs) (ending same root) i u) in
      let t = touches-left (header_tape way hs) (ending same root) i u in
      (sym (headers-touches hs (header_stores way hs) i lines (headers-in way hs)) ∙ touches-left (header_stores way hs) (with_barrier (header_flushes hs)) i t, e.0, e.1)

  agrees : (i : ℕ) → touches prepare i ≡ false → touches (replay_tape way hs same root) i ≡ false → get_or a i 0 ≡ get_or work i 0
  agrees i t u = go v.2 ∙ sym (work-other way w d.is_sound hs lines few-hs long i (touches-right (stage_a a w) (log_tape way hs) i t))
    where
      v : (touches (header_stores ByLine hs) i ≡ false) × (8 ≤ i) × ((same ≡ true) ⊎ (16 ≤ i))
      v = replay-untouched i u

      t_a : touches (stage_a a w) i ≡ false
      t_a = touches-left (stage_a a w) (log_tape way hs) i t

      go : (same ≡ true) ⊎ (16 ≤ i) → get_or a i 0 ≡ get_or w i 0
      go (inl e) = agree_same a w s d (is_same ∙ e) i t_a v.0
      go (inr h) = agree a w s d i (inr h) t_a v.0

  run : after b (replay_tape way hs same root) ≡ work
  run =
      writes-after work b (replay_tape way hs same root) (length-b ∙ sym (length-work-w ∙ d.same_length)) replay-writes
      (λ i u. past-mark i (replay-untouched i u).1 ∙ writes_at work a prepare i (sym (length-work-w ∙ d.same_length)) prepare-writes (λ t. agrees i t u))

  leaves : after a (prepare ++ (store 0 mark ∷ (mark_flush ++ replay_tape way hs same root))) ≡ work
  leaves =
      after-append a prepare (store 0 mark ∷ (mark_flush ++ replay_tape way hs same root))
      ∙ after_store 0 mark (mark_flush ++ replay_tape way hs same root) x
      ∙ after-append b mark_flush (replay_tape way hs same root)
      ∙ ap (λ (y : List ℕ). after y (replay_tape way hs same root)) (sym (after-stores b mark_flush) ∙ ap (after b) mark-storeless ∙ after-nil b)
      ∙ run

  dead : (i : ℕ) → live a i ≡ true → touches prepare i ≡ false
  dead i v = touches-both (stage_a a w) (log_tape way hs) i (stage_a-dead a w d i v) (log-apart way w d.is_sound hs lines few-hs long i (live-place a i s v).1)

  -- the logged headers are of the changed pages, which were reached before
  pages : map own_page (logged (length hs) b) ≡ changed_pages a w
  pages = ap (map own_page) logged-b ∙ own-all a w s d (changed_pages a w) (changed a w s d)

  by-mark : ByMark a b 0 mark (replay_tape way hs same root)
  by-mark =
      record {
        is_place = refl;
        is_word = length-mark (length hs) root;
        count = length hs;
        root = root;
        is_mark = waiting;
        apart = ap distinct pages ∙ changed-distinct a w;
        were_reached = subst (All Was) (sym pages) (All-map (InBoth a w) Was (λ p h. h.was) (changed_pages a w) (changed a w s d));
        redo = subst (Redo b (length hs) root) tape-b (recovery-redo way b (length hs) root waiting);
      }
    where
      Was : ℕ → Type 0
      Was p = among p (reached a (root_of a)) ≡ true

  pub log-follows : Follows a w (by_log way (stage_a a w) w same (new_headers w (changed_pages a w)))
  unfolding by_log commit_store commit_line
  log-follows =
      let f = work-sound way w d.is_sound hs lines few-hs long in
      record {
        safe =
            record {
              prepare = prepare;
              dead = dead;
              prepared = closed-append (stage_a a w) (log_tape way hs) (stage_a-closed a w) (log-closed way hs);
              place = 0;
              bytes = mark;
              wait = mark_flush;
              no_store = mark-storeless;
              is_durable = mark-durable;
              rest = replay_tape way hs same root;
              commits = inr by-mark;
              shape = refl;
              leaves = leaves;
              is_sound = f.0;
            };
        commits = refl;
        is_store = ap (λ (n : ℕ). store 0 (mark_bytes n (root_of w))) (sym count);
        is_line = refl;
        own_flush = mark-own;
        same_table = f.1;
        names = (some, few);
      }
