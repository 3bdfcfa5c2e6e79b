-- A tape that follows the method, cut anywhere: recovery finds the table before it or the one after; the first while the commit store is
-- not issued, the second once it is durable.
-- Assumes nothing.
use Prim.Native.Nat.{ℕ, suc, ◌+◌, ◌-◌, ◌/◌, ◌%◌, ◌≤◌}
use mathlib.Core.Path.{◌≡◌, refl, sym, ap, ◌∙◌, subst}
use mathlib.Core.Logic.{◌⊎◌, inl, inr}
use mathlib.Core.Bool.{true, or-true}
use mathlib.Core.List.{List, ◌∷◌, ◌++◌, map}
use native.Mathlib.Decide.{dec_le}
use native.Mathlib.Omega.{arith}
use lib.ListN.{length, take, drop}
use lib.Seq.{sets, length-sets, take-append-le, take-append-add, drop-append-add}
use lib.Dec.{ltb}
use Rattle.codec.proofs.Tests.{both, true-all_b}
use Rattle.device.specs.Tape.{Op, store, Writable}
use Rattle.device.specs.Cut.{after, line_of, durable, cut_image, Closed}
use Rattle.device.proofs.Clauses.{after-nil, closed-nil, closed-store}
use Rattle.device.proofs.Cuts.{length-after, after-append, length_cut}
use Rattle.device.proofs.Segments.{run-other, cut-untouched, cut-early, cut-late, cut-zero, cut-nil, closed-append, durable-late}
use Rattle.device.proofs.Stores.{storeless-closed, one-after, one-cut, one-durable}
use Rattle.page.specs.Layout.{page_size, line_size}
use Rattle.image.specs.PageZero.{page_count, is_page, root_of}
use Rattle.image.specs.Image.{reached, among, sound}
use Rattle.image.specs.Table.{table}
use Rattle.image.specs.Live.{live_in, live}
use Rattle.image.proofs.Zero.{Size, size-true, is_page-true}
use Rattle.image.proofs.Soundness.{sound-facts}
use Rattle.journal.specs.Log.{own_page}
use Rattle.journal.specs.Recovery.{logged, logged_ok}
use Rattle.journal.specs.Holds.{replay, Waits, Holds, CutHolds}
use Rattle.journal.specs.Safe.{ByMark, Commits, Safe}
use Rattle.journal.proofs.Holds.{holds-sound, holds-dead, waits-replayable, recovers-holds}
use Rattle.journal.proofs.Changed.{reached-page}
use Rattle.journal.proofs.Redo.{redo-closed, redo-run, redo-cut}

-- what comes after a command, of those before a cut that is past it
pub past-command : (xs : List Op) (o : Op) (ys : List Op) (d : ℕ) → drop (suc (length xs)) (take (length xs + suc d) (xs ++ (o ∷ ys))) ≡ take d ys
past-command xs o ys d =
    let e : suc (length xs) ≡ length xs + 1 = omega arith in
    ap (drop (suc (length xs))) (take-append-add xs (o ∷ ys) (suc d))
    ∙ ap (λ (n : ℕ). drop n (xs ++ (o ∷ take d ys))) e
    ∙ drop-append-add xs (o ∷ take d ys) 1

module _ (a : List ℕ) (cs : List Op) (w : List ℕ) (s : sound a ≡ true) (t : Safe a cs w) where
  -- the image before the commit store, and with it
  abbrev x : List ℕ
  x = after a t.prepare

  abbrev b : List ℕ
  b = sets x t.place t.bytes

  -- the commit store is the first that touches a live byte of a: by `dead` none before it does
  pub commit-live : live a t.place ≡ true
  unfolding live live_in
  commit-live = go t.commits
    where
      go : Commits a x t.place t.bytes t.rest → live a t.place ≡ true
      go (inl (inl (p, was, at, line), none)) =
          let page : t.place / page_size ≡ p = omega (arith, at) in
          let offset : t.place % page_size ≡ 0 = omega (arith, at) in
          rw (page, offset, was) (or-true (ltb t.place line_size))
      go (inl (inr (at, word), none)) = subst (λ (i : ℕ). live a i ≡ true) (sym at) refl
      go (inr m) = subst (λ (i : ℕ). live a i ≡ true) (sym m.is_place) refl

  -- and it is one command of the device: a word or a line of the image
  pub commit-fits : Writable (length a) (store t.place t.bytes)
  commit-fits = go t.commits
    where
      size : Size (length a)
      size = size-true (length a) (sound-facts a s).size

      go : Commits a x t.place t.bytes t.rest → Writable (length a) (store t.place t.bytes)
      go (inl (inl (p, was, at, line), none)) = let q = is_page-true (page_count a) p (reached-page a s p was) in inr (line, omega (arith, at), omega (arith, at))
      go (inl (inr (at, word), none)) = inl (word, omega (arith, at), omega (arith, at, size.low))
      go (inr m) = inl (m.is_word, omega (arith, m.is_place), omega (arith, m.is_place, size.low))

  -- the commit store, with the commands that make it durable
  abbrev commit : List Op
  commit = store t.place t.bytes ∷ t.wait

  commit-closed : Closed commit
  commit-closed = closed-store t.place t.bytes t.wait t.is_durable (storeless-closed t.wait t.no_store)

  commit-after : after x commit ≡ b
  commit-after = one-after x t.place t.bytes t.wait t.no_store

  -- ---- what follows it, over the image with it

  rest-leaves : after b t.rest ≡ w
  rest-leaves =
      ap (λ (y : List ℕ). after y t.rest) (sym commit-after)
      ∙ sym (after-append x commit t.rest)
      ∙ sym (after-append a t.prepare (commit ++ t.rest))
      ∙ ap (after a) (sym t.shape)
      ∙ t.leaves

  -- a mark waits, of pages of the image
  waits : (m : ByMark a b t.place t.bytes t.rest) → Waits b m.count m.root
  unfolding logged_ok
  waits m =
      let pages : page_count b ≡ page_count a = ap (λ (n : ℕ). n / page_size) (length-sets x t.place t.bytes ∙ length-after a t.prepare) in
      record {
        zero = m.is_mark;
        ok = rw pages (both m.apart (true-all_b (is_page (page_count a)) (λ (p : ℕ). among p (reached a (root_of a)) ≡ true) (reached-page a s) (map own_page (logged m.count b)) m.were_reached));
      }

  mark-holds : (m : ByMark a b t.place t.bytes t.rest) → Holds (table w) b
  mark-holds m =
      let replays : replay b ≡ w = sym (redo-run b m.count m.root (waits m) t.rest m.redo) ∙ rest-leaves in
      record {
        is_replayable = waits-replayable b m.count m.root (waits m);
        is_sound = ap sound replays ∙ t.is_sound;
        is_table = ap table replays;
      }

  -- cut anywhere, it holds the new table
  rest-holds : (f : ℕ → ℕ) (d : ℕ) → Holds (table w) (cut_image b f d t.rest)
  rest-holds f d = go t.commits
    where
      go : Commits a x t.place t.bytes t.rest → Holds (table w) (cut_image b f d t.rest)
      go (inl one) =
          let done : b ≡ w = sym (after-nil b) ∙ ap (after b) (sym one.1) ∙ rest-leaves in
          subst (Holds (table w)) (sym (ap (cut_image b f d) one.1 ∙ cut-nil b f d ∙ done)) (holds-sound w t.is_sound)
      go (inr m) = recovers-holds b (cut_image b f d t.rest) (mark-holds m) (redo-cut b m.count m.root (waits m) t.rest m.redo (mark-holds m) f d)

  rest-closed : Closed t.rest
  rest-closed = go t.commits
    where
      go : Commits a x t.place t.bytes t.rest → Closed t.rest
      go (inl one) = subst Closed (sym one.1) closed-nil
      go (inr m) = redo-closed b m.count m.root t.rest m.redo

  -- "The end has nothing undurable"
  pub safe-closed : Closed cs
  safe-closed = subst Closed (sym t.shape) (closed-append t.prepare (commit ++ t.rest) t.prepared (closed-append commit t.rest commit-closed rest-closed))

  -- ---- every cut

  module _ (f : ℕ → ℕ) where
    -- d commands from the commit store on, over the image before it
    abbrev cut_past : ℕ → List ℕ
    cut_past d = cut_image x f d (commit ++ t.rest)

    is-past : (d : ℕ) → cut_image a f (length t.prepare + d) cs ≡ cut_past d
    is-past d = ap (cut_image a f (length t.prepare + d)) t.shape ∙ cut-late a f d t.prepare (commit ++ t.rest) t.prepared

    old : Holds (table a) x
    old = holds-dead a x s (length-after a t.prepare) (λ i q. run-other a t.prepare i (t.dead i q))

    new : Holds (table w) b
    new = subst (Holds (table w)) (cut-zero b f t.rest) (rest-holds f 0)

    -- a cut in the commit store and the commands after it that make it durable, and a later one
    within : (d : ℕ) → d ≤ length commit → cut_past d ≡ cut_image x f d commit
    within d q = cut-early x f d commit t.rest q

    beyond : (d : ℕ) → length commit ≤ d → Holds (table w) (cut_past d)
    beyond d q =
        let e : length commit + (d - length commit) ≡ d = omega arith in
        subst (λ (n : ℕ). Holds (table w) (cut_past n)) e
        (subst (Holds (table w))
        (sym (cut-late x f (d - length commit) commit t.rest commit-closed ∙ ap (λ (y : List ℕ). cut_image y f (d - length commit) t.rest) commit-after))
        (rest-holds f (d - length commit)))

    issued : (d : ℕ) → Holds (table a) (cut_past d) ⊎ Holds (table w) (cut_past d)
    issued d = go (dec_le d (length commit))
      where
        kept : d ≤ length commit → (cut_image x f d commit ≡ x) ⊎ (cut_image x f d commit ≡ b) → Holds (table a) (cut_past d) ⊎ Holds (table w) (cut_past d)
        kept q (inl e) = inl (subst (Holds (table a)) (sym (within d q ∙ e)) old)
        kept q (inr e) = inr (subst (Holds (table w)) (sym (within d q ∙ e)) new)

        go : Dec (d ≤ length commit) → Holds (table a) (cut_past d) ⊎ Holds (table w) (cut_past d)
        go (yes q) = kept q (one-cut x t.place t.bytes t.wait t.no_store f d)
        go (no q) = inr (beyond d (omega arith))

    durably : (d : ℕ) → durable (line_of t.place) (take d (t.wait ++ t.rest)) ≡ true → Holds (table w) (cut_past (suc d))
    durably d e = go (dec_le (suc d) (length commit))
      where
        go : Dec (suc d ≤ length commit) → Holds (table w) (cut_past (suc d))
        go (yes q) =
            let g : take d (t.wait ++ t.rest) ≡ take d t.wait = take-append-le d t.wait t.rest (omega arith) in
            subst (Holds (table w)) (sym (within (suc d) q ∙ one-durable x t.place t.bytes t.wait t.no_store f d (ap (durable (line_of t.place)) (sym g) ∙ e))) new
        go (no q) = beyond (suc d) (omega arith)

    module _ (c : ℕ) where
      abbrev left : List ℕ
      left = cut_image a f c cs

      unissued : c ≤ length t.prepare → Holds (table a) left
      unissued h =
          subst (Holds (table a)) (sym (ap (cut_image a f c) t.shape ∙ cut-early a f c t.prepare (commit ++ t.rest) h))
          (holds-dead a (cut_image a f c t.prepare) s (length_cut a f c t.prepare) (λ i q. cut-untouched a f c t.prepare i (t.dead i q)))

      committed : durable (line_of t.place) (drop (suc (length t.prepare)) (take c cs)) ≡ true → Holds (table w) left
      committed e =
          let late = durable-late (line_of t.place) (suc (length t.prepare)) c cs e in
          let d : ℕ = c - suc (length t.prepare) in
          let n : c ≡ length t.prepare + suc d = omega (arith, late) in
          let seen : drop (suc (length t.prepare)) (take c cs) ≡ take d (t.wait ++ t.rest) =
          ap (λ (i : ℕ). drop (suc (length t.prepare)) (take i cs)) n
          ∙ ap (λ (r : List Op). drop (suc (length t.prepare)) (take (length t.prepare + suc d) r)) t.shape
          ∙ past-command t.prepare (store t.place t.bytes) (t.wait ++ t.rest) d in
          subst (Holds (table w)) (sym (ap (λ (i : ℕ). cut_image a f i cs) n ∙ is-past (suc d))) (durably d (ap (durable (line_of t.place)) (sym seen) ∙ e))

      between : Holds (table a) left ⊎ Holds (table w) left
      between = go (dec_le c (length t.prepare))
        where
          go : Dec (c ≤ length t.prepare) → Holds (table a) left ⊎ Holds (table w) left
          go (yes q) = inl (unissued q)
          go (no q) =
              let d : ℕ = c - length t.prepare in
              let n : c ≡ length t.prepare + d = omega arith in
              subst (λ (y : List ℕ). Holds (table a) y ⊎ Holds (table w) y) (sym (ap (λ (i : ℕ). cut_image a f i cs) n ∙ is-past d)) (issued d)

      pub crash : CutHolds (table a) (table w) a cs (length t.prepare) (line_of t.place) f c
      crash = record { unissued = unissued; committed = committed; between = between }
