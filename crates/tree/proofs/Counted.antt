-- How many pages an index page takes when the page under it is changed, and how many records the page above it then takes.
-- Assumes nothing.
use Prim.Native.Nat.{ℕ, zero, suc, ◌+◌, ◌-◌, ◌*◌, ◌≤◌, ◌<◌}
use mathlib.Core.Path.{◌≡◌, refl, sym, ap, ◌∙◌, subst}
use mathlib.Core.Bool.{Bool, true, false, ◌||◌, not, false≢true}
use mathlib.Core.List.{List, [], ◌∷◌, ◌++◌, map}
use native.Mathlib.Omega.{arith}
use lib.ListN.{length, length-append, replicate}
use lib.Dec.{eqb, leb}
use borrow.Author.Tests.{le-leb, leb-false, leb-true, lt-leb, ne_eqb, not-false, not-true}
use Rattle.codec.specs.Lists.{All, pick}
use Rattle.codec.proofs.Tests.{both}
use Rattle.page.specs.Layout.{Rec, line_size, page_size, size, top_key}
use Rattle.page.specs.Operations.{fits_in, made, page_of, sizes}
use Rattle.page.specs.Page.{RecOk}
use Rattle.page.specs.PageFormat.{CanPlace, PageFormat, Rules}
use Rattle.page.proofs.Made.{All-made}
use Rattle.image.specs.Image.{Entries, IsEntry, entry_size, index_rec, count, hit}
use Rattle.image.proofs.General.{All-append, All-left}
use Rattle.image.proofs.IndexRecords.{index-entry, index_ok, size-entry, sizes-entries}
use Rattle.image.proofs.Times.{hit-self}
use Rattle.edit.proofs.General.{all_right, by-test}
use Rattle.tree.specs.Edits.{Change, PageStep, absorbed, copied, copy_then, gone, is_full, kept, moved, now, one, put, stops, then_into, two}
use Rattle.tree.specs.Good.{inside}
use Rattle.tree.specs.Grounds.{first_takes, room_after, second_takes, takes, takes_above, raised_above}
use Rattle.tree.specs.State.{State, filled, with_page}
use Rattle.tree.proofs.Absorb.{first_out, new-entries, same_length, small-enough}
use Rattle.tree.proofs.Change.{Holds, Out, SepsOk, out-ends, taken-ends, raised}
use Rattle.tree.proofs.General.{inserted-seam, made-seam}
use Rattle.tree.proofs.Puts.{Puts, dropped-is, update-room}
use Rattle.tree.proofs.States.{filled-facts, write-here}
use Rattle.tree.proofs.Takes.{Counted, NotGone, put-counted, put-stays}

-- ---- what an index page takes

-- the sizes of index records
entry-sizes : (cs : List Rec) → Entries cs → map size cs ≡ replicate (length cs) entry_size
entry-sizes [] e = refl
entry-sizes (c ∷ cs) e = rw (size-entry c e.0, entry-sizes cs e.1) refl

module _ (Pg : PageFormat) (rules : Rules Pg) (keep : ℕ → Pg.Keep) where
  first_one : (x : Pg.Room) → first_takes Pg x ≤ 1
  unfolding first_takes
  first_one x = go (Pg.fits x entry_size)
    where
      go : (b : Bool) → pick b 0 1 ≤ 1
      go true = omega arith
      go false = omega arith

  module _ (n : ℕ) (few : n ≤ 64) (F : List ℕ) (st : State) (long : length st.image ≡ page_size * n) (q kind : ℕ) (small : kind < 256)
      (pre : List Rec) (c : Rec) (post : List Rec) (L : Holds Pg st.image kind q (pre ++ c ∷ post)) (E : Entries (pre ++ c ∷ post))
      (apart : (x : ℕ) → hit x q + count x st.free ≤ inside n x) (sub : (x : ℕ) → count x st.free ≤ count x F) (clear : (x : ℕ) → 1 ≤ count x F → keep x ≡ Pg.none) where
    abbrev p : List ℕ
    p = page_of st.image q

    abbrev s : Pg.Room
    s = Pg.room (keep q) p

    abbrev m : ℕ
    m = length (pre ++ c ∷ post)

    module _ (low a : ℕ) (ok : low ≤ top_key) where
      abbrev d : Rec
      d = index_rec low a

      abbrev ds : List Rec
      ds = pre ++ d ∷ post

      size-d : size (index_rec low a) ≡ entry_size
      size-d = size-entry d (index-entry low a)

      fits-d : fits_in Pg.cap (pre ++ index_rec low a ∷ post) ≡ true
      fits-d =
          let h = small-enough Pg rules keep n few F st long q kind small pre c post L E apart sub low a ok in
          both (le-leb (length ds) Pg.cap h.0) (le-leb (sizes ds) (page_size - line_size) h.1)

      new-d : made false (length pre) (index_rec low a) (Pg.recs (page_of st.image q)) ≡ pre ++ index_rec low a ∷ post
      new-d = ap (made false (length pre) d) L.lists.recs ∙ made-seam pre c d post

      full-d : is_full Pg (keep q) false (size (index_rec low a)) (page_of st.image q) ≡ not (Pg.fits s entry_size)
      full-d = update-room Pg (keep q) (size d) p ∙ ap (λ (k : ℕ). not (Pg.fits s k)) size-d

      takes-d : takes Pg (keep q) false (size (index_rec low a)) (page_of st.image q) (pre ++ index_rec low a ∷ post) ≡ first_takes Pg s
      unfolding takes first_takes
      takes-d = rw (full-d, fits-d) (go (Pg.fits s entry_size))
        where
          go : (b : Bool) → ◌≡◌ {A = ℕ} (pick (not b) 1 0) (pick b 0 1)
          go true = refl
          go false = refl

      first_counted : Counted (first_takes Pg s) (first_takes Pg s) st.free (put Pg keep kind false false (length pre) (index_rec low a) q st)
      first_counted =
          subst (λ (k : ℕ). Counted k k st.free (put Pg keep kind false false (length pre) d q st)) takes-d (put-counted Pg keep kind false (length pre) d q st ds new-d)

      -- the room of what stands for the page
      abbrev Rooms : Pg.Room → Change → State → Type 0
      Rooms k kept t = Pg.room (keep q) (page_of t.image q) ≡ k
      Rooms k gone t = Unit {0}
      Rooms k (one x) t = Pg.room (keep x) (page_of t.image x) ≡ k
      Rooms k (two x y z) t = Unit {0}

      -- in a new page with these records
      moved-rooms : Pg.fits s entry_size ≡ false → (l : List Rec) → l ≡ pre ++ index_rec low a ∷ post → Out (Rooms (room_after Pg s (length pre) m)) (moved Pg kind false l st)
      unfolding moved copied filled room_after
      moved-rooms z l is =
          rw (is, fits-d, z)
          (out-ends (Rooms (Pg.fresh (replicate m entry_size))) st.free 1 (copied Pg kind ds st)
          (taken-ends (Rooms (Pg.fresh (replicate m entry_size))) st 0 _ (λ x f e.
          let here : count x st.free ≡ 1 + count x f = ap (count x) e ∙ omega (arith, hit-self x) in
          let new : 1 ≤ count x F = omega (arith, sub x) in
          let room = small-enough Pg rules keep n few F st long q kind small pre c post L E apart sub low a ok in
          let A = filled-facts Pg rules keep n few F (record { image = st.image; root = st.root; free = f }) long x (omega (arith, apart x)) new kind small ds
          (subst (All RecOk) new-d (All-made RecOk false (length pre) d (Pg.recs p) (index_ok low a ok) (rules.oks p L.lists.laid))) (omega (arith, room.1)) room.0 in (
            ap (λ (k : Pg.Keep). Pg.room k (page_of (filled Pg kind x ds (record { image = st.image; root = st.root; free = f })).image x)) (clear x new)
                ∙ A.room
                ∙ ap Pg.fresh (entry-sizes ds (new-entries Pg rules keep n few F st long q kind small pre c post L E apart sub low a ok)
                ∙ ap (λ (k : ℕ). replicate k entry_size) (same_length Pg rules keep n few F st long q kind small pre c post L E apart sub low a ok)),
            omega arith,
          ))))

      place-rooms : Pg.fits s entry_size ≡ true → Rooms (room_after Pg s (length pre) m) kept (with_page q (Pg.place (keep q) false (length pre) (index_rec low a) p) st)
      unfolding room_after
      place-rooms z =
          let laid = L.lists.laid in
          let can : CanPlace Pg (keep q) false d p = record { laid = laid; good = index_ok low a ok; room = ap (Pg.fits s) size-d ∙ z; few = λ z. absurd (false≢true z) } in
          let g = Pg.place (keep q) false (length pre) d p in
          rw z
          (ap (Pg.room (keep q)) (write-here n st.image long q (omega (arith, apart q, hit-self q)) g (rules.whole g (rules.place-lists (keep q) false (length pre) d p can).laid))
          ∙ rules.place-room (keep q) false (length pre) d p can
          ∙ ap (λ (k : ℕ). Pg.after false (length pre) k s) size-d)

      first-rooms : Out (Rooms (room_after Pg s (length pre) m)) (put Pg keep kind false false (length pre) (index_rec low a) q st)
      unfolding put
      first-rooms =
          by-test (Out (Rooms (room_after Pg s (length pre) m))) (is_full Pg (keep q) false (size d) p) (λ e. moved-rooms (not-true (Pg.fits s entry_size) (sym full-d ∙ e)) _ (search new-d))
          (λ e. place-rooms (not-false (Pg.fits s entry_size) (sym full-d ∙ e)))

      -- ---- the second record

      module _ (k b : ℕ) where
        abbrev d2 : Rec
        d2 = index_rec k b

        abbrev es : List Rec
        es = pre ++ d ∷ d2 ∷ post

        longer : length (pre ++ index_rec low a ∷ index_rec k b ∷ post) ≡ suc m
        longer = length-append pre (d ∷ d2 ∷ post) ∙ omega (arith, length-append pre (c ∷ post))

        entries-e : Entries (pre ++ index_rec low a ∷ index_rec k b ∷ post)
        entries-e = All-append IsEntry pre (d ∷ d2 ∷ post) (All-left IsEntry pre (c ∷ post) E) (index-entry low a, (index-entry k b, (all_right IsEntry pre (c ∷ post) E).1))

        fits-e : fits_in Pg.cap (pre ++ index_rec low a ∷ index_rec k b ∷ post)
            ≡ not (leb Pg.cap m)
        fits-e = go (leb Pg.cap m) refl
          where
            go : (t : Bool) → leb Pg.cap m ≡ t → fits_in Pg.cap es ≡ not t
            go true z = rw (lt-leb (length es) Pg.cap (omega (arith, longer, leb-true Pg.cap m z))) refl
            go false z =
                let h = leb-false Pg.cap m z in
                both (le-leb (length es) Pg.cap (omega (arith, longer))) (le-leb (sizes es) (page_size - line_size) (omega (arith, longer, rules.cap-most, sizes-entries es entries-e)))

        takes-e : (t : State) (x : ℕ) (j : Pg.Room) → Holds Pg t.image kind x (pre ++ index_rec low a ∷ post) → Pg.room (keep x) (page_of t.image x) ≡ j →
            takes Pg (keep x) true (size (index_rec k b)) (page_of t.image x) (pre ++ index_rec low a ∷ index_rec k b ∷ post) ≡ second_takes Pg j m
        unfolding takes is_full second_takes
        takes-e t x j M e =
            rw (e, M.lists.recs, same_length Pg rules keep n few F st long q kind small pre c post L E apart sub low a ok, size-entry d2 (index-entry k b), fits-e)
            (go (not (Pg.fits j entry_size) || leb Pg.cap m) (leb Pg.cap m))
          where
            go : (a b : Bool) → ◌≡◌ {A = ℕ} (pick a (pick (not b) 1 2) 0) (pick a (pick b 2 1) 0)
            go false b = refl
            go true true = refl
            go true false = refl

        second-counted : (t : State) (x : ℕ) (j : Pg.Room) → Holds Pg t.image kind x (pre ++ index_rec low a ∷ post) → Pg.room (keep x) (page_of t.image x) ≡ j →
            Counted (second_takes Pg j m) (second_takes Pg j m) t.free (put Pg keep kind false true (suc (length pre)) (index_rec k b) x t)
        second-counted t x j M e =
            subst (λ (w : ℕ). Counted w w t.free (put Pg keep kind false true (suc (length pre)) d2 x t)) (takes-e t x j M e)
            (put-counted Pg keep kind true (suc (length pre)) d2 x t es (ap (made true (suc (length pre)) d2) M.lists.recs ∙ inserted-seam pre d d2 post))

        -- two records, one after the other: r1 and then r2
        both-counted : (i1 : Bool) (j1 : ℕ) (r1 : Rec) (i2 : Bool) (j2 : ℕ) (r2 : Rec) → Counted (first_takes Pg s) (first_takes Pg s) st.free (put Pg keep kind false i1 j1 r1 q st) →
            Out (Rooms (room_after Pg s (length pre) m)) (put Pg keep kind false i1 j1 r1 q st) → Out (Puts Pg keep F st q kind (pre ++ index_rec low a ∷ post)) (put Pg keep kind false i1 j1 r1 q st) →
            ((t : State) (z : ℕ) (j : Pg.Room) → Holds Pg t.image kind z (pre ++ index_rec low a ∷ post) → Pg.room (keep z) (page_of t.image z) ≡ j →
            Counted (second_takes Pg j m) (second_takes Pg j m) t.free (put Pg keep kind false i2 j2 r2 z t)) →
            Counted (takes_above Pg s (length pre) m 2) (raised_above Pg s (length pre) m 2) st.free (then_into (put Pg keep kind false i1 j1 r1 q st) q (λ z t. put Pg keep kind false i2 j2 r2 z t))
        unfolding takes_above raised_above then_into copy_then
        both-counted i1 j1 r1 i2 j2 r2 counts rooms puts second = go (put Pg keep kind false i1 j1 r1 q st) counts rooms (put-stays Pg keep kind i1 j1 r1 q st) puts
          where
            sec : ℕ
            sec = second_takes Pg (room_after Pg s (length pre) m) m

            zero-case : (w : ℕ) → w ≡ 0 → (f : ℕ) → pick (eqb w 0) f w ≡ f
            zero-case w e f = rw e refl

            suc-case : (w v : ℕ) → w ≡ suc v → (f : ℕ) → pick (eqb w 0) f w ≡ suc v
            suc-case w v e f = rw (e, ne_eqb (suc v) 0 (λ z. omega arith)) refl

            same : (w f v : ℕ) → f ≡ 0 → v ≡ w → v ≡ pick (eqb w 0) f w
            same zero f v e y = y ∙ sym e
            same (suc w) f v e y = y ∙ sym (suc-case (suc w) w refl f)

            after_kept : (t : State) → first_takes Pg s ≡ 0 → length st.free ≡ first_takes Pg s + length t.free → (y : PageStep) → Counted sec sec t.free y →
                Counted (first_takes Pg s + sec) (pick (eqb sec 0) (first_takes Pg s) sec) st.free y
            after_kept t z l (stops v) h = omega (arith, h)
            after_kept t z l (now g u) h = (same sec (first_takes Pg s) (raised g) z h.0, omega (arith, h.1))

            after-copy : (x : ℕ) (t : State) → first_takes Pg s ≡ 1 → length st.free ≡ first_takes Pg s + length t.free → (y : PageStep) → NotGone y → Counted sec sec t.free y →
                Counted (first_takes Pg s + sec) (pick (eqb sec 0) (first_takes Pg s) sec) st.free (then_into (now (one x) t) q (λ w v. y))
            after-copy x t z l (stops v) g h = omega (arith, h)
            after-copy x t z l (now kept u) g h = (sym (zero-case sec (sym h.0) (first_takes Pg s) ∙ z), omega (arith, h.1))
            after-copy x t z l (now gone u) g h = absurd g
            after-copy x t z l (now (one y) u) g h = (sym (suc-case sec 0 (sym h.0) (first_takes Pg s)), omega (arith, h.1))
            after-copy x t z l (now (two y v w) u) g h = (sym (suc-case sec 1 (sym h.0) (first_takes Pg s)), omega (arith, h.1))

            go : (y : PageStep) → Counted (first_takes Pg s) (first_takes Pg s) st.free y → Out (Rooms (room_after Pg s (length pre) m)) y → NotGone y → Out (Puts Pg keep F st q kind ds) y →
                Counted (first_takes Pg s + sec) (pick (eqb sec 0) (first_takes Pg s) sec) st.free (then_into y q (λ z t. put Pg keep kind false i2 j2 r2 z t))
            go (stops v) h i g o = omega arith
            go (now kept t) h i g o = after_kept t (sym h.0) h.1 (put Pg keep kind false i2 j2 r2 q t) (second t q (room_after Pg s (length pre) m) o.held i)
            go (now gone t) h i g o = absurd g
            go (now (one x) t) h i g o =
                after-copy x t (sym h.0) h.1 (put Pg keep kind false i2 j2 r2 x t) (put-stays Pg keep kind i2 j2 r2 x t) (second t x (room_after Pg s (length pre) m) o.held i)
            go (now (two x v y) t) h i g o = absurd (omega (arith, h.0, first_one s))

    pub absorbed-counted : (low : ℕ) (ch : Change) → SepsOk low ch →
        Counted (takes_above Pg s (length pre) m (raised ch)) (raised_above Pg s (length pre) m (raised ch)) st.free
        (absorbed Pg keep kind (length pre) low q ch st)
    unfolding absorbed takes_above raised_above
    absorbed-counted low kept o = (refl, omega arith)
    absorbed-counted low gone o = dropped-is Pg (Counted 0 0 st.free) false (length pre) q st (refl, omega arith) (refl, omega arith)
    absorbed-counted low (one a) o = first_counted low a o
    absorbed-counted low (two a k b) o =
        both-counted low a o.0 k b _ _ _ _ _ _ (search (first_counted low a o.0)) (search (first-rooms low a o.0))
        (search (first_out Pg rules keep n few F st long q kind small pre c post L E apart sub low a o.0)) (search (second-counted low a o.0 k b))
