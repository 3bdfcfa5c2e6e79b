-- What a page takes from the page below it: no record, one in place of the old, one and a second after it, or the loss of the old.
-- Assumes nothing.
use Prim.Native.Nat.{ℕ, zero, suc, ◌+◌, ◌-◌, ◌*◌, ◌≤◌, ◌<◌}
use mathlib.Core.Path.{◌≡◌, refl, sym, ap, ◌∙◌, subst}
use mathlib.Core.Bool.{Bool, true, false, true≢false}
use mathlib.Core.List.{List, [], ◌∷◌, ◌++◌}
use native.Mathlib.Omega.{arith}
use lib.ListN.{length, length-append}
use borrow.Author.Tests.{le-leb}
use Rattle.codec.specs.Lists.{remove_at}
use Rattle.codec.proofs.Tests.{both}
use Rattle.page.specs.Layout.{Rec, line_size, page_size, top_key}
use Rattle.page.specs.Operations.{made, page_of, sizes}
use Rattle.page.specs.Page.{RecOk}
use Rattle.page.specs.PageFormat.{PageFormat, Rules}
use Rattle.page.proofs.Made.{All-made, length-made}
use Rattle.image.specs.Image.{Entries, IsEntry, index_rec, count, hit}
use Rattle.image.proofs.General.{All-append, All-left}
use Rattle.image.proofs.IndexRecords.{index-entry, index_ok, sizes-entries}
use Rattle.edit.proofs.General.{all_right}
use Rattle.tree.specs.Edits.{Change, PageStep, absorbed, copy_then, dropped, gone, kept, now, one, put, stops, then_into, two}
use Rattle.tree.specs.Good.{inside}
use Rattle.tree.specs.State.{State, with_page}
use Rattle.tree.proofs.Change.{Held, Holds, NewIn, Out, SepsOk, Some, nothing, out-ends, out-map, some-any, stand, standing}
use Rattle.tree.proofs.General.{inserted-seam, made-seam, remove_at-seam}
use Rattle.tree.proofs.Puts.{Puts, dropped-gone, dropped-puts, dropped-some, put-ends}
use Rattle.tree.proofs.States.{Leads, leads-free, leads-refl, leads-trans}

-- a page of the records rs takes two: x in the place of another, and then y, after which it lists es
pub record TwoPuts (rs es : List Rec) (a : Bool) (i : ℕ) (x : Rec) (b : Bool) (j : ℕ) (y : Rec) : Type 0 where
  pub in_place : length (made a i x rs) ≡ length rs
  pub lists : made b j y (made a i x rs) ≡ es
  pub some : 1 ≤ length es
  pub entry : IsEntry x
  pub ok : RecOk x
  pub ok2 : RecOk y

-- "The left or only record takes the old leaf's slot, as in an update"; "the right one is an insert"
pub two-puts : (pre : List Rec) (c : Rec) (post : List Rec) (low a : ℕ) → low ≤ top_key → (k b : ℕ) → k ≤ top_key →
    TwoPuts (pre ++ c ∷ post) (pre ++ index_rec low a ∷ index_rec k b ∷ post) false (length pre) (index_rec low a) true (suc (length pre)) (index_rec k b)
two-puts pre c post low a ok k b ok2 =
    record {
      in_place = length-made false (length pre) (index_rec low a) (pre ++ c ∷ post);
      lists = ap (made true (suc (length pre)) (index_rec k b)) (made-seam pre c (index_rec low a) post) ∙ inserted-seam pre (index_rec low a) (index_rec k b) post;
      some = omega (arith, length-append pre (index_rec low a ∷ index_rec k b ∷ post));
      entry = index-entry low a;
      ok = index_ok low a ok;
      ok2 = index_ok k b ok2;
    }

module _ (Pg : PageFormat) (rules : Rules Pg) (keep : ℕ → Pg.Keep) where
  pub newer : (F : List ℕ) (s t : State) → Leads Pg keep F s t → (c : Change) → NewIn t.free c → NewIn s.free c
  newer F s t l kept h = tt
  newer F s t l gone h = tt
  newer F s t l (one a) h = omega (arith, leads-free Pg keep F s t l a)
  newer F s t l (two a k b) h = tt

  -- two changes of one page, one after the other
  pub puts-trans : (F : List ℕ) (s t u : State) (q x kind : ℕ) (rs ss : List Rec) (c d : Change) → standing q c ≡ x ∷ [] → standing q d ≡ standing x d → Held Pg u.image kind q d ss → NewIn s.free d →
      Puts Pg keep F s q kind rs c t → Puts Pg keep F t x kind ss d u → Puts Pg keep F s q kind ss d u
  puts-trans F s t u q x kind rs ss c d e f held new A B =
      record {
        split-over = B.split-over;
        leads = leads-trans Pg rules keep F s t u A.leads B.leads;
        root = B.root ∙ A.root;
        other = λ y h. B.other y (omega (arith, A.pages y, ap (count y) e)) ∙ A.other y h;
        pages = λ y. omega (arith, A.pages y, B.pages y, ap (count y) e, ap (count y) f);
        held = held;
        fresh = new;
      }

  module _ (n : ℕ) (few : n ≤ 64) (F : List ℕ) (st : State) (long : length st.image ≡ page_size * n) (q kind : ℕ) (small : kind < 256)
      (pre : List Rec) (c : Rec) (post : List Rec) (L : Holds Pg st.image kind q (pre ++ c ∷ post)) (E : Entries (pre ++ c ∷ post))
      (apart : (x : ℕ) → hit x q + count x st.free ≤ inside n x) (sub : (x : ℕ) → count x st.free ≤ count x F) where
    abbrev rs : List Rec
    rs = pre ++ c ∷ post

    pub most : length (pre ++ c ∷ post) ≤ Pg.cap
    most = omega (arith, ap length L.lists.recs, rules.few (page_of st.image q) L.lists.laid)

    -- the first record, in place of the old
    module _ (low a : ℕ) (ok : low ≤ top_key) where
      abbrev d : Rec
      d = index_rec low a

      abbrev ds : List Rec
      ds = pre ++ d ∷ post

      pub same_length : length (pre ++ index_rec low a ∷ post) ≡ length (pre ++ c ∷ post)
      same_length = length-append pre (d ∷ post) ∙ sym (length-append pre (c ∷ post))

      pub new-entries : Entries (pre ++ index_rec low a ∷ post)
      new-entries = All-append IsEntry pre (d ∷ post) (All-left IsEntry pre (c ∷ post) E) (index-entry low a, (all_right IsEntry pre (c ∷ post) E).1)

      pub small-enough : (length (pre ++ index_rec low a ∷ post) ≤ Pg.cap) × (sizes (pre ++ index_rec low a ∷ post) ≤ page_size - line_size)
      small-enough = (omega (arith, same_length, most), omega (arith, same_length, most, rules.cap-most, sizes-entries ds new-entries))

      pub first_out : Out (Puts Pg keep F st q kind (pre ++ index_rec low a ∷ post)) (put Pg keep kind false false (length pre) (index_rec low a) q st)
      first_out =
          let e : made false (length pre) d rs ≡ ds = made-seam pre c d post in
          subst (λ (l : List Rec). Out (Puts Pg keep F st q kind l) (put Pg keep kind false false (length pre) d q st)) e
          (out-ends (Puts Pg keep F st q kind (made false (length pre) d rs)) st.free _ (put Pg keep kind false false (length pre) d q st)
          (put-ends Pg rules keep n few F st long q kind small rs L apart sub false (length pre) d (index_ok low a ok)
          (rw e (omega (arith, length-append pre (d ∷ post))))))

    -- two records, one after the other, in the page and in what stands for it
    module _ (es : List Rec) (a : Bool) (i : ℕ) (x : Rec) (b : Bool) (j : ℕ) (y : Rec) (T : TwoPuts (pre ++ c ∷ post) es a i x b j y) where
      abbrev fs : List Rec
      fs = made a i x rs

      some_first : 1 ≤ length (made a i x (pre ++ c ∷ post))
      some_first = omega (arith, T.in_place, length-append pre (c ∷ post))

      pub first-put : Out (Puts Pg keep F st q kind (made a i x (pre ++ c ∷ post))) (put Pg keep kind false a i x q st)
      first-put =
          out-ends (Puts Pg keep F st q kind fs) st.free _ (put Pg keep kind false a i x q st)
          (put-ends Pg rules keep n few F st long q kind small rs L apart sub a i x T.ok some_first)

      never-two : (v k w : ℕ) (t : State) → Puts Pg keep F st q kind (made a i x (pre ++ c ∷ post)) (two v k w) t → ⊥
      never-two v k w t A =
          let less : length fs ≤ Pg.cap = omega (arith, T.in_place, most) in
          let room : sizes fs ≤ page_size - line_size = omega (arith, rules.cap-most, sizes-entries fs (All-made IsEntry a i x rs T.entry E)) in
          true≢false (sym (both (le-leb (length fs) Pg.cap less) (le-leb (sizes fs) (page_size - line_size) room)) ∙ A.split-over refl)

      -- the second, in the page z that stands for q
      second-out : (t : State) (z : ℕ) → length t.image ≡ page_size * n → Holds Pg t.image kind z (made a i x (pre ++ c ∷ post)) → ((w : ℕ) → hit w z + count w t.free ≤ inside n w) →
          ((w : ℕ) → count w t.free ≤ count w F) → Out (Puts Pg keep F t z kind es) (put Pg keep kind false b j y z t)
      second-out t z wide M ap-t sub-t =
          subst (λ (l : List Rec). Out (Puts Pg keep F t z kind l) (put Pg keep kind false b j y z t)) T.lists
          (out-ends (Puts Pg keep F t z kind (made b j y fs)) t.free _ (put Pg keep kind false b j y z t)
          (put-ends Pg rules keep n few F t wide z kind small fs M ap-t sub-t b j y T.ok2 (omega (arith, ap length T.lists, T.some))))

      second-step : (c1 : Change) (t : State) → Puts Pg keep F st q kind (made a i x (pre ++ c ∷ post)) c1 t →
          Out (Puts Pg keep F st q kind es) (then_into (now c1 t) q (λ z s. put Pg keep kind false b j y z s))
      unfolding then_into copy_then
      second-step kept t A =
          let B = second-out t q (A.leads.long ∙ long) A.held (λ w. omega (arith, A.pages w, apart w)) (λ w. omega (arith, sub w, leads-free Pg keep F st t A.leads w)) in
          out-map (Puts Pg keep F t q kind es) (Puts Pg keep F st q kind es) (put Pg keep kind false b j y q t)
          (λ g u C. puts-trans F st t u q q kind fs es kept g refl refl C.held (newer F st t A.leads g C.fresh) A C) B
      second-step gone t A = absurd (omega (arith, ap length A.held, some_first))
      second-step (one z) t A =
          let B = second-out t z (A.leads.long ∙ long) A.held (λ w. omega (arith, A.pages w, apart w)) (λ w. omega (arith, sub w, leads-free Pg keep F st t A.leads w)) in
          go (put Pg keep kind false b j y z t) B
        where
          -- a copy that is then split counts as taken
          same-free : (u : State) (d : Change) (f : List ℕ) → f ≡ u.free → Puts Pg keep F st q kind es d u → Puts Pg keep F st q kind es d (record { image = u.image; root = u.root; free = f })
          same-free u d f e C = subst (λ (g : List ℕ). Puts Pg keep F st q kind es d (record { image = u.image; root = u.root; free = g })) (sym e) C

          itself : (u : State) → u.free ≡ u.free
          itself u = refl

          go : (s : PageStep) → Out (Puts Pg keep F t z kind es) s → Out (Puts Pg keep F st q kind es) (then_into (now (one z) t) q (λ w v. s))
          go (stops m) B = B
          go (now kept u) B =
              record {
                split-over = λ w. absurd (omega arith);
                leads = leads-trans Pg rules keep F st t u A.leads B.leads;
                root = B.root ∙ A.root;
                other = λ w h. B.other w (omega (arith, A.pages w)) ∙ A.other w h;
                pages = λ w. omega (arith, A.pages w, B.pages w);
                held = B.held;
                fresh = A.fresh;
              }
          go (now gone u) B = puts-trans F st t u q z kind fs es (one z) gone refl refl B.held (newer F st t A.leads gone B.fresh) A B
          go (now (one w) u) B = puts-trans F st t u q z kind fs es (one z) (one w) refl refl B.held (newer F st t A.leads (one w) B.fresh) A B
          go (now (two w m v) u) B =
              same-free u (two w m v) _ (search (itself u)) (puts-trans F st t u q z kind fs es (one z) (two w m v) refl refl B.held (newer F st t A.leads (two w m v) B.fresh) A B)
      second-step (two v m w) t A = absurd (never-two v m w t A)

      both_out : Out (λ d t. Puts Pg keep F st q kind es d t × Some d es) (then_into (put Pg keep kind false a i x q st) q (λ z s. put Pg keep kind false b j y z s))
      unfolding then_into
      both_out =
          out-map (Puts Pg keep F st q kind es) (λ d t. Puts Pg keep F st q kind es d t × Some d es) (then_into (put Pg keep kind false a i x q st) q (λ z s. put Pg keep kind false b j y z s)) (λ d t A. (A, some-any d es T.some)) (go (put Pg keep kind false a i x q st) first-put)
        where
          go : (s : PageStep) → Out (Puts Pg keep F st q kind fs) s → Out (Puts Pg keep F st q kind es) (then_into s q (λ z v. put Pg keep kind false b j y z v))
          go (stops m) A = A
          go (now c1 t) A = second-step c1 t A

    -- ---- any change

    lost-puts : Puts Pg keep F st q kind (pre ++ post) kept (with_page q (Pg.remove (page_of st.image q) (length pre)) st)
    lost-puts =
        subst (λ (l : List Rec). Puts Pg keep F st q kind l kept (with_page q (Pg.remove (page_of st.image q) (length pre)) st)) (remove_at-seam pre c post)
        (dropped-puts Pg rules keep n few F st long q kind small rs L apart sub (length pre) (omega (arith, length-append pre (c ∷ post))))

    abbrev Takes : List Rec → Change → State → Type 0
    Takes l d t = Puts Pg keep F st q kind l d t × Some d l

    longer : (ds : List Rec) → 1 ≤ length ds → 1 ≤ length (pre ++ (ds ++ post))
    longer ds h = omega (arith, length-append pre (ds ++ post), length-append ds post)

    taking : (ds : List Rec) → 1 ≤ length ds → (s : PageStep) → Out (Puts Pg keep F st q kind (pre ++ (ds ++ post))) s → Out (Takes (pre ++ (ds ++ post))) s
    taking ds h s o = out-map (Puts Pg keep F st q kind (pre ++ (ds ++ post))) (Takes (pre ++ (ds ++ post))) s (λ d t A. (A, some-any d (pre ++ (ds ++ post)) (longer ds h))) o

    listed : Pg.recs (Pg.remove (page_of st.image q) (length pre)) ≡ pre ++ post
    listed = (rules.remove-lists (page_of st.image q) (length pre) L.lists.laid).recs ∙ ap (remove_at (length pre)) L.lists.recs ∙ remove_at-seam pre c post

    -- a page left empty goes, and no other
    lost-out : (only : Bool) → only ≡ false → Out (Takes (pre ++ post)) (dropped Pg only (length pre) q st)
    lost-out only beside = go (length (pre ++ post)) refl
      where
        go : (m : ℕ) → length (pre ++ post) ≡ m → Out (Takes (pre ++ post)) (dropped Pg only (length pre) q st)
        go zero e =
            let A = lost-puts in
            let goes = ap (λ (b : Bool). dropped Pg b (length pre) q st) beside ∙ dropped-gone Pg (length pre) q st (omega (arith, ap length listed)) in
            subst (Out (Takes (pre ++ post))) (sym goes) (
              record { split-over = λ z. absurd (omega arith); leads = A.leads; root = A.root; other = A.other; pages = λ x. omega (arith, A.pages x); held = nothing (pre ++ post) e; fresh = tt },
              tt,
            )
        go (suc m) e = subst (Out (Takes (pre ++ post))) (sym (dropped-some Pg only (length pre) q st (omega (arith, ap length listed)))) (lost-puts, omega arith)

    pub absorbed-out : (low : ℕ) (ch : Change) → SepsOk low ch →
        Out (λ d t. Puts Pg keep F st q kind (pre ++ (stand c low ch ++ post)) d t × Some d (pre ++ (stand c low ch ++ post))) (absorbed Pg keep kind (length pre) low q ch st)
    unfolding absorbed
    absorbed-out low kept o = (
      record {
        split-over = λ z. absurd (omega arith);
        leads = leads-refl Pg rules keep F st;
        root = refl;
        other = λ x h. refl;
        pages = λ x. omega arith;
        held = L;
        fresh = tt;
      },
      longer (c ∷ []) (omega arith),
    )
    absorbed-out low gone o = lost-out _ (search beside)
      where
        beside : false ≡ false
        beside = refl
    absorbed-out low (one a) o = taking (index_rec low a ∷ []) (omega arith) (put Pg keep kind false false (length pre) (index_rec low a) q st) (first_out low a o)
    absorbed-out low (two a k b) o =
        both_out (pre ++ index_rec low a ∷ index_rec k b ∷ post) _ _ _ _ _ _ (search (two-puts pre c post low a o.0 k b o.1))
