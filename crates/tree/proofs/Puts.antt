-- One record put into a page of any kind: the page itself, one new page or two list the records with the edit made; exactly so many pages are taken.
-- Assumes nothing.
use Prim.Native.Nat.{ℕ, suc, ◌+◌, ◌-◌, ◌*◌, ◌≤◌, ◌<◌}
use mathlib.Core.Path.{◌≡◌, refl, sym, ap, ◌∙◌, subst}
use mathlib.Core.Bool.{Bool, true, false, ◌&&◌, not, or-true, true≢false}
use mathlib.Core.List.{List, ◌∷◌, ◌++◌}
use native.Mathlib.Omega.{arith}
use lib.ListN.{drop, length, take, take-append-drop}
use lib.Dec.{eqb, leb}
use borrow.Author.Tests.{eq-eqb, leb-false, leb-true, ne_eqb}
use Rattle.codec.specs.Lists.{All, pick, remove_at}
use Rattle.codec.proofs.Tests.{first, second}
use Rattle.page.specs.Layout.{Rec, line_size, page_size, size}
use Rattle.page.specs.Operations.{fits_in, made, page_of, sizes}
use Rattle.page.specs.Page.{RecOk}
use Rattle.page.specs.PageFormat.{CanPlace, Lists, PageFormat, Rules}
use Rattle.page.proofs.Made.{All-made}
use Rattle.page.proofs.Totals.{made-most, size-most, size_most, sizes-made}
use Rattle.image.specs.Image.{first_key, count, hit}
use Rattle.image.proofs.General.{All-left}
use Rattle.image.proofs.Times.{hit-apart, hit-self}
use Rattle.edit.proofs.General.{all_right, by-test, by_tests}
use Rattle.tree.specs.Edits.{Change, PageStep, copied, dropped, gone, is_full, kept, moved, now, put, split, split_point, two}
use Rattle.tree.specs.Good.{FitsIn, inside}
use Rattle.tree.specs.Grounds.{takes}
use Rattle.tree.specs.State.{State, filled, with_page}
use Rattle.tree.proofs.Change.{Ends, Held, Holds, NewIn, standing, taken-ends, raised}
use Rattle.tree.proofs.Counts.{inside-most}
use Rattle.tree.proofs.Split.{halves_in}
use Rattle.tree.proofs.States.{Filled, Leads, filled-facts, leads-take, leads-trans, leads-write, write-here, write-other}

-- ---- whether a page is full

module _ (Pg : PageFormat) (k : Pg.Keep) where
  room-less : (ins : Bool) (s : ℕ) (p : List ℕ) → Pg.fits (Pg.room k p) s ≡ false → is_full Pg k ins s p ≡ true
  unfolding is_full
  room-less ins s p z = rw z refl

  -- "or an insert finds 28 records"
  insert-less : (s : ℕ) (p : List ℕ) → leb Pg.cap (length (Pg.recs p)) ≡ true → is_full Pg k true s p ≡ true
  unfolding is_full
  insert-less s p z = rw z (or-true (not (Pg.fits (Pg.room k p) s)))

  -- and not an update
  pub update-room : (s : ℕ) (p : List ℕ) → is_full Pg k false s p ≡ not (Pg.fits (Pg.room k p) s)
  unfolding is_full
  update-room s p = go (Pg.fits (Pg.room k p) s) refl
    where
      go : (t : Bool) → Pg.fits (Pg.room k p) s ≡ t → is_full Pg k false s p ≡ not t
      go true z = rw z refl
      go false z = room-less false s p z

  -- in a page that is not full
  pub place-room : (ins : Bool) (r : Rec) (p : List ℕ) → Pg.laid p ≡ true → RecOk r → is_full Pg k ins (size r) p ≡ false → CanPlace Pg k ins r p
  place-room ins r p laid ok e =
      record {
        laid = laid;
        good = ok;
        room = fits (Pg.fits (Pg.room k p) (size r)) refl;
        few = λ z. slots ins z e (leb Pg.cap (length (Pg.recs p))) refl;
      }
    where
      fits : (t : Bool) → Pg.fits (Pg.room k p) (size r) ≡ t → t ≡ true
      fits true z = refl
      fits false z = absurd (true≢false (sym (room-less ins (size r) p z) ∙ e))

      slots : (b : Bool) → b ≡ true → is_full Pg k b (size r) p ≡ false → (t : Bool) → leb Pg.cap (length (Pg.recs p)) ≡ t → length (Pg.recs p) < Pg.cap
      slots b z h false y = leb-false Pg.cap (length (Pg.recs p)) y
      slots true z h true y = absurd (true≢false (sym (insert-less (size r) p y) ∙ h))
      slots false z h true y = absurd (true≢false (sym z))

-- ---- a record dropped from a page

-- a page left empty goes
pub dropped-gone : (Pg : PageFormat) (j q : ℕ) (st : State) → length (Pg.recs (Pg.remove (page_of st.image q) j)) ≡ 0 →
    dropped Pg false j q st ≡ now gone (with_page q (Pg.remove (page_of st.image q) j) st)
unfolding dropped
dropped-gone Pg j q st e = rw (eq-eqb (length (Pg.recs (Pg.remove (page_of st.image q) j))) 0 e) refl

-- "unless it is the only one"
pub dropped-only : (Pg : PageFormat) (j q : ℕ) (st : State) → length (Pg.recs (Pg.remove (page_of st.image q) j)) ≡ 0 →
    dropped Pg true j q st ≡ now kept (with_page q (Pg.remove (page_of st.image q) j) st)
unfolding dropped
dropped-only Pg j q st e = rw (eq-eqb (length (Pg.recs (Pg.remove (page_of st.image q) j))) 0 e) refl

pub dropped-some : (Pg : PageFormat) (only : Bool) (j q : ℕ) (st : State) → 1 ≤ length (Pg.recs (Pg.remove (page_of st.image q) j)) →
    dropped Pg only j q st ≡ now kept (with_page q (Pg.remove (page_of st.image q) j) st)
unfolding dropped
dropped-some Pg only j q st h = rw (ne_eqb (length (Pg.recs (Pg.remove (page_of st.image q) j))) 0 (λ e. omega arith)) refl

-- either way
pub dropped-is : (Pg : PageFormat) (P : PageStep → Type 0) (only : Bool) (j q : ℕ) (st : State) →
    P (now gone (with_page q (Pg.remove (page_of st.image q) j) st)) → P (now kept (with_page q (Pg.remove (page_of st.image q) j) st)) → P (dropped Pg only j q st)
unfolding dropped
dropped-is Pg P only j q st a b = by-test (λ d. P (now d (with_page q (Pg.remove (page_of st.image q) j) st))) (eqb (length (Pg.recs (Pg.remove (page_of st.image q) j))) 0 && _) (λ e. a) (λ e. b)

module _ (Pg : PageFormat) (keep : ℕ → Pg.Keep) where
  -- what a put of one record into page q leaves: the change c, and the state t
  pub record Puts (F : List ℕ) (s : State) (q kind : ℕ) (rs : List Rec) (c : Change) (t : State) : Type 0 where
    pub split-over : raised c ≡ 2 → fits_in Pg.cap rs ≡ false
    pub leads : Leads Pg keep F s t
    pub root : t.root ≡ s.root
    pub other : (x : ℕ) → hit x q + count x s.free ≡ 0 → page_of t.image x ≡ page_of s.image x
    pub pages : (x : ℕ) → count x (standing q c) + count x t.free ≤ hit x q + count x s.free
    pub held : Held Pg t.image kind q c rs
    pub fresh : NewIn s.free c

module _ (Pg : PageFormat) (rules : Rules Pg) (keep : ℕ → Pg.Keep) where
  -- ---- page q of a state

  module _ (n : ℕ) (few : n ≤ 64) (F : List ℕ) (st : State) (long : length st.image ≡ page_size * n) (q kind : ℕ) (small : kind < 256) (rs : List Rec)
      (L : Holds Pg st.image kind q rs) (apart : (x : ℕ) → hit x q + count x st.free ≤ inside n x) (sub : (x : ℕ) → count x st.free ≤ count x F) where
    abbrev p : List ℕ
    p = page_of st.image q

    laid : Pg.laid (page_of st.image q) ≡ true
    laid = L.lists.laid

    page-in : 1 ≤ inside n q
    page-in = omega (arith, apart q, hit-self q)

    not_free : count q st.free ≡ 0
    not_free = omega (arith, apart q, hit-self q, inside-most n q)

    -- rewritten in its own page
    own-page : (g : List ℕ) (ss : List Rec) → Lists Pg g kind q ss → Pg.Old (keep q) (page_of st.image q) g → Puts Pg keep F st q kind ss kept (with_page q g st)
    own-page g ss shown old =
        let whole = rules.whole g shown.laid in
        let here = write-here n st.image long q page-in g whole in
        record {
          split-over = λ z. absurd (omega arith);
          leads = leads-write Pg rules keep F n st long q page-in g whole (λ h. old) not_free;
          root = refl;
          other = λ x h. write-other n st.image long q page-in g whole x (hit-apart x q (omega arith));
          pages = λ x. omega arith;
          held = record { lists = subst (λ (y : List ℕ). Lists Pg y kind q ss) (sym here) shown };
          fresh = tt;
        }

    -- ---- a record dropped

    pub dropped-puts : (j : ℕ) → j < length rs → Puts Pg keep F st q kind (remove_at j rs) kept (with_page q (Pg.remove (page_of st.image q) j) st)
    dropped-puts j inn =
        let D = rules.remove-lists p j laid in
        own-page (Pg.remove p j) (remove_at j rs)
        (record { laid = D.laid; kind = D.kind ∙ L.lists.kind; own = D.own ∙ L.lists.own; recs = D.recs ∙ ap (remove_at j) L.lists.recs })
        (rules.remove-old (keep q) p j laid (omega (arith, ap length L.lists.recs)))

    -- ---- new pages

    module _ (kept-rs : List Rec) (good : All RecOk kept-rs) where
      abbrev ss : List Rec
      ss = kept-rs

      free-page : (a : ℕ) → 1 ≤ count a st.free → (1 ≤ inside n a) × (1 ≤ count a F) × (count a st.free ≡ 1) × (hit a q ≡ 0)
      free-page a h = (omega (arith, apart a), omega (arith, sub a), omega (arith, apart a, inside-most n a), omega (arith, apart a, inside-most n a))

      copied-ends : FitsIn Pg.cap kept-rs → Ends (Puts Pg keep F st q kind kept-rs) st.free 1 (copied Pg kind kept-rs st)
      unfolding copied filled
      copied-ends fits =
          taken-ends (Puts Pg keep F st q kind ss) st 0 _ (λ a f e.
          let u : State = record { image = st.image; root = st.root; free = f } in
          let N = free-page a (omega (arith, ap (count a) e, hit-self a)) in
          let A : Filled Pg keep F u (filled Pg kind a ss u) kind a ss = filled-facts Pg rules keep n few F u long a N.0 N.1 kind small ss good fits.room fits.few in (
            record {
              split-over = λ z. absurd (omega arith);
              leads = leads-trans Pg rules keep F st u (filled Pg kind a ss u) (leads-take Pg rules keep F st a f e) (A.leads (omega (arith, N.2, ap (count a) e, hit-self a)));
              root = refl;
              other = λ x h. A.other x (λ z. omega (arith, N.2, ap (λ (y : ℕ). count y st.free) z));
              pages = λ x. omega (arith, ap (count x) e);
              held = record { lists = A.lists };
              fresh = omega (arith, N.2);
            },
            omega arith,
          ))

      -- the left half in page a, taken first, and the right one, from sep on, in page b
      split-puts : fits_in Pg.cap kept-rs ≡ false → FitsIn Pg.cap (take (split_point kept-rs) kept-rs) → FitsIn Pg.cap (drop (split_point kept-rs) kept-rs) →
          (a sep b : ℕ) (g : List ℕ) → st.free ≡ a ∷ b ∷ g → sep ≡ first_key (drop (split_point kept-rs) kept-rs) 0 →
          Puts Pg keep F st q kind kept-rs (two a sep b)
          (filled Pg kind b (drop (split_point kept-rs) kept-rs) (filled Pg kind a (take (split_point kept-rs) kept-rs) (record { image = st.image; root = st.root; free = g })))
      unfolding filled
      split-puts over Lf Rf a sep b g all is =
          let m = split_point ss in
          let u : State = record { image = st.image; root = st.root; free = b ∷ g } in
          let w : State = record { image = st.image; root = st.root; free = g } in
          let N = free-page a (omega (arith, ap (count a) all, hit-self a)) in
          let M = free-page b (omega (arith, ap (count b) all, hit-self b)) in
          let ne : a ≡ b → ⊥ = λ z. omega (arith, N.2, ap (count a) all, hit-self a, ap (hit a) z) in
          let parts : All RecOk (take m ss) × All RecOk (drop m ss) =
          (let h : All RecOk (take m ss ++ drop m ss) = rw (take-append-drop m ss) good in (All-left RecOk (take m ss) (drop m ss) h, all_right RecOk (take m ss) (drop m ss) h)) in
          let v1 = filled Pg kind a (take m ss) w in
          let v = filled Pg kind b (drop m ss) v1 in
          let A : Filled Pg keep F w v1 kind a (take m ss) = filled-facts Pg rules keep n few F w long a N.0 N.1 kind small (take m ss) parts.0 Lf.room Lf.few in
          let B : Filled Pg keep F v1 v kind b (drop m ss) = filled-facts Pg rules keep n few F v1 (A.long ∙ long) b M.0 M.1 kind small (drop m ss) parts.1 Rf.room Rf.few in
          let shown : Lists Pg (page_of v.image a) kind a (take m ss) =
          subst (λ (y : List ℕ). Lists Pg y kind a (take m ss)) (sym (B.other a ne)) A.lists in
          record {
            split-over = λ z. over;
            leads =
                leads-trans Pg rules keep F st u v (leads-take Pg rules keep F st a (b ∷ g) all)
                (leads-trans Pg rules keep F u w v (leads-take Pg rules keep F u b g refl)
                (leads-trans Pg rules keep F w v1 v (A.leads (omega (arith, N.2, ap (count a) all, hit-self a))) (B.leads (omega (arith, M.2, ap (count b) all, hit-self b)))));
            root = refl;
            other = λ x h.
                B.other x (λ z. omega (arith, M.2, ap (λ (y : ℕ). count y st.free) z)) ∙ A.other x (λ z. omega (arith, N.2, ap (λ (y : ℕ). count y st.free) z));
            pages = λ x. omega (arith, ap (count x) all);
            held =
                record {
                  left = take m ss;
                  right = drop m ss;
                  whole = take-append-drop m ss;
                  some_left = Lf.some;
                  some_right = Rf.some;
                  sep = is;
                  left-page = record { lists = shown };
                  right-page = record { lists = B.lists };
                };
            fresh = tt;
          }

      -- the pages and the separator are read off the definition, and `search` then asks for the facts of them
      split-ends : fits_in Pg.cap kept-rs ≡ false → FitsIn Pg.cap (take (split_point kept-rs) kept-rs) → FitsIn Pg.cap (drop (split_point kept-rs) kept-rs) →
          Ends (Puts Pg keep F st q kind kept-rs) st.free 2 (split Pg kind kept-rs st)
      unfolding split filled
      split-ends over Lf Rf =
          taken-ends (Puts Pg keep F st q kind ss) st 1 _ (λ a f e.
          taken-ends (Puts Pg keep F st q kind ss) (record { image = st.image; root = st.root; free = f }) 0 _ (λ b g d.
          let all : st.free ≡ a ∷ b ∷ g = e ∙ ap (λ (l : List ℕ). a ∷ l) d in
          (split-puts over Lf Rf _ _ _ g (search all) search, omega arith)))

    -- ---- a record put in

    module _ (ins : Bool) (i : ℕ) (r : Rec) (ok : RecOk r) (some : 1 ≤ length (made ins i r rs)) where
      abbrev new : List Rec
      new = made ins i r rs

      same : made ins i r (Pg.recs p) ≡ new
      same = ap (made ins i r) L.lists.recs

      good : All RecOk (made ins i r rs)
      good = subst (All RecOk) same (All-made RecOk ins i r (Pg.recs p) ok (rules.oks p laid))

      abbrev fits_test : Bool
      fits_test = fits_in Pg.cap new

      -- the records that are moved
      moved_ends : (l : List Rec) → l ≡ made ins i r rs → Ends (Puts Pg keep F st q kind (made ins i r rs)) st.free (pick (fits_in Pg.cap (made ins i r rs)) 1 2) (moved Pg kind false l st)
      unfolding moved
      moved_ends l is = rw is (go fits_test refl)
        where
          most : length new ≤ suc Pg.cap
          most = omega (arith, ap length same, made-most ins i r (Pg.recs p), rules.few p laid)

          bytes : sizes new ≤ page_size - line_size + size_most
          bytes = omega (arith, ap sizes same, sizes-made ins i r (Pg.recs p), size-most r ok, rules.bytes p laid)

          go : (t : Bool) → fits_test ≡ t → Ends (Puts Pg keep F st q kind new) st.free (pick t 1 2) (pick t (copied Pg kind new st) (split Pg kind new st))
          go true e =
              let a = leb-true (length new) Pg.cap (first (leb (length new) Pg.cap) (leb (sizes new) (page_size - line_size)) e) in
              let b = leb-true (sizes new) (page_size - line_size) (second (leb (length new) Pg.cap) (leb (sizes new) (page_size - line_size)) e) in
              copied-ends new good (record { some = some; few = a; room = omega arith })
          go false e = let h = halves_in Pg.cap rules.cap-least new good most bytes e in split-ends new good e h.0 h.1

      pub put-ends : Ends (Puts Pg keep F st q kind (made ins i r rs)) st.free (takes Pg (keep q) ins (size r) (page_of st.image q) (made ins i r rs)) (put Pg keep kind false ins i r q st)
      unfolding put takes
      put-ends = by_tests (Ends (Puts Pg keep F st q kind new) st.free) (is_full Pg (keep q) ins (size r) p) (λ e. moved_ends _ (search same)) (λ e. (place e, omega arith))
        where
          place : is_full Pg (keep q) ins (size r) p ≡ false → Puts Pg keep F st q kind new kept (with_page q (Pg.place (keep q) ins i r p) st)
          place e =
              let can = place-room Pg (keep q) ins r p laid ok e in
              let S = rules.place-lists (keep q) ins i r p can in
              own-page (Pg.place (keep q) ins i r p) new
              (record { laid = S.laid; kind = S.kind ∙ L.lists.kind; own = S.own ∙ L.lists.own; recs = S.recs ∙ same })
              (rules.place-old (keep q) ins i r p can)
