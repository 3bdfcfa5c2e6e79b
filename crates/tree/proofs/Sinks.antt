-- A record put into a page, or what a page takes from the page below it, leaves the page's header sunk if the page stays.
-- Assumes nothing.
use Prim.Native.Nat.{ℕ, ◌+◌, ◌*◌, ◌≤◌, ◌<◌}
use mathlib.Core.Path.{◌≡◌, refl, sym, ap, ◌∙◌, subst}
use mathlib.Core.Bool.{Bool, true, false}
use mathlib.Core.List.{List, ◌∷◌, ◌++◌}
use native.Mathlib.Omega.{arith}
use lib.ListN.{length, length-append}
use Rattle.page.specs.Layout.{Rec, page_size, size}
use Rattle.page.specs.Operations.{fits_in, made, page_of}
use Rattle.page.specs.Page.{RecOk}
use Rattle.page.specs.PageFormat.{PageFormat, Rules, Sinking}
use Rattle.image.specs.Image.{Entries, index_rec, count, hit}
use Rattle.image.proofs.IndexRecords.{index_ok}
use Rattle.image.proofs.Times.{hit-self}
use Rattle.edit.proofs.General.{by-test}
use Rattle.tree.specs.Edits.{Change, PageStep, absorbed, copied, copy_then, dropped, gone, is_full, kept, moved, now, one, put, split, stops, then_into, two}
use Rattle.tree.specs.Good.{inside}
use Rattle.tree.specs.State.{State, filled}
use Rattle.tree.proofs.Absorb.{TwoPuts, first-put, two-puts}
use Rattle.tree.proofs.Change.{Ends, Holds, Out, SepsOk, taken-ends, IfMade}
use Rattle.tree.proofs.Puts.{Puts, dropped-is, place-room}
use Rattle.tree.proofs.States.{write-here}

module _ (Pg : PageFormat) (sinking : Sinking Pg) where
  -- a page that stays has sunk
  abbrev pub Sinks : State → ℕ → Change → State → Type 0
  Sinks s q kept t = sinking.Sunken (page_of s.image q) (page_of t.image q)
  Sinks s q gone t = Unit {0}
  Sinks s q (one a) t = Unit {0}
  Sinks s q (two a k b) t = Unit {0}

-- ---- one record put in, and one dropped

module _ (Pg : PageFormat) (rules : Rules Pg) (keep : ℕ → Pg.Keep) (sinking : Sinking Pg) where
  module _ (n : ℕ) (st : State) (long : length st.image ≡ page_size * n) (q : ℕ) (page : 1 ≤ inside n q) (laid : Pg.laid (page_of st.image q) ≡ true) where
    abbrev p : List ℕ
    p = page_of st.image q

    ends-after : (need : ℕ) (s : PageStep) → Ends (Sinks Pg sinking st q) st.free need s → IfMade (Sinks Pg sinking st q) s
    ends-after need (now c t) h = h.0
    ends-after need (stops k) h = tt

    moved-sinks : (kind : ℕ) (full : Bool) (l : List Rec) → IfMade (Sinks Pg sinking st q) (moved Pg kind full l st)
    unfolding moved copied split filled
    moved-sinks kind full l =
        by-test (IfMade (Sinks Pg sinking st q)) (fits_in Pg.cap l) (λ e. ends-after 1 (copied Pg kind l st) (taken-ends (Sinks Pg sinking st q) st 0 _ (λ x f z. (tt, omega arith))))
        (λ e. by-test (IfMade (Sinks Pg sinking st q)) full (λ z. tt)
        (λ z. ends-after 2 (split Pg kind l st) (taken-ends (Sinks Pg sinking st q) st 1 _ (λ x f z. taken-ends (Sinks Pg sinking st q) (record { image = st.image; root = st.root; free = f }) 0 _ (λ y g d. (tt, omega arith))))))

    pub put-sinks : (kind : ℕ) (full ins : Bool) (i : ℕ) (r : Rec) → RecOk r → IfMade (Sinks Pg sinking st q) (put Pg keep kind full ins i r q st)
    unfolding put
    put-sinks kind full ins i r ok =
        by-test (IfMade (Sinks Pg sinking st q)) (is_full Pg (keep q) ins (size r) p) (λ e. moved-sinks kind full _) (λ e.
        let can = place-room Pg (keep q) ins r p laid ok e in
        let g = Pg.place (keep q) ins i r p in
        subst (sinking.Sunken p) (sym (write-here n st.image long q page g (rules.whole g (rules.place-lists (keep q) ins i r p can).laid))) (sinking.place-sunken (keep q) ins i r p can))

    pub dropped-sinks : (only : Bool) (j : ℕ) → j < length (Pg.recs (page_of st.image q)) → IfMade (Sinks Pg sinking st q) (dropped Pg only j q st)
    dropped-sinks only j inn =
        dropped-is Pg (IfMade (Sinks Pg sinking st q)) only j q st tt
        (subst (sinking.Sunken p) (sym (write-here n st.image long q page (Pg.remove p j) (rules.whole (Pg.remove p j) (rules.remove-lists p j laid).laid))) (sinking.remove-sunken p j laid inn))

  -- ---- what a page takes from the page below it

  module _ (n : ℕ) (few : n ≤ 64) (F : List ℕ) (st : State) (long : length st.image ≡ page_size * n) (q kind : ℕ) (small : kind < 256)
      (pre : List Rec) (c : Rec) (post : List Rec) (L : Holds Pg st.image kind q (pre ++ c ∷ post)) (E : Entries (pre ++ c ∷ post))
      (apart : (x : ℕ) → hit x q + count x st.free ≤ inside n x) (sub : (x : ℕ) → count x st.free ≤ count x F) where
    page-in : 1 ≤ inside n q
    page-in = omega (arith, apart q, hit-self q)

    two-sinks : (es : List Rec) (a : Bool) (i : ℕ) (x : Rec) (b : Bool) (j : ℕ) (y : Rec) → TwoPuts (pre ++ c ∷ post) es a i x b j y →
        IfMade (Sinks Pg sinking st q) (then_into (put Pg keep kind false a i x q st) q (λ z t. put Pg keep kind false b j y z t))
    unfolding then_into copy_then
    two-sinks es a i x b j y T =
        go (put Pg keep kind false a i x q st) (put-sinks n st long q page-in L.lists.laid kind false a i x T.ok)
        (first-put Pg rules keep n few F st long q kind small pre c post L E apart sub es a i x b j y T)
      where
        on : (t : State) → sinking.Sunken (page_of st.image q) (page_of t.image q) → (s : PageStep) → IfMade (Sinks Pg sinking t q) s → IfMade (Sinks Pg sinking st q) s
        on t l (stops m) h = tt
        on t l (now kept u) h = sinking.sunken-trans (page_of st.image q) (page_of t.image q) (page_of u.image q) l h
        on t l (now gone u) h = tt
        on t l (now (one v) u) h = tt
        on t l (now (two v m w) u) h = tt

        never : (z : ℕ) (s : PageStep) → IfMade (Sinks Pg sinking st q) (copy_then z s)
        never z (stops m) = tt
        never z (now kept u) = tt
        never z (now gone u) = tt
        never z (now (one v) u) = tt
        never z (now (two v m w) u) = tt

        go : (s : PageStep) → IfMade (Sinks Pg sinking st q) s → Out (Puts Pg keep F st q kind (made a i x (pre ++ c ∷ post))) s → IfMade (Sinks Pg sinking st q) (then_into s q (λ z t. put Pg keep kind false b j y z t))
        go (stops m) h P = tt
        go (now kept t) h P = on t h (put Pg keep kind false b j y q t) (put-sinks n t (P.leads.long ∙ long) q page-in P.held.lists.laid kind false b j y T.ok2)
        go (now gone t) h P = tt
        go (now (one z) t) h P = never z (put Pg keep kind false b j y z t)
        go (now (two v m w) t) h P = tt

    pub absorbed-sinks : (low : ℕ) (ch : Change) → SepsOk low ch → (ch ≡ kept → ⊥) → IfMade (Sinks Pg sinking st q) (absorbed Pg keep kind (length pre) low q ch st)
    unfolding absorbed
    absorbed-sinks low kept o ne = absurd (ne refl)
    absorbed-sinks low gone o ne = dropped-sinks n st long q page-in L.lists.laid false (length pre) (omega (arith, ap length L.lists.recs, length-append pre (c ∷ post)))
    absorbed-sinks low (one a) o ne = put-sinks n st long q page-in L.lists.laid kind false false (length pre) (index_rec low a) (index_ok low a o)
    absorbed-sinks low (two a k b) o ne = two-sinks (pre ++ index_rec low a ∷ index_rec k b ∷ post) _ _ _ _ _ _ (search (two-puts pre c post low a o.0 k b o.1))
