-- An edit that is made leaves a new root, or the same root and a reached page whose header has sunk; and so does a list of one edit or more.
-- Assumes nothing.
use Prim.Native.Nat.{ℕ, suc, ◌≤◌, ◌<◌}
use mathlib.Core.Path.{◌≡◌, refl, sym, ap, ◌∙◌, subst}
use mathlib.Core.Logic.{◌⊎◌, inl, inr}
use mathlib.Core.Bool.{Bool, true, false}
use mathlib.Core.List.{List, [], ◌∷◌}
use native.Mathlib.Omega.{arith}
use lib.ListN.{length}
use borrow.Author.Tests.{eq-eqb}
use Rattle.codec.specs.Lists.{All}
use Rattle.device.specs.Calls.{pages_out}
use Rattle.page.specs.Layout.{Rec, top_key}
use Rattle.page.specs.Operations.{page_of}
use Rattle.page.specs.PageFormat.{PageFormat, Rules, Sinking, format1}
use Rattle.page.proofs.Format1.{format1-rules, format1-sinks}
use Rattle.image.specs.PageZero.{page_count}
use Rattle.image.specs.Image.{child_of, height_in, index_rec, leaves_in, pages_in, sound, count}
use Rattle.image.specs.Table.{table_in}
use Rattle.image.proofs.Alike.{leaves-some}
use Rattle.image.proofs.Times.{hit-self}
use Rattle.edit.specs.EditList.{Edit, key_of}
use Rattle.edit.specs.Keys.{key_rule}
use Rattle.edit.specs.Ledger.{apply_edit}
use Rattle.edit.specs.Reads.{Proper}
use Rattle.tree.specs.Edits.{PageStep, edit_in, edited_in, gone, kept, no_keep, now, one, only_leaf, rooted, stops, two}
use Rattle.tree.specs.Good.{GoodIn}
use Rattle.tree.specs.State.{State, Step, begin, done, filled, refused, take_page, taken, with_root}
use Rattle.tree.specs.Whole.{edits_on, finished, onward, edits_from_in}
use Rattle.tree.proofs.Change.{IfMade}
use Rattle.tree.proofs.Counts.{inside-most}
use Rattle.tree.proofs.Descent.{AllFull, edit-ended}
use Rattle.tree.proofs.Height.{height-range, pages_at, table_at, tallest-kind}
use Rattle.tree.proofs.SunkPages.{SinksUnder, Sunk, edit-sinks, ended-after}
use Rattle.tree.proofs.Node.{Altered}
use Rattle.tree.proofs.Outcomes.{OutcomesIn, RunIn, outcomes-in}
use Rattle.tree.proofs.Root.{Ended, Made, edited-ended, here, names-root, ended-made}
use Rattle.tree.proofs.Runs.{begin-good}
use Rattle.tree.proofs.Spare.{edited-plain}
use Rattle.tree.proofs.States.{Leads, leads-free}

module _ (Pg : PageFormat) (sinking : Sinking Pg) where
  -- the root is a page of F, or the same and a page under it has sunk
  abbrev pub Touch : List ℕ → State → State → Type 0
  Touch F s t = (1 ≤ count t.root F) ⊎ ((t.root ≡ s.root) × Sunk Pg sinking s t (height_in Pg s.image s.root) s.root)

  abbrev pub Touched : List ℕ → State → Step → Type 0
  Touched F s (done t) = Touch F s t
  Touched F s (refused k) = Unit {0}

-- ---- one edit

module _ (Pg : PageFormat) (rules : Rules Pg) (keep : ℕ → Pg.Keep) (sinking : Sinking Pg) where
  module _ (n : ℕ) (F : List ℕ) (st : State) (G : GoodIn Pg n st) (sub : (x : ℕ) → count x st.free ≤ count x F) (e : Edit) where
    abbrev h : ℕ
    h = height_in Pg st.image st.root

    abbrev only : Bool
    only = only_leaf Pg st.image h st.root

    -- a record that names the root
    abbrev c : Rec
    c = index_rec 0 st.root

    is-root : child_of (index_rec 0 st.root) ≡ st.root
    is-root = names-root Pg rules keep n F st G sub

    -- what the root makes of the step under it
    rooted-touches : (rs : List Rec) (W : Type 0) (s : PageStep) → IfMade (SinksUnder Pg sinking st h (child_of c)) s → IfMade (Altered Pg keep n F only st h 0 (suc top_key) c rs W) s →
        Touched Pg sinking F st (rooted Pg h s)
    unfolding rooted only_leaf taken take_page
    rooted-touches rs W (stops m) k M = tt
    rooted-touches rs W (now kept t) k M =
        inr (M.root, record { page = k.page; there = subst (λ (x : ℕ). 1 ≤ count k.page (pages_in Pg st.image h x)) is-root k.there; lower = k.lower })
    rooted-touches rs W (now gone t) k M =
        let some = leaves-some Pg st.image h 0 (suc top_key) st.root G.under in
        let lost : length (leaves_in Pg st.image h st.root) ≤ 1 = omega (arith, M.lost, ap (λ (x : ℕ). length (leaves_in Pg st.image h x)) is-root) in
        absurd (M.stays (eq-eqb (length (leaves_in Pg st.image h st.root)) 1 (omega arith)) refl)
    rooted-touches rs W (now (one a) t) k M = inl (omega (arith, M.fresh, sub a))
    rooted-touches rs W (now (two a m b) t) k M = top t.free refl
      where
        top : (f : List ℕ) → t.free ≡ f → Touched Pg sinking F st (take_page (refused pages_out) f t (λ r u. done (with_root r (filled Pg (suc (suc h)) r (index_rec 0 a ∷ index_rec m b ∷ []) u))))
        top [] z = tt
        top (r ∷ f) z = inl (omega (arith, sub r, leads-free Pg keep F st t M.leads r, ap (count r) z, hit-self r))

    pub edited-touches : Proper e → Touched Pg sinking F st (edited_in Pg keep e st)
    edited-touches P =
        let H = here Pg rules keep n F st G sub in
        let small : suc h < 256 = omega (arith, (height-range Pg st.image st.root).1, tallest-kind) in
        let t = table_in Pg st.image h (child_of c) in
        let W = AllFull Pg (key_of e) st.image h (child_of c) in
        let step = edit_in Pg keep only false e h 0 (child_of c) st in
        let made : Touched Pg sinking F st (rooted Pg h step) =
        rooted-touches (apply_edit e t) W step (edit-sinks Pg rules keep sinking h small n F only st 0 (suc top_key) c H e P (omega arith) (omega (arith, P.high)))
        (ended-after (key_rule e t) (Altered Pg keep n F only st h 0 (suc top_key) c (apply_edit e t) W) step
        (edit-ended Pg rules keep n F only st h small 0 (suc top_key) c H e P (omega arith) (omega (arith, P.high)))) in
        rw (edited-plain Pg rules keep n st G e) (subst (λ (x : ℕ). Touched Pg sinking F st (rooted Pg h (edit_in Pg keep only false e h 0 x st))) is-root made)

  -- ---- and what follows it

  -- what is touched stays so, where F has no page that s reaches
  pub touch-leads : (F : List ℕ) (s t u : State) → ((x : ℕ) → 1 ≤ count x (pages_at Pg s) → count x F ≡ 0) → Touch Pg sinking F s t → Leads Pg keep F t u → Touch Pg sinking F s u
  touch-leads F s t u apart T L = go T L.root
    where
      lower : (k : Sunk Pg sinking s t (height_in Pg s.image s.root) s.root) → sinking.Sunken (page_of s.image k.page) (page_of u.image k.page)
      lower k = down (sinking.old-sunken (keep k.page) (page_of t.image k.page) (page_of u.image k.page) (L.old k.page (apart k.page k.there)))
        where
          down : (page_of u.image k.page ≡ page_of t.image k.page) ⊎ sinking.Sunken (page_of t.image k.page) (page_of u.image k.page) →
              sinking.Sunken (page_of s.image k.page) (page_of u.image k.page)
          down (inl e) = subst (sinking.Sunken (page_of s.image k.page)) (sym e) k.lower
          down (inr e) = sinking.sunken-trans (page_of s.image k.page) (page_of t.image k.page) (page_of u.image k.page) k.lower e

      go : Touch Pg sinking F s t → (1 ≤ count u.root F) ⊎ (u.root ≡ t.root) → Touch Pg sinking F s u
      go x (inl b) = inl b
      go (inl x) (inr b) = inl (subst (λ (r : ℕ). 1 ≤ count r F) (sym b) x)
      go (inr x) (inr b) = inr (b ∙ x.0, record { page = x.1.page; there = x.1.there; lower = lower x.1 })

-- ---- a list of edits

module _ (Pg : PageFormat) (rules : Rules Pg) (keep : ℕ → Pg.Keep) (sinking : Sinking Pg) (n : ℕ) (F : List ℕ) (clear : (x : ℕ) → 1 ≤ count x F → keep x ≡ Pg.none) where
  -- one edit or more, from a state that reaches no page of F
  pub list-touches : (i : ℕ) (e : Edit) (es : List Edit) (s t : State) → GoodIn Pg n s → ((x : ℕ) → count x s.free ≤ count x F) → ((x : ℕ) → 1 ≤ count x (pages_at Pg s) → count x F ≡ 0) → All Proper (e ∷ es) →
      edits_from_in Pg keep i (e ∷ es) s ≡ finished t → Touch Pg sinking F s t
  unfolding edits_from_in onward
  list-touches i e es s t G sub apart P q = go (edited_in Pg keep e s) (edited-ended Pg rules keep n F s G sub e P.0) (edited-touches Pg rules keep sinking n F s G sub e P.0) q
    where
      g : ℕ
      g = key_rule e (table_at Pg s)

      go : (x : Step) → Ended g (Made Pg keep n F e s) x → Touched Pg sinking F s x → onward x i (λ u. edits_from_in Pg keep (suc i) es u) ≡ finished t → Touch Pg sinking F s t
      go (refused k) m T q = let z : ◌≡◌ {A = ℕ} 0 1 = cc in absurd (omega arith)
      go (done u) m T q =
          let M = ended-made (Made Pg keep n F e s) g u m in
          let R : RunIn Pg keep n F es u t =
          subst (OutcomesIn Pg keep n F (suc i) es u) q (outcomes-in Pg rules keep n F clear (suc i) es u M.good (λ x. omega (arith, sub x, leads-free Pg keep F s u M.leads x)) P.1) in
          touch-leads Pg rules keep sinking F s u t apart T R.leads

-- document 01's pages: an accepted list of one edit or more
pub edits-touch : (a : List ℕ) → sound a ≡ true → (e : Edit) (es : List Edit) → All Proper (e ∷ es) → (st : State) → edits_on a (e ∷ es) ≡ finished st → Touch format1 format1-sinks (begin a).free (begin a) st
unfolding edits_on
edits-touch a h e es P st q =
    let n = page_count a in
    let G = begin-good a h in
    list-touches format1 format1-rules no_keep format1-sinks n (begin a).free (λ x k. refl) 0 e es (begin a) st G (λ x. omega arith) (λ x k. omega (arith, G.apart x, inside-most n x)) P
    q
