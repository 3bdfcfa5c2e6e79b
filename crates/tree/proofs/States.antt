-- Writes to the pages of a state, and what every run of them keeps: the length, page 0, what must be kept of pages that were not free, and that pages are taken from the front of the free ones.
-- Assumes nothing.
use Prim.Native.Nat.{ℕ, ◌+◌, ◌*◌, ◌≤◌, ◌<◌}
use mathlib.Core.Path.{◌≡◌, refl, sym, ap, ◌∙◌, subst}
use mathlib.Core.Logic.{◌⊎◌, inl, inr}
use mathlib.Core.Bool.{Bool, true, false}
use mathlib.Core.List.{List, [], ◌∷◌, ◌++◌, map, append_assoc}
use native.Mathlib.Omega.{arith}
use lib.ListN.{length}
use lib.Dec.{eqb}
use borrow.Author.Tests.{eqb-false, eqb-true}
use Rattle.codec.specs.Lists.{All}
use Rattle.page.specs.Layout.{Rec, line_size, page_size, size}
use Rattle.page.specs.Operations.{page_of, put_page, sizes}
use Rattle.page.specs.Page.{RecOk}
use Rattle.page.specs.PageFormat.{CanHold, Lists, PageFormat, Rules}
use Rattle.page.proofs.Images.{length-page_of, put-length, put_other, put_same}
use Rattle.image.specs.Image.{count}
use Rattle.image.proofs.Times.{count-append}
use Rattle.tree.specs.Good.{inside}
use Rattle.tree.specs.State.{State, filled, with_page, with_root}
use Rattle.tree.proofs.Counts.{inside-range}

-- ---- one page written over

module _ (n : ℕ) (img : List ℕ) (long : length img ≡ page_size * n) (y : ℕ) (page : 1 ≤ inside n y) where
  fits : page_size * y + page_size ≤ length img
  fits = omega (arith, inside-range n y page)

  pub page-length : length (page_of img y) ≡ page_size
  page-length = length-page_of img y fits

  module _ (g : List ℕ) (whole : length g ≡ page_size) where
    pub write-length : length (put_page img y g) ≡ length img
    write-length = put-length img g y whole fits

    pub write-here : page_of (put_page img y g) y ≡ g
    write-here = put_same img g y whole fits

    pub write-other : (x : ℕ) → (x ≡ y → ⊥) → page_of (put_page img y g) x ≡ page_of img x
    write-other x ne = put_other img g y whole fits x (λ e. ne (sym e))

-- ---- what a run of writes keeps

module _ (Pg : PageFormat) (keep : ℕ → Pg.Keep) where
  -- where new pages are some of F
  pub record Leads (F : List ℕ) (s t : State) : Type 0 where
    pub long : length t.image ≡ length s.image
    pub zero : page_of t.image 0 ≡ page_of s.image 0
    pub old : (x : ℕ) → count x F ≡ 0 → Pg.Old (keep x) (page_of s.image x) (page_of t.image x)
    pub root : (1 ≤ count t.root F) ⊎ (t.root ≡ s.root)
    pub took : List ℕ
    pub order : s.free ≡ took ++ t.free
    -- the pages that are still free are as they were
    pub spare : (x : ℕ) → 1 ≤ count x t.free → page_of t.image x ≡ page_of s.image x

  -- t is s with page q filled
  pub record Filled (F : List ℕ) (s t : State) (kind q : ℕ) (rs : List Rec) : Type 0 where
    pub lists : Lists Pg (page_of t.image q) kind q rs
    pub room : Pg.room Pg.none (page_of t.image q) ≡ Pg.fresh (map size rs)
    pub other : (x : ℕ) → (x ≡ q → ⊥) → page_of t.image x ≡ page_of s.image x
    pub long : length t.image ≡ length s.image
    pub leads : count q s.free ≡ 0 → Leads F s t

  -- pages are only taken
  pub leads-free : (F : List ℕ) (s t : State) → Leads F s t → (x : ℕ) → count x t.free ≤ count x s.free
  leads-free F s t h x = omega (arith, ap (count x) h.order, count-append x h.took t.free)

module _ (Pg : PageFormat) (rules : Rules Pg) (keep : ℕ → Pg.Keep) where
  module _ (F : List ℕ) where
    pub leads-refl : (s : State) → Leads Pg keep F s s
    leads-refl s = record { long = refl; zero = refl; old = λ x h. rules.old-refl (keep x) (page_of s.image x); root = inr refl; took = []; order = refl; spare = λ x h. refl }

    pub leads-trans : (s t u : State) → Leads Pg keep F s t → Leads Pg keep F t u → Leads Pg keep F s u
    leads-trans s t u h k =
        record {
          long = k.long ∙ h.long;
          zero = k.zero ∙ h.zero;
          old = λ x c. rules.old-trans (keep x) (page_of s.image x) (page_of t.image x) (page_of u.image x) (h.old x c) (k.old x c);
          root = roots h.root k.root;
          took = h.took ++ k.took;
          order = h.order ∙ ap (λ (l : List ℕ). h.took ++ l) k.order ∙ sym (append_assoc h.took k.took u.free);
          spare = λ x c. k.spare x c ∙ h.spare x (omega (arith, ap (count x) k.order, count-append x k.took u.free));
        }
      where
        roots : (1 ≤ count t.root F) ⊎ (t.root ≡ s.root) → (1 ≤ count u.root F) ⊎ (u.root ≡ t.root) → (1 ≤ count u.root F) ⊎ (u.root ≡ s.root)
        roots a (inl c) = inl c
        roots (inl a) (inr c) = inl (subst (λ (x : ℕ). 1 ≤ count x F) (sym c) a)
        roots (inr a) (inr c) = inr (c ∙ a)

    pub leads-take : (s : State) (p : ℕ) (f : List ℕ) → s.free ≡ p ∷ f → Leads Pg keep F s (record { image = s.image; root = s.root; free = f })
    leads-take s p f e =
        record { long = refl; zero = refl; old = λ x h. rules.old-refl (keep x) (page_of s.image x); root = inr refl; took = p ∷ []; order = e; spare = λ x h. refl }

    pub leads-root : (s : State) (p : ℕ) → 1 ≤ count p F → Leads Pg keep F s (with_root p s)
    leads-root s p h = record { long = refl; zero = refl; old = λ x h. rules.old-refl (keep x) (page_of s.image x); root = inl h; took = []; order = refl; spare = λ x h. refl }

    -- a page written over: one of F, or one that is edited in place
    pub leads-write : (n : ℕ) (s : State) → length s.image ≡ page_size * n → (y : ℕ) → 1 ≤ inside n y → (g : List ℕ) → length g ≡ page_size →
        (count y F ≡ 0 → Pg.Old (keep y) (page_of s.image y) g) → count y s.free ≡ 0 → Leads Pg keep F s (with_page y g s)
    leads-write n s long y page g whole old used =
        record {
          long = write-length n s.image long y page g whole;
          zero = write-other n s.image long y page g whole 0 (λ e. omega (arith, inside-range n y page));
          old = λ x h. go x h (eqb x y) refl;
          root = inr refl;
          took = [];
          order = refl;
          spare = λ x h. write-other n s.image long y page g whole x (λ e. omega (arith, used, ap (λ (k : ℕ). count k s.free) e));
        }
      where
        go : (x : ℕ) → count x F ≡ 0 → (b : Bool) → eqb x y ≡ b → Pg.Old (keep x) (page_of s.image x) (page_of (put_page s.image y g) x)
        go x h true e =
            let z : x ≡ y = eqb-true x y e in
            let k : Pg.Old (keep y) (page_of s.image y) (page_of (put_page s.image y g) y) =
            subst (λ (b : List ℕ). Pg.Old (keep y) (page_of s.image y) b) (sym (write-here n s.image long y page g whole)) (old (ap (λ (k : ℕ). count k F) (sym z) ∙ h)) in
            subst (λ (k : ℕ). Pg.Old (keep k) (page_of s.image k) (page_of (put_page s.image y g) k)) (sym z) k
        go x h false e =
            subst (λ (b : List ℕ). Pg.Old (keep x) (page_of s.image x) b) (sym (write-other n s.image long y page g whole x (eqb-false x y e))) (rules.old-refl (keep x) (page_of s.image x))

  -- ---- a page of F filled anew

  pub filled-facts : (n : ℕ) → n ≤ 64 → (F : List ℕ) (st : State) → length st.image ≡ page_size * n → (q : ℕ) → 1 ≤ inside n q → 1 ≤ count q F → (kind : ℕ) → kind < 256 → (rs : List Rec) →
      All RecOk rs → line_size + sizes rs ≤ page_size → length rs ≤ Pg.cap → Filled Pg keep F st (filled Pg kind q rs st) kind q rs
  unfolding filled
  filled-facts n few F st long q page new kind small rs good room slots =
      let p = page_of st.image q in
      let g = Pg.fill p kind q rs in
      let can : CanHold Pg p kind q rs =
      record { whole = page-length n st.image long q page; kind_fits = small; own_fits = omega (arith, inside-range n q page); good = good; room = room; few = slots } in
      let shown = rules.fill-lists p kind q rs can in
      let whole = rules.whole g shown.laid in
      let at = write-here n st.image long q page g whole in
      record {
        lists = subst (λ (b : List ℕ). Lists Pg b kind q rs) (sym at) shown;
        room = ap (Pg.room Pg.none) at ∙ rules.fill-room p kind q rs can;
        other = write-other n st.image long q page g whole;
        long = write-length n st.image long q page g whole;
        leads = leads-write F n st long q page g whole (λ h. absurd (omega arith));
      }
