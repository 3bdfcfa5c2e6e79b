-- How many pages one record put into a page takes, and how many records the page above then takes: one number.
-- Assumes nothing.
use Prim.Native.Nat.{ℕ, ◌+◌, ◌<◌}
use mathlib.Core.Path.{◌≡◌, refl}
use mathlib.Core.Bool.{Bool, false}
use mathlib.Core.List.{List}
use native.Mathlib.Omega.{arith}
use lib.ListN.{length}
use Rattle.codec.specs.Lists.{pick}
use Rattle.page.specs.Layout.{Rec, size}
use Rattle.page.specs.Operations.{fits_in, made, page_of}
use Rattle.page.specs.PageFormat.{PageFormat}
use Rattle.edit.proofs.General.{by-test, by_tests}
use Rattle.tree.specs.Edits.{Change, PageStep, copied, gone, is_full, kept, moved, now, one, put, split, stops, two}
use Rattle.tree.specs.Grounds.{takes}
use Rattle.tree.specs.State.{State, filled}
use Rattle.tree.proofs.Change.{Ends, taken-ends, raised}

-- `need` pages are taken and the page above takes w records; or fewer are free
abbrev pub Counted : ℕ → ℕ → List ℕ → PageStep → Type 0
Counted need w f (now c t) = (raised c ≡ w) × (length f ≡ need + length t.free)
Counted need w f (stops k) = length f < need

-- a put never loses its page
abbrev pub NotGone : PageStep → Type 0
NotGone (now kept t) = Unit {0}
NotGone (now gone t) = ⊥
NotGone (now (one a) t) = Unit {0}
NotGone (now (two a k b) t) = Unit {0}
NotGone (stops k) = Unit {0}

module _ (Pg : PageFormat) (keep : ℕ → Pg.Keep) where
  -- ---- one record put

  ends-counted : (need w : ℕ) (f : List ℕ) (s : PageStep) → Ends (λ c t. raised c ≡ w) f need s → Counted need w f s
  ends-counted need w f (now c t) h = h
  ends-counted need w f (stops k) h = h.1

  copied_counted : (kind : ℕ) (rs : List Rec) (st : State) → Counted 1 1 st.free (copied Pg kind rs st)
  unfolding copied filled
  copied_counted kind rs st = ends-counted 1 1 st.free (copied Pg kind rs st) (taken-ends (λ c t. raised c ≡ 1) st 0 _ (λ p f e. (refl, omega arith)))

  split-counted : (kind : ℕ) (rs : List Rec) (st : State) → Counted 2 2 st.free (split Pg kind rs st)
  unfolding split filled
  split-counted kind rs st =
      ends-counted 2 2 st.free (split Pg kind rs st)
      (taken-ends (λ c t. raised c ≡ 2) st 1 _ (λ p f e. taken-ends (λ c t. raised c ≡ 2) (record { image = st.image; root = st.root; free = f }) 0 _ (λ q g d. (refl, omega arith))))

  -- the records that are moved
  moved-counted : (kind : ℕ) (st : State) (rs l : List Rec) → l ≡ rs → Counted (pick (fits_in Pg.cap rs) 1 2) (pick (fits_in Pg.cap rs) 1 2) st.free (moved Pg kind false l st)
  unfolding moved
  moved-counted kind st rs l is =
      rw is (by_tests (λ n s. Counted n n st.free s) (fits_in Pg.cap rs) (λ e. copied_counted kind rs st) (λ e. split-counted kind rs st))

  pub put-counted : (kind : ℕ) (ins : Bool) (i : ℕ) (r : Rec) (q : ℕ) (st : State) (rs : List Rec) → made ins i r (Pg.recs (page_of st.image q)) ≡ rs →
      Counted (takes Pg (keep q) ins (size r) (page_of st.image q) rs) (takes Pg (keep q) ins (size r) (page_of st.image q) rs) st.free (put Pg keep kind false ins i r q st)
  unfolding put takes
  put-counted kind ins i r q st rs e =
      by_tests (λ n s. Counted n n st.free s) (is_full Pg (keep q) ins (size r) (page_of st.image q)) (λ z. moved-counted kind st rs _ (search e)) (λ z. (refl, omega arith))

  ends-stays : (need : ℕ) (f : List ℕ) (s : PageStep) → Ends (λ c t. NotGone (now c t)) f need s → NotGone s
  ends-stays need f (now c t) h = h.0
  ends-stays need f (stops k) h = tt

  moved-stays : (kind : ℕ) (l : List Rec) (st : State) → NotGone (moved Pg kind false l st)
  unfolding moved copied split filled
  moved-stays kind l st =
      by-test NotGone (fits_in Pg.cap l) (λ e. ends-stays 1 st.free (copied Pg kind l st) (taken-ends P st 0 _ (λ p f z. (tt, omega arith))))
      (λ e. ends-stays 2 st.free (split Pg kind l st) (taken-ends P st 1 _ (λ p f z. taken-ends P (record { image = st.image; root = st.root; free = f }) 0 _ (λ q g d. (tt, omega arith)))))
    where
      P : Change → State → Type 0
      P c t = NotGone (now c t)

  pub put-stays : (kind : ℕ) (ins : Bool) (i : ℕ) (r : Rec) (q : ℕ) (st : State) → NotGone (put Pg keep kind false ins i r q st)
  unfolding put
  put-stays kind ins i r q st = by-test NotGone (is_full Pg (keep q) ins (size r) (page_of st.image q)) (λ e. moved-stays kind _ st) (λ e. tt)
