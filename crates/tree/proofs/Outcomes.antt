-- A list of edits on pages of any format: accepted, the tree stays sound and its table is the ledger's; refused, the edits before are made and the number is the ground of the one that
-- is not. A sound tree with the pages that it does not reach is a state to begin with, and what a state reaches is a sound tree.
-- Assumes nothing.
use Prim.Native.Nat.{ℕ, suc, ◌+◌, ◌-◌, ◌*◌, ◌≤◌}
use mathlib.Core.Path.{◌≡◌, refl, sym, ap, ◌∙◌}
use mathlib.Core.List.{List, [], ◌∷◌, ◌++◌}
use native.Mathlib.Omega.{arith}
use lib.ListN.{length}
use Rattle.codec.specs.Lists.{All}
use Rattle.page.specs.Layout.{page_size}
use Rattle.page.specs.PageFormat.{PageFormat, Rules}
use Rattle.image.specs.Facts.{TreeIn}
use Rattle.image.specs.Image.{height_in, pages_in, count}
use Rattle.image.specs.PageZero.{page_count}
use Rattle.image.proofs.Times.{count-distinct}
use Rattle.edit.specs.EditList.{Edit}
use Rattle.edit.specs.Keys.{key_rule}
use Rattle.edit.specs.Ledger.{apply_edits}
use Rattle.edit.specs.Reads.{Proper}
use Rattle.tree.specs.Edits.{edited_in}
use Rattle.tree.specs.Good.{GoodIn}
use Rattle.tree.specs.Grounds.{ground_in}
use Rattle.tree.specs.State.{State, Step, done, others, refused}
use Rattle.tree.specs.Whole.{Outcome, finished, onward, stopped, edits_from_in}
use Rattle.tree.proofs.Counts.{count-inside, inside-most, inside-pages}
use Rattle.tree.proofs.Exact.{code, edit-exact-in}
use Rattle.tree.proofs.Free.{others_apart}
use Rattle.tree.proofs.Height.{pages_at, table_at}
use Rattle.tree.proofs.Root.{Ended, Made, edited-ended, ended-made}
use Rattle.tree.proofs.States.{Leads, leads-free, leads-refl, leads-trans}

-- ---- the beginning and the end

module _ (Pg : PageFormat) where
  -- a tree, with the pages that it does not reach
  pub tree-good : (a : List ℕ) (root : ℕ) → length a ≡ page_size * page_count a → 1 ≤ page_count a → page_count a ≤ 64 → TreeIn Pg a (height_in Pg a root) root →
      GoodIn Pg (page_count a) (record { image = a; root = root; free = others (page_count a - 1) (pages_in Pg a (height_in Pg a root) root) })
  tree-good a root long least most T =
      let ps = pages_in Pg a (height_in Pg a root) root in
      record {
        few = most;
        size = long;
        under = T.under;
        full = T.filled;
        apart = others_apart (page_count a) (page_count a - 1) ps (omega arith) (count-inside (page_count a) ps T.inside T.apart);
      }

  pub good-tree : (n : ℕ) (st : State) → GoodIn Pg n st → TreeIn Pg st.image (height_in Pg st.image st.root) st.root
  good-tree n st G =
      let pages : page_count st.image ≡ n = omega (arith, G.size) in
      record {
        under = G.under;
        filled = G.full;
        inside = rw pages (inside-pages n (pages_at Pg st) (λ x. omega (arith, G.apart x)));
        apart = count-distinct (pages_at Pg st) (λ x. omega (arith, G.apart x, inside-most n x));
      }

-- ---- a list of edits

module _ (Pg : PageFormat) (keep : ℕ → Pg.Keep) where
  -- the edits es lead from s to t
  pub record RunIn (n : ℕ) (F : List ℕ) (es : List Edit) (s t : State) : Type 0 where
    pub good : GoodIn Pg n t
    pub pages : (x : ℕ) → count x (pages_at Pg t) + count x t.free ≤ count x (pages_at Pg s) + count x s.free
    pub makes : table_at Pg t ≡ apply_edits es (table_at Pg s)
    pub leads : Leads Pg keep F s t

  -- they are refused with k at edit j, where the first is edit i
  pub record StopIn (n : ℕ) (F : List ℕ) (i : ℕ) (es : List Edit) (s : State) (k j : ℕ) : Type 0 where
    pub before : List Edit
    pub culprit : Edit
    pub rest : List Edit
    pub shape : es ≡ before ++ culprit ∷ rest
    pub number : j ≡ i + length before
    pub state : State
    pub reached : edits_from_in Pg keep i before s ≡ finished state
    pub run : RunIn n F before s state
    pub because : k ≡ ground_in Pg keep state culprit

  abbrev pub OutcomesIn : ℕ → List ℕ → ℕ → List Edit → State → Outcome → Type 0
  OutcomesIn n F i es s (finished t) = RunIn n F es s t
  OutcomesIn n F i es s (stopped k j) = StopIn n F i es s k j

module _ (Pg : PageFormat) (rules : Rules Pg) (keep : ℕ → Pg.Keep) (n : ℕ) (F : List ℕ) (clear : (x : ℕ) → 1 ≤ count x F → keep x ≡ Pg.none) where
  run_none : (s : State) → GoodIn Pg n s → RunIn Pg keep n F [] s s
  unfolding apply_edits
  run_none s G = record { good = G; pages = λ x. omega arith; makes = refl; leads = leads-refl Pg rules keep F s }

  -- an edit made, and then a list of edits
  run_on : (e : Edit) (es : List Edit) (s t u : State) → Made Pg keep n F e s t → RunIn Pg keep n F es t u → RunIn Pg keep n F (e ∷ es) s u
  unfolding apply_edits
  run_on e es s t u M R =
      record {
        good = R.good;
        pages = λ x. omega (arith, M.pages x, R.pages x);
        makes = R.makes ∙ ap (apply_edits es) M.makes;
        leads = leads-trans Pg rules keep F s t u M.leads R.leads;
      }

  pub outcomes-in : (i : ℕ) (es : List Edit) (s : State) → GoodIn Pg n s → ((x : ℕ) → count x s.free ≤ count x F) → All Proper es → OutcomesIn Pg keep n F i es s (edits_from_in Pg keep i es s)
  unfolding edits_from_in onward
  outcomes-in i [] s G sub P = run_none s G
  outcomes-in i (e ∷ es) s G sub P = go (edited_in Pg keep e s) refl (edited-ended Pg rules keep n F s G sub e P.0) (λ t H k. outcomes-in (suc i) es t H k P.1)
    where
      on : (t : State) → edited_in Pg keep e s ≡ done t → Made Pg keep n F e s t → (o : Outcome) → OutcomesIn Pg keep n F (suc i) es t o → OutcomesIn Pg keep n F i (e ∷ es) s o
      on t q M (finished u) R = run_on e es s t u M R
      on t q M (stopped k j) R =
          record {
            before = e ∷ R.before;
            culprit = R.culprit;
            rest = R.rest;
            shape = ap (λ (l : List Edit). e ∷ l) R.shape;
            number = omega (arith, R.number);
            state = R.state;
            reached = rw q R.reached;
            run = run_on e R.before s t R.state M R.run;
            because = R.because;
          }

      g : ℕ
      g = key_rule e (table_at Pg s)

      go : (x : Step) → edited_in Pg keep e s ≡ x → Ended g (Made Pg keep n F e s) x →
          ((t : State) → GoodIn Pg n t → ((x : ℕ) → count x t.free ≤ count x F) → OutcomesIn Pg keep n F (suc i) es t (edits_from_in Pg keep (suc i) es t)) →
          OutcomesIn Pg keep n F i (e ∷ es) s (onward x i (λ t. edits_from_in Pg keep (suc i) es t))
      go (refused k) q h f =
          record {
            before = [];
            culprit = e;
            rest = es;
            shape = refl;
            number = omega arith;
            state = s;
            reached = refl;
            run = run_none s G;
            because = sym (ap code q) ∙ edit-exact-in Pg rules keep n s G (λ x k. clear x (omega (arith, sub x))) e P.0;
          }
      go (done t) q h f =
          let M = ended-made (Made Pg keep n F e s) g t h in
          on t q M (edits_from_in Pg keep (suc i) es t) (f t M.good (λ x. omega (arith, sub x, leads-free Pg keep F s t M.leads x)))
