-- A list of edits: accepted, the tree stays sound and its table is the ledger's; refused, the edits before are made and the number is the
-- ground of the one that is not. A transaction begins in a sound state.
-- Assumes nothing.
use Prim.Native.Nat.{ℕ, suc, ◌+◌, ◌-◌, ◌≤◌, ◌<◌}
use mathlib.Core.Path.{◌≡◌, refl, sym, ap, ◌∙◌, subst}
use mathlib.Core.Bool.{true, false}
use mathlib.Core.List.{List, [], ◌∷◌, ◌++◌, append_assoc}
use native.Mathlib.Omega.{arith}
use lib.ListN.{length}
use lib.Pow.{high}
use Rattle.codec.specs.Lists.{All}
use Rattle.page.specs.PageFormat.{format1}
use Rattle.page.proofs.Format1.{format1-rules}
use Rattle.image.specs.Image.{among, reached, sound, count}
use Rattle.image.specs.PageZero.{page_count, root_of}
use Rattle.image.specs.Table.{table}
use Rattle.image.proofs.General.{All-left}
use Rattle.image.proofs.Soundness.{sound-facts, sound-tree_in}
use Rattle.image.proofs.Zero.{size-true}
use Rattle.image.proofs.Times.{count-append}
use Rattle.edit.specs.EditList.{Edit}
use Rattle.edit.specs.Ledger.{apply_edits}
use Rattle.edit.specs.Reads.{Proper}
use Rattle.edit.proofs.General.{all_right}
use Rattle.tree.specs.Edits.{edited, no_keep}
use Rattle.tree.specs.Good.{Good}
use Rattle.tree.specs.Grounds.{Grounds, edit_ground, table_of}
use Rattle.tree.specs.NewPages.{NewPages}
use Rattle.tree.specs.State.{State, Step, begin, done, refused}
use Rattle.tree.specs.Whole.{Outcome, edits_from, edits_on, finished, onward, stopped, edits_from_in}
use Rattle.tree.proofs.Exact.{code, edit-exact-in, ground-spare}
use Rattle.tree.proofs.Free.{others-next, others-once}
use Rattle.tree.proofs.Outcomes.{OutcomesIn, RunIn, StopIn, outcomes-in, tree-good}

-- ---- one edit

pub edit-exact : (n : ℕ) (st : State) → Good n st → (e : Edit) → Proper e → code (edited e st) ≡ edit_ground st e
edit-exact n st G e P = edit-exact-in format1 format1-rules no_keep n st G (λ x h. refl) e P

-- "10 now means a 29th record in the top page, and is shown never to occur, with at most 63 pages past page 0."
pub ten-never : (n : ℕ) (st : State) → Good n st → (e : Edit) → edit_ground st e ≡ 10 → ⊥
ten-never n st G e = ground-spare format1 format1-rules no_keep n st G e

-- ---- a list of edits

-- the edits es lead from s to t
abbrev pub Run : ℕ → List ℕ → List Edit → State → State → Type 0
Run n F es s t = RunIn format1 no_keep n F es s t

abbrev Outcomes : ℕ → List ℕ → ℕ → List Edit → State → Outcome → Type 0
Outcomes n F i es s o = OutcomesIn format1 no_keep n F i es s o

-- ---- the beginning and the end

pub begin-good : (a : List ℕ) → sound a ≡ true → Good (page_count a) (begin a)
unfolding begin reached
begin-good a h =
    let size = size-true (length a) (sound-facts a h).size in
    tree-good format1 a (root_of a) (omega (arith, size.whole)) (omega (arith, size.low)) (omega (arith, size.high)) (sound-tree_in a h)

-- every page past page 0 that is not reached is free
pub begin-free : (a : List ℕ) (x : ℕ) → 1 ≤ x → x < page_count a → among x (reached a (root_of a)) ≡ false → count x (begin a).free ≡ 1
unfolding begin
begin-free a x low high h = others-once _ (reached a (root_of a)) x low (omega arith) h

pub begin-table : (a : List ℕ) → table_of (begin a) ≡ table a
unfolding begin table
begin-table a = refl

module _ (a : List ℕ) (h : sound a ≡ true) (es : List Edit) (P : All Proper es) where
  all-edits : Outcomes (page_count a) (begin a).free 0 es (begin a) (edits_on a es)
  unfolding edits_on
  all-edits = outcomes-in format1 format1-rules no_keep (page_count a) (begin a).free (λ x k. refl) 0 es (begin a) (begin-good a h) (λ x. omega arith) P

  pub edits-run : (st : State) → edits_on a es ≡ finished st → Run (page_count a) (begin a).free es (begin a) st
  edits-run st q = subst (Outcomes (page_count a) (begin a).free 0 es (begin a)) q all-edits

  -- refused: the edits before it are made, and the number is its ground
  pub edits-refused : (k i : ℕ) → edits_on a es ≡ stopped k i → Grounds a es k i
  edits-refused k i q =
      let S : StopIn format1 no_keep (page_count a) (begin a).free 0 es (begin a) k i = subst (Outcomes (page_count a) (begin a).free 0 es (begin a)) q all-edits in
      record {
        before = S.before;
        culprit = S.culprit;
        rest = S.rest;
        shape = S.shape;
        number = S.number ∙ omega arith;
        state = S.state;
        reached = S.reached;
        holding = S.run.makes ∙ ap (apply_edits S.before) (begin-table a);
        taken = S.run.leads.took;
        free = S.run.leads.order;
        because = S.because;
      }

  -- "10 .. is shown never to occur"
  pub edits-never-ten : (i : ℕ) → edits_on a es ≡ stopped 10 i → ⊥
  edits-never-ten i q =
      let S : StopIn format1 no_keep (page_count a) (begin a).free 0 es (begin a) 10 i = subst (Outcomes (page_count a) (begin a).free 0 es (begin a)) q all-edits in
      ten-never (page_count a) S.state S.run.good S.culprit (sym S.because)

-- and conversely: an edit with a ground, after edits that are made, stops the list
edits-append : (i : ℕ) (es fs : List Edit) (s t : State) → edits_from i es s ≡ finished t → edits_from i (es ++ fs) s ≡ edits_from (i + length es) fs t
unfolding edits_from_in onward
edits-append i [] fs s t q =
    let z : s ≡ t = cc in
    let e : i ≡ i + 0 = omega arith in
    ap (edits_from i fs) z ∙ ap (λ (k : ℕ). edits_from k fs t) e
edits-append i (e ∷ es) fs s t q = go (edited e s) q (λ u. edits-append (suc i) es fs u t)
  where
    go : (x : Step) → onward x i (λ u. edits_from (suc i) es u) ≡ finished t → ((u : State) → edits_from (suc i) es u ≡ finished t → edits_from (suc i) (es ++ fs) u ≡ edits_from (suc i + length es) fs t) →
        onward x i (λ u. edits_from (suc i) (es ++ fs) u) ≡ edits_from (i + length (e ∷ es)) fs t
    go (refused k) q f = let z : ◌≡◌ {A = ℕ} 0 1 = cc in absurd (omega arith)
    go (done u) q f = let e : suc i + length es ≡ i + suc (length es) = omega arith in f u q ∙ ap (λ (k : ℕ). edits_from k fs t) e

coded : (x : Step) (k : ℕ) → code x ≡ k → (k ≡ 0 → ⊥) → x ≡ refused k
coded (done t) k e h = absurd (h (sym e))
coded (refused j) k e h = ap refused e

pub grounds-refuse : (a : List ℕ) → sound a ≡ true → (es : List Edit) → All Proper es → (k i : ℕ) → Grounds a es k i → (k ≡ 0 → ⊥) → edits_on a es ≡ stopped k i
unfolding edits_on edits_from_in onward
grounds-refuse a h es P k i G some =
    let before = G.before in
    let proper : All Proper (before ++ G.culprit ∷ G.rest) = subst (All Proper) G.shape P in
    let R = edits-run a h before (All-left Proper before (G.culprit ∷ G.rest) proper) G.state G.reached in
    let one = edit-exact (page_count a) G.state R.good G.culprit (all_right Proper before (G.culprit ∷ G.rest) proper).0 in
    let refuses : edited G.culprit G.state ≡ refused k = coded (edited G.culprit G.state) k (one ∙ sym G.because) some in
    let number : 0 + length before ≡ i = omega (arith, G.number) in
    ap (λ (l : List Edit). edits_from 0 l (begin a)) G.shape
    ∙ edits-append 0 before (G.culprit ∷ G.rest) (begin a) G.state G.reached
    ∙ rw (refuses, number)

-- ---- new pages

pub new-pages : (a : List ℕ) → sound a ≡ true → (es : List Edit) → All Proper es → (st : State) → edits_on a es ≡ finished st → NewPages a st
unfolding begin reached
new-pages a h es P st q =
    let R = edits-run a h es P st q in
    let L = R.leads in
    let split : (x : ℕ) → count x (begin a).free ≡ count x L.took + count x st.free = λ x. ap (count x) L.order ∙ count-append x L.took st.free in
    record {
      taken = L.took;
      order = L.order;
      once = λ x. omega (arith, (begin-good a h).apart x, split x);
      highest = λ ts p us e.
          others-next (page_count a - 1) (reached a (root_of a)) ts p (us ++ st.free)
          (L.order ∙ ap (λ (l : List ℕ). l ++ st.free) e ∙ append_assoc ts (p ∷ us) st.free);
      only = λ x. omega (arith, R.pages x, split x);
    }
