-- The key rules of edits on the tree are those of the ledger: edits that are made keep them, and 8 or 9 says which edit is the first that breaks its rule.
-- Assumes nothing.
use Prim.Native.Nat.{ℕ, suc, ◌≤◌}
use mathlib.Core.Path.{◌≡◌, refl, sym, ap, ◌∙◌, subst}
use mathlib.Core.Logic.{◌⊎◌, inl, inr}
use mathlib.Core.Bool.{Bool, true}
use mathlib.Core.List.{List, [], ◌∷◌, ◌++◌}
use native.Mathlib.Omega.{arith}
use Rattle.codec.specs.Lists.{All}
use Rattle.page.specs.Layout.{Rec}
use Rattle.page.specs.PageFormat.{format1}
use Rattle.page.proofs.Format1.{format1-rules}
use Rattle.image.specs.PageZero.{page_count}
use Rattle.image.specs.Image.{sound, count}
use Rattle.image.specs.Table.{table}
use Rattle.image.proofs.General.{All-left}
use Rattle.edit.specs.EditList.{Edit}
use Rattle.edit.specs.Ledger.{apply_edits}
use Rattle.edit.specs.Reads.{Proper}
use Rattle.edit.specs.Keys.{Kept, Broken, AllKept, FirstBroken}
use Rattle.edit.proofs.Keys.{broken-number, kept_append, first-broken}
use Rattle.tree.specs.State.{State, Step, done, refused, begin}
use Rattle.tree.specs.Edits.{no_keep, edited}
use Rattle.tree.specs.Whole.{finished, onward, edits_from, edits_on, edits_from_in}
use Rattle.tree.specs.Grounds.{table_of, edit_ground, Grounds}
use Rattle.tree.specs.Reasons.{Room, in_place, copied, no_copy, no_index, split, no-split, Reason, broken, inserted, updated, deleted}
use Rattle.tree.specs.Good.{Good}
use Rattle.tree.proofs.States.{leads-free}
use Rattle.tree.proofs.Exact.{code}
use Rattle.tree.proofs.Outcomes.{RunIn, OutcomesIn, outcomes-in}
use Rattle.tree.proofs.Runs.{edit-exact, begin-good, begin-table}
use Rattle.tree.proofs.Reasons.{ground-reason}

-- ---- one edit

-- there is room, or 10 or more says that there is none
room-number : {st : State} {k : ℕ} {ins : Bool} {s : ℕ} {p : List ℕ} {rs : List Rec} (g : ℕ) → Room st k ins s p rs g → (g ≡ 0) ⊎ (10 ≤ g)
room-number _ (in_place _) = inl refl
room-number _ (copied _ _ _ _ _) = inl refl
room-number _ (no_copy _ _ _ _ _) = inr (omega arith)
room-number _ (no_index _ _ _) = inr (omega arith)
room-number _ (split _ _ _ _ _ _) = inl refl
room-number _ (no-split _ _ _ _ _ _) = inr (omega arith)

not-room : (g : ℕ) → 8 ≤ g → g ≤ 9 → (g ≡ 0) ⊎ (10 ≤ g) → ⊥
not-room g low high (inl z) = omega arith
not-room g low high (inr z) = omega arith

reason-broken : (st : State) (e : Edit) (g : ℕ) → Reason st e g → 8 ≤ g → g ≤ 9 → Broken e (table_of st) g
reason-broken st _ _ (broken e g b) low high = b
reason-broken st _ _ (inserted k v g h r) low high = absurd (not-room g low high (room-number g r))
reason-broken st _ _ (updated k v g h r) low high = absurd (not-room g low high (room-number g r))
reason-broken st _ _ (deleted k h) low high = absurd (omega arith)

reason_kept : (st : State) (e : Edit) (g : ℕ) → Reason st e g → (g ≡ 8 → ⊥) → (g ≡ 9 → ⊥) → Kept e (table_of st)
reason_kept st _ _ (broken e g b) x y = absurd (broken-number e (table_of st) g b x y)
reason_kept st _ _ (inserted k v g h r) x y = h
reason_kept st _ _ (updated k v g h r) x y = h
reason_kept st _ _ (deleted k h) x y = h

-- ---- a list of edits

-- an edit that is made
one-run : (n : ℕ) (F : List ℕ) (e : Edit) (s u : State) → Good n s → ((x : ℕ) → count x s.free ≤ count x F) → Proper e → edited e s ≡ done u → RunIn format1 no_keep n F (e ∷ []) s u
unfolding edits_from_in onward
one-run n F e s u G sub P q =
    subst (λ (x : Step). OutcomesIn format1 no_keep n F 0 (e ∷ []) s (onward x 0 (λ t. finished t))) q (outcomes-in format1 format1-rules no_keep n F (λ x h. refl) 0 (e ∷ []) s G sub (P, tt))

made_kept : (n : ℕ) (F : List ℕ) (i : ℕ) (es : List Edit) (s t : State) → Good n s → ((x : ℕ) → count x s.free ≤ count x F) → All Proper es → edits_from i es s ≡ finished t → AllKept es (table_of s)
unfolding edits_from_in onward apply_edits
made_kept n F i [] s t G sub P q = tt
made_kept n F i (e ∷ es) s t G sub P q = go (edited e s) refl q (λ u H k. made_kept n F (suc i) es u t H k P.1)
  where
    go : (x : Step) → edited e s ≡ x → onward x i (λ u. edits_from (suc i) es u) ≡ finished t →
        ((u : State) → Good n u → ((x : ℕ) → count x u.free ≤ count x F) → edits_from (suc i) es u ≡ finished t → AllKept es (table_of u)) → AllKept (e ∷ es) (table_of s)
    go (refused k) z q f = let y : ◌≡◌ {A = ℕ} 0 1 = cc in absurd (omega arith)
    go (done u) z q f =
        let R = one-run n F e s u G sub P.0 z in
        let none : edit_ground s e ≡ 0 = sym (edit-exact n s G e P.0) ∙ ap code z in (
          reason_kept s e (edit_ground s e) (ground-reason s e) (λ y. omega arith) (λ y. omega arith),
          subst (AllKept es) R.makes (f u R.good (λ x. omega (arith, sub x, leads-free format1 no_keep F s u R.leads x)) q),
        )

module _ (a : List ℕ) (h : sound a ≡ true) (es : List Edit) (P : All Proper es) where
  -- an accepted list keeps the rules
  pub edits-kept : (st : State) → edits_on a es ≡ finished st → AllKept es (table a)
  unfolding edits_on
  edits-kept st q = subst (AllKept es) (begin-table a) (made_kept (page_count a) (begin a).free 0 es (begin a) st (begin-good a h) (λ x. omega arith) P q)

module _ (a : List ℕ) (h : sound a ≡ true) (es : List Edit) (P : All Proper es) (k i : ℕ) (G : Grounds a es k i) where
  before-kept : AllKept G.before (table a)
  unfolding edits_on
  before-kept = edits-kept a h G.before (All-left Proper G.before (G.culprit ∷ G.rest) (subst (All Proper) G.shape P)) G.state G.reached

  reason : Reason G.state G.culprit k
  reason = subst (Reason G.state G.culprit) (sym G.because) (ground-reason G.state G.culprit)

  -- 8 or 9 is the number of the first broken rule
  pub grounds-broken : 8 ≤ k → k ≤ 9 → FirstBroken es (table a) k i
  grounds-broken low high =
      first-broken es (table a) k i G.before G.culprit G.rest G.shape G.number before-kept
      (subst (λ (t : List Rec). Broken G.culprit t k) G.holding (reason-broken G.state G.culprit k reason low high))

  -- an edit that is refused with 10 or 11 keeps its rule, as those before it do
  pub grounds-kept : 10 ≤ k → AllKept (G.before ++ G.culprit ∷ []) (table a)
  grounds-kept ten =
      kept_append G.before (G.culprit ∷ []) (table a) before-kept
      (subst (Kept G.culprit) G.holding (reason_kept G.state G.culprit k reason (λ z. omega arith) (λ z. omega arith)), tt)
