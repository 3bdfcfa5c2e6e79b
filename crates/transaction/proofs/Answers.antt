-- What the transaction call answers: each refusal where its ground is the first that holds, and acceptance where none does; with what an
-- accepted transaction leaves.
-- Assumes nothing.
use Rattle.std.specs.Prelude.{Err, Ok}
use Prim.Native.Nat.{ℕ, ◌≤◌}
use mathlib.Core.Path.{◌≡◌, refl, ◌∙◌}
use mathlib.Core.Bool.{true}
use mathlib.Core.List.{List}
use native.Mathlib.Omega.{arith}
use lib.ListN.{length}
use lib.Dec.{eqb, leb}
use borrow.Author.Tests.{eqb-true, eqb-false, eq-eqb, ne_eqb, leb-true, leb-false, le-leb, lt-leb}
use Rattle.device.specs.Tape.{tape_bytes}
use Rattle.device.specs.Calls.{is_image_size, Answer, refusal_at}
use Rattle.device.specs.declared.Refusal.{Refusal}
use Rattle.image.specs.PageZero.{log_most}
use Rattle.image.specs.Calls.{check_call}
use Rattle.image.proofs.Answers.{check_sound}
use Rattle.edit.specs.EditList.{Edit, Listed, listed, faulty, edit_list}
use Rattle.edit.proofs.General.{by-test}
use Rattle.edit.proofs.Parsing.{list-proper, list-fault, fault-list}
use Rattle.journal.specs.Changes.{changed_pages}
use Rattle.journal.specs.Tape.{room_in_log, taken_for}
use Rattle.journal.specs.declared.Way.{Way}
use Rattle.journal.specs.declared.Commit.{Commit}
use Rattle.tree.specs.State.{State}
use Rattle.tree.specs.Whole.{Outcome, finished, stopped, edits_on, edited_image}
use Rattle.tree.proofs.Runs.{edits-refused, grounds-refuse}
use Rattle.tree.proofs.Numbers.{edits-numbered}
use Rattle.transaction.specs.Calls.{Called, refused_with, accepted_with, committed, outcome_of, list_of, checked_of, transaction_call}
use Rattle.transaction.specs.Answers.{Begun, Done, Answers, bad-size, bad-work, bad-image, bad-list, bad-edit, no-log, no-tape, accepted}

-- the refusal of a result
pub refused-is : (n i : ℕ) (work tape : List ℕ) (r : Refusal) → (refused_with n i work tape).answer ≡ Err r → (refusal_at n i) ≡ r
unfolding refused_with
refused-is n i work tape r e = cc

-- ---- the cases, in the order of document 01

module _ (way : Way) (a work tape bytes : List ℕ) where
  pub call-answers : Answers way a work tape bytes (transaction_call way a work tape bytes)
  unfolding transaction_call checked_of list_of outcome_of committed room_in_log
  call-answers =
      by-test (Answers way a work tape bytes) (is_image_size (length a))
      (λ size. by-test (Answers way a work tape bytes) (eqb (length work) (length a)) (λ same. check size (eqb-true (length work) (length a) same) (check_call a) refl)
      (λ other. bad-work size (eqb-false (length work) (length a) other)))
      (λ size. bad-size size)
    where
      ends : Begun a work → (es : List Edit) (st : State) → Done a bytes es st → Answers way a work tape bytes (committed way a (edited_image a st) tape)
      ends B es st D =
          let w = edited_image a st in
          let used = length (tape_bytes (taken_for way a w).tape) in
          by-test (Answers way a work tape bytes) (leb (length (changed_pages a w)) log_most)
          (λ few. by-test (Answers way a work tape bytes) (leb used (length tape))
          (λ fits. accepted B es st D (leb-true (length (changed_pages a w)) log_most few) (leb-true used (length tape) fits))
          (λ long. no-tape B es st D (leb-true (length (changed_pages a w)) log_most few) (leb-false used (length tape) long)))
          (λ many. no-log B es st D (leb-false (length (changed_pages a w)) log_most many))

      edits : Begun a work → (es : List Edit) → edit_list bytes ≡ listed es → (o : Outcome) → edits_on a es ≡ o → Answers way a work tape bytes (outcome_of way a tape o)
      edits B es reads (stopped k i) e = bad-edit B es reads k i (edits-numbered a es k i e).0 (edits-refused a (check_sound a B.checked) es (list-proper bytes es reads) k i e)
      edits B es reads (finished st) e = ends B es st (record { reads = reads; makes = e })

      list : Begun a work → (l : Listed) → edit_list bytes ≡ l → Answers way a work tape bytes (list_of way a work tape l)
      list B (faulty k i) e = bad-list B k i (list-fault bytes k i e)
      list B (listed es) e = edits B es e (edits_on a es) refl

      check : is_image_size (length a) ≡ true → length work ≡ length a → (c : Answer) → check_call a ≡ c → Answers way a work tape bytes (checked_of way a work tape bytes c)
      check size same (Err r) e = bad-image size same r e
      check size same (Ok done) e = list (record { size = size; same = same; checked = e }) (edit_list bytes) refl

  -- the cases exclude each other: each is the call's answer where it holds
  pub begun-call : Begun a work → transaction_call way a work tape bytes ≡ list_of way a work tape (edit_list bytes)
  unfolding transaction_call checked_of
  begun-call B = rw (B.size, eq-eqb (length work) (length a) B.same, B.checked)

  done-call : Begun a work → (es : List Edit) (st : State) → Done a bytes es st → transaction_call way a work tape bytes ≡ committed way a (edited_image a st) tape
  unfolding list_of outcome_of
  done-call B es st D = begun-call B ∙ rw (D.reads, D.makes)

  pub answers-call : (r : Called) → Answers way a work tape bytes r → transaction_call way a work tape bytes ≡ r
  unfolding transaction_call checked_of list_of outcome_of committed room_in_log
  answers-call _ (bad-size e) = rw e
  answers-call _ (bad-work e other) = rw (e, ne_eqb (length work) (length a) other)
  answers-call _ (bad-image e same r c) = rw (e, eq-eqb (length work) (length a) same, c)
  answers-call _ (bad-list B k i f) = let e = fault-list bytes k i f in begun-call B ∙ rw e
  answers-call _ (bad-edit B es reads k i low g) =
      let e = grounds-refuse a (check_sound a B.checked) es (list-proper bytes es reads) k i g (λ z. omega arith) in
      begun-call B ∙ rw (reads, e)
  answers-call _ (no-log B es st D many) = done-call B es st D ∙ rw (lt-leb (length (changed_pages a (edited_image a st))) log_most many)
  answers-call _ (no-tape B es st D few long) =
      done-call B es st D
      ∙ rw (le-leb (length (changed_pages a (edited_image a st))) log_most few, lt-leb (length (tape_bytes (taken_for way a (edited_image a st)).tape)) (length tape) long)
  answers-call _ (accepted B es st D few fits) =
      done-call B es st D
      ∙ rw (le-leb (length (changed_pages a (edited_image a st))) log_most few, le-leb (length (tape_bytes (taken_for way a (edited_image a st)).tape)) (length tape) fits)

  -- what an accepted transaction has done
  pub record Acceptance : Type 0 where
    pub begun : Begun a work
    pub list : List Edit
    pub state : State
    pub done : Done a bytes list state
    pub few : length (changed_pages a (edited_image a state)) ≤ log_most
    pub fits : length (tape_bytes (taken_for way a (edited_image a state)).tape) ≤ length tape
    pub result : transaction_call way a work tape bytes ≡ accepted_with (taken_for way a (edited_image a state)) tape

  pub call-accepted : (c : Commit) → (transaction_call way a work tape bytes).answer ≡ Ok c → Acceptance
  unfolding refused_with
  call-accepted c e = go (transaction_call way a work tape bytes) call-answers refl e
    where
      go : (r : Called) → Answers way a work tape bytes r → transaction_call way a work tape bytes ≡ r → r.answer ≡ Ok c → Acceptance
      go _ (bad-size _) q e = let z : ◌≡◌ {A = ℕ} 0 1 = cc in absurd (omega arith)
      go _ (bad-work _ _) q e = let z : ◌≡◌ {A = ℕ} 0 1 = cc in absurd (omega arith)
      go _ (bad-image _ _ _ _) q e = let z : ◌≡◌ {A = ℕ} 0 1 = cc in absurd (omega arith)
      go _ (bad-list _ _ _ _) q e = let z : ◌≡◌ {A = ℕ} 0 1 = cc in absurd (omega arith)
      go _ (bad-edit _ _ _ _ _ _ _) q e = let z : ◌≡◌ {A = ℕ} 0 1 = cc in absurd (omega arith)
      go _ (no-log _ _ _ _ _) q e = let z : ◌≡◌ {A = ℕ} 0 1 = cc in absurd (omega arith)
      go _ (no-tape _ _ _ _ _ _) q e = let z : ◌≡◌ {A = ℕ} 0 1 = cc in absurd (omega arith)
      go _ (accepted B es st D few fits) q e = record { begun = B; list = es; state = st; done = D; few = few; fits = fits; result = q }
