-- How the parts of the call meet: marks of pages, and the state before the first edit and after the last.
-- Assumes nothing.
use Rattle.std.specs.Prelude.{Result, Ok, Err}
use Prim.Native.Nat.{ℕ, ◌-◌, ◌/◌, ◌≤◌}
use mathlib.Core.Path.{◌≡◌, refl, sym, ap, ◌∙◌, subst}
use mathlib.Core.Bool.{Bool, true, false, not}
use mathlib.Core.List.{List, []}
use native.Mathlib.Omega.{arith}
use lib.ListN.{length, get_or}
use lib.Dec.{eqb}
use borrow.Author.Tests.{eqb-true, eqb-false}
use Rattle.codec.specs.Lists.{All, pick}
use Rattle.device.specs.Calls.{number_in}
use Rattle.device.specs.declared.Refusal.{Refusal}
use Rattle.page.specs.Layout.{page_size}
use Rattle.page.specs.Operations.{page_of}
use Rattle.image.specs.PageZero.{page_count, root_of}
use Rattle.image.specs.Image.{reached, sound, count}
use Rattle.image.proofs.Zero.{Size, size-true}
use Rattle.image.proofs.Soundness.{sound-facts}
use Rattle.edit.specs.EditList.{Edit}
use Rattle.edit.specs.Reads.{Proper}
use Rattle.journal.specs.Edited.{Edited}
use Rattle.tree.specs.State.{State, begin}
use Rattle.tree.specs.Whole.{finished, stopped, edits_from, edits_on, edited_image}
use Rattle.tree.specs.Good.{Good}
use Rattle.page.specs.PageFormat.{format1}
use Rattle.tree.specs.Edits.{no_keep}
use Rattle.tree.proofs.States.{Leads}
use Rattle.tree.proofs.Runs.{begin-good, edits-run}
use Rattle.tree.proofs.Accepted.{edits-accepted}
use Rattle.tree_edit.specs.Steps as steps
use Rattle.tree_edit.specs.Asked.{CanMark, Spared}
use Rattle.tree_edit.specs.declared.Tree.{Tree}
use Rattle.tree_edit.proofs.Marked.{good-marks}
use Rattle.tree_edit.proofs.Places.{good_none}
use Rattle.tree_edit.proofs.Free.{begin-state, unmarked-counts}
use Rattle.tape_write.specs.Calls.{Images, Marks, Lent, reached_in}

-- ---- a sound image

module _ (a : List ℕ) (h : sound a ≡ true) where
  pub image-size : Size (length a)
  image-size = size-true (length a) (sound-facts a h).size

  pub can-mark : CanMark a (root_of a)
  unfolding begin
  can-mark = good-marks (page_count a) (begin a) (begin-good a h)

  pub images : (w : List ℕ) → length w ≡ length a → Images a w
  images w e = let s = image-size in record { low = omega (arith, s.low); high = s.high; whole = s.whole; same = e }

-- ---- marks

-- marks that are 1 or 0 and are not 0 exactly for the pages rs are those of rs
pub marks-are : (m rs : List ℕ) → steps.Marks m rs → ((p : ℕ) → get_or m p 0 ≤ 1) → length m ≡ 64 → Marks m rs
marks-are m rs h most size = record { size = size; mark = λ p _. sym (go p (eqb (get_or m p 0) 0) refl) ∙ ap (λ (b : Bool). pick {A = ℕ} b 1 0) (h p) }
  where
    go : (p : ℕ) (b : Bool) → eqb (get_or m p 0) 0 ≡ b → pick {A = ℕ} (not b) 1 0 ≡ get_or m p 0
    go p true e = sym (eqb-true (get_or m p 0) 0 e)
    go p false e = omega (arith, eqb-false (get_or m p 0) 0 e, most p)

-- the marks that are made of a sound image's root
pub marks-at : (a m : List ℕ) (root : ℕ) → root ≡ root_of a → steps.Marks m (reached a root) → ((p : ℕ) → get_or m p 0 ≤ 1) × (length m ≡ 64) → Marks m (reached_in a)
marks-at a m root e h (most, size) = marks-are m (reached_in a) (subst (λ (r : ℕ). steps.Marks m (reached a r)) e h) most size

pub lent-are : (a w before after : List ℕ) → sound a ≡ true → Edited a w → Marks before (reached_in a) → Marks after (reached_in w) → Lent a w before after
lent-are a w before after h e b c = record { images = images a h w e.same_length; was = b; stays = c; kept = e.unreached_kept }

-- ---- the edits

-- work is a copy of the sound image a, and the pages that a reaches from its root are marked
pub record Begun (a work before : List ℕ) (root : ℕ) : Type 0 where
  pub is_sound : sound a ≡ true
  pub copied : work ≡ a
  pub is_root : root ≡ root_of a
  pub marks : steps.Marks before (reached a root)

-- all edits of the list are made: w holds a sound tree again, from which the edited image is made
pub record Ended (a before : List ℕ) (es : List Edit) (w : List ℕ) (t : Tree) : Type 0 where
  pub finishes : edits_on a es ≡ finished (steps.state_of before w t)
  pub good : length w ≡ length a → Good (page_count w) (record { image = w; root = t.root; free = [] })
  pub spared : Spared before a w t.top
  pub edited : (x : List ℕ) → x ≡ edited_image a (steps.state_of before w t) → Edited a x

module _ {a work before : List ℕ} {root : ℕ} (B : Begun a work before root) where
  -- the state before the first edit
  abbrev first : State
  first = steps.state_of before work (record { root = root; top = page_count a })

  begins : begin a ≡ first
  begins =
      begin-state before a (subst (λ (x : ℕ). steps.Marks before (reached a x)) B.is_root B.marks)
      ∙ (λ d. steps.state_of before (sym B.copied d) (record { root = sym B.is_root d; top = page_count a }))

  pub first_good : Good (page_count work) first
  first_good = subst (λ (x : List ℕ). Good (length x / page_size) first) (sym B.copied) (subst (Good (page_count a)) begins (begin-good a B.is_sound))

  pub few-pages : page_count a ≤ 64
  few-pages = omega (arith, (image-size a B.is_sound).high)

  -- the edits of the list make w of work
  module _ (es : List Edit) (P : All Proper es) (w : List ℕ) (o : Result Tree Refusal) (e : steps.outcome_of before w o ≡ edits_from 0 es first) where
    made : steps.outcome_of before w o ≡ edits_on a es
    unfolding edits_on
    made = e ∙ ap (edits_from 0 es) (sym begins)

    pub made-stopped : (r : Refusal) → o ≡ Err r → edits_on a es ≡ stopped (number_in r) r.edit
    made-stopped r q = sym made ∙ ap (steps.outcome_of before w) q

    -- a page that is still free is as it was
    as-begun : {st : State} → Leads format1 no_keep (begin a).free (begin a) st → (p : ℕ) → 1 ≤ count p st.free → page_of st.image p ≡ page_of a p
    unfolding begin
    as-begun L p free = L.spare p free

    pub made-ended : (t : Tree) → o ≡ Ok t → Ended a before es w t
    made-ended t q =
        let st = steps.state_of before w t in
        let z : edits_on a es ≡ finished st = sym made ∙ ap (steps.outcome_of before w) q in
        record {
          finishes = z;
          good = λ same. subst (λ (n : ℕ). Good (n / page_size) (record { image = w; root = t.root; free = [] })) (sym same)
              (good_none (edits-run a B.is_sound es P st z).good);
          spared = λ p one low e. as-begun (edits-run a B.is_sound es P st z).leads p (unmarked-counts before (t.top - 1) p one (omega arith) e);
          edited = λ x y. subst (Edited a) (sym y) (edits-accepted a B.is_sound es P st z);
        }
