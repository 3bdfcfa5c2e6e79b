-- The pages that are read, and the whole image: a refusal of lookup or next key is check's too, but for 6; and where next key refuses no number, check accepts.
-- Assumes nothing.
use Rattle.std.specs.Prelude.{Err, Ok, Option, Result, Some}
use Prim.Native.Nat.{ℕ, ◌<◌}
use mathlib.Core.Path.{◌≡◌, refl, ap, ◌∙◌, subst}
use mathlib.Core.Logic.{◌⊎◌, inl, inr}
use mathlib.Core.Bool.{Bool, true, false}
use mathlib.Core.List.{List}
use native.Mathlib.Omega.{arith}
use lib.ListN.{length}
use Rattle.image.specs.declared.Part.{Part}
use Rattle.codec.specs.Lists.{pick}
use Rattle.codec.proofs.Tests.{not-true}
use Rattle.device.specs.Calls.{Answer, is_image_size, refusal, refusal_at}
use Rattle.device.specs.declared.Refusal.{Refusal}
use Rattle.page.specs.PageFormat.{format1}
use Rattle.image.specs.PageZero.{page_zero}
use Rattle.image.specs.Image.{height_of, tree_ok, sound}
use Rattle.image.specs.Facts.{TreeIn}
use Rattle.image.specs.Descent.{Way, leaf_read, root_read}
use Rattle.image.specs.Calls.{root_from, root_call, index_call, check_from, check_call, lookup_call, next_call}
use Rattle.image.specs.Says.{Opened, NotOpened, bad-size, wrong-zero, mark-waits, bad-index, ReadSound, ReadUnsound, LookupSays, not_opened, bad-way, bad-key, found, missing, NextSays, next-not-opened, next-bad-way, here, bad-after, after, last}
use Rattle.image.specs.declared.PageZero.{PageZero}
use Rattle.image.specs.declared.PageZero.TheVariants.{Wrong, Waiting, Ready}
use Rattle.image.proofs.Zero.{ready-facts}
use Rattle.image.proofs.Soundness.{tree-facts, tree_in-sound}
use Rattle.image.proofs.Ways.{read-sound}
use Rattle.image.proofs.InTree.{root-read, tree-index, never-unsound, read-on}
use Rattle.image.proofs.FromReads.{from-reads}
use Rattle.image.proofs.Read.{OpeningSays, opening-says}
use Rattle.image.proofs.Says.{opened-read, lookup-says, next-says, next-not-read, next-unsound}
use Rattle.image.proofs.Answers.{sound-check}

-- ---- check's refusals

pub check-refused : (img : List ℕ) (r : Refusal) → check_call img ≡ Err r → NotOpened img r ⊎ (refusal_at 4 0 ≡ r)
unfolding check_call check_from root_call root_from
check-refused img r e = go (is_image_size (length img)) refl (page_zero img) refl e
  where
    tree : (t : Bool) → pick {A = Answer} t (Ok tt) (Err (refusal 4)) ≡ Err r → (refusal_at 4 0) ≡ r
    tree true f = let n : ◌≡◌ {A = ℕ} 0 1 = cc in absurd (omega arith)
    tree false f = cc

    go : (a : Bool) → is_image_size (length img) ≡ a → (z : PageZero) → page_zero img ≡ z → check_from img (pick a (root_from z) (Err (refusal 1))) ≡ Err r →
        NotOpened img r ⊎ (refusal_at 4 0 ≡ r)
    go false s z q f = let same : refusal 1 ≡ r = cc in inl (subst (NotOpened img) same (bad-size s))
    go true s Wrong q f = let same : refusal 4 ≡ r = cc in inl (subst (NotOpened img) same (wrong-zero s q))
    go true s (Waiting k root) q f = let same : refusal 3 ≡ r = cc in inl (subst (NotOpened img) same (mark-waits s k root q))
    go true s (Ready root) q f = inr (tree (tree_ok img root) f)

pub not-opened-check : (img : List ℕ) (r : Refusal) → NotOpened img r → check_call img ≡ Err r
unfolding check_call check_from root_call root_from
not-opened-check img _ (bad-size s) = rw s
not-opened-check img _ (wrong-zero s z) = rw (s, z)
not-opened-check img _ (mark-waits s k root z) = rw (s, z)
not-opened-check img _ (bad-index s root z i) = rw (s, z, not-true (tree_ok img root) (λ t. i (tree-index img root (tree-facts img root t))))

-- a root that opens is refused only for what lies under it
opened-check : (img : List ℕ) (root : ℕ) → Opened img root → check_call img ≡ pick (tree_ok img root) (Ok tt) (Err (refusal 4))
unfolding check_call check_from root_call root_from
opened-check img root o = rw (o.size, o.zero)

-- where a page that is read is not sound, whatever was read before in the tree
module _ (img : List ℕ) (root : ℕ) (o : Opened img root) where
  pub bad-check : (TreeIn format1 img (height_of img root) root → ⊥) → check_call img ≡ Err (refusal 4)
  bad-check bad = opened-check img root o ∙ rw (not-true (tree_ok img root) (λ t. bad (tree-facts img root t)))

  pub unsound-check : (k : ℕ) → ReadUnsound img root (root_read root) k → check_call img ≡ Err (refusal 4)
  unsound-check k u = bad-check (λ t. never-unsound img root t (root_read root) (root-read img root t) k u)

  pub after-check : (k : ℕ) (r : ReadSound img root (root_read root) k) (j : ℕ) → ReadUnsound img root r.way.nodes j → check_call img ≡ Err (refusal 4)
  after-check k r j u =
      bad-check (λ t. never-unsound img root t r.way.nodes (read-on img root t (root_read root) (root-read img root t) k r) j u)

-- ---- a refusal of a reading call is check's

pub lookup-refused : (img : List ℕ) (k : ℕ) (r : Refusal) → lookup_call img k ≡ Err r → (check_call img ≡ Err r) ⊎ ((refusal_at 6 0 ≡ r) × ((k < 1) ⊎ (999999999999 < k)))
lookup-refused img k r e = go (lookup_call img k) (lookup-says img k) e
  where
    go : (a : Result (Option Part) Refusal) → LookupSays img k a → a ≡ Err r → (check_call img ≡ Err r) ⊎ ((refusal_at 6 0 ≡ r) × ((k < 1) ⊎ (999999999999 < k)))
    go _ (not_opened s n) f = let same : s ≡ r = cc in inl (not-opened-check img s n ∙ ap Err same)
    go _ (bad-way root o u) f = let same : refusal 4 ≡ r = cc in inl (unsound-check img root o k u ∙ ap Err same)
    go _ (bad-key root o x q) f = let same : refusal 6 ≡ r = cc in inr (same, q)
    go _ (found _ _ _ _ _ _ _ _ _ _ _) f = let n : ◌≡◌ {A = ℕ} 0 1 = cc in absurd (omega arith)
    go _ (missing _ _ _ _ _ _) f = let n : ◌≡◌ {A = ℕ} 0 1 = cc in absurd (omega arith)

pub next-refused : (img : List ℕ) (k : ℕ) (r : Refusal) → next_call img k ≡ Err r → check_call img ≡ Err r
next-refused img k r e = go (next_call img k) (next-says img k) e
  where
    go : (a : Result (Option ℕ) Refusal) → NextSays img k a → a ≡ Err r → check_call img ≡ Err r
    go _ (next-not-opened s n) f = let same : s ≡ r = cc in not-opened-check img s n ∙ ap Err same
    go _ (next-bad-way root o u) f = let same : refusal 4 ≡ r = cc in unsound-check img root o k u ∙ ap Err same
    go _ (bad-after root o x most inside u) f = let same : refusal 4 ≡ r = cc in after-check img root o k x x.way.leaf.below u ∙ ap Err same
    go _ (here _ _ _ _ _) f = let n : ◌≡◌ {A = ℕ} 0 1 = cc in absurd (omega arith)
    go _ (after _ _ _ _ _ _ _ _) f = let n : ◌≡◌ {A = ℕ} 0 1 = cc in absurd (omega arith)
    go _ (last _ _ _ _ _) f = let n : ◌≡◌ {A = ℕ} 0 1 = cc in absurd (omega arith)

-- ---- and the other way: every page is read for some number

module _ (img : List ℕ) (answers : (k : ℕ) (r : Refusal) → next_call img k ≡ Err r → ⊥) where
  all-opened : (x : Result ℕ Refusal) → OpeningSays img x → (root : ℕ) × Opened img root
  all-opened (Ok root) o = (root, o)
  all-opened (Err r) n = absurd (answers 0 r (next-not-read img 0 r n))

  all_sound : (root : ℕ) → Opened img root → sound img ≡ true
  all_sound root o = tree_in-sound img root o.size o.zero (from-reads img root o.index (ready-facts img root o.zero).page (λ k. go k (opened-read img k root o)))
    where
      go : (k : ℕ) → ReadSound img root (root_read root) k ⊎ ReadUnsound img root (root_read root) k → (w : Way) × (leaf_read img root (root_read root) k ≡ Some w)
      go k (inl r) = (r.way, read-sound img root k (root_read root) r)
      go k (inr u) = absurd (answers k (refusal 4) (next-unsound img k root o u))

  -- "unsound means that the pages read break soundness by themselves": an image of which no part that is read does so is sound
  pub check-accepts : check_call img ≡ Ok tt
  check-accepts = let x = all-opened (index_call img) (opening-says img) in sound-check img (all_sound x.0 x.1)
