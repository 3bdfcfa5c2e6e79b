-- What the definitions of the reading calls come to, by whether page 0 and the root open, and whether the pages that are read are sound.
-- Assumes nothing.
use Rattle.std.specs.Prelude.{Err, None, Ok, Option, Result, Some}
use Prim.Native.Nat.{ℕ}
use mathlib.Core.Path.{◌≡◌, refl, sym, ap, ◌∙◌, subst}
use mathlib.Core.Logic.{◌⊎◌}
use mathlib.Core.Bool.{Bool, true, false, true≢false}
use mathlib.Core.List.{List}
use native.Mathlib.Omega.{arith}
use lib.ListN.{length}
use Rattle.image.specs.declared.Part.{Part}
use Rattle.codec.specs.Lists.{pick, All}
use Rattle.codec.proofs.Tests.{not-true}
use Rattle.device.specs.Calls.{is_image_size, refusal}
use Rattle.device.specs.declared.Refusal.{Refusal}
use Rattle.image.specs.PageZero.{page_count, is_page, page_zero}
use Rattle.image.specs.Image.{index_ok}
use Rattle.image.specs.Table.{page_entries, found_in}
use Rattle.image.specs.Descent.{Way, leaf_read, root_read, nodes_after, records_for}
use Rattle.image.specs.Calls.{root_from, root_call, index_from, index_call, key_ok, by_way, leaf_lookup, ranged}
use Rattle.image.specs.Says.{Opened, NotOpened, bad-size, wrong-zero, mark-waits, bad-index, ReadSound, ReadUnsound, read_records}
use Rattle.image.specs.Marks.{Judged}
use Rattle.image.specs.declared.PageZero.{PageZero}
use Rattle.image.specs.declared.PageZero.TheVariants.{Wrong, Waiting, Ready}
use Rattle.image.proofs.Zero.{ready-facts}
use Rattle.image.proofs.Soundness.{index-facts, facts-index}
use Rattle.image.proofs.Ways.{root-judged, judged-after, read-sound, read-unsound, read-or-not}

-- ---- page 0 and the root

-- what is said of page 0 and the root
abbrev pub OpeningSays : List ℕ → Result ℕ Refusal → Type 0
OpeningSays img (Ok root) = Opened img root
OpeningSays img (Err r) = NotOpened img r

module _ (img : List ℕ) where
  pub opening-says : OpeningSays img (index_call img)
  unfolding index_call index_from root_call root_from
  opening-says = go (is_image_size (length img)) refl (page_zero img) refl
    where
      tree : (root : ℕ) → is_image_size (length img) ≡ true → page_zero img ≡ Ready root → (t : Bool) → index_ok img root ≡ t →
          OpeningSays img (pick t (Ok root) (Err (refusal 4)))
      tree root s z true e = record { size = s; zero = z; index = index-facts img root e }
      tree root s z false e = bad-index s root z (λ k. true≢false (sym (facts-index img root k) ∙ e))

      go : (a : Bool) → is_image_size (length img) ≡ a → (z : PageZero) → page_zero img ≡ z → OpeningSays img (index_from img (pick a (root_from z) (Err (refusal 1))))
      go false s z e = bad-size s
      go true s Wrong e = wrong-zero s e
      go true s (Waiting k root) e = mark-waits s k root e
      go true s (Ready root) e = tree root s e (index_ok img root) refl

  pub opened-call : (root : ℕ) → Opened img root → index_call img ≡ Ok root
  unfolding index_call index_from root_call root_from
  opened-call root o = rw (o.size, o.zero, facts-index img root o.index)

  pub not-opened-call : (r : Refusal) → NotOpened img r → index_call img ≡ Err r
  unfolding index_call index_from root_call root_from
  not-opened-call _ (bad-size s) = rw s
  not-opened-call _ (wrong-zero s z) = rw (s, z)
  not-opened-call _ (mark-waits s k root z) = rw (s, z)
  not-opened-call _ (bad-index s root z i) = rw (s, z, not-true (index_ok img root) (λ t. i (index-facts img root t)))

-- ---- the pages judged first

-- the root, once it is open
pub opened-judged : (img : List ℕ) (root : ℕ) → Opened img root → All (Judged img) (root_read root)
opened-judged img root o = root-judged img root o.index

-- and those of the keys that were looked for before
pub after-judged : (img : List ℕ) (root : ℕ) → Opened img root → (ks : List ℕ) → All (Judged img) (nodes_after img root (root_read root) ks)
after-judged img root o ks = judged-after img root ks (root_read root) (opened-judged img root o)

-- ---- the way, and its leaf

module _ (img : List ℕ) (root : ℕ) (nodes : List ℕ) (k : ℕ) where
  -- what is made of a way that is read
  pub by-sound : {A : Type 0} (f : Way → Result A Refusal) (r : ReadSound img root nodes k) → by_way (leaf_read img root nodes k) f ≡ f r.way
  by-sound f r = rw (read-sound img root k nodes r)

  pub by-unsound : {A : Type 0} (f : Way → Result A Refusal) → ReadUnsound img root nodes k → by_way (leaf_read img root nodes k) f ≡ Err (refusal 4)
  by-unsound f u = rw (read-unsound img root k nodes u)

  pub read-lookup : (r : ReadSound img root nodes k) → leaf_lookup img root nodes k ≡ found_in k (page_entries img r.way.leaf.page)
  unfolding leaf_lookup
  read-lookup r = by-sound (λ w. found_in k (page_entries img w.leaf.page)) r

  pub unsound-lookup : ReadUnsound img root nodes k → leaf_lookup img root nodes k ≡ Err (refusal 4)
  unfolding leaf_lookup
  unsound-lookup u = by-unsound (λ w. found_in k (page_entries img w.leaf.page)) u

-- the records that are read once other keys were looked for
module _ (img : List ℕ) (root : ℕ) (ks : List ℕ) (k : ℕ) where
  pub records-read : (r : ReadSound img root (nodes_after img root (root_read root) ks) k) → records_for img root ks k ≡ Some (read_records r)
  unfolding records_for
  records-read r = rw (read-sound img root k (nodes_after img root (root_read root) ks) r)

  pub records-unsound : ReadUnsound img root (nodes_after img root (root_read root) ks) k → records_for img root ks k ≡ None
  unfolding records_for
  records-unsound u = rw (read-unsound img root k (nodes_after img root (root_read root) ks) u)

  -- each key is one or the other
  pub after-read-or-not : Opened img root → ReadSound img root (nodes_after img root (root_read root) ks) k ⊎ ReadUnsound img root (nodes_after img root (root_read root) ks) k
  after-read-or-not o = read-or-not img root k (nodes_after img root (root_read root) ks) (after-judged img root o ks)

-- ---- 6, after what the leaf says

pub ranged-is : (k : ℕ) (a : Result (Option Part) Refusal) → ((r : Refusal) → a ≡ Err r → ⊥) → ranged k a ≡ pick (key_ok k) a (Err (refusal 6))
unfolding ranged
ranged-is k (Ok (Some x)) h = refl
ranged-is k (Ok None) h = refl
ranged-is k (Err r) h = absurd (h r refl)

-- ---- what the code needs of a root

pub root-facts : (img : List ℕ) (root : ℕ) → root_call img ≡ Ok root → (is_image_size (length img) ≡ true) × (is_page (page_count img) root ≡ true)
unfolding root_call root_from
root-facts img root e = go (is_image_size (length img)) refl (page_zero img) refl e
  where
    go : (a : Bool) → is_image_size (length img) ≡ a → (z : PageZero) → page_zero img ≡ z → pick a (root_from z) (Err (refusal 1)) ≡ Ok root →
        (is_image_size (length img) ≡ true) × (is_page (page_count img) root ≡ true)
    go false s z q f = let n : ◌≡◌ {A = ℕ} 0 1 = cc in absurd (omega arith)
    go true s Wrong q f = let n : ◌≡◌ {A = ℕ} 0 1 = cc in absurd (omega arith)
    go true s (Waiting k r) q f = let n : ◌≡◌ {A = ℕ} 0 1 = cc in absurd (omega arith)
    go true s (Ready r) q f = let same : r ≡ root = cc in (s, (ready-facts img root (q ∙ ap Ready same)).page)

pub call-opened : (img : List ℕ) (root : ℕ) → index_call img ≡ Ok root → Opened img root
call-opened img root e = subst (OpeningSays img) e (opening-says img)

pub opened-page : (img : List ℕ) (root : ℕ) → index_call img ≡ Ok root → is_page (page_count img) root ≡ true
opened-page img root e = (ready-facts img root (call-opened img root e).zero).page

-- one answer at a time
pub no-root : (img : List ℕ) (r : Refusal) → index_call img ≡ Err r → (root : ℕ) → index_call img ≡ Ok root → ⊥
no-root img r e root f =
    let z : ◌≡◌ {A = Result ℕ Refusal} (Err r) (Ok root) = sym e ∙ f in
    let n : ◌≡◌ {A = ℕ} 0 1 = cc in
    omega arith

pub root-same : (img : List ℕ) (q root : ℕ) → index_call img ≡ Ok q → index_call img ≡ Ok root → q ≡ root
root-same img q root e f = let z : ◌≡◌ {A = Result ℕ Refusal} (Ok q) (Ok root) = sym e ∙ f in cc
