-- A transaction whose tape follows the method, with the commit store that its commit place names, its flush and a barrier next: run, and cut anywhere.
-- Assumes nothing.
use Prim.Native.Nat.{ℕ, ◌+◌}
use mathlib.Core.Path.{◌≡◌, sym, ap, ap₂, ◌∙◌, subst}
use mathlib.Core.Bool.{true}
use mathlib.Core.List.{List, [], ◌∷◌, ◌++◌}
use native.Mathlib.Nat.{add-zero}
use lib.ListN.{length, get_or}
use lib.Seq.{get_or-append-add}
use Rattle.device.specs.Tape.{Op, store, flush, barrier, malformed}
use Rattle.device.specs.Cut.{line_of}
use Rattle.page.specs.Layout.{Rec}
use Rattle.image.specs.Image.{sound}
use Rattle.image.specs.Table.{table}
use Rattle.journal.specs.Changes.{changed_pages}
use Rattle.journal.specs.Tape.{Taken}
use Rattle.journal.specs.Commit.{commit_store, commit_line, Names}
use Rattle.journal.specs.Holds.{CutHolds}
use Rattle.journal.specs.Safe.{Safe}
use Rattle.journal.proofs.Crash.{crash}

-- the transaction x from the image a to the edited image w
pub record Follows (a w : List ℕ) (x : Taken) : Type 0 where
  pub safe : Safe a x.tape x.work
  pub commits : x.commit_at ≡ length safe.prepare
  pub is_store : commit_store w (length (changed_pages a w)) x.place ≡ store safe.place safe.bytes
  pub is_line : commit_line x.place ≡ line_of safe.place
  pub own_flush : safe.wait ≡ flush (commit_line x.place) ∷ barrier ∷ []
  pub same_table : table x.work ≡ table w
  pub names : Names a w x.place

module _ (a w : List ℕ) (x : Taken) (t : Follows a w x) where
  abbrev o : Op
  o = commit_store w (length (changed_pages a w)) x.place

  abbrev l : ℕ
  l = commit_line x.place

  pub follows-shape : x.tape ≡ t.safe.prepare ++ (o ∷ flush l ∷ barrier ∷ t.safe.rest)
  follows-shape = t.safe.shape ∙ ap₂ (λ (c : Op) (cs : List Op). t.safe.prepare ++ (c ∷ (cs ++ t.safe.rest))) (sym t.is_store) t.own_flush

  -- the commit store stands where the transaction says, its flush after it, and a barrier after that
  pub follows-commit :
      (get_or x.tape x.commit_at malformed ≡ o) × (get_or x.tape (x.commit_at + 1) malformed ≡ flush l) × (get_or x.tape (x.commit_at + 2) malformed ≡ barrier)
  follows-commit = (ap (λ (n : ℕ). get_or x.tape n malformed) (sym (add-zero x.commit_at)) ∙ at 0, at 1, at 2)
    where
      at : (n : ℕ) → get_or x.tape (x.commit_at + n) malformed ≡ get_or (o ∷ flush l ∷ barrier ∷ t.safe.rest) n malformed
      at n =
          ap₂ (λ (cs : List Op) (m : ℕ). get_or cs (m + n) malformed) follows-shape t.commits
          ∙ get_or-append-add t.safe.prepare (o ∷ flush l ∷ barrier ∷ t.safe.rest) n malformed

  pub follows-cut : sound a ≡ true → (f : ℕ → ℕ) (c : ℕ) → CutHolds (table a) (table w) a x.tape x.commit_at l f c
  follows-cut s f c =
      subst (λ (u : List Rec). CutHolds (table a) u a x.tape x.commit_at l f c) t.same_table
      (subst (λ (m : ℕ). CutHolds (table a) (table x.work) a x.tape x.commit_at m f c) (sym t.is_line)
      (subst (λ (n : ℕ). CutHolds (table a) (table x.work) a x.tape n (line_of t.safe.place) f c) (sym t.commits) (crash a x.tape x.work s t.safe f c)))
