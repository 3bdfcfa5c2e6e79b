-- A transaction on a sound image, accepted or refused: the image that it leaves is sound, and its table is the ledger's.
-- Assumes nothing.
use Rattle.std.specs.Prelude.{Err, Ok, Result}
use Prim.Native.Nat.{ℕ}
use mathlib.Core.Path.{◌≡◌, refl, sym, ap, ◌∙◌}
use mathlib.Core.Bool.{true}
use mathlib.Core.List.{List, [], ◌∷◌}
use Rattle.device.specs.declared.Refusal.{Refusal}
use Rattle.image.specs.Image.{sound}
use Rattle.image.specs.Table.{table}
use Rattle.edit.specs.EditList.{edits_of, edit_list}
use Rattle.edit.specs.Ledger.{Ledger, apply_edits, fed, Feed, ledger_after}
use Rattle.journal.specs.declared.Commit.{Commit}
use Rattle.transaction.specs.Calls.{is_accepted}
use Rattle.transaction.specs.Demand2.{Makes}
use Rattle.transaction.proofs.Demand2.{demand-2}
use Rattle.durability.specs.Demand.{Call, on_image, left_by, image_after, played, feed_of, feeds}

-- ---- accepted

module _ (a : List ℕ) (k : Call) (d : Commit) (e : (on_image a k).answer ≡ Ok d) where
  made : Makes a k.tape k.edits d (on_image a k)
  made = demand-2 k.way a k.work k.tape k.edits d e

  -- what it leaves is the work image
  pub leaves-work : image_after a k ≡ (on_image a k).work
  unfolding left_by
  leaves-work = ap (λ (r : Result Commit Refusal). left_by a r (on_image a k).tape) e ∙ made.leaves

  pub accepted-feed : feed_of a k ≡ record { accepted = true; edits = edits_of (edit_list k.edits) }
  unfolding is_accepted
  accepted-feed = λ i. record { accepted = ap is_accepted e i; edits = edits_of (edit_list k.edits) }

-- ---- either way

-- the ledger that holds the table of a, fed the transaction, holds the table of the image that it leaves
pub record Kept (a : List ℕ) (k : Call) (l : Ledger) : Type 0 where
  pub is_sound : sound (image_after a k) ≡ true
  pub is_table : (fed (feed_of a k).accepted (feed_of a k).edits l).table ≡ table (image_after a k)

pub keeps : (a : List ℕ) → sound a ≡ true → (k : Call) (l : Ledger) → l.table ≡ table a → Kept a k l
unfolding fed left_by is_accepted
keeps a s k l q = go (on_image a k).answer refl
  where
    go : (r : Result Commit Refusal) → (on_image a k).answer ≡ r → Kept a k l
    go (Ok d) e =
        record {
          is_sound = ap sound (leaves-work a k d e) ∙ (made a k d e).is_sound;
          is_table =
              ap (λ (f : Feed). (fed f.accepted f.edits l).table) (accepted-feed a k d e)
              ∙ ap (apply_edits (edits_of (edit_list k.edits))) q
              ∙ sym (ap table (leaves-work a k d e) ∙ (made a k d e).is_table);
        }
    go (Err r) e =
        let stays : image_after a k ≡ a = ap (λ (x : Result Commit Refusal). left_by a x (on_image a k).tape) e in
        record {
          is_sound = ap sound stays ∙ s;
          is_table = ap (λ (x : Result Commit Refusal). (fed (is_accepted x) (feed_of a k).edits l).table) e ∙ q ∙ sym (ap table stays);
        }

-- ---- the whole list

pub played-sound : (ks : List Call) (a : List ℕ) → sound a ≡ true → sound (played a ks) ≡ true
unfolding played
played-sound [] a s = s
played-sound (k ∷ ks) a s = played-sound ks (image_after a k) (keeps a s k (record { table = table a; count = 0 }) refl).is_sound

pub played-table : (ks : List Call) (a : List ℕ) → sound a ≡ true → (l : Ledger) → l.table ≡ table a → (ledger_after l (feeds a ks)).table ≡ table (played a ks)
unfolding played feeds ledger_after
played-table [] a s l q = q
played-table (k ∷ ks) a s l q =
    let h = keeps a s k l q in
    played-table ks (image_after a k) h.is_sound (fed (feed_of a k).accepted (feed_of a k).edits l) h.is_table
