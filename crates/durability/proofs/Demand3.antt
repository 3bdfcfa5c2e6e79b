-- Demand 3: after any list of transactions, a power failure at any command of the next accepted one, and any recoveries, the store holds
-- exactly the transactions that it must.
-- Assumes nothing.
use Rattle.std.specs.Prelude.{Ok}
use Prim.Native.Nat.{ℕ, suc, ◌+◌, ◌≤◌}
use mathlib.Core.Path.{◌≡◌, refl, sym, ap, ap₂, ◌∙◌, subst}
use mathlib.Core.Logic.{◌⊎◌, inl, inr}
use mathlib.Core.Bool.{Bool, true, false, true≢false}
use mathlib.Core.List.{List, [], ◌∷◌, ◌++◌}
use native.Mathlib.Decide.{dec_le}
use native.Mathlib.Omega.{arith}
use lib.ListN.{take, drop}
use Rattle.codec.specs.Lists.{pick}
use Rattle.device.specs.Tape.{Op}
use Rattle.device.specs.Cut.{durable, line_of}
use Rattle.device.proofs.Segments.{durable-late}
use Rattle.page.specs.Layout.{Rec}
use Rattle.image.specs.Image.{sound}
use Rattle.image.specs.Table.{table}
use Rattle.edit.specs.EditList.{edits_of, edit_list}
use Rattle.edit.specs.Ledger.{opened, apply_edits, Feed, ledger_after, table_at, accepted_of}
use Rattle.edit.proofs.Counts.{ledger-count, table-last, table-next}
use Rattle.journal.specs.declared.Commit.{Commit}
use Rattle.journal.specs.Holds.{Holds, CutHolds}
use Rattle.transaction.specs.Calls.{is_accepted}
use Rattle.transaction.proofs.Demand2.{target, target-table}
use Rattle.durability.specs.Demand.{Call, on_image, played, image_after, accepted_in, feed_of, feeds, Attempt, place_offset, commit_at, Issued, PastBarrier, commands, failed, last, history, ledger, accepted, Survives, Demand3}
use Rattle.durability.proofs.Transactions.{accepted-feed, played-table}
use Rattle.durability.proofs.Attempts.{holds-allowed, holds-accepted, completed, attempts-hold, attempts-allowed}
use Rattle.durability.proofs.Committed.{commit-cut}

-- ---- n

-- the accepted ones among the feeds are those of the list
pub accepted-feeds : (a : List ℕ) (ks : List Call) → accepted_of (feeds a ks) ≡ accepted_in a ks
unfolding accepted_of feeds accepted_in
accepted-feeds a [] = refl
accepted-feeds a (k ∷ ks) = ap (λ (n : ℕ). pick (is_accepted (on_image a k).answer) 1 0 + n) (accepted-feeds (image_after a k) ks)

pub count-accepted : (a : List ℕ) (ks : List Call) → (ledger_after (opened (table a)) (feeds a ks)).count ≡ accepted_in a ks
count-accepted a ks = ledger-count (table a) (feeds a ks) ∙ accepted-feeds a ks

-- the ledger's tables at n, whatever it is fed next, and at n + 1, where the next transaction is accepted
module _ (a : List ℕ) (ks : List Call) (k : Call) where
  abbrev fed_all : List Feed
  fed_all = feeds a ks ++ (feed_of (played a ks) k ∷ [])

  pub table-at-n : table_at (accepted_in a ks) (opened (table a)) fed_all ≡ (ledger_after (opened (table a)) (feeds a ks)).table
  table-at-n =
      ap (λ (j : ℕ). table_at j (opened (table a)) fed_all) (sym (count-accepted a ks)) ∙ table-last (opened (table a)) (feeds a ks) (feed_of (played a ks) k ∷ [])

  pub table-at-next : (d : Commit) → (on_image (played a ks) k).answer ≡ Ok d →
      table_at (suc (accepted_in a ks)) (opened (table a)) fed_all ≡ apply_edits (edits_of (edit_list k.edits)) (ledger_after (opened (table a)) (feeds a ks)).table
  table-at-next d e =
      ap₂ (λ (j : ℕ) (g : Feed). table_at (suc j) (opened (table a)) (feeds a ks ++ (g ∷ []))) (sym (count-accepted a ks)) (accepted-feed (played a ks) k d e)
      ∙ table-next (opened (table a)) (feeds a ks) (edits_of (edit_list k.edits))

-- ---- every cut

module _ (a : List ℕ) (ks : List Call) (k : Call) (c : ℕ) (f : ℕ → ℕ) (xs : List Attempt) (d : Commit) (s : sound a ≡ true)
    (e : (on_image (played a ks) k).answer ≡ Ok d) where
  abbrev img : List ℕ
  img = played a ks

  -- the edited image of the next one
  abbrev w : List ℕ
  w = target k.way img k.work k.tape k.edits d e

  abbrev cs : List Op
  cs = commands a ks k c f xs d

  abbrev n : ℕ
  n = accepted a ks k c f xs d

  -- the ledger's tables at n and at n + 1
  table-n : table img ≡ table_at n (ledger a ks k c f xs d) (history a ks k c f xs d)
  table-n =
      sym (played-table ks a s (opened (table a)) refl) ∙ sym (table-at-n a ks k)

  table_more : table w ≡ table_at (suc n) (ledger a ks k c f xs d) (history a ks k c f xs d)
  table_more =
      target-table k.way img k.work k.tape k.edits d e
      ∙ ap (apply_edits (edits_of (edit_list k.edits))) (sym (played-table ks a s (opened (table a)) refl))
      ∙ sym (table-at-next a ks k d e)

  -- the image that the failure leaves decides what is held
  survives : (j : ℕ) → (j ≡ n) ⊎ (j ≡ suc n) → ((Issued d.place cs c → ⊥) → j ≡ n) → (PastBarrier d.place cs c → j ≡ suc n) →
      Holds (table_at j (ledger a ks k c f xs d) (history a ks k c f xs d)) (failed a ks k c f xs d) → Survives a ks k c f xs d
  survives j o b g h =
      let t = table_at j (ledger a ks k c f xs d) (history a ks k c f xs d) in
      let img-last = attempts-hold xs t (failed a ks k c f xs d) h in
      record {
        held = j;
        one_of = o;
        before_issue = b;
        after_barrier = g;
        only_room = attempts-allowed xs t (failed a ks k c f xs d) h;
        next_only_room = holds-allowed t (last a ks k c f xs d) img-last;
        room_completes = holds-accepted t (last a ks k c f xs d) img-last;
        completes = λ way work tape r q.
            let u = completed t (last a ks k c f xs d) img-last way work tape r q in
            record { is_sound = u.0; is_table = u.1 };
      }

  old : Holds (table img) (failed a ks k c f xs d) → (PastBarrier d.place cs c → ⊥) → Survives a ks k c f xs d
  old h g =
      survives n (inl refl) (λ z. refl) (λ z. absurd (g z)) (subst (λ (t : List Rec). Holds t (failed a ks k c f xs d)) table-n h)

  new : Holds (table w) (failed a ks k c f xs d) → Issued d.place cs c → Survives a ks k c f xs d
  new h i =
      survives (suc n) (inr refl) (λ z. absurd (z i)) (λ z. refl) (subst (λ (t : List Rec). Holds t (failed a ks k c f xs d)) table_more h)

  all-cuts : Survives a ks k c f xs d
  all-cuts = go (dec_le c at) (durable l (drop (suc at) (take c cs))) refl
    where
      at : ℕ
      at = commit_at d.place cs

      l : ℕ
      l = line_of (place_offset d.place)

      cut : CutHolds (table img) (table w) img cs at l f c
      cut = commit-cut img k d e f c

      between : (PastBarrier d.place cs c → ⊥) → Issued d.place cs c → Holds (table img) (failed a ks k c f xs d) ⊎ Holds (table w) (failed a ks k c f xs d) → Survives a ks k c f xs d
      between g i (inl h) = old h g
      between g i (inr h) = new h i

      go : Dec (c ≤ at) → (t : Bool) → durable l (drop (suc at) (take c cs)) ≡ t → Survives a ks k c f xs d
      go (yes h) t q = old (cut.unissued h) (λ g. omega (arith, durable-late l (suc at) c cs g))
      go (no h) true q = new (cut.committed q) (omega arith)
      go (no h) false q = between (λ g. true≢false (sym g ∙ q)) (omega arith) cut.between

pub demand-3 : Demand3
demand-3 = all-cuts
