-- What demand 3 calls a failure, a cut recovery and a transaction that completes is what the device's own calls leave: `cut` and `run` on the bytes used of the tape.
-- Assumes nothing.
use Rattle.std.specs.Prelude.{Err, Ok, Result}
use Prim.Native.Nat.{ℕ, ◌/◌, ◌≤◌}
use mathlib.Core.Path.{◌≡◌, sym, ap, ◌∙◌}
use mathlib.Core.Logic.{◌⊎◌}
use mathlib.Core.Bool.{true}
use mathlib.Core.List.{List}
use lib.ListN.{length, get_or, take}
use Rattle.device.specs.Tape.{well_formed}
use Rattle.device.specs.Calls.{accepted, run_call, cut_call, number_in}
use Rattle.device.specs.declared.Refusal.{Refusal}
use Rattle.device.proofs.Encode.{writable-formed}
use Rattle.device.proofs.Calls.{cut-accepts}
use Rattle.page.specs.Layout.{Rec}
use Rattle.journal.specs.Holds.{tape_of, Holds}
use Rattle.journal.specs.declared.Way.{Way}
use Rattle.journal.specs.declared.Commit.{Commit}
use Rattle.journal.proofs.Holds.{holds-size}
use Rattle.journal.proofs.Fitting.{recovery-fits}
use Rattle.transaction.specs.Calls.{commands_on}
use Rattle.transaction.proofs.Demand2.{acceptance, formed, demand-2}
use Rattle.recovery.specs.Calls.{recover_call}
use Rattle.journal.specs.declared.Redone.{Redone}
use Rattle.durability.specs.Demand.{Call, on_image, image_after, played, Attempt, cut_by, attempted, Allowed, failed}
use Rattle.durability.proofs.Transactions.{leaves-work}
use Rattle.durability.proofs.Attempts.{commands-are}

-- the choices that bytes say, one a line
abbrev said : List ℕ → ℕ → ℕ
said choices l = get_or choices l 0

-- ---- a transaction on the image a, accepted with the answer d

module _ (a : List ℕ) (k : Call) (d : Commit) (e : (on_image a k).answer ≡ Ok d) where
  -- "It then leaves the image after its tape": run does so
  pub left-run : (work : List ℕ) → length work ≡ length a → run_call a work (take d.bytes (on_image a k).tape) ≡ accepted (image_after a k)
  left-run work same = (demand-2 k.way a k.work k.tape k.edits d e).runs work same ∙ ap accepted (sym (leaves-work a k d e))

-- "if power fails at any command of the next accepted one": what is left is what cut leaves
pub failed-cut : (a : List ℕ) (ks : List Call) (k : Call) (c : ℕ) (xs : List Attempt) (d : Commit) → (on_image (played a ks) k).answer ≡ Ok d → (work choices : List ℕ) →
    length work ≡ length (played a ks) → length choices ≡ length (played a ks) / 64 → c ≤ length (commands_on (played a ks) d.bytes (on_image (played a ks) k).tape) →
    cut_call (played a ks) work (take d.bytes (on_image (played a ks) k).tape) c choices ≡ accepted (failed a ks k c (said choices) xs d)
failed-cut a ks k c xs d e work choices same bytes few =
    cut-accepts (played a ks) work (take d.bytes (on_image (played a ks) k).tape) choices c
    (acceptance k.way (played a ks) k.work k.tape k.edits d e).begun.size same bytes (formed k.way (played a ks) k.work k.tape k.edits d e) few

-- ---- a recovery of an image that a failure has left

module _ (t : List Rec) (img : List ℕ) (h : Holds t img) where
  -- "a cut one leaves what the cut keeps": accepted, it leaves what cut leaves
  pub attempted-cut : (way : Way) (lent tape : List ℕ) (e : Redone) → (recover_call way img lent tape).answer ≡ Ok e → (c : ℕ) (work choices : List ℕ) →
      length work ≡ length img → length choices ≡ length img / 64 → c ≤ length (commands_on img e.bytes (recover_call way img lent tape).tape) →
      cut_call img work (take e.bytes (recover_call way img lent tape).tape) c choices ≡ accepted (attempted img (record { way = way; work = lent; tape = tape; stop = c; choices = said choices }))
  unfolding cut_by
  attempted-cut way lent tape e q c work choices same bytes few =
      let cs = commands-are t img h way lent tape e q in
      let formed : well_formed (commands_on img e.bytes (recover_call way img lent tape).tape) ≡ true = ap well_formed cs ∙ writable-formed (length img) (tape_of way img) (recovery-fits way img h) in
      cut-accepts img work (take e.bytes (recover_call way img lent tape).tape) choices c (holds-size img h) same bytes formed few
      ∙ ap (λ (r : Result Redone Refusal). accepted (cut_by img r (recover_call way img lent tape).tape c (said choices))) (sym q)

-- "a refused one the image it was given"
pub attempted-refused : (img : List ℕ) (x : Attempt) (r : Refusal) → (recover_call x.way img x.work x.tape).answer ≡ Err r → attempted img x ≡ img
unfolding cut_by
attempted-refused img x r q = ap (λ (y : Result Redone Refusal). cut_by img y (recover_call x.way img x.work x.tape).tape x.stop x.choices) q

-- "refused but with 2 or 13"
pub allowed-numbers : (r : Refusal) → Allowed (Err r) → (number_in r ≡ 2) ⊎ (number_in r ≡ 13)
unfolding Allowed
allowed-numbers r h = h
