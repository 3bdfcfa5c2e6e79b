-- The calls of the two devices beside each other (document 02 (d) and (h)): the groups of flushes on their tapes, what the tapes without line stores
-- are made of, and in what the answers and images of the two calls can differ.
-- Assumes nothing.
use Rattle.std.specs.Prelude.{ℕ, ◌≡◌, ◌⊎◌, List, Err, Ok, Result}
use Rattle.codec.specs.Lists.{All}
use Rattle.device.specs.Tape.{Op, flush_count}
use Rattle.device.specs.Calls.{tape_short, Answer, number_in}
use Rattle.device.specs.declared.Refusal.{Refusal}
use Rattle.journal.specs.Way.{IsWord}
use Rattle.journal.specs.Order.{Grouped}
use Rattle.journal.specs.Log.{SameButLog}
use Rattle.journal.specs.declared.Way.{Way}
use Rattle.journal.specs.declared.Way.TheVariants.{ByWords}
use Rattle.journal.specs.declared.Commit.{Commit}
use Rattle.journal.specs.declared.CommitPlace.TheVariants.{Root, Log}
use Rattle.transaction.specs.Calls.{commands_on, transaction_call}
use Rattle.recovery.specs.Calls.{recover_call}
use Rattle.journal.specs.declared.Redone.{Redone}

-- ---- on both devices

-- "Each unbroken group of flushes on every tape is followed by one barrier": a transaction's and a recovery's
abbrev pub TransactionGroups : Type 0
TransactionGroups =
    (way : Way) (a work tape bytes : List ℕ) (c : Commit) → (transaction_call way a work tape bytes).answer ≡ Ok c →
    Grouped (commands_on a c.bytes (transaction_call way a work tape bytes).tape)

abbrev pub RecoveryGroups : Type 0
RecoveryGroups =
    (way : Way) (a work tape : List ℕ) (e : Redone) → (recover_call way a work tape).answer ≡ Ok e → Grouped (commands_on a e.bytes (recover_call way a work tape).tape)

-- ---- without line stores

-- "use no kind 2 command": every store on the tape is of 8 bytes; and the answer's flushes are those on the tape
pub record WordTape (cs : List Op) (flushes : ℕ) : Type 0 where
  pub words : All IsWord cs
  pub counts : flushes ≡ flush_count cs

-- "A change of the root word alone still commits by that word; a change of any header, even one, goes through the log": an accepted
-- transaction commits by one of the two, never by a header
abbrev pub TransactionWords : Type 0
TransactionWords =
    (a work tape bytes : List ℕ) (c : Commit) → (transaction_call ByWords a work tape bytes).answer ≡ Ok c →
    WordTape (commands_on a c.bytes (transaction_call ByWords a work tape bytes).tape) c.flushes × ((c.place ≡ Root) ⊎ (c.place ≡ Log))

abbrev pub RecoveryWords : Type 0
RecoveryWords =
    (a work tape : List ℕ) (e : Redone) → (recover_call ByWords a work tape).answer ≡ Ok e →
    WordTape (commands_on a e.bytes (recover_call ByWords a work tape).tape) e.flushes

-- ---- the two calls on one image, with one work buffer and one list, each with a tape of its own

-- whether a call is accepted, and else its refusal
unfoldable pub transaction_says : Result Commit Refusal → Answer
transaction_says (Ok c) = Ok tt
transaction_says (Err r) = Err r

unfoldable pub recovery_says : Result Redone Refusal → Answer
recovery_says (Ok e) = Ok tt
recovery_says (Err r) = Err r

-- accepted, or refused with 13: what is asked before the tape holds
unfoldable pub AtTape : Answer → Type 0
AtTape (Ok done) = Unit {0}
AtTape (Err r) = number_in r ≡ tape_short

-- Two calls that say x and y and leave the work m and n. "Refused: as in the present calls": the same refusal and the same work; or each is
-- accepted or refused with 13, and where both are accepted, what they leave is so related.
pub data Alike (Related : List ℕ → List ℕ → Type 0) (x y : Answer) (m n : List ℕ) : Type 0 where
  refused : (r : Refusal) → x ≡ Err r → y ≡ Err r → m ≡ n → Alike Related x y m n
  at-tape : AtTape x → AtTape y → (x ≡ Ok tt → y ≡ Ok tt → Related m n) → Alike Related x y m n

-- "After an accepted call, work matches the line-store device's but for log lines."
abbrev pub BothCalls : Type 0
BothCalls =
    (v u : Way) (a work s t bytes : List ℕ) →
    let r = transaction_call v a work s bytes in
    let q = transaction_call u a work t bytes in
    Alike SameButLog (transaction_says r.answer) (transaction_says q.answer) r.work q.work

-- two recoveries leave the same image
abbrev pub BothRecoveries : Type 0
BothRecoveries =
    (v u : Way) (a work s t : List ℕ) →
    let r = recover_call v a work s in
    let q = recover_call u a work t in
    Alike (λ (m n : List ℕ). m ≡ n) (recovery_says r.answer) (recovery_says q.answer) r.work q.work
