-- What a store holds after any list of days, each of them transactions, a power failure in the next one, recoveries that are refused or cut,
-- and one that completes (document 01, 'The plain ledger', and the desk's third demand).
-- Assumes nothing.
use Rattle.std.specs.Prelude.{ℕ, ◌+◌, ◌≡◌, Bool, true, false, List, [], ◌∷◌, ◌++◌, Ok}
use Rattle.codec.specs.Lists.{pick}
use Rattle.device.specs.Tape.{Op}
use Rattle.device.specs.Cut.{after}
use Rattle.image.specs.Image.{sound}
use Rattle.image.specs.Table.{table}
use Rattle.edit.specs.EditList.{edits_of, edit_list}
use Rattle.edit.specs.Ledger.{opened, Feed, ledger_after}
use Rattle.journal.specs.declared.Way.{Way}
use Rattle.journal.specs.declared.Commit.{Commit}
use Rattle.transaction.specs.Calls.{commands_on}
use Rattle.recovery.specs.Calls as recovery
use Rattle.journal.specs.declared.Redone.{Redone}
use Rattle.durability.specs.Demand.{Call, on_image, played, accepted_in, feeds, Attempt, AllAllowed, Issued, PastBarrier, commands, failed, last}

-- ---- a day

pub record Day : Type 0 where
  -- the transactions of the day, and the next one, with its answer
  pub calls : List Call
  pub next : Call
  pub commit : Commit
  -- power fails after `stop` of its commands; line l keeps the first `choices l` of its stores that are not durable
  pub stop : ℕ
  pub choices : ℕ → ℕ
  -- the recoveries that are refused or cut
  pub attempts : List Attempt
  -- and the one that completes: which call it is, the buffers that it is lent, and its answer
  pub way : Way
  pub work : List ℕ
  pub tape : List ℕ
  pub redone : Redone

-- the commands of the transaction that the failure cuts, the image that it leaves, and the image before the last recovery
abbrev pub cut_commands : List ℕ → Day → List Op
cut_commands a y = commands a y.calls y.next y.stop y.choices y.attempts y.commit

abbrev pub failed_of : List ℕ → Day → List ℕ
failed_of a y = failed a y.calls y.next y.stop y.choices y.attempts y.commit

abbrev pub last_of : List ℕ → Day → List ℕ
last_of a y = last a y.calls y.next y.stop y.choices y.attempts y.commit

-- the day's two accepted calls answer as it says
pub record DayRuns (a : List ℕ) (y : Day) : Type 0 where
  pub accepts : (on_image (played a y.calls) y.next).answer ≡ Ok y.commit
  pub recovers : (recovery.recover_call y.way (last_of a y) y.work y.tape).answer ≡ Ok y.redone

-- "An accepted call has run to the end, or completes, when its whole tape is done. It then leaves the image after its tape": the last recovery's
unfoldable pub day_end : List ℕ → Day → List ℕ
day_end a y = after (last_of a y) (commands_on (last_of a y) y.redone.bytes (recovery.recover_call y.way (last_of a y) y.work y.tape).tape)

-- ---- days, each from the store that the last left

unfoldable pub Days : List ℕ → List Day → Type 0
Days a [] = Unit {0}
Days a (y ∷ ys) = DayRuns a y × Days (day_end a y) ys

unfoldable pub days_end : List ℕ → List Day → List ℕ
days_end a [] = a
days_end a (y ∷ ys) = days_end (day_end a y) ys

-- ---- which of the cut transactions survived: a Bool a day

-- not one whose commit store was not issued before the cut; one whose commit store was past its barrier
pub record Decides (a : List ℕ) (y : Day) (b : Bool) : Type 0 where
  pub before_issue : (Issued y.commit.place (cut_commands a y) y.stop → ⊥) → b ≡ false
  pub after_barrier : PastBarrier y.commit.place (cut_commands a y) y.stop → b ≡ true

unfoldable pub Decided : List ℕ → List Day → List Bool → Type 0
Decided a [] [] = Unit {0}
Decided a [] (b ∷ bs) = ⊥
Decided a (y ∷ ys) [] = ⊥
Decided a (y ∷ ys) (b ∷ bs) = Decides a y b × Decided (day_end a y) ys bs

-- what the ledger is fed: each day's transactions with their answers, and the cut one as accepted if it survived
unfoldable pub survivors : List ℕ → List Day → List Bool → List Feed
survivors a [] bs = []
survivors a (y ∷ ys) [] = []
survivors a (y ∷ ys) (b ∷ bs) = feeds a y.calls ++ (record { accepted = b; edits = edits_of (edit_list y.next.edits) } ∷ survivors (day_end a y) ys bs)

-- the accepted transactions of all days, and the cut ones that survived
unfoldable pub accepted_days : List ℕ → List Day → ℕ
accepted_days a [] = 0
accepted_days a (y ∷ ys) = accepted_in a y.calls + accepted_days (day_end a y) ys

unfoldable pub survived_days : List Bool → ℕ
survived_days [] = 0
survived_days (b ∷ bs) = pick b 1 0 + survived_days bs

-- "no recovery in the list is refused but with 2 or 13", on any day
unfoldable pub DaysAllowed : List ℕ → List Day → Type 0
DaysAllowed a [] = Unit {0}
DaysAllowed a (y ∷ ys) = AllAllowed (failed_of a y) y.attempts × DaysAllowed (day_end a y) ys

-- ---- the claim

-- the store at the end is sound, and holds exactly the transactions that survived
pub record DaysHold (a : List ℕ) (ys : List Day) : Type 0 where
  pub survived : List Bool
  pub decided : Decided a ys survived
  pub is_sound : sound (days_end a ys) ≡ true
  pub is_table : table (days_end a ys) ≡ (ledger_after (opened (table a)) (survivors a ys survived)).table
  pub only_room : DaysAllowed a ys
  pub is_count : (ledger_after (opened (table a)) (survivors a ys survived)).count ≡ accepted_days a ys + survived_days survived
