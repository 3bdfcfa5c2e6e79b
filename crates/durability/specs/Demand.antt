-- Demand 3: what a store holds after a list of transactions, a power failure in the next one, and a list of recoveries (document 01, 'The plain
-- ledger', and the desk's third demand). Each call is of either device (document 02 (d), "The recovered count is stated again for this device"): with
-- line stores alone, with words alone, or mixed.
-- Assumes nothing.
use Rattle.std.specs.Prelude.{ℕ, suc, ◌+◌, ◌*◌, ◌≤◌, ◌<◌, ◌≡◌, ◌⊎◌, true, false, List, [], ◌∷◌, ◌++◌, length, take, drop, eqb, Err, Ok, Result}
use Rattle.device.specs.declared.Refusal.{Refusal}
use Rattle.codec.specs.Lists.{pick}
use Rattle.device.specs.Tape.{Op, store, flush, barrier, malformed, tape_bytes}
use Rattle.device.specs.Cut.{after, cut_image, durable, line_of, touches}
use Rattle.device.specs.Calls.{work_size, tape_short, number_in}
use Rattle.page.specs.Layout.{page_size}
use Rattle.image.specs.PageZero.{page_zero}
use Rattle.image.specs.Image.{sound}
use Rattle.image.specs.Table.{table}
use Rattle.edit.specs.EditList.{edits_of, edit_list}
use Rattle.edit.specs.Ledger.{Ledger, opened, Feed, table_at}
use Rattle.journal.specs.Recovery.{recovery_tape}
use Rattle.journal.specs.declared.Way.{Way}
use Rattle.journal.specs.declared.CommitPlace.{CommitPlace}
use Rattle.journal.specs.declared.CommitPlace.TheVariants.{Header, Root, Log}
use Rattle.journal.specs.declared.Commit.{Commit}
use Rattle.transaction.specs.Calls as transaction
use Rattle.transaction.specs.Calls.{commands_on}
use Rattle.recovery.specs.Calls as recovery
use Rattle.journal.specs.declared.Redone.{Redone}

-- ---- transactions, each on the image that the last left

-- a transaction: which of the two calls it is, and what it is lent besides the image
pub record Call : Type 0 where
  pub way : Way
  pub work : List ℕ
  pub tape : List ℕ
  pub edits : List ℕ

-- the transaction k on the image a
abbrev pub on_image : List ℕ → Call → transaction.Called
on_image a k = transaction.transaction_call k.way a k.work k.tape k.edits

-- "An accepted call has run to the end, or completes, when its whole tape is done. It then leaves the image after its tape; ..
-- a refused one the image it was given."
unfoldable pub left_by : List ℕ → Result Commit Refusal → List ℕ → List ℕ
left_by a (Ok c) tape = after a (commands_on a c.bytes tape)
left_by a (Err r) tape = a

abbrev pub image_after : List ℕ → Call → List ℕ
image_after a k = left_by a (on_image a k).answer (on_image a k).tape

unfoldable pub played : List ℕ → List Call → List ℕ
played a [] = a
played a (k ∷ ks) = played (image_after a k) ks

-- how many of them are accepted
unfoldable pub accepted_in : List ℕ → List Call → ℕ
accepted_in a [] = 0
accepted_in a (k ∷ ks) = pick (transaction.is_accepted (on_image a k).answer) 1 0 + accepted_in (image_after a k) ks

-- ---- the ledger beside it

-- "It is fed each transaction's edit list and whether it was accepted"
abbrev pub feed_of : List ℕ → Call → Feed
feed_of a k = record { accepted = transaction.is_accepted (on_image a k).answer; edits = edits_of (edit_list k.edits) }

unfoldable pub feeds : List ℕ → List Call → List Feed
feeds a [] = []
feeds a (k ∷ ks) = feed_of a k ∷ feeds (image_after a k) ks

-- "That a recovered store holds j transactions means that it is sound and its table is the ledger's at count j"
pub record HoldsCount (j : ℕ) (l : Ledger) (fs : List Feed) (img : List ℕ) : Type 0 where
  pub is_sound : sound img ≡ true
  pub is_table : table img ≡ table_at j l fs

-- ---- the commit store of an accepted transaction

-- where a commit place is stored: a header at its page, the root in word 1, the log's mark in word 0
unfoldable pub place_offset : CommitPlace → ℕ
place_offset (Header p) = page_size * p
place_offset Root = 8
place_offset Log = 0

-- the number of commands before the first store at offset o
unfoldable pub store_at : ℕ → List Op → ℕ
store_at o [] = 0
store_at o (store p vs ∷ cs) = let rest = suc (store_at o cs) in pick (eqb p o) 0 rest
store_at o (flush l ∷ cs) = suc (store_at o cs)
store_at o (barrier ∷ cs) = suc (store_at o cs)
store_at o (malformed ∷ cs) = suc (store_at o cs)

-- "The commit store is the one changed place's store, or the mark's first store."
abbrev pub commit_at : CommitPlace → List Op → ℕ
commit_at place cs = store_at (place_offset place) cs

-- "whether a store is issued or flushed is judged by the commands before the cut"
abbrev pub Issued : CommitPlace → List Op → ℕ → Type 0
Issued place cs c = commit_at place cs < c

-- "The recovered count now says 'flushed and past a barrier'" (document 02 (h)): the commit store is durable
abbrev pub PastBarrier : CommitPlace → List Op → ℕ → Type 0
PastBarrier place cs c = durable (line_of (place_offset place)) (drop (suc (commit_at place cs)) (take c cs)) ≡ true

-- The commit store stands on the tape cs with its own flush next and a barrier after it, and the two words above mean what they say: it is issued
-- once its command is among the first c, and not before; it is past its barrier once that barrier is, and not before.
pub record CommitStands (place : CommitPlace) (cs : List Op) : Type 0 where
  pub before : List Op
  pub bytes : List ℕ
  pub rest : List Op
  pub shape : cs ≡ before ++ (store (place_offset place) bytes ∷ flush (line_of (place_offset place)) ∷ barrier ∷ rest)
  -- "the mark's first store": no command before it stores there
  pub first : touches before (place_offset place) ≡ false
  pub issued : (c : ℕ) → Issued place cs c → length before + 1 ≤ c
  pub issues : (c : ℕ) → length before + 1 ≤ c → Issued place cs c
  pub waited : (c : ℕ) → PastBarrier place cs c → length before + 3 ≤ c
  pub waits : (c : ℕ) → length before + 3 ≤ c → PastBarrier place cs c

-- ---- recoveries

-- a recovery: which of the two calls it is, the buffers that it is lent, and where it is cut if it is accepted
pub record Attempt : Type 0 where
  pub way : Way
  pub work : List ℕ
  pub tape : List ℕ
  pub stop : ℕ
  pub choices : ℕ → ℕ

-- "a cut one leaves what the cut keeps, a refused one the image it was given"
unfoldable pub cut_by : List ℕ → Result Redone Refusal → List ℕ → ℕ → (ℕ → ℕ) → List ℕ
cut_by a (Ok d) tape c f = cut_image a f c (commands_on a d.bytes tape)
cut_by a (Err r) tape c f = a

abbrev pub attempted : List ℕ → Attempt → List ℕ
attempted a x =
    let r = recovery.recover_call x.way a x.work x.tape in
    cut_by a r.answer r.tape x.stop x.choices

unfoldable pub attempted_all : List ℕ → List Attempt → List ℕ
attempted_all a [] = a
attempted_all a (x ∷ xs) = attempted_all (attempted a x) xs

-- "no recovery in the list is refused but with 2 or 13"
unfoldable pub Allowed : Result Redone Refusal → Type 0
Allowed (Ok d) = Unit {0}
Allowed (Err r) = (number_in r ≡ work_size) ⊎ (number_in r ≡ tape_short)

unfoldable pub AllAllowed : List ℕ → List Attempt → Type 0
AllAllowed a [] = Unit {0}
AllAllowed a (x ∷ xs) = Allowed (recovery.recover_call x.way a x.work x.tape).answer × AllAllowed (attempted a x) xs

-- ---- the demand

module _ (a : List ℕ) (ks : List Call) (k : Call) (c : ℕ) (f : ℕ → ℕ) (xs : List Attempt) (d : Commit) where
  -- the image that the transactions ks leave, and the commands of the next one, k, accepted with the answer d
  abbrev pub before : List ℕ
  before = played a ks

  abbrev pub commands : List Op
  commands = commands_on before d.bytes (on_image before k).tape

  -- power fails after c of them; "whatever first part of its stores not yet durable each line keeps": line l keeps the first f l of them
  abbrev pub failed : List ℕ
  failed = cut_image before f c commands

  -- then the recoveries xs, each refused or cut
  abbrev pub last : List ℕ
  last = attempted_all failed xs

  -- the ledger, fed every transaction, "the cut one's too"
  abbrev pub history : List Feed
  history = feeds a ks ++ (feed_of before k ∷ [])

  abbrev pub ledger : Ledger
  ledger = opened (table a)

  -- n: the transactions that the list has accepted
  abbrev pub accepted : ℕ
  accepted = accepted_in a ks

  -- "the store holds exactly n transactions before the commit store is issued, n + 1 once it is" flushed and past a barrier, "one of the two between"
  pub record Survives : Type 0 where
    pub held : ℕ
    pub one_of : (held ≡ accepted) ⊎ (held ≡ suc accepted)
    pub before_issue : (Issued d.place commands c → ⊥) → held ≡ accepted
    pub after_barrier : PastBarrier d.place commands c → held ≡ suc accepted
    -- "no recovery in the list is refused but with 2 or 13", nor is any next one
    pub only_room : AllAllowed failed xs
    pub next_only_room : (way : Way) (work tape : List ℕ) → Allowed (recovery.recover_call way last work tape).answer
    -- and with a work buffer of the image's length and room on the tape, the next one completes
    pub room_completes : (way : Way) (work tape : List ℕ) → length work ≡ length last → length (tape_bytes (recovery_tape way last (page_zero last))) ≤ length tape →
        (e : Redone) × ((recovery.recover_call way last work tape).answer ≡ Ok e)
    -- one that completes leaves a store that holds `held` transactions
    pub completes : (way : Way) (work tape : List ℕ) (e : Redone) → (recovery.recover_call way last work tape).answer ≡ Ok e →
        HoldsCount held ledger history (after last (commands_on last e.bytes (recovery.recover_call way last work tape).tape))

-- Demand 3, for every image, list, call, cut and recoveries
abbrev pub Demand3 : Type 0
Demand3 =
    (a : List ℕ) (ks : List Call) (k : Call) (c : ℕ) (f : ℕ → ℕ) (xs : List Attempt) (d : Commit) →
    sound a ≡ true → (on_image (played a ks) k).answer ≡ Ok d → Survives a ks k c f xs d
