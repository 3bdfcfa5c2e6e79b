-- The longest tapes: a transaction's has 1,600 bytes a page at most, a recovery's 1,116 or, by words, 1,536. So "13 tape too short" never comes where so
-- many are lent.
-- Assumes nothing.
use Rattle.std.specs.Prelude.{ℕ, ◌*◌, ◌/◌, ◌≤◌, ◌≡◌, List, length, Err, Ok}
use Rattle.device.specs.Calls.{number_in}
use Rattle.device.specs.declared.Refusal.{Refusal}
use Rattle.journal.specs.declared.Way.{Way}
use Rattle.journal.specs.declared.Way.TheVariants.{ByLine, ByWords}
use Rattle.journal.specs.declared.Commit.{Commit}
use Rattle.transaction.specs.Calls.{transaction_call}
use Rattle.recovery.specs.Calls.{recover_call}
use Rattle.journal.specs.declared.Redone.{Redone}

-- a transaction, on either device, on the image a: 1,600 bytes for each of its pages
abbrev pub tape_most : List ℕ → ℕ
tape_most a = 1600 * (length a / 1024)

abbrev pub TapeUsed : Type 0
TapeUsed = (way : Way) (a work tape bytes : List ℕ) (c : Commit) → (transaction_call way a work tape bytes).answer ≡ Ok c → c.bytes ≤ tape_most a

abbrev pub TapeSuffices : Type 0
TapeSuffices =
    (way : Way) (a work tape bytes : List ℕ) → tape_most a ≤ length tape → (r : Refusal) → (transaction_call way a work tape bytes).answer ≡ Err r → number_in r ≡ 13 → ⊥

-- a recovery: 15 logged headers, the root word and the mark's clearing, with two barriers
abbrev pub redo_most : Way → ℕ
redo_most ByLine = 1116
redo_most ByWords = 1536

abbrev pub RedoUsed : Type 0
RedoUsed = (way : Way) (a work tape : List ℕ) (c : Redone) → (recover_call way a work tape).answer ≡ Ok c → c.bytes ≤ redo_most way

abbrev pub RedoSuffices : Type 0
RedoSuffices =
    (way : Way) (a work tape : List ℕ) → redo_most way ≤ length tape → (r : Refusal) → (recover_call way a work tape).answer ≡ Err r → number_in r ≡ 13 → ⊥
