-- Refusal 10 (document 02 (j)): "10 now means a 29th record in the top page, and is shown never to occur, with at most 63 pages past page 0."
-- Assumes nothing.
use Rattle.std.specs.Prelude.{ℕ, ◌≡◌, List, Err}
use Rattle.device.specs.Calls.{refusal_at}
use Rattle.journal.specs.declared.Way.{Way}
use Rattle.transaction.specs.Calls.{transaction_call}

-- on either device, whatever image, buffers and edit list the call is lent
abbrev pub NeverTen : Type 0
NeverTen = (way : Way) (a work tape bytes : List ℕ) (i : ℕ) → (transaction_call way a work tape bytes).answer ≡ Err (refusal_at 10 i) → ⊥
