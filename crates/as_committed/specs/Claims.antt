-- A preview looks a key up "as if an edit list had been committed, without committing it" (document 02 (a)): it is held to the transaction of the same list, by either call.
-- Assumes nothing.
use Rattle.std.specs.Prelude.{ℕ, ◌≤◌, ◌<◌, ◌≡◌, ◌⊎◌, List, length, Err, Ok, Result}
use Rattle.device.specs.Calls.{number_in}
use Rattle.device.specs.declared.Refusal.{Refusal}
use Rattle.image.specs.Calls.{check_call, lookup_call}
use Rattle.image.specs.Says.{NotOpened}
use Rattle.journal.specs.declared.Way.{Way}
use Rattle.journal.specs.declared.Commit.{Commit}
use Rattle.preview.specs.Calls.{preview_call}
use Rattle.preview.specs.Says.{previewed, looked_up}
use Rattle.transaction.specs.Calls.{transaction_call}

-- accepted: a lookup of any key in the image that the transaction leaves comes to what the preview does, the same bytes, none, or 6 for a key out of range
abbrev pub AsCommitted : Type 0
AsCommitted =
    (way : Way) (a work tape bytes : List ℕ) (c : Commit) → (transaction_call way a work tape bytes).answer ≡ Ok c → (k : ℕ) →
    previewed a bytes (preview_call a bytes k) ≡ looked_up (transaction_call way a work tape bytes).work (lookup_call (transaction_call way a work tape bytes).work k)

-- refused for the image, the list or a key, so not with 2 for its work buffer nor with 10 to 13 for want of room, and with 4 only for page 0 or the root page, which both read: so is the preview
-- of a key in range, with the same number and edit number
abbrev pub RefusedAlike : Type 0
RefusedAlike =
    (way : Way) (a work tape bytes : List ℕ) (r : Refusal) → (transaction_call way a work tape bytes).answer ≡ Err r → (10 ≤ number_in r → 13 < number_in r) → (number_in r ≡ 2 → ⊥) → (number_in r ≡ 4 → NotOpened a r) →
    (k : ℕ) → 1 ≤ k → k ≤ 999999999999 → preview_call a bytes k ≡ Err r

-- the transaction's answer is a refusal: the preview's refusal r; or that an edit before that of r has too little room (10 or 11), which a preview does not ask for; or that the image is
-- unsound (4), where the preview is refused for a list or a key that it comes to first
abbrev pub RefusedSo : List ℕ → Refusal → Result Commit Refusal → Type 0
RefusedSo a r answer = (s : Refusal) × (answer ≡ Err s) × ((s ≡ r) ⊎ (((10 ≤ number_in s) × (number_in s ≤ 11) × (s.edit < r.edit)) ⊎ ((number_in s ≡ 4) × (check_call a ≡ Err s))))

-- and the other way: where the preview of a key in range is refused, the transaction with a work buffer of the image's length is refused so
abbrev pub RefusedToo : Type 0
RefusedToo =
    (way : Way) (a work tape bytes : List ℕ) → length work ≡ length a → (k : ℕ) → 1 ≤ k → k ≤ 999999999999 → (r : Refusal) → preview_call a bytes k ≡ Err r →
    RefusedSo a r (transaction_call way a work tape bytes).answer
