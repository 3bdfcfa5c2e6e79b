-- Rows for empty values (document 02 (g)): an insert or update of one is refused; one that is stored is updated to a longer value, or deleted.
-- Assumes nothing.
use Rattle.std.specs.Prelude.{ℕ, List, [], ◌∷◌}
use Rattle.image.specs.Fresh.{fresh}
use Rattle.edit.specs.EditList.{insert, update, delete, listed}
use Rattle.journal.specs.declared.Way.TheVariants.{ByLine}
use Rattle.transaction.specs.Calls.{list_of}
use Rattle.worked.specs.Row.{Row, lent_tape, refusal, edit_number, start, count, records}
use Rattle.worked.specs.Rows.{value}

-- 19 "with its edit's number", and for key 0 too, "in the list check just after 7"
abbrev pub empty-second : Row
empty-second = record { setup = []; edits = insert 5 (value 8) ∷ update 5 [] ∷ []; asks = refusal ∷ edit_number ∷ records ∷ []; says = 19 ∷ 1 ∷ 0 ∷ [] }

abbrev pub empty-zero : Row
empty-zero = record { setup = []; edits = insert 0 [] ∷ []; asks = refusal ∷ edit_number ∷ []; says = 19 ∷ 0 ∷ [] }

abbrev pub empty_rows : List Row
empty_rows = empty-second ∷ empty-zero ∷ []

-- "Stored ones": a store as a transaction left it before, past the list check. 101 has an empty value, a record of 16 bytes, and 102 one of 8, a record of 24
unfoldable pub stored : List ℕ
stored = (list_of ByLine (fresh 8) (fresh 8) lent_tape (listed (insert 101 [] ∷ insert 102 (value 8) ∷ []))).work

-- "can be updated to a longer value or deleted", and to an empty one it cannot
abbrev pub stored-longer : Row
stored-longer = record { setup = []; edits = update 101 (value 8) ∷ []; asks = refusal ∷ count 2 ∷ start 2 ∷ records ∷ []; says = 0 ∷ 2 ∷ 960 ∷ 2 ∷ [] }

abbrev pub stored-deleted : Row
stored-deleted = record { setup = []; edits = delete 101 ∷ []; asks = refusal ∷ count 2 ∷ start 2 ∷ records ∷ []; says = 0 ∷ 1 ∷ 984 ∷ 1 ∷ [] }

abbrev pub stored-empty : Row
stored-empty = record { setup = []; edits = delete 102 ∷ update 101 [] ∷ []; asks = refusal ∷ edit_number ∷ records ∷ []; says = 19 ∷ 1 ∷ 2 ∷ [] }

abbrev pub stored_rows : List Row
stored_rows = stored-longer ∷ stored-deleted ∷ stored-empty ∷ []
