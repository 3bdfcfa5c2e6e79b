-- The lines of the listing (document 01, 'The sheet program').
-- Assumes nothing.
use Rattle.std.specs.Prelude.{ℕ, List, [], ◌∷◌, ◌++◌}
use Rattle.lines.specs.Columns.{columns}
use Rattle.lines.specs.Form.{line_feed}

-- "page 4 columns, slot from 0 4, key 13, value length 4"
unfoldable pub row_bytes : ℕ → ℕ → ℕ → ℕ → List ℕ
row_bytes page slot key length = columns 4 page ++ (columns 4 slot ++ (columns 13 key ++ (columns 4 length ++ (line_feed ∷ []))))

-- "last line records, accepted and refused transactions, 8 each"
unfoldable pub total_bytes : ℕ → ℕ → ℕ → List ℕ
total_bytes records accepted refused = columns 8 records ++ (columns 8 accepted ++ (columns 8 refused ++ (line_feed ∷ [])))

-- "that line's number in 8 columns"
unfoldable pub number_bytes : ℕ → List ℕ
number_bytes n = columns 8 n ++ (line_feed ∷ [])
