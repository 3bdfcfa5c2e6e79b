-- Rows for the cost of one quote (document 02 (f) and (h)): the bounds of six flushes, two barriers and 27 words are reached, as well as two flushes, and
-- a delete's one of each.
-- Assumes nothing.
use Rattle.std.specs.Prelude.{List, [], ◌∷◌}
use Rattle.edit.specs.EditList.{insert, delete}
use Rattle.worked.specs.Row.{Row, refusal, bytes, flushes, barriers, start, count, slot}
use Rattle.worked.specs.Rows.{value, insert-one}

-- A record of 48 bytes leaves the content start at 976. One of 216 then lies from offset 760, the last word of its line, to 976, two words into the fifth
-- line from there. All its 27 words differ: 27 word stores, five flushes and a barrier, the header's line, its flush and a barrier, 424 bytes in all.
abbrev pub six-flushes : Row
six-flushes =
    record {
      setup = (insert 101 (value 32) ∷ []) ∷ [];
      edits = insert 102 (value 200) ∷ [];
      asks = refusal ∷ slot 2 1 ∷ bytes ∷ flushes ∷ barriers ∷ [];
      says = 0 ∷ 760 ∷ 424 ∷ 6 ∷ 2 ∷ [];
    }

-- A delete that leaves a record: the header's line, its flush and a barrier, 76 bytes.
abbrev pub one-flush : Row
one-flush =
    record {
      setup = (insert 101 (value 8) ∷ insert 102 (value 8) ∷ []) ∷ [];
      edits = delete 101 ∷ [];
      asks = refusal ∷ count 2 ∷ start 2 ∷ bytes ∷ flushes ∷ barriers ∷ [];
      says = 0 ∷ 1 ∷ 976 ∷ 76 ∷ 1 ∷ 1 ∷ [];
    }

-- with the first row of document 01, which has two flushes
abbrev pub cost_rows : List Row
cost_rows = six-flushes ∷ insert-one ∷ one-flush ∷ []
