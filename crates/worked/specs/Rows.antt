-- The rows that document 01 marks with *, in its order, with its numbers, and those of document 02 (h) where that moves them.
-- Assumes nothing.
use Rattle.std.specs.Prelude.{ℕ, zero, suc, List, [], ◌∷◌, replicate}
use Rattle.edit.specs.EditList.{Edit, insert, update, delete}
use Rattle.worked.specs.Row.{Row, refusal, edit_number, bytes, flushes, commands, start, count, slot, is_reached, records}

-- a value of n bytes, none of them zero
unfoldable pub value : ℕ → List ℕ
value n = replicate n 7

-- inserts of 8-byte values (records of 24 bytes) under n keys from k on
unfoldable pub inserts : ℕ → ℕ → List Edit
inserts zero k = []
inserts (suc n) k = insert k (value 8) ∷ inserts n (suc k)

-- "Fresh, 8 pages; insert 101 with 8 value bytes, none zero: offset 1,000; words 381-383; flush 47; line 32; flush 32; [..] 2 flushes.", each flush
-- with its barrier: "The first two worked tapes become 120 and 108 bytes." (document 02 (h))
abbrev pub insert-one : Row
insert-one =
    record {
      setup = [];
      edits = insert 101 (value 8) ∷ [];
      asks = refusal ∷ slot 2 0 ∷ commands ∷ bytes ∷ flushes ∷ [];
      says = 0 ∷ 1000 ∷ 1 ∷ 381 ∷ 1 ∷ 382 ∷ 1 ∷ 383 ∷ 3 ∷ 47 ∷ 4 ∷ 0 ∷ 2 ∷ 32 ∷ 3 ∷ 32 ∷ 4 ∷ 0 ∷ 120 ∷ 2 ∷ [];
    }

-- "The same, value all zero bytes": 108 bytes
abbrev pub insert-zeros : Row
insert-zeros = record { setup = []; edits = insert 101 (replicate 8 0) ∷ []; asks = refusal ∷ bytes ∷ []; says = 0 ∷ 108 ∷ [] }

-- "Empty list: 5. Seventeen edits: 5, edit 16."
abbrev pub no-edit : Row
no-edit = record { setup = []; edits = []; asks = refusal ∷ edit_number ∷ []; says = 5 ∷ 0 ∷ [] }

abbrev pub seventeen : Row
seventeen = record { setup = []; edits = inserts 17 1; asks = refusal ∷ edit_number ∷ []; says = 5 ∷ 16 ∷ [] }

-- "Value 200 accepted (216 bytes); 201: 7."
abbrev pub value-200 : Row
value-200 = record { setup = []; edits = insert 101 (value 200) ∷ []; asks = refusal ∷ start 2 ∷ []; says = 0 ∷ 808 ∷ [] }

abbrev pub value-201 : Row
value-201 = record { setup = []; edits = insert 101 (value 201) ∷ []; asks = refusal ∷ []; says = 7 ∷ [] }

-- "Key 0: 6; 999,999,999,999 accepted; one more: 6."
abbrev pub key-zero : Row
key-zero = record { setup = []; edits = insert 0 (value 8) ∷ []; asks = refusal ∷ []; says = 6 ∷ [] }

abbrev pub key-top : Row
key-top = record { setup = []; edits = insert 999999999999 (value 8) ∷ []; asks = refusal ∷ records ∷ []; says = 0 ∷ 1 ∷ [] }

abbrev pub key-past : Row
key-past = record { setup = []; edits = insert 1000000000000 (value 8) ∷ []; asks = refusal ∷ []; says = 6 ∷ [] }

-- "Fresh, 8 pages, then 28 records of 24 bytes with no copy, and one more of 24: 15 left on page 7, 14 right on page 6; index start 952; page 2 free."
abbrev pub twenty-eight : Row
twenty-eight = record { setup = inserts 14 1 ∷ []; edits = inserts 14 15; asks = refusal ∷ count 2 ∷ is_reached 2 ∷ []; says = 0 ∷ 28 ∷ 1 ∷ [] }

abbrev pub one_more : Row
one_more =
    record {
      setup = inserts 14 1 ∷ inserts 14 15 ∷ [];
      edits = insert 29 (value 8) ∷ [];
      asks = refusal ∷ count 7 ∷ count 6 ∷ is_reached 7 ∷ is_reached 6 ∷ start 1 ∷ is_reached 2 ∷ [];
      says = 0 ∷ 15 ∷ 14 ∷ 1 ∷ 1 ∷ 952 ∷ 0 ∷ [];
    }

-- "Four of 216: an 80-byte value fits, start 64; 81 splits 3 and 2 if its key is largest."
abbrev pub four : List Edit
four = insert 1 (value 200) ∷ insert 2 (value 200) ∷ insert 3 (value 200) ∷ insert 4 (value 200) ∷ []

abbrev pub value-80 : Row
value-80 = record { setup = four ∷ []; edits = insert 5 (value 80) ∷ []; asks = refusal ∷ start 2 ∷ is_reached 2 ∷ []; says = 0 ∷ 64 ∷ 1 ∷ [] }

abbrev pub value-81 : Row
value-81 = record { setup = four ∷ []; edits = insert 5 (value 81) ∷ []; asks = refusal ∷ count 7 ∷ count 6 ∷ is_reached 2 ∷ []; says = 0 ∷ 3 ∷ 2 ∷ 0 ∷ [] }

-- "Fresh, 8 pages, one 8-byte value, then updated by 39 transactions of one edit: start 64; the next copies it to page 7, start 1,000."
abbrev pub one-update : List Edit
one-update = update 101 (value 8) ∷ []

abbrev pub updates-39 : Row
updates-39 =
    record {
      setup = (insert 101 (value 8) ∷ []) ∷ replicate 38 one-update;
      edits = one-update;
      asks = refusal ∷ start 2 ∷ is_reached 2 ∷ [];
      says = 0 ∷ 64 ∷ 1 ∷ [];
    }

abbrev pub updates-40 : Row
updates-40 =
    record {
      setup = (insert 101 (value 8) ∷ []) ∷ replicate 39 one-update;
      edits = one-update;
      asks = refusal ∷ is_reached 7 ∷ start 7 ∷ is_reached 2 ∷ [];
      says = 0 ∷ 1 ∷ 1000 ∷ 0 ∷ [];
    }

-- "Insert 5 then delete 5 alone: accepted, table empty."
abbrev pub insert-delete : Row
insert-delete = record { setup = []; edits = insert 5 (value 8) ∷ delete 5 ∷ []; asks = refusal ∷ records ∷ []; says = 0 ∷ 0 ∷ [] }

-- the table
abbrev pub rows : List Row
rows =
    insert-one
    ∷ insert-zeros
    ∷ no-edit
    ∷ seventeen
    ∷ value-200
    ∷ value-201
    ∷ key-zero
    ∷ key-top
    ∷ key-past
    ∷ twenty-eight
    ∷ one_more
    ∷ value-80
    ∷ value-81
    ∷ updates-39
    ∷ updates-40
    ∷ insert-delete
    ∷ []
