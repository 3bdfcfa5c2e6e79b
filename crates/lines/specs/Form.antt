-- A line of the form: its bytes, what it says, and the bytes of its edit (document 01, 'The sheet program').
-- Assumes nothing.
use Rattle.std.specs.Prelude.{ℕ, ◌+◌, ◌&&◌, List, [], ◌∷◌, ◌++◌, Option, Some, None, eqb, ltb}
use Rattle.codec.specs.Lists.{part, pick, eqs}
use Rattle.codec.specs.Numbers.{bytes_of}
use Rattle.edit.specs.EditList.{edit_of, edit_bytes}
use Rattle.lines.specs.Columns.{columns, value}
use Rattle.lines.specs.declared.Line.{Line}
use Rattle.lines.specs.declared.Line.TheVariants.{Commit, Edit}

-- "lines of 27 columns and a line feed": "kind (0 to 3) 1-2, key 3-15, price in millionths 16-27"
abbrev pub kind_columns : ℕ
kind_columns = 2

abbrev pub key_columns : ℕ
key_columns = 13

abbrev pub price_columns : ℕ
price_columns = 12

abbrev pub line_size : ℕ
line_size = kind_columns + key_columns + price_columns + 1

abbrev pub line_feed : ℕ
line_feed = 10

-- numbers, each in columns of its width, one after the other, and a line feed
unfoldable pub fields_bytes : List (ℕ × ℕ) → List ℕ
fields_bytes [] = line_feed ∷ []
fields_bytes (f ∷ fs) = columns f.0 f.1 ++ fields_bytes fs

-- the line of a kind, a key and a price
unfoldable pub line_bytes : ℕ → ℕ → ℕ → List ℕ
line_bytes kind key price = columns kind_columns kind ++ (columns key_columns key ++ (columns price_columns price ++ (line_feed ∷ [])))

-- what it says, if it is of the form: "Kind 0 with zeros commits; kind 3 has price 0."
unfoldable pub meaning : ℕ → ℕ → ℕ → Option Line
meaning kind key price =
    let edit = Some (Edit kind key price) in
    pick (eqb kind 0) (pick (eqb key 0 && eqb price 0) (Some Commit) None)
    (pick (eqb kind 3) (pick (eqb price 0) edit None)
    (pick (ltb kind 3) edit None))

-- the line at the front of t: it is of this form if it is the line of the numbers that its columns hold
unfoldable pub line_in : List ℕ → Option Line
line_in t =
    let kind = value (part t 0 kind_columns) in
    let key = value (part t kind_columns key_columns) in
    let price = value (part t (kind_columns + key_columns) price_columns) in
    pick (eqs (part t 0 line_size) (line_bytes kind key price)) (meaning kind key price) None

-- its edit in an edit list: "the value is the price in 8 bytes"
unfoldable pub line_edit : ℕ → ℕ → ℕ → List ℕ
line_edit kind key price = edit_bytes (edit_of kind key (bytes_of 8 price))
