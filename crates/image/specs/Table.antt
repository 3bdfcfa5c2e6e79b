-- The table of an image, and what a lookup and a next key say of it (document 01, 'The plain ledger' and 'Each call').
-- Assumes nothing.
use Rattle.std.specs.Prelude.{ℕ, ◌+◌, ◌*◌, List, [], ◌∷◌, ◌++◌, map, length, ltb, eqb, Err, None, Ok, Option, Result, Some}
use Rattle.device.specs.declared.Refusal.{Refusal}
use Rattle.image.specs.declared.Part.{Part}
use Rattle.codec.specs.Lists.{pick}
use Rattle.page.specs.Layout.{page_size, Rec}
use Rattle.page.specs.Page.{Entry, entries, records}
use Rattle.page.specs.Operations.{page_of}
use Rattle.image.specs.PageZero.{root_of}
use Rattle.page.specs.PageFormat.{PageFormat, format1}
use Rattle.image.specs.Image.{records_at, gathered, height_of}

-- the records of the leaves ps, one after the other
unfoldable pub records_on : List ℕ → List ℕ → List Rec
records_on img [] = []
records_on img (p ∷ ps) = records (page_of img p) ++ records_on img ps

-- the records of the leaves under page q of height h
unfoldable pub table_in : PageFormat → List ℕ → ℕ → ℕ → List Rec
table_in Pg img h q = gathered Pg (λ x. records_at Pg img x) (λ x. []) img h q

-- "A sound image's table is the key and value of each record that its reached leaves list, keys rising."
unfoldable pub table : List ℕ → List Rec
table img = table_in format1 img (height_of img (root_of img)) (root_of img)

-- an entry of page q with its offset in the image
abbrev pub in_image : ℕ → Entry → Entry
in_image q e = record { at = page_size * q + e.at; rec = e.rec }

-- the records of page q with their offsets in the image
abbrev pub page_entries : List ℕ → ℕ → List Entry
page_entries img q = map (in_image q) (entries (page_of img q))

-- the table with its records' offsets
unfoldable pub listing : List ℕ → List Entry
listing img = gathered format1 (λ x. page_entries img x) (λ x. []) img (height_of img (root_of img)) (root_of img)

-- the value that a table holds for the key k
unfoldable pub find : ℕ → List Rec → Option (List ℕ)
find k [] = None
find k (r ∷ rs) = pick (eqb r.key k) (Some r.value) (find k rs)

-- "Lookup answers the value's offset in the image and its length, or missing."
unfoldable pub found_in : ℕ → List Entry → Result (Option Part) Refusal
found_in k [] = Ok None
found_in k (e ∷ es) = pick (eqb e.rec.key k) (Ok (Some (record { offset = e.at + 16; length = length e.rec.value }))) (found_in k es)

-- "the smallest key above it, or none": the first of a rising list
unfoldable pub above : ℕ → List Rec → Result (Option ℕ) Refusal
above k [] = Ok None
above k (r ∷ rs) = pick (ltb k r.key) (Ok (Some r.key)) (above k rs)

-- the first answer, or where it is Last the second
abbrev pub or_else : Result (Option ℕ) Refusal → Result (Option ℕ) Refusal → Result (Option ℕ) Refusal
or_else (Ok (Some j)) y = Ok (Some j)
or_else (Ok None) y = y
or_else (Err r) y = Err r
