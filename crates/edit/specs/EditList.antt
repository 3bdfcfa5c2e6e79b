-- The edit list: its edits, and the first fault that refuses it (document 01, 'Edits', and 'Transaction' in 'Each call'; document 02 (g)).
-- Assumes nothing.
use Rattle.std.specs.Prelude.{ℕ, zero, suc, ◌+◌, ◌&&◌, ◌||◌, List, [], ◌∷◌, ◌++◌, length, get_or, drop, eqb, ltb}
use Rattle.codec.specs.Lists.{part, pick}
use Rattle.codec.specs.Numbers.{number, bytes_of}
use Rattle.device.specs.Calls.{bad_list, key_range, long_value, empty_value}
use Rattle.page.specs.Layout.{value_most}
use Rattle.image.specs.Calls.{key_ok}

-- an edit: its key, and the new value of an insert or an update
pub data Edit : Type 0 where
  insert : ℕ → List ℕ → Edit
  update : ℕ → List ℕ → Edit
  delete : ℕ → Edit

abbrev pub key_of : Edit → ℕ
key_of (insert k v) = k
key_of (update k v) = k
key_of (delete k) = k

-- "An edit list has 1 to 16 edits"
abbrev pub edits_most : ℕ
edits_most = 16

-- the bytes of an edit before its value: kind (1), value length (1) and key (8)
abbrev pub head_size : ℕ
head_size = 10

-- "kind (1 insert, 2 update, 3 delete), value length (1 byte; 0 for delete), key (8), value"
unfoldable pub edit_bytes : Edit → List ℕ
edit_bytes (insert k v) = 1 ∷ length v ∷ (bytes_of 8 k ++ v)
edit_bytes (update k v) = 2 ∷ length v ∷ (bytes_of 8 k ++ v)
edit_bytes (delete k) = 3 ∷ 0 ∷ bytes_of 8 k

-- the fields of the edit at the front of the bytes t
abbrev pub kind_in : List ℕ → ℕ
kind_in t = get_or t 0 0

abbrev pub length_in : List ℕ → ℕ
length_in t = get_or t 1 0

abbrev pub key_in : List ℕ → ℕ
key_in t = number (part t 2 8)

-- the edit of this kind, key and value
unfoldable pub edit_of : ℕ → ℕ → List ℕ → Edit
edit_of kind k v = pick (eqb kind 1) (insert k v) (pick (eqb kind 2) (update k v) (delete k))

unfoldable pub edit_in : List ℕ → Edit
edit_in t = edit_of (kind_in t) (key_in t) (part t head_size (length_in t))

-- why the edit at the front of t refuses the list, in this order, or 0: "5 (.. head cut short, unknown kind, delete with a length),
-- 7 length above 200, 5 value cut short, 6", and 19 "for an insert or update of length 0, .. just after 7"
unfoldable pub fault_in : List ℕ → ℕ
fault_in t =
    pick (ltb (length t) head_size) bad_list
    (pick (ltb (kind_in t) 1 || ltb 3 (kind_in t)) bad_list
    (pick (eqb (kind_in t) 3 && ltb 0 (length_in t)) bad_list
    (pick (ltb value_most (length_in t)) long_value
    (pick (ltb (kind_in t) 3 && eqb (length_in t) 0) empty_value
    (pick (ltb (length t) (head_size + length_in t)) bad_list
    (pick (key_ok (key_in t)) 0 key_range))))))

-- a list read: its edits, or a refusal's number with the number of the first faulty edit
pub data Listed : Type 0 where
  listed : List Edit → Listed
  faulty : ℕ → ℕ → Listed

-- the edits that were read
abbrev pub edits_of : Listed → List Edit
edits_of (listed es) = es
edits_of (faulty k i) = []

unfoldable pub joined : Edit → Listed → Listed
joined e (listed es) = listed (e ∷ es)
joined e (faulty k i) = faulty k i

-- the edits of t, the first of which is edit i, where n more are allowed: "a seventeenth" is faulty
unfoldable pub edits_in : ℕ → ℕ → List ℕ → Listed
edits_in zero i [] = listed []
edits_in zero i (b ∷ t) = faulty bad_list i
edits_in (suc n) i [] = listed []
edits_in (suc n) i (b ∷ t) =
    let u = b ∷ t in
    let rest = edits_in n (suc i) (drop (head_size + length_in u) u) in
    pick (eqb (fault_in u) 0) (joined (edit_in u) rest) (faulty (fault_in u) i)

-- the list: "5 (no edit, ..)"
unfoldable pub edit_list : List ℕ → Listed
edit_list [] = faulty bad_list 0
edit_list (b ∷ t) = edits_in edits_most 0 (b ∷ t)
