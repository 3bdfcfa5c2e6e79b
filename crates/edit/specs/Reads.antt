-- What an edit list is, said of its edits: proper edits, none with an empty value, their bytes end to end, and the first fault (document 01, 'Edits'; document 02 (g)).
-- Assumes nothing.
use Rattle.std.specs.Prelude.{ℕ, ◌+◌, ◌≤◌, ◌<◌, ◌≡◌, List, [], ◌∷◌, ◌++◌, ◌⊎◌, length, drop}
use Rattle.codec.specs.Lists.{All}
use Rattle.page.specs.Layout.{top_key, value_most}
use Rattle.edit.specs.EditList.{Edit, insert, update, delete, key_of, head_size, kind_in, length_in, key_in, edits_most, edit_bytes, edit_in}

-- bytes
abbrev pub Bytes : List ℕ → Type 0
Bytes l = All (λ (b : ℕ). b < 256) l

-- the value that an edit brings
abbrev pub edit_value : Edit → List ℕ
edit_value (insert k v) = v
edit_value (update k v) = v
edit_value (delete k) = []

-- "Keys are 1 to 999,999,999,999; values 0 to 200 bytes."
pub record Proper (e : Edit) : Type 0 where
  pub low : 1 ≤ key_of e
  pub high : key_of e ≤ top_key
  pub short : length (edit_value e) ≤ value_most

-- no "insert or update of length 0" (document 02 (g)). It is a rule of lists alone: a stored value may be empty, and what is said of proper edits holds for every length
abbrev pub Filled : Edit → Type 0
Filled (insert k v) = 1 ≤ length v
Filled (update k v) = 1 ≤ length v
Filled (delete k) = Unit {0}

-- "kind (1 insert, 2 update, 3 delete), value length (1 byte; 0 for delete)", of the edit at the front of t
pub record Known (t : List ℕ) : Type 0 where
  pub kind-low : 1 ≤ kind_in t
  pub kind-high : kind_in t ≤ 3
  pub delete-bare : kind_in t ≡ 3 → length_in t ≡ 0

-- no insert or update of length 0 stands at the front of t
abbrev pub FilledIn : List ℕ → Type 0
FilledIn t = kind_in t < 3 → 1 ≤ length_in t

-- the edit at the front of t has no fault
pub record Faultless (t : List ℕ) : Type 0 where
  pub known : Known t
  pub short : length_in t ≤ 200
  pub filled : FilledIn t
  pub whole : head_size + length_in t ≤ length t
  pub key-low : 1 ≤ key_in t
  pub key-high : key_in t ≤ 999999999999

-- why the edit at the front of t refuses its list, the first ground that holds, or 0: "5 (.. head cut short, unknown kind, delete with a length), 7 length
-- above 200, 5 value cut short, 6", and "19 .. just after 7". Each ground stands with the negations of those before it
pub data Fault (t : List ℕ) : ℕ → Type 0 where
  head-short : length t < head_size → Fault t 5
  unknown-kind : head_size ≤ length t → (kind_in t < 1) ⊎ (3 < kind_in t) → Fault t 5
  delete-long : head_size ≤ length t → kind_in t ≡ 3 → 1 ≤ length_in t → Fault t 5
  long-value : head_size ≤ length t → Known t → 200 < length_in t → Fault t 7
  empty-value : head_size ≤ length t → Known t → kind_in t < 3 → length_in t ≡ 0 → Fault t 19
  value-short : head_size ≤ length t → Known t → length_in t ≤ 200 → FilledIn t → length t < head_size + length_in t → Fault t 5
  bad-key : head_size + length_in t ≤ length t → Known t → length_in t ≤ 200 → FilledIn t → (key_in t < 1) ⊎ (999999999999 < key_in t) → Fault t 6
  none : Faultless t → Fault t 0

-- the bytes t begin with the edits es, none with a fault, and `rest` is what follows them
abbrev pub Reads : List ℕ → List Edit → List ℕ → Type 0
Reads t [] rest = t ≡ rest
Reads t (e ∷ es) rest = Faultless t × (edit_in t ≡ e) × Reads (drop (head_size + length_in t) t) es rest

-- the encodings of edits, end to end
abbrev pub list_bytes : List Edit → List ℕ
list_bytes [] = []
list_bytes (e ∷ es) = edit_bytes e ++ list_bytes es

-- "An edit list has 1 to 16 edits"
pub record Whole (bytes : List ℕ) (es : List Edit) : Type 0 where
  pub some : 1 ≤ length es
  pub few : length es ≤ edits_most
  pub reads : Reads bytes es []

-- why the bytes `rest` that stand after m edits refuse a list of at most n with k: a fault of their own, or that they are there at all, past n edits
abbrev pub Stops : ℕ → ℕ → List ℕ → ℕ → Type 0
Stops n m rest k = ((m < n) × Fault rest k × (k ≡ 0 → ⊥)) ⊎ ((m ≡ n) × (k ≡ 5))

-- "first faulty edit": the edits before edit j have no fault, and its bytes are why the list is refused with k. The first edit of t is edit i
pub record FirstFault (n i : ℕ) (t : List ℕ) (k j : ℕ) : Type 0 where
  pub before : List Edit
  pub rest : List ℕ
  pub reads : Reads t before rest
  pub number : j ≡ i + length before
  pub some : 1 ≤ length rest
  pub why : Stops n (length before) rest k

-- the list is refused with k for edit i, "edit number from 0": "5 (no edit, a seventeenth, ..", or the first faulty edit decides
abbrev pub ListFault : List ℕ → ℕ → ℕ → Type 0
ListFault bytes k i = ((bytes ≡ []) × (k ≡ 5) × (i ≡ 0)) ⊎ FirstFault 16 0 bytes k i
