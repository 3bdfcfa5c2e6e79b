-- The key rules of edits, by the records that each edit sees: "8 insert of a key present; 9 other edit of a missing key" (document 01, 'Each call
-- and when it says no'). They know nothing of pages: where a key is looked for is a parameter, a whole table or what is read for the key.
-- Assumes nothing.
use Rattle.std.specs.Prelude.{ℕ, suc, ◌+◌, ◌≡◌, Bool, true, false, List, [], ◌∷◌, ◌++◌, length, eqb, Err, None, Ok, Option, Some}
use Rattle.codec.specs.Lists.{pick}
use Rattle.device.specs.Calls.{unsound, key_present, key_missing, refusal, Answer, refusal_at}
use Rattle.page.specs.Layout.{Rec}
use Rattle.image.specs.Table.{find}
use Rattle.edit.specs.EditList.{Edit, insert, update, delete, key_of}
use Rattle.edit.specs.Ledger.{apply_edit}

abbrev pub is_some : Option (List ℕ) → Bool
is_some None = false
is_some (Some v) = true

-- whether a table holds a key
unfoldable pub holds : ℕ → List Rec → Bool
holds k t = is_some (find k t)

-- the number that refuses the edit for its key, by the table t that it sees, or 0
unfoldable pub key_rule : Edit → List Rec → ℕ
key_rule (insert k v) t = pick (holds k t) key_present 0
key_rule (update k v) t = pick (holds k t) 0 key_missing
key_rule (delete k) t = pick (holds k t) 0 key_missing

-- ---- where a key is looked for

-- the records that are read for each key, once other keys were looked for, in this order; or none where they cannot be trusted: "pages read in one call" are judged together
abbrev pub Source : Type 0
Source = List ℕ → ℕ → Option (List Rec)

-- the whole of a table, for every key
abbrev pub wholly : List Rec → Source
wholly t ks k = Some t

abbrev pub made_in : Edit → Option (List Rec) → Option (List Rec)
made_in e None = None
made_in e (Some t) = Some (apply_edit e t)

-- "Each edit sees those before it": what is read for each key, with the edit made, whose key was then looked for
abbrev pub made : Edit → Source → Source
made e s ks k = made_in e (s (key_of e ∷ ks) k)

abbrev pub made_all : List Edit → Source → Source
made_all [] s = s
made_all (e ∷ es) s = made_all es (made e s)

-- ---- a list of edits

-- what is said of edit i, by what is read for its key: "a leaf's 4 comes just before the 8 or 9" (document 02 (b)) and has no edit number
unfoldable pub key_fault : ℕ → Edit → Option (List Rec) → Answer
key_fault i e None = Err (refusal unsound)
key_fault i e (Some t) = pick (eqb (key_rule e t) 0) (Ok tt) (Err (refusal_at (key_rule e t) i))

-- the first, or where it is good the second
abbrev pub or_fault : Answer → Answer → Answer
or_fault (Ok done) rest = rest
or_fault (Err r) rest = Err r

-- "Then edit by edit": the first of the edits es that is refused; the first of them is edit i
unfoldable pub keys_from : ℕ → List Edit → Source → Answer
keys_from i [] s = Ok tt
keys_from i (e ∷ es) s = or_fault (key_fault i e (s [] (key_of e))) (keys_from (suc i) es (made e s))

-- the keys that are looked for on the way: those of the edits up to the first that is refused
abbrev pub on_if_good : Answer → List ℕ → List ℕ
on_if_good (Ok done) ks = ks
on_if_good (Err r) ks = []

unfoldable pub keys_read : ℕ → List Edit → Source → List ℕ
keys_read i [] s = []
keys_read i (e ∷ es) s = key_of e ∷ on_if_good (key_fault i e (s [] (key_of e))) (keys_read (suc i) es (made e s))

-- ---- the same as propositions

-- the edit's key is as its rule asks: missing for an insert, there for any other
abbrev pub Kept : Edit → List Rec → Type 0
Kept (insert k v) t = find k t ≡ None
Kept (update k v) t = find k t ≡ None → ⊥
Kept (delete k) t = find k t ≡ None → ⊥

-- it is not, and this number says so
pub data Broken : Edit → List Rec → ℕ → Type 0 where
  present : (k : ℕ) (v : List ℕ) (t : List Rec) → (find k t ≡ None → ⊥) → Broken (insert k v) t 8
  no-update : (k : ℕ) (v : List ℕ) (t : List Rec) → find k t ≡ None → Broken (update k v) t 9
  no-delete : (k : ℕ) (t : List Rec) → find k t ≡ None → Broken (delete k) t 9

-- the same of what is read for the edit's key: it can be trusted, and keeps the rule
abbrev pub KeptIn : Edit → Option (List Rec) → Type 0
KeptIn e None = ⊥
KeptIn e (Some t) = Kept e t

-- each edit's rule is kept by what those before it leave
abbrev pub AllKeptBy : List Edit → Source → Type 0
AllKeptBy [] s = Unit {0}
AllKeptBy (e ∷ es) s = KeptIn e (s [] (key_of e)) × AllKeptBy es (made e s)

-- edit i is refused by what is read for its key, with this number and edit number
pub data FaultIn (e : Edit) (i : ℕ) : Option (List Rec) → ℕ → ℕ → Type 0 where
  untrusted : FaultIn e i None 4 0
  rule : (t : List Rec) (n : ℕ) → Broken e t n → FaultIn e i (Some t) n i

-- the first of the edits es, numbered from i on, that is refused, with its number and edit number: by what the edits before it leave
pub record FirstFault (i : ℕ) (es : List Edit) (s : Source) (number edit : ℕ) : Type 0 where
  pub before : List Edit
  pub culprit : Edit
  pub rest : List Edit
  pub shape : es ≡ before ++ culprit ∷ rest
  pub kept : AllKeptBy before s
  pub fault : FaultIn culprit (i + length before) (made_all before s [] (key_of culprit)) number edit

-- the same by the ledger's table
abbrev pub AllKept : List Edit → List Rec → Type 0
AllKept es t = AllKeptBy es (wholly t)

abbrev pub FirstBroken : List Edit → List Rec → ℕ → ℕ → Type 0
FirstBroken es t number i = FirstFault 0 es (wholly t) number i
