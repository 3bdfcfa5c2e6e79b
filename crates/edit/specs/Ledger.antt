-- The plain ledger: a table and a count, fed one edit list at a time (document 01, 'The plain ledger'). It knows nothing of pages.
-- Assumes nothing.
use Rattle.std.specs.Prelude.{ℕ, suc, ◌+◌, Bool, true, false, List, [], ◌∷◌, ◌++◌, eqb, ltb}
use Rattle.codec.specs.Lists.{pick}
use Rattle.page.specs.Layout.{Rec, rec_of}
use Rattle.edit.specs.EditList.{Edit, insert, update, delete}

-- "insert adds key and value", in its place of a rising table
unfoldable pub add : ℕ → List ℕ → List Rec → List Rec
add k v [] = rec_of k v ∷ []
add k v (r ∷ rs) = let rest = add k v rs in pick (ltb k r.key) (rec_of k v ∷ r ∷ rs) (r ∷ rest)

-- "update replaces the value"
unfoldable pub replace : ℕ → List ℕ → List Rec → List Rec
replace k v [] = []
replace k v (r ∷ rs) = pick (eqb r.key k) (rec_of k v) r ∷ replace k v rs

-- "delete drops both"
unfoldable pub without : ℕ → List Rec → List Rec
without k [] = []
without k (r ∷ rs) = let rest = without k rs in pick (eqb r.key k) rest (r ∷ rest)

unfoldable pub apply_edit : Edit → List Rec → List Rec
apply_edit (insert k v) t = add k v t
apply_edit (update k v) t = replace k v t
apply_edit (delete k) t = without k t

-- "each edit in order"
unfoldable pub apply_edits : List Edit → List Rec → List Rec
apply_edits [] t = t
apply_edits (e ∷ es) t = apply_edits es (apply_edit e t)

pub record Ledger : Type 0 where
  pub table : List Rec
  pub count : ℕ

-- "The ledger starts with the first image's table and count 0."
abbrev pub opened : List Rec → Ledger
opened t = record { table = t; count = 0 }

-- "It is fed each transaction's edit list and whether it was accepted": "Refused: no change. Accepted: each edit in order ..; then the count rises by 1."
unfoldable pub fed : Bool → List Edit → Ledger → Ledger
fed false es l = l
fed true es l = record { table = apply_edits es l.table; count = suc l.count }

-- ---- the ledger, fed one transaction after another

-- "It is fed each transaction's edit list and whether it was accepted"
pub record Feed : Type 0 where
  pub accepted : Bool
  pub edits : List Edit

unfoldable pub ledger_after : Ledger → List Feed → Ledger
ledger_after l [] = l
ledger_after l (f ∷ fs) = ledger_after (fed f.accepted f.edits l) fs

-- "the ledger's at count j": its table while it is fed, when its count is j
unfoldable pub table_at : ℕ → Ledger → List Feed → List Rec
table_at j l [] = l.table
table_at j l (f ∷ fs) = pick (eqb l.count j) l.table (table_at j (fed f.accepted f.edits l) fs)

-- what it comes to, with no ledger: how many of the transactions were accepted, and the edits of those, in order
unfoldable pub accepted_of : List Feed → ℕ
accepted_of [] = 0
accepted_of (f ∷ fs) = pick f.accepted 1 0 + accepted_of fs

unfoldable pub edits_made : List Feed → List Edit
edits_made [] = []
edits_made (f ∷ fs) = pick f.accepted f.edits [] ++ edits_made fs
