-- Two tables into one (document 02 (i)).
-- Assumes nothing.
use Rattle.std.specs.Prelude.{◌≡◌, ◌⊎◌, Bool, not, List, [], ◌∷◌}
use Rattle.codec.specs.Lists.{all_b}
use Rattle.page.specs.Layout.{Rec}
use Rattle.image.specs.Facts.{Rising}
use Rattle.image.specs.Says.{Member}
use Rattle.edit.specs.Ledger.{add}
use Rattle.edit.specs.Keys.{holds}

-- "Its table holds every record of both and nothing else": each record of the second table is added to the first as the ledger adds it
unfoldable pub merged : List Rec → List Rec → List Rec
merged t [] = t
merged t (r ∷ rs) = merged (add r.key r.value t) rs

-- whether no key is in both
unfoldable pub apart : List Rec → List Rec → Bool
apart t u = all_b (λ (r : Rec). not (holds r.key t)) u

-- ---- the same, stated apart from how it is done

-- "if a key is in both"
pub record InBoth (t u : List Rec) : Type 0 where
  pub one : Rec
  pub other : Rec
  pub in_first : Member one t
  pub in_second : Member other u
  pub same : one.key ≡ other.key

-- the table j holds "every record of both and nothing else", keys rising
pub record Joins (t u j : List Rec) : Type 0 where
  pub rising : Rising 1 j 1000000000000
  pub every : (r : Rec) → Member r t ⊎ Member r u → Member r j
  pub nothing-else : (r : Rec) → Member r j → Member r t ⊎ Member r u
