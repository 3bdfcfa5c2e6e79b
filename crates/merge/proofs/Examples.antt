-- The definitions, computed: how many records each leaf takes, how many pages stand above the leaves, and two small tables into one.
-- Assumes nothing.
use Prim.Native.Nat.{ℕ, zero, suc}
use mathlib.Core.Path.{◌≡◌, refl, ap, ◌∙◌}
use mathlib.Core.Bool.{true, false}
use mathlib.Core.List.{List, [], ◌∷◌, ◌++◌, map}
use native.Mathlib.Omega.{arith}
use lib.ListN.{length, replicate}
use Rattle.codec.specs.Lists.{all_b}
use Rattle.page.specs.Layout.{Rec, rec_of, up8, size}
use Rattle.page.specs.Operations.{sizes}
use Rattle.image.specs.Table.{find}
use Rattle.image.specs.Fresh.{index_count, pages_above}
use Rattle.edit.specs.Ledger.{add}
use Rattle.edit.specs.Keys.{holds}
use Rattle.merge.specs.Tables.{merged, apart}
use Rattle.merge.specs.Leaves.{packed, leaves_of}
use Rattle.merge.proofs.Packing.{packed-over}

-- ---- leaves

-- n records from key k on, each with a value of v bytes
rising : ℕ → ℕ → ℕ → List Rec
rising zero k v = []
rising (suc n) k v = rec_of k (replicate v 0) ∷ rising n (suc k) v

-- with none there is one empty leaf
no-records : leaves_of [] ≡ [] ∷ []
unfolding leaves_of packed
no-records = refl

-- 29 records of 24 bytes: the 29th does not fit by its number, 696 bytes. 28 are taken by a law, since computing `packed` goes both ways at each record
taken : leaves_of (rising 29 1 8) ≡ packed (rising 28 1 8) (rising 1 29 8)
unfolding leaves_of rising sizes size up8
taken = packed-over [] (rising 28 1 8) (rising 1 29 8) (record { few = omega arith; small = omega arith })

next : map length (packed (rising 28 1 8) (rising 1 29 8)) ≡ 28 ∷ 1 ∷ []
unfolding packed rising sizes size up8
next = refl

by_number : map length (leaves_of (rising 29 1 8)) ≡ 28 ∷ 1 ∷ []
by_number = ap (map length) taken ∙ next

-- five of 216 bytes: the fifth does not fit by its bytes, 1,080
by_bytes : map length (leaves_of (rising 5 1 200)) ≡ 4 ∷ 1 ∷ []
unfolding leaves_of packed rising sizes size up8
by_bytes = refl

-- after four of 216 bytes there is room for 96: a value of 80 bytes, and none of 81
just-fits : map length (leaves_of (rising 4 1 200 ++ rising 1 5 80)) ≡ 5 ∷ []
unfolding leaves_of packed rising sizes size up8
just-fits = refl

just-passes : map length (leaves_of (rising 4 1 200 ++ rising 1 5 81)) ≡ 4 ∷ 1 ∷ []
unfolding leaves_of packed rising sizes size up8
just-passes = refl

-- ---- the pages above n leaves: one up to 28, then a top page over index pages of 28 leaves each

alone : map pages_above (1 ∷ 28 ∷ []) ≡ 1 ∷ 1 ∷ []
unfolding pages_above index_count
alone = refl

topped : map pages_above (29 ∷ 56 ∷ 57 ∷ 784 ∷ []) ≡ 3 ∷ 3 ∷ 4 ∷ 29 ∷ []
unfolding pages_above index_count
topped = refl

-- ---- tables

-- keys 2, 5, 9 and 1, 3, 10
two-tables : (a b c d e f : List ℕ) → merged (rec_of 2 a ∷ rec_of 5 b ∷ rec_of 9 c ∷ []) (rec_of 1 d ∷ rec_of 3 e ∷ rec_of 10 f ∷ []) ≡
    rec_of 1 d ∷ rec_of 2 a ∷ rec_of 3 e ∷ rec_of 5 b ∷ rec_of 9 c ∷ rec_of 10 f ∷ []
unfolding merged add
two-tables a b c d e f = refl

no-common-key : (a b c d : List ℕ) → apart (rec_of 2 a ∷ rec_of 5 b ∷ []) (rec_of 1 c ∷ rec_of 6 d ∷ []) ≡ true
unfolding apart all_b holds find
no-common-key a b c d = refl

-- key 5 is in both, with other values
common-key : (a b c d : List ℕ) → apart (rec_of 2 a ∷ rec_of 5 b ∷ []) (rec_of 1 c ∷ rec_of 5 d ∷ []) ≡ false
unfolding apart all_b holds find
common-key a b c d = refl
