-- The claims: every row of empty values holds, refused and stored.
-- Assumes nothing.
use mathlib.Core.Path.{refl}
use Rattle.codec.specs.Lists.{All}
use Rattle.worked.specs.Row.{Holds, HoldsFrom}
use Rattle.worked.specs.EmptyRows.{empty-second, empty-zero, empty_rows, stored, stored-longer, stored-deleted, stored-empty, stored_rows}
use Rattle.worked.proofs.Open.{opened}

empty-second-holds : Holds empty-second
unfolding opened
empty-second-holds = refl

empty-zero-holds : Holds empty-zero
unfolding opened
empty-zero-holds = refl

pub empty-on-paper : All Holds empty_rows
empty-on-paper = (empty-second-holds, (empty-zero-holds, tt))

stored-longer-holds : HoldsFrom stored stored-longer
unfolding opened stored
stored-longer-holds = refl

stored-deleted-holds : HoldsFrom stored stored-deleted
unfolding opened stored
stored-deleted-holds = refl

stored-empty-holds : HoldsFrom stored stored-empty
unfolding opened stored
stored-empty-holds = refl

pub stored-on-paper : All (HoldsFrom stored) stored_rows
stored-on-paper = (stored-longer-holds, (stored-deleted-holds, (stored-empty-holds, tt)))
