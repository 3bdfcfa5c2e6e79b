-- `begin`: each book from its first record on.
-- Assumes nothing.
use Rattle.merge.proofs.Stepping.{ready-begun}
use Rattle.merge.proofs.books.Books.begin.Goals as goal

pub returns : goal.returns
returns c = ready-begun c.begin.ensures c.begin-2.ensures
