-- `find`: the search from the i-th record on is the whole search.
-- Assumes nothing.
use Rattle.std.proofs.Common.{◌≡◌, drop}
use Rattle.page.specs.Page.{records}
use Rattle.page.specs.Search.{searched}
use Rattle.page.proofs.laid.Page.find.Given as goal

abbrev pub invariant-loop-i : goal.invariant-loop-i
invariant-loop-i l = searched l.key l.i (drop l.i (records l.self.bytes.now)) ≡ searched l.key 0 (records l.self.bytes.now)
