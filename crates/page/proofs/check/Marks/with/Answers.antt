-- `Marks::with`: the places of either are those of either word.
-- Assumes nothing.
use Rattle.std.proofs.Common.{arith}
use Rattle.page.proofs.CheckBits.{words-or}
use Rattle.page.proofs.check.Marks.with.Goals as goal

pub returns : goal.returns
returns c =
    words-or c.args.self.high c.args.self.low c.args.other.high c.args.other.low (omega arith) (omega arith)
