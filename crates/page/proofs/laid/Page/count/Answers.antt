-- `count` reads the number of records.
-- Assumes nothing.
use Rattle.std.proofs.Common.{◌∙◌, arith}
use Rattle.page.proofs.Facts.{ok-is}
use Rattle.page.proofs.Listed.{count_at}
use Rattle.page.proofs.laid.Page.count.Goals as goal

pub number_at-requires : goal.number_at-requires
number_at-requires c = omega (arith, (ok-is _ c.args.self.laid).body.whole)

pub returns : goal.returns
returns c = c.number_at.ensures.0 ∙ count_at _
