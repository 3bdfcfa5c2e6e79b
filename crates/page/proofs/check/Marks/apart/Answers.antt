-- `Marks::apart`: the two words have no place in common exactly if each of them has none.
-- Assumes nothing.
use Rattle.std.proofs.Common.{sym, arith}
use Rattle.page.proofs.CheckBits.{words-meet, words-apart}
use Rattle.page.proofs.check.Marks.apart.Goals as goal

pub returns-then-self-other-ne0 : goal.returns-then-self-other-ne0
returns-then-self-other-ne0 c =
    sym (words-meet c.args.self.high c.args.self.low c.args.other.high c.args.other.low (omega arith) (omega arith) c.if-self-other-ne0.true)

pub returns : goal.returns
returns c =
    sym (words-apart c.args.self.high c.args.self.low c.args.other.high c.args.other.low (omega arith) (omega arith) c.if-self-other-ne0.false)
