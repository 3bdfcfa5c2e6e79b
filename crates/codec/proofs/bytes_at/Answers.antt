-- `bytes_at`: the range `at..at + N` is a part.
-- Assumes nothing.
use mathlib.Core.Path.{ap, ◌∙◌}
use native.Mathlib.Omega.{arith}
use lib.ListN.{take, drop}
use Rattle.codec.specs.Lists.{part}
use Rattle.codec.proofs.bytes_at.Goals as goal

pub returns : goal.returns
unfolding part
returns g c = c.copy_from_slice.ensures.after ∙ ap (λ n. take n (drop c.args.at c.args.s.now)) (omega arith)
