-- `append_new`: the record written below start, and its slot put in as the last.
-- Assumes nothing.
use native.Mathlib.Omega.{arith}
use Rattle.page.specs.Operations.{sizes}
use Rattle.page_edit.proofs.Filled.{appended}
use Rattle.page_edit.proofs.append_new.Goals as goal

pub write_below-s-requires : goal.write_below-s-requires
unfolding sizes
write_below-s-requires c =
    (c.requires.1.few, omega (arith, c.requires.2.room), omega (arith, c.requires.2.high, c.requires.0))

pub inserted-requires : goal.inserted-requires
unfolding sizes
inserted-requires c = (c.requires.2.clean, omega (arith, c.requires.2.few), omega arith, omega (arith, c.requires.2.room, c.write_below-s.ensures.0), c.requires.2.high)

pub returns : goal.returns
returns c =
    appended _ _ _ _ _ _ c.requires.2.clean c.write_below-s.ensures.0 c.inserted.ensures c.write_below-s.ensures.1
