-- `put_head`: two bytes and the key, one after the other.
-- Assumes nothing.
use Rattle.lines.proofs.Editing.{head-written}
use Rattle.lines.proofs.put_head.Goals as goal

pub returns : goal.returns
returns c = head-written c.args.list.now c.args.at _ _ _ _ c.requires c.put_long.ensures
