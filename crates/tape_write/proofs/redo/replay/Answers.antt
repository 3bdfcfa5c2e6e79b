-- `replay`: the image, the headers, the root, mark 0.
-- Assumes nothing.
use Rattle.journal.specs.Recovery.{logged}
use Rattle.tape_write.proofs.Redoing.{replay-whole}
use Rattle.tape_write.proofs.redo.replay.Goals as goal

pub returns : goal.returns
returns c =
    replay-whole c.args.image.now _ _ _ _ (logged c.args.headers c.args.image.now) c.args.root c.copy_all.ensures c.put_headers.ensures c.put_long.ensures c.put_long-2.ensures
