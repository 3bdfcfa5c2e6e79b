-- `put_index` fills page 1: the three words are the record's bytes, and the header is written over them.
-- Assumes nothing.
use mathlib.Core.Path.{◌∙◌}
use Rattle.image.proofs.CodeFormat.{index-made, unused-ready}
use Rattle.image.proofs.format.put_index.Goals as goal

pub inserted-requires : goal.inserted-requires
inserted-requires c = unused-ready c.unused.result c.unused.ensures

pub returns : goal.returns
returns c =
    c.write.ensures ∙ index-made c.args.page.now _ _ _ c.requires c.put_long.ensures c.put_long-2.ensures c.put_long-3.ensures c.unused.result c.inserted.result c.unused.ensures c.inserted.ensures
