-- `put_leaf` fills page 2: the unused header is all of it.
-- Assumes nothing.
use mathlib.Core.Path.{◌∙◌}
use Rattle.image.proofs.CodeFormat.{leaf-made}
use Rattle.image.proofs.format.put_leaf.Goals as goal

pub returns : goal.returns
returns c =
    c.write.ensures ∙ leaf-made c.args.page.now c.unused.result c.unused.ensures
