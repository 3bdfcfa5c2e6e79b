-- `next_at` searches a sound leaf, unless the key is the largest.
-- Assumes nothing.
use mathlib.Core.Path.{sym}
use Rattle.page.specs.Layout.{leaf_kind}
use Rattle.page.proofs.Facts.{page_ok-true}
use Rattle.image.proofs.Values.{page-fits}
use Rattle.image.proofs.CodeWays.{above-largest}
use Rattle.image.proofs.descent.Indexed.next_at.Goals as goal

pub returns-then-key-ge-TOP_KEY : goal.returns-then-key-ge-TOP_KEY
returns-then-key-ge-TOP_KEY c = sym (above-largest leaf_kind _ _ c.requires.1 _ c.if-key-ge-TOP_KEY.true)

pub laid_page-requires : goal.laid_page-requires
laid_page-requires c = (page-fits c.args.self.now.image.now c.args.own c.requires.0, (page_ok-true leaf_kind _ _ c.requires.1).laid)
