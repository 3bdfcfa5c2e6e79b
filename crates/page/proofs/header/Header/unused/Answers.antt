-- `Header::unused`: the constant with its kind and own number.
-- Assumes nothing.
use Rattle.std.proofs.Common.{rules}
use Rattle.page.specs.Layout.{padded, unused_head, header_of}
use Rattle.page.proofs.header.Header.unused.Goals as goal

pub returns : goal.returns
unfolding header_of unused_head padded
returns c = search rules
