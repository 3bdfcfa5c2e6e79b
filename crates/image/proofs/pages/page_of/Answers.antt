-- `page_of` lends the page that `page_of` says.
-- Assumes nothing.
use Rattle.page.proofs.Images.{lent}
use Rattle.image.proofs.pages.page_of.Goals as goal

pub returns : goal.returns
returns c = lent c.args.image.now c.args.n
