-- `row_after`: next key tells whether there is another row.
-- Assumes nothing.
use mathlib.Core.Path.{sym, ap, ◌∙◌}
use Rattle.std.proofs.Common.{Ok}
use Rattle.sheet.proofs.Visiting.{next-none, next-not-refused}
use Rattle.sheet.proofs.listing.row_after.Goals as goal

pub returns-in-Ok-None : goal.returns-in-Ok-None
returns-in-Ok-None c = next-none c.args.image.now c.requires.0 c.args.last.page c.args.last.slot c.args.last.key (sym c.next_key.ensures ∙ c.in-Ok-None.is ∙ ap Ok c.in-Ok-None.field-0-is)

pub returns-in-Err : goal.returns-in-Err
returns-in-Err c = absurd (next-not-refused c.args.image.now c.requires.0 c.args.last.page c.args.last.slot c.args.last.key _ (sym c.next_key.ensures ∙ c.in-Err.is))
