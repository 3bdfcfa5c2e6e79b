-- `row_of`: lookup tells where the record of the next key stands.
-- Assumes nothing.
use mathlib.Core.Path.{sym, ap, ◌∙◌}
use Prim.Native.Nat.{ℕ, ◌-◌, ◌/◌}
use Rattle.std.proofs.Common.{Ok, Some}
use Rattle.sheet.proofs.Visiting.{row-found, row-not-missing, row-not-refused}
use Rattle.sheet.proofs.listing.row_of.Goals as goal

pub overflow_sub-page : goal.overflow_sub-page
overflow_sub-page c = (row-found c.args.image.now c.requires.0 c.args.last.page c.args.last.slot c.args.last.key _ _ _ c.requires.2 (sym c.lookup.ensures ∙ c.in-Ok-Some.is ∙ ap Ok c.in-Ok-Some.field-0-is)).0

pub returns-in-Ok-Some : goal.returns-in-Ok-Some
returns-in-Ok-Some c =
    ap (λ (s : ℕ). Some (record { page = (c.in-Ok-Some.value.offset - 16) / 1024; slot = s; key = c.args.key; length = c.in-Ok-Some.value.length })) c.slot_after.ensures
    ∙ (row-found c.args.image.now c.requires.0 c.args.last.page c.args.last.slot c.args.last.key c.args.key c.in-Ok-Some.value.offset c.in-Ok-Some.value.length c.requires.2 (sym c.lookup.ensures ∙ c.in-Ok-Some.is ∙ ap Ok c.in-Ok-Some.field-0-is)).1

pub returns-in-Ok-None : goal.returns-in-Ok-None
returns-in-Ok-None c = absurd (row-not-missing c.args.image.now c.requires.0 c.args.last.page c.args.last.slot c.args.last.key _ c.requires.2 (sym c.lookup.ensures ∙ c.in-Ok-None.is ∙ ap Ok c.in-Ok-None.field-0-is))

pub returns-in-Err : goal.returns-in-Err
returns-in-Err c = absurd (row-not-refused c.args.image.now c.requires.0 c.args.last.page c.args.last.slot c.args.last.key _ _ c.requires.2 (sym c.lookup.ensures ∙ c.in-Err.is))
