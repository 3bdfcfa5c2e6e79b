-- `key_at` reads the key where the i-th slot says.
-- Assumes nothing.
use Rattle.std.proofs.Common.{ℕ, [], ap, ◌∙◌, arith}
use Rattle.codec.specs.Lists.{part}
use Rattle.codec.specs.Numbers.{number}
use Rattle.page.specs.Layout.{rec_of}
use Rattle.page.proofs.AtSlots.{value_in, key_here}
use Rattle.page.proofs.laid.Page.key_at.Goals as goal

pub long_at-requires : goal.long_at-requires
long_at-requires c = omega (arith, c.slot_at.ensures, value_in _ c.args.self.laid _ c.requires (rec_of 0 []))

pub returns : goal.returns
returns c =
    c.long_at.ensures ∙ ap (λ (o : ℕ). number (part c.args.self.bytes.now o 8)) c.slot_at.ensures ∙ key_here _ c.args.self.laid _ c.requires (rec_of 0 [])
