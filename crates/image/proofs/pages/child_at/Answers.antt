-- `child_at` reads the page number where the i-th slot says.
-- Assumes nothing.
use Prim.Native.Nat.{ℕ, ◌+◌}
use mathlib.Core.Path.{ap, ◌∙◌}
use mathlib.Core.List.{[]}
use native.Mathlib.Omega.{arith}
use Rattle.codec.specs.Lists.{part}
use Rattle.codec.specs.Numbers.{number}
use Rattle.page.specs.Layout.{rec_of}
use Rattle.page.proofs.AtSlots.{value_in}
use Rattle.image.proofs.CodePages.{child-here}
use Rattle.image.proofs.pages.child_at.Goals as goal

pub overflow_add-slot_at : goal.overflow_add-slot_at
overflow_add-slot_at c = omega (arith, c.slot_at.ensures, value_in _ c.args.page.laid _ c.requires.0 (rec_of 0 []))

pub number_at-requires : goal.number_at-requires
number_at-requires c = omega (arith, c.slot_at.ensures, value_in _ c.args.page.laid _ c.requires.0 (rec_of 0 []))

pub returns : goal.returns
returns c =
    let p = c.args.page in
    c.number_at.ensures.0 ∙ ap (λ (o : ℕ). number (part p.bytes.now (o + 16) 2)) c.slot_at.ensures ∙ child-here _ p.laid _ c.requires.0 (rec_of 0 []) c.requires.1
