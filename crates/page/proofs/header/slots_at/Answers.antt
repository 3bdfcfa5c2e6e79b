-- `slots_at`: each slot is the number that stands in its place.
-- Assumes nothing.
use Rattle.std.proofs.Common.{◌≡◌, ℕ, ◌+◌, ◌*◌, ◌<◌, get_or, rules}
use Rattle.codec.specs.Lists.{part}
use Rattle.codec.specs.Numbers.{number}
use Rattle.page.specs.Layout.{slot_count}
use Rattle.page.proofs.Listed.{slots-read}
use Rattle.page.proofs.header.slots_at.Goals as goal

pub returns : goal.returns
returns c =
    let p = c.args.page.now in
    let each : (i : ℕ) → i < slot_count → get_or c.from_fn.result i 0 ≡ number (part p (8 + 2 * i) 2) = λ i h. search rules in
    slots-read p c.from_fn.result slot_count 8 c.from_fn.ensures.items.long each
