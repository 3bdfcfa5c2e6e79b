-- `main`: the store that is listed is sound.
-- Assumes nothing.
use Prim.Native.Nat.{ℕ}
use mathlib.Core.Path.{ap}
use lib.ListN.{length-replicate}
use Rattle.device.specs.Calls.{is_image_size}
use Rattle.sheet.proofs.Store.{program-sound}
use Rattle.sheet.proofs.main.Goals as goal

pub print-requires : goal.print-requires
print-requires c = program-sound _ _ _ _ (ap is_image_size (length-replicate {A = ℕ} 8192 0)) c.format.ensures.image_after c.take_lines.ensures.image_after
