-- `sound_in`: the replayed image is made, and its tree judged.
-- Assumes nothing.
use mathlib.Core.Path.{◌≡◌, sym, subst}
use mathlib.Core.Bool.{true}
use mathlib.Core.List.{List}
use Prim.Native.Nat.{ℕ}
use lib.ListN.{length}
use Rattle.device.specs.Calls.{is_image_size}
use Rattle.image.specs.PageZero.{page_count, is_page}
use Rattle.recovery.proofs.Replay.{new-size, new-page, log-waits}
use Rattle.recovery.proofs.sound_in.Goals as goal

pub replay-requires : goal.replay-requires
replay-requires c =
    log-waits c.args.image.now c.args.headers c.args.root c.requires.0 c.requires.1 _ c.requires.2

pub tree_ok-requires : goal.tree_ok-requires
tree_ok-requires c =
    subst (λ (x : List ℕ). (is_image_size (length x) ≡ true) × (is_page (page_count x) c.args.root ≡ true)) (sym c.replay.ensures) (new-size c.args.image.now c.args.headers c.args.root c.requires.0 c.requires.1, new-page c.args.image.now c.args.headers c.args.root c.requires.0 c.requires.1)
