-- `keep`: with mark 0 the image's own tree decides, and work takes the image.
-- Assumes nothing.
use Rattle.std.specs.Prelude.{Err, Ok}
use mathlib.Core.Path.{sym, ◌∙◌}
use mathlib.Core.List.{List}
use Prim.Native.Nat.{ℕ}
use borrow.Author.Tests.{not-true, not-false}
use Rattle.image.proofs.Zero.{ready-facts}
use Rattle.journal.specs.declared.Way.{Way}
use Rattle.recovery.specs.Calls.{recover_call}
use Rattle.recovery.proofs.Shown.{Shows, kept-refused, kept-accepted}
use Rattle.recovery.proofs.keep.Goals as goal

pub tree_ok-requires : goal.tree_ok-requires
tree_ok-requires c =
    (c.requires.0, (ready-facts _ _ c.requires.2).page)

pub returns-then-not-tree_ok : goal.returns-then-not-tree_ok
returns-then-not-tree_ok c =
    let e : (way : Way) (tape : List ℕ) → Shows (Err c.of.result) c.args.work.now tape (recover_call way c.args.image.now c.args.work.now tape) = λ way tape. kept-refused way c.args.image.now c.args.work.now tape c.requires.0 c.requires.1 c.args.root c.requires.2 (sym c.tree_ok.ensures ∙ not-true _ c.if-not-tree_ok.true-raw) _ c.of.ensures in
    record { value = λ way tape. (e way tape).0; work_after = λ way tape. (e way tape).1.0; tape_value = λ way tape. (e way tape).1.1 }

pub returns : goal.returns
returns c =
    let e : (way : Way) (tape : List ℕ) → Shows (Ok (record { bytes = 0; flushes = 0 })) c.copy_all.new.dst tape (recover_call way c.args.image.now c.args.work.now tape) = λ way tape. kept-accepted way c.args.image.now c.args.work.now tape c.requires.0 c.requires.1 c.args.root c.requires.2 (sym c.tree_ok.ensures ∙ not-false _ c.if-not-tree_ok.false-raw) _ c.copy_all.ensures in
    record { value = λ way tape. (e way tape).0; work_after = λ way tape. (e way tape).1.0; tape_value = λ way tape. (e way tape).1.1 }
