-- `fill_two`: an unused header, the two records, the header line written.
-- Assumes nothing.
use mathlib.Core.Path.{◌∙◌}
use native.Mathlib.Omega.{arith}
use Rattle.page_edit.proofs.Filled.{filled-page}
use Rattle.tree_edit.proofs.TwoPages.{first-ok, first-room, second-ok, second-room, both-filled}
use Rattle.tree_edit.proofs.pages.fill_two.Goals as goal

pub append_new-first-requires : goal.append_new-first-requires
append_new-first-requires c =
    (c.requires.0, first-ok _ _ c.entry_value.ensures, first-room c.args.kind c.args.own c.args.left c.args.sep c.args.right c.requires.1 _ c.unused.ensures _ c.entry_value.ensures)

pub append_new-both-requires : goal.append_new-both-requires
append_new-both-requires c =
    (omega (arith, c.append_new-first.auto.page, c.requires.0), second-ok _ _ c.requires.1 _ c.entry_value-2.ensures, second-room c.args.kind c.args.own c.args.left c.args.sep c.args.right c.requires.1 _ c.unused.ensures _ c.entry_value.ensures _ _ _ c.append_new-first.ensures _ c.entry_value-2.ensures)

pub returns : goal.returns
returns c =
    c.write.ensures ∙ filled-page c.args.kind c.args.own _ _ _ _ _ c.unused.ensures (both-filled c.args.kind c.args.own c.args.left c.args.sep c.args.right c.requires.1 _ c.unused.ensures _ c.entry_value.ensures _ _ _ c.append_new-first.ensures _ c.entry_value-2.ensures _ _ c.append_new-both.ensures)
