-- `put_entry`: the record of a page is put as any record.
-- Assumes nothing.
use mathlib.Core.Path.{ap}
use mathlib.Core.Bool.{false}
use Rattle.page.specs.Layout.{Rec}
use Rattle.page.specs.PageFormat.{format1}
use Rattle.tree.specs.Edits.{no_keep, put}
use Rattle.tree_edit.specs.Steps.{state_of}
use Rattle.tree_edit.proofs.Said.{turns_same}
use Rattle.tree_edit.proofs.Absorbed.{entry-takes, entry-is}
use Rattle.tree_edit.proofs.turns.put_entry.Goals as goal

pub put_record-requires : goal.put_record-requires
put_record-requires c =
    (entry-takes _ _ c.entry_value-value.ensures c.requires.0, c.requires.1)

pub returns : goal.returns
returns c = let a = c.args in turns_same c.put_record.ensures _ (ap (λ (r : Rec). put format1 no_keep a.kind false a.new.ins a.new.at r a.page (state_of a.before.now a.work.now a.t)) (entry-is _ _ c.entry_value-value.ensures a.new.key))
