-- `put_commit`: the numbers by the commit place.
-- Assumes nothing.
use mathlib.Core.Path.{◌∙◌}
use Rattle.journal.specs.declared.CommitPlace.TheVariants.{Header, Root, Log}
use Rattle.store.proofs.Written.{commit-written}
use Rattle.store.proofs.put_commit.Goals as goal

pub returns-in-Header : goal.returns-in-Header
returns-in-Header c =
    c.put_numbers.ensures ∙ commit-written c.args.commit (Header c.in-Header.page) c.in-Header.is c.args.answer.now

pub returns-in-Root : goal.returns-in-Root
returns-in-Root c =
    c.put_numbers-in-Root.ensures ∙ commit-written c.args.commit Root c.in-Root.is c.args.answer.now

pub returns-in-Log : goal.returns-in-Log
returns-in-Log c =
    c.put_numbers-in-Log.ensures ∙ commit-written c.args.commit Log c.in-Log.is c.args.answer.now
