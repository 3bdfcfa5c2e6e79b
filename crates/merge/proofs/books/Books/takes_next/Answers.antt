-- `takes_next`: where the keys are the same and none is in both, no record comes.
-- Assumes nothing.
use mathlib.Core.Path.{sym, ap, ◌∙◌}
use native.Mathlib.Omega.{arith}
use borrow.Author.Tests.{eq-eqb}
use Rattle.merge.specs.Cursors.{takes}
use Rattle.merge.proofs.Stepping.{size_small, none-taken, first_taken}
use Rattle.merge.proofs.books.Books.takes_next.Goals as goal

pub takes-requires : goal.takes-requires
takes-requires c = (c.requires.2, omega (arith, c.next_size.ensures, size_small c.requires.0))

pub returns-then-at : goal.returns-then-at
returns-then-at c =
    c.takes.ensures ∙ ap (takes c.args.n c.args.s) c.next_size.ensures ∙ sym (first_taken c.requires.0 c.args.n c.args.s c.if-at.true)

pub returns-else-at : goal.returns-else-at
returns-else-at c =
    let at = c.args.at in
    rw (eq-eqb at.first.key at.second.key c.if-at.false) (sym (none-taken c.requires.0 c.args.n c.args.s c.if-at.false c.requires.1))
