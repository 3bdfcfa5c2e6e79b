-- `zero_words` tests that words are zero, each by its number.
-- Assumes nothing.
use mathlib.Core.Path.{◌∙◌}
use native.Mathlib.Omega.{arith}
use Rattle.std.proofs.Common.{rules}
use borrow.Author.Tests.{tests}
use Rattle.std.proofs.lemmas.Iterator.{YieldsList-from_range}
use Rattle.std.proofs.lemmas.Iterator.Search.{all_from_yields_List}
use Rattle.image.proofs.CodeZero.{is_zero, zeros-words}
use Rattle.image.proofs.page_zero.zero_words.Goals as goal

pub returns : goal.returns
returns c =
    let a = c.args in
    all_from_yields_List (is_zero a.s.now a.at) _ _ c.all.result c.all.ensures.ran (YieldsList-from_range 0 a.n a.n (cc) (omega arith)) (λ x b q k. search (rules, tests))
    ∙ zeros-words a.s.now (λ i. omega (arith, c.type_inv.s i)) a.at a.n c.requires
