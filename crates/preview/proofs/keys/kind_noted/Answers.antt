-- `kind_noted`: the chain gives the first note of the key from the last one back, and its kind.
-- Assumes nothing.
use mathlib.Core.Path.{◌≡◌}
use lib.Dec.{eqb}
use borrow.Author.Tests.{tests}
use denote.Ref.{Bor}
use Rattle.std.proofs.Common.{rules, reverse}
use Rattle.std.specs.List.{find}
use Rattle.std.specs.Option.{option_map}
use Rattle.std.proofs.lemmas.Iterator.Adapters.{YieldsList-from_rev_slice}
use Rattle.std.proofs.lemmas.Iterator.Search.{find_from_yields_List}
use Rattle.preview.specs.declared.keys.Noted.{Noted}
use Rattle.preview.specs.Noted.{kind_noted}
use Rattle.preview.proofs.keys.kind_noted.Goals as goal

pub returns : goal.returns
unfolding kind_noted
returns c =
    let a = c.args in
    let e : option_map (λ (y : Bor Noted). y.now) c.find.result ≡ find (λ (x : Noted). eqb x.key a.key) (reverse a.noted.now) =
    find_from_yields_List (λ (x : Noted). eqb x.key a.key) _ _ c.find.result c.find.ensures.ran (YieldsList-from_rev_slice a.noted.now (cc)) (λ x b q k. search (rules, tests)) in
    rw (← e) (search rules)
