-- `root_in`: the length, and then what page 0 says.
-- Assumes nothing.
use Rattle.std.specs.Prelude.{Err}
use mathlib.Core.Path.{◌≡◌, sym, ap, ◌∙◌}
use mathlib.Core.Bool.{true}
use lib.ListN.{length}
use borrow.Author.Tests.{not-true, not-false}
use Rattle.device.specs.Calls.{is_image_size}
use Rattle.image.specs.Calls.{root_from, root_call}
use Rattle.image.proofs.calls.root_in.Goals as goal
use Rattle.image.proofs.calls.root_in.Goals.{Else-not-is_image_size}

pub returns-then-not-is_image_size : goal.returns-then-not-is_image_size
unfolding root_call
returns-then-not-is_image_size c = ap Err c.of.ensures ∙ rw (sym c.is_image_size.ensures ∙ not-true _ c.if-not-is_image_size.true-raw)

size : (c : Else-not-is_image_size) → is_image_size (length c.args.image.now) ≡ true
size c = sym c.is_image_size.ensures ∙ not-false _ c.if-not-is_image_size.false-raw

pub page_zero-requires : goal.page_zero-requires
page_zero-requires c = size (goal.at.page_zero-requires c).Else-not-is_image_size

pub returns-in-Wrong : goal.returns-in-Wrong
unfolding root_call root_from
returns-in-Wrong c = ap Err c.of-in-Wrong.ensures ∙ rw (size (goal.at.returns-in-Wrong c).Else-not-is_image_size, sym c.page_zero.ensures ∙ c.in-Wrong.is)

pub returns-in-Waiting : goal.returns-in-Waiting
unfolding root_call root_from
returns-in-Waiting c = ap Err c.of-in-Waiting.ensures ∙ rw (size (goal.at.returns-in-Waiting c).Else-not-is_image_size, sym c.page_zero.ensures ∙ c.in-Waiting.is)

pub returns-in-Ready : goal.returns-in-Ready
unfolding root_call root_from
returns-in-Ready c = rw (size (goal.at.returns-in-Ready c).Else-not-is_image_size, sym c.page_zero.ensures ∙ c.in-Ready.is)
