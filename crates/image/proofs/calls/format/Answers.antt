-- `format` answers and leaves what `format_call` says.
-- Assumes nothing.
use Rattle.std.specs.Prelude.{Err}
use mathlib.Core.Path.{◌≡◌, sym, ap, ◌∙◌}
use mathlib.Core.Bool.{true}
use lib.ListN.{length}
use borrow.Author.Tests.{not-true, not-false}
use Rattle.device.specs.Calls.{is_image_size}
use Rattle.image.specs.Calls.{Formatted}
use Rattle.image.proofs.Fresh.{format-accepted, format-refused}
use Rattle.image.proofs.calls.format.Goals as goal
use Rattle.image.proofs.calls.format.Goals.{Else-not-is_image_size}

pub returns-then-not-is_image_size : goal.returns-then-not-is_image_size
returns-then-not-is_image_size c =
    let e = format-refused c.args.image.now (sym c.is_image_size.ensures ∙ not-true _ c.if-not-is_image_size.true-raw) in
    record { value = ap Err c.of.ensures ∙ sym (ap (λ (f : Formatted). f.answer) e); image_after = sym (ap (λ (f : Formatted). f.image) e) }

size : (c : Else-not-is_image_size) → is_image_size (length c.args.image.now) ≡ true
size c = sym c.is_image_size.ensures ∙ not-false _ c.if-not-is_image_size.false-raw

pub put_fresh-requires : goal.put_fresh-requires
put_fresh-requires c = size (goal.at.put_fresh-requires c).Else-not-is_image_size

pub returns : goal.returns
returns c =
    let e = format-accepted c.args.image.now (size (goal.at.returns c).Else-not-is_image_size) in
    record { value = sym (ap (λ (f : Formatted). f.answer) e); image_after = c.put_fresh.ensures ∙ sym (ap (λ (f : Formatted). f.image) e) }
