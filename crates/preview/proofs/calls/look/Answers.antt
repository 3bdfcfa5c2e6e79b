-- `look`: the key that is asked, then the keys of the list, then what is seen.
-- Assumes nothing.
use Rattle.std.proofs.lemmas.Result.{err_from_is_err_and}
use Rattle.std.specs.Prelude.{Err}
use mathlib.Core.Path.{◌≡◌, sym, ap, ◌∙◌}
use mathlib.Core.Bool.{true}
use borrow.Author.Tests.{le-leb, lt-leb}
use Rattle.image.specs.Calls.{key_ok}
use Rattle.preview.specs.Calls.{rules_of, keys_of, stored_after}
use Rattle.preview.proofs.calls.look.Goals as goal
use Rattle.preview.proofs.calls.look.Goals.{Else-key-gt-TOP_KEY}

pub returns-then-key-lt1 : goal.returns-then-key-lt1
unfolding keys_of key_ok
returns-then-key-lt1 c = ap Err c.of.ensures ∙ rw (lt-leb 1 _ c.if-key-lt1.true)

pub returns-then-key-gt-TOP_KEY : goal.returns-then-key-gt-TOP_KEY
unfolding keys_of key_ok
returns-then-key-gt-TOP_KEY c = ap Err c.of-then-key-gt-TOP_KEY.ensures ∙ rw (le-leb 1 _ c.if-key-lt1.false, lt-leb _ 999999999999 c.if-key-gt-TOP_KEY.true)

ranged : (c : Else-key-gt-TOP_KEY) → key_ok c.args.key ≡ true
unfolding key_ok
ranged c = rw (le-leb 1 _ c.if-key-lt1.false, le-leb _ 999999999999 c.if-key-gt-TOP_KEY.false)

pub returns-in_err-judge_keys : goal.returns-in_err-judge_keys
unfolding keys_of rules_of
returns-in_err-judge_keys c =
    let p = err_from_is_err_and c.from_residual.result c.from_residual.ensures.1 in
    rw (p.1, p.2, ranged (goal.at.returns-in_err-judge_keys c).Else-key-gt-TOP_KEY, sym c.judge_keys.ensures.value ∙ c.in_err-judge_keys.was)

pub see-requires : goal.see-requires
see-requires c = (c.requires.0, (_, c.judge_keys.ensures.marks_after c.in_ok-judge_keys.was))

pub returns : goal.returns
unfolding keys_of rules_of stored_after
returns c =
    c.see.ensures _ (c.judge_keys.ensures.marks_after c.in_ok-judge_keys.was) ∙ rw (ranged (goal.at.returns c).Else-key-gt-TOP_KEY, sym c.judge_keys.ensures.value ∙ c.in_ok-judge_keys.was)
