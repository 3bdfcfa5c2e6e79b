-- `collect_changed`: words that are the same give nothing to collect.
-- Assumes nothing.
use mathlib.Core.Path.{sym, ◌∙◌}
use Rattle.tape_write.proofs.Skipped.{none-collected, differ-whole}
use Rattle.tape_write.proofs.words.collect_changed.Goals as goal

pub returns-then-same_words : goal.returns-then-same_words
returns-then-same_words c = let whole =
    none-collected _ (differ-whole c.args.image.now c.args.work.now c.args.from c.args.to (sym c.same_words.ensures ∙ c.if-same_words.true)) _ _ in record { value = whole.0; words_after = whole.1 }
