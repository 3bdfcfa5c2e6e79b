-- `take_lines`: what the lines that are left do after those taken is the whole.
-- Assumes nothing.
use mathlib.Core.Path.{◌≡◌}
use Rattle.std.specs.Slice.Iter.{chunks_rest, chunks_size}
use Rattle.std.specs.Iterator.Adapters.{enumerate_source, enumerate_count}
use Rattle.sheet.specs.Steps.{steps, state_of}
use Rattle.sheet.proofs.Taking.{Taken}
use Rattle.sheet.proofs.form.take_lines.Given as goal

abbrev pub invariant-loop-done : goal.invariant-loop-done
invariant-loop-done l = record {
  can_next : (goal.iterator-loop-done).can_next l.done-iterator;
  is_finite : (goal.iterator-loop-done).is_finite l.done-iterator;
  size : chunks_size (enumerate_source l.done-iterator) ≡ 28;
  taken : Taken (steps l.input l.initial.image) (enumerate_count l.done-iterator) (chunks_rest (enumerate_source l.done-iterator)) (state_of l.image l.waiting l.totals);
}
