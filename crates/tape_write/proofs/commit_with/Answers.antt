-- `commit_with`: the counts give the size before anything is written; then stage A and the end are written.
-- Assumes nothing.
use Prim.Native.Nat.{ℕ, ◌+◌, ◌*◌}
use mathlib.Core.Path.{◌≡◌, sym, ap, ap₂, ◌∙◌, subst}
use mathlib.Core.List.{List, []}
use native.Mathlib.Omega.{arith}
use lib.ListN.{length, take}
use lib.Seq.{sets}
use Rattle.codec.specs.Lists.{All}
use Rattle.device.specs.Tape.{tape_bytes}
use Rattle.journal.specs.Tape.{choose}
use Rattle.tape_write.specs.Words.{WordIn, lines_past, stage_tape}
use Rattle.tape_write.specs.Lines.{PageIn}
use Rattle.tape_write.specs.Sizes.{group_bytes, end_bytes, end_flushes}
use Rattle.tape_write.proofs.Encoding.{group-few}
use Rattle.tape_write.proofs.Choosing.{end-few, leaves-as}
use Rattle.tape_write.proofs.Committing.{words-there, pages-there, counts-few, pages-few, bytes-are, says-full, says-short, says-done}
use Rattle.tape_write.proofs.commit_with.Goals as goal

pub returns-then-k-gt15 : goal.returns-then-k-gt15
returns-then-k-gt15 c = let whole =
    says-full c.args.way c.args.image.now c.args.work.now c.args.tape.now (omega (arith, c.if-k-gt15.true, c.find_changes-found.ensures.counted.headers)) in record { value = whole.0; work_after = whole.1.0; tape_after = whole.1.1 }

pub overflow_mul-stage : goal.overflow_mul-stage
overflow_mul-stage c =
    omega (arith, (counts-few c.args.way c.args.image.now c.args.work.now c.requires.0.images c.find_changes-found.result c.find_changes-found.ensures.counted).0)

pub group_bytes-requires : goal.group_bytes-requires
group_bytes-requires c =
    omega (arith, (counts-few c.args.way c.args.image.now c.args.work.now c.requires.0.images c.find_changes-found.result c.find_changes-found.ensures.counted).1)

pub overflow_add-stage : goal.overflow_add-stage
overflow_add-stage c =
    omega (arith, (counts-few c.args.way c.args.image.now c.args.work.now c.requires.0.images c.find_changes-found.result c.find_changes-found.ensures.counted).0, (counts-few c.args.way c.args.image.now c.args.work.now c.requires.0.images c.find_changes-found.result c.find_changes-found.ensures.counted).1, c.group_bytes.ensures, group-few c.find_changes-found.result.lines)

pub overflow_add-bytes : goal.overflow_add-bytes
overflow_add-bytes c =
    omega (arith, (counts-few c.args.way c.args.image.now c.args.work.now c.requires.0.images c.find_changes-found.result c.find_changes-found.ensures.counted).0, (counts-few c.args.way c.args.image.now c.args.work.now c.requires.0.images c.find_changes-found.result c.find_changes-found.ensures.counted).1, c.group_bytes.ensures, group-few c.find_changes-found.result.lines, c.end_bytes.ensures, (end-few c.args.way c.find_changes-found.result.headers c.find_changes-found.result.same c.if-k-gt15.false).0)

pub returns-then-tape-bytes : goal.returns-then-tape-bytes
returns-then-tape-bytes c = let whole =
    let if1 = c.if-k-gt15 in
    says-short c.args.way c.args.image.now c.args.work.now c.args.tape.now c.requires.0.images (pages-few c.args.way c.args.image.now c.args.work.now c.requires.0.images c.find_changes-found.result c.find_changes-found.ensures.counted if1.false) _ (bytes-are c.args.way c.args.image.now c.args.work.now c.requires.0.images c.find_changes-found.result c.find_changes-found.ensures.counted if1.false _ _ c.group_bytes.ensures c.end_bytes.ensures) c.if-tape-bytes.true in record { value = whole.0; work_after = whole.1.0; tape_after = whole.1.1 }

pub emit_stage-requires : goal.emit_stage-requires
emit_stage-requires c =
    let words = c.find_changes-found.ensures.words_first in (
      omega (arith, c.group_bytes.ensures, ap length words, c.find_changes-found.ensures.counted.words),
      subst (All (WordIn c.args.work.now)) (sym words) (words-there c.args.way c.args.image.now c.args.work.now c.requires.0.images),
      c.find_changes-found.ensures.counted.lines ∙ ap (λ (x : List ℕ). length (lines_past 0 x)) (sym words),
    )

pub emit_end-place-requires : goal.emit_end-place-requires
emit_end-place-requires c =
    let pages = c.find_changes-found.ensures.pages_first in
    let count : length (take c.find_changes-found.result.headers c.find_changes-found.new.pages) ≡ c.find_changes-found.result.headers = ap length pages ∙ sym c.find_changes-found.ensures.counted.headers in (
      omega (arith, c.end_bytes.ensures, ap (λ (k : ℕ). end_bytes c.args.way k c.find_changes-found.result.same) count),
      omega (arith, count, c.if-k-gt15.false),
      omega (arith, c.requires.0.images.low, c.requires.0.images.same),
      subst (All (PageIn c.args.work.now)) (sym pages) (pages-there c.args.way c.args.image.now c.args.work.now c.requires.0.images),
    )

pub overflow_add-result : goal.overflow_add-result
overflow_add-result c =
    omega (arith, (counts-few c.args.way c.args.image.now c.args.work.now c.requires.0.images c.find_changes-found.result c.find_changes-found.ensures.counted).1, c.end_flushes.ensures, (end-few c.args.way c.find_changes-found.result.headers c.find_changes-found.result.same c.if-k-gt15.false).1)

pub returns : goal.returns
returns c = let whole =
    let if1 = c.if-k-gt15 in
    let found = c.find_changes-found.ensures.counted in
    says-done c.args.way c.args.image.now c.args.work.now c.args.tape.now c.requires.0.images (pages-few c.args.way c.args.image.now c.args.work.now c.requires.0.images c.find_changes-found.result c.find_changes-found.ensures.counted if1.false) _ (bytes-are c.args.way c.args.image.now c.args.work.now c.requires.0.images c.find_changes-found.result c.find_changes-found.ensures.counted if1.false _ _ c.group_bytes.ensures c.end_bytes.ensures) c.if-tape-bytes.false _ _ (12 * c.find_changes-found.result.words + c.group_bytes.result) _ _ _ _
    (c.emit_stage.ensures ∙ ap (λ (x : List ℕ). sets c.args.tape.now 0 (tape_bytes (stage_tape c.args.work.now x))) c.find_changes-found.ensures.words_first)
    (omega (arith, found.words, c.group_bytes.ensures, ap group_bytes found.lines))
    (leaves-as _ _ _ _ _ _ _ (ap₂ (choose c.args.way [] c.args.work.now) (sym found.root) (sym c.find_changes-found.ensures.pages_first)) (c.emit_end-place.ensures.value, (c.emit_end-place.ensures.work_after, c.emit_end-place.ensures.tape_after)))
    found.lines (c.end_flushes.ensures ∙ ap₂ (end_flushes c.args.way) found.headers found.root) in record { value = whole.0; work_after = whole.1.0; tape_after = whole.1.1 }
