-- `emit_number`: the number's bytes, stored by a word store.
-- Assumes nothing.
use Prim.Native.Nat.{ℕ}
use mathlib.Core.Path.{ap, ◌∙◌}
use mathlib.Core.List.{List}
use native.Mathlib.Omega.{arith}
use lib.ListN.{replicate, length-replicate}
use Rattle.codec.specs.Lists.{splice}
use Rattle.codec.specs.Numbers.{bytes_of}
use Rattle.codec.proofs.Lists.{part-front}
use Rattle.codec.proofs.Numbers.{length-bytes_of}
use Rattle.device.specs.Tape.{word_bytes}
use Rattle.tape_write.proofs.Encoding.{word-last}
use Rattle.tape_write.proofs.ends.emit_number.Goals as goal

pub returns : goal.returns
returns c =
    let n = length-bytes_of 8 c.args.v in
    word-last c.args.tape.now _ c.args.at c.args.word (bytes_of 8 c.args.v)
    (c.emit_word.ensures ∙ ap (λ (x : List ℕ). splice c.args.tape.now c.args.at (word_bytes c.args.word x)) (part-front (replicate 8 0) (bytes_of 8 c.args.v) _ 8 c.put_long.ensures n (omega (arith, length-replicate {A = ℕ} 8 0)))) n c.requires
