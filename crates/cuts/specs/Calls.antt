-- What count_cuts and nth_cut answer, and what they leave (document 02 (e)).
-- Assumes nothing.
use Rattle.std.specs.Prelude.{ℕ, ◌/◌, Bool, List, [], length, get_or, drop, leb, ltb, eqb, Err, Ok, Result}
use Rattle.device.specs.declared.Refusal.{Refusal}
use Rattle.codec.specs.Lists.{pick}
use Rattle.device.specs.Tape.{decode, well_formed}
use Rattle.device.specs.Calls.{refusal, image_size, bad_tape, bad_choices, long_tape, no_such_cut, is_image_size}
use Rattle.cuts.specs.All.{cuts}

-- the answer, or refusal k unless the test holds
unfoldable pub unless : Bool → ℕ → Result ℕ Refusal → Result ℕ Refusal
unless test k answer = pick test answer (Err (refusal k))

-- the second answer, unless the first refuses
abbrev pub and_then : Result ℕ Refusal → Result ℕ Refusal → Result ℕ Refusal
and_then (Ok k) answer = answer
and_then (Err r) answer = Err r

-- "For at most 12 commands"
abbrev pub most_commands : ℕ
most_commands = 12

-- the number of the tape's commands. "Refused: 1, then 14, then 17 if the tape has over 12 commands"
unfoldable pub small_tape : List ℕ → List ℕ → Result ℕ Refusal
small_tape image tape =
    unless (is_image_size (length image)) image_size
    (unless (well_formed (decode (length image) tape)) bad_tape
    (unless (leb (length (decode (length image) tape)) most_commands) long_tape
    (Ok (length (decode (length image) tape)))))

-- "every cut of a tape on an image", whose lines are of 64 bytes
abbrev pub cuts_of : List ℕ → List ℕ → List (List ℕ)
cuts_of image tape = cuts (length image / 64) (decode (length image) tape)

-- "one call gives the number of cuts"; "the counting call has only the first three"
unfoldable pub count_call : List ℕ → List ℕ → Result ℕ Refusal
count_call image tape = and_then (small_tape image tape) (Ok (length (cuts_of image tape)))

-- "18 if r is not below the number"; else the count of commands that cut number r of the list has in front
unfoldable pub nth_of : List (List ℕ) → ℕ → Result ℕ Refusal
nth_of all r = unless (ltb r (length all)) no_such_cut (Ok (get_or (get_or all r []) 0 0))

-- what nth_cut answers, and what the choices buffer then holds
pub record Given : Type 0 where
  pub answer : Result ℕ Refusal
  pub choices : List ℕ

-- the choice bytes are written unless the call is refused
abbrev pub given : Result ℕ Refusal → List ℕ → List ℕ → Given
given (Ok c) old new = record { answer = Ok c; choices = new }
given (Err r) old new = record { answer = Err r; choices = old }

-- an answer with cut number r of the list: its choice bytes stand after its count
abbrev pub with_cut : List (List ℕ) → ℕ → List ℕ → Result ℕ Refusal → Given
with_cut all r choices answer = given answer choices (drop 1 (get_or all r []))

-- "another cut number r, from 0, as a count of commands and the choice bytes"; "then 16 for the choices buffer"
unfoldable pub nth_call : List ℕ → List ℕ → ℕ → List ℕ → Given
nth_call image tape r choices =
    with_cut (cuts_of image tape) r choices
    (and_then (small_tape image tape) (unless (eqb (length choices) (length image / 64)) bad_choices (nth_of (cuts_of image tape) r)))
