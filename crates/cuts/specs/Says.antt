-- What is promised of the list of cuts, without the functions that make it (document 02 (e)).
-- Assumes nothing.
use Rattle.std.specs.Prelude.{ℕ, ◌≤◌, ◌<◌, ◌/◌, ◌≡◌, ◌⊎◌, true, false, List, [], ◌∷◌, length, get_or, take, Err, Ok, Result}
use Rattle.device.specs.declared.Refusal.{Refusal}
use Rattle.device.specs.Tape.{Op, decode, well_formed}
use Rattle.device.specs.Cut.{pending}
use Rattle.device.specs.Calls.{refusal, is_image_size, cut_call}
use Rattle.cuts.specs.All.{cuts}
use Rattle.cuts.specs.Calls.{cuts_of, Given, nth_call}

-- ---- the list

-- a cut of the commands cs over so many lines: a count of commands, one choice a line, and none above the line's pending stores
pub record IsCut (lines : ℕ) (cs : List Op) (c : ℕ) (bytes : List ℕ) : Type 0 where
  pub within : c ≤ length cs
  pub per_line : length bytes ≡ lines
  pub pending_only : (l : ℕ) → l < lines → get_or bytes l 0 ≤ pending l (take c cs)

-- cut number r of the list
pub record Listed (lines : ℕ) (cs : List Op) (r c : ℕ) (bytes : List ℕ) : Type 0 where
  pub below : r < length (cuts lines cs)
  pub is : get_or (cuts lines cs) r [] ≡ c ∷ bytes

-- a cut stands in the list
pub record Stands (lines : ℕ) (cs : List Op) (c : ℕ) (bytes : List ℕ) : Type 0 where
  pub number : ℕ
  pub listed : Listed lines cs number c bytes

-- "Cuts rise by that count, then by the choice bytes compared line by line from line 0": the first number that differs is smaller
abbrev pub Before : List ℕ → List ℕ → Type 0
Before [] ys = ⊥
Before (x ∷ xs) [] = ⊥
Before (x ∷ xs) (y ∷ ys) = (x < y) ⊎ ((x ≡ y) × Before xs ys)

-- ---- the refusals

-- "For at most 12 commands": the tape is one whose cuts are given
pub record Small (image tape : List ℕ) : Type 0 where
  pub size : is_image_size (length image) ≡ true
  pub formed : well_formed (decode (length image) tape) ≡ true
  pub few : length (decode (length image) tape) ≤ 12

-- "Refused: 1, then 14, then 17 if the tape has over 12 commands": each ground where none before it holds
pub data NotSmall (image tape : List ℕ) : ℕ → Type 0 where
  bad-size : is_image_size (length image) ≡ false → NotSmall image tape 1
  bad-tape : is_image_size (length image) ≡ true → well_formed (decode (length image) tape) ≡ false → NotSmall image tape 14
  long-tape : is_image_size (length image) ≡ true → well_formed (decode (length image) tape) ≡ true → 13 ≤ length (decode (length image) tape) → NotSmall image tape 17

-- what the counting call answers
pub data CountSays (image tape : List ℕ) : Result ℕ Refusal → Type 0 where
  count-refused : (k : ℕ) → NotSmall image tape k → CountSays image tape (Err (refusal k))
  count-given : Small image tape → CountSays image tape (Ok (length (cuts_of image tape)))

-- what the other answers and leaves in the choices buffer: "then 16 for the choices buffer, then 18 if r is not below the number"
pub data NthSays (image tape : List ℕ) (r : ℕ) (room : List ℕ) : Given → Type 0 where
  nth-refused : (k : ℕ) → NotSmall image tape k → NthSays image tape r room (record { answer = Err (refusal k); choices = room })
  bad-choices : Small image tape → (length room ≡ length image / 64 → ⊥) → NthSays image tape r room (record { answer = Err (refusal 16); choices = room })
  no-such-cut : Small image tape → length room ≡ length image / 64 → length (cuts_of image tape) ≤ r → NthSays image tape r room (record { answer = Err (refusal 18); choices = room })
  nth-given : Small image tape → length room ≡ length image / 64 → (c : ℕ) (bytes : List ℕ) → Listed (length image / 64) (decode (length image) tape) r c bytes →
      NthSays image tape r room (record { answer = Ok c; choices = bytes })

-- ---- what it is for

-- a number for which the call gives this cut
pub record Gives (image tape room : List ℕ) (c : ℕ) (bytes : List ℕ) : Type 0 where
  pub number : ℕ
  pub below : number < length (cuts_of image tape)
  pub gives : nth_call image tape number room ≡ record { answer = Ok c; choices = bytes }

-- a cut that the call gives, for which `cut` answers and leaves the same as for these choices
pub record Serves (image work tape : List ℕ) (c : ℕ) (choices room : List ℕ) : Type 0 where
  pub bytes : List ℕ
  pub is_given : Gives image tape room c bytes
  pub same : cut_call image work tape c bytes ≡ cut_call image work tape c choices
