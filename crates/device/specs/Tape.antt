-- The tape (document 01, "The device", and the barrier of document 02 (h)): what a command says, the commands of a tape, and the bytes of a
-- command.
-- Assumes nothing.
use Rattle.std.specs.Prelude.{ℕ, zero, suc, ◌+◌, ◌*◌, ◌/◌, ◌%◌, ◌≤◌, ◌≡◌, ◌⊎◌, Bool, true, false, List, [], ◌∷◌, ◌++◌, length, get_or, leb, eqb}
use Rattle.codec.specs.Lists.{pick, part, every}
use Rattle.codec.specs.Numbers.{number, bytes_of}

-- a command: bytes stored from a byte of the image on (a word or a line), a line flushed, a barrier, or what is no command
pub data Op : Type 0 where
  store : ℕ → List ℕ → Op
  flush : ℕ → Op
  barrier : Op
  malformed : Op

-- ---- reading

-- "A command starts with its kind (1 byte), a zero byte and its place (2 bytes)."
abbrev pub kind_of : List ℕ → ℕ
kind_of t = get_or t 0 0

abbrev pub place_of : List ℕ → ℕ
place_of t = number (part t 2 2)

-- "place is the word number", "the line number": the bytes that a place of this kind counts by
unfoldable pub unit : ℕ → ℕ
unit kind = pick (eqb kind 1) 8 64

-- "8 bytes follow", "64 bytes follow", "nothing follows" (a flush, a barrier)
unfoldable pub follows : ℕ → ℕ
follows kind = pick (eqb kind 1) 8 (pick (eqb kind 2) 64 0)

-- whether a command of this kind may have this place, over an image of n bytes: a word or a line is not outside; a barrier has place 0
unfoldable pub place_ok : ℕ → ℕ → ℕ → Bool
place_ok n kind place = pick (eqb kind 4) (eqb place 0) (leb (unit kind * place + unit kind) n)

-- whether t starts with a command at a place of an image of n bytes: the head is whole, the kind known, the second byte zero,
-- the bytes that follow are whole, and the place is one that the kind may have
unfoldable pub is_command : ℕ → List ℕ → Bool
is_command n t =
    every
    (leb 4 (length t)
    ∷ leb 1 (kind_of t)
    ∷ leb (kind_of t) 4
    ∷ eqb (get_or t 1 0) 0
    ∷ leb (4 + follows (kind_of t)) (length t)
    ∷ place_ok n (kind_of t) (place_of t)
    ∷ [])

-- "Kind 1, word store"; "Kind 2, line store"; "Kind 3, flush"; "Command kind 4 [..] is the barrier"
unfoldable pub front : ℕ → List ℕ → Op
front n t =
    pick (is_command n t)
    (pick (eqb (kind_of t) 3) (flush (place_of t)) (pick (eqb (kind_of t) 4) barrier (store (unit (kind_of t) * place_of t) (part t 4 (follows (kind_of t))))))
    malformed

-- the bytes that a command takes on the tape
abbrev pub extent : Op → ℕ
extent (store p vs) = 4 + length vs
extent (flush l) = 4
extent barrier = 4
extent malformed = 0

-- those past its first one; past what is no command, all that are left
abbrev pub beyond : Op → ℕ → ℕ
beyond (store p vs) left = 3 + length vs
beyond (flush l) left = 3
beyond barrier left = 3
beyond malformed left = left

-- the commands of t, after skipping k bytes
unfoldable pub scan : ℕ → ℕ → List ℕ → List Op
scan n k [] = []
scan n zero (b ∷ t) = front n (b ∷ t) ∷ scan n (beyond (front n (b ∷ t)) (length t)) t
scan n (suc k) (b ∷ t) = scan n k t

-- "A tape is commands end to end": those of the tape t over an image of n bytes; what is no command is the last of them
unfoldable pub decode : ℕ → List ℕ → List Op
decode n t = scan n 0 t

-- "malformed tape or a place outside": not so
unfoldable pub well_formed : List Op → Bool
well_formed [] = true
well_formed (store p vs ∷ cs) = well_formed cs
well_formed (flush l ∷ cs) = well_formed cs
well_formed (barrier ∷ cs) = well_formed cs
well_formed (malformed ∷ cs) = false

-- ---- commands of a kind

abbrev pub is_flush : Op → Bool
is_flush (store p vs) = false
is_flush (flush l) = true
is_flush barrier = false
is_flush malformed = false

abbrev pub is_barrier : Op → Bool
is_barrier (store p vs) = false
is_barrier (flush l) = false
is_barrier barrier = true
is_barrier malformed = false

-- how many of the commands are so
unfoldable pub how_many : (Op → Bool) → List Op → ℕ
how_many test [] = 0
how_many test (o ∷ cs) = pick (test o) (suc (how_many test cs)) (how_many test cs)

-- "the number of flush commands on the tape"
abbrev pub flush_count : List Op → ℕ
flush_count cs = how_many is_flush cs

-- and of barriers
abbrev pub barrier_count : List Op → ℕ
barrier_count cs = how_many is_barrier cs

-- ---- writing

-- "its kind (1 byte), a zero byte and its place (2 bytes)"
unfoldable pub head_bytes : ℕ → ℕ → List ℕ
head_bytes kind place = kind ∷ 0 ∷ bytes_of 2 place

-- "Kind 1, word store: place is the word number in the image; 8 bytes follow."
abbrev pub word_bytes : ℕ → List ℕ → List ℕ
word_bytes word vs = head_bytes 1 word ++ vs

-- "Kind 2, line store: place is the line number; 64 bytes follow."
abbrev pub line_bytes : ℕ → List ℕ → List ℕ
line_bytes line vs = head_bytes 2 line ++ vs

-- "Kind 3, flush: place is the line number; nothing follows."
abbrev pub flush_bytes : ℕ → List ℕ
flush_bytes line = head_bytes 3 line

-- "Command kind 4, place 0, nothing following, is the barrier."
abbrev pub barrier_bytes : List ℕ
barrier_bytes = head_bytes 4 0

-- a command's bytes: a store of eight is a word's, another a line's
unfoldable pub command_bytes : Op → List ℕ
command_bytes (store p vs) = pick (eqb (length vs) 8) (word_bytes (p / 8) vs) (line_bytes (p / 64) vs)
command_bytes (flush l) = flush_bytes l
command_bytes barrier = barrier_bytes
command_bytes malformed = []

-- "A tape is commands end to end."
unfoldable pub tape_bytes : List Op → List ℕ
tape_bytes [] = []
tape_bytes (o ∷ cs) = command_bytes o ++ tape_bytes cs

-- a command that a tape over an image of n bytes can hold
abbrev pub Writable : ℕ → Op → Type 0
Writable n (store p vs) = ((length vs ≡ 8) × (p % 8 ≡ 0) × (p + 8 ≤ n)) ⊎ ((length vs ≡ 64) × (p % 64 ≡ 0) × (p + 64 ≤ n))
Writable n (flush l) = 64 * l + 64 ≤ n
Writable n barrier = Unit {0}
Writable n malformed = ⊥
