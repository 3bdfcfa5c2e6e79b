-- The bytes of commands: decoding takes the encoding back, whatever follows.
-- Assumes nothing.
use Prim.Native.Nat.{ℕ, suc, ◌+◌, ◌*◌, ◌/◌, ◌%◌, ◌≤◌, ◌<◌}
use mathlib.Core.Path.{◌≡◌, refl, sym, ap, ap₂, ◌∙◌}
use mathlib.Core.Bool.{Bool, true, false}
use mathlib.Core.List.{List, [], ◌∷◌, ◌++◌, append_assoc, append-nil}
use mathlib.Core.Logic.{inl, inr}
use native.Mathlib.Omega.{arith}
use lib.ListN.{length, get_or, take, drop, length-append}
use lib.Seq.{drop-drop, take_at, drop_at}
use lib.Dec.{eqb}
use borrow.Author.Tests.{eq-eqb, ne_eqb}
use Rattle.codec.specs.Lists.{pick, part, splice, All}
use Rattle.codec.specs.Numbers.{number, bytes_of}
use Rattle.codec.proofs.Lists.{part-whole, part-append-left, splice-next}
use Rattle.codec.proofs.Numbers.{length-bytes_of, number-bytes_of}
use Rattle.device.specs.Tape.{
  Op,
  store,
  flush,
  barrier,
  malformed,
  well_formed,
  kind_of,
  place_of,
  unit,
  follows,
  place_ok,
  is_command,
  front,
  extent,
  decode,
  head_bytes,
  word_bytes,
  line_bytes,
  flush_bytes,
  barrier_bytes,
  command_bytes,
  tape_bytes,
  Writable,
}
use Rattle.device.proofs.Decode.{in_place, stands-command, front-kind, decode-front, decode-nil}

-- ---- a command's head

part_at : (t : List ℕ) (o n : ℕ) (r : List ℕ) → drop o t ≡ r → part t o n ≡ part r 0 n
unfolding part
part_at t o n r e = ap (take n) e

part-all : (l : List ℕ) (n : ℕ) → length l ≡ n → part l 0 n ≡ l
part-all l n e = ap (part l 0) (sym e) ∙ part-whole l

length-head_bytes : (kind place : ℕ) → length (head_bytes kind place) ≡ 4
unfolding head_bytes
length-head_bytes kind place = ap (λ (k : ℕ). suc (suc k)) (length-bytes_of 2 place)

-- the kind and the zero byte are one number of two bytes
pub head_bytes-two : (kind place : ℕ) → kind < 256 → bytes_of 2 kind ++ bytes_of 2 place ≡ head_bytes kind place
unfolding head_bytes bytes_of
head_bytes-two kind place h =
    let low : kind % 256 ≡ kind = omega arith in
    let high : kind / 256 % 256 ≡ 0 = omega arith in
    rw (high, low)

module _ (n kind place : ℕ) (rest : List ℕ) (small : place < 65536) where
  head-kind-of : kind_of (head_bytes kind place ++ rest) ≡ kind
  unfolding head_bytes
  head-kind-of = refl

  head-second : get_or (head_bytes kind place ++ rest) 1 0 ≡ 0
  unfolding head_bytes
  head-second = refl

  head-place : place_of (head_bytes kind place ++ rest) ≡ place
  unfolding head_bytes part
  head-place = ap number (take_at (bytes_of 2 place) rest 2 (length-bytes_of 2 place)) ∙ number-bytes_of 2 place small

  head-rest : drop 4 (head_bytes kind place ++ rest) ≡ rest
  head-rest = drop_at (head_bytes kind place) rest 4 (length-head_bytes kind place)

  -- a head of a known kind, with the bytes that it wants after it and a place that it may have, is a command
  pub head-command : 1 ≤ kind → kind ≤ 4 → follows kind ≤ length rest → place_ok n kind place ≡ true → is_command n (head_bytes kind place ++ rest) ≡ true
  head-command low high whole inside =
      let long = length-append (head_bytes kind place) rest in
      let four = length-head_bytes kind place in
      let kinds = ap follows head-kind-of in
      stands-command n (head_bytes kind place ++ rest) (record {
        head = omega arith;
        low = omega (arith, head-kind-of);
        high = omega (arith, head-kind-of);
        second = head-second;
        whole = omega arith;
        inside = ap₂ (place_ok n) head-kind-of head-place ∙ inside;
      })

-- ---- one command

module _ (n : ℕ) (rest : List ℕ) (place : ℕ) (small : place < 65536) where
  -- a store of s bytes, whose place counts by as many
  decode-store : (kind s : ℕ) (vs : List ℕ) → 1 ≤ kind → kind ≤ 2 → unit kind ≡ s → follows kind ≡ s → length vs ≡ s → s * place + s ≤ n →
      decode n ((head_bytes kind place ++ vs) ++ rest) ≡ store (s * place) vs ∷ decode n rest
  decode-store kind s vs low high u f long inside =
      let tail = vs ++ rest in
      let t = head_bytes kind place ++ tail in
      let more = length-append vs rest in
      let is = head-command n kind place tail small low (omega arith) (omega arith) (in_place n kind place (λ q. omega arith) (rw u inside)) in
      let four = head-rest n kind place tail small in
      let there : part t 4 s ≡ vs = part_at t 4 s tail four ∙ part-append-left vs rest 0 s (omega arith) ∙ part-all vs s long in
      let said : front n t ≡ store (s * place) vs =
      front-kind n t kind is (head-kind-of n kind place tail small) ∙ rw (ne_eqb kind 3 (λ q. omega arith), ne_eqb kind 4 (λ q. omega arith), u, f, head-place n kind place tail small, there) in
      let size : length t ≡ 4 + length tail = length-append (head_bytes kind place) tail ∙ ap (λ (k : ℕ). k + length tail) (length-head_bytes kind place) in
      let left : drop (4 + length vs) t ≡ rest = sym (drop-drop (length vs) 4 t) ∙ ap (drop (length vs)) four ∙ drop_at vs rest (length vs) refl in
      ap (decode n) (append_assoc (head_bytes kind place) vs rest)
      ∙ decode-front n t (store (s * place) vs) (omega arith) said (omega arith)
      ∙ ap (λ (r : List ℕ). store (s * place) vs ∷ decode n r) left

  pub decode-word : (vs : List ℕ) → length vs ≡ 8 → 8 * place + 8 ≤ n → decode n (word_bytes place vs ++ rest) ≡ store (8 * place) vs ∷ decode n rest
  unfolding unit follows
  decode-word vs long inside = decode-store 1 8 vs (omega arith) (omega arith) refl refl long inside

  pub decode-line : (vs : List ℕ) → length vs ≡ 64 → 64 * place + 64 ≤ n → decode n (line_bytes place vs ++ rest) ≡ store (64 * place) vs ∷ decode n rest
  unfolding unit follows
  decode-line vs long inside = decode-store 2 64 vs (omega arith) (omega arith) refl refl long inside

  -- a head that nothing follows
  decode-head : (kind : ℕ) (o : Op) → 1 ≤ kind → kind ≤ 4 → follows kind ≡ 0 → place_ok n kind place ≡ true → extent o ≡ 4 →
      (is_command n (head_bytes kind place ++ rest) ≡ true → front n (head_bytes kind place ++ rest) ≡ o) → decode n (head_bytes kind place ++ rest) ≡ o ∷ decode n rest
  decode-head kind o low high none inside x said =
      let t = head_bytes kind place ++ rest in
      let is = head-command n kind place rest small low high (omega arith) inside in
      let size : length t ≡ 4 + length rest = length-append (head_bytes kind place) rest ∙ ap (λ (k : ℕ). k + length rest) (length-head_bytes kind place) in
      decode-front n t o (omega arith) (said is) (omega arith) ∙ ap (λ (k : ℕ). o ∷ decode n (drop k t)) x ∙ ap (λ (r : List ℕ). o ∷ decode n r) (head-rest n kind place rest small)

  pub decode-flush : 64 * place + 64 ≤ n → decode n (flush_bytes place ++ rest) ≡ flush place ∷ decode n rest
  unfolding unit follows
  decode-flush inside =
      decode-head 3 (flush place) (omega arith) (omega arith) refl (in_place n 3 place (λ q. omega arith) inside) refl
      (λ is. front-kind n (flush_bytes place ++ rest) 3 is (head-kind-of n 3 place rest small) ∙ ap flush (head-place n 3 place rest small))

pub decode-barrier : (n : ℕ) (rest : List ℕ) → decode n (barrier_bytes ++ rest) ≡ barrier ∷ decode n rest
unfolding follows place_ok
decode-barrier n rest =
    decode-head n rest 0 (omega arith) 4 barrier (omega arith) (omega arith) refl refl refl
    (λ is. front-kind n (barrier_bytes ++ rest) 4 is (head-kind-of n 4 0 rest (omega arith)))

-- a head, and the bytes that are written after it
pub emitted : (tape : List ℕ) (at kind place : ℕ) (vs head out : List ℕ) → head ≡ splice tape at (head_bytes kind place) → out ≡ splice head (at + 4) vs → at + 4 + length vs ≤ length tape →
    out ≡ splice tape at (head_bytes kind place ++ vs)
emitted tape at kind place vs head out e f fits =
    let four = length-head_bytes kind place in
    f ∙ splice-next tape at (head_bytes kind place) vs head (at + 4) e (omega arith) (omega arith)

-- ---- a tape

pub length-command_bytes : (o : Op) → length (command_bytes o) ≡ extent o
unfolding command_bytes
length-command_bytes (store p vs) = go (eqb (length vs) 8)
  where
    size : (kind place : ℕ) → length (head_bytes kind place ++ vs) ≡ 4 + length vs
    size kind place = length-append (head_bytes kind place) vs ∙ ap (λ (k : ℕ). k + length vs) (length-head_bytes kind place)

    go : (b : Bool) → length (pick b (word_bytes (p / 8) vs) (line_bytes (p / 64) vs)) ≡ 4 + length vs
    go true = size 1 (p / 8)
    go false = size 2 (p / 64)
length-command_bytes (flush l) = length-head_bytes 3 l
length-command_bytes barrier = length-head_bytes 4 0
length-command_bytes malformed = refl

pub tape_bytes-append : (a b : List Op) → tape_bytes (a ++ b) ≡ tape_bytes a ++ tape_bytes b
unfolding tape_bytes
tape_bytes-append [] b = refl
tape_bytes-append (o ∷ a) b = ap (λ (r : List ℕ). command_bytes o ++ r) (tape_bytes-append a b) ∙ sym (append_assoc (command_bytes o) (tape_bytes a) (tape_bytes b))

module _ (n : ℕ) (most : n ≤ 65536) where
  decode-command : (o : Op) (rest : List ℕ) → Writable n o → decode n (command_bytes o ++ rest) ≡ o ∷ decode n rest
  unfolding command_bytes
  decode-command (store p vs) rest (inl h) =
      let place : 8 * (p / 8) ≡ p = omega (arith, h.1) in
      rw (eq-eqb (length vs) 8 h.0)
      (decode-word n rest (p / 8) (omega (arith, h.2)) vs h.0 (omega (arith, h.2)) ∙ ap (λ (q : ℕ). store q vs ∷ decode n rest) place)
  decode-command (store p vs) rest (inr h) =
      let place : 64 * (p / 64) ≡ p = omega (arith, h.1) in
      rw (ne_eqb (length vs) 8 (λ e. omega (arith, h.0)))
      (decode-line n rest (p / 64) (omega (arith, h.2)) vs h.0 (omega (arith, h.2)) ∙ ap (λ (q : ℕ). store q vs ∷ decode n rest) place)
  decode-command (flush l) rest h = decode-flush n rest l (omega arith) h
  decode-command barrier rest h = decode-barrier n rest
  decode-command malformed rest h = absurd h

  pub decode-tape : (cs : List Op) (rest : List ℕ) → All (Writable n) cs → decode n (tape_bytes cs ++ rest) ≡ cs ++ decode n rest
  unfolding tape_bytes
  decode-tape [] rest h = refl
  decode-tape (o ∷ cs) rest h =
      ap (decode n) (append_assoc (command_bytes o) (tape_bytes cs) rest) ∙ decode-command o (tape_bytes cs ++ rest) h.0 ∙ ap (λ (r : List Op). o ∷ r) (decode-tape cs rest h.1)

  pub decode-whole : (cs : List Op) → All (Writable n) cs → decode n (tape_bytes cs) ≡ cs
  decode-whole cs h = ap (decode n) (sym (append-nil (tape_bytes cs))) ∙ decode-tape cs [] h ∙ ap (λ (r : List Op). cs ++ r) (decode-nil n) ∙ append-nil cs

-- commands that a tape can hold are well formed
pub writable-formed : (n : ℕ) (cs : List Op) → All (Writable n) cs → well_formed cs ≡ true
unfolding well_formed
writable-formed n [] w = refl
writable-formed n (store p vs ∷ cs) w = writable-formed n cs w.1
writable-formed n (flush l ∷ cs) w = writable-formed n cs w.1
writable-formed n (barrier ∷ cs) w = writable-formed n cs w.1
writable-formed n (malformed ∷ cs) w = absurd w.0
