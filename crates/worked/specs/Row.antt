-- A row of 'Worked on paper': transactions from a store on, mostly a fresh one of 8 pages, one more, and what is read off its answer.
-- Assumes nothing.
use Rattle.std.specs.Prelude.{ℕ, ◌/◌, ◌≡◌, List, [], ◌∷◌, ◌++◌, length, get_or, take, replicate, eqb, Err, Ok, Result}
use Rattle.device.specs.Calls.{number_in}
use Rattle.device.specs.declared.Refusal.{Refusal}
use Rattle.journal.specs.declared.Commit.{Commit}
use Rattle.codec.specs.Lists.{pick}
use Rattle.device.specs.Tape.{Op, store, flush, barrier, malformed, decode, barrier_count}
use Rattle.page.specs.Layout.{rec_of, read_head}
use Rattle.page.specs.Operations.{page_of}
use Rattle.image.specs.PageZero.{root_of}
use Rattle.image.specs.Image.{child_of, children, reached, among}
use Rattle.image.specs.Table.{table}
use Rattle.image.specs.Fresh.{fresh}
use Rattle.edit.specs.EditList.{Edit}
use Rattle.edit.specs.Reads.{list_bytes}
use Rattle.journal.specs.declared.Way.TheVariants.{ByLine}
use Rattle.transaction.specs.Calls.{Called, transaction_call}

-- the tape lent: longer than any of these rows needs
unfoldable pub lent_tape : List ℕ
lent_tape = replicate 4096 0

-- a transaction of these edits on the image a, which is lent for work too
unfoldable pub transacted : List ℕ → List Edit → Called
transacted a es = transaction_call ByLine a a lent_tape (list_bytes es)

-- the image that accepted transactions leave, one after the other
unfoldable pub after : List (List Edit) → List ℕ → List ℕ
after [] a = a
after (es ∷ ts) a = after ts (transacted a es).work

-- what is read off an answer
pub data Probe : Type 0 where
  refusal : Probe
  edit_number : Probe
  bytes : Probe
  flushes : Probe
  -- the number of barriers on the tape
  barriers : Probe
  -- each command on the tape: its kind and its place
  commands : Probe
  -- of a page: its content start, its count, the offset in a slot, and whether it is reached (1 or 0)
  start : ℕ → Probe
  count : ℕ → Probe
  slot : ℕ → ℕ → Probe
  is_reached : ℕ → Probe
  -- of a page above the leaves: the separator in a slot, and the page that it names
  entry : ℕ → ℕ → Probe
  -- the number of records in the table
  records : Probe

unfoldable pub refusal_in : Result Commit Refusal → ℕ
refusal_in (Ok c) = 0
refusal_in (Err r) = number_in r

unfoldable pub edit_number_in : Result Commit Refusal → ℕ
edit_number_in (Ok c) = 0
edit_number_in (Err r) = r.edit

unfoldable pub bytes_in : Result Commit Refusal → ℕ
bytes_in (Ok c) = c.bytes
bytes_in (Err r) = 0

unfoldable pub flushes_in : Result Commit Refusal → ℕ
flushes_in (Ok c) = c.flushes
flushes_in (Err r) = 0

-- kind 1 and a word, kind 2 and a line, kind 3 and a line, or kind 4 and 0
unfoldable pub kind_and_place : Op → List ℕ
kind_and_place (store p vs) = pick (eqb (length vs) 8) (1 ∷ p / 8 ∷ []) (2 ∷ p / 64 ∷ [])
kind_and_place (flush l) = 3 ∷ l ∷ []
kind_and_place barrier = 4 ∷ 0 ∷ []
kind_and_place malformed = []

unfoldable pub kinds_and_places : List Op → List ℕ
kinds_and_places [] = []
kinds_and_places (o ∷ cs) = kind_and_place o ++ kinds_and_places cs

-- the commands on the tape, as far as it is used
abbrev pub commands_in : Called → List Op
commands_in r = decode (length r.work) (take (bytes_in r.answer) r.tape)

unfoldable pub read_off : Called → Probe → List ℕ
read_off r refusal = refusal_in r.answer ∷ []
read_off r edit_number = edit_number_in r.answer ∷ []
read_off r bytes = bytes_in r.answer ∷ []
read_off r flushes = flushes_in r.answer ∷ []
read_off r barriers = barrier_count (commands_in r) ∷ []
read_off r commands = kinds_and_places (commands_in r)
read_off r (start p) = (read_head (page_of r.work p)).start ∷ []
read_off r (count p) = length (read_head (page_of r.work p)).slots ∷ []
read_off r (slot p j) = get_or (read_head (page_of r.work p)).slots j 0 ∷ []
read_off r (is_reached p) = pick (among p (reached r.work (root_of r.work))) 1 0 ∷ []
read_off r (entry p j) = let c = get_or (children r.work p) j (rec_of 0 []) in c.key ∷ child_of c ∷ []
read_off r records = length (table r.work) ∷ []

unfoldable pub read_all : Called → List Probe → List ℕ
read_all r [] = []
read_all r (p ∷ ps) = read_off r p ++ read_all r ps

pub record Row : Type 0 where
  -- accepted transactions before it
  pub setup : List (List Edit)
  pub edits : List Edit
  pub asks : List Probe
  -- the paper's numbers
  pub says : List ℕ

unfoldable pub found : List ℕ → Row → List ℕ
found a r = read_all (transacted (after r.setup a) r.edits) r.asks

-- the row's claim, from the image a on: what is read is what the paper says
abbrev pub HoldsFrom : List ℕ → Row → Type 0
HoldsFrom a r = found a r ≡ r.says

abbrev pub Holds : Row → Type 0
Holds r = HoldsFrom (fresh 8) r
