-- The image after commands, and the image that a cut leaves (document 01, "The device"; what is durable, document 02 (h)).
-- Assumes nothing.
use Rattle.std.specs.Prelude.{ℕ, ◌+◌, ◌-◌, ◌/◌, ◌≤◌, ◌≡◌, Bool, true, false, not, ◌&&◌, ◌||◌, List, [], ◌∷◌, ◌++◌, length, take, ltb, leb, eqb}
use Rattle.std.proofs.lemmas.List.Edits.{sets}
use Rattle.codec.specs.Lists.{pick, part, All}
use Rattle.device.specs.Tape.{Op, store, flush, barrier, malformed, is_barrier}

-- ---- the image after all stores

-- a store writes its bytes at its place, all at once; a flush or a barrier changes nothing of the image
abbrev pub apply : List ℕ → Op → List ℕ
apply image (store p vs) = sets image p vs
apply image (flush l) = image
apply image barrier = image
apply image malformed = image

-- "the image after all stores"
unfoldable pub after : List ℕ → List Op → List ℕ
after image [] = image
after image (o ∷ cs) = after (apply image o) cs

-- ---- the image that a cut leaves

-- "a line 64 bytes at a multiple of 64": the line that a byte lies in
abbrev pub line_of : ℕ → ℕ
line_of p = p / 64

-- whether a command flushes line l
abbrev pub flushes_line : ℕ → Op → Bool
flushes_line l (store p vs) = false
flushes_line l (flush m) = eqb m l
flushes_line l barrier = false
flushes_line l malformed = false

-- whether one of the commands is so
unfoldable pub some : (Op → Bool) → List Op → Bool
some test [] = false
some test (o ∷ cs) = test o || some test cs

-- "a store counts as durable once its line has been flushed after it and a barrier has come after that flush": whether a store to line l is
-- durable once these commands, which come after it, are done
unfoldable pub durable : ℕ → List Op → Bool
durable l [] = false
durable l (o ∷ cs) = (flushes_line l o && some is_barrier cs) || durable l cs

-- the choices with one less at line l
abbrev pub less : (ℕ → ℕ) → ℕ → ℕ → ℕ
less f l m = pick (eqb m l) (f m - 1) (f m)

-- the list with o in front of it, if so tested
abbrev pub cons_if : Bool → Op → List Op → List Op
cons_if true o cs = o ∷ cs
cons_if false o cs = cs

-- "A cut [..] keeps all flushed stores and, for each line on its own, some first part of its pending stores", where "Until then a line keeps any first
-- part of its stores": the stores kept of these commands, all of them done, where f says how many of each line that are not durable
unfoldable pub kept : (ℕ → ℕ) → List Op → List Op
kept f [] = []
kept f (store p vs ∷ cs) =
    cons_if (durable (line_of p) cs || ltb 0 (f (line_of p))) (store p vs)
    (kept (pick (durable (line_of p) cs) f (less f (line_of p))) cs)
kept f (flush l ∷ cs) = kept f cs
kept f (barrier ∷ cs) = kept f cs
kept f (malformed ∷ cs) = kept f cs

-- "A cut after c commands"
unfoldable pub cut_image : List ℕ → (ℕ → ℕ) → ℕ → List Op → List ℕ
cut_image image f c cs = after image (kept f (take c cs))

-- ---- what the laws for the crates above speak of

-- whether a command stores byte i
abbrev pub hits : Op → ℕ → Bool
hits (store p vs) i = leb p i && ltb i (p + length vs)
hits (flush l) i = false
hits barrier i = false
hits malformed i = false

-- whether a store of the list writes byte i
unfoldable pub touches : List Op → ℕ → Bool
touches [] i = false
touches (o ∷ cs) i = hits o i || touches cs i

-- every store of the list is durable at its end
unfoldable pub Closed : List Op → Type 0
Closed [] = Unit {0}
Closed (store p vs ∷ cs) = (durable (line_of p) cs ≡ true) × Closed cs
Closed (flush l ∷ cs) = Closed cs
Closed (barrier ∷ cs) = Closed cs
Closed (malformed ∷ cs) = Closed cs

-- the stores alone
unfoldable pub stores : List Op → List Op
stores [] = []
stores (store p vs ∷ cs) = store p vs ∷ stores cs
stores (flush l ∷ cs) = stores cs
stores (barrier ∷ cs) = stores cs
stores (malformed ∷ cs) = stores cs

-- whether a command stores to line l or flushes it, or is a barrier, which waits for the flushes of all lines
abbrev pub concerns : ℕ → Op → Bool
concerns l (store p vs) = eqb (line_of p) l
concerns l (flush m) = eqb m l
concerns l barrier = true
concerns l malformed = false

-- the commands that concern line l
unfoldable pub of_line : ℕ → List Op → List Op
of_line l [] = []
of_line l (o ∷ cs) = cons_if (concerns l o) o (of_line l cs)

-- how many of the stores to line l have commands after them that are so
unfoldable pub stores_where : (List Op → Bool) → ℕ → List Op → ℕ
stores_where test l [] = 0
stores_where test l (store p vs ∷ cs) = pick (eqb (line_of p) l && test cs) 1 0 + stores_where test l cs
stores_where test l (flush m ∷ cs) = stores_where test l cs
stores_where test l (barrier ∷ cs) = stores_where test l cs
stores_where test l (malformed ∷ cs) = stores_where test l cs

-- how many of the stores to line l are durable once all of the commands are done
abbrev pub settled : ℕ → List Op → ℕ
settled l cs = stores_where (durable l) l cs

-- "A store is pending until" it is durable: how many of the stores to line l are not, once all these commands are done
abbrev pub pending : ℕ → List Op → ℕ
pending l cs = stores_where (λ ds. not (durable l ds)) l cs

-- and how many of them no flush of the line has come after, so that a barrier would not make them durable
abbrev pub unflushed : ℕ → List Op → ℕ
unflushed l cs = stores_where (λ ds. not (some (flushes_line l) ds)) l cs

-- a store to line l
abbrev pub To : ℕ → Op → Type 0
To l (store p vs) = line_of p ≡ l
To l (flush m) = ⊥
To l barrier = ⊥
To l malformed = ⊥

-- a flush
abbrev pub IsFlush : Op → Type 0
IsFlush (store p vs) = ⊥
IsFlush (flush l) = Unit {0}
IsFlush barrier = ⊥
IsFlush malformed = ⊥

-- a flush or a barrier
abbrev pub Quiet : Op → Type 0
Quiet (store p vs) = ⊥
Quiet (flush l) = Unit {0}
Quiet barrier = Unit {0}
Quiet malformed = ⊥

-- if it is a store, its line is so
abbrev pub IfStore : (ℕ → Bool) → Op → Type 0
IfStore test (store p vs) = test (line_of p) ≡ true
IfStore test (flush l) = Unit {0}
IfStore test barrier = Unit {0}
IfStore test malformed = Unit {0}

-- if it is a store, it is durable once ys are done
abbrev pub DurableBy : List Op → Op → Type 0
DurableBy ys o = IfStore (λ l. durable l ys) o

-- if it is a store, one of ys flushes its line
abbrev pub FlushedBy : List Op → Op → Type 0
FlushedBy ys o = IfStore (λ l. some (flushes_line l) ys) o

-- every store of the first list is durable once the second is done
abbrev pub Sealed : List Op → List Op → Type 0
Sealed cs ds = All (DurableBy ds) cs

-- ys are flushes, and flush all that xs store
pub record Flushing (xs ys : List Op) : Type 0 where
  pub flushes : All IsFlush ys
  pub covers : All (FlushedBy ys) xs

-- "Each unbroken group of flushes on every tape is followed by one barrier": the flushes ys with theirs; no flush, no barrier
abbrev pub with_barrier : List Op → List Op
with_barrier [] = []
with_barrier (o ∷ ys) = o ∷ (ys ++ (barrier ∷ []))

-- if it is a store, it stores what stands in the image w
abbrev pub Writes : List ℕ → Op → Type 0
Writes w (store p vs) = (p + length vs ≤ length w) × (part w p (length vs) ≡ vs)
Writes w (flush l) = Unit {0}
Writes w barrier = Unit {0}
Writes w malformed = Unit {0}
