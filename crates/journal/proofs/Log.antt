-- The log, for any number of headers and either way to write a line by one argument: durable in itself, stored in its lines alone, and read back.
-- Assumes nothing.
use Prim.Native.Nat.{ℕ, suc, ◌+◌, ◌*◌, ◌≤◌, ◌<◌}
use mathlib.Core.Path.{◌≡◌, refl, sym, ap, ap₂, ◌∙◌}
use mathlib.Core.Logic.{◌⊎◌, inl, inr}
use mathlib.Core.Bool.{false}
use mathlib.Core.List.{List, [], ◌∷◌, ◌++◌}
use native.Mathlib.Omega.{arith}
use lib.ListN.{length, length-append}
use lib.Seq.{sets, length-sets}
use Rattle.codec.specs.Lists.{part, splice, All}
use Rattle.codec.proofs.Lists.{splice-sets, sets-append, sets-apart}
use Rattle.codec.proofs.Agree.{part-sets, part-agree}
use Rattle.device.specs.Cut.{after, touches, Closed, Flushing, with_barrier, Writes}
use Rattle.device.proofs.Clauses.{after-nil, touches-nil}
use Rattle.device.proofs.Cuts.{after-append}
use Rattle.device.proofs.Writing.{flushing-none, flushing-closed, flushing-touches, flushing-after, flushing-quiet, quiet_write, touches-both}
use Rattle.page.specs.Layout.{line_size}
use Rattle.image.proofs.General.{All-append}
use Rattle.journal.specs.Way.{line_by}
use Rattle.journal.specs.Log.{log_stores, log_flushes, log_tape}
use Rattle.journal.specs.Tape.{join_lines}
use Rattle.journal.specs.Recovery.{lines_from, logged}
use Rattle.journal.specs.declared.Way.{Way}
use Rattle.journal.proofs.Ways.{line_after, line-untouched, line_writes, line-flushing}
use Rattle.journal.proofs.Headers.{Lines}

-- ---- from line l on

pub log-flushing : (way : Way) (l : ℕ) (hs : List (List ℕ)) → Flushing (log_stores way l hs) (log_flushes l hs)
unfolding log_stores log_flushes
log-flushing way l [] = flushing-none
log-flushing way l (h ∷ hs) = line-flushing way (line_size * l) h l (log_stores way (suc l) hs) (log_flushes (suc l) hs) refl (log-flushing way (suc l) hs)

pub length-join : (hs : List (List ℕ)) → Lines hs → length (join_lines hs) ≡ line_size * length hs
unfolding join_lines
length-join [] k = refl
length-join (h ∷ hs) k = length-append h (join_lines hs) ∙ omega (arith, k.0, length-join hs k.1)

stores-touch : (way : Way) (l : ℕ) (hs : List (List ℕ)) (i : ℕ) → Lines hs → (i < line_size * l) ⊎ (line_size * (l + length hs) ≤ i) → touches (log_stores way l hs) i ≡ false
unfolding log_stores
stores-touch way l [] i k o = touches-nil i
stores-touch way l (h ∷ hs) i k o =
    touches-both (line_by way (line_size * l) h) (log_stores way (suc l) hs) i (line-untouched (line_size * l) h k.0 way i (here o)) (stores-touch way (suc l) hs i k.1 (there o))
  where
    here : (i < line_size * l) ⊎ (line_size * (l + suc (length hs)) ≤ i) → (i < line_size * l) ⊎ (line_size * l + length h ≤ i)
    here (inl q) = inl q
    here (inr q) = inr (omega (arith, k.0))

    there : (i < line_size * l) ⊎ (line_size * (l + suc (length hs)) ≤ i) → (i < line_size * suc l) ⊎ (line_size * (suc l + length hs) ≤ i)
    there (inl q) = inl (omega arith)
    there (inr q) = inr (omega arith)

next-line : (l : ℕ) (h : List ℕ) → length h ≡ line_size → line_size * l + length h ≡ line_size * suc l
next-line l h e = omega arith

stores-join : (a : List ℕ) (l : ℕ) (h : List ℕ) (vs : List ℕ) → length h ≡ line_size → sets (sets a (line_size * l) h) (line_size * suc l) vs ≡ sets a (line_size * l) (h ++ vs)
stores-join a l h vs e = ap (λ (o : ℕ). sets (sets a (line_size * l) h) o vs) (sym (next-line l h e)) ∙ sets-append a (line_size * l) h vs

stores-after : (way : Way) (l : ℕ) (hs : List (List ℕ)) (a : List ℕ) → Lines hs → after a (log_stores way l hs) ≡ sets a (line_size * l) (join_lines hs)
unfolding log_stores join_lines
stores-after way l [] a k = after-nil a
stores-after way l (h ∷ hs) a k =
    after-append a (line_by way (line_size * l) h) (log_stores way (suc l) hs)
    ∙ ap (λ (b : List ℕ). after b (log_stores way (suc l) hs)) (line_after (line_size * l) h k.0 way a)
    ∙ stores-after way (suc l) hs (sets a (line_size * l) h) k.1
    ∙ stores-join a l h (join_lines hs) k.0

lines-read : (l : ℕ) (hs : List (List ℕ)) (a : List ℕ) → Lines hs → line_size * (l + length hs) ≤ length a → lines_from (length hs) l (sets a (line_size * l) (join_lines hs)) ≡ hs
unfolding lines_from join_lines
lines-read l [] a k fits = refl
lines-read l (h ∷ hs) a k fits =
    let b = sets a (line_size * l) h in
    let c = sets b (line_size * suc l) (join_lines hs) in
    let lb : length b ≡ length a = length-sets a (line_size * l) h in
    let first : part c (line_size * l) line_size ≡ h =
    sym (part-agree c b (line_size * l) line_size (length-sets b (line_size * suc l) (join_lines hs)) (λ i p q. sets-apart b (line_size * suc l) (join_lines hs) i (inl (omega arith))))
    ∙ part-sets a (line_size * l) h line_size k.0 (omega arith) in
    ap (λ (x : List ℕ). part x (line_size * l) line_size ∷ lines_from (length hs) (suc l) x) (sym (stores-join a l h (join_lines hs) k.0))
    ∙ ap₂ (λ (x : List ℕ) (xs : List (List ℕ)). x ∷ xs) first (lines-read (suc l) hs b k.1 (omega arith))

-- lines that read back in an image are stores of what stands in it
stores_write : (way : Way) (l : ℕ) (hs : List (List ℕ)) (b : List ℕ) → Lines hs → line_size * (l + length hs) ≤ length b → lines_from (length hs) l b ≡ hs → All (Writes b) (log_stores way l hs)
unfolding lines_from log_stores
stores_write way l [] b k fits e = tt
stores_write way l (h ∷ hs) b k fits e =
    let first : part b (line_size * l) line_size ≡ h = cc in
    let rest : lines_from (length hs) (suc l) b ≡ hs = cc in
    All-append (Writes b) (line_by way (line_size * l) h) (log_stores way (suc l) hs)
    (line_writes (line_size * l) h k.0 way b (omega (arith, k.0), ap (part b (line_size * l)) k.0 ∙ first)) (stores_write way (suc l) hs b k.1 (omega arith) rest)

-- ---- the log

module _ (way : Way) (hs : List (List ℕ)) where
  pub log-closed : Closed (log_tape way hs)
  unfolding log_tape
  log-closed = flushing-closed (log_stores way 1 hs) (log_flushes 1 hs) (log-flushing way 1 hs)

  module _ (lines : Lines hs) where
    -- only its lines are touched
    pub log-touches : (i : ℕ) → (i < line_size) ⊎ (line_size * (1 + length hs) ≤ i) → touches (log_tape way hs) i ≡ false
    unfolding log_tape
    log-touches i o = flushing-touches (log_stores way 1 hs) (log_flushes 1 hs) (log-flushing way 1 hs) i ∙ stores-touch way 1 hs i lines o

    module _ (a : List ℕ) (fits : line_size * (1 + length hs) ≤ length a) where
      pub log-after : after a (log_tape way hs) ≡ splice a line_size (join_lines hs)
      unfolding log_tape
      log-after =
          flushing-after (log_stores way 1 hs) (log_flushes 1 hs) (log-flushing way 1 hs) a
          ∙ stores-after way 1 hs a lines
          ∙ sym (splice-sets a line_size (join_lines hs) (omega (arith, length-join hs lines)))

      -- the logged headers are read back
      pub log-read : logged (length hs) (after a (log_tape way hs)) ≡ hs
      unfolding logged log_tape
      log-read =
          ap (lines_from (length hs) 1) (flushing-after (log_stores way 1 hs) (log_flushes 1 hs) (log-flushing way 1 hs) a ∙ stores-after way 1 hs a lines) ∙ lines-read 1 hs a lines fits

    pub log-writes : (b : List ℕ) → line_size * (1 + length hs) ≤ length b → logged (length hs) b ≡ hs → All (Writes b) (log_tape way hs)
    unfolding log_tape logged
    log-writes b fits e =
        All-append (Writes b) (log_stores way 1 hs) (with_barrier (log_flushes 1 hs)) (stores_write way 1 hs b lines fits e)
        (quiet_write b (with_barrier (log_flushes 1 hs)) (flushing-quiet (log_stores way 1 hs) (log_flushes 1 hs) (log-flushing way 1 hs)))
