-- The calls' definitions, test by test.
-- Assumes nothing.
use Prim.Native.Nat.{ℕ, ◌/◌, ◌%◌, ◌≤◌}
use mathlib.Core.Path.{◌≡◌, refl, sym, ap}
use mathlib.Core.Bool.{Bool, true, false, ◌&&◌}
use mathlib.Core.List.{List}
use native.Mathlib.Omega.{arith}
use lib.ListN.{length, get_or, take}
use lib.Dec.{leb, eqb}
use borrow.Author.Tests.{leb-true, le-leb, eqb-true, eq-eqb}
use Rattle.codec.specs.Lists.{pick}
use Rattle.codec.proofs.Tests.{first, second}
use Rattle.device.specs.Tape.{Op, decode, well_formed}
use Rattle.device.specs.Cut.{after, cut_image}
use Rattle.device.specs.Counts.{scanned, Tells, Found}
use Rattle.device.specs.Calls.{Answer, is_image_size, Ran, accepted, refused, unless, run_call, cut_tape, cut_call}
use Rattle.device.specs.declared.Refusal.{Refusal}
use Rattle.std.specs.Prelude.{Some, None, Ok, Err}
use Rattle.device.specs.declared.Judged.{Judged}

module _ (test : Bool) (k : ℕ) (old : List ℕ) (ran : Ran) where
  pub holds : test ≡ true → unless test k old ran ≡ ran
  unfolding unless
  holds e = rw e

  pub fails : test ≡ false → unless test k old ran ≡ refused k old
  unfolding unless
  fails e = rw e

-- a run of a well-formed tape is accepted: "Run's work is the image after all stores."
pub run-accepts : (image work tape : List ℕ) → is_image_size (length image) ≡ true → length work ≡ length image → well_formed (decode (length image) tape) ≡ true →
    run_call image work tape ≡ accepted (after image (decode (length image) tape))
unfolding run_call unless
run-accepts image work tape size same formed = rw (size, eq-eqb (length work) (length image) same, formed)

-- and so is a cut, of no more commands than there are: "Cut's work keeps, per line, as many pending stores as its choice byte says"
pub cut-accepts : (image work tape choices : List ℕ) (c : ℕ) → is_image_size (length image) ≡ true → length work ≡ length image → length choices ≡ length image / 64 →
    well_formed (decode (length image) tape) ≡ true → c ≤ length (decode (length image) tape) →
    cut_call image work tape c choices ≡ accepted (cut_image image (λ l. get_or choices l 0) c (decode (length image) tape))
unfolding cut_call cut_tape unless
cut-accepts image work tape choices c size same bytes formed few =
    rw (size, eq-eqb (length work) (length image) same, eq-eqb (length choices) (length image / 64) bytes, formed, le-leb c (length (decode (length image) tape)) few)

-- what an accepted cut found
pub record Cuttable (image work tape choices : List ℕ) (c : ℕ) : Type 0 where
  pub size : is_image_size (length image) ≡ true
  pub same : length work ≡ length image
  pub bytes : length choices ≡ length image / 64
  pub formed : well_formed (decode (length image) tape) ≡ true
  pub few : c ≤ length (decode (length image) tape)

passed : (test : Bool) (k : ℕ) (old : List ℕ) (ran : Ran) → (unless test k old ran).answer ≡ Ok tt → (test ≡ true) × (ran.answer ≡ Ok tt)
unfolding unless
passed true k old ran e = (refl, e)
passed false k old ran e = let z : ◌≡◌ {A = ℕ} 0 1 = cc in absurd (omega arith)

pub cut-accepted : (image work tape choices : List ℕ) (c : ℕ) → (cut_call image work tape c choices).answer ≡ Ok tt → Cuttable image work tape choices c
unfolding cut_call cut_tape
cut-accepted image work tape choices c e =
    let a = passed _ _ _ _ e in
    let b = passed _ _ _ _ a.1 in
    let d = passed _ _ _ _ b.1 in
    let f = passed _ _ _ _ d.1 in
    let g = passed _ _ _ _ f.1 in
    record {
      size = a.0;
      same = eqb-true (length work) (length image) b.0;
      bytes = eqb-true (length choices) (length image / 64) d.0;
      formed = f.0;
      few = leb-true c (length (decode (length image) tape)) g.0;
    }

-- what a call is said to do, in two parts
pub said : (call done : Ran) → call ≡ done → (done.answer ≡ call.answer) × (done.work ≡ call.work)
said call done e = (sym (ap (λ (r : Ran). r.answer) e), sym (ap (λ (r : Ran). r.work) e))

-- a refusal is no acceptance
pub not-accepted : (r : Refusal) → ◌≡◌ {A = Answer} (Err r) (Ok tt) → ⊥
not-accepted r e = let z : ◌≡◌ {A = ℕ} 0 1 = cc in omega arith

pub image-size-le : (n : ℕ) → is_image_size n ≡ true → n ≤ 65536
image-size-le n e = leb-true n 65536 (first (leb n 65536) (eqb (n % 1024) 0) (second (leb 8192 n) (leb n 65536 && eqb (n % 1024) 0) e))

pub scanned-none : (cs : List Op) → scanned cs ≡ None → well_formed cs ≡ false
scanned-none cs = go (well_formed cs)
  where
    go : (b : Bool) → pick b (Some (length cs)) None ≡ None → b ≡ false
    go true e = let z : ◌≡◌ {A = ℕ} 0 1 = cc in absurd (omega arith)
    go false e = refl

pub scanned-some : (cs : List Op) (k : ℕ) → scanned cs ≡ Some k → (well_formed cs ≡ true) × (k ≡ length cs)
scanned-some cs k = go (well_formed cs)
  where
    go : (b : Bool) → pick b (Some (length cs)) None ≡ Some k → (b ≡ true) × (k ≡ length cs)
    go true e = (refl, cc)
    go false e = let z : ◌≡◌ {A = ℕ} 0 1 = cc in absurd (omega arith)

-- what a cut's first pass found, by its answer
pub found-none : (c : ℕ) (cs : List Op) (flushes : List ℕ) → Found c cs flushes None → well_formed cs ≡ false
unfolding Found
found-none c cs flushes f = f

pub found-some : (c : ℕ) (cs : List Op) (flushes : List ℕ) (j : Judged) → Found c cs flushes (Some j) →
    (well_formed cs ≡ true) × (j.count ≡ length cs) × Tells flushes j.fence (take c cs)
unfolding Found
found-some c cs flushes j f = f
