-- The lines' pending stores as a list, and those of them that no flush has come after: line by line, after one more command, and how many choices
-- they leave.
-- Assumes nothing.
use Prim.Native.Nat.{ℕ, zero, suc, ◌+◌, ◌*◌, ◌^◌, ◌≤◌, ◌<◌}
use mathlib.Core.Path.{◌≡◌, refl, sym, ap, ◌∙◌, subst, fun_ext}
use mathlib.Core.Bool.{Bool, true, false}
use mathlib.Core.List.{List, [], ◌∷◌, ◌++◌}
use native.Mathlib.Omega.{arith}
use native.Mathlib.Nat.{add-zero, not-suc-le-zero, mul-le-mul_right, mul_assoc, pow-suc}
use lib.ListN.{length, get_or, set, take, length-set, get_or-eq_default}
use lib.Seq.{get_or-set_same, get_or-set_other, ext_get_or, set_out, take-suc}
use lib.Dec.{ltb, eqb}
use borrow.Author.Tests.{ltb-true, ltb-false, eqb-true, eqb-false, eq-eqb, ne_eqb}
use Rattle.codec.specs.Lists.{pick}
use Rattle.device.specs.Tape.{Op, store, flush, barrier, malformed}
use Rattle.device.specs.Cut.{line_of, pending, unflushed}
use Rattle.device.proofs.Pending.{
  pending-le,
  pending-nil,
  pending-stored,
  pending-flushed,
  pending-barrier,
  pending-broken,
  unflushed-nil,
  unflushed-stored,
  unflushed-flushed,
  unflushed-barrier,
  unflushed-pending,
}
use Rattle.cuts.specs.All.{each_line, pendings, headed, choices_after}
use Rattle.cuts.specs.Products.{Describes, pending_after, unflushed_after, ways}
use Rattle.cuts.specs.declared.Command.{Command}
use Rattle.cuts.proofs.Headed.{length_none, length-next}
use Rattle.cuts.proofs.Choices.{ways-set, ways-factor, ways-fewer, length-choices}

-- ---- line by line

pub length-each : (f : ℕ → ℕ) (k l : ℕ) → length (each_line f l k) ≡ k
unfolding each_line
length-each f zero l = refl
length-each f (suc k) l = ap suc (length-each f k (suc l))

get_or-from : (f : ℕ → ℕ) (k l i : ℕ) → i < k → get_or (each_line f l k) i 0 ≡ f (l + i)
unfolding each_line
get_or-from f zero l i h = absurd (not-suc-le-zero h)
get_or-from f (suc k) l zero h = ap f (sym (add-zero l))
get_or-from f (suc k) l (suc i) h = let e : suc l + i ≡ l + suc i = omega arith in get_or-from f k (suc l) i (omega arith) ∙ ap f e

pub get_or-each : (f : ℕ → ℕ) (lines l : ℕ) → l < lines → get_or (each_line f 0 lines) l 0 ≡ f l
get_or-each f lines l h = let e : 0 + l ≡ l = omega arith in get_or-from f lines 0 l h ∙ ap f e

-- a list with these numbers
each-is : (f : ℕ → ℕ) (lines : ℕ) (zs : List ℕ) → length zs ≡ lines → ((l : ℕ) → l < lines → get_or zs l 0 ≡ f l) → zs ≡ each_line f 0 lines
each-is f lines zs n h = ext_get_or 0 zs (each_line f 0 lines) (n ∙ sym (length-each f lines 0)) (λ l k. h l (omega (arith, n)) ∙ sym (get_or-each f lines l (omega (arith, n))))

pub length-pendings : (k l : ℕ) (cs : List Op) → length (pendings l k cs) ≡ k
length-pendings k l cs = length-each (λ m. pending m cs) k l

pub get_or-pendings : (lines l : ℕ) (cs : List Op) → l < lines → get_or (pendings 0 lines cs) l 0 ≡ pending l cs
get_or-pendings lines l cs h = get_or-each (λ m. pending m cs) lines l h

-- the stores of the lines that no flush has come after
abbrev pub unflusheds : ℕ → List Op → List ℕ
unflusheds lines cs = each_line (λ m. unflushed m cs) 0 lines

-- before the first command
pub pendings-none : (lines : ℕ) (zs : List ℕ) → length zs ≡ lines → ((l : ℕ) → get_or zs l 0 ≡ 0) → (zs ≡ pendings 0 lines []) × (zs ≡ unflusheds lines [])
pendings-none lines zs n h = (each-is (λ m. pending m []) lines zs n (λ l k. h l ∙ sym (pending-nil l)), each-is (λ m. unflushed m []) lines zs n (λ l k. h l ∙ sym (unflushed-nil l)))

-- a line's number is no more than so many, and past the lines it is 0
each-few : (f : ℕ → ℕ) (lines l most : ℕ) → (l < lines → f l ≤ most) → get_or (each_line f 0 lines) l 0 ≤ most
each-few f lines l most h = go (ltb l lines) refl
  where
    go : (b : Bool) → ltb l lines ≡ b → get_or (each_line f 0 lines) l 0 ≤ most
    go true e = let k = ltb-true l lines e in omega (arith, get_or-each f lines l k, h k)
    go false e = omega (arith, get_or-eq_default (each_line f 0 lines) 0 {n = l} (omega (arith, ltb-false l lines e, length-each f lines 0)))

-- no line has more that are not flushed than are pending
pub fewer-unflushed : (lines : ℕ) (cs : List Op) (l : ℕ) → get_or (unflusheds lines cs) l 0 ≤ get_or (pendings 0 lines cs) l 0
fewer-unflushed lines cs l =
    each-few (λ m. unflushed m cs) lines l (get_or (pendings 0 lines cs) l 0) (λ h. omega (arith, get_or-pendings lines l cs h, unflushed-pending l cs))

-- and none more that are pending than there are commands
pub line-few : (lines : ℕ) (cs : List Op) (l : ℕ) → get_or (pendings 0 lines cs) l 0 ≤ length cs
line-few lines cs l = each-few (λ m. pending m cs) lines l (length cs) (λ h. pending-le l cs)

-- ---- after one more command

-- the number of line m changed, by a function that takes what was there
module _ (f g : ℕ → ℕ) (lines m : ℕ) (new : ℕ → ℕ) (here : (l : ℕ) → m ≡ l → g l ≡ new (f l)) (there : (l : ℕ) → (m ≡ l → ⊥) → g l ≡ f l) where
  each_set : set (each_line f 0 lines) m (new (get_or (each_line f 0 lines) m 0)) ≡ each_line g 0 lines
  each_set = each-is g lines (set ps m v) (length-set ps m v ∙ length-each f lines 0) at
    where
      ps : List ℕ
      ps = each_line f 0 lines

      v : ℕ
      v = new (get_or (each_line f 0 lines) m 0)

      at : (l : ℕ) → l < lines → get_or (set ps m v) l 0 ≡ g l
      at l h = go (eqb m l) refl
        where
          go : (b : Bool) → eqb m l ≡ b → get_or (set ps m v) l 0 ≡ g l
          go true e =
              let s : m ≡ l = eqb-true m l e in
              rw s (get_or-set_same ps l (new (get_or ps l 0)) 0 (omega (arith, length-each f lines 0)) ∙ ap new (get_or-each f lines l h)) ∙ sym (here l s)
          go false e =
              let other = eqb-false m l e in
              get_or-set_other ps m l v 0 (λ q. other (sym q)) ∙ get_or-each f lines l h ∙ sym (there l other)

-- a store counts one more of its line, whatever is counted
module _ (count : ℕ → List Op → ℕ) (stored : (l : ℕ) (xs : List Op) (p : ℕ) (vs : List ℕ) → count l (xs ++ (store p vs ∷ [])) ≡ pick (eqb (line_of p) l) 1 0 + count l xs) where
  each-stored : (lines : ℕ) (xs : List Op) (p : ℕ) (vs : List ℕ) (m : ℕ) → m ≡ line_of p →
      set (each_line (λ l. count l xs) 0 lines) m (get_or (each_line (λ l. count l xs) 0 lines) m 0 + 1) ≡ each_line (λ l. count l (xs ++ (store p vs ∷ []))) 0 lines
  each-stored lines xs p vs m e =
      each_set (λ l. count l xs) (λ l. count l (xs ++ (store p vs ∷ []))) lines m (λ k. k + 1)
      (λ l q. stored l xs p vs ∙ rw (eq-eqb (line_of p) l (sym e ∙ q)) (omega arith)) (λ l q. stored l xs p vs ∙ rw (ne_eqb (line_of p) l (λ r. q (e ∙ r))) (omega arith))

module _ (lines : ℕ) (xs : List Op) where
  pub pendings-next : (o : Op) (m : Command) → Describes o m → pending_after m.does m.line (pendings 0 lines xs) (unflusheds lines xs) ≡ pendings 0 lines (xs ++ (o ∷ []))
  unfolding pending_after
  pendings-next (store p vs) m k = rw k.2 (each-stored pending pending-stored lines xs p vs m.line k.0)
  pendings-next (flush n) m k = rw k.2 (ap (λ (f : ℕ → ℕ). each_line f 0 lines) (fun_ext (λ l. sym (pending-flushed l xs n))))
  pendings-next barrier m k = rw k.2 (ap (λ (f : ℕ → ℕ). each_line f 0 lines) (fun_ext (λ l. sym (pending-barrier l xs))))
  pendings-next malformed m k = absurd k

  pub unflusheds-next : (o : Op) (m : Command) → Describes o m → unflushed_after m.does m.line (unflusheds lines xs) ≡ unflusheds lines (xs ++ (o ∷ []))
  unfolding unflushed_after
  unflusheds-next (store p vs) m k = rw k.2 (each-stored unflushed unflushed-stored lines xs p vs m.line k.0)
  unflusheds-next (flush n) m k =
      rw k.2
      (each_set (λ l. unflushed l xs) (λ l. unflushed l (xs ++ (flush n ∷ []))) lines m.line (λ i. 0) (λ l q. unflushed-flushed l xs n ∙ rw (eq-eqb n l (sym k.0 ∙ q)))
      (λ l q. unflushed-flushed l xs n ∙ rw (ne_eqb n l (λ r. q (k.0 ∙ r)))))
  unflusheds-next barrier m k = rw k.2 (ap (λ (f : ℕ → ℕ). each_line f 0 lines) (fun_ext (λ l. sym (unflushed-barrier l xs))))
  unflusheds-next malformed m k = absurd k

-- ---- how many choices they leave

pub ways-none : (k l : ℕ) → ways (pendings l k []) ≡ 1
unfolding each_line ways
ways-none zero l = refl
ways-none (suc k) l = rw (pending-nil l, ways-none k (suc l))

module _ (lines : ℕ) where
  -- those that are not flushed leave fewer
  pub ways-unflushed : (xs : List Op) → ways (unflusheds lines xs) ≤ ways (pendings 0 lines xs)
  ways-unflushed xs =
      ways-fewer (unflusheds lines xs) (pendings 0 lines xs) (length-each (λ m. unflushed m xs) lines 0 ∙ sym (length-pendings lines 0 xs)) (fewer-unflushed lines xs)

  -- a store at most doubles them
  store-doubles : (p : ℕ) (vs : List ℕ) (xs : List Op) → ways (pendings 0 lines (xs ++ (store p vs ∷ []))) ≤ 2 * ways (pendings 0 lines xs)
  store-doubles p vs xs = subst (λ (ps : List ℕ). ways ps ≤ 2 * ways old) (each-stored pending pending-stored lines xs p vs (line_of p) refl) (go (ltb (line_of p) lines) refl)
    where
      old : List ℕ
      old = pendings 0 lines xs

      new : ℕ
      new = get_or (pendings 0 lines xs) (line_of p) 0 + 1

      go : (b : Bool) → ltb (line_of p) lines ≡ b → ways (set old (line_of p) new) ≤ 2 * ways old
      go true e =
          let there : line_of p < length old = omega (arith, ltb-true (line_of p) lines e, length-pendings lines 0 xs) in
          let others = ways (set old (line_of p) 0) in
          let k = get_or old (line_of p) 0 in
          let double : suc new * others ≤ 2 * suc k * others = mul-le-mul_right others (omega arith) in
          omega (arith, double, ways-set old (line_of p) new there, ways-factor old (line_of p) there, mul_assoc 2 (suc k) others)
      go false e = let out : set old (line_of p) new ≡ old = set_out old (line_of p) new (omega (arith, ltb-false (line_of p) lines e, length-pendings lines 0 xs)) in rw out (omega arith)

  -- and any other command leaves no more
  doubles : (o : Op) (xs : List Op) → ways (pendings 0 lines (xs ++ (o ∷ []))) ≤ 2 * ways (pendings 0 lines xs)
  doubles (store p vs) xs = store-doubles p vs xs
  doubles (flush l) xs = omega (arith, ap (λ (f : ℕ → ℕ). ways (each_line f 0 lines)) (fun_ext (λ m. pending-flushed m xs l)))
  doubles barrier xs = omega (arith, ap (λ (f : ℕ → ℕ). ways (each_line f 0 lines)) (fun_ext (λ m. pending-barrier m xs)), ways-unflushed xs)
  doubles malformed xs = omega (arith, ap (λ (f : ℕ → ℕ). ways (each_line f 0 lines)) (fun_ext (λ m. pending-broken m xs)))

  pub ways-bound : (cs : List Op) (c : ℕ) → c ≤ length cs → ways (pendings 0 lines (take c cs)) ≤ 2 ^ c
  ways-bound cs zero h = omega (arith, ways-none lines 0)
  ways-bound cs (suc c) h =
      let next : take (suc c) cs ≡ take c cs ++ (get_or cs c malformed ∷ []) = take-suc cs c malformed (omega arith) in
      rw next (omega (arith, doubles (get_or cs c malformed) (take c cs), ways-bound cs c (omega arith), pow-suc 2 c))

  pub before-bound : (cs : List Op) (c : ℕ) → c ≤ suc (length cs) → length (headed 0 c (choices_after lines cs)) < 2 ^ c
  before-bound cs zero h = omega (arith, length_none (choices_after lines cs) 0)
  before-bound cs (suc c) h =
      let e : 0 + c ≡ c = omega arith in
      let more : length (choices_after lines cs (0 + c)) ≡ ways (pendings 0 lines (take c cs)) = rw e (length-choices (pendings 0 lines (take c cs))) in
      omega (arith, length-next (choices_after lines cs) c 0, more, ways-bound cs c (omega arith), before-bound cs c (omega arith), pow-suc 2 c)
