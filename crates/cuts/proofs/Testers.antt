-- What the list is for: `cut` takes each cut given, every cut is given, and whatever `cut` can leave is left by one of them.
-- Assumes nothing.
use Rattle.std.specs.Prelude.{Ok}
use Prim.Native.Nat.{ℕ, zero, suc, ◌/◌, ◌≤◌, ◌<◌}
use mathlib.Core.Path.{◌≡◌, refl, sym, ap, ◌∙◌, subst}
use mathlib.Core.Bool.{Bool, true, false}
use mathlib.Core.Logic.{inl, inr}
use mathlib.Core.List.{List, [], ◌∷◌}
use native.Mathlib.Omega.{arith}
use native.Mathlib.Nat.{not-suc-le-zero, le_of_suc-le-suc}
use lib.ListN.{length, get_or, take, get_or-eq_default}
use lib.Dec.{leb, ltb}
use borrow.Author.Tests.{leb-true, leb-false, ltb-true, ltb-false}
use Rattle.codec.specs.Lists.{pick}
use Rattle.device.specs.Tape.{Op, decode}
use Rattle.device.specs.Cut.{pending, cut_image}
use Rattle.device.specs.Calls.{Ran, accepted, cut_call}
use Rattle.device.proofs.Calls.{cut-accepts, cut-accepted}
use Rattle.device.proofs.Pending.{Alike, cut-alike}
use Rattle.cuts.specs.All.{pendings}
use Rattle.cuts.specs.Calls.{Given, nth_call}
use Rattle.cuts.specs.Says.{IsCut, Small, NthSays, nth-refused, bad-choices, no-such-cut, nth-given, Gives, Serves}
use Rattle.cuts.proofs.Pendings.{length-pendings, get_or-pendings}
use Rattle.cuts.proofs.Listed.{every-cut, only-cuts}
use Rattle.cuts.proofs.Calls.{says-nth, nth-says}

-- ---- `cut` accepts each one given

module _ (image work tape room : List ℕ) (r c : ℕ) (same : length work ≡ length image) where
  accepts : (g : Given) → NthSays image tape r room g → g.answer ≡ Ok c → (cut_call image work tape c g.choices).answer ≡ Ok tt
  accepts g (nth-refused k f) e = let z : ◌≡◌ {A = ℕ} 0 1 = cc in absurd (omega arith)
  accepts g (bad-choices s h) e = let z : ◌≡◌ {A = ℕ} 0 1 = cc in absurd (omega arith)
  accepts g (no-such-cut s n h) e = let z : ◌≡◌ {A = ℕ} 0 1 = cc in absurd (omega arith)
  accepts g (nth-given s n d bytes l) e =
      let count : d ≡ c = cc in
      let is = only-cuts (length image / 64) (decode (length image) tape) r d bytes l in
      ap (λ (x : Ran). x.answer) (cut-accepts image work tape bytes c s.size same is.per_line s.formed (omega (arith, is.within, count)))

  pub given-accepted : (nth_call image tape r room).answer ≡ Ok c → (cut_call image work tape c (nth_call image tape r room).choices).answer ≡ Ok tt
  given-accepted = accepts (nth_call image tape r room) (nth-says image tape r room)

-- ---- every cut is given

pub every_given : (image tape room : List ℕ) (c : ℕ) (bytes : List ℕ) → Small image tape → length room ≡ length image / 64 → IsCut (length image / 64) (decode (length image) tape) c bytes → Gives image tape room c bytes
every_given image tape room c bytes s fits is =
    let at = every-cut (length image / 64) (decode (length image) tape) c bytes is in
    record {
      number = at.number;
      below = at.listed.below;
      gives = says-nth image tape at.number room _ (nth-given s fits c bytes at.listed);
    }

-- ---- any other choices leave what some cut of the list leaves

-- each line's choice, or all of its pending stores if they are fewer
abbrev clip : List ℕ → List ℕ → List ℕ
clip [] ds = []
clip (m ∷ ms) [] = 0 ∷ clip ms []
clip (m ∷ ms) (d ∷ ds) = pick (leb d m) d m ∷ clip ms ds

length-clip : (ms ds : List ℕ) → length (clip ms ds) ≡ length ms
length-clip [] ds = refl
length-clip (m ∷ ms) [] = ap suc (length-clip ms [])
length-clip (m ∷ ms) (d ∷ ds) = ap suc (length-clip ms ds)

clip-line : (ms ds : List ℕ) (l : ℕ) → l < length ms → (get_or (clip ms ds) l 0 ≤ get_or ms l 0) × Alike (get_or ms l 0) (get_or ds l 0) (get_or (clip ms ds) l 0)
clip-line [] ds l h = absurd (not-suc-le-zero h)
clip-line (m ∷ ms) [] zero h = (omega arith, inl refl)
clip-line (m ∷ ms) [] (suc l) h = clip-line ms [] l (le_of_suc-le-suc h)
clip-line (m ∷ ms) (d ∷ ds) zero h = go (leb d m) refl
  where
    go : (b : Bool) → leb d m ≡ b → (pick b d m ≤ m) × Alike m d (pick b d m)
    go true e = (leb-true d m e, inl refl)
    go false e = (omega arith, inr (omega (arith, leb-false d m e), omega arith))
clip-line (m ∷ ms) (d ∷ ds) (suc l) h = clip-line ms ds l (le_of_suc-le-suc h)

module _ (lines : ℕ) (cs : List Op) (c : ℕ) (choices : List ℕ) (bytes : length choices ≡ lines) where
  abbrev ms : List ℕ
  ms = pendings 0 lines (take c cs)

  long : length ms ≡ lines
  long = length-pendings lines 0 (take c cs)

  clipped : c ≤ length cs → IsCut lines cs c (clip ms choices)
  clipped h = record {
    within = h;
    per_line = length-clip ms choices ∙ long;
    pending_only = λ l k. omega (arith, (clip-line ms choices l (omega (arith, long))).0, get_or-pendings lines l (take c cs) k);
  }

  clip-alike : (l : ℕ) → Alike (pending l (take c cs)) (get_or choices l 0) (get_or (clip ms choices) l 0)
  clip-alike l = go (ltb l lines) refl
    where
      go : (b : Bool) → ltb l lines ≡ b → Alike (pending l (take c cs)) (get_or choices l 0) (get_or (clip ms choices) l 0)
      go true e =
          let h = ltb-true l lines e in
          subst (λ (k : ℕ). Alike k (get_or choices l 0) (get_or (clip ms choices) l 0)) (get_or-pendings lines l (take c cs) h) (clip-line ms choices l (omega (arith, long))).1
      go false e =
          let past = ltb-false l lines e in
          let none : get_or choices l 0 ≡ 0 = get_or-eq_default choices 0 (omega arith) in
          let neither : get_or (clip ms choices) l 0 ≡ 0 = get_or-eq_default (clip ms choices) 0 (omega (arith, length-clip ms choices, long)) in
          inl (none ∙ sym neither)

-- "the image that `cut` leaves for any count and any choice bytes at all"
pub any-cut : (image work tape choices room : List ℕ) (c : ℕ) → (cut_call image work tape c choices).answer ≡ Ok tt → length (decode (length image) tape) ≤ 12 → length room ≡ length image / 64 →
    Serves image work tape c choices room
any-cut image work tape choices room c e few fits =
    let lines = length image / 64 in
    let cs = decode (length image) tape in
    let k = cut-accepted image work tape choices c e in
    let own = clip (pendings 0 lines (take c cs)) choices in
    let is : IsCut lines cs c own = clipped lines cs c choices k.bytes k.few in
    let image-same : cut_image image (λ l. get_or own l 0) c cs ≡ cut_image image (λ l. get_or choices l 0) c cs = sym (cut-alike image (λ l. get_or choices l 0) (λ l. get_or own l 0) c cs (clip-alike lines cs c choices k.bytes)) in
    record {
      bytes = own;
      is_given = every_given image tape room c own (record { size = k.size; formed = k.formed; few = few }) fits is;
      same = cut-accepts image work tape own c k.size k.same is.per_line k.formed k.few
          ∙ ap accepted image-same
          ∙ sym (cut-accepts image work tape choices c k.size k.same k.bytes k.formed k.few);
    }
