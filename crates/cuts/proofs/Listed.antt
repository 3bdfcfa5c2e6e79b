-- The list of all cuts: every cut is in it, nothing else is, none twice, and they rise.
-- Assumes nothing.
use Prim.Native.Nat.{ℕ, suc, ◌+◌, ◌^◌, ◌≤◌, ◌<◌}
use mathlib.Core.Path.{◌≡◌, refl, sym, ◌∙◌, subst}
use mathlib.Core.Bool.{Bool, true, false}
use mathlib.Core.Logic.{inl, inr}
use mathlib.Core.List.{List, [], ◌∷◌}
use native.Mathlib.Omega.{arith}
use native.Mathlib.Nat.{pow-le-pow_right}
use lib.ListN.{length, get_or, take, get_or-eq_default}
use lib.Dec.{ltb, eqb}
use borrow.Author.Tests.{ltb-true, ltb-false, eqb-true, eqb-false}
use Rattle.codec.specs.Lists.{All}
use Rattle.device.specs.Tape.{Op}
use Rattle.cuts.specs.All.{pendings, headed, choices_after, cuts}
use Rattle.cuts.specs.Says.{IsCut, Before, Stands, Listed}
use Rattle.cuts.specs.Products.{ways}
use Rattle.cuts.proofs.Headed.{all-at, rises-at, headed-at, headed-below, headed-all, headed-rises}
use Rattle.cuts.proofs.Choices.{Within, choices-rise, choices-within, length-choices, rank, rank_below, rank-at}
use Rattle.cuts.proofs.Pendings.{length-pendings, get_or-pendings, before-bound}

module _ (lines : ℕ) (cs : List Op) where
  -- ---- every cut, and nothing else

  cut-within : (c : ℕ) (bytes : List ℕ) → IsCut lines cs c bytes → Within (pendings 0 lines (take c cs)) bytes
  cut-within c bytes k = record { per_line = k.per_line ∙ sym (length-pendings lines 0 (take c cs)); up_to = λ l. go l (ltb l lines) refl }
    where
      go : (l : ℕ) (b : Bool) → ltb l lines ≡ b → get_or bytes l 0 ≤ get_or (pendings 0 lines (take c cs)) l 0
      go l true e = let h = ltb-true l lines e in omega (arith, k.pending_only l h, get_or-pendings lines l (take c cs) h)
      go l false e = let past : length bytes ≤ l = omega (arith, k.per_line, ltb-false l lines e) in omega (arith, get_or-eq_default bytes 0 past)

  -- choice number q after c commands
  pub listed_at : (c q : ℕ) → c ≤ length cs → q < ways (pendings 0 lines (take c cs)) → (bytes : List ℕ) → get_or (choices_after lines cs c) q [] ≡ bytes →
      Listed lines cs (length (headed 0 c (choices_after lines cs)) + q) c bytes
  unfolding cuts
  listed_at c q h i bytes e =
      let z : 0 + c ≡ c = omega arith in
      let there : q < length (choices_after lines cs (0 + c)) = rw z (omega (arith, length-choices (pendings 0 lines (take c cs)))) in
      record {
        below = headed-below (choices_after lines cs) c _ 0 q (omega arith) there;
        is = headed-at (choices_after lines cs) c _ 0 q (omega arith) there ∙ rw (z, e);
      }

  -- "Every cut is given"
  pub every-cut : (c : ℕ) (bytes : List ℕ) → IsCut lines cs c bytes → Stands lines cs c bytes
  every-cut c bytes k =
      let ms = pendings 0 lines (take c cs) in
      let w = cut-within c bytes k in
      record {
        number = length (headed 0 c (choices_after lines cs)) + rank ms bytes;
        listed = listed_at c (rank ms bytes) k.within (rank_below ms bytes w) bytes (rank-at ms bytes w);
      }

  abbrev CutFrom : List ℕ → Type 0
  CutFrom [] = ⊥
  CutFrom (c ∷ bytes) = IsCut lines cs c bytes

  cuts-all : All CutFrom (cuts lines cs)
  unfolding cuts
  cuts-all = headed-all (choices_after lines cs) CutFrom (suc (length cs)) 0 (λ c a b. go c (omega arith) (choices_after lines cs c) (choices-within (pendings 0 lines (take c cs))))
    where
      one : (c : ℕ) → c ≤ length cs → (bytes : List ℕ) → Within (pendings 0 lines (take c cs)) bytes → IsCut lines cs c bytes
      one c h bytes w = record {
        within = h;
        per_line = w.per_line ∙ length-pendings lines 0 (take c cs);
        pending_only = λ l k. omega (arith, w.up_to l, get_or-pendings lines l (take c cs) k);
      }

      go : (c : ℕ) → c ≤ length cs → (l : List (List ℕ)) → All (Within (pendings 0 lines (take c cs))) l → All (λ bytes. IsCut lines cs c bytes) l
      go c h [] a = tt
      go c h (bytes ∷ l) a = (one c h bytes a.0, go c h l a.1)

  -- each one listed is a cut: "A choice never exceeds the line's pending stores"
  pub only-cuts : (r c : ℕ) (bytes : List ℕ) → Listed lines cs r c bytes → IsCut lines cs c bytes
  only-cuts r c bytes k = subst CutFrom k.is (all-at CutFrom (cuts lines cs) cuts-all r k.below)

  -- what stands at a place of the list starts with a count
  pub listed-some : (r : ℕ) → r < length (cuts lines cs) → (c : ℕ) × (bytes : List ℕ) × Listed lines cs r c bytes
  listed-some r h = go (get_or (cuts lines cs) r []) refl (all-at CutFrom (cuts lines cs) cuts-all r h)
    where
      go : (z : List ℕ) → get_or (cuts lines cs) r [] ≡ z → CutFrom z → (c : ℕ) × (bytes : List ℕ) × Listed lines cs r c bytes
      go [] e k = absurd k
      go (c ∷ bytes) e k = (c, bytes, record { below = h; is = e })

  -- ---- the order

  -- "Cuts rise by that count, then by the choice bytes compared line by line from line 0."
  pub cuts-rise : (i j : ℕ) → i < j → j < length (cuts lines cs) → Before (get_or (cuts lines cs) i []) (get_or (cuts lines cs) j [])
  unfolding cuts
  cuts-rise = rises-at (cuts lines cs) (headed-rises (choices_after lines cs) (λ c. choices-rise (pendings 0 lines (take c cs))) (suc (length cs)) 0)

  not-before : (z : List ℕ) → Before z z → ⊥
  not-before [] h = h
  not-before (x ∷ z) (inl h) = omega arith
  not-before (x ∷ z) (inr h) = not-before z h.1

  -- "none twice"
  pub none-twice : (i j : ℕ) → i < length (cuts lines cs) → j < length (cuts lines cs) → get_or (cuts lines cs) i [] ≡ get_or (cuts lines cs) j [] → i ≡ j
  none-twice i j a b e = go (eqb i j) refl (ltb i j) refl
    where
      z : ℕ → List ℕ
      z k = get_or (cuts lines cs) k []

      go : (s : Bool) → eqb i j ≡ s → (t : Bool) → ltb i j ≡ t → i ≡ j
      go true p t q = eqb-true i j p
      go false p true q = absurd (not-before (z j) (subst (λ (y : List ℕ). Before y (z j)) e (cuts-rise i j (ltb-true i j q) b)))
      go false p false q =
          let less : j < i = omega (arith, ltb-false i j q, eqb-false i j p) in
          absurd (not-before (z j) (subst (λ (y : List ℕ). Before (z j) y) e (cuts-rise j i less a)))

  -- ---- the number

  -- 12 commands have no more than 8,191 cuts, so a product of choices is never too large to be counted
  pub few-cuts : length cs ≤ 12 → length (cuts lines cs) ≤ 8191
  unfolding cuts
  few-cuts h =
      let most : 2 ^ suc (length cs) ≤ 2 ^ 13 = pow-le-pow_right (omega arith) {i = suc (length cs)} {j = 13} (omega arith) in
      omega (arith, before-bound lines cs (suc (length cs)) (omega arith), most)
