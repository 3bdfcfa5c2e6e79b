-- Laws in general that codec's lack: an element at a seam, put in or taken out there, and parts of a list of bytes.
-- Assumes nothing.
use Prim.Native.Nat.{ℕ, suc, ◌+◌, ◌-◌, ◌≤◌, ◌<◌}
use mathlib.Core.Path.{◌≡◌, refl, sym, ap, ◌∙◌}
use mathlib.Core.Bool.{true, false}
use mathlib.Core.List.{List, [], ◌∷◌, ◌++◌}
use native.Mathlib.Omega.{arith}
use lib.ListN.{length, get_or, drop}
use lib.Seq.{get_or-drop, set-append_seam}
use Rattle.codec.specs.Lists.{part, insert_at, remove_at}
use Rattle.codec.proofs.Lists.{get_or-part}
use Rattle.page.specs.Layout.{Rec}
use Rattle.page.specs.Operations.{made}

-- ---- at a seam

module _ {A : Type 0} where
  pub insert_at-seam : (pre : List A) (y z : A) (post : List A) → insert_at (suc (length pre)) z (pre ++ y ∷ post) ≡ pre ++ y ∷ z ∷ post
  unfolding insert_at
  insert_at-seam [] y z post = refl
  insert_at-seam (x ∷ pre) y z post = ap (λ (l : List A). x ∷ l) (insert_at-seam pre y z post)

  pub remove_at-seam : (pre : List A) (y : A) (post : List A) → remove_at (length pre) (pre ++ y ∷ post) ≡ pre ++ post
  unfolding remove_at
  remove_at-seam [] y post = refl
  remove_at-seam (x ∷ pre) y post = ap (λ (l : List A). x ∷ l) (remove_at-seam pre y post)

  pub get_or-seam : (pre : List A) (y : A) (post : List A) (z : A) → get_or (pre ++ y ∷ post) (length pre) z ≡ y
  get_or-seam [] y post z = refl
  get_or-seam (x ∷ pre) y post z = get_or-seam pre y post z

pub made-seam : (pre : List Rec) (c d : Rec) (post : List Rec) → made false (length pre) d (pre ++ c ∷ post) ≡ pre ++ d ∷ post
unfolding made
made-seam pre c d post = set-append_seam pre c post d

pub inserted-seam : (pre : List Rec) (d e : Rec) (post : List Rec) → made true (suc (length pre)) e (pre ++ d ∷ post) ≡ pre ++ d ∷ e ∷ post
unfolding made
inserted-seam pre d e post = insert_at-seam pre d e post

-- ---- parts

-- a byte of parts that are equal
pub byte-part : (x y : List ℕ) (o n i : ℕ) → part x o n ≡ part y o n → o ≤ i → i < o + n → get_or x i 0 ≡ get_or y i 0
byte-part x y o n i e low high =
    let f : o + (i - o) ≡ i = omega arith in
    let k : i - o < n = omega arith in
    ap (λ (m : ℕ). get_or x m 0) (sym f)
    ∙ sym (get_or-part x o n (i - o) k)
    ∙ ap (λ (l : List ℕ). get_or l (i - o) 0) e
    ∙ get_or-part y o n (i - o) k
    ∙ ap (λ (m : ℕ). get_or y m 0) f

-- a byte past the first s, where the rest is equal
pub byte_past : (x y : List ℕ) (s i : ℕ) → drop s x ≡ drop s y → s ≤ i → get_or x i 0 ≡ get_or y i 0
byte_past x y s i e low =
    let f : s + (i - s) ≡ i = omega arith in
    ap (λ (m : ℕ). get_or x m 0) (sym f)
    ∙ sym (get_or-drop s x (i - s) 0)
    ∙ ap (λ (l : List ℕ). get_or l (i - s) 0) e
    ∙ get_or-drop s y (i - s) 0
    ∙ ap (λ (m : ℕ). get_or y m 0) f
