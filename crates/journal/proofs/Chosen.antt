-- A transaction commits by the root word, by one header or by the log: what holds of the three holds of the one that is chosen.
-- Assumes nothing.
use Prim.Native.Nat.{ℕ}
use mathlib.Core.Path.{◌≡◌, refl, subst}
use mathlib.Core.Bool.{Bool, true, false}
use mathlib.Core.List.{List, [], ◌∷◌}
use Rattle.device.specs.Tape.{Op}
use Rattle.journal.specs.Tape.{Taken, new_headers, by_header, by_root, by_log, one_header, choose}
use Rattle.journal.specs.declared.Way.{Way}
use Rattle.journal.specs.declared.Way.TheVariants.{ByLine, ByWords}

-- a header commits by itself on the line-store device alone
module _ (way : Way) (A : List Op) (w : List ℕ) (P : Bool → List ℕ → Taken → Type 0) (root : (same : Bool) → P same [] (by_root A w))
    (header : way ≡ ByLine → (p : ℕ) → P true (p ∷ []) (by_header A w p)) (log : (same : Bool) (p : ℕ) (ps : List ℕ) → P same (p ∷ ps) (by_log way A w same (new_headers w (p ∷ ps))))
  where
    one : (p : ℕ) (v : Way) → way ≡ v → P true (p ∷ []) (one_header v A w p)
    unfolding one_header
    one p ByLine e = header e p
    one p ByWords e = subst (λ (v : Way). P true (p ∷ []) (by_log v A w true (new_headers w (p ∷ [])))) e (log true p [])

    pub choose-all : (same : Bool) (ps : List ℕ) → P same ps (choose way A w same ps)
    unfolding choose
    choose-all same [] = root same
    choose-all true (p ∷ []) = one p way refl
    choose-all false (p ∷ []) = log false p []
    choose-all same (p ∷ q ∷ ps) = log same p (q ∷ ps)
