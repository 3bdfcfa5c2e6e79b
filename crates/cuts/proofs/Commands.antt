-- The command at a place of the tape: what it is, and that it lies in the tape and in the image.
-- Assumes nothing.
use Prim.Native.Nat.{ℕ, ◌+◌, ◌*◌, ◌/◌, ◌≤◌, ◌<◌}
use mathlib.Core.Path.{◌≡◌, refl, sym, ◌∙◌, subst}
use mathlib.Core.Bool.{Bool, true, false}
use mathlib.Core.List.{List}
use native.Mathlib.Omega.{arith}
use lib.ListN.{length, get_or, drop}
use lib.Dec.{eqb}
use borrow.Author.Tests.{eqb-true, eqb-false, eq-eqb, ne_eqb}
use Rattle.codec.specs.Lists.{pick, part}
use Rattle.codec.specs.Numbers.{number}
use Rattle.codec.proofs.Lists.{length_part}
use Rattle.device.specs.Tape.{Op, store, flush, barrier, is_command, front}
use Rattle.device.specs.Cut.{line_of}
use Rattle.device.proofs.Decode.{StoreAt, QuietAt, quiet_of, word_at, line_at, quiet_at}
use Rattle.cuts.specs.Products.{Describes, LineIn}
use Rattle.cuts.specs.declared.Does.TheVariants.{Stores, Flushes, Waits}
use Rattle.cuts.specs.declared.Command.{Command}

module _ (n at : ℕ) (t : List ℕ) (h : at < length t) (is : is_command n (drop at t) ≡ true) where
  describes-store : (p s : ℕ) → StoreAt n t at p s → (m : Command) → m.line ≡ line_of p → m.size ≡ 4 + s → m.does ≡ Stores → Describes (front n (drop at t)) m
  describes-store p s k m e f g =
      let long : length (part t (at + 4) s) ≡ s = length_part t (at + 4) s (omega (arith, k.in_tape)) in
      subst (λ (o : Op). Describes o m) (sym k.says) (e, omega (arith, f, long), g)

  module _ (place : ℕ) (there : place ≡ number (part t (at + 2) 2)) where
    pub describes-word : get_or t at 0 ≡ 1 → Describes (front n (drop at t)) (record { does = Stores; line = place / 8; size = 12 })
    describes-word e = describes-store (8 * place) 8 (word_at n at t h is place there e) _ (omega arith) refl refl

    pub describes-line : get_or t at 0 ≡ 2 → Describes (front n (drop at t)) (record { does = Stores; line = place; size = 68 })
    describes-line e = describes-store (64 * place) 64 (line_at n at t h is place there e) _ (omega arith) refl refl

    quiet : (get_or t at 0 ≡ 1 → ⊥) → (get_or t at 0 ≡ 2 → ⊥) → (o : Op) → quiet_of (get_or t at 0) place ≡ o → (m : Command) → Describes o m → Describes (front n (drop at t)) m
    quiet a b o e m d = subst (λ (x : Op). Describes x m) (sym ((quiet_at n at t h is place there a b).says ∙ e)) d

    pub describes-flush : (get_or t at 0 ≡ 1 → ⊥) → (get_or t at 0 ≡ 2 → ⊥) → get_or t at 0 ≡ 3 → Describes (front n (drop at t)) (record { does = Flushes; line = place; size = 4 })
    unfolding quiet_of
    describes-flush a b e = quiet a b (flush place) (rw (eq-eqb (get_or t at 0) 3 e)) _ (refl, refl, refl)

    pub describes-barrier : (get_or t at 0 ≡ 1 → ⊥) → (get_or t at 0 ≡ 2 → ⊥) → (get_or t at 0 ≡ 3 → ⊥) → Describes (front n (drop at t)) (record { does = Waits; line = 0; size = 4 })
    unfolding quiet_of
    describes-barrier a b d = quiet a b barrier (rw (ne_eqb (get_or t at 0) 3 d)) _ (refl, refl, refl)

  module _ (lines : ℕ) (whole : n ≡ 64 * lines) (m : Command) (describes : Describes (front n (drop at t)) m) where
    store-fits : (p s : ℕ) → 0 < s → StoreAt n t at p s → (at + m.size ≤ length t) × LineIn m.does m.line lines
    unfolding LineIn
    store-fits p s some k =
        let long : length (part t (at + 4) s) ≡ s = length_part t (at + 4) s (omega (arith, k.in_tape)) in
        let q : Describes (store p (part t (at + 4) s)) m = subst (λ (o : Op). Describes o m) k.says describes in
        let line : m.line ≡ p / 64 = q.0 in
        (omega (arith, k.in_tape, q.1, long), rw q.2 (omega (arith, k.in_image)))

    quiet-fits : (place : ℕ) → QuietAt n t at place → (at + m.size ≤ length t) × LineIn m.does m.line lines
    unfolding quiet_of LineIn
    quiet-fits place k = go (eqb (get_or t at 0) 3) refl (subst (λ (o : Op). Describes o m) k.says describes)
      where
        go : (b : Bool) → eqb (get_or t at 0) 3 ≡ b → Describes (pick b (flush place) barrier) m → (at + m.size ≤ length t) × LineIn m.does m.line lines
        go true e q = (omega (arith, k.in_tape, q.1), rw q.2 (omega (arith, k.in_image (eqb-true (get_or t at 0) 3 e), q.0)))
        go false e q = (omega (arith, k.in_tape, q.1), rw q.2 tt)

    pub command-fits : (at + m.size ≤ length t) × LineIn m.does m.line lines
    command-fits = go (eqb (get_or t at 0) 1) refl (eqb (get_or t at 0) 2) refl
      where
        go : (a : Bool) → eqb (get_or t at 0) 1 ≡ a → (b : Bool) → eqb (get_or t at 0) 2 ≡ b → (at + m.size ≤ length t) × LineIn m.does m.line lines
        go true e b f = store-fits _ 8 (omega arith) (word_at n at t h is _ refl (eqb-true (get_or t at 0) 1 e))
        go false e true f = store-fits _ 64 (omega arith) (line_at n at t h is _ refl (eqb-true (get_or t at 0) 2 f))
        go false e false f = quiet-fits _ (quiet_at n at t h is _ refl (eqb-false (get_or t at 0) 1 e) (eqb-false (get_or t at 0) 2 f))
