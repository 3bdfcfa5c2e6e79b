-- What two answers that are the same hold.
-- Assumes nothing.
use Rattle.std.specs.Prelude.{ℕ, ◌≡◌, Option, Some, Result, Ok}
use mathlib.Core.Path.{ap}
use Rattle.device.specs.declared.Refusal.{Refusal}
use Rattle.image.specs.declared.Part.{Part}

pub some-injective : {A : Type 0} (x y : A) → ◌≡◌ {A = Option A} (Some x) (Some y) → x ≡ y
some-injective x y e = cc

-- the part of a value that is found
pub part-same : (o n p m : ℕ) → ◌≡◌ {A = Result (Option Part) Refusal} (Ok (Some (record { offset = o; length = n }))) (Ok (Some (record { offset = p; length = m }))) → (o ≡ p) × (n ≡ m)
part-same o n p m e =
    let same : ◌≡◌ {A = Part} (record { offset = o; length = n }) (record { offset = p; length = m }) = cc in
    (ap (λ (x : Part). x.offset) same, ap (λ (x : Part). x.length) same)
