-- The numbers of the causes: each cause has its own, and 1 to 20 are all.
-- Assumes nothing.
use Prim.Native.Nat.{ℕ, zero, suc, ◌≤◌}
use mathlib.Core.Path.{◌≡◌, refl, sym, ap, ◌∙◌}
use native.Mathlib.Omega.{arith}
use Rattle.device.specs.Calls.{cause_number, cause_of, refusal_at, number_in}
use Rattle.device.specs.declared.Cause.{Cause}
use Rattle.device.specs.declared.Cause.TheVariants.{ImageSize, WorkSize, MarkWaits, Unsound, BadList, KeyRange, LongValue, KeyPresent, KeyMissing, IndexFull, PagesOut, LogFull, TapeShort, BadTape, PastEnd, BadChoices, LongTape, NoSuchCut, EmptyValue, KeyInBoth}
use Rattle.device.specs.declared.Refusal.{Refusal}

pub cause-numbered : (c : Cause) → cause_of (cause_number c) ≡ c
cause-numbered ImageSize = refl
cause-numbered WorkSize = refl
cause-numbered MarkWaits = refl
cause-numbered Unsound = refl
cause-numbered BadList = refl
cause-numbered KeyRange = refl
cause-numbered LongValue = refl
cause-numbered KeyPresent = refl
cause-numbered KeyMissing = refl
cause-numbered IndexFull = refl
cause-numbered PagesOut = refl
cause-numbered LogFull = refl
cause-numbered TapeShort = refl
cause-numbered BadTape = refl
cause-numbered PastEnd = refl
cause-numbered BadChoices = refl
cause-numbered LongTape = refl
cause-numbered NoSuchCut = refl
cause-numbered EmptyValue = refl
cause-numbered KeyInBoth = refl

pub number-caused : (k : ℕ) → 1 ≤ k → k ≤ 20 → cause_number (cause_of k) ≡ k
number-caused zero low high = absurd (omega arith)
number-caused (suc zero) low high = refl
number-caused (suc (suc zero)) low high = refl
number-caused (suc (suc (suc zero))) low high = refl
number-caused (suc (suc (suc (suc zero)))) low high = refl
number-caused (suc (suc (suc (suc (suc zero))))) low high = refl
number-caused (suc (suc (suc (suc (suc (suc zero)))))) low high = refl
number-caused (suc (suc (suc (suc (suc (suc (suc zero))))))) low high = refl
number-caused (suc (suc (suc (suc (suc (suc (suc (suc zero)))))))) low high = refl
number-caused (suc (suc (suc (suc (suc (suc (suc (suc (suc zero))))))))) low high = refl
number-caused (suc (suc (suc (suc (suc (suc (suc (suc (suc (suc zero)))))))))) low high = refl
number-caused (suc (suc (suc (suc (suc (suc (suc (suc (suc (suc (suc zero))))))))))) low high = refl
number-caused (suc (suc (suc (suc (suc (suc (suc (suc (suc (suc (suc (suc zero)))))))))))) low high = refl
number-caused (suc (suc (suc (suc (suc (suc (suc (suc (suc (suc (suc (suc (suc zero))))))))))))) low high = refl
number-caused (suc (suc (suc (suc (suc (suc (suc (suc (suc (suc (suc (suc (suc (suc zero)))))))))))))) low high = refl
number-caused (suc (suc (suc (suc (suc (suc (suc (suc (suc (suc (suc (suc (suc (suc (suc zero))))))))))))))) low high = refl
number-caused (suc (suc (suc (suc (suc (suc (suc (suc (suc (suc (suc (suc (suc (suc (suc (suc zero)))))))))))))))) low high = refl
number-caused (suc (suc (suc (suc (suc (suc (suc (suc (suc (suc (suc (suc (suc (suc (suc (suc (suc zero))))))))))))))))) low high = refl
number-caused (suc (suc (suc (suc (suc (suc (suc (suc (suc (suc (suc (suc (suc (suc (suc (suc (suc (suc zero)))))))))))))))))) low high = refl
number-caused (suc (suc (suc (suc (suc (suc (suc (suc (suc (suc (suc (suc (suc (suc (suc (suc (suc (suc (suc zero))))))))))))))))))) low high = refl
number-caused (suc (suc (suc (suc (suc (suc (suc (suc (suc (suc (suc (suc (suc (suc (suc (suc (suc (suc (suc (suc zero)))))))))))))))))))) low high = refl
number-caused (suc (suc (suc (suc (suc (suc (suc (suc (suc (suc (suc (suc (suc (suc (suc (suc (suc (suc (suc (suc (suc k))))))))))))))))))))) low high = absurd (omega arith)

-- a refusal is what its numbers say
pub refusal-numbered : (r : Refusal) → refusal_at (number_in r) r.edit ≡ r
refusal-numbered r = ap (λ (c : Cause). record { cause = c; edit = r.edit }) (cause-numbered r.cause)

-- two refusals that are the same have the same numbers
pub number-same : (k i : ℕ) (r : Refusal) → 1 ≤ k → k ≤ 20 → refusal_at k i ≡ r → (k ≡ number_in r) × (i ≡ r.edit)
number-same k i r low high e = (sym (number-caused k low high) ∙ ap number_in e, ap (λ (x : Refusal). x.edit) e)
