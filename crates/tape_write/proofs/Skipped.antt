-- Words that are known to be the same, so that none of them is collected.
-- Assumes nothing.
use Prim.Native.Nat.{ℕ, zero, suc, ◌+◌, ◌-◌, ◌*◌, ◌/◌, ◌≤◌, ◌<◌}
use mathlib.Core.Path.{◌≡◌, refl, sym, ap, ◌∙◌}
use mathlib.Core.Bool.{true}
use mathlib.Core.List.{List, []}
use native.Mathlib.Omega.{arith}
use lib.ListN.{length, get_or}
use lib.Seq.{sets}
use Rattle.codec.specs.Lists.{part, eqs}
use Rattle.codec.proofs.Tests.{eqs-same, eqs-true}
use Rattle.codec.proofs.Agree.{part-agree}
use Rattle.page.specs.Layout.{page_size}
use Rattle.image.specs.Image.{among}
use Rattle.image.proofs.General.{part-part}
use Rattle.journal.specs.Changes.{page_words}
use Rattle.tape_write.specs.Words.{differing}
use Rattle.tape_write.specs.Calls.{Lent, reached_in}
use Rattle.tape_write.proofs.HeaderPages.{mark-none}

pub differ-none : (a w : List ℕ) (n k : ℕ) → ((j : ℕ) → k ≤ j → j < k + n → part a (8 * j) 8 ≡ part w (8 * j) 8) → differing a w n k ≡ []
unfolding differing
differ-none a w zero k h = refl
differ-none a w (suc n) k h =
    rw (h k (omega arith) (omega arith), eqs-same (part w (8 * k) 8)) (differ-none a w n (suc k) (λ j p q. h j (omega arith) (omega arith)))

-- since they are the same as a whole
pub differ-whole : (a w : List ℕ) (from to : ℕ) → eqs (part a (8 * from) (8 * (to - from))) (part w (8 * from) (8 * (to - from))) ≡ true → differing a w (to - from) from ≡ []
differ-whole a w from to e =
    differ-none a w (to - from) from (λ j p q.
    let f : 8 * from + 8 * (j - from) ≡ 8 * j = omega arith in
    let inn : 8 * (j - from) + 8 ≤ 8 * (to - from) = omega arith in
    ap (λ (o : ℕ). part a o 8) (sym f)
    ∙ sym (part-part a (8 * from) (8 * (to - from)) (8 * (j - from)) 8 inn)
    ∙ ap (λ (l : List ℕ). part l (8 * (j - from)) 8) (eqs-true _ _ e)
    ∙ part-part w (8 * from) (8 * (to - from)) (8 * (j - from)) 8 inn
    ∙ ap (λ (o : ℕ). part w o 8) f)

-- or since they lie in a page that is not reached at the end
pub differ-kept : (a w before after : List ℕ) → Lent a w before after → (p from to : ℕ) → 1 ≤ p → p < 64 → page_words * p ≤ from → to ≡ page_words * p + page_words →
    get_or after p 0 ≡ 0 → differing a w (to - from) from ≡ []
differ-kept a w before after L p from to one low lo hi z =
    differ-none a w (to - from) from (λ j q r.
    part-agree w a (8 * j) 8 L.images.same (λ i s t.
    let page : i / page_size ≡ p = omega arith in
    L.kept i (omega arith) (ap (λ (k : ℕ). among k (reached_in w)) page ∙ mark-none L.stays p low z)))

-- nothing is collected of them
pub none-collected : (ds : List ℕ) → ds ≡ [] → (count : ℕ) (words : List ℕ) → (count ≡ count + length ds) × (words ≡ sets words count ds)
none-collected ds e count words = (omega (arith, ap length e), ap (sets words count) (sym e))
