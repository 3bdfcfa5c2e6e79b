-- The rows of 39 and 40 updates. The image after 20 of them is written out, so that each half is computed within its own step limit.
-- Assumes nothing.
use Prim.Native.Nat.{ℕ, zero, suc, ◌*◌, ◌-◌}
use mathlib.Core.Path.{◌≡◌, refl, ap, ◌∙◌}
use mathlib.Core.List.{List, [], ◌∷◌, ◌++◌}
use lib.ListN.{take, replicate}
use Rattle.page.specs.Layout.{leaf_kind, rec_of, record_bytes, header_bytes}
use Rattle.image.specs.Fresh.{fresh}
use Rattle.edit.specs.EditList.{Edit, insert}
use Rattle.worked.specs.Row.{Row, Holds, after, transacted, read_all, found}
use Rattle.worked.specs.Rows.{value, one-update, updates-39, updates-40}
use Rattle.worked.proofs.Open.{opened}

-- transactions one after the other, split
after-append : (a b : List (List Edit)) (i : List ℕ) → after (a ++ b) i ≡ after b (after a i)
unfolding after
after-append [] b i = refl
after-append (e ∷ a) b i = after-append a b (transacted i e).work

-- k records of the key 101, end to end
copies : ℕ → List ℕ
copies zero = []
copies (suc k) = record_bytes (rec_of 101 (value 8)) ++ copies k

-- the image after the insert and k updates
shape : ℕ → List ℕ
shape k =
    let low = 1000 - 24 * k in
    take 2048 (fresh 8)
    ++ (header_bytes (record { start = low; kind = leaf_kind; own = 2; slots = low ∷ [] }) ++ (replicate (low - 64) 0 ++ (copies (suc k) ++ replicate 5120 0)))

first-half : List (List Edit)
first-half = (insert 101 (value 8) ∷ []) ∷ replicate 20 one-update

middle : after first-half (fresh 8) ≡ shape 20
unfolding opened copies shape first-half
middle = refl

module _ (r : Row) (n : ℕ) where
  -- a row whose setup is the first half and n updates more
  from-middle : r.setup ≡ first-half ++ replicate n one-update → read_all (transacted (after (replicate n one-update) (shape 20)) r.edits) r.asks ≡ r.says → Holds r
  unfolding found
  from-middle e h =
      ap (λ (s : List (List Edit)). read_all (transacted (after s (fresh 8)) r.edits) r.asks) e
      ∙ ap (λ (i : List ℕ). read_all (transacted i r.edits) r.asks) (after-append first-half (replicate n one-update) (fresh 8) ∙ ap (after (replicate n one-update)) middle)
      ∙ h

setup-39 : updates-39.setup ≡ first-half ++ replicate 18 one-update
unfolding first-half
setup-39 = refl

end-39 : read_all (transacted (after (replicate 18 one-update) (shape 20)) updates-39.edits) updates-39.asks ≡ updates-39.says
unfolding opened copies shape
end-39 = refl

pub updates-39-holds : Holds updates-39
updates-39-holds = from-middle updates-39 18 setup-39 end-39

setup-40 : updates-40.setup ≡ first-half ++ replicate 19 one-update
unfolding first-half
setup-40 = refl

end-40 : read_all (transacted (after (replicate 19 one-update) (shape 20)) updates-40.edits) updates-40.asks ≡ updates-40.says
unfolding opened copies shape
end-40 = refl

pub updates-40-holds : Holds updates-40
updates-40-holds = from-middle updates-40 19 setup-40 end-40
