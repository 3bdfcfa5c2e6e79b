-- What stands on the pages of a part at its end stands there at the end of the whole edit, where no later part writes them.
-- Assumes nothing.
use Prim.Native.Nat.{ℕ, suc, ◌+◌, ◌-◌, ◌*◌, ◌≤◌}
use mathlib.Core.Path.{◌≡◌, refl, sym, ap, ◌∙◌, subst}
use mathlib.Core.Bool.{Bool, true, false}
use mathlib.Core.List.{List, ◌∷◌, ◌++◌}
use native.Mathlib.Omega.{arith}
use lib.ListN.{length, get_or}
use Rattle.codec.specs.Lists.{insert_at}
use Rattle.page.specs.Layout.{page_size, leaf_kind, Rec, read_head}
use Rattle.page.specs.Operations.{page_of}
use Rattle.page.specs.PageFormat.{Shows}
use Rattle.image.specs.Image.{entry_size, hit, count}
use Rattle.image.proofs.Times.{hit-self}
use Rattle.edit.specs.EditList.{Edit, insert, update, delete}
use Rattle.tree.specs.State.{State}
use Rattle.tree.specs.Edits.{Change, kept, gone, one, two}
use Rattle.tree.specs.Moved.{start_at, slots_at, offsets, SplitOver, PutIn, put-here, put-copied, put-split, DropIn, drop-stays, drop-goes, AtLeaf, InCopy, last-copies, left-copies, Takes, takes-here, takes-copied, takes-split, takes-both, AtNode}
use Rattle.tree.proofs.Change.{standing}
use Rattle.tree.proofs.Steps.{new-still, split-still}

-- the pages that stand for q are in z as they are in t
module _ (s t z : State) (kind q : ℕ) where
  abbrev Same : Change → Type 0
  Same d = (x : ℕ) → 1 ≤ count x (standing q d) → page_of z.image x ≡ page_of t.image x

  shows-later : (x k o : ℕ) (rs : List Rec) → page_of z.image x ≡ page_of t.image x → Shows (page_of t.image x) k x o rs → Shows (page_of z.image x) k x o rs
  shows-later x k o rs e S = subst (λ (g : List ℕ). Shows g k x o rs) (sym e) S

  slots-later : (x : ℕ) → page_of z.image x ≡ page_of t.image x → slots_at z x ≡ slots_at t x
  slots-later x e = ap (λ (g : List ℕ). (read_head g).slots) e

  split-later : (k a m b : ℕ) (rs : List Rec) → Same (two a m b) → SplitOver s t k a m b rs → SplitOver s z k a m b rs
  split-later k a m b rs e N = split-still s s t z k a m b rs N refl refl (e a (omega (arith, hit-self a))) (e b (omega (arith, hit-self b)))

  put-later : (ins : Bool) (m : ℕ) (rs : List Rec) (d : Change) → Same d → PutIn s t t q ins m rs d → PutIn s t z q ins m rs d
  put-later ins m rs _ e (put-here room W S) = put-here room W (shows-later q leaf_kind (start_at s q - m) rs (e q (omega (arith, hit-self q))) S)
  put-later ins m rs _ e (put-copied x full fit W N) = put-copied x full fit W (new-still s s t z leaf_kind x rs N refl (e x (omega (arith, hit-self x))))
  put-later ins m rs _ e (put-split a k b full more W N) = put-split a k b full more W (split-later leaf_kind a k b rs e N)

  drop-later : (alone : Type 0) (rs : List Rec) (d : Change) → Same d → DropIn s t t kind q alone rs d → DropIn s t z kind q alone rs d
  drop-later alone rs _ e (drop-stays j is h W S k) = let f = e q (omega (arith, hit-self q)) in drop-stays j is h W (shows-later q kind (start_at s q) rs f S) (slots-later q f ∙ k)
  drop-later alone rs _ e (drop-goes h k W) = drop-goes h k W

  copy-later : (x : ℕ) (pre new post : List Rec) → page_of z.image x ≡ page_of t.image x → InCopy s t kind q x pre new post → InCopy s z kind q x pre new post
  copy-later x pre new post e (last-copies h N) = last-copies h (new-still s s t z kind x (pre ++ (new ++ post)) N refl e)
  copy-later x pre new post e (left-copies a b is h k l) =
      let o : start_at z x ≡ start_at t x = ap (λ (g : List ℕ). (read_head g).start) e in
      left-copies a b is h (slots-later x e ∙ k ∙ ap (λ (m : ℕ). insert_at (suc (length pre)) m (offsets page_size (pre ++ a ∷ post))) (sym o))
      (λ i low high. ap (λ (g : List ℕ). get_or g i 0) e ∙ l i low (omega (arith, o)))

  takes-later : (pre new post : List Rec) (d : Change) → Same d → Takes s t t kind q pre new post d → Takes s t z kind q pre new post d
  takes-later pre new post _ e (takes-here h l W S k) =
      let f = e q (omega (arith, hit-self q)) in
      takes-here h l W (shows-later q kind (start_at s q - entry_size * length new) (pre ++ (new ++ post)) f S) (slots-later q f ∙ k)
  takes-later pre new post _ e (takes-copied x h l W S C) =
      let f = e x (omega (arith, hit-self x)) in
      takes-copied x h l W (shows-later x kind (page_size - entry_size * length (pre ++ (new ++ post))) (pre ++ (new ++ post)) f S) (copy-later x pre new post f C)
  takes-later pre new post _ e (takes-split a k b h l W N) = takes-split a k b h l W (split-later kind a k b (pre ++ (new ++ post)) e N)
  takes-later pre new post _ e (takes-both x a k b h l W N) = takes-both x a k b h l W (split-later kind a k b (pre ++ (new ++ post)) e N)

  pub node-later : (pre : List Rec) (sep : ℕ) (post : List Rec) (ch d : Change) → ((x : ℕ) → 1 ≤ count x (standing q d) → page_of z.image x ≡ page_of t.image x) →
      AtNode kind q pre sep post ch s t t d → AtNode kind q pre sep post ch s t z d
  node-later pre sep post kept d e A = A
  node-later pre sep post gone d e A = drop-later ⊥ (pre ++ post) d e A
  node-later pre sep post (one a) d e A = takes-later pre _ post d e A
  node-later pre sep post (two a k b) d e A = takes-later pre _ post d e A

pub leaf-later : (s t z : State) (q : ℕ) (e : Edit) (d : Change) → ((x : ℕ) → 1 ≤ count x (standing q d) → page_of z.image x ≡ page_of t.image x) → AtLeaf e q s t t d → AtLeaf e q s t z d
leaf-later s t z q (insert k v) d e A = put-later s t z leaf_kind q true _ _ d e A
leaf-later s t z q (update k v) d e A = put-later s t z leaf_kind q false _ _ d e A
leaf-later s t z q (delete k) d e A = drop-later s t z leaf_kind q _ _ d e A

-- the pages that stand for a leaf are its own, or were free and are not any more
leaf_put : (s t z : State) (q : ℕ) (ins : Bool) (m : ℕ) (rs : List Rec) (d : Change) → PutIn s t z q ins m rs d → (x : ℕ) → count x (standing q d) + count x t.free ≤ hit x q + count x s.free
leaf_put s t z q ins m rs _ (put-here room W S) x = omega (arith, ap (count x) W.free)
leaf_put s t z q ins m rs _ (put-copied y full fit W N) x = omega (arith, ap (count x) W.free)
leaf_put s t z q ins m rs _ (put-split a k b full more W N) x = omega (arith, ap (count x) W.free)

leaf_drop : (s t z : State) (q : ℕ) (alone : Type 0) (rs : List Rec) (d : Change) → DropIn s t z leaf_kind q alone rs d → (x : ℕ) → count x (standing q d) + count x t.free ≤ hit x q + count x s.free
leaf_drop s t z q alone rs _ (drop-stays j is h W S k) x = omega (arith, ap (count x) W.free)
leaf_drop s t z q alone rs _ (drop-goes h k W) x = omega (arith, ap (count x) W.free)

pub leaf-pages : (s t z : State) (q : ℕ) (e : Edit) (d : Change) → AtLeaf e q s t z d → (x : ℕ) → count x (standing q d) + count x t.free ≤ hit x q + count x s.free
leaf-pages s t z q (insert k v) d A x = leaf_put s t z q true _ _ d A x
leaf-pages s t z q (update k v) d A x = leaf_put s t z q false _ _ d A x
leaf-pages s t z q (delete k) d A x = leaf_drop s t z q _ _ d A x
