-- Parts of an edit, one after the other: what they write together, and new pages that the others do not write.
-- Assumes nothing.
use Prim.Native.Nat.{ℕ, ◌+◌, ◌-◌, ◌≤◌}
use mathlib.Core.Path.{◌≡◌, sym, ap, ◌∙◌, subst}
use mathlib.Core.List.{List, [], ◌∷◌, ◌++◌, append_assoc}
use native.Mathlib.Omega.{arith}
use lib.ListN.{get_or}
use Rattle.page.specs.Layout.{page_size, Rec, read_head}
use Rattle.page.specs.Operations.{page_of, sizes}
use Rattle.page.specs.PageFormat.{Shows}
use Rattle.image.specs.Image.{hit, count}
use Rattle.image.proofs.Times.{count-append}
use Rattle.tree.specs.State.{State}
use Rattle.tree.specs.Good.{inside}
use Rattle.tree.specs.Moved.{Within, NewPage, SplitOver}
use Rattle.tree.proofs.Counts.{inside-most}

-- new pages of u and v, which were as in s before, and are in t as in v
module _ (s u v t : State) (kind : ℕ) where
  pub new-still : (p : ℕ) (rs : List Rec) → NewPage u v kind p rs → page_of u.image p ≡ page_of s.image p → page_of t.image p ≡ page_of v.image p → NewPage s t kind p rs
  new-still p rs A before after =
      record {
        shows = subst (λ (g : List ℕ). Shows g kind p (page_size - sizes rs) rs) (sym after) A.shows;
        slots = ap (λ (g : List ℕ). (read_head g).slots) after ∙ A.slots;
        stays = λ i low high. ap (λ (g : List ℕ). get_or g i 0) after ∙ A.stays i low high ∙ ap (λ (g : List ℕ). get_or g i 0) before;
      }

  pub split-still : (a k b : ℕ) (rs : List Rec) → SplitOver u v kind a k b rs → page_of u.image a ≡ page_of s.image a → page_of u.image b ≡ page_of s.image b →
      page_of t.image a ≡ page_of v.image a → page_of t.image b ≡ page_of v.image b → SplitOver s t kind a k b rs
  split-still a k b rs N before-a before-b after_a after_b =
      record {
        firsts = N.firsts;
        smallest = N.smallest;
        more = N.more;
        both = N.both;
        enough = N.enough;
        fewest = N.fewest;
        key = N.key;
        left_page = new-still a N.firsts N.left_page before-a after_a;
        right_page = new-still b (N.smallest ∷ N.more) N.right_page before-b after_b;
      }

-- two parts that write page q and new pages alone
module _ (n q : ℕ) (s u t : State) (apart : (x : ℕ) → hit x q + count x s.free ≤ inside n x) (old ps more ns : List ℕ) (own : (y : ℕ) → count y old ≤ hit y q) (W : Within s u old ps) (V : Within u t more ns) where
  pub within-both : ((y : ℕ) → count y more ≤ hit y q + count y ps) → Within s t (q ∷ []) (ps ++ ns)
  within-both h =
      record {
        root = V.root ∙ W.root;
        free = W.free ∙ ap (λ (l : List ℕ). ps ++ l) V.free ∙ sym (append_assoc ps ns t.free);
        long = V.long ∙ W.long;
        other = λ y k. V.other y (omega (arith, h y, k, count-append y ps ns)) ∙ W.other y (omega (arith, own y, k, count-append y ps ns));
      }

  -- a page that the second takes is none that the first writes
  pub same-new : (y : ℕ) → 1 ≤ count y ns → page_of u.image y ≡ page_of s.image y
  same-new y h =
      W.other y
      (omega (arith, h, own y, apart y, ap (count y) W.free, ap (count y) V.free, count-append y ps u.free, count-append y ns t.free, inside-most n y))
