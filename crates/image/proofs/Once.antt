-- A page that is named is read once: it is none of those that were read before, since what a page names is judged with all that was named before.
-- Assumes nothing.
use Rattle.std.specs.Prelude.{Some}
use Prim.Native.Nat.{ℕ, suc}
use mathlib.Core.Path.{◌≡◌, refl, sym, ◌∙◌, subst}
use mathlib.Core.Bool.{Bool, true, false, ◌||◌, true≢false}
use mathlib.Core.List.{List, [], ◌∷◌, ◌++◌}
use lib.Dec.{eqb}
use borrow.Author.Tests.{eqb-true}
use Rattle.codec.proofs.Tests.{not-true}
use Rattle.image.specs.Image.{names_of, among, distinct}
use Rattle.image.specs.Facts.{Node}
use Rattle.image.specs.Descent.{named_by, read_node}
use Rattle.image.specs.Says.{NodeRead, again, new}
use Rattle.image.specs.declared.Place.{Place}
use Rattle.image.proofs.Apart.{among-left, among-right}
use Rattle.image.proofs.Ways.{node-read}
use Rattle.image.proofs.Times.{apart-among}

pub among-either : (p : ℕ) (l : List ℕ) (P : ℕ → Type 0) → P p → ((y : ℕ) → among y l ≡ true → P y) → (y : ℕ) → among y (p ∷ l) ≡ true → P y
unfolding among
among-either p l P a f y h = go (eqb y p) refl h
  where
    go : (t : Bool) → eqb y p ≡ t → (t || among y l) ≡ true → P y
    go true e q = subst P (sym (eqb-true y p e)) a
    go false e q = f y q

module _ (img : List ℕ) (root : ℕ) where
  -- the page x is named by the pages read, and none of them; they are named too
  pub record Once (nodes : List ℕ) (x : ℕ) : Type 0 where
    pub new : among x nodes ≡ false
    pub named : among x (named_by img root nodes) ≡ true
    pub held : (y : ℕ) → among y nodes ≡ true → among y (named_by img root nodes) ≡ true

  -- a page that was not read before is judged
  pub read-as : (h : ℕ) (p : Place) (nodes ns : List ℕ) → among p.page nodes ≡ false → read_node img root (suc h) p nodes ≡ Some ns → Node img (suc h) (named_by img root nodes) p × (ns ≡ p.page ∷ nodes)
  read-as h p nodes ns a e = go ns (node-read img root (suc h) p nodes ns e)
    where
      go : (ns : List ℕ) → NodeRead img root (suc h) p nodes ns → Node img (suc h) (named_by img root nodes) p × (ns ≡ p.page ∷ nodes)
      go _ (again f) = absurd (true≢false (sym f ∙ a))
      go _ (new f n) = (n, refl)

  -- what it names is then named, and not read
  pub once-on : (h : ℕ) (p : Place) (nodes : List ℕ) → Once nodes p.page → Node img (suc h) (named_by img root nodes) p → (x : ℕ) → among x (names_of img p.page) ≡ true → Once (p.page ∷ nodes) x
  unfolding named_by
  once-on h p nodes o n x m =
      let names = names_of img p.page in
      let named = named_by img root nodes in
      let held : (y : ℕ) → among y (p.page ∷ nodes) ≡ true → among y named ≡ true = among-either p.page nodes (λ (y : ℕ). among y named ≡ true) o.named o.held in
      let a = apart-among names named n.apart x m in
      record {
        new = not-true (among x (p.page ∷ nodes)) (λ t. true≢false (sym (held x t) ∙ a));
        named = among-left x names named m;
        held = λ y t. among-right y names named (held y t);
      }

  pub once-root : distinct (names_of img root ++ root ∷ []) ≡ true → (x : ℕ) → among x (names_of img root) ≡ true → Once (root ∷ []) x
  unfolding named_by
  once-root d x m =
      let names = names_of img root in
      record { new = apart-among names (root ∷ []) d x m; named = among-left x names (root ∷ []) m; held = λ y t. among-right y names (root ∷ []) t }
