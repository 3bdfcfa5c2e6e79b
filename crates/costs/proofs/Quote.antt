-- The cost of one quote: what one edit changes (`put-one-leaf`, `delete-one-leaf`), what that costs (`leaf-costs`), and the numbers.
-- Assumes nothing.
use Prim.Native.Nat.{ℕ, zero, suc, ◌+◌, ◌-◌, ◌/◌, ◌≤◌}
use mathlib.Core.Path.{◌≡◌, refl, sym, ap, ap₂, ◌∙◌, subst}
use mathlib.Core.Bool.{Bool, true, false, false≢true}
use mathlib.Core.List.{List, [], ◌∷◌}
use native.Mathlib.Omega.{arith}
use lib.ListN.{get_or, length}
use Rattle.device.specs.Tape.{Op, barrier_count}
use Rattle.page.specs.Layout.{line_size, Rec, rec_of, size, read_head, top_key}
use Rattle.page.specs.Operations.{page_of}
use Rattle.page.specs.Page.{records}
use Rattle.page.specs.PageFormat.{format1}
use Rattle.page.proofs.Totals.{size-most}
use Rattle.image.specs.Descent.{descend, leaf_for}
use Rattle.image.specs.Facts.{Under}
use Rattle.image.specs.Image.{child_of, children, height_of, sound, top_place}
use Rattle.image.specs.PageZero.{root_of}
use Rattle.image.specs.Route.{route}
use Rattle.image.specs.declared.Place.{Place}
use Rattle.image.proofs.Belonging.{down_is, place_in, route-is}
use Rattle.image.proofs.Soundness.{sound-tree_in}
use Rattle.edit.specs.EditList.{Edit, insert, update, delete, key_of, listed}
use Rattle.edit.specs.Reads.{Proper}
use Rattle.edit.proofs.Parsing.{list-proper}
use Rattle.journal.specs.Tape.{commit_of, taken_for}
use Rattle.journal.specs.Cost.{OneLeaf, lines_between, Costs}
use Rattle.journal.specs.declared.Way.TheVariants.{ByLine}
use Rattle.journal.specs.declared.CommitPlace.{CommitPlace}
use Rattle.journal.specs.declared.Commit.{Commit}
use Rattle.journal.proofs.Cost.{leaf-costs}
use Rattle.tree.specs.Grounds.{leaf_under, next_page, next_slot}
use Rattle.tree.specs.State.{State}
use Rattle.tree.specs.Whole.{finished, edits_on}
use Rattle.tree.specs.Reasons.{NotFull}
use Rattle.tree.proofs.General.{get_or-seam}
use Rattle.tree.proofs.Routes.{belongs, belongs-spans}
use Rattle.tree.proofs.OneLeaf.{Puts, inserts, updates, puts-ok, put-one-leaf, delete-one-leaf}
use Rattle.transaction.specs.Calls.{commands_on, transaction_call}
use Rattle.transaction.proofs.Demand2.{acceptance, was-sound, target, target-edited, answer-is, commands-are}
use Rattle.costs.specs.Quote.{LeafOf, itself, below, OneEdit, leaf_page, commands_of, CostsAtMost, FitsBelow, QuoteCost, DeleteCost}

-- ---- the leaf that a key belongs to

module _ (a : List ℕ) (k : ℕ) where
  -- a way comes to the leaf that the definition of the edits finds; there is one; and the descent of the reading calls comes there
  way-under : (h q leaf : ℕ) → LeafOf a k h q leaf → leaf ≡ leaf_under format1 k a h q
  unfolding leaf_under next_page next_slot children
  way-under _ _ _ (itself q) = refl
  way-under _ _ _ (below h q leaf b way) =
      let own : get_or (children a q) (route k (children a q)) (rec_of 0 []) ≡ b.own =
      ap₂ (λ (l : List Rec) (i : ℕ). get_or l i (rec_of 0 [])) b.shape (route-is k (children a q) b) ∙ get_or-seam b.before b.own b.later (rec_of 0 []) in
      way-under h (child_of b.own) leaf way ∙ ap (λ (r : Rec). leaf_under format1 k a h (child_of r)) (sym own)

  under-way : (h lo hi q : ℕ) → Under format1 a h lo hi q → LeafOf a k h q (leaf_under format1 k a h q)
  unfolding leaf_under next_page next_slot children
  under-way zero lo hi q u = itself q
  under-way (suc h) lo hi q u =
      let b = belongs format1 k a h lo hi q u in
      below h q (leaf_under format1 k a h (child_of b.own)) b (under-way h _ _ (child_of b.own) (belongs-spans format1 k a h lo hi q u).1.0)

  descend-under : (h : ℕ) (p : Place) → Under format1 a h p.from p.below p.page → (descend a k h p).page ≡ leaf_under format1 k a h p.page
  unfolding descend leaf_under next_page next_slot children
  descend-under zero p u = refl
  descend-under (suc h) p u =
      let b = belongs format1 k a h p.from p.below p.page u in
      ap (λ (x : Place). (descend a k h x).page) (down_is a k p b)
      ∙ descend-under h (place_in p.from b.before b.own b.later p.below) (belongs-spans format1 k a h p.from p.below p.page u).1.0

-- in a sound image each number has a way to one leaf, which a lookup reads, and to no other
pub one-leaf : (a : List ℕ) → sound a ≡ true → (k : ℕ) →
    LeafOf a k (height_of a (root_of a)) (root_of a) (leaf_for a (root_of a) k).page × ((leaf : ℕ) → LeafOf a k (height_of a (root_of a)) (root_of a) leaf → leaf ≡ (leaf_for a (root_of a) k).page)
unfolding leaf_for top_place
one-leaf a s k =
    let h = height_of a (root_of a) in
    let r = root_of a in
    let u = (sound-tree_in a s).under in
    let same = descend-under a k h (top_place r) u in
    (subst (λ (q : ℕ). LeafOf a k h r q) (sym same) (under-way a k h 0 (suc top_key) r u), λ leaf way. way-under a k h r leaf way ∙ sym same)

-- ---- more words and flushes allowed

costs-most : {place : CommitPlace} {flushes : ℕ} {cs : List Op} {q words most : ℕ} (words' most' : ℕ) → words ≤ words' → most ≤ most' → Costs place flushes cs q words most → Costs place flushes cs q words' most'
costs-most words' most' w m k =
    record {
      commits = k.commits;
      before = k.before;
      line = k.line;
      stores_are = k.stores_are;
      is_line = k.is_line;
      are_words = k.are_words;
      few_words = omega (arith, k.few_words);
      few_flushes = omega (arith, k.few_flushes);
      few_barriers = k.few_barriers;
      alone = k.alone;
    }

-- ---- the record that an edit puts into the leaf p, which has room for it

record PutsIn (e : Edit) (p : List ℕ) : Type 0 where
  ins : Bool
  rec : Rec
  brings : Puts e ins rec
  room : NotFull ins (size rec) p

fits-room : (e : Edit) (p : List ℕ) → FitsBelow e p → PutsIn e p
fits-room (insert k v) p f = record { ins = true; rec = rec_of k v; brings = inserts k v; room = (omega (arith, f.0), λ z. omega (arith, f.1)) }
fits-room (update k v) p f = record { ins = false; rec = rec_of k v; brings = updates k v; room = (omega (arith, f), λ z. absurd (false≢true z)) }
fits-room (delete k) p f = absurd f

-- ---- the transaction of one edit

module _ (a work tape bytes : List ℕ) (e : Edit) (c : Commit) (o : OneEdit a work tape bytes e c) where
  abbrev w : List ℕ
  w = target ByLine a work tape bytes c o.is_accepted

  was : sound a ≡ true
  was = was-sound ByLine a work tape bytes c o.is_accepted

  proper : Proper e
  proper = (list-proper bytes (e ∷ []) o.only).0

  abbrev ends : State
  ends = (acceptance ByLine a work tape bytes c o.is_accepted).state

  made : edits_on a (e ∷ []) ≡ finished ends
  made =
      let A = acceptance ByLine a work tape bytes c o.is_accepted in
      let same : listed (e ∷ []) ≡ listed A.list = sym o.only ∙ A.done.reads in
      let list : e ∷ [] ≡ A.list = cc in
      ap (edits_on a) list ∙ A.done.makes

  leaf-is : leaf_under format1 (key_of e) a (height_of a (root_of a)) (root_of a) ≡ o.leaf
  leaf-is = sym (way-under a (key_of e) (height_of a (root_of a)) (root_of a) o.leaf o.way)

  -- what the leaf's change costs is what the answer and the commands on the tape say
  answer-costs : (from to : ℕ) → OneLeaf a w o.leaf from to → CostsAtMost o ((to - from) / 8) (lines_between from to + 1)
  unfolding commit_of
  answer-costs from to l =
      let q = o.leaf in
      let words : ℕ = (to - from) / 8 in
      let most : ℕ = lines_between from to + 1 in
      let t = taken_for ByLine a w in
      let costs : Costs (commit_of t).place (commit_of t).flushes t.tape q words most = leaf-costs a w was (target-edited ByLine a work tape bytes c o.is_accepted) q from to l in
      subst (λ (x : Commit). Costs x.place x.flushes (commands_on a c.bytes (transaction_call ByLine a work tape bytes).tape) q words most) (sym (answer-is ByLine a work tape bytes c o.is_accepted))
      (subst (λ (cs : List Op). Costs (commit_of t).place (commit_of t).flushes cs q words most) (sym (commands-are ByLine a work tape bytes c o.is_accepted)) costs)

  -- a record has at most 216 bytes, so 27 words, and lies in at most five lines
  record-costs : (s : ℕ) → s ≤ 216 → OneLeaf a w o.leaf ((read_head (leaf_page o)).start - s) (read_head (leaf_page o)).start → CostsAtMost o 27 6
  record-costs s small l =
      let to = (read_head (leaf_page o)).start in
      costs-most 27 6 (omega arith) (omega (arith, l.span)) (answer-costs (to - s) to l)

  put-costs : FitsBelow e (leaf_page o) → CostsAtMost o 27 6
  put-costs fits =
      let f = fits-room e (leaf_page o) fits in
      record-costs (size f.rec) (size-most f.rec (puts-ok e f.ins f.rec f.brings proper))
      (subst (λ (q : ℕ). OneLeaf a w q ((read_head (page_of a q)).start - size f.rec) (read_head (page_of a q)).start) leaf-is
      (put-one-leaf a was e proper ends made f.ins f.rec f.brings (subst (λ (q : ℕ). NotFull f.ins (size f.rec) (page_of a q)) (sym leaf-is) f.room)))

  -- a header alone
  header-costs : OneLeaf a w o.leaf line_size line_size → (c.flushes ≡ 1) × (barrier_count (commands_of o) ≡ 1) × CostsAtMost o 0 1
  header-costs l =
      let k : CostsAtMost o 0 1 = costs-most 0 1 (omega arith) (omega arith) (answer-costs line_size line_size l) in
      let one = k.alone (omega (arith, k.few_words)) in
      (one.0, one.1, k)

pub quote-cost : QuoteCost
quote-cost = put-costs

pub delete-cost : DeleteCost
delete-cost a work tape bytes k c o some =
    let e = delete k in
    let z = leaf-is a work tape bytes e c o in
    header-costs a work tape bytes e c o
    (subst (λ (q : ℕ). OneLeaf a (w a work tape bytes e c o) q line_size line_size) z
    (delete-one-leaf a (was a work tape bytes e c o) k (proper a work tape bytes e c o) (ends a work tape bytes e c o) (made a work tape bytes e c o)
    (omega (arith, some, ap (λ (q : ℕ). length (records (page_of a q))) z))))
