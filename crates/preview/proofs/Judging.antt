-- The judging of keys, edit by edit: what is noted says which keys are there now, and the edits that are left come to what all come to.
-- Assumes nothing.
use Rattle.std.specs.Prelude.{Result, not, Err, None, Ok, Option, Some, option_map}
use Prim.Native.Nat.{ℕ, suc, ◌+◌, ◌-◌, ◌*◌, ◌≤◌, ◌<◌}
use mathlib.Core.Path.{◌≡◌, refl, sym, ap, ap₂, ◌∙◌, subst}
use mathlib.Core.Bool.{Bool, true, false}
use mathlib.Core.List.{List, [], ◌∷◌, ◌++◌, map, append_assoc, append-nil}
use native.Mathlib.Omega.{arith}
use native.Mathlib.Numerals.{add-one}
use lib.ListN.{length, get_or, take, drop, set, replicate, length-set}
use lib.Seq.{get_or-set_other}
use lib.Dec.{eqb}
use borrow.Author.Tests.{eqb-true, eqb-false}
use Rattle.std.specs.Prelude.{cond, reverse}
use Rattle.std.specs.List.{find}
use Rattle.std.proofs.lemmas.List.{reverse-append, take_more_set}
use Rattle.device.specs.Calls.{unsound, refusal, Answer}
use Rattle.codec.specs.Lists.{part, pick}
use Rattle.codec.specs.Numbers.{number}
use Rattle.codec.proofs.Tests.{everything}
use Rattle.device.specs.declared.Refusal.{Refusal}
use Rattle.page.specs.Layout.{page_size, leaf_kind, top_key, Rec, rec_of}
use Rattle.page.specs.Page.{records, laid_out, keys_rise}
use Rattle.page.specs.Operations.{page_of}
use Rattle.page.specs.Search.{searched}
use Rattle.page.specs.PageFormat.{PageOk}
use Rattle.page.proofs.Facts.{page_ok-true}
use Rattle.image.specs.Image.{among, bound_ok, leaf_ok, leaf_at}
use Rattle.image.specs.Calls.{index_call}
use Rattle.image.proofs.Zero.{size-true}
use Rattle.image.proofs.Values.{page-fits}
use Rattle.image.proofs.Read.{call-opened}
use Rattle.image.specs.Descent.{Way, way_to, leaf_read, root_read, nodes_in, nodes_after, records_in, records_for}
use Rattle.image.specs.Marks.{Marked, Came}
use Rattle.image.specs.declared.Place.{Place}
use Rattle.image.specs.declared.LeafPlace.{LeafPlace}
use Rattle.image.proofs.General.{zeros-at}
use Rattle.image.proofs.Search.{search-find, search-none}
use Rattle.image.proofs.CodeDescent.{laid-rising}
use Rattle.edit.specs.EditList.{Edit, insert, update, delete, key_of, edit_of, listed, edit_list}
use Rattle.edit.specs.Keys.{is_some, holds, key_rule, Source, made_in, made, key_fault, or_fault, keys_from, KeptIn}
use Rattle.edit.proofs.Judging.{kind_at}
use Rattle.edit.proofs.Parsing.{list-whole}
use Rattle.edit.proofs.Keys.{FaultSays, fault-says, gives, find-own, find-other, Steady, made-steady, kept-again}
use Rattle.edit.proofs.Heads.{Ahead, Head, head, head-none, head-rest, head-is}
use Rattle.preview.specs.Noted.{kind_noted, presence, there_by, fault_by, SoundLeaf, Marks, Looked}
use Rattle.preview.specs.declared.keys.Noted.{Noted}
use Rattle.preview.proofs.Walk.{next-key}
use Rattle.preview.proofs.ReadAgain.{Within, to-grows, to-again, parts-read, records-by, known-nodes, nodes-more}
use Rattle.preview.proofs.SameLeaf.{same-leaf}

-- ---- a key in its leaf

module _ (p : List ℕ) (laid : laid_out p ≡ true) (rise : keys_rise (records p) ≡ true) (k j : ℕ) where
  pub search-present : searched k 0 (records p) ≡ Ok j → holds k (records p) ≡ true
  unfolding holds
  search-present e =
      ap is_some (search-find k 0 (records p) (suc top_key) (rec_of 0 []) (laid-rising p laid rise) j e).1

  pub search-absent : searched k 0 (records p) ≡ Err j → holds k (records p) ≡ false
  unfolding holds
  search-absent e =
      ap is_some (search-none k 0 (records p) (suc top_key) (rec_of 0 []) (laid-rising p laid rise) j e)

-- ---- the leaf that the way of a key comes to

pub leaf-page : (img : List ℕ) (only : Bool) (p : Place) → leaf_at img only p ≡ true → PageOk leaf_kind p.page (page_of img p.page)
unfolding leaf_at bound_ok
leaf-page img only p h = page_ok-true leaf_kind p.page (page_of img p.page) (everything _ h).0

pub leaf-test : (img : List ℕ) (only : Bool) (p : Place) → leaf_ok only p.from p.below p.page (page_of img p.page) ≡ leaf_at img only p
unfolding leaf_at
leaf-test img only p = refl

-- no way, no leaf
pub no-presence : (img : List ℕ) (root k : ℕ) (nodes : List ℕ) → way_to img root nodes k ≡ None → Err (refusal unsound) ≡ presence k (records_in img (leaf_read img root nodes k))
unfolding leaf_read presence
no-presence img root k nodes e = rw e

-- a leaf that is known to be sound, once more pages are read
leaf-kept : (img : List ℕ) (root q : ℕ) (nodes : List ℕ) → SoundLeaf img root nodes q → (ns : List ℕ) → Within nodes ns → SoundLeaf img root ns q
leaf-kept img root q nodes s ns m =
    record {
      key = s.key;
      way = record { nodes = ns; only = s.way.only; leaf = s.way.leaf };
      to = to-again img root s.key nodes s.way s.to ns (λ x a. m x (subst (λ (l : List ℕ). among x l ≡ true) s.read a));
      read = refl;
      page = s.page;
      good = s.good;
    }

module _ (k : ℕ) {img : List ℕ} {root : ℕ} {nodes marks judged : List ℕ} {x : LeafPlace} {after : List ℕ} (M : Marks img root nodes marks judged) (C : Came img root (way_to img root nodes k) x after) where
  abbrev ns : List ℕ
  ns = C.nodes

  abbrev w : Way
  w = record { nodes = ns; only = x.only; leaf = x.place }

  grows : Within nodes C.nodes
  grows = to-grows img root k nodes w C.is

  -- it is known to be sound, if it is
  this-leaf : leaf_at img x.only x.place ≡ true → SoundLeaf img root C.nodes x.place.page
  this-leaf h = record { key = k; way = w; to = to-again img root k nodes w C.is ns (λ q m. m); read = refl; page = refl; good = h }

  -- one that is marked is
  pub marked-sound : (get_or judged x.place.page 0 ≡ 0 → ⊥) → leaf_at img x.only x.place ≡ true
  marked-sound h =
      let s = leaf-kept img root x.place.page nodes (M.only-sound x.place.page h) ns grows in
      let o = same-leaf img root ns C.marked.named.apart C.marked.judged s.key k s.way w s.to s.read (to-again img root k nodes w C.is ns (λ q m. m)) refl (sym s.page) in
      ap₂ (leaf_at img) o.0 o.1 ∙ s.good

  pub sound-presence : leaf_at img x.only x.place ≡ true → (p : List ℕ) → p ≡ page_of img x.place.page → ◌≡◌ {A = Result Bool Refusal} (Ok (holds k (records p))) (presence k (records_in img (leaf_read img root nodes k)))
  unfolding presence
  sound-presence h p e = ap (λ (q : List ℕ). Ok (holds k (records q))) e ∙ sym (ap (λ (o : Option Way). presence k (records_in img o)) (parts-read img root k nodes w C.is h))

  pub unsound-presence : leaf_at img x.only x.place ≡ false → Err (refusal unsound) ≡ presence k (records_in img (leaf_read img root nodes k))
  unfolding leaf_read presence
  unsound-presence h = rw (C.is, h)

  -- the marks then
  marks-by : (l : List ℕ) → Marks img root C.nodes after l → Marks img root (nodes_in (way_to img root nodes k) nodes) after l
  marks-by l m = subst (λ (o : Option Way). Marks img root (nodes_in o nodes) after l) (sym C.is) m

  pub marks-kept : Marks img root (nodes_in (way_to img root nodes k) nodes) after judged
  marks-kept = marks-by judged (record { named = C.marked; enough = M.enough; only-sound = λ q h. leaf-kept img root q nodes (M.only-sound q h) ns grows })

  -- one leaf more is marked, which is sound
  pub marks-set : leaf_at img x.only x.place ≡ true → Marks img root (nodes_in (way_to img root nodes k) nodes) after (set judged x.place.page 1)
  marks-set sound =
      marks-by (set judged x.place.page 1)
      (record { named = C.marked; enough = length-set judged x.place.page 1 ∙ M.enough; only-sound = λ q h. go q (eqb q x.place.page) refl h })
    where
      go : (q : ℕ) (t : Bool) → eqb q x.place.page ≡ t → (get_or (set judged x.place.page 1) q 0 ≡ 0 → ⊥) → SoundLeaf img root C.nodes q
      go q true e h = subst (SoundLeaf img root ns) (sym (eqb-true q x.place.page e)) (this-leaf sound)
      go q false e h = leaf-kept img root q nodes (M.only-sound q (λ z. h (get_or-set_other judged x.place.page q 1 0 (eqb-false q x.place.page e) ∙ z))) ns grows

-- the leaf's page lies in the image, and has a mark
module _ {img : List ℕ} {root : ℕ} (opened : index_call img ≡ Ok root) {f : Option Way} {x : LeafPlace} {after : List ℕ} (C : Came img root f x after) where
  pub came-fits : page_size * x.place.page + page_size ≤ length img
  came-fits = page-fits img x.place.page C.inside

  pub came-few : x.place.page < 64
  came-few = omega (arith, came-fits, (size-true (length img) (call-opened img root opened).size).high)

-- what is answered for the key k, by the way that it comes to, and whether the leaf there is sound
module _ (k : ℕ) {img : List ℕ} {root : ℕ} {marks judged : List ℕ} {x : LeafPlace} {after : List ℕ} (W : (nodes : List ℕ) → Marked img root nodes marks → Came img root (way_to img root nodes k) x after) where
  pub looked-marked : leaf_at img x.only x.place ≡ true → (p : List ℕ) → p ≡ page_of img x.place.page → (b : Bool) → b ≡ holds k (records p) → Looked img root k None marks judged (Ok b) after judged
  unfolding there_by
  looked-marked h p e b is =
      record { value = λ nodes M. ap Ok is ∙ sound-presence k M (W nodes M.named) h p e; after = λ there q nodes M known. marks-kept k M (W nodes M.named) }

  pub looked-judged : leaf_at img x.only x.place ≡ true → (p : List ℕ) → p ≡ page_of img x.place.page → (b : Bool) → b ≡ holds k (records p) →
      Looked img root k None marks judged (Ok b) after (set judged x.place.page 1)
  unfolding there_by
  looked-judged h p e b is =
      record { value = λ nodes M. ap Ok is ∙ sound-presence k M (W nodes M.named) h p e; after = λ there q nodes M known. marks-set k M (W nodes M.named) h }

  pub looked-bad : leaf_at img x.only x.place ≡ false → (r : Refusal) → r ≡ refusal unsound → Looked img root k None marks judged (Err r) after judged
  unfolding there_by
  looked-bad h r e =
      record { value = λ nodes M. ap Err e ∙ unsound-presence k M (W nodes M.named) h; after = λ there q nodes M known. let z : ◌≡◌ {A = ℕ} 0 1 = cc in absurd (omega arith) }

pub looked-none : (k : ℕ) {img : List ℕ} {root : ℕ} {marks judged after : List ℕ} → ((nodes : List ℕ) → Marked img root nodes marks → way_to img root nodes k ≡ None) → (r : Refusal) → r ≡ refusal unsound →
    Looked img root k None marks judged (Err r) after judged
unfolding there_by
looked-none k {img} {root} W r e =
    record { value = λ nodes M. ap Err e ∙ no-presence img root k nodes (W nodes M.named); after = λ there q nodes M known. let z : ◌≡◌ {A = ℕ} 0 1 = cc in absurd (omega arith) }

-- an edit that is noted says whether its key is there, and nothing is read
pub looked-noted : (k kind : ℕ) {img : List ℕ} {root : ℕ} {marks judged : List ℕ} (o : Option ℕ) → Some kind ≡ o → (b : Bool) → b ≡ not (eqb kind 3) → Looked img root k o marks judged (Ok b) marks judged
unfolding there_by
looked-noted k kind {img} {root} {marks} {judged} o noted b e =
    record {
      value = λ nodes M. ap Ok e ∙ ap (λ (x : Option ℕ). there_by x (presence k (records_in img (leaf_read img root nodes k)))) noted;
      after = λ there q nodes M known. subst (λ (ns : List ℕ). Marks img root ns marks judged) (sym (known kind (sym noted))) M;
    }

-- the marks of an image, named otherwise
pub marked-same : {a b : List ℕ} {root : ℕ} {nodes marks : List ℕ} → a ≡ b → Marked b root nodes marks → Marked a root nodes marks
marked-same {root = root} {nodes = nodes} {marks = marks} e m = subst (λ (img : List ℕ). Marked img root nodes marks) (sym e) m

-- no leaf is marked
pub marks-none : (img : List ℕ) (root : ℕ) (nodes marks : List ℕ) → Marked img root nodes marks → Marks img root nodes marks (replicate 64 0)
marks-none img root nodes marks m = record { named = m; enough = refl; only-sound = λ q h. absurd (h (zeros-at 64 q)) }

-- ---- one edit of this kind

-- what is said of it, by whether its key is there
fault-by : (i kind k : ℕ) (v : List ℕ) (o : Option (List Rec)) → fault_by i (eqb kind 1) (presence k o) ≡ key_fault i (edit_of kind k v) o
unfolding fault_by presence key_fault key_rule edit_of
fault-by i kind k v None = refl
fault-by i kind k v (Some t) = go (eqb kind 1) (eqb kind 2) (holds k t) refl
  where
    go : (a b h : Bool) → holds k t ≡ h → fault_by i a (Ok h) ≡ key_fault i (pick a (insert k v) (pick b (update k v) (delete k))) (Some t)
    go true b true e = rw e
    go true b false e = rw e
    go false true true e = rw e
    go false true false e = rw e
    go false false true e = rw e
    go false false false e = rw e

-- it leaves its key there unless it is a delete
edit-leaves : (kind k : ℕ) (v : List ℕ) (before : Result Bool Refusal) → 1 ≤ kind → kind ≤ 3 → there_by (Some kind) before ≡ Ok (is_some (gives (edit_of kind k v)))
unfolding there_by edit_of
edit-leaves kind k v before low high = go (eqb kind 1) refl (eqb kind 2) refl
  where
    go : (a : Bool) → eqb kind 1 ≡ a → (b : Bool) → eqb kind 2 ≡ b →
        ◌≡◌ {A = Result Bool Refusal} (Ok (not (eqb kind 3))) (Ok (is_some (gives (pick a (insert k v) (pick b (update k v) (delete k))))))
    go true p b q = rw (eqb-true kind 1 p)
    go false p true q = rw (eqb-true kind 2 q)
    go false p false q =
        let three : kind ≡ 3 = omega (arith, low, high, eqb-false kind 1 p, eqb-false kind 2 q) in
        rw three

-- whether a key is there, once the edit is made: its own as it leaves it, another as before
presence-own : (e : Edit) (o : Option (List Rec)) → KeptIn e o → presence (key_of e) (made_in e o) ≡ Ok (is_some (gives e))
unfolding presence holds
presence-own e None h = absurd h
presence-own e (Some t) h = ap (λ (x : Option (List ℕ)). Ok (is_some x)) (find-own e t h)

presence-other : (e : Edit) (j : ℕ) → (key_of e ≡ j → ⊥) → (o : Option (List Rec)) → presence j (made_in e o) ≡ presence j o
unfolding presence holds
presence-other e j other None = refl
presence-other e j other (Some t) = ap (λ (x : Option (List ℕ)). Ok (is_some x)) (find-other e j t other)

-- ---- what is noted

-- one note more
noted-next : (noted : List Noted) (n : ℕ) (x : Noted) (k : ℕ) → n < length noted → kind_noted (take (n + 1) (set noted n x)) k ≡ pick (eqb x.key k) (Some x.kind) (kind_noted (take n noted) k)
unfolding kind_noted
noted-next noted n x k h = rw (take_more_set noted n x h, reverse-append (take n noted) (x ∷ [])) (go (eqb x.key k))
  where
    go : (t : Bool) → option_map (λ (e : Noted). e.kind) (cond t (Some x) (find (λ (e : Noted). eqb e.key k) (reverse (take n noted)))) ≡ pick t (Some x.kind) (option_map (λ (e : Noted). e.kind) (find (λ (e : Noted). eqb e.key k) (reverse (take n noted))))
    go true = refl
    go false = refl

-- ---- the edits from the place `at` of the list on: n are judged, and `sees` is what is read for each key with them made

-- the key k is one of `keys`, and records were read for it
pub record LookedFor (read : Source) (keys : List ℕ) (k : ℕ) : Type 0 where
  pub before : List ℕ
  pub more : List ℕ
  pub recs : List Rec
  pub shape : keys ≡ before ++ k ∷ more
  pub found : read before k ≡ Some recs

looked-more : (read : Source) (keys : List ℕ) (k j : ℕ) → LookedFor read keys k → LookedFor read (keys ++ j ∷ []) k
looked-more read keys k j l =
    record { before = l.before; more = l.more ++ j ∷ []; recs = l.recs; shape = ap (λ (x : List ℕ). x ++ j ∷ []) l.shape ∙ append_assoc l.before (k ∷ l.more) (j ∷ []); found = l.found }

-- the keys `keys` were looked for by then, in this order; `all` is what is said of the whole list, and `whole` are its keys
pub record Upto (read : Source) (list : List ℕ) (noted : List Noted) (all : Answer) (whole : List ℕ) (at n : ℕ) (keys : List ℕ) : Type 0 where
  pub ahead : Ahead list at
  pub few : n + length ahead.edits ≤ 16
  pub order : keys ++ map key_of ahead.edits ≡ whole
  pub sees : Source
  pub steady : Steady sees
  pub through : (ks : List ℕ) (k : ℕ) (u : List Rec) → sees ks k ≡ Some u → (t : List Rec) × (read (keys ++ ks) k ≡ Some t)
  pub there : (ks : List ℕ) (k : ℕ) → there_by (kind_noted (take n noted) k) (presence k (read (keys ++ ks) k)) ≡ presence k (sees ks k)
  pub looked : (k x : ℕ) → kind_noted (take n noted) k ≡ Some x → LookedFor read keys k
  pub goes : keys_from n ahead.edits sees ≡ all

pub upto-start : (read : Source) → Steady read → (list : List ℕ) (noted : List Noted) (es : List Edit) → edit_list list ≡ listed es → Upto read list noted (keys_from 0 es read) (map key_of es) 0 0 []
unfolding kind_noted there_by
upto-start read steady list noted es e =
    let w = list-whole list es e in
    record {
      ahead = record { edits = es; reads = w.reads };
      few = omega (arith, w.few);
      order = refl;
      sees = read;
      steady = steady;
      through = λ ks k u q. (u, q);
      there = λ ks k. refl;
      looked = λ k x q. let z : ◌≡◌ {A = ℕ} 0 1 = cc in absurd (omega arith);
      goes = refl;
    }

module _ {read : Source} {list : List ℕ} {noted : List Noted} {all : Answer} {whole : List ℕ} {at n : ℕ} {keys : List ℕ} (U : Upto read list noted all whole at n keys) where
  abbrev s : Source
  s = U.sees

  pub upto-end : length list ≤ at → ((Ok tt) ≡ all) × (keys ≡ whole)
  unfolding keys_from
  upto-end h =
      let none = head-none U.ahead h in (
        sym (ap (λ (es : List Edit). keys_from n es s) none) ∙ U.goes,
        sym (append-nil keys) ∙ sym (ap (λ (es : List Edit). keys ++ map key_of es) none) ∙ U.order,
      )

  module _ (more : at < length list) where
    abbrev H : Head (drop at list) U.ahead.edits
    H = head U.ahead more

    pub one_more : n + 1 ≤ 16
    one_more = omega (arith, U.few, ap (λ (es : List Edit). length es) H.shape)

    module _ (m : ℕ) (long : m ≡ get_or list (at + 1) 0) (k : ℕ) (key : k ≡ number (part list (at + 2) 8)) (kind : ℕ) (first : kind ≡ get_or list at 0) where
      abbrev v : List ℕ
      v = take (at + 10 + m - (at + 10)) (drop (at + 10) list)

      abbrev next : Edit
      next = H.next

      own : key_of next ≡ k
      own = next-key U.ahead more m long k key

      next-is : edit_of kind k v ≡ next
      next-is = ap (λ (x : ℕ). edit_of x k v) first ∙ head-is U.ahead more m long k key

      -- what is read for a key now
      now : (j : ℕ) → there_by (kind_noted (take n noted) j) (presence j (read keys j)) ≡ presence j (s [] j)
      now j = ap (λ (ks : List ℕ). there_by (kind_noted (take n noted) j) (presence j (read ks j))) (sym (append-nil keys)) ∙ U.there [] j

      -- what the code says of the edit, by the kind and the key that stand there, is what is to be said
      module _ (c : Answer) (says : c ≡ fault_by n (eqb kind 1) (there_by (kind_noted (take n noted) k) (presence k (read keys k)))) where
        fault-is : c ≡ key_fault n next (s [] (key_of next))
        fault-is =
            says
            ∙ ap (fault_by n (eqb kind 1)) (now k)
            ∙ fault-by n kind k v (s [] k)
            ∙ ap (λ (e : Edit). key_fault n e (s [] k)) next-is
            ∙ ap (λ (x : ℕ). key_fault n next (s [] x)) (sym own)

        goes_on : or_fault c (keys_from (suc n) H.rest (made next s)) ≡ all
        unfolding keys_from
        goes_on = ap (λ (x : Answer). or_fault x (keys_from (suc n) H.rest (made next s))) fault-is ∙ ap (λ (es : List Edit). keys_from n es s) (sym H.shape) ∙ U.goes

        pub upto-stop : (r : Refusal) → c ≡ Err r → c ≡ all
        upto-stop r e = e ∙ ap (λ (x : Answer). or_fault x (keys_from (suc n) H.rest (made next s))) (sym e) ∙ goes_on

        module _ (good : c ≡ Ok tt) (room : n < length noted) where
          kept : KeptIn next (s [] (key_of next))
          kept = subst (FaultSays n next (s [] (key_of next))) (sym fault-is ∙ good) (fault-says n next (s [] (key_of next)))

          abbrev note : Noted
          note = record { key = k; kind = kind }

          -- the keys with this one
          with-own : (ks : List ℕ) → (keys ++ k ∷ []) ++ ks ≡ keys ++ key_of next ∷ ks
          with-own ks = append_assoc keys (k ∷ []) ks ∙ ap (λ (x : ℕ). keys ++ x ∷ ks) (sym own)

          -- the key j after the edit
          there-next : (ks : List ℕ) (j : ℕ) → there_by (kind_noted (take (n + 1) (set noted n note)) j) (presence j (read ((keys ++ k ∷ []) ++ ks) j)) ≡ presence j (made next s ks j)
          there-next ks j =
              ap₂ (λ (x : Option ℕ) (l : List ℕ). there_by x (presence j (read l j))) (noted-next noted n note j room) (with-own ks) ∙ go (eqb k j) refl
            where
              before : Result Bool Refusal
              before = presence j (read (keys ++ key_of next ∷ ks) j)

              leaves : there_by (Some kind) before ≡ Ok (is_some (gives next))
              leaves =
                  edit-leaves kind k v before (omega (arith, first, kind_at list at, H.ok.known.kind-low)) (omega (arith, first, kind_at list at, H.ok.known.kind-high))
                  ∙ ap (λ (e : Edit). Ok (is_some (gives e))) next-is

              go : (q : Bool) → eqb k j ≡ q → there_by (pick q (Some kind) (kind_noted (take n noted) j)) (presence j (read (keys ++ key_of next ∷ ks) j)) ≡ presence j (made next s ks j)
              go true q =
                  let same : key_of next ≡ j = own ∙ eqb-true k j q in
                  leaves ∙ sym (presence-own next (s (key_of next ∷ ks) (key_of next)) (kept-again next s U.steady [] ks kept)) ∙ ap (λ (x : ℕ). presence x (made next s ks x)) same
              go false q = U.there (key_of next ∷ ks) j ∙ sym (presence-other next j (λ e. eqb-false k j q (sym own ∙ e)) (s (key_of next ∷ ks) j))

          through-next : (ks : List ℕ) (j : ℕ) (u : List Rec) → made next s ks j ≡ Some u → (t : List Rec) × (read ((keys ++ k ∷ []) ++ ks) j ≡ Some t)
          through-next ks j u = go (s (key_of next ∷ ks) j) refl
            where
              go : (o : Option (List Rec)) → s (key_of next ∷ ks) j ≡ o → made_in next o ≡ Some u → (t : List Rec) × (read ((keys ++ k ∷ []) ++ ks) j ≡ Some t)
              go None e q = let z : ◌≡◌ {A = ℕ} 0 1 = cc in absurd (omega arith)
              go (Some t) e q = let r = U.through (key_of next ∷ ks) j t e in (r.0, ap (λ (l : List ℕ). read l j) (with-own ks) ∙ r.1)

          -- this key was looked for, and found
          this-looked : LookedFor read (keys ++ k ∷ []) k
          this-looked = go (s [] (key_of next)) refl kept
            where
              go : (o : Option (List Rec)) → s [] (key_of next) ≡ o → KeptIn next o → LookedFor read (keys ++ k ∷ []) k
              go None e h = absurd h
              go (Some t) e h =
                  let r = U.through [] (key_of next) t e in
                  record { before = keys; more = []; recs = r.0; shape = refl; found = ap₂ read (sym (append-nil keys)) (sym own) ∙ r.1 }

          looked-next : (j x : ℕ) → kind_noted (take (n + 1) (set noted n note)) j ≡ Some x → LookedFor read (keys ++ k ∷ []) j
          looked-next j x e = go (eqb k j) refl (sym (noted-next noted n note j room) ∙ e)
            where
              go : (q : Bool) → eqb k j ≡ q → pick q (Some kind) (kind_noted (take n noted) j) ≡ Some x → LookedFor read (keys ++ k ∷ []) j
              go true q f = subst (LookedFor read (keys ++ k ∷ [])) (eqb-true k j q) this-looked
              go false q f = looked-more read keys j k (U.looked j x f)

          pub upto_next : Upto read list (set noted n note) all whole (at + 10 + m) (n + 1) (keys ++ k ∷ [])
          upto_next =
              let on : keys_from (suc n) H.rest (made next s) ≡ all = ap (λ (x : Answer). or_fault x (keys_from (suc n) H.rest (made next s))) (sym good) ∙ goes_on in
              record {
                ahead = head-rest U.ahead more m long;
                few = omega (arith, U.few, ap (λ (es : List Edit). length es) H.shape);
                order = with-own (map key_of H.rest) ∙ ap (λ (es : List Edit). keys ++ map key_of es) (sym H.shape) ∙ U.order;
                sees = made next s;
                steady = made-steady next s U.steady;
                through = through-next;
                there = there-next;
                looked = looked-next;
                goes = ap (λ (x : ℕ). keys_from x H.rest (made next s)) (add-one n) ∙ on;
              }

-- ---- what is answered for a key, once the keys `keys` were looked for

module _ {img : List ℕ} {root k : ℕ} {kind : Option ℕ} {marks judged : List ℕ} {answer : Result Bool Refusal} {marks-then judged-then : List ℕ} (L : Looked img root k kind marks judged answer marks-then judged-then) (keys : List ℕ)
    (M : Marks img root (nodes_after img root (root_read root) keys) marks judged) where
  pub looked-value : answer ≡ there_by kind (presence k (records_for img root keys k))
  looked-value = L.value (nodes_after img root (root_read root) keys) M ∙ ap (λ (o : Option (List Rec)). there_by kind (presence k o)) (sym (records-by img root keys k))

  -- the marks then stand for what is read for this key too, which is nothing if it was looked for before
  pub looked-marks : (there : Bool) → answer ≡ Ok there → ((x : ℕ) → kind ≡ Some x → LookedFor (records_for img root) keys k) → Marks img root (nodes_after img root (root_read root) (keys ++ k ∷ [])) marks-then judged-then
  looked-marks there q known =
      subst (λ (ns : List ℕ). Marks img root ns marks-then judged-then) (sym (nodes-more img root keys k)) (L.after there q (nodes_after img root (root_read root) keys) M (λ x e. nothing (known x e)))
    where
      nothing : LookedFor (records_for img root) keys k → nodes_in (way_to img root (nodes_after img root (root_read root) keys) k) (nodes_after img root (root_read root) keys) ≡ nodes_after img root (root_read root) keys
      nothing l =
          subst (λ (ks : List ℕ). nodes_in (way_to img root (nodes_after img root (root_read root) ks) k) (nodes_after img root (root_read root) ks) ≡ nodes_after img root (root_read root) ks) (sym l.shape)
          (known-nodes img root l.before k l.more l.recs l.found)
