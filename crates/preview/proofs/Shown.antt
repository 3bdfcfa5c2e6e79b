-- What is seen of a key after edits is what the records that are read for it hold with the edits made.
-- Assumes nothing.
use Rattle.std.specs.Prelude.{Err, None, Ok, Option, Result, Some}
use Prim.Native.Nat.{ℕ, ◌+◌, ◌≤◌}
use mathlib.Core.Path.{◌≡◌, refl, sym, ap, ◌∙◌, subst}
use mathlib.Core.Logic.{◌⊎◌, inl, inr}
use mathlib.Core.Bool.{true}
use mathlib.Core.List.{List, [], ◌∷◌, map}
use native.Mathlib.Omega.{arith}
use lib.ListN.{length, drop, length-drop}
use lib.Seq.{drop-drop}
use lib.Dec.{eqb}
use borrow.Author.Tests.{eqb-true, eqb-false}
use Rattle.preview.specs.declared.Preview.{Preview}
use Rattle.device.specs.declared.Refusal.{Refusal}
use Rattle.image.specs.declared.Part.{Part}
use Rattle.preview.specs.declared.Preview.TheVariants.{InImage, InList}
use Rattle.codec.specs.Lists.{part}
use Rattle.codec.proofs.Lists.{length_part, part-drop}
use Rattle.page.specs.Layout.{Rec}
use Rattle.image.specs.Image.{sound}
use Rattle.image.specs.Table.{table, listing, page_entries, find, found_in}
use Rattle.image.specs.Descent.{root_read, nodes_after, records_for}
use Rattle.image.specs.Calls.{leaf_lookup}
use Rattle.image.specs.Says.{Opened, ReadSound, ReadUnsound, read_records}
use Rattle.image.proofs.Exact.{Told, entries-tell, lookup-found, lookup-missing, lookup-answers}
use Rattle.image.proofs.Ways.{leaf-inside}
use Rattle.image.proofs.Read.{after-judged, after-read-or-not, read-lookup, unsound-lookup, records-read}
use Rattle.image.proofs.Zero.{ready-facts}
use Rattle.image.proofs.Order.{recs-page}
use Rattle.image.proofs.Values.{page-listed}
use Rattle.edit.specs.EditList.{Edit, insert, update, delete, key_of, head_size, length_in, edit_bytes, edit_in}
use Rattle.edit.specs.Ledger.{apply_edit, apply_edits}
use Rattle.edit.specs.Reads.{edit_value, Faultless, Reads}
use Rattle.edit.specs.Keys.{Source, wholly, made_in, made, Kept, KeptIn, AllKeptBy, AllKept}
use Rattle.edit.proofs.General.{by-test}
use Rattle.edit.proofs.Reading.{edit-size, edit-value}
use Rattle.edit.proofs.Keys.{gives, find-own, find-other, Steady, wholly-steady, made-steady, kept-again}
use Rattle.preview.specs.Calls.{in_image, brings, seen_from, seen, stored_after}
use Rattle.preview.proofs.ReadAgain.{records-steady}

-- the answer says that a table holds x for the key, and its part lies in its slice
abbrev pub Shows : List ℕ → List ℕ → Option (List ℕ) → Result (Option Preview) Refusal → Type 0
Shows img bytes x (Ok (Some (InList f))) = (x ≡ Some (part bytes f.offset f.length)) × (length (part bytes f.offset f.length) ≡ f.length) × (f.offset + f.length ≤ length bytes)
Shows img bytes x (Ok (Some (InImage f))) = (x ≡ Some (part img f.offset f.length)) × (length (part img f.offset f.length) ≡ f.length) × (f.offset + f.length ≤ length img)
Shows img bytes x (Ok None) = x ≡ None
Shows img bytes x (Err r) = ⊥

-- ---- an edit's own key

-- the value of the edit at `at` stands in the list at + 10
module _ (bytes : List ℕ) (at : ℕ) (e : Edit) (f : Faultless (drop at bytes)) (is : edit_in (drop at bytes) ≡ e) where
  abbrev n : ℕ
  n = length_in (drop at bytes)

  fits : at + head_size + n ≤ length bytes
  fits = omega (arith, f.whole, length-drop at bytes)

  value-is : edit_value e ≡ part bytes (at + head_size) n
  value-is = ap edit_value (sym is) ∙ edit-value (drop at bytes) f ∙ part-drop bytes at head_size n

  value-long : length (edit_value e) ≡ n
  value-long = ap length value-is ∙ length_part bytes (at + head_size) n fits

  value-shows : (img : List ℕ) → Shows img bytes (Some (edit_value e)) (Ok (Some (InList (record { offset = (at + head_size); length = (length (edit_value e)) }))))
  value-shows img =
      let same : edit_value e ≡ part bytes (at + head_size) (length (edit_value e)) = value-is ∙ ap (part bytes (at + head_size)) (sym value-long) in
      (ap Some same, sym (ap length same), omega (arith, fits, value-long))

brings-shows : (img bytes : List ℕ) (at : ℕ) (e : Edit) → Faultless (drop at bytes) → edit_in (drop at bytes) ≡ e → Shows img bytes (gives e) (brings at e)
unfolding brings
brings-shows img bytes at (insert k v) f is = value-shows bytes at (insert k v) f is img
brings-shows img bytes at (update k v) f is = value-shows bytes at (update k v) f is img
brings-shows img bytes at (delete k) f is = refl

-- ---- the edits from `at` on

reads-rest : (bytes : List ℕ) (at : ℕ) (e : Edit) (es : List Edit) → Reads (drop at bytes) (e ∷ es) [] → Reads (drop (at + length (edit_bytes e)) bytes) es []
reads-rest bytes at e es r =
    let skip : at + (head_size + length_in (drop at bytes)) ≡ at + length (edit_bytes e) =
    omega (arith, ap (λ (x : Edit). length (edit_bytes x)) r.1, edit-size (drop at bytes) r.0) in
    subst (λ (l : List ℕ). Reads l es []) (drop-drop (head_size + length_in (drop at bytes)) at bytes ∙ ap (λ (o : ℕ). drop o bytes) skip) r.2

-- what an edit's rule says of the records that are read for its key, whatever is looked for after it
kept_read : (e : Edit) (k : ℕ) (more : List ℕ) (s : Source) (t : List Rec) → Steady s → s (key_of e ∷ more) k ≡ Some t → key_of e ≡ k → KeptIn e (s [] (key_of e)) → Kept e t
kept_read e k more s t st r own h = subst (KeptIn e) (ap (s (key_of e ∷ more)) own ∙ r) (kept-again e s st [] more h)

shows-from : (img bytes : List ℕ) (k at : ℕ) (answer : Result (Option Preview) Refusal) (es : List Edit) (s : Source) (t : List Rec) → Steady s → s (map key_of es) k ≡ Some t → Reads (drop at bytes) es [] → AllKeptBy es s →
    Shows img bytes (find k t) answer → Shows img bytes (find k (apply_edits es t)) (seen_from k at answer es)
unfolding seen_from apply_edits
shows-from img bytes k at answer [] s t st q r h w = w
shows-from img bytes k at answer (e ∷ es) s t st q r h w =
    shows-from img bytes k (at + length (edit_bytes e)) _ es (made e s) (apply_edit e t) (made-steady e s st) (ap (made_in e) q) (reads-rest bytes at e es r) h.1
    (by-test (Shows img bytes (find k (apply_edit e t))) (eqb (key_of e) k)
    (λ c.
    let own = eqb-true (key_of e) k c in
    subst (λ (x : Option (List ℕ)). Shows img bytes x (brings at e)) (sym (find-own e t (kept_read e k (map key_of es) s t st q own h.0)) ∙ ap (λ (j : ℕ). find j (apply_edit e t)) own) (brings-shows img bytes at e r.0 r.1))
    (λ c. subst (λ (x : Option (List ℕ)). Shows img bytes x answer) (sym (find-other e k t (eqb-false (key_of e) k c))) w))

-- ---- from the image on

module _ (img bytes : List ℕ) (k root : ℕ) (o : Opened img root) (ks : List ℕ) where
  tells : (r : ReadSound img root (nodes_after img root (root_read root) ks) k) (a : Result (Option Part) Refusal) → found_in k (page_entries img r.way.leaf.page) ≡ a → Told img k (read_records r) a
  tells r a e =
      let q = r.way.leaf.page in
      let inside = leaf-inside img root k (nodes_after img root (root_read root) ks) (after-judged img root o ks) (ready-facts img root o.zero).page r in
      subst (λ (rs : List Rec). Told img k rs a) (recs-page img q) (entries-tell img k (page_entries img q) (page-listed img q inside r.good.page) a e)

  -- what the leaf of the key says of its records, once other keys were looked for
  pub leaf-shows : (r : ReadSound img root (nodes_after img root (root_read root) ks) k) → Shows img bytes (find k (read_records r)) (in_image (stored_after img root k ks))
  unfolding in_image stored_after
  leaf-shows r =
      rw (read-lookup img root (nodes_after img root (root_read root) ks) k r) (go (found_in k (page_entries img r.way.leaf.page)) (tells r _ refl))
    where
      go : (a : Result (Option Part) Refusal) → Told img k (read_records r) a → Shows img bytes (find k (read_records r)) (in_image a)
      go (Ok (Some x)) e = e
      go (Ok None) e = e
      go (Err s) e = e

  -- a value that is found is that of the records that are read for the key
  pub value-read : (p n : ℕ) → stored_after img root k ks ≡ Ok (Some (record { offset = p; length = n })) → (t : List Rec) × (records_for img root ks k ≡ Some t) × (find k t ≡ Some (part img p n))
  unfolding in_image stored_after
  value-read p n e = go (after-read-or-not img root ks k o)
    where
      go : ReadSound img root (nodes_after img root (root_read root) ks) k ⊎ ReadUnsound img root (nodes_after img root (root_read root) ks) k → (t : List Rec) × (records_for img root ks k ≡ Some t) × (find k t ≡ Some (part img p n))
      go (inl r) = (read_records r, records-read img root ks k r, (tells r _ (sym (read-lookup img root (nodes_after img root (root_read root) ks) k r) ∙ e)).0)
      go (inr u) = let z : ◌≡◌ {A = ℕ} 0 1 = cc (unsound-lookup img root (nodes_after img root (root_read root) ks) k u, e) in absurd (omega arith)

module _ (img bytes : List ℕ) (k root : ℕ) (o : Opened img root) (es : List Edit) (r : Reads bytes es []) (kept : AllKeptBy es (records_for img root)) where
  pub seen-shows : (read : ReadSound img root (nodes_after img root (root_read root) (map key_of es)) k) →
      Shows img bytes (find k (apply_edits es (read_records read))) (seen (stored_after img root k (map key_of es)) k es)
  unfolding seen
  seen-shows read =
      shows-from img bytes k 0 (in_image (stored_after img root k (map key_of es))) es (records_for img root) (read_records read) (records-steady img root) (records-read img root (map key_of es) k read) r kept
      (leaf-shows img bytes k root o (map key_of es) read)

-- the whole table, in a sound image
image-shows : (img bytes : List ℕ) → sound img ≡ true → (k : ℕ) → Shows img bytes (find k (table img)) (in_image (found_in k (listing img)))
unfolding in_image
image-shows img bytes h k = go (found_in k (listing img)) refl
  where
    go : (a : Result (Option Part) Refusal) → found_in k (listing img) ≡ a → Shows img bytes (find k (table img)) (in_image a)
    go (Ok (Some x)) e = lookup-found img h k x.offset x.length e
    go (Ok None) e = lookup-missing img h k e
    go (Err r) e = lookup-answers img h k r e

pub sound-shows : (img bytes : List ℕ) → sound img ≡ true → (k : ℕ) (es : List Edit) → Reads bytes es [] → AllKept es (table img) →
    Shows img bytes (find k (apply_edits es (table img))) (seen (found_in k (listing img)) k es)
unfolding seen
sound-shows img bytes h k es r kept = shows-from img bytes k 0 (in_image (found_in k (listing img))) es (wholly (table img)) (table img) (wholly-steady (table img)) refl r kept (image-shows img bytes h k)

-- ---- the part lies in its slice

abbrev pub Inside : List ℕ → List ℕ → Result (Option Preview) Refusal → Type 0
Inside img bytes (Ok (Some (InList x))) = x.offset + x.length ≤ length bytes
Inside img bytes (Ok (Some (InImage x))) = x.offset + x.length ≤ length img
Inside img bytes (Ok None) = Unit {0}
Inside img bytes (Err r) = Unit {0}

shows-inside : (img bytes : List ℕ) (x : Option (List ℕ)) (a : Result (Option Preview) Refusal) → Shows img bytes x a → Inside img bytes a
shows-inside img bytes x (Ok (Some (InList f))) s = s.2
shows-inside img bytes x (Ok (Some (InImage f))) s = s.2
shows-inside img bytes x (Ok None) s = tt
shows-inside img bytes x (Err r) s = tt

inside-from : (img bytes : List ℕ) (k at : ℕ) (answer : Result (Option Preview) Refusal) (es : List Edit) → Reads (drop at bytes) es [] → Inside img bytes answer → Inside img bytes (seen_from k at answer es)
unfolding seen_from
inside-from img bytes k at answer [] r w = w
inside-from img bytes k at answer (e ∷ es) r w =
    inside-from img bytes k (at + length (edit_bytes e)) _ es (reads-rest bytes at e es r)
    (by-test (Inside img bytes) (eqb (key_of e) k) (λ c. shows-inside img bytes (gives e) (brings at e) (brings-shows img bytes at e r.0 r.1)) (λ c. w))

image-inside : (img bytes : List ℕ) (k root : ℕ) → Opened img root → (ks : List ℕ) → Inside img bytes (in_image (stored_after img root k ks))
unfolding in_image stored_after
image-inside img bytes k root o ks = go (after-read-or-not img root ks k o)
  where
    go : ReadSound img root (nodes_after img root (root_read root) ks) k ⊎ ReadUnsound img root (nodes_after img root (root_read root) ks) k → Inside img bytes (in_image (leaf_lookup img root (nodes_after img root (root_read root) ks) k))
    go (inl r) = shows-inside img bytes (find k (read_records r)) (in_image (stored_after img root k ks)) (leaf-shows img bytes k root o ks r)
    go (inr u) = rw (unsound-lookup img root (nodes_after img root (root_read root) ks) k u) tt

pub seen-inside : (img bytes : List ℕ) (k root : ℕ) → Opened img root → (es : List Edit) → Reads bytes es [] → Inside img bytes (seen (stored_after img root k (map key_of es)) k es)
unfolding seen
seen-inside img bytes k root o es r = inside-from img bytes k 0 (in_image (stored_after img root k (map key_of es))) es r (image-inside img bytes k root o (map key_of es))
