-- What the preview call answers: each refusal where its ground is the first that holds, else the part that the last edit of the key decides. On a sound image that is
-- exactly what the ledger's table after the list holds.
-- Assumes nothing.
use Rattle.device.proofs.Causes.{refusal-numbered}
use Rattle.std.specs.Prelude.{Err, None, Ok, Option, Result, Some}
use Prim.Native.Nat.{ℕ, ◌≤◌}
use mathlib.Core.Path.{◌≡◌, refl, sym, ap, ◌∙◌, subst}
use mathlib.Core.Logic.{◌⊎◌, inl, inr}
use mathlib.Core.Bool.{Bool, true, false}
use mathlib.Core.List.{List, [], ◌∷◌, ◌++◌, map}
use lib.ListN.{length}
use Rattle.preview.specs.declared.Preview.{Preview}
use Rattle.image.specs.declared.Part.{Part}
use Rattle.preview.specs.declared.Preview.TheVariants.{InImage, InList}
use Rattle.codec.specs.Lists.{pick, All}
use Rattle.device.specs.Calls.{refusal, Answer, number_in, refusal_at}
use Rattle.device.specs.declared.Refusal.{Refusal}
use Rattle.page.specs.Layout.{Rec}
use Rattle.image.specs.PageZero.{root_of}
use Rattle.image.specs.Image.{sound}
use Rattle.image.specs.Table.{table, listing, find, found_in}
use Rattle.image.specs.Descent.{root_read, nodes_after, records_for}
use Rattle.image.specs.Calls.{index_call, key_ok, lookup_call}
use Rattle.image.specs.Says.{Opened, ReadSound, ReadUnsound, read_records}
use Rattle.image.proofs.General.{All-middle}
use Rattle.image.proofs.KeyRange.{key_ok-true, true-key_ok, key_ok-false, false-key_ok}
use Rattle.image.proofs.Read.{OpeningSays, opening-says, opened-call, not-opened-call, unsound-lookup, after-read-or-not}
use Rattle.image.proofs.Answers.{check_sound, sound-check, sound-opened, lookup-after, records-sound, lookup-value, lookup-none}
use Rattle.edit.specs.EditList.{Edit, insert, update, delete, key_of, Listed, listed, faulty, edit_list}
use Rattle.edit.specs.Ledger.{apply_edits}
use Rattle.edit.specs.Reads.{Filled, list_bytes, Whole}
use Rattle.edit.specs.Keys.{wholly, keys_from, keys_read, AllKept, FirstBroken}
use Rattle.edit.proofs.General.{by-test}
use Rattle.edit.proofs.Parsing.{reads-filled, list-whole, whole-list, list-fault, fault-list}
use Rattle.edit.proofs.Keys.{kept-keys, keys_kept, keys-fault, fault-keys, SameFor, wholly-steady, Alike, AllAlike, keys-same}
use Rattle.preview.specs.Calls.{in_image, brings, seen, rules_of, keys_of, list_of, stored_after, opened_of, preview_call, part_of, preview_value_call}
use Rattle.preview.specs.Says.{previewed, looked_up, held, bytes_in}
use Rattle.preview.specs.Answers.{NoEdit, LastEdit, Asked, AskedSound, Answers, bad-image, bad-list, bad-key, bad-edit, in_list, deleted, bad-way, of_image, missing}
use Rattle.preview.proofs.LastEdit.{no-edit, last-edit, last-or-none}
use Rattle.preview.proofs.ReadAgain.{records-steady}
use Rattle.preview.proofs.Shown.{Shows, leaf-shows, seen-shows, sound-shows, Inside, seen-inside}

-- the part of an answer, if it is one of the list, is not empty
abbrev FilledPart : Result (Option Preview) Refusal → Type 0
FilledPart (Ok (Some (InList x))) = 1 ≤ x.length
FilledPart (Ok (Some (InImage x))) = Unit {0}
FilledPart (Ok None) = Unit {0}
FilledPart (Err r) = Unit {0}

-- an answer that shows what is held comes to it
shows-held : (img bytes : List ℕ) (a : Result (Option Preview) Refusal) (x : Option (List ℕ)) → Shows img bytes x a → previewed img bytes a ≡ held x
unfolding previewed held
shows-held img bytes (Ok (Some (InList f))) x s = sym (ap held s.0)
shows-held img bytes (Ok (Some (InImage f))) x s = sym (ap held s.0)
shows-held img bytes (Ok None) x s = sym (ap held s)
shows-held img bytes (Err r) x s = absurd s

-- a leaf that is read is not refused
read-answers : (img : List ℕ) (k root : ℕ) → Opened img root → (ks : List ℕ) → ReadSound img root (nodes_after img root (root_read root) ks) k → (s : Refusal) → stored_after img root k ks ≡ Err s → ⊥
unfolding in_image
read-answers img k root o ks r s e = subst (λ (a : Result (Option Part) Refusal). Shows img [] (find k (read_records r)) (in_image a)) e (leaf-shows img [] k root o ks r)

-- one that is not sound is
unsound-answers : (img : List ℕ) (k root : ℕ) (ks : List ℕ) → ReadUnsound img root (nodes_after img root (root_read root) ks) k → stored_after img root k ks ≡ Err (refusal 4)
unfolding stored_after
unsound-answers img k root ks u = unsound-lookup img root (nodes_after img root (root_read root) ks) k u

module _ (img bytes : List ℕ) (k : ℕ) where
  -- ---- where nothing is refused

  opened-list : (root : ℕ) → Opened img root → (es : List Edit) → Whole bytes es → preview_call img bytes k ≡ keys_of (records_for img root) (stored_after img root k) k es
  unfolding preview_call opened_of list_of
  opened-list root o es w = rw (opened-call img root o, whole-list bytes es w)

  module _ (root : ℕ) (es : List Edit) (A : Asked img bytes k root es) where
    asked-ranged : key_ok k ≡ true
    asked-ranged = true-key_ok k A.low A.high

    pub asked-call : preview_call img bytes k ≡ seen (stored_after img root k (map key_of es)) k es
    unfolding keys_of rules_of
    asked-call = opened-list root A.opened es A.whole ∙ rw (asked-ranged, kept-keys 0 es (records_for img root) A.kept)

    -- which of the two slices, and where
    pub asked-none : NoEdit k es → preview_call img bytes k ≡ in_image (stored_after img root k (map key_of es))
    unfolding seen
    asked-none h = asked-call ∙ no-edit k 0 (in_image (stored_after img root k (map key_of es))) es h

    pub asked-last : (l : LastEdit k es) → preview_call img bytes k ≡ brings (length (list_bytes l.before)) l.edit
    unfolding seen
    asked-last l = asked-call ∙ last-edit k (in_image (stored_after img root k (map key_of es))) es l

  -- ---- the cases, in the order of document 02

  pub preview-answers : Answers img bytes k (preview_call img bytes k)
  unfolding preview_call opened_of list_of keys_of rules_of in_image brings
  preview-answers = opening (index_call img) (opening-says img)
    where
      image : (root : ℕ) (es : List Edit) (A : Asked img bytes k root es) → NoEdit k es →
          ReadSound img root (nodes_after img root (root_read root) (map key_of es)) k ⊎ ReadUnsound img root (nodes_after img root (root_read root) (map key_of es)) k →
          (a : Result (Option Part) Refusal) → stored_after img root k (map key_of es) ≡ a → Answers img bytes k (in_image a)
      image root es A h x (Ok (Some f)) e = of_image root es A h f.offset f.length e
      image root es A h x (Ok None) e = missing root es A h e
      image root es A h (inr u) (Err r) e = let four : (refusal_at 4 0) ≡ r = cc (unsound-answers img k root (map key_of es) u, e) in subst (λ (s : Refusal). Answers img bytes k (Err s)) four (bad-way root es A h u)
      image root es A h (inl r) (Err s) e = absurd (read-answers img k root A.opened (map key_of es) r s e)

      decided : (root : ℕ) (es : List Edit) → Asked img bytes k root es → (l : LastEdit k es) → (e : Edit) → l.edit ≡ e → key_of e ≡ k → Answers img bytes k (brings (length (list_bytes l.before)) e)
      decided root es A l (insert j v) e own = in_list root es A l v (inl (e ∙ ap (λ (x : ℕ). insert x v) own))
      decided root es A l (update j v) e own = in_list root es A l v (inr (e ∙ ap (λ (x : ℕ). update x v) own))
      decided root es A l (delete j) e own = deleted root es A l (e ∙ ap delete own)

      shown : (root : ℕ) (es : List Edit) → Asked img bytes k root es → NoEdit k es ⊎ LastEdit k es → Answers img bytes k (seen (stored_after img root k (map key_of es)) k es)
      shown root es A (inl h) =
          subst (Answers img bytes k) (sym (asked-none root es A h) ∙ asked-call root es A) (image root es A h (after-read-or-not img root (map key_of es) k A.opened) (stored_after img root k (map key_of es)) refl)
      shown root es A (inr l) = subst (Answers img bytes k) (sym (asked-last root es A l) ∙ asked-call root es A) (decided root es A l l.edit refl l.own)

      keys : (root : ℕ) → Opened img root → (es : List Edit) → Whole bytes es → 1 ≤ k → k ≤ 999999999999 → (j : Answer) → keys_from 0 es (records_for img root) ≡ j →
          Answers img bytes k (rules_of (seen (stored_after img root k (map key_of es)) k es) j)
      keys root o es w low high (Err r) e =
          subst (λ (x : Refusal). Answers img bytes k (Err x)) (refusal-numbered r) (bad-edit root o es w low high (number_in r) r.edit (keys-fault es (records_for img root) r e))
      keys root o es w low high (Ok done) e = shown root es (record { opened = o; whole = w; low = low; high = high; kept = keys_kept es (records_for img root) e }) (last-or-none k es)

      key : (root : ℕ) → Opened img root → (es : List Edit) → Whole bytes es → (b : Bool) → key_ok k ≡ b →
          Answers img bytes k (pick b (rules_of (seen (stored_after img root k (map key_of es)) k es) (keys_from 0 es (records_for img root))) (Err (refusal 6)))
      key root o es w true e = let q = key_ok-true k e in keys root o es w q.0 q.1 (keys_from 0 es (records_for img root)) refl
      key root o es w false e = bad-key root o es w (key_ok-false k e)

      list : (root : ℕ) → Opened img root → (l : Listed) → edit_list bytes ≡ l → Answers img bytes k (list_of (records_for img root) (stored_after img root k) k l)
      list root o (faulty n i) e = bad-list root o n i (list-fault bytes n i e)
      list root o (listed es) e = key root o es (list-whole bytes es e) (key_ok k) refl

      opening : (x : Result ℕ Refusal) → OpeningSays img x → Answers img bytes k (opened_of img bytes k x)
      opening (Err r) n = bad-image r n
      opening (Ok root) o = list root o (edit_list bytes) refl

  -- and each case excludes the others: it is the answer where it holds
  pub answers-preview : (a : Result (Option Preview) Refusal) → Answers img bytes k a → preview_call img bytes k ≡ a
  unfolding preview_call opened_of list_of keys_of rules_of in_image brings
  answers-preview _ (bad-image r n) = rw (not-opened-call img r n)
  answers-preview _ (bad-list root o n i f) = rw (opened-call img root o, fault-list bytes n i f)
  answers-preview _ (bad-key root o es w q) = opened-list root o es w ∙ rw (false-key_ok k q)
  answers-preview _ (bad-edit root o es w low high n i f) = opened-list root o es w ∙ rw (true-key_ok k low high, fault-keys es (records_for img root) n i f)
  answers-preview _ (in_list root es A l v (inl e)) = asked-last root es A l ∙ ap (brings (length (list_bytes l.before))) e
  answers-preview _ (in_list root es A l v (inr e)) = asked-last root es A l ∙ ap (brings (length (list_bytes l.before))) e
  answers-preview _ (deleted root es A l e) = asked-last root es A l ∙ ap (brings (length (list_bytes l.before))) e
  answers-preview _ (bad-way root es A h u) = asked-none root es A h ∙ ap in_image (unsound-answers img k root (map key_of es) u)
  answers-preview _ (of_image root es A h o n e) = asked-none root es A h ∙ ap in_image e
  answers-preview _ (missing root es A h e) = asked-none root es A h ∙ ap in_image e

  -- ---- "the pages read alone, and the look's list, give the answer by the same rules": the ledger's, on the records of the leaf that the key belongs to

  pub preview-read : (root : ℕ) (es : List Edit) → Asked img bytes k root es → (r : ReadSound img root (nodes_after img root (root_read root) (map key_of es)) k) →
      previewed img bytes (preview_call img bytes k) ≡ held (find k (apply_edits es (read_records r)))
  preview-read root es A r =
      ap (previewed img bytes) (asked-call root es A)
      ∙ shows-held img bytes (seen (stored_after img root k (map key_of es)) k es) (find k (apply_edits es (read_records r))) (seen-shows img bytes k root A.opened es A.whole.reads A.kept r)

  -- the companion hands back the value's bytes; "refused or missing, the part is empty"
  pub part-exact : preview_value_call img bytes k ≡ bytes_in (previewed img bytes (preview_call img bytes k))
  unfolding preview_value_call part_of previewed bytes_in
  part-exact = go (preview_call img bytes k)
    where
      go : (a : Result (Option Preview) Refusal) → part_of img bytes a ≡ bytes_in (previewed img bytes a)
      go (Ok (Some (InList x))) = refl
      go (Ok (Some (InImage x))) = refl
      go (Ok None) = refl
      go (Err r) = refl

  -- the part of an answer lies in its slice
  pub preview-inside : (a : Result (Option Preview) Refusal) → preview_call img bytes k ≡ a → Inside img bytes a
  unfolding preview_call opened_of list_of keys_of rules_of
  preview-inside a e = subst (Inside img bytes) e (opening (index_call img) (opening-says img))
    where
      rules : (x : Result (Option Preview) Refusal) → Inside img bytes x → (j : Answer) → Inside img bytes (rules_of x j)
      rules x h (Err r) = tt
      rules x h (Ok done) = h

      list : (root : ℕ) → Opened img root → (l : Listed) → edit_list bytes ≡ l → Inside img bytes (list_of (records_for img root) (stored_after img root k) k l)
      list root o (faulty n i) e = tt
      list root o (listed es) e =
          by-test (Inside img bytes) (key_ok k)
          (λ q. rules (seen (stored_after img root k (map key_of es)) k es) (seen-inside img bytes k root o es (list-whole bytes es e).reads) (keys_from 0 es (records_for img root)))
          (λ q. tt)

      opening : (x : Result ℕ Refusal) → OpeningSays img x → Inside img bytes (opened_of img bytes k x)
      opening (Err r) n = tt
      opening (Ok root) o = list root o (edit_list bytes) refl

  -- a value that is shown from the list is not empty (document 02 (g)): an empty one is the image's
  pub in-list-filled : (o n : ℕ) → preview_call img bytes k ≡ Ok (Some (InList (record { offset = o; length = n }))) → 1 ≤ n
  in-list-filled o n e = subst FilledPart e (go (preview_call img bytes k) preview-answers)
    where
      last : (es : List Edit) → Whole bytes es → (l : LastEdit k es) → Filled l.edit
      last es w l = All-middle Filled l.before l.edit l.later (subst (All Filled) l.shape (reads-filled bytes es [] w.reads))

      go : (a : Result (Option Preview) Refusal) → Answers img bytes k a → FilledPart a
      go _ (bad-image r n) = tt
      go _ (bad-list root o n i f) = tt
      go _ (bad-key root o es w q) = tt
      go _ (bad-edit root o es w low high n i f) = tt
      go _ (in_list root es A l v (inl e)) = subst Filled e (last es A.whole l)
      go _ (in_list root es A l v (inr e)) = subst Filled e (last es A.whole l)
      go _ (deleted root es A l e) = tt
      go _ (bad-way root es A h u) = tt
      go _ (of_image root es A h o n e) = tt
      go _ (missing root es A h e) = tt

-- ---- "On a sound image every answer is as it was": by the whole table

-- each key's leaf holds for it what the table holds, whatever was looked for before
sound-alike : (img : List ℕ) → sound img ≡ true → (ks : List ℕ) (j : ℕ) → Alike (records_for img (root_of img)) (wholly (table img)) ks j
sound-alike img h ks j =
    let r = records-sound img h j ks in
    subst (λ (o : Option (List Rec)). SameFor j o (Some (table img))) (sym r.1) r.2

sound-all : (img : List ℕ) → sound img ≡ true → (ks js : List ℕ) → AllAlike (records_for img (root_of img)) (wholly (table img)) ks js
sound-all img h ks [] = tt
sound-all img h ks (j ∷ js) = (sound-alike img h ks j, sound-all img h (ks ++ j ∷ []) js)

module _ (img bytes : List ℕ) (h : sound img ≡ true) where
  pub keys-sound : (es : List Edit) → keys_from 0 es (records_for img (root_of img)) ≡ keys_from 0 es (wholly (table img))
  keys-sound es =
      keys-same 0 es (records_for img (root_of img)) (wholly (table img)) (records-steady img (root_of img)) (wholly-steady (table img))
      (sound-all img h [] (keys_read 0 es (records_for img (root_of img))))

  stored-sound : (k : ℕ) (ks : List ℕ) → stored_after img (root_of img) k ks ≡ found_in k (listing img)
  unfolding stored_after
  stored-sound k ks = lookup-after img h k ks

  pub preview-sound : (k : ℕ) → preview_call img bytes k ≡ list_of (wholly (table img)) (λ ks. found_in k (listing img)) k (edit_list bytes)
  unfolding preview_call opened_of list_of keys_of
  preview-sound k = rw (opened-call img (root_of img) (sound-opened img h)) (go (edit_list bytes))
    where
      go : (l : Listed) → list_of (records_for img (root_of img)) (stored_after img (root_of img) k) k l ≡ list_of (wholly (table img)) (λ ks. found_in k (listing img)) k l
      go (faulty n i) = refl
      go (listed es) = rw (keys-sound es, stored-sound k (map key_of es))

  module _ (k : ℕ) (es : List Edit) (w : Whole bytes es) (low : 1 ≤ k) (high : k ≤ 999999999999) where
    by-rules : (j : Answer) → keys_from 0 es (wholly (table img)) ≡ j → preview_call img bytes k ≡ rules_of (seen (found_in k (listing img)) k es) j
    unfolding list_of keys_of
    by-rules j e = preview-sound k ∙ rw (whole-list bytes es w, true-key_ok k low high, e)

    shows : AllKept es (table img) → Shows img bytes (find k (apply_edits es (table img))) (preview_call img bytes k)
    unfolding rules_of
    shows kept = subst (Shows img bytes (find k (apply_edits es (table img)))) (sym (by-rules (Ok tt) (kept-keys 0 es (wholly (table img)) kept))) (sound-shows img bytes h k es w.reads kept)

    -- where image, list and the key asked are not refused, a refusal is the first edit's whose rule is broken
    pub refused-broken : (r : Refusal) → preview_call img bytes k ≡ Err r → FirstBroken es (table img) (number_in r) r.edit
    unfolding rules_of
    refused-broken r q = go (keys_from 0 es (wholly (table img))) refl
      where
        go : (j : Answer) → keys_from 0 es (wholly (table img)) ≡ j → FirstBroken es (table img) (number_in r) r.edit
        go (Ok done) e = absurd (subst (Shows img bytes (find k (apply_edits es (table img)))) q (shows (keys_kept es (wholly (table img)) e)))
        go (Err s) e =
            let same : s ≡ r = cc (by-rules (Err s) e, q) in
            subst (λ (x : Refusal). FirstBroken es (table img) (number_in x) x.edit) same (keys-fault es (wholly (table img)) s e)

    pub broken-refused : (n i : ℕ) → FirstBroken es (table img) n i → preview_call img bytes k ≡ Err (refusal_at n i)
    unfolding rules_of
    broken-refused n i f = by-rules (Err (refusal_at n i)) (fault-keys es (wholly (table img)) n i f)

-- demand 2: "The part is exactly the value that the table would then hold"
pub preview-exact : (img bytes : List ℕ) (k : ℕ) (es : List Edit) → AskedSound img bytes k es → previewed img bytes (preview_call img bytes k) ≡ held (find k (apply_edits es (table img)))
preview-exact img bytes k es A =
    shows-held img bytes (preview_call img bytes k) (find k (apply_edits es (table img)))
    (shows img bytes (check_sound img A.checked) k es A.whole A.low A.high A.kept)

-- what a lookup in a sound image comes to is what the table holds
pub lookup-exact : (img : List ℕ) → sound img ≡ true → (k : ℕ) → key_ok k ≡ true → looked_up img (lookup_call img k) ≡ held (find k (table img))
unfolding looked_up held
lookup-exact img h k q = go (find k (table img)) refl
  where
    go : (x : Option (List ℕ)) → find k (table img) ≡ x → looked_up img (lookup_call img k) ≡ held x
    go (Some v) e = let f = lookup-value img (sound-check img h) k v e in ap (looked_up img) f.2 ∙ ap (λ (l : List ℕ). held (Some l)) f.3
    go None e = ap (looked_up img) (lookup-none img (sound-check img h) k q e)
