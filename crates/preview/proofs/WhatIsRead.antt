-- What is read decides, and nothing else, for the three calls by one law: two images that agree on it give the same reply.
-- Assumes nothing.
use Rattle.std.specs.Prelude.{Err, None, Ok, Option, Result, Some}
use Prim.Native.Nat.{ℕ, suc, ◌+◌, ◌*◌}
use mathlib.Core.Path.{◌≡◌, refl, sym, ap, ap₂, ◌∙◌, subst}
use mathlib.Core.Bool.{Bool, true, false, ◌||◌}
use mathlib.Core.List.{List, [], ◌∷◌, ◌++◌, map, append_assoc}
use native.Mathlib.Omega.{arith}
use lib.ListN.{length}
use lib.Dec.{eqb}
use borrow.Author.Tests.{ne_eqb}
use Rattle.preview.specs.declared.Preview.{Preview}
use Rattle.device.specs.declared.Refusal.{Refusal}
use Rattle.image.specs.declared.Part.{Part}
use Rattle.codec.specs.Lists.{part, pick, All}
use Rattle.codec.proofs.Tests.{All-map}
use Rattle.device.specs.Calls.{refusal, Answer}
use Rattle.page.specs.Layout.{page_size, line_size, Rec}
use Rattle.page.specs.Operations.{page_of, put_page}
use Rattle.page.proofs.Images.{put-length, put_other}
use Rattle.image.specs.PageZero.{page_count, is_page}
use Rattle.image.specs.Table.{find}
use Rattle.image.specs.Descent.{root_read, nodes_after, records_for}
use Rattle.image.specs.Calls.{root_call, index_call, key_ok}
use Rattle.image.specs.WhatIsRead.{ReadAlike, pages_for}
use Rattle.image.proofs.General.{part-part, All-left}
use Rattle.image.proofs.Zero.{is_page-true}
use Rattle.image.proofs.Values.{page-fits}
use Rattle.image.proofs.KeyRange.{true-key_ok}
use Rattle.image.proofs.Parts.{some-injective}
use Rattle.image.proofs.Read.{opened-call, call-opened}
use Rattle.image.proofs.WhatIsRead.{for-append, lookup-after-alike, records-after-alike, index-alike, index-page, lookup-reads, value-reads, next-reads}
use Rattle.edit.specs.EditList.{Edit, key_of, edit_bytes, Listed, listed, faulty, edit_list}
use Rattle.edit.specs.Keys.{Source, made, keys_from, keys_read, AllKeptBy}
use Rattle.edit.proofs.Parsing.{whole-list}
use Rattle.edit.proofs.Keys.{kept-fault, kept-keys, keys_kept, SameFor, AllAlike, keys-same}
use Rattle.preview.specs.Calls.{in_image, brings, seen_from, seen, rules_of, keys_of, list_of, stored_after, opened_of, preview_call, part_of, preview_value_call}
use Rattle.preview.specs.Answers.{NoEdit, Asked, Answers, bad-image, bad-list, bad-key, bad-edit, in_list, deleted, bad-way, of_image, missing}
use Rattle.preview.specs.WhatIsRead.{has_edit, last_read, list_reads, preview_reads, Asking, lookup, next_key, preview, looked, next, reply_to, keys_for}
use Rattle.preview.specs.WhatIsRead as replies
use Rattle.preview.proofs.ReadAgain.{records-steady}
use Rattle.preview.proofs.Shown.{value-read}
use Rattle.preview.proofs.Answers.{preview-answers}

-- ---- an edit of the key hides what the image holds

hidden : (k at : ℕ) (x y : Result (Option Preview) Refusal) (es : List Edit) → has_edit k es ≡ true → seen_from k at x es ≡ seen_from k at y es
unfolding has_edit seen_from
hidden k at x y [] h = let z : ◌≡◌ {A = ℕ} 0 1 = cc in absurd (omega arith)
hidden k at x y (e ∷ es) h = go (eqb (key_of e) k) h (λ g. hidden k (at + length (edit_bytes e)) x y es g)
  where
    go : (t : Bool) → (t || has_edit k es) ≡ true → (has_edit k es ≡ true → seen_from k (at + length (edit_bytes e)) x es ≡ seen_from k (at + length (edit_bytes e)) y es) →
        seen_from k (at + length (edit_bytes e)) (pick t (brings at e) x) es ≡ seen_from k (at + length (edit_bytes e)) (pick t (brings at e) y) es
    go true g f = refl
    go false g f = f g

no-edit-has : (k : ℕ) (es : List Edit) → NoEdit k es → has_edit k es ≡ false
unfolding has_edit
no-edit-has k [] h = refl
no-edit-has k (e ∷ es) h = rw (ne_eqb (key_of e) k h.0) (no-edit-has k es h.1)

-- ---- the preview

same-for : (k : ℕ) (o p : Option (List Rec)) → o ≡ p → SameFor k o p
same-for k o p e = subst (SameFor k o) e (itself o)
  where
    itself : (x : Option (List Rec)) → SameFor k x x
    itself None = tt
    itself (Some t) = refl

-- where nothing is refused, every edit's key is looked for
all-read : (i : ℕ) (es : List Edit) (s : Source) → AllKeptBy es s → keys_read i es s ≡ map key_of es
unfolding keys_read
all-read i [] s h = refl
all-read i (e ∷ es) s h = rw (kept-fault i e (s [] (key_of e)) h.0) (ap (λ (l : List ℕ). key_of e ∷ l) (all-read (suc i) es (made e s) h.1))

module _ (a b bytes : List ℕ) (k : ℕ) (R : ReadAlike a b (preview_reads a bytes k)) where
  -- the pages on the way of the keys ks under the root are the same
  abbrev Same : ℕ → List ℕ → Type 0
  Same root ks = All (λ (q : ℕ). page_of b q ≡ page_of a q) (pages_for a root (root_read root) ks)

  module _ (root : ℕ) (e : index_call a ≡ Ok root) where
    page : page_of b root ≡ page_of a root
    page = index-page a b (preview_reads a bytes k) R root e

    -- those of the first keys
    first-part : (ks js : List ℕ) → Same root (ks ++ js) → Same root ks
    first-part ks js h =
        All-left (λ (q : ℕ). page_of b q ≡ page_of a q) (pages_for a root (root_read root) ks) (pages_for a root (nodes_after a root (root_read root) ks) js)
        (subst (All (λ (q : ℕ). page_of b q ≡ page_of a q)) (for-append a b R.size root page ks js (root_read root)) h)

    all-alike : (ks js : List ℕ) → Same root (ks ++ js) → AllAlike (records_for a root) (records_for b root) ks js
    all-alike ks [] h = tt
    all-alike ks (j ∷ js) h =
        let on : Same root ((ks ++ j ∷ []) ++ js) = subst (Same root) (sym (append_assoc ks (j ∷ []) js)) h in
        (same-for j (records_for a root ks j) (records_for b root ks j) (sym (records-after-alike a b R.size root page ks j (first-part (ks ++ j ∷ []) js on))), all-alike (ks ++ j ∷ []) js on)

    rules-alike : (es : List Edit) → Same root (keys_read 0 es (records_for a root)) → keys_from 0 es (records_for b root) ≡ keys_from 0 es (records_for a root)
    rules-alike es h =
        sym (keys-same 0 es (records_for a root) (records_for b root) (records-steady a root) (records-steady b root) (all-alike [] (keys_read 0 es (records_for a root)) h))

    seen_alike : (es : List Edit) (t : Bool) → has_edit k es ≡ t → Same root (map key_of es ++ pick t [] (k ∷ [])) →
        seen (stored_after b root k (map key_of es)) k es ≡ seen (stored_after a root k (map key_of es)) k es
    unfolding seen stored_after
    seen_alike es true c h = hidden k 0 (in_image (stored_after b root k (map key_of es))) (in_image (stored_after a root k (map key_of es))) es c
    seen_alike es false c h = ap (λ (x : Result (Option Part) Refusal). seen_from k 0 (in_image x) es) (lookup-after-alike a b R.size root page (map key_of es) k h)

    -- the keys that are looked for, where nothing is refused
    kept-read : (es : List Edit) → keys_from 0 es (records_for a root) ≡ Ok tt → keys_read 0 es (records_for a root) ≡ map key_of es
    kept-read es q = all-read 0 es (records_for a root) (keys_kept es (records_for a root) q)

    judged-alike : (es : List Edit) (j : Answer) → keys_from 0 es (records_for a root) ≡ j → Same root (keys_read 0 es (records_for a root) ++ last_read k es j) →
        rules_of (seen (stored_after b root k (map key_of es)) k es) j ≡ rules_of (seen (stored_after a root k (map key_of es)) k es) j
    unfolding last_read rules_of
    judged-alike es (Err r) q h = refl
    judged-alike es (Ok done) q h =
        seen_alike es (has_edit k es) refl (subst (λ (l : List ℕ). Same root (l ++ pick (has_edit k es) [] (k ∷ []))) (kept-read es q) h)

    list-alike : (l : Listed) → Same root (list_reads (records_for a root) k l) → list_of (records_for b root) (stored_after b root k) k l ≡ list_of (records_for a root) (stored_after a root k) k l
    unfolding list_of keys_of list_reads
    list-alike (faulty n i) h = refl
    list-alike (listed es) h = go (key_ok k) h
      where
        ks : List ℕ
        ks = keys_read 0 es (records_for a root)

        j : Answer
        j = keys_from 0 es (records_for a root)

        go : (t : Bool) → Same root (pick t (keys_read 0 es (records_for a root) ++ last_read k es (keys_from 0 es (records_for a root))) []) →
            pick t (rules_of (seen (stored_after b root k (map key_of es)) k es) (keys_from 0 es (records_for b root))) (Err (refusal 6)) ≡
            pick t (rules_of (seen (stored_after a root k (map key_of es)) k es) (keys_from 0 es (records_for a root))) (Err (refusal 6))
        go true g =
            ap (rules_of (seen (stored_after b root k (map key_of es)) k es)) (rules-alike es (first-part ks (last_read k es j) g))
            ∙ judged-alike es j refl g
        go false g = refl

  pub preview-reads : preview_call b bytes k ≡ preview_call a bytes k
  unfolding preview_call opened_of preview_reads
  preview-reads = ap (opened_of b bytes k) (index-alike a b (preview_reads a bytes k) R) ∙ go (index_call a) refl
    where
      go : (x : Result ℕ Refusal) → index_call a ≡ x → opened_of b bytes k x ≡ opened_of a bytes k x
      go (Err r) e = refl
      go (Ok root) e = list-alike root e (edit_list bytes) (R.pages root e)

  -- ---- its companion

  -- where the value is the image's, its leaf is read
  module _ (root : ℕ) (es : List Edit) (A : Asked a bytes k root es) (h : NoEdit k es) where
    abbrev opens : index_call a ≡ Ok root
    opens = opened-call a root A.opened

    keys-read : Same root (map key_of es ++ k ∷ [])
    unfolding preview_reads list_reads last_read
    keys-read =
        let g = R.pages root opens in
        let f = rw (whole-list bytes es A.whole, true-key_ok k A.low A.high, kept-keys 0 es (records_for a root) A.kept, no-edit-has k es h) at g in
        subst (λ (l : List ℕ). Same root (l ++ k ∷ [])) (all-read 0 es (records_for a root) A.kept) f

    pub value_same : (o n : ℕ) → stored_after a root k (map key_of es) ≡ Ok (Some (record { offset = o; length = n })) → part b o n ≡ part a o n
    unfolding stored_after
    value_same o n q =
        let ks = map key_of es in
        let same = page root opens in
        let ob = call-opened b root (index-alike a b (preview_reads a bytes k) R ∙ opens) in
        let x = value-read a bytes k root A.opened ks o n q in
        let y = value-read b bytes k root ob ks o n (lookup-after-alike a b R.size root same ks k keys-read ∙ q) in
        let recs : y.0 ≡ x.0 = some-injective y.0 x.0 (sym y.1 ∙ records-after-alike a b R.size root same ks k keys-read ∙ x.1) in
        some-injective (part b o n) (part a o n) (sym y.2 ∙ ap (find k) recs ∙ x.2)

  pub preview-value-reads : preview_value_call b bytes k ≡ preview_value_call a bytes k
  unfolding preview_value_call part_of
  preview-value-reads = ap (part_of b bytes) preview-reads ∙ go (preview_call a bytes k) preview-answers-a
    where
      preview-answers-a : Answers a bytes k (preview_call a bytes k)
      preview-answers-a = preview-answers a bytes k

      go : (x : Result (Option Preview) Refusal) → Answers a bytes k x → part_of b bytes x ≡ part_of a bytes x
      go _ (of_image root es A h o n e) = value_same root es A h o n e
      go _ (bad-image r n) = refl
      go _ (bad-list root o n i f) = refl
      go _ (bad-key root o es w q) = refl
      go _ (bad-edit root o es w low high n i f) = refl
      go _ (in_list root es A l v q) = refl
      go _ (deleted root es A l q) = refl
      go _ (bad-way root es A h u) = refl
      go _ (missing root es A h q) = refl

-- ---- one law for the three calls

pub read-decides : (q : Asking) (a b : List ℕ) → ReadAlike a b (keys_for q a) → reply_to q b ≡ reply_to q a
unfolding reply_to keys_for
read-decides (lookup k) a b R = ap₂ looked (lookup-reads a b k R) (value-reads a b k R)
read-decides (next_key k) a b R = ap next (next-reads a b k R)
read-decides (preview bytes k) a b R = ap₂ replies.seen (preview-reads a b bytes k R) (preview-value-reads a b bytes k R)

-- "One bad leaf shouldn't blank the screen": whatever is put in a page that is not read
module _ (q : Asking) (a : List ℕ) (n : ℕ) (p : List ℕ) (long : length p ≡ page_size) (page : is_page (page_count a) n ≡ true) where
  first-line : part (put_page a n p) 0 line_size ≡ part a 0 line_size
  unfolding page_of
  first-line =
      let k = is_page-true (page_count a) n page in
      sym (part-part (put_page a n p) (page_size * 0) page_size 0 line_size (omega arith))
      ∙ ap (λ (l : List ℕ). part l 0 line_size) (put_other a p n long (page-fits a n page) 0 (λ e. omega arith))
      ∙ part-part a (page_size * 0) page_size 0 line_size (omega arith)

  pub elsewhere : ((root : ℕ) → root_call a ≡ Ok root → n ≡ root → ⊥) →
      ((root : ℕ) → index_call a ≡ Ok root → All (λ (x : ℕ). n ≡ x → ⊥) (pages_for a root (root_read root) (keys_for q a root))) → reply_to q (put_page a n p) ≡ reply_to q a
  elsewhere index pages =
      let other = put_other a p n long (page-fits a n page) in
      read-decides q a (put_page a n p) (record {
        size = put-length a p n long (page-fits a n page);
        line = first-line;
        index = λ root e. other root (index root e);
        pages = λ root e. All-map (λ (x : ℕ). n ≡ x → ⊥) (λ (x : ℕ). page_of (put_page a n p) x ≡ page_of a x) (λ x h. other x h) (pages_for a root (root_read root) (keys_for q a root)) (pages root e);
      })
