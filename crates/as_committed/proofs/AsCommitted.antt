-- A preview is what a lookup answers once the list is committed, and it is refused as the transaction is.
-- Assumes nothing.
use Rattle.std.specs.Prelude.{Err, Ok}
use Prim.Native.Nat.{ℕ, ◌≤◌, ◌<◌}
use mathlib.Core.Path.{◌≡◌, refl, sym, ap, ◌∙◌, subst}
use mathlib.Core.Logic.{◌⊎◌, inl, inr}
use mathlib.Core.Bool.{Bool, true, false}
use mathlib.Core.List.{List, [], ◌∷◌, ◌++◌, append_assoc}
use native.Mathlib.Omega.{arith}
use lib.ListN.{length, length-append}
use lib.Dec.{leb, eqb}
use borrow.Author.Tests.{leb-true, leb-false, eqb-true, eqb-false}
use Rattle.codec.specs.Lists.{All}
use Rattle.device.specs.Calls.{is_image_size, refusal, number_in, refusal_at}
use Rattle.device.specs.declared.Refusal.{Refusal}
use Rattle.page.specs.Layout.{Rec}
use Rattle.device.proofs.Causes.{number-caused, number-same}
use Rattle.image.specs.PageZero.{root_of}
use Rattle.image.specs.Table.{table, find}
use Rattle.image.specs.Calls.{check_call, key_ok, lookup_call}
use Rattle.image.specs.Says.{NotOpened, bad-size}
use Rattle.image.proofs.KeyRange.{key_ok-true, key_ok-false}
use Rattle.image.proofs.Answers.{sound-check, check_sound, sound-opened, lookup-range}
use Rattle.image.proofs.Whole.{check-refused}
use Rattle.edit.specs.EditList.{Edit, listed, edits_of, edit_list}
use Rattle.edit.specs.Reads.{Proper, Whole, ListFault}
use Rattle.edit.specs.Keys.{AllKept, FirstBroken}
use Rattle.edit.proofs.Keys.{kept-broken, broken-later}
use Rattle.edit.proofs.Parsing.{list-whole, list-proper}
use Rattle.journal.specs.declared.Commit.{Commit}
use Rattle.preview.specs.Calls.{preview_call}
use Rattle.preview.specs.Says.{previewed, looked_up, held}
use Rattle.preview.specs.Answers.{AskedSound, bad-image, bad-list, bad-key}
use Rattle.preview.proofs.Answers.{answers-preview, preview-exact, refused-broken, broken-refused, lookup-exact}
use Rattle.journal.specs.declared.Way.{Way}
use Rattle.transaction.specs.Calls.{Called, refused_with, accepted_with, transaction_call}
use Rattle.transaction.specs.Demand2.{Makes}
use Rattle.transaction.specs.Answers as transactions
use Rattle.transaction.proofs.Answers.{refused-is, Acceptance, call-answers, call-accepted}
use Rattle.transaction.proofs.Demand2.{demand-2}
use Rattle.tree.specs.State.{State}
use Rattle.tree.specs.Whole.{finished, edits_on}
use Rattle.tree.specs.Grounds.{Grounds}
use Rattle.tree.proofs.Runs.{grounds-refuse}
use Rattle.tree.proofs.Numbers.{edits-numbered}
use Rattle.tree.proofs.Keys.{edits-kept, grounds-broken, grounds-kept}
use Rattle.as_committed.specs.Claims.{AsCommitted, RefusedAlike, RefusedSo, RefusedToo}

-- ---- accepted

module _ (way : Way) (a work tape bytes : List ℕ) (c : Commit) (e : (transaction_call way a work tape bytes).answer ≡ Ok c) (k : ℕ) where
  abbrev w : List ℕ
  w = (transaction_call way a work tape bytes).work

  abbrev es : List Edit
  es = edits_of (edit_list bytes)

  made : Acceptance way a work tape bytes
  made = call-accepted way a work tape bytes c e

  M : Makes a tape bytes c (transaction_call way a work tape bytes)
  M = demand-2 way a work tape bytes c e

  checked : check_call a ≡ Ok tt
  checked = made.begun.checked

  whole : Whole bytes es
  whole = list-whole bytes es M.reads

  in-range : key_ok k ≡ true → previewed a bytes (preview_call a bytes k) ≡ looked_up w (lookup_call w k)
  in-range q =
      let r = key_ok-true k q in
      let same : made.list ≡ es = sym (ap edits_of made.done.reads) in
      let kept = edits-kept a M.was_sound made.list (list-proper bytes made.list made.done.reads) made.state made.done.makes in
      let A : AskedSound a bytes k es = record { checked = checked; whole = whole; low = r.0; high = r.1; kept = subst (λ (l : List Edit). AllKept l (table a)) same kept } in
      preview-exact a bytes k es A ∙ ap (λ (t : List Rec). held (find k t)) (sym M.is_table) ∙ sym (lookup-exact w M.is_sound k q)

  out_of_range : key_ok k ≡ false → previewed a bytes (preview_call a bytes k) ≡ looked_up w (lookup_call w k)
  unfolding previewed looked_up
  out_of_range q =
      ap (previewed a bytes) (answers-preview a bytes k _ (bad-key (root_of a) (sound-opened a M.was_sound) es whole (key_ok-false k q)))
      ∙ sym (ap (looked_up w) (lookup-range w (sound-check w M.is_sound) k q))

  either : previewed a bytes (preview_call a bytes k) ≡ looked_up w (lookup_call w k)
  either = go (key_ok k) refl
    where
      go : (b : Bool) → key_ok k ≡ b → previewed a bytes (preview_call a bytes k) ≡ looked_up w (lookup_call w k)
      go true q = in-range q
      go false q = out_of_range q

pub as-committed : AsCommitted
as-committed = either

-- ---- refused

-- a number up to 11 that is not one of 10 to 13
not-room : (n : ℕ) → n ≤ 11 → (10 ≤ n → 13 < n) → n ≤ 9
not-room n most room = go (leb n 9) refl
  where
    go : (b : Bool) → leb n 9 ≡ b → n ≤ 9
    go true e = leb-true n 9 e
    go false e = absurd (omega (arith, room (leb-false n 9 e)))

module _ (a work tape bytes : List ℕ) (k : ℕ) (low : 1 ≤ k) (high : k ≤ 999999999999) where
  -- each ground of the transaction that is one of the preview's too
  size-alike : is_image_size (length a) ≡ false → preview_call a bytes k ≡ Err (refusal 1)
  size-alike z = answers-preview a bytes k _ (bad-image (refusal 1) (bad-size z))

  image-alike : (r : Refusal) → check_call a ≡ Err r → (number_in r ≡ 4 → NotOpened a r) → preview_call a bytes k ≡ Err r
  image-alike r c other = go (check-refused a r c)
    where
      go : NotOpened a r ⊎ (refusal_at 4 0 ≡ r) → preview_call a bytes k ≡ Err r
      go (inl n) = answers-preview a bytes k _ (bad-image r n)
      go (inr e) = answers-preview a bytes k _ (bad-image r (other (ap (λ (x : Refusal). number_in x) (sym e))))

  list-alike : check_call a ≡ Ok tt → (n i : ℕ) → ListFault bytes n i → preview_call a bytes k ≡ Err (refusal_at n i)
  list-alike c n i f = answers-preview a bytes k _ (bad-list (root_of a) (sound-opened a (check_sound a c)) n i f)

  edit-alike : check_call a ≡ Ok tt → (es : List Edit) → edit_list bytes ≡ listed es → (n i : ℕ) → 8 ≤ n → n ≤ 9 → Grounds a es n i → preview_call a bytes k ≡ Err (refusal_at n i)
  edit-alike c es reads n i eight nine G =
      broken-refused a bytes (check_sound a c) k es (list-whole bytes es reads) low high n i (grounds-broken a (check_sound a c) es (list-proper bytes es reads) n i G eight nine)

  -- the number of an edit that cannot be made
  edit-most : check_call a ≡ Ok tt → (es : List Edit) → edit_list bytes ≡ listed es → (n i : ℕ) → 8 ≤ n → Grounds a es n i → n ≤ 11
  edit-most c es reads n i eight G = (edits-numbered a es n i (grounds-refuse a (check_sound a c) es (list-proper bytes es reads) n i G (λ z. omega arith))).1

  alike : (way : Way) (r : Refusal) → (10 ≤ number_in r → 13 < number_in r) → (number_in r ≡ 2 → ⊥) → (number_in r ≡ 4 → NotOpened a r) → (x : Called) → transactions.Answers way a work tape bytes x → x.answer ≡ Err r → preview_call a bytes k ≡ Err r
  unfolding accepted_with
  alike way r room other opens _ (transactions.bad-size z) q = size-alike z ∙ ap Err (refused-is 1 0 work tape r q)
  alike way r room other opens _ (transactions.bad-work _ _) q = absurd (other (ap (λ (x : Refusal). number_in x) (sym (refused-is 2 0 work tape r q))))
  alike way r room other opens _ (transactions.bad-image _ _ s c) q = let z : s ≡ r = cc in image-alike s c (λ e. subst (NotOpened a) (sym z) (opens (ap (λ (x : Refusal). number_in x) (sym z) ∙ e))) ∙ ap Err z
  alike way r room other opens _ (transactions.bad-list B n i f) q = list-alike B.checked n i f ∙ ap Err (refused-is n i work tape r q)
  alike way r room other opens _ (transactions.bad-edit B es reads n i eight G) q =
      let z = refused-is n i a tape r q in
      let most = edit-most B.checked es reads n i eight G in
      let nine : n ≤ 9 = not-room n most (subst (λ (m : ℕ). 10 ≤ m → 13 < m) (sym (number-same n i r (omega arith) (omega arith) z).0) room) in
      edit-alike B.checked es reads n i eight nine G ∙ ap Err z
  alike way r room other opens _ (transactions.no-log _ _ _ _ _) q = let same = ap (λ (x : Refusal). number_in x) (refused-is 12 0 a tape r q) in absurd (omega (arith, room (omega (arith, same)), same))
  alike way r room other opens _ (transactions.no-tape _ _ _ _ _ _) q = let same = ap (λ (x : Refusal). number_in x) (refused-is 13 0 a tape r q) in absurd (omega (arith, room (omega (arith, same)), same))
  alike way r room other opens _ (transactions.accepted _ _ _ _ _ _) q = let z : ◌≡◌ {A = ℕ} 0 1 = cc in absurd (omega arith)

pub refused-alike : RefusedAlike
refused-alike way a work tape bytes r e room other opens k low high = alike a work tape bytes k low high way r (λ ten. room (omega (arith, ten))) other opens (transaction_call way a work tape bytes) (call-answers way a work tape bytes) e

-- ---- and the other way

module _ (a work tape bytes : List ℕ) (same : length work ≡ length a) (k : ℕ) (low : 1 ≤ k) (high : k ≤ 999999999999) (r : Refusal) (q : preview_call a bytes k ≡ Err r) where
  so : (s : Refusal) → preview_call a bytes k ≡ Err s → RefusedSo a r (Err s)
  so s p = let z : s ≡ r = cc (p, q) in (s, refl, inl z)

  module _ (c : check_call a ≡ Ok tt) (es : List Edit) (reads : edit_list bytes ≡ listed es) where
    proper : All Proper es
    proper = list-proper bytes es reads

    first : FirstBroken es (table a) (number_in r) r.edit
    first = refused-broken a bytes (check_sound a c) k es (list-whole bytes es reads) low high r q

    -- edits that are made keep their rules
    not_made : (st : State) → edits_on a es ≡ finished st → ⊥
    not_made st m = kept-broken es (table a) (edits-kept a (check_sound a c) es proper st m) (number_in r) r.edit first

    -- an edit with too little room keeps its rule, as those before it do: the broken one is a later edit's
    later : (n i : ℕ) → 10 ≤ n → Grounds a es n i → i < r.edit
    later n i ten G =
        let kept = grounds-kept a (check_sound a c) es proper n i G ten in
        let shape : es ≡ (G.before ++ G.culprit ∷ []) ++ G.rest = G.shape ∙ sym (append_assoc G.before (G.culprit ∷ []) G.rest) in
        let past = broken-later (G.before ++ G.culprit ∷ []) G.rest (table a) kept (number_in r) r.edit (subst (λ (l : List Edit). FirstBroken l (table a) (number_in r) r.edit) shape first) in
        omega (arith, past, G.number, length-append G.before (G.culprit ∷ []))

    edit-refuses : (n i : ℕ) → 8 ≤ n → Grounds a es n i → RefusedSo a r (Err (refusal_at n i))
    edit-refuses n i eight G = go (leb n 9) refl
      where
        most : n ≤ 11
        most = edit-most a work tape bytes k low high c es reads n i eight G

        go : (b : Bool) → leb n 9 ≡ b → RefusedSo a r (Err (refusal_at n i))
        go true e = so _ (edit-alike a work tape bytes k low high c es reads n i eight (leb-true n 9 e) G)
        go false e =
            let ten = leb-false n 9 e in
            let same = number-caused n (omega (arith, eight)) (omega (arith, most)) in
            (_, refl, inr (inl (omega (arith, same, ten), omega (arith, same, most), later n i ten G)))

  -- 1 and 3 come first in both; 4 may be for a page that the preview does not come to
  image-refuses : (s : Refusal) → check_call a ≡ Err s → RefusedSo a r (Err s)
  image-refuses s c = go (eqb (number_in s) 4) refl
    where
      go : (b : Bool) → eqb (number_in s) 4 ≡ b → RefusedSo a r (Err s)
      go true e = (s, refl, inr (inr (eqb-true (number_in s) 4 e, c)))
      go false e = so s (image-alike a work tape bytes k low high s c (λ four. absurd (eqb-false (number_in s) 4 e four)))

  refuses : (way : Way) (x : Called) → transactions.Answers way a work tape bytes x → RefusedSo a r x.answer
  unfolding refused_with
  refuses way _ (transactions.bad-size z) = so _ (size-alike a work tape bytes k low high z)
  refuses way _ (transactions.bad-work _ other) = absurd (other same)
  refuses way _ (transactions.bad-image _ _ s c) = image-refuses s c
  refuses way _ (transactions.bad-list B n i f) = so _ (list-alike a work tape bytes k low high B.checked n i f)
  refuses way _ (transactions.bad-edit B es reads n i eight G) = edit-refuses B.checked es reads n i eight G
  refuses way _ (transactions.no-log B es st D _) = absurd (not_made B.checked es D.reads st D.makes)
  refuses way _ (transactions.no-tape B es st D _ _) = absurd (not_made B.checked es D.reads st D.makes)
  refuses way _ (transactions.accepted B es st D _ _) = absurd (not_made B.checked es D.reads st D.makes)

pub refused-too : RefusedToo
refused-too way a work tape bytes same k low high r q = refuses a work tape bytes same k low high r q way (transaction_call way a work tape bytes) (call-answers way a work tape bytes)
