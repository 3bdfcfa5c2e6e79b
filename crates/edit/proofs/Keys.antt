-- The key rules: the number is that of the broken rule and of no other, the first edit that is refused decides, what a table then holds for the
-- edit's own key and for any other, and that of what is read for a key only what is found there decides.
-- Assumes nothing.
use Rattle.std.specs.Prelude.{Err, None, Ok, Option, Some}
use Prim.Native.Nat.{ℕ, suc, ◌+◌, ◌≤◌}
use mathlib.Core.Path.{◌≡◌, refl, sym, ap, ◌∙◌, subst}
use mathlib.Core.Bool.{Bool, true, false}
use mathlib.Core.List.{List, [], ◌∷◌, ◌++◌}
use native.Mathlib.Omega.{arith}
use lib.ListN.{length}
use lib.Dec.{eqb}
use borrow.Author.Tests.{ne_eqb, eqb-true, eqb-false}
use Rattle.device.specs.Calls.{cause_number, cause_of, Answer, number_in, refusal_at}
use Rattle.codec.specs.Lists.{pick}
use Rattle.device.specs.declared.Refusal.{Refusal}
use Rattle.page.specs.Layout.{Rec}
use Rattle.image.specs.Table.{find}
use Rattle.edit.specs.EditList.{Edit, insert, update, delete, key_of}
use Rattle.edit.specs.Ledger.{apply_edit, apply_edits}
use Rattle.edit.specs.Keys.{is_some, holds, key_rule, Source, wholly, made_in, made, made_all, key_fault, or_fault, keys_from, on_if_good, keys_read}
use Rattle.edit.specs.Keys.{Kept, Broken, present, no-update, no-delete, KeptIn, AllKeptBy, FaultIn, untrusted, rule, FirstFault, AllKept, FirstBroken}
use Rattle.edit.proofs.General.{by-test}
use Rattle.edit.proofs.Ledger.{find-lacks, find-add-same, find-replace-same, find-without-same, find-add-other, find-replace-other, find-without-other}

-- ---- whether a table holds a key

pub found_some : (o : Option (List ℕ)) → (o ≡ None → ⊥) → is_some o ≡ true
found_some None h = absurd (h refl)
found_some (Some v) h = refl

some-found : (o : Option (List ℕ)) → is_some o ≡ true → o ≡ None → ⊥
some-found None h e = let z : ◌≡◌ {A = ℕ} 0 1 = cc in omega arith
some-found (Some v) h e = let z : ◌≡◌ {A = ℕ} 0 1 = cc in omega arith

not_some : (o : Option (List ℕ)) → is_some o ≡ false → o ≡ None
not_some None h = refl
not_some (Some v) h = let z : ◌≡◌ {A = ℕ} 0 1 = cc in absurd (omega arith)

module _ (k : ℕ) (t : List Rec) where
  pub found-holds : (find k t ≡ None → ⊥) → holds k t ≡ true
  unfolding holds
  found-holds = found_some (find k t)

  pub missing-holds : find k t ≡ None → holds k t ≡ false
  unfolding holds
  missing-holds e = ap is_some e

  pub holds-found : holds k t ≡ true → find k t ≡ None → ⊥
  unfolding holds
  holds-found = some-found (find k t)

  pub holds-missing : holds k t ≡ false → find k t ≡ None
  unfolding holds
  holds-missing = not_some (find k t)

-- ---- one edit

pub kept_rule : (e : Edit) (t : List Rec) → Kept e t → key_rule e t ≡ 0
unfolding key_rule
kept_rule (insert k v) t h = rw (missing-holds k t h)
kept_rule (update k v) t h = rw (found-holds k t h)
kept_rule (delete k) t h = rw (found-holds k t h)

pub broken-rule : (e : Edit) (t : List Rec) (n : ℕ) → Broken e t n → key_rule e t ≡ n
unfolding key_rule
broken-rule _ _ _ (present k v t h) = rw (found-holds k t h)
broken-rule _ _ _ (no-update k v t h) = rw (missing-holds k t h)
broken-rule _ _ _ (no-delete k t h) = rw (missing-holds k t h)

-- its number is that of a cause
broken-caused : (e : Edit) (t : List Rec) (n : ℕ) → Broken e t n → cause_number (cause_of n) ≡ n
broken-caused _ _ _ (present k v t h) = refl
broken-caused _ _ _ (no-update k v t h) = refl
broken-caused _ _ _ (no-delete k t h) = refl

-- 8 or 9, and no other number
pub broken-number : (e : Edit) (t : List Rec) (n : ℕ) → Broken e t n → (n ≡ 8 → ⊥) → (n ≡ 9 → ⊥) → ⊥
broken-number _ _ _ (present k v t h) x y = x refl
broken-number _ _ _ (no-update k v t h) x y = y refl
broken-number _ _ _ (no-delete k t h) x y = y refl

pub broken-some : (e : Edit) (t : List Rec) (n : ℕ) → Broken e t n → n ≡ 0 → ⊥
broken-some e t n b z = broken-number e t n b (λ q. omega arith) (λ q. omega arith)

-- kept, or broken with the number that is said
pub data Ruled (e : Edit) (t : List Rec) : ℕ → Type 0 where
  kept : Kept e t → Ruled e t 0
  broken : (n : ℕ) → Broken e t n → Ruled e t n

pub rule-says : (e : Edit) (t : List Rec) → Ruled e t (key_rule e t)
unfolding key_rule
rule-says (insert k v) t = by-test (Ruled (insert k v) t) (holds k t) (λ e. broken 8 (present k v t (holds-found k t e))) (λ e. kept (holds-missing k t e))
rule-says (update k v) t = by-test (Ruled (update k v) t) (holds k t) (λ e. kept (holds-found k t e)) (λ e. broken 9 (no-update k v t (holds-missing k t e)))
rule-says (delete k) t = by-test (Ruled (delete k) t) (holds k t) (λ e. kept (holds-found k t e)) (λ e. broken 9 (no-delete k t (holds-missing k t e)))

-- ---- one edit, by what is read for its key

module _ (i : ℕ) (e : Edit) where
  pub kept-fault : (o : Option (List Rec)) → KeptIn e o → key_fault i e o ≡ Ok tt
  unfolding key_fault
  kept-fault None h = absurd h
  kept-fault (Some t) h = rw (kept_rule e t h)

  in-fault : (o : Option (List Rec)) (n j : ℕ) → FaultIn e i o n j → key_fault i e o ≡ Err (refusal_at n j)
  unfolding key_fault
  in-fault _ _ _ untrusted = refl
  in-fault _ _ _ (rule t n b) = rw (broken-rule e t n b, ne_eqb n 0 (broken-some e t n b))

  -- what the answer says of what is read
  abbrev pub FaultSays : Option (List Rec) → Answer → Type 0
  FaultSays o (Ok done) = KeptIn e o
  FaultSays o (Err r) = FaultIn e i o (number_in r) r.edit

  pub fault-says : (o : Option (List Rec)) → FaultSays o (key_fault i e o)
  unfolding key_fault
  fault-says None = untrusted
  fault-says (Some t) = go (key_rule e t) (rule-says e t)
    where
      go : (n : ℕ) → Ruled e t n → FaultSays (Some t) (pick (eqb n 0) (Ok tt) (Err (refusal_at n i)))
      go _ (kept h) = h
      go _ (broken n b) = rw (ne_eqb n 0 (broken-some e t n b)) (subst (λ (m : ℕ). FaultIn e i (Some t) m i) (sym (broken-caused e t n b)) (rule t n b))

-- ---- a list of edits

pub kept_append : (es fs : List Edit) (t : List Rec) → AllKept es t → AllKept fs (apply_edits es t) → AllKept (es ++ fs) t
unfolding apply_edits
kept_append [] fs t h g = g
kept_append (e ∷ es) fs t h g = (h.0, kept_append es fs (apply_edit e t) h.1 g)

pub kept-keys : (i : ℕ) (es : List Edit) (s : Source) → AllKeptBy es s → keys_from i es s ≡ Ok tt
unfolding keys_from
kept-keys i [] s h = refl
kept-keys i (e ∷ es) s h = rw (kept-fault i e (s [] (key_of e)) h.0) (kept-keys (suc i) es (made e s) h.1)

-- what the answer says of the edits es, the first of which is edit i
abbrev KeysSay : ℕ → List Edit → Source → Answer → Type 0
KeysSay i es s (Ok done) = AllKeptBy es s
KeysSay i es s (Err r) = FirstFault i es s (number_in r) r.edit

fault-at-once : (i : ℕ) (e : Edit) (es : List Edit) (s : Source) (n j : ℕ) → FaultIn e i (s [] (key_of e)) n j → FirstFault i (e ∷ es) s n j
fault-at-once i e es s n j h =
    let place : i ≡ i + 0 = omega arith in
    record { before = []; culprit = e; rest = es; shape = refl; kept = tt; fault = subst (λ (m : ℕ). FaultIn e m (s [] (key_of e)) n j) place h }

-- a fault after one edit more, whose rule is kept
fault-after : (i : ℕ) (e : Edit) (es : List Edit) (s : Source) (n j : ℕ) → KeptIn e (s [] (key_of e)) → FirstFault (suc i) es (made e s) n j → FirstFault i (e ∷ es) s n j
fault-after i e es s n j h f =
    let place : suc i + length f.before ≡ i + suc (length f.before) = omega arith in
    record {
      before = e ∷ f.before;
      culprit = f.culprit;
      rest = f.rest;
      shape = ap (λ (l : List Edit). e ∷ l) f.shape;
      kept = (h, f.kept);
      fault = subst (λ (m : ℕ). FaultIn f.culprit m (made_all f.before (made e s) [] (key_of f.culprit)) n j) place f.fault;
    }

keys-say : (i : ℕ) (es : List Edit) (s : Source) → KeysSay i es s (keys_from i es s)
unfolding keys_from
keys-say i [] s = tt
keys-say i (e ∷ es) s = go (key_fault i e (s [] (key_of e))) (fault-says i e (s [] (key_of e))) (keys_from (suc i) es (made e s)) (keys-say (suc i) es (made e s))
  where
    go : (a : Answer) → FaultSays i e (s [] (key_of e)) a → (b : Answer) → KeysSay (suc i) es (made e s) b → KeysSay i (e ∷ es) s (or_fault a b)
    go (Ok done) h (Ok also) g = (h, g)
    go (Ok done) h (Err r) g = fault-after i e es s (number_in r) r.edit h g
    go (Err r) h b g = fault-at-once i e es s (number_in r) r.edit h

module _ (es : List Edit) (s : Source) where
  pub keys_kept : keys_from 0 es s ≡ Ok tt → AllKeptBy es s
  keys_kept q = subst (KeysSay 0 es s) q (keys-say 0 es s)

  pub keys-fault : (r : Refusal) → keys_from 0 es s ≡ Err r → FirstFault 0 es s (number_in r) r.edit
  keys-fault r q = subst (KeysSay 0 es s) q (keys-say 0 es s)

-- edits whose rules are kept leave the rest to decide, whose numbers are higher
kept-before : (i : ℕ) (es fs : List Edit) (s : Source) → AllKeptBy es s → keys_from i (es ++ fs) s ≡ keys_from (i + length es) fs (made_all es s)
unfolding keys_from
kept-before i [] fs s h = let q : i ≡ i + 0 = omega arith in ap (λ (j : ℕ). keys_from j fs s) q
kept-before i (e ∷ es) fs s h =
    let q : suc i + length es ≡ i + suc (length es) = omega arith in
    rw (kept-fault i e (s [] (key_of e)) h.0) (kept-before (suc i) es fs (made e s) h.1 ∙ ap (λ (j : ℕ). keys_from j fs (made_all es (made e s))) q)

fault-first : (i : ℕ) (e : Edit) (rest : List Edit) (s : Source) (n j : ℕ) → FaultIn e i (s [] (key_of e)) n j → keys_from i (e ∷ rest) s ≡ Err (refusal_at n j)
unfolding keys_from
fault-first i e rest s n j h = rw (in-fault i e (s [] (key_of e)) n j h)

pub fault-keys : (es : List Edit) (s : Source) (n j : ℕ) → FirstFault 0 es s n j → keys_from 0 es s ≡ Err (refusal_at n j)
fault-keys es s n j f =
    let bs = f.before in
    ap (λ (l : List Edit). keys_from 0 l s) f.shape ∙ kept-before 0 bs (f.culprit ∷ f.rest) s f.kept
    ∙ fault-first (0 + length bs) f.culprit f.rest (made_all bs s) n j f.fault

-- ---- the same by a table

-- the whole of a table stays whole
all_made : (es : List Edit) (t : List Rec) → made_all es (wholly t) ≡ wholly (apply_edits es t)
unfolding apply_edits
all_made [] t = refl
all_made (e ∷ es) t = all_made es (apply_edit e t)

pub made-wholly : (es : List Edit) (t : List Rec) (k : ℕ) → made_all es (wholly t) [] k ≡ Some (apply_edits es t)
made-wholly es t k = ap (λ (s : Source). s [] k) (all_made es t)

pub first-broken : (es : List Edit) (t : List Rec) (n i : ℕ) (before : List Edit) (culprit : Edit) (rest : List Edit) → es ≡ before ++ culprit ∷ rest → i ≡ length before → AllKept before t →
    Broken culprit (apply_edits before t) n → FirstBroken es t n i
first-broken es t n i before culprit rest shape place h b =
    let at : i ≡ 0 + length before = omega arith in
    let u = apply_edits before t in
    record {
      before = before;
      culprit = culprit;
      rest = rest;
      shape = shape;
      kept = h;
      fault = rw (made-wholly before t (key_of culprit)) (subst (λ (j : ℕ). FaultIn culprit j (Some u) n i) at (rule u n b));
    }

-- a table can always be trusted
table-rule : (e : Edit) (i : ℕ) (t : List Rec) (n j : ℕ) → FaultIn e i (Some t) n j → (j ≡ i) × Broken e t n
table-rule e i _ _ _ (rule t n b) = (refl, b)

table-broken : (i : ℕ) (es : List Edit) (t : List Rec) (n j : ℕ) (f : FirstFault i es (wholly t) n j) → (j ≡ i + length f.before) × Broken f.culprit (apply_edits f.before t) n
table-broken i es t n j f =
    let e = f.culprit in
    let m = i + length f.before in
    table-rule e m (apply_edits f.before t) n j (subst (λ (o : Option (List Rec)). FaultIn e m o n j) (made-wholly f.before t (key_of e)) f.fault)

pub broken-first : (es : List Edit) (t : List Rec) (n i : ℕ) (f : FirstBroken es t n i) → (i ≡ length f.before) × Broken f.culprit (apply_edits f.before t) n
broken-first es t n i f = let b = table-broken 0 es t n i f in (omega (arith, b.0), b.1)

-- a list cannot be both
pub kept-broken : (es : List Edit) (t : List Rec) → AllKept es t → (n i : ℕ) → FirstBroken es t n i → ⊥
kept-broken es t h n i f =
    let a = kept-keys 0 es (wholly t) h in
    let b = fault-keys es (wholly t) n i f in
    let z : ◌≡◌ {A = ℕ} 0 1 = cc (a, b) in
    omega arith

pub broken-later : (es fs : List Edit) (t : List Rec) → AllKept es t → (n i : ℕ) → FirstBroken (es ++ fs) t n i → length es ≤ i
broken-later es fs t h n i f =
    let m = 0 + length es in
    let u = apply_edits es t in
    let on = ap (keys_from m fs) (sym (all_made es t)) ∙ sym (kept-before 0 es fs (wholly t) h) ∙ fault-keys (es ++ fs) (wholly t) n i f in
    let g = subst (KeysSay m fs (wholly u)) on (keys-say m fs (wholly u)) in
    omega (arith, (table-broken m fs u _ _ g).0)

-- ---- what the table holds after an edit whose rule is kept

-- the value that an edit gives its key, if any
abbrev pub gives : Edit → Option (List ℕ)
gives (insert k v) = Some v
gives (update k v) = Some v
gives (delete k) = None

pub find-own : (e : Edit) (t : List Rec) → Kept e t → find (key_of e) (apply_edit e t) ≡ gives e
unfolding apply_edit
find-own (insert k v) t h = find-add-same k v t (find-lacks k t h)
find-own (update k v) t h = find-replace-same k v t h
find-own (delete k) t h = find-without-same k t

pub find-other : (e : Edit) (j : ℕ) (t : List Rec) → (key_of e ≡ j → ⊥) → find j (apply_edit e t) ≡ find j t
unfolding apply_edit
find-other (insert k v) j t h = find-add-other k j h v t
find-other (update k v) j t h = find-replace-other k j h v t
find-other (delete k) j t h = find-without-other k j h t

-- ---- what is found for each edit's key is all that decides

-- both cannot be trusted, or the same is found in both
abbrev pub SameFor : ℕ → Option (List Rec) → Option (List Rec) → Type 0
SameFor k None None = Unit {0}
SameFor k None (Some b) = ⊥
SameFor k (Some a) None = ⊥
SameFor k (Some a) (Some b) = find k a ≡ find k b

rule-same : (e : Edit) (a b : List Rec) → find (key_of e) a ≡ find (key_of e) b → key_rule e a ≡ key_rule e b
unfolding key_rule holds
rule-same (insert k v) a b h = rw h
rule-same (update k v) a b h = rw h
rule-same (delete k) a b h = rw h

fault-same : (i : ℕ) (e : Edit) (o p : Option (List Rec)) → SameFor (key_of e) o p → key_fault i e o ≡ key_fault i e p
unfolding key_fault
fault-same i e None None h = refl
fault-same i e None (Some b) h = absurd h
fault-same i e (Some a) None h = absurd h
fault-same i e (Some a) (Some b) h = rw (rule-same e a b h)

own_same : (e : Edit) (o p : Option (List Rec)) → KeptIn e o → KeptIn e p → SameFor (key_of e) (made_in e o) (made_in e p)
own_same e None p h g = absurd h
own_same e (Some a) None h g = absurd g
own_same e (Some a) (Some b) h g = find-own e a h ∙ sym (find-own e b g)

other-same : (e : Edit) (j : ℕ) → (key_of e ≡ j → ⊥) → (o p : Option (List Rec)) → SameFor j o p → SameFor j (made_in e o) (made_in e p)
other-same e j other None None h = tt
other-same e j other None (Some b) h = absurd h
other-same e j other (Some a) None h = absurd h
other-same e j other (Some a) (Some b) h = find-other e j a other ∙ h ∙ sym (find-other e j b other)

-- a key that was looked for, and for which records were read, is found the same whatever was looked for since
pub record Steady (s : Source) : Type 0 where
  pub again : (ks : List ℕ) (k : ℕ) (more : List ℕ) (t : List Rec) → s ks k ≡ Some t → s (ks ++ k ∷ more) k ≡ Some t

pub wholly-steady : (t : List Rec) → Steady (wholly t)
wholly-steady t = record { again = λ ks k more u e. e }

-- an edit leaves it so
pub made-steady : (e : Edit) (s : Source) → Steady s → Steady (made e s)
made-steady e s h = record { again = λ ks k more u q. go ks k more u (s (key_of e ∷ ks) k) refl q }
  where
    go : (ks : List ℕ) (k : ℕ) (more : List ℕ) (u : List Rec) (o : Option (List Rec)) → s (key_of e ∷ ks) k ≡ o → made_in e o ≡ Some u → made e s (ks ++ k ∷ more) k ≡ Some u
    go ks k more u None r q = let z : ◌≡◌ {A = ℕ} 0 1 = cc in absurd (omega arith)
    go ks k more u (Some t) r q = ap (made_in e) (h.again (key_of e ∷ ks) k more t r) ∙ q

-- so an edit's rule that is kept stays so
pub kept-again : (e : Edit) (s : Source) → Steady s → (ks more : List ℕ) → KeptIn e (s ks (key_of e)) → KeptIn e (s (ks ++ key_of e ∷ more) (key_of e))
kept-again e s h ks more k = go (s ks (key_of e)) refl k
  where
    go : (o : Option (List Rec)) → s ks (key_of e) ≡ o → KeptIn e o → KeptIn e (s (ks ++ key_of e ∷ more) (key_of e))
    go None r q = absurd q
    go (Some t) r q = subst (KeptIn e) (sym (h.again ks (key_of e) more t r)) q

-- what two sources say of the key k, once the keys ks were looked for
abbrev pub Alike : Source → Source → List ℕ → ℕ → Type 0
Alike s t ks k = SameFor k (s ks k) (t ks k)

-- and of keys that are then looked for, one after the other
abbrev pub AllAlike : Source → Source → List ℕ → List ℕ → Type 0
AllAlike s t ks [] = Unit {0}
AllAlike s t ks (j ∷ js) = Alike s t ks j × AllAlike s t (ks ++ j ∷ []) js

module _ (e : Edit) (s t : Source) (steady-s : Steady s) (steady-t : Steady t) (h : KeptIn e (s [] (key_of e))) (g : KeptIn e (t [] (key_of e))) where
  -- an edit whose rule is kept in both leaves the same in both, for every key
  pub made-same : (ks : List ℕ) (j : ℕ) → Alike s t (key_of e ∷ ks) j → Alike (made e s) (made e t) ks j
  made-same ks j same = go (eqb (key_of e) j) refl
    where
      go : (b : Bool) → eqb (key_of e) j ≡ b → Alike (made e s) (made e t) ks j
      go true c = subst (Alike (made e s) (made e t) ks) (eqb-true (key_of e) j c) (own_same e (s (key_of e ∷ ks) (key_of e)) (t (key_of e ∷ ks) (key_of e)) (kept-again e s steady-s [] ks h) (kept-again e t steady-t [] ks g))
      go false c = other-same e j (eqb-false (key_of e) j c) (s (key_of e ∷ ks) j) (t (key_of e ∷ ks) j) same

  pub made-alike : (ks js : List ℕ) → AllAlike s t (key_of e ∷ ks) js → AllAlike (made e s) (made e t) ks js
  made-alike ks [] a = tt
  made-alike ks (j ∷ js) a = (made-same ks j a.0, made-alike (ks ++ j ∷ []) js a.1)

-- what is alike for the keys that are looked for, in the order in which they are, is judged alike
pub keys-same : (i : ℕ) (es : List Edit) (s t : Source) → Steady s → Steady t → AllAlike s t [] (keys_read i es s) → keys_from i es s ≡ keys_from i es t
unfolding keys_from keys_read
keys-same i [] s t ss st h = refl
keys-same i (e ∷ es) s t ss st h =
    go (key_fault i e (s [] (key_of e))) (fault-says i e (s [] (key_of e))) (key_fault i e (t [] (key_of e))) (fault-says i e (t [] (key_of e))) (fault-same i e (s [] (key_of e)) (t [] (key_of e)) h.0) h.1
    (keys-same (suc i) es (made e s) (made e t) (made-steady e s ss) (made-steady e t st))
  where
    go : (a : Answer) → FaultSays i e (s [] (key_of e)) a → (b : Answer) → FaultSays i e (t [] (key_of e)) b → a ≡ b → AllAlike s t (key_of e ∷ []) (on_if_good a (keys_read (suc i) es (made e s))) →
        (AllAlike (made e s) (made e t) [] (keys_read (suc i) es (made e s)) → keys_from (suc i) es (made e s) ≡ keys_from (suc i) es (made e t)) →
        or_fault a (keys_from (suc i) es (made e s)) ≡ or_fault b (keys_from (suc i) es (made e t))
    go (Ok done) k (Ok also) l same rest on = on (made-alike e s t ss st k l [] (keys_read (suc i) es (made e s)) rest)
    go (Ok done) k (Err q) l same rest on = let z : ◌≡◌ {A = ℕ} 0 1 = cc in absurd (omega arith)
    go (Err r) k b l same rest on = ap (λ (x : Answer). or_fault x (keys_from (suc i) es (made e t))) same
