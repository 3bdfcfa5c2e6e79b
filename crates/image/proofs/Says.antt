-- What lookup and next key answer, on any image: each answer where its ground is the first that holds, and nowhere else.
-- Assumes nothing.
use Rattle.std.specs.Prelude.{Err, None, Ok, Option, Result, Some}
use Prim.Native.Nat.{ℕ, suc, ◌+◌, ◌≤◌, ◌<◌}
use mathlib.Core.Path.{◌≡◌, refl, sym, ap, ◌∙◌, subst}
use mathlib.Core.Logic.{◌⊎◌, inl, inr}
use mathlib.Core.Bool.{Bool, true, false, true≢false}
use mathlib.Core.List.{List, [], append-nil}
use native.Mathlib.Omega.{arith}
use lib.ListN.{length, get_or}
use lib.Dec.{leb}
use borrow.Author.Tests.{leb-true, leb-false, le-leb, lt-leb}
use Rattle.image.specs.declared.Part.{Part}
use Rattle.codec.specs.Lists.{pick, All}
use Rattle.codec.proofs.Tests.{All-map}
use Rattle.device.specs.Calls.{refusal}
use Rattle.device.specs.declared.Refusal.{Refusal}
use Rattle.page.specs.Layout.{leaf_kind, top_key, Rec, rec_of}
use Rattle.page.specs.Page.{records}
use Rattle.page.specs.Operations.{page_of}
use Rattle.image.specs.Facts.{Rising}
use Rattle.image.specs.Table.{page_entries, find, found_in, above, or_else}
use Rattle.image.specs.Descent.{root_read}
use Rattle.image.specs.Calls.{index_call, key_ok, ranged, lookup_from, lookup_call, value_at, value_call, leaf_next, next_after, next_from, next_call}
use Rattle.image.specs.Says.{AtMost, Opened, NotOpened, ReadSound, ReadUnsound, read_records, LookupSays, not_opened, bad-way, bad-key, found, missing, NextSays, next-not-opened, next-bad-way, here, bad-after, after, last}
use Rattle.image.proofs.Parts.{part-same}
use Rattle.image.proofs.Zero.{ready-facts}
use Rattle.image.proofs.Rising.{From, rising-from}
use Rattle.image.proofs.Soundness.{page-rising}
use Rattle.image.proofs.Order.{recs-page}
use Rattle.image.proofs.Routing.{after-answers}
use Rattle.image.proofs.Values.{Listed, page-listed}
use Rattle.image.proofs.Exact.{Told, entries-tell, entries-answer, missing-entries, above-smallest, above_most, above-answers, smallest-above, most-above}
use Rattle.image.proofs.KeyRange.{key_ok-true, true-key_ok, key_ok-false, false-key_ok}
use Rattle.image.proofs.Ways.{comes-to, leaf-inside, sound-judged, read-or-not}
use Rattle.image.proofs.After.{After, after-leaf, end-inside}
use Rattle.image.proofs.Read.{OpeningSays, opening-says, opened-call, not-opened-call, opened-judged, by-sound, by-unsound, read-lookup, unsound-lookup, ranged-is}

-- ---- lookup

module _ (img : List ℕ) (k : ℕ) where
  module _ (root : ℕ) (o : Opened img root) where
    -- each key is one or the other
    pub opened-read : ReadSound img root (root_read root) k ⊎ ReadUnsound img root (root_read root) k
    opened-read = read-or-not img root k (root_read root) (opened-judged img root o)

    module _ (r : ReadSound img root (root_read root) k) where
      abbrev q : ℕ
      q = r.way.leaf.page

      listed : All (Listed img) (page_entries img r.way.leaf.page)
      listed = page-listed img q (leaf-inside img root k (root_read root) (opened-judged img root o) (ready-facts img root o.zero).page r) r.good.page

      -- the leaf's answer, then 6
      pub read-call : lookup_call img k ≡ pick (key_ok k) (found_in k (page_entries img r.way.leaf.page)) (Err (refusal 6))
      unfolding lookup_call lookup_from
      read-call =
          rw (opened-call img root o) (
          ap (ranged k) (read-lookup img root (root_read root) k r) ∙ ranged-is k (found_in k (page_entries img q)) (entries-answer img k (page_entries img q) listed)
          )

      -- what it says of the leaf's records
      pub read-tells : (a : Result (Option Part) Refusal) → found_in k (page_entries img r.way.leaf.page) ≡ a → Told img k (read_records r) a
      read-tells a e = subst (λ (rs : List Rec). Told img k rs a) (recs-page img q) (entries-tell img k (page_entries img q) listed a e)

      read-says : 1 ≤ k → k ≤ 999999999999 → (a : Result (Option Part) Refusal) → found_in k (page_entries img r.way.leaf.page) ≡ a → LookupSays img k a
      read-says low high a e = go a e (read-tells a e)
        where
          go : (a : Result (Option Part) Refusal) → found_in k (page_entries img q) ≡ a → Told img k (read_records r) a → LookupSays img k a
          go (Ok (Some x)) f t = found root o r low high x.offset x.length f t.0 t.1 t.2
          go (Ok None) f t = missing root o r low high t
          go (Err s) f t = absurd t

      read-missing : find k (read_records r) ≡ None → found_in k (page_entries img r.way.leaf.page) ≡ Ok None
      read-missing e = missing-entries img k (page_entries img q) listed (ap (find k) (recs-page img q) ∙ e)

    pub unsound-call : ReadUnsound img root (root_read root) k → lookup_call img k ≡ Err (refusal 4)
    unfolding lookup_call lookup_from ranged
    unsound-call u = rw (opened-call img root o, unsound-lookup img root (root_read root) k u)

  pub not-read : (r : Refusal) → NotOpened img r → lookup_call img k ≡ Err r
  unfolding lookup_call lookup_from
  not-read r n = rw (not-opened-call img r n)

  pub lookup-says : LookupSays img k (lookup_call img k)
  lookup-says = go (index_call img) (opening-says img)
    where
      key : (root : ℕ) (o : Opened img root) (r : ReadSound img root (root_read root) k) (t : Bool) → key_ok k ≡ t →
          LookupSays img k (pick t (found_in k (page_entries img r.way.leaf.page)) (Err (refusal 6)))
      key root o r true e = let range = key_ok-true k e in read-says root o r range.0 range.1 (found_in k (page_entries img r.way.leaf.page)) refl
      key root o r false e = bad-key root o r (key_ok-false k e)

      leaf : (root : ℕ) (o : Opened img root) → ReadSound img root (root_read root) k ⊎ ReadUnsound img root (root_read root) k → LookupSays img k (lookup_call img k)
      leaf root o (inl r) = subst (LookupSays img k) (sym (read-call root o r)) (key root o r (key_ok k) refl)
      leaf root o (inr u) = subst (LookupSays img k) (sym (unsound-call root o u)) (bad-way root o u)

      go : (x : Result ℕ Refusal) → OpeningSays img x → LookupSays img k (lookup_call img k)
      go (Err r) n = subst (LookupSays img k) (sym (not-read r n)) (not_opened r n)
      go (Ok root) o = leaf root o (opened-read root o)

  -- and each case excludes the others: it is the answer where it holds
  pub says-lookup : (a : Result (Option Part) Refusal) → LookupSays img k a → lookup_call img k ≡ a
  says-lookup _ (not_opened r n) = not-read r n
  says-lookup _ (bad-way root o u) = unsound-call root o u
  says-lookup _ (bad-key root o r e) = read-call root o r ∙ rw (false-key_ok k e)
  says-lookup _ (found root o r low high p n e _ _ _) = read-call root o r ∙ rw (true-key_ok k low high, e)
  says-lookup _ (missing root o r low high e) = read-call root o r ∙ rw (true-key_ok k low high, read-missing root o r e)

  -- a value that is found lies in the image
  pub found_inside : (o n : ℕ) → lookup_call img k ≡ Ok (Some (record { offset = o; length = n })) → o + n ≤ length img
  found_inside o n e = go (lookup_call img k) lookup-says e
    where
      go : (a : Result (Option Part) Refusal) → LookupSays img k a → a ≡ Ok (Some (record { offset = o; length = n })) → o + n ≤ length img
      go _ (not_opened r x) f = let z : ◌≡◌ {A = ℕ} 0 1 = cc in absurd (omega arith)
      go _ (bad-way root o u) f = let z : ◌≡◌ {A = ℕ} 0 1 = cc in absurd (omega arith)
      go _ (bad-key root o r x) f = let z : ◌≡◌ {A = ℕ} 0 1 = cc in absurd (omega arith)
      go _ (found root _ r low high p m x y z inside) f =
          let same = part-same p m o n f in
          omega (arith, same.0, same.1)
      go _ (missing root o r low high x) f = let z : ◌≡◌ {A = ℕ} 0 1 = cc in absurd (omega arith)

  -- its companion is "empty if refused or missing"
  pub value-refused : (r : Refusal) → lookup_call img k ≡ Err r → value_call img k ≡ []
  unfolding value_call value_at
  value-refused r e = ap (value_at img) e

  pub value-missing : lookup_call img k ≡ Ok None → value_call img k ≡ []
  unfolding value_call value_at
  value-missing e = ap (value_at img) e

-- ---- next key

module _ (img : List ℕ) (k root : ℕ) (o : Opened img root) where
  module _ (r : ReadSound img root (root_read root) k) where
    pub read-rising : Rising 0 (read_records r) (suc top_key)
    read-rising = page-rising leaf_kind r.way.leaf.page (page_of img r.way.leaf.page) r.good.page

    -- a leaf that ends past the keys ends with them all
    last-end : top_key < r.way.leaf.below → r.way.leaf.below ≡ 1000000000000
    last-end q = let m = end-inside img root o.index k r.way r.comes in omega (arith, m)

    -- the leaf's answer, or that of the leaf after
    pub next-read : next_call img k ≡ or_else (above k (read_records r)) (next_after img root k r.way)
    unfolding next_call next_from leaf_next
    next-read = rw (opened-call img root o) (by-sound img root (root_read root) k (λ w. or_else (leaf_next img k w) (next_after img root k w)) r)

    next-least : (j : ℕ) → above k (read_records r) ≡ Ok (Some j) → next_call img k ≡ Ok (Some j)
    next-least j e = next-read ∙ ap (λ (x : Result (Option ℕ) Refusal). or_else x (next_after img root k r.way)) e

    module _ (most : AtMost k (read_records r)) where
      no-larger : next_call img k ≡ next_after img root k r.way
      no-larger = next-read ∙ ap (λ (x : Result (Option ℕ) Refusal). or_else x (next_after img root k r.way)) (most-above k 0 (read_records r) (suc top_key) read-rising most)

      next-end : r.way.leaf.below ≡ 1000000000000 → next_call img k ≡ Ok None
      unfolding next_after
      next-end e = no-larger ∙ rw (lt-leb r.way.leaf.below top_key (omega arith))

      module _ (inside : r.way.leaf.below ≤ 999999999999) where
        abbrev end : ℕ
        end = r.way.leaf.below

        next-bad : ReadUnsound img root r.way.nodes r.way.leaf.below → next_call img k ≡ Err (refusal 4)
        unfolding next_after
        next-bad u = no-larger ∙ rw (le-leb r.way.leaf.below top_key inside) (by-unsound img root r.way.nodes end (leaf_next img k) u)

        next-good : (s : ReadSound img root r.way.nodes r.way.leaf.below) → next_call img k ≡ above k (records (page_of img s.way.leaf.page))
        unfolding next_after leaf_next
        next-good s = no-larger ∙ rw (le-leb r.way.leaf.below top_key inside) (by-sound img root r.way.nodes end (leaf_next img k) s)

        pub end-read : ReadSound img root r.way.nodes r.way.leaf.below ⊎ ReadUnsound img root r.way.nodes r.way.leaf.below
        end-read = read-or-not img root end r.way.nodes (sound-judged img root k (root_read root) (opened-judged img root o) r)

        module _ (s : ReadSound img root r.way.nodes r.way.leaf.below) where
          abbrev rs : List Rec
          rs = records (page_of img s.way.leaf.page)

          after-rising : Rising 0 (records (page_of img s.way.leaf.page)) (suc top_key)
          after-rising = page-rising leaf_kind s.way.leaf.page (page_of img s.way.leaf.page) s.good.page

          -- the leaf after one has a record, and starts past the number
          after-key : above k (records (page_of img s.way.leaf.page)) ≡ Ok (Some (get_or (records (page_of img s.way.leaf.page)) 0 (rec_of 0 [])).key)
          after-key =
              let t : After img root o.index k r.way r.comes s.way = after-leaf img root o.index k r.way r.comes inside s.way (comes-to img root end r.way.nodes s.way s.comes) in
              ap (above k) (sym (append-nil rs)) ∙ after-answers k rs [] (rec_of 0 []) (filled t.others s.good.filled) (over t)
            where
              filled : s.way.only ≡ false → (s.way.only ≡ true) ⊎ (1 ≤ length (records (page_of img s.way.leaf.page))) → 1 ≤ length (records (page_of img s.way.leaf.page))
              filled f (inl e) = absurd (true≢false (sym e ∙ f))
              filled f (inr h) = h

              over : After img root o.index k r.way r.comes s.way → From (suc k) (records (page_of img s.way.leaf.page))
              over t =
                  All-map (λ (r : Rec). s.way.leaf.from ≤ r.key) (λ (r : Rec). suc k ≤ r.key) (λ r le. omega (arith, t.past, t.starts)) rs
                  (rising-from s.way.leaf.from rs s.way.leaf.below s.good.rising)

  pub next-unsound : ReadUnsound img root (root_read root) k → next_call img k ≡ Err (refusal 4)
  unfolding next_call next_from
  next-unsound u = rw (opened-call img root o) (by-unsound img root (root_read root) k (λ w. or_else (leaf_next img k w) (next_after img root k w)) u)

module _ (img : List ℕ) (k : ℕ) where
  pub next-not-read : (r : Refusal) → NotOpened img r → next_call img k ≡ Err r
  unfolding next_call next_from
  next-not-read r n = rw (not-opened-call img r n)

  pub next-says : NextSays img k (next_call img k)
  next-says = go (index_call img) (opening-says img)
    where
      later : (root : ℕ) (o : Opened img root) (r : ReadSound img root (root_read root) k) (most : AtMost k (read_records r)) (inside : r.way.leaf.below ≤ 999999999999) →
          ReadSound img root r.way.nodes r.way.leaf.below ⊎ ReadUnsound img root r.way.nodes r.way.leaf.below → NextSays img k (next_call img k)
      later root o r most inside (inl s) =
          let f = after-key img k root o r most inside s in
          subst (NextSays img k) (sym (next-good img k root o r most inside s ∙ f))
          (after root o r most inside s _ (above-smallest k 0 (records (page_of img s.way.leaf.page)) (suc top_key) (after-rising img k root o r most inside s) _ f))
      later root o r most inside (inr u) = subst (NextSays img k) (sym (next-bad img k root o r most inside u)) (bad-after root o r most inside u)

      end : (root : ℕ) (o : Opened img root) (r : ReadSound img root (root_read root) k) → AtMost k (read_records r) → (t : Bool) → leb r.way.leaf.below top_key ≡ t → NextSays img k (next_call img k)
      end root o r most true e = let inside = leb-true r.way.leaf.below top_key e in later root o r most inside (end-read img k root o r most inside)
      end root o r most false e =
          let f : r.way.leaf.below ≡ 1000000000000 = last-end img k root o r (leb-false r.way.leaf.below top_key e) in
          subst (NextSays img k) (sym (next-end img k root o r most f)) (last root o r most f)

      least : (root : ℕ) (o : Opened img root) (r : ReadSound img root (root_read root) k) (a : Result (Option ℕ) Refusal) → above k (read_records r) ≡ a → NextSays img k (next_call img k)
      least root o r (Ok (Some j)) e =
          subst (NextSays img k) (sym (next-least img k root o r j e)) (here root o r j (above-smallest k 0 (read_records r) (suc top_key) (read-rising img k root o r) j e))
      least root o r (Ok None) e = end root o r (above_most k 0 (read_records r) (suc top_key) (read-rising img k root o r) e) (leb r.way.leaf.below top_key) refl
      least root o r (Err s) e = absurd (above-answers k 0 (read_records r) (suc top_key) (read-rising img k root o r) s e)

      leaf : (root : ℕ) (o : Opened img root) → ReadSound img root (root_read root) k ⊎ ReadUnsound img root (root_read root) k → NextSays img k (next_call img k)
      leaf root o (inl r) = least root o r (above k (read_records r)) refl
      leaf root o (inr u) = subst (NextSays img k) (sym (next-unsound img k root o u)) (next-bad-way root o u)

      go : (x : Result ℕ Refusal) → OpeningSays img x → NextSays img k (next_call img k)
      go (Err r) n = subst (NextSays img k) (sym (next-not-read r n)) (next-not-opened r n)
      go (Ok root) o = leaf root o (opened-read img k root o)

  pub says-next : (a : Result (Option ℕ) Refusal) → NextSays img k a → next_call img k ≡ a
  says-next _ (next-not-opened r n) = next-not-read r n
  says-next _ (next-bad-way root o u) = next-unsound img k root o u
  says-next _ (here root o r j s) = next-least img k root o r j (smallest-above k 0 (read_records r) (suc top_key) (read-rising img k root o r) j s)
  says-next _ (bad-after root o r most inside u) = next-bad img k root o r most inside u
  says-next _ (after root o r most inside s j t) =
      next-good img k root o r most inside s ∙ smallest-above k 0 (records (page_of img s.way.leaf.page)) (suc top_key) (after-rising img k root o r most inside s) j t
  says-next _ (last root o r most e) = next-end img k root o r most e
