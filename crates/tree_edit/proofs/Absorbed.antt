-- What a page takes from the page under it, by the answer of the edit there: what each step asks for, and that it comes to `absorbed`.
-- Assumes nothing.
use Prim.Native.Nat.{ℕ, suc, ◌+◌, ◌*◌, ◌≤◌, ◌<◌}
use mathlib.Core.Path.{◌≡◌, sym, ap, ◌∙◌, subst}
use mathlib.Core.Bool.{true, false}
use mathlib.Core.List.{List, [], ◌∷◌}
use native.Mathlib.Omega.{arith}
use native.Mathlib.Numerals.{add-one}
use lib.ListN.{length}
use Rattle.codec.specs.Lists.{splice}
use Rattle.codec.specs.Numbers.{bytes_of}
use Rattle.codec.proofs.Lists.{splice-over}
use Rattle.codec.proofs.Numbers.{length-bytes_of}
use Rattle.page.specs.Layout.{page_size, top_key, Rec, rec_of}
use Rattle.page.specs.Page.{records}
use Rattle.page.specs.Operations.{made, page_of}
use Rattle.page.specs.PageFormat.{format1}
use Rattle.page.proofs.Made.{length-made}
use Rattle.page.proofs.Format1.{format1-rules}
use Rattle.image.specs.PageZero.{page_count}
use Rattle.image.specs.Image.{index_rec, hit, count}
use Rattle.image.proofs.IndexRecords.{index_ok}
use Rattle.image.proofs.Times.{hit-self}
use Rattle.tree.specs.State.{State}
use Rattle.tree.specs.Edits.{PageStep, now, stops, kept, one, no_keep, put, dropped, copy_then, then_into, absorbed, onto}
use Rattle.tree.proofs.Counts.{inside-range}
use Rattle.tree.proofs.Change.{Out, Holds, out-ends}
use Rattle.tree.proofs.Puts.{Puts, put-ends}
use Rattle.tree_edit.specs.Steps.{state_of, turn_of}
use Rattle.tree_edit.specs.Asked.{CanTake, CanThen, IndexAt}
use Rattle.tree_edit.specs.declared.Child.{Child}
use Rattle.tree_edit.specs.declared.Put.{Put}
use Rattle.tree_edit.specs.declared.Turned.{Turned}
use Rattle.tree_edit.specs.declared.Turned.TheVariants.{Kept, Gone, One, Two}

-- ---- an index record: its value v is "a 2-byte page number"

pub value-is : (q : ℕ) (v : List ℕ) → v ≡ splice (0 ∷ 0 ∷ []) 0 (bytes_of 2 q) → v ≡ bytes_of 2 q
value-is q v written = written ∙ splice-over (0 ∷ 0 ∷ []) (bytes_of 2 q) (length-bytes_of 2 q)

module _ (q : ℕ) (v : List ℕ) (value : v ≡ bytes_of 2 q) where
  pub entry-takes : {n : ℕ} {st : State} {page : ℕ} {new : Put} → CanTake n st page new (bytes_of 2 q) → CanTake n st page new v
  entry-takes {n} {st} {page} {new} can = subst (CanTake n st page new) (sym value) can

  pub entry-is : (key : ℕ) → rec_of key v ≡ index_rec key q
  unfolding index_rec
  entry-is key = ap (rec_of key) value

-- ---- a second record, by what stands for the page after the first

module _ (before work : List ℕ) (root page : ℕ) (f : ℕ → State → PageStep) (first : Turned) where
  pub then-kept : (top : ℕ) → first ≡ Kept top → f page (state_of before work (record { root = root; top = top })) ≡ then_into (turn_of before work root first) page f
  unfolding then_into
  then-kept top e = ap (λ (r : Turned). then_into (turn_of before work root r) page f) (sym e)

  -- where it is a copy x, into which the second is put by the step y
  module _ (x top : ℕ) (e : first ≡ One x top) (y : PageStep) (same : y ≡ f x (state_of before work (record { root = root; top = top }))) where
    into-is : copy_then x y ≡ then_into (turn_of before work root first) page f
    unfolding then_into
    into-is = ap (copy_then x) same ∙ ap (λ (r : Turned). then_into (turn_of before work root r) page f) (sym e)

    pub then-stopped : (k : ℕ) → stops k ≡ y → stops k ≡ then_into (turn_of before work root first) page f
    unfolding copy_then
    then-stopped k z = ap (copy_then x) z ∙ into-is

    pub then-copied : (s : State) → now kept s ≡ y → now (one x) s ≡ then_into (turn_of before work root first) page f
    unfolding copy_then
    then-copied s z = ap (copy_then x) z ∙ into-is

    pub then-moved : copy_then x y ≡ y → y ≡ then_into (turn_of before work root first) page f
    then-moved z = sym z ∙ into-is

-- ---- what is taken, by what stands for the page under it

module _ (before work : List ℕ) (root kind page : ℕ) (c : Child) (below : Turned) where
  abbrev taken : PageStep
  taken = onto (turn_of before work root below) (λ x s. absorbed format1 no_keep kind c.slot c.low page x s)

  is : (r : Turned) → below ≡ r →
      onto (turn_of before work root r) (λ x s. absorbed format1 no_keep kind c.slot c.low page x s)
      ≡ onto (turn_of before work root below) (λ x s. absorbed format1 no_keep kind c.slot c.low page x s)
  is r e = ap (λ (y : Turned). onto (turn_of before work root y) (λ x s. absorbed format1 no_keep kind c.slot c.low page x s)) (sym e)

  pub absorb-gone : (top : ℕ) → below ≡ Gone top → dropped format1 false c.slot page (state_of before work (record { root = root; top = top }))
      ≡ onto (turn_of before work root below) (λ x s. absorbed format1 no_keep kind c.slot c.low page x s)
  unfolding onto absorbed
  absorb-gone top e = is (Gone top) e

  pub absorb-one : (p top : ℕ) → below ≡ One p top → put format1 no_keep kind false false c.slot (index_rec c.low p) page (state_of before work (record { root = root; top = top }))
      ≡ onto (turn_of before work root below) (λ x s. absorbed format1 no_keep kind c.slot c.low page x s)
  unfolding onto absorbed
  absorb-one p top e = is (One p top) e

  pub absorb-two : (p k q top : ℕ) → below ≡ Two p k q top → (s : PageStep) →
      s ≡ put format1 no_keep kind false false c.slot (index_rec c.low p) page (state_of before work (record { root = root; top = top })) →
      then_into s page (λ x u. put format1 no_keep kind false true (c.slot + 1) (index_rec k q) x u)
      ≡ onto (turn_of before work root below) (λ x s. absorbed format1 no_keep kind c.slot c.low page x s)
  unfolding onto absorbed
  absorb-two p k q top e s first =
      ap (λ (y : PageStep). then_into y page (λ x u. put format1 no_keep kind false true (c.slot + 1) (index_rec k q) x u)) first
      ∙ ap
      (λ (j : ℕ).
      then_into (put format1 no_keep kind false false c.slot (index_rec c.low p) page (state_of before work (record { root = root; top = top }))) page
      (λ x u. put format1 no_keep kind false true j (index_rec k q) x u))
      (add-one c.slot)
      ∙ is (Two p k q top) e

-- ---- what the steps ask for

module _ {n : ℕ} {st : State} {kind q : ℕ} {c : Child} (I : IndexAt n st kind q c) where
  abbrev cs : List Rec
  cs = records (page_of st.image q)

  pub index-fits : page_size * q + page_size ≤ length st.image
  index-fits = omega (arith, I.long, inside-range n q (omega (arith, I.apart q, hit-self q)))

  -- the record of the page a, in place of the old
  module _ (a : ℕ) where
    abbrev ds : List Rec
    ds = made false c.slot (index_rec c.low a) cs

    listed : length ds ≡ length cs
    listed = length-made false c.slot (index_rec c.low a) cs

    pub replaces : CanTake n st q (record { ins = false; at = c.slot; key = c.low }) (bytes_of 2 a)
    unfolding index_rec
    replaces =
        record {
          few = I.few;
          long = I.long;
          apart = I.apart;
          put = record { ok = I.lists.laid; good = index_ok c.low a I.low; place = omega (arith, listed, I.slot) };
        }

    first_out : kind < 256 → Out (Puts format1 no_keep st.free st q kind (made false c.slot (index_rec c.low a) (records (page_of st.image q))))
        (put format1 no_keep kind false false c.slot (index_rec c.low a) q st)
    first_out small =
        out-ends (Puts format1 no_keep st.free st q kind ds) st.free _ (put format1 no_keep kind false false c.slot (index_rec c.low a) q st)
        (put-ends format1 format1-rules no_keep n I.few st.free st I.long q kind small cs (record { lists = I.lists }) I.apart (λ x. omega arith) false c.slot (index_rec c.low a)
        (index_ok c.low a I.low) (omega (arith, listed, I.slot)))

    -- and then the record of the page b, after it, in the page x that stands for q
    module _ (k b : ℕ) (fine : k ≤ top_key) where
      abbrev next : Put
      next = record { ins = true; at = c.slot + 1; key = k }

      ready : (t : State) (x : ℕ) → length t.image ≡ length st.image → Holds format1 t.image kind x ds → ((y : ℕ) → hit y x + count y t.free ≤ hit y q + count y st.free) →
          CanTake (page_count t.image) t x next (bytes_of 2 b)
      unfolding index_rec
      ready t x long H pages =
          let g = records (page_of t.image x) in
          let more : length (made true (c.slot + 1) (index_rec k b) g) ≡ suc (length g) = length-made true (c.slot + 1) (index_rec k b) g in
          let size : page_count t.image ≡ n = omega (arith, long, I.long) in
          subst (λ (j : ℕ). CanTake j t x next (bytes_of 2 b)) (sym size) (record {
            few = I.few;
            long = long ∙ I.long;
            apart = λ y. omega (arith, pages y, I.apart y);
            put = record { ok = H.lists.laid; good = index_ok k b fine; place = omega (arith, more, ap length H.lists.recs, listed, I.slot) };
          })

      pub then-can : kind < 256 → (before w : List ℕ) (root : ℕ) (r : Turned) → turn_of before w root r ≡ put format1 no_keep kind false false c.slot (index_rec c.low a) q st →
          CanThen (page_count w) before w root q (record { ins = true; at = c.slot + 1; key = k }) b r
      then-can small before w root r e =
          let o : Out (Puts format1 no_keep st.free st q kind ds) (turn_of before w root r) = subst (Out (Puts format1 no_keep st.free st q kind ds)) (sym e) (first_out small) in
          let by : (y : Turned) → r ≡ y → Out (Puts format1 no_keep st.free st q kind ds) (turn_of before w root y) =
          λ y z. subst (λ (u : Turned). Out (Puts format1 no_keep st.free st q kind ds) (turn_of before w root u)) z o in
          record {
            stays = λ top z. let P = by (Kept top) z in ready (state_of before w (record { root = root; top = top })) q P.leads.long P.held (λ y. omega (arith, P.pages y));
            moves = λ x top z. let P = by (One x top) z in ready (state_of before w (record { root = root; top = top })) x P.leads.long P.held (λ y. omega (arith, P.pages y));
          }
