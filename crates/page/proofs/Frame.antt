-- The frame: a page is its header line and the bytes of its listed records, and no other byte matters. An edit leaves the bytes of
-- every record that was listed before it.
-- Assumes nothing.
use Rattle.std.proofs.Common.{◌≡◌, ℕ, ◌+◌, ◌<◌, ◌≤◌, true, List, [], ◌∷◌, length, take, sym, refl, ◌∙◌, arith}
use Rattle.codec.specs.Lists.{All}
use Rattle.codec.proofs.Tests.{All-map}
use Rattle.page.specs.Layout.{line_size, slot_count, Rec, size, Head, read_head}
use Rattle.page.specs.Page.{Entry, records, laid_out, page_ok, RecOk, HeadOk, Held, Body, Is}
use Rattle.page.specs.Page as page
use Rattle.page.specs.Operations.{seal, written, insert_head, update_head, delete_head, insert, update, delete}
use Rattle.page.proofs.Facts.{length-records, length-entries, is-head, is-entries, is-records, is_ok, ok-is}
use Rattle.page.proofs.Writes.{Agree, held-agree, agree-seal}
use Rattle.page.proofs.Operations.{agree-written, body-insert, body-update, body-delete}

-- ---- pages that agree on the header line and on the listed records

held-agrees : (p q : List ℕ) (start : ℕ) (es : List Entry) → All (Agree p q) es → All (Held p start) es → All (Held q start) es
held-agrees p q start [] a h = tt
held-agrees p q start (e ∷ es) a h = (held-agree e a.0 h.0, held-agrees p q start es a.1 h.1)

pub is_agree : (h : Head) (p q : List ℕ) (es : List Entry) → length q ≡ length p → take line_size q ≡ take line_size p → All (Agree p q) es → Is h p es → Is h q es
is_agree h p q es l t a i =
    record {
      line = t ∙ i.line;
      body =
          record {
            whole = l ∙ i.body.whole;
            head = i.body.head;
            listed = i.body.listed;
            held = held-agrees p q h.start es a i.body.held;
            apart = i.body.apart;
          };
    }

-- q says what p says
pub record Same (p q : List ℕ) : Type 0 where
  pub ok : laid_out q ≡ true
  pub head : read_head q ≡ read_head p
  pub entries : page.entries q ≡ page.entries p
  pub recs : records q ≡ records p
  pub sound : (kind own : ℕ) → page_ok kind own q ≡ page_ok kind own p

module _ (p q : List ℕ) (ok : laid_out p ≡ true) (l : length q ≡ length p) (t : take line_size q ≡ take line_size p) where
  pub page-agree : All (Agree p q) (page.entries p) → Same p q
  unfolding page_ok
  page-agree a =
      let i = ok-is p ok in
      let j = is_agree (read_head p) p q (page.entries p) l t a i in
      let o = is_ok _ q _ j in
      let h = is-head _ q _ j in
      let r : records q ≡ records p = is-records _ q _ j ∙ sym (is-records _ p _ i) in
      record { ok = o; head = h; entries = is-entries _ q _ j; recs = r; sound = λ kind own. rw (o, ok, h, r) }

-- ---- no edit overwrites a listed record

module _ (p : List ℕ) (ok : laid_out p ≡ true) where
  before : Body (read_head p) p (page.entries p)
  before = (ok-is p ok).body

  seal-keeps : (q : List ℕ) (g : Head) → HeadOk g → ((e : Entry) → Held p (read_head p).start e → Agree p q e) → All (Agree p (seal g q)) (page.entries p)
  seal-keeps q g few keep =
      All-map (Held p (read_head p).start) (Agree p (seal g q))
      (λ e k. agree-seal g q e few.few (omega (arith, k.low, before.head.low)) ∙ keep e k) (page.entries p) before.held

  module _ (i : ℕ) (r : Rec) (good : RecOk r) (room : line_size + size r ≤ (read_head p).start) where
    pub insert-keeps : length (records p) < slot_count → All (Agree p (insert p i r)) (page.entries p)
    unfolding insert
    insert-keeps few =
        let h = read_head p in
        let b = body-insert h p (page.entries p) before r good room i (omega (arith, length-records p, length-entries p)) in
        seal-keeps (written h.start p r) (insert_head h i (size r)) b.head (agree-written h p (page.entries p) before r good room)

    -- "update swaps the slot and never overwrites"
    pub update-keeps : All (Agree p (update p i r)) (page.entries p)
    unfolding update
    update-keeps =
        let h = read_head p in
        let b = body-update h p (page.entries p) before r good room i in
        seal-keeps (written h.start p r) (update_head h i (size r)) b.head (agree-written h p (page.entries p) before r good room)

  pub delete-keeps : (i : ℕ) → All (Agree p (delete p i)) (page.entries p)
  unfolding delete
  delete-keeps i =
      seal-keeps p (delete_head (read_head p) i) (body-delete (read_head p) p (page.entries p) before i).head (λ e k. refl)
