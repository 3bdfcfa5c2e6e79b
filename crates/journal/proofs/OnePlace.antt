-- A transaction with one changed place, a header or the root word, follows the method: its one store makes the edited image.
-- Assumes nothing.
use Prim.Native.Nat.{ℕ, ◌+◌, ◌*◌, ◌≤◌, ◌<◌}
use mathlib.Core.Path.{◌≡◌, refl, sym, ap, ◌∙◌, subst}
use mathlib.Core.Logic.{◌⊎◌, inl, inr}
use mathlib.Core.Bool.{true, false}
use mathlib.Core.List.{List, [], ◌∷◌, ◌++◌}
use native.Mathlib.Decide.{dec_le, dec_lt}
use native.Mathlib.Omega.{arith}
use lib.ListN.{length, get_or}
use Rattle.codec.specs.Lists.{part, All}
use Rattle.codec.specs.Numbers.{bytes_of}
use Rattle.codec.proofs.Tests.{eqs-true}
use Rattle.codec.proofs.Numbers.{length-bytes_of}
use Rattle.codec.proofs.Agree.{agree-part}
use Rattle.device.specs.Tape.{Op, store, flush}
use Rattle.device.specs.Cut.{after, line_of, durable, touches, with_barrier, Writes}
use Rattle.device.proofs.Clauses.{durable-here, touches-nil}
use Rattle.device.proofs.Writing.{own-storeless, writes-after, touches-left, touches-right, untouched-first, touches-out}
use Rattle.page.specs.Layout.{page_size}
use Rattle.image.specs.PageZero.{root_of, no_mark}
use Rattle.image.specs.Image.{sound}
use Rattle.image.specs.Table.{table}
use Rattle.image.proofs.General.{All-append}
use Rattle.journal.specs.Changes.{stage_a, header_line, changed_pages, same_root}
use Rattle.journal.specs.Way.{line_by}
use Rattle.journal.specs.Log.{header_stores}
use Rattle.journal.specs.Tape.{Taken, new_headers, by_header, by_root}
use Rattle.journal.specs.Edited.{Edited}
use Rattle.journal.specs.Commit.{commit_store, commit_line, Names}
use Rattle.journal.specs.Safe as safe
use Rattle.journal.specs.declared.Way.TheVariants.{ByLine}
use Rattle.journal.proofs.Standing.{line-root}
use Rattle.journal.proofs.StageA.{stage_a-closed, stage_a-writes, stage_a-dead}
use Rattle.journal.proofs.Follows.{Follows}
use Rattle.journal.proofs.Changed.{InBoth}
use Rattle.journal.proofs.Edits.{size, line-w, changed, header-own, header-length, header-write, agree}

module _ (a w : List ℕ) (s : sound a ≡ true) (d : Edited a w) where
  -- the root word of w, stored
  pub root-write : Writes w (store 8 (bytes_of 8 (root_of w)))
  root-write =
      let n = length-bytes_of 8 (root_of w) in
      (omega (arith, n, d.same_length, (size a w s d).low), ap (part w 8) n ∙ line-root w no_mark (root_of w) (line-w a w s d))

  -- a and w agree where neither stage A nor a header is stored, if the root word does not differ
  pub agree_same : same_root a w ≡ true → (i : ℕ) → touches (stage_a a w) i ≡ false → touches (header_stores ByLine (new_headers w (changed_pages a w))) i ≡ false → get_or a i 0 ≡ get_or w i 0
  unfolding same_root
  agree_same e i t u = go (dec_lt i 8) (dec_le 16 i)
    where
      go : Dec (i < 8) → Dec (16 ≤ i) → get_or a i 0 ≡ get_or w i 0
      go (yes h) k = agree a w s d i (inl h) t u
      go (no h) (yes k) = agree a w s d i (inr k) t u
      go (no h) (no k) = agree-part w a 8 8 (eqs-true (part a 8 8) (part w 8 8) e) i (omega arith) (omega arith)

  -- one store of what stands in w, after stage A, where a and w differ nowhere else
  module _ (q : ℕ) (vs : List ℕ) (stands : Writes w (store q vs)) (alike : (i : ℕ) → touches (stage_a a w) i ≡ false → (i < q) ⊎ (q + length vs ≤ i) → get_or a i 0 ≡ get_or w i 0) where
    one-leaves : (l : ℕ) → after a (stage_a a w ++ (store q vs ∷ with_barrier (flush l ∷ []))) ≡ w
    one-leaves l =
        let commit = store q vs ∷ with_barrier (flush l ∷ []) in
        writes-after w a (stage_a a w ++ commit) (sym d.same_length) (All-append (Writes w) (stage_a a w) commit (stage_a-writes a w d.same_length (size a w s d).whole) (stands, (tt, (tt, tt))))
        (λ i t. alike i (touches-left (stage_a a w) commit i t) (untouched-first q vs (with_barrier (flush l ∷ [])) i (touches-right (stage_a a w) commit i t)))

    one_follows : (x : Taken) → x.tape ≡ stage_a a w ++ (store q vs ∷ with_barrier (flush (commit_line x.place) ∷ [])) → x.commit_at ≡ length (stage_a a w) → x.work ≡ w →
        commit_store w (length (changed_pages a w)) x.place ≡ store q vs → commit_line x.place ≡ line_of q → safe.OnePlace a q vs → Names a w x.place → Follows a w x
    one_follows x tape at work is_store is_line one names =
        let l = commit_line x.place in
        record {
          safe =
              record {
                prepare = stage_a a w;
                dead = stage_a-dead a w d;
                prepared = stage_a-closed a w;
                place = q;
                bytes = vs;
                wait = with_barrier (flush l ∷ []);
                no_store = own-storeless l;
                is_durable = ap (λ (m : ℕ). durable m (with_barrier (flush l ∷ []))) (sym is_line) ∙ durable-here l [];
                rest = [];
                commits = inl (one, refl);
                shape = tape;
                leaves = ap (after a) tape ∙ one-leaves l ∙ sym work;
                is_sound = ap sound work ∙ d.is_sound;
              };
          commits = at;
          is_store = is_store;
          is_line = is_line;
          own_flush = refl;
          same_table = ap table work;
          names = names;
        }

  pub root-follows : changed_pages a w ≡ [] → Follows a w (by_root (stage_a a w) w)
  unfolding by_root commit_store commit_line header_stores
  root-follows none =
      one_follows 8 (bytes_of 8 (root_of w)) root-write alike (by_root (stage_a a w) w) refl refl refl refl refl (inr (refl, length-bytes_of 8 (root_of w))) none
    where
      alike : (i : ℕ) → touches (stage_a a w) i ≡ false → (i < 8) ⊎ (8 + length (bytes_of 8 (root_of w)) ≤ i) → get_or a i 0 ≡ get_or w i 0
      alike i t o = agree a w s d i (rw (length-bytes_of 8 (root_of w)) at o) t (ap (λ (qs : List ℕ). touches (header_stores ByLine (new_headers w qs)) i) none ∙ touches-nil i)

  pub header-follows : (p : ℕ) → changed_pages a w ≡ p ∷ [] → same_root a w ≡ true → Follows a w (by_header (stage_a a w) w p)
  unfolding by_header commit_store commit_line header_stores line_by
  header-follows p one same =
      one_follows (page_size * p) (header_line w p) (header-write a w s d p stays) alike (by_header (stage_a a w) w p) refl refl refl refl (omega arith)
      (inl (p, stays.was, refl, header-length a w s d p stays)) (one, same)
    where
      stays : InBoth a w p
      stays = (subst (All (InBoth a w)) one (changed a w s d)).0

      stores-is : header_stores ByLine (new_headers w (changed_pages a w)) ≡ store (page_size * p) (header_line w p) ∷ []
      stores-is = ap (λ (qs : List ℕ). header_stores ByLine (new_headers w qs)) one ∙ ap (λ (q : ℕ). store (page_size * q) (header_line w p) ∷ []) (header-own a w s d p stays)

      alike : (i : ℕ) → touches (stage_a a w) i ≡ false → (i < page_size * p) ⊎ (page_size * p + length (header_line w p) ≤ i) → get_or a i 0 ≡ get_or w i 0
      alike i t o = agree_same same i t (ap (λ (cs : List Op). touches cs i) stores-is ∙ touches-out (page_size * p) (header_line w p) [] i o (touches-nil i))
