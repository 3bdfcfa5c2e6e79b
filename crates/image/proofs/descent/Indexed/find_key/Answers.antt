-- `find_key`: the leaf is read, and then searched.
-- Assumes nothing.
use Rattle.std.proofs.lemmas.Result.{err_from_is_err_and}
use Rattle.std.specs.Prelude.{Err}
use mathlib.Core.Path.{sym, ap, ◌∙◌}
use mathlib.Core.List.{List, map}
use Prim.Native.Nat.{ℕ}
use Rattle.page.specs.Layout.{leaf_kind}
use Rattle.page.specs.Page.{entries, page_ok}
use Rattle.image.specs.Table.{in_image, found_in}
use Rattle.image.proofs.Values.{page-fits}
use Rattle.image.proofs.CodeWays.{came-page, find-stops, find-ends}
use Rattle.image.proofs.descent.Indexed.find_key.Goals as goal

pub returns-in_err-own : goal.returns-in_err-own
returns-in_err-own c =
    λ nodes m.
    let s = c.args.self.now in
    let p = err_from_is_err_and c.from_residual.result c.from_residual.ensures.1 in
    let e = c.in_err-own.ensures in
    rw (p.1, p.2) (ap Err e.0 ∙ sym (find-stops s.image.now s.root c.args.key nodes (e.1 nodes m)))

pub page_of-requires : goal.page_of-requires
page_of-requires c = page-fits c.args.self.now.image.now c.in_ok-own.field-0.place.page (c.in_ok-own.ensures c.requires.0 c.requires.1).inside

pub find_in-requires : goal.find_in-requires
find_in-requires c =
    let s = c.args.self.now in
    let x = c.in_ok-own.field-0 in
    ap (page_ok leaf_kind x.place.page) c.page_of.ensures ∙ came-page s.image.now s.root c.args.key c.requires.0 x c.leaf_read.new.marks (c.in_ok-own.ensures c.requires.0 c.requires.1)

pub returns : goal.returns
returns c =
    λ nodes m.
    let s = c.args.self.now in
    let x = c.in_ok-own.field-0 in
    c.find_in.ensures ∙ ap (λ (p : List ℕ). found_in c.args.key (map (in_image x.place.page) (entries p))) c.page_of.ensures
    ∙ sym (find-ends s.image.now s.root c.args.key nodes x c.leaf_read.new.marks (c.in_ok-own.ensures nodes m))
