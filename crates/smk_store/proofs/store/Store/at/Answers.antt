use Rattle.std.proofs.Common.{◌<◌, length, get_or, subst, ap, ◌∙◌, Some, Ok, Err, rules}
use Rattle.std.specs.List.Sorted.{IsBinarySearchResult}
use Rattle.std.specs.Cmp.Lexicographic.{slice_cmp}
use Rattle.std.specs.Ordering.{nat_cmp}
use Rattle.std.proofs.lemmas.Fn.{always_returns_same}
use Rattle.smk_store.specs.Stores.{entry_of}
use Rattle.smk_store.proofs.Stored.{searched_ok, searched_err}
use Rattle.smk_store.proofs.store.Store.at.Goals as goal

pub returns-in-Ok : goal.returns-in-Ok
returns-in-Ok c =
    let p = c.args.bytes.now in
    let i = c.in-Ok.i in
    let e = c.index-as_slice-i.result in
    let found = c.in-Ok.ensures.position (λ q. slice_cmp nat_cmp q p) (always_returns_same _ _ _ (λ a r q k. search rules)) in
    ap Some (c.index-as_slice-i.is ∙ ap (λ l. get_or l i e) c.as_slice-in-Ok.ensures)
    ∙ searched_ok p c.self.inside.paths c.self.inside.entries i e c.self.invariant.rising c.self.invariant.each (subst (λ l. i < length l) c.as_slice.ensures c.in-Ok.ensures.bound)
    (subst (λ l. IsBinarySearchResult (λ q. slice_cmp nat_cmp q p) l (Ok i)) c.as_slice.ensures found)
    ∙ ap (λ ks. entry_of ks p) c.self.view_is

pub returns-in-Err : goal.returns-in-Err
returns-in-Err c =
    let p = c.args.bytes.now in
    let found = c.in-Err.ensures.position (λ q. slice_cmp nat_cmp q p) (always_returns_same _ _ _ (λ a r q k. search rules)) in
    searched_err p c.self.inside.paths c.self.inside.entries c.in-Err.field-0 c.self.invariant.rising
    (subst (λ l. IsBinarySearchResult (λ q. slice_cmp nat_cmp q p) l (Err c.in-Err.field-0)) c.as_slice.ensures found)
    ∙ ap (λ ks. entry_of ks p) c.self.view_is
