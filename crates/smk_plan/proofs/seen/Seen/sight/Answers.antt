use Rattle.std.proofs.Common.{◌<◌, ◌∙◌, Some, Ok, Err, length, get_or, ap, subst, rules}
use Rattle.std.specs.List.Sorted.{IsBinarySearchResult}
use Rattle.std.specs.Cmp.Lexicographic.{slice_cmp}
use Rattle.std.specs.Ordering.{nat_cmp}
use Rattle.std.proofs.lemmas.Fn.{always_returns_same}
use Rattle.smk_world.specs.Trees.{Path}
use Rattle.smk_plan.specs.declared.seen.Sight.{Sight}
use Rattle.smk_plan.specs.Sights.{sight_at}
use Rattle.smk_plan.proofs.Sought.{found_by, missed_by}
use Rattle.smk_plan.proofs.seen.Seen.sight.Goals as goal

pub returns-in-Ok : goal.returns-in-Ok
returns-in-Ok c =
    let p = c.as_bytes-bytes.result.now in
    let i = c.in-Ok.i in
    let s = c.index-as_slice-i.result in
    let found = c.in-Ok.ensures.position (λ (q : Sight). slice_cmp nat_cmp q.path p) (always_returns_same _ _ _ (λ a r q k. search rules)) in
    ap Some (c.index-as_slice-i.is ∙ ap (λ l. get_or l i s) c.as_slice-in-Ok.ensures)
    ∙ found_by (λ (q : Sight). q.path) p c.self.inside.sights i s c.self.invariant (subst (λ l. i < length l) c.as_slice.ensures c.in-Ok.ensures.bound)
    (subst (λ l. IsBinarySearchResult (λ (q : Sight). slice_cmp nat_cmp q.path p) l (Ok i)) c.as_slice.ensures found)
    ∙ ap (λ (b : Path). sight_at c.self.inside.sights b) (c.as_bytes-bytes.ensures.value ∙ c.as_str.ensures.text)
    ∙ ap (λ ss. sight_at ss c.args.path.now) c.self.view_is

pub returns-in-Err : goal.returns-in-Err
returns-in-Err c =
    let p = c.as_bytes-bytes.result.now in
    let found = c.in-Err.ensures.position (λ (q : Sight). slice_cmp nat_cmp q.path p) (always_returns_same _ _ _ (λ a r q k. search rules)) in
    missed_by (λ (q : Sight). q.path) p c.self.inside.sights c.in-Err.field-0 c.self.invariant
    (subst (λ l. IsBinarySearchResult (λ (q : Sight). slice_cmp nat_cmp q.path p) l (Err c.in-Err.field-0)) c.as_slice.ensures found)
    ∙ ap (λ (b : Path). sight_at c.self.inside.sights b) (c.as_bytes-bytes.ensures.value ∙ c.as_str.ensures.text)
    ∙ ap (λ ss. sight_at ss c.args.path.now) c.self.view_is
