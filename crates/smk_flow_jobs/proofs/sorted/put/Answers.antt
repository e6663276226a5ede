use Rattle.std.proofs.Common.{ℕ, List, Bor, ap, ◌∙◌}
use Rattle.std.specs.List.{insert}
use Rattle.smk_base.specs.declared.tree.Pair.{Pair}
use Rattle.smk_flow.specs.Lent.{pairs_lent, place_among}
use Rattle.smk_flow_jobs.proofs.PairsPut.{put_at}
use Rattle.smk_flow_jobs.proofs.sorted.put.Goals as goal

pub returns : goal.returns
returns c =
    let old = c.args.sorted.now.items in
    let pair = c.args.pair in
    ap pairs_lent c.in_ok-insert.ensures.items ∙ ap (λ (i : ℕ). pairs_lent (insert old i pair)) c.place_among-place.ensures.place
    ∙ ap (λ (xs : List (Bor Pair)). pairs_lent (insert old (place_among pair.now (pairs_lent xs)) pair)) c.deref.ensures.value ∙ put_at old pair
