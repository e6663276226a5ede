use Rattle.std.proofs.Common.{ap, ◌∙◌, set, subst, ◌<◌}
use Rattle.std.proofs.lemmas.List.Edits.{map_over_more}
use Rattle.smk_pick.specs.Shares.{raised}
use Rattle.smk_pick.proofs.room.raise_all.Goals as goal

pub loop-i-preserved : goal.loop-i-preserved
loop-i-preserved c =
    ap (set c.loop-i.shares.items c.loop-i.i) c.raise.ensures
    ∙ map_over_more (raised c.args.asked.now) c.args.shares.now.items c.loop-i.shares.items c.loop-i.i c.index_mut.result.now (subst (λ n. c.loop-i.i < n) (c.len-i-end.ensures ∙ c.args.shares.now.ok.0) c.loop-i-test.true) c.loop-i.invariant
    c.index_mut.ensures.value
