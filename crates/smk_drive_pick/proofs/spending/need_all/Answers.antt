use Rattle.std.proofs.Common.{◌∙◌, ◌+◌, Bool, List, drop, zip, sym, ap}
use Rattle.smk_plan_states.specs.declared.lines.Line.{Line}
use Rattle.smk_plan_states.specs.declared.ranks.Rank.{Rank}
use Rattle.smk_drive_pick.specs.Spending.{need_all}
use Rattle.smk_drive_pick.proofs.Zips.{zip_more}
use Rattle.smk_drive_pick.proofs.spending.need_all.Goals as goal

pub loop-i-preserved : goal.loop-i-preserved
loop-i-preserved c =
    let lines = c.args.lines.now in
    let ranks = c.args.ranks.now in
    let i = c.loop-i.i in
    ap (λ (bs : List Bool). need_all bs (zip (drop (i + 1) lines) (drop (i + 1) ranks))) c.need_of.ensures
    ∙ sym (ap (λ (es : List (Line × Rank)). need_all c.loop-i.needed.items es)
    (zip_more lines ranks i c.index-lines-i.result c.in-Some.rank.now c.loop-i-test.true c.index-lines-i.is c.in-Some.ensures.lookup.0 c.in-Some.ensures.lookup.1))
    ∙ c.loop-i.invariant
