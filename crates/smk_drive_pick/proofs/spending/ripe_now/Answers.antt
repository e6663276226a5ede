use Rattle.std.proofs.Common.{◌≡◌, ◌∙◌, false, length, map, replicate, zip, sym, ap}
use Rattle.smk_chain.specs.declared.jobs.Jobs.{Jobs}
use Rattle.std.specs.List.{list_all}
use Rattle.smk_plan_states.specs.Ranks.{rank_of}
use Rattle.smk_plan_states.specs.declared.table.Table.{Table}
use Rattle.smk_drive_pick.specs.Spending.{is_done_with, need_all, ripe_in}
use Rattle.smk_drive_pick.proofs.ByRank.{done_by}
use Rattle.smk_drive_pick.proofs.Spent.{ripe_is}
use Rattle.smk_drive_pick.proofs.spending.ripe_now.Goals as goal

pub returns : goal.returns
returns c = λ alive done free wholes at judged back.
    let live = c.args.live.now in
    let table : c.table-table.result.now ≡ live.table = c.table-table.ensures.value in
    let jobs : c.as_slice-jobs.result.now ≡ live.base.jobs.jobs = c.as_slice-jobs.ensures ∙ ap (λ (j : Jobs). j.jobs) c.jobs.ensures in
    let lines : c.lines-lines.result.now ≡ live.table.lines = c.lines-lines.ensures ∙ ap (λ (t : Table). t.lines) table in
    let origins : c.origins.result.now ≡ live.table.origins = c.origins.ensures ∙ ap (λ (t : Table). t.origins) table in
    let ranks : c.ranks-ranks.result.now ≡ map rank_of live.plan.states = c.ranks-ranks.ensures.value ∙ judged.ranks in
    c.in_ok-found.ensures
    ∙ ap (λ needed. ripe_in live needed (zip c.as_slice-jobs.result.now (zip c.lines-lines.result.now c.ranks-ranks.result.now)))
    (c.as_slice.ensures.value ∙ c.in_ok-needed.ensures)
    ∙ (λ i. ripe_in live (need_all (replicate (length (origins i)) false) (zip (lines i) (ranks i))) (zip (jobs i) (zip (lines i) (ranks i))))
    ∙ ripe_is at live wholes judged alive.table
    (sym (done_by live.plan.states) ∙ ap (list_all is_done_with) (sym judged.ranks) ∙ done) (sym back ∙ free)
