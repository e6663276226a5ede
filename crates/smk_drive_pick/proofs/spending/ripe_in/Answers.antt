use Rattle.std.proofs.Common.{◌∙◌, ◌+◌, ◌++◌, List, drop, zip, sym, ap}
use Rattle.std.proofs.lemmas.List.{append_assoc}
use Rattle.smk_world.specs.Trees.{Path}
use Rattle.smk_flow.specs.declared.job.Job.{Job}
use Rattle.smk_plan_states.specs.declared.lines.Line.{Line}
use Rattle.smk_plan_states.specs.declared.ranks.Rank.{Rank}
use Rattle.smk_drive_pick.specs.Spending.{ripe_by, ripe_in}
use Rattle.smk_drive_pick.proofs.Zips.{zip_thrice}
use Rattle.smk_drive_pick.proofs.spending.ripe_in.Goals as goal

pub loop-i-preserved : goal.loop-i-preserved
loop-i-preserved c =
    let live = c.args.live.now in
    let needed = c.args.needed.now in
    let jobs = c.args.jobs.now in
    let lines = c.args.lines.now in
    let ranks = c.args.ranks.now in
    let i = c.loop-i.i in
    let job = c.index-jobs-i.result in
    let line = c.in-Some.line.now in
    let rank = c.in-Some-get.rank.now in
    let old = c.loop-i.found in
    let rest = ripe_in live needed (zip (drop (i + 1) jobs) (zip (drop (i + 1) lines) (drop (i + 1) ranks))) in
    ap (λ (ps : List Path). ps ++ rest) c.in_ok-push_job.ensures
    ∙ append_assoc old (ripe_by live needed (job, (line, rank))) rest
    ∙ sym (ap (λ (es : List (Job × (Line × Rank))). old ++ ripe_in live needed es)
    (zip_thrice jobs lines ranks i job line rank c.loop-i-test.true c.index-jobs-i.is c.in-Some.ensures.lookup.0 c.in-Some.ensures.lookup.1
    c.in-Some-get.ensures.lookup.0 c.in-Some-get.ensures.lookup.1))
    ∙ c.loop-i.invariant
