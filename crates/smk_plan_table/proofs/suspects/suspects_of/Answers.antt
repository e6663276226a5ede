use Rattle.std.proofs.Common.{◌+◌, ◌∙◌, List, [], ◌∷◌, ◌++◌, take, ap, sym, subst}
use Rattle.std.specs.List.{AllZip}
use Rattle.std.proofs.lemmas.List.{take_all, take_more}
use Rattle.std.proofs.lemmas.Slice.Zip.{all_zipped_more}
use Rattle.smk_flow.specs.declared.job.Job.{Job}
use Rattle.smk_plan_table.specs.declared.suspects.Suspect.{Suspect}
use Rattle.smk_plan_table.specs.Parts.{IsSuspectOf}
use Rattle.smk_plan_table.proofs.suspects.suspects_of.Goals as goal

pub loop-job-preserved : goal.loop-job-preserved
loop-job-preserved g c =
    let store = g.T.Told.known c.args.told.now in
    let seen = g.T.Told.seen c.args.told.now in
    let bounds = c.args.bounds.now in
    let jobs = c.args.jobs.now in
    let i = c.loop-job.job-index in
    let job = c.job-item.result in
    let found = c.loop-job.found.items in
    let suspect = c.suspect_of-suspect.result in
    let more = take_more jobs i job c.loop-job-test.true ∙ ap (λ (j : Job). take i jobs ++ j ∷ []) (sym c.job-item.is) in
    subst (λ (ss : List Suspect). AllZip (IsSuspectOf store seen bounds) (take (i + 1) jobs) ss) (sym c.in_ok-push.ensures.items)
    (subst (λ (js : List Job). AllZip (IsSuspectOf store seen bounds) js (found ++ suspect ∷ [])) (sym more)
    (all_zipped_more (IsSuspectOf store seen bounds) (take i jobs) found job suspect c.loop-job.invariant c.suspect_of-suspect.ensures))

pub returns : goal.returns
returns g c =
    subst
    (λ (js : List Job). AllZip (IsSuspectOf (g.T.Told.known c.args.told.now) (g.T.Told.seen c.args.told.now) c.args.bounds.now) js c.loop-job.found.items)
    (take_all c.loop-job.job-index c.args.jobs.now c.loop-job-test.false) c.loop-job.invariant
