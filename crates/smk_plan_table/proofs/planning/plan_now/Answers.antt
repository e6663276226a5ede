use Rattle.std.proofs.Common.{◌≡◌, ◌∙◌, Bool, List, Option, map, length, refl, sym, ap, subst}
use Rattle.std.specs.List.{AllZip}
use Rattle.std.proofs.lemmas.List.{length-map}
use Rattle.smk_world.specs.Trees.{first}
use Rattle.smk_flow.specs.declared.job.Job.{Job}
use Rattle.smk_store.specs.Stores.{Known}
use Rattle.smk_trigger.specs.declared.reason.State.{State}
use Rattle.smk_pick.specs.declared.settings.Settings.{Settings}
use Rattle.smk_plan.specs.declared.fault.PlanFault.{PlanFault}
use Rattle.smk_plan.specs.declared.seen.Sight.{Sight}
use Rattle.smk_plan_states.specs.declared.ranks.Rank.{Rank}
use Rattle.smk_plan_states.specs.Ranks.{rank_of}
use Rattle.smk_plan_table.specs.declared.suspects.Suspect.{Suspect}
use Rattle.smk_plan_table.specs.Parts.{before_in, idle_in, refusals_in, IsSuspectOf}
use Rattle.smk_plan_table.proofs.Assembled.{refusal, made_of}
use Rattle.smk_plan_table.proofs.planning.plan_now.Goals as goal

-- what is found of lent jobs and ranks is found of the jobs and ranks
found_of : (store : List Known) (seen : List Sight) (settings : Settings) (running : List (Option State)) (begun : List Bool) (suspects : List Suspect)
    (lent jobs : List Job) → lent ≡ jobs → (shown ranks : List Rank) → shown ≡ ranks → (found : Option PlanFault) →
    (AllZip (IsSuspectOf store seen settings.bounds) lent suspects → found ≡ first (refusals_in store seen settings (idle_in lent running) (before_in lent shown begun))) →
    AllZip (IsSuspectOf store seen settings.bounds) jobs suspects → found ≡ first (refusals_in store seen settings (idle_in jobs running) (before_in jobs ranks begun))
found_of store seen settings running begun suspects lent jobs j shown ranks s found told of =
    told (subst (λ (js : List Job). AllZip (IsSuspectOf store seen settings.bounds) js suspects) (sym j) of)
    ∙ (λ i. first (refusals_in store seen settings (idle_in (j i) running) (before_in (j i) (s i) begun)))

pub returns-in-Ok-Some-clause-refused : goal.returns-in-Ok-Some-clause-refused
returns-in-Ok-Some-clause-refused g c = λ told image progress agree given states table ranked.
    let store = g.T.Told.known c.args.told.now in
    let seen = g.T.Told.seen c.args.told.now in
    refusal image c.args.settings.now progress c.args.jobs.now store seen agree
    c.args.rows.now.running.now given.right.running c.args.begun.now given.begun states table c.in-Ok-Some.fault
    (sym c.in-Ok-Some.field-0-is
    ∙ found_of store seen c.args.settings.now c.args.rows.now.running.now c.args.begun.now c.args.suspects.now
    c.as_slice.result.now c.args.jobs.now.jobs c.as_slice.ensures c.ranks.result.now (map rank_of states) (c.ranks.ensures ∙ ranked) c.in-Ok-Some.field-0
    c.in-Ok-Some.ensures given.doubted)

pub returns-in-Ok-clause-made : goal.returns-in-Ok-clause-made
returns-in-Ok-clause-made g c = λ image progress agree given states table ranked.
    let store = g.T.Told.known c.args.told.now in
    let seen = g.T.Told.seen c.args.told.now in
    let each : length states ≡ length c.args.jobs.now.jobs = sym (length-map states rank_of) ∙ ap length (sym ranked) ∙ c.requires.each in
    made_of image c.args.settings.now progress c.args.jobs.now store seen agree
    c.args.rows.now.running.now given.right.running c.args.begun.now given.begun states table
    (sym c.in-Ok-None.field-0-is
    ∙ found_of store seen c.args.settings.now c.args.rows.now.running.now c.args.begun.now c.args.suspects.now
    c.as_slice.result.now c.args.jobs.now.jobs c.as_slice.ensures c.ranks.result.now (map rank_of states) (c.ranks.ensures ∙ ranked) c.in-Ok-None.field-0
    c.in-Ok-None.ensures given.doubted)
    (record { states = states; current = c.in-Ok.made.current; known = c.in-Ok.made.known }) refl
    (c.in-Ok.ensures.current c.args.jobs.now image progress agree (record { told = c.requires.table; served = agree.served }) given.right states ranked each)
    (c.in-Ok.ensures.known c.args.jobs.now image progress agree (record { told = c.requires.table; served = agree.served }) given.right states ranked each)
