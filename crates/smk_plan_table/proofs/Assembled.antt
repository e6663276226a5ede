-- The parts of a plan, put together.
use Rattle.std.proofs.Common.{◌≡◌, Bool, true, List, [], ◌++◌, map, Option, Some, None, sym, ap, subst, ◌∙◌}
use Rattle.std.specs.Prelude.{◌&&◌, is_none}
use Rattle.std.specs.List.{filter, AllZip}
use Rattle.smk_plan_facts.proofs.Reasoned.{all_reasons_as, all_forced_as}
use Rattle.smk_plan_facts.proofs.Tests.{each_of}
use Rattle.smk_choose.proofs.Listed.{map_same}
use Rattle.smk_world.specs.World.{in_paths, out_paths}
use Rattle.smk_world.specs.Trees.{Path, among, first}
use Rattle.smk_flow.specs.declared.job.Job.{Job}
use Rattle.smk_store.specs.Images.{Image, is_source}
use Rattle.smk_store.specs.Stores.{Known}
use Rattle.smk_store.specs.Trust.{stamp_now}
use Rattle.smk_chain.specs.Derive.{Listings, listing}
use Rattle.smk_chain.specs.declared.jobs.Jobs.{Jobs}
use Rattle.smk_trigger.specs.declared.facts.JobFacts.{JobFacts}
use Rattle.smk_trigger.specs.declared.reason.Reason.{Reason}
use Rattle.smk_trigger.specs.declared.reason.Reason.TheVariants.{Forced}
use Rattle.smk_trigger.specs.declared.reason.State.{State}
use Rattle.smk_trigger.specs.Reasons.{own_reasons, when, reasons_of}
use Rattle.smk_pick.specs.declared.settings.Settings.{Settings}
use Rattle.smk_plan.specs.declared.fault.PlanFault.{PlanFault}
use Rattle.smk_plan.specs.declared.plan.Plan.{Plan as Told}
use Rattle.smk_plan.specs.declared.seen.Sight.{Sight}
use Rattle.smk_plan.specs.States.{Plan, Progress, HasStates, kept_state, is_forced, is_ready, is_current, awaited, files_listed, new_listings}
use Rattle.smk_drive.specs.Moments.{Rules}
use Rattle.smk_plan_facts.specs.Facts.{having_run, facts_of, told_sources, AreFactsOf}
use Rattle.smk_plan_states.specs.Judged.{with_states, reasons_now, AreJudged}
use Rattle.smk_plan_states.specs.declared.lines.Target.{Target}
use Rattle.smk_plan_states.specs.Lines.{target_of}
use Rattle.smk_plan_states.specs.Ranks.{rank_of}
use Rattle.smk_plan_table.specs.Parts.{before_in, current_in, idle_in, listing_in, refusals_in}
use Rattle.smk_plan_table.specs.Plans.{Agree, begun_at, idle_at, at_rest, HasMadeAt, IsUnrefused, IsRefusedAt}
use Rattle.smk_plan_table.proofs.Refused.{front_of, refused_first, unrefused_all}
use Rattle.smk_plan_table.proofs.Idle.{idle_same, now_alone}
use Rattle.smk_plan_table.proofs.Told.{current_all, files_same, is_source_told, source_same, zip_same}

module _ (image : Image) (settings : Settings) (progress : Progress) (jobs : Jobs) (store : List Known) (seen : List Sight) (agree : Agree image jobs store seen settings.targets) where
  -- ## Refusals

  abbrev pub first_of : List Job → List Job → Option PlanFault
  first_of idle front = first (refusals_in store seen settings idle front)

  -- the idle jobs and those that are ahead are told by flags
  first_same : (running : List (Option State)) → running ≡ map (kept_state image settings progress (with_states jobs [])) jobs.jobs →
      (flags : List Bool) → flags ≡ begun_at progress jobs.jobs → (states : List State) →
      first_of (idle_in jobs.jobs running) (before_in jobs.jobs (map rank_of states) flags) ≡ first_of (idle_at progress jobs.jobs) (front_of progress (with_states jobs states))
  first_same running r flags b states =
      ap (λ (idle : List Job). first_of idle (before_in jobs.jobs (map rank_of states) flags)) (ap (idle_in jobs.jobs) r ∙ idle_same image settings progress jobs jobs.jobs)
      ∙ ap (λ (bs : List Bool). first_of (idle_at progress jobs.jobs) (before_in jobs.jobs (map rank_of states) bs)) b

  pub refusal : (running : List (Option State)) → running ≡ map (kept_state image settings progress (with_states jobs [])) jobs.jobs →
      (flags : List Bool) → flags ≡ begun_at progress jobs.jobs → (states : List State) → HasStates image settings progress (with_states jobs states) →
      (f : PlanFault) → Some f ≡ first_of (idle_in jobs.jobs running) (before_in jobs.jobs (map rank_of states) flags) →
      IsRefusedAt (record { image = image; settings = settings; progress = progress }) jobs f
  refusal running r flags b states table f e =
      record {
        states = states;
        table = table;
        first = λ rules same.
            refused_first rules image progress (with_states jobs states) store seen agree.stored agree.sighted.outputs f
            (subst (λ s. Some f ≡ first (refusals_in store seen s (idle_at progress jobs.jobs) (front_of progress (with_states jobs states)))) (sym same)
            (e ∙ first_same running r flags b states));
      }

  nothing_refused : (states : List State) → None ≡ first_of (idle_at progress jobs.jobs) (front_of progress (with_states jobs states)) →
      (rules : Rules) → rules.settings ≡ settings → IsUnrefused rules image progress (with_states jobs states)
  nothing_refused states e rules same =
      unrefused_all rules image progress (with_states jobs states) store seen agree.stored agree.sighted.outputs
      (subst (λ s. None ≡ first (refusals_in store seen s (idle_at progress jobs.jobs) (front_of progress (with_states jobs states)))) (sym same) e)

  pub made_of : (running : List (Option State)) → running ≡ map (kept_state image settings progress (with_states jobs [])) jobs.jobs →
      (flags : List Bool) → flags ≡ begun_at progress jobs.jobs → (states : List State) → HasStates image settings progress (with_states jobs states) →
      None ≡ first_of (idle_in jobs.jobs running) (before_in jobs.jobs (map rank_of states) flags) →
      (told : Told) → told.states ≡ states → told.current ≡ map (is_current image settings progress (with_states jobs states)) settings.targets →
      told.known ≡ new_listings image settings progress (with_states jobs states) → HasMadeAt (record { image = image; settings = settings; progress = progress }) jobs told
  made_of running r flags b states table none told e c k =
      let free = nothing_refused states (none ∙ first_same running r flags b states) in
      record {
        states = subst (λ s. HasStates image settings progress (with_states jobs s)) (sym e) table;
        current = c ∙ ap (λ s. map (is_current image settings progress (with_states jobs s)) settings.targets) (sym e);
        known = k ∙ ap (λ s. new_listings image settings progress (with_states jobs s)) (sym e);
        unrefused = λ rules same. subst (λ s. IsUnrefused rules image progress (with_states jobs s)) (sym e) (free rules same);
      }

-- ## What is judged where none runs

module _ (image : Image) (settings : Settings) (ran : List Path) (jobs : Jobs) where
  reasons_same : (j : Job) → reasons_of (facts_of image settings ran (with_states jobs []) j) ≡ reasons_now image settings (having_run ran) jobs j
  reasons_same j =
      ap (λ now. own_reasons j.recipe (map image.kept (out_paths j.recipe)) (map image.marked (out_paths j.recipe)) now ++ when (is_forced image settings (having_run ran) (with_states jobs []) j) Forced)
      (zip_same (stamp_now image) (in_paths j.recipe))
      ∙ now_alone image settings ran jobs j

  pub judged : (facts : List JobFacts) (reasons : List (List Reason)) (forced : List Bool) (running : List (Option State)) →
      AllZip (AreFactsOf image settings ran (with_states jobs [])) jobs.jobs facts → reasons ≡ map reasons_of facts → forced ≡ map (λ (f : JobFacts). f.forced) facts →
      running ≡ map (λ j. None) jobs.jobs → AreJudged (at_rest image settings ran) jobs (record { reasons = reasons; forced = forced; running = running })
  judged facts reasons forced running f r o n =
      record {
        reasons =
            r ∙ all_reasons_as image settings ran (with_states jobs []) jobs.jobs facts f
            ∙ map_same (λ j. reasons_of (facts_of image settings ran (with_states jobs []) j)) (reasons_now image settings (having_run ran) jobs) reasons_same jobs.jobs;
        forced = o ∙ all_forced_as image settings ran (with_states jobs []) jobs.jobs facts f;
        running = n;
      }

-- ## What is told

module _ (image : Image) (settings : Settings) (progress : Progress) (jobs : Jobs) (store : List Known) (seen : List Sight) (agree : Agree image jobs store seen settings.targets) (plan : Plan) where
  pub current_same : (ready current : List Bool) (targets : List Target) → ready ≡ map (is_ready image settings progress plan) settings.targets →
      targets ≡ map (target_of jobs) settings.targets → current ≡ current_in store seen settings.targets targets ready →
      current ≡ map (is_current image settings progress plan) settings.targets
  current_same ready current targets r t c =
      c ∙ ap (λ (ts : List Target). current_in store seen settings.targets ts ready) t
      ∙ ap (current_in store seen settings.targets (map (target_of jobs) settings.targets)) r
      ∙ current_all jobs store seen (is_source image) (is_ready image settings progress plan) settings.targets
      (each_of (λ t. is_source image t ≡ true → among (told_sources jobs.makers) t ≡ true) (λ t. is_source_told jobs store seen t ≡ is_source image t)
      (λ t told. source_same image jobs store seen t agree.stored agree.sighted.sources told) settings.targets agree.asked)

  pub known_same : (folders : List Path) (known : Listings) →
      folders ≡ filter (λ d. is_ready image settings progress plan d && is_none (listing plan.lists d)) (awaited image settings progress plan) →
      known ≡ map (listing_in store) folders → known ≡ new_listings image settings progress plan
  known_same folders known f k =
      k ∙ ap (map (listing_in store)) f
      ∙ map_same (listing_in store) (λ d. record { folder = d; files = files_listed image d }) (λ d. λ i. record { folder = d; files = files_same image store agree.stored d i })
      (filter (λ d. is_ready image settings progress plan d && is_none (listing plan.lists d)) (awaited image settings progress plan))
