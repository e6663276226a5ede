-- What a run makes of a stand by the answer of the kept plan.
use Rattle.std.proofs.Common.{◌≡◌, ℕ, Bool, List, [], refl, sym, subst, ◌∙◌, Option, Some, None, Result, Ok, Err}
use Rattle.std.specs.List.{flat_map, slice_get, zip}
use Rattle.smk_world.specs.declared.event.Event.{Event}
use Rattle.smk_world.specs.World.{World, out_paths}
use Rattle.smk_world.specs.Trees.{IsIn, among}
use Rattle.smk_flow.specs.declared.job.Job.{Job}
use Rattle.smk_flow.specs.Flows.{Flow}
use Rattle.smk_record.specs.declared.record.Record.{Record}
use Rattle.smk_store.specs.Images.{Image}
use Rattle.smk_chain.specs.Derive.{jobs, sources_of}
use Rattle.smk_pick.specs.declared.settings.Settings.{Settings}
use Rattle.smk_plan.specs.declared.fault.PlanFault.{PlanFault}
use Rattle.smk_plan.specs.States.{HasStates, IsPlan, LastPlan, Plan, Progress, job_path}
use Rattle.smk_laws_history.proofs.CurrentComplete.{seen_is_complete}
use Rattle.smk_laws_plan.proofs.CurrentPaths.{in_among}
use Rattle.smk_laws_plan.proofs.PlanOne.{derived}
use Rattle.smk_laws_plan.specs.Current.{IsComplete}
use Rattle.smk_laws_turns.proofs.DerivedJobs.{is_named_so}
use Rattle.smk_laws_plan.proofs.CurrentLists.{get_in}
use Rattle.smk_plan_states.specs.Judged.{with_states}
use Rattle.smk_plan_table.specs.Plans.{HasMadeAt, fault_in}
use Rattle.smk_plan_live.specs.declared.base.Base.{Base}
use Rattle.smk_plan_live.specs.Live.{LivePlan}
use Rattle.smk_plan_live.specs.declared.phase.Phase.{Phase}
use Rattle.smk_plan_live.specs.Lives.{IsAgreed, IsLive, IsRefusedNow, judging_of}
use Rattle.smk_plan_live.specs.Lives as lives
use Rattle.smk_plan_live.specs.Phases.{begun_in, has_begun}
use Rattle.smk_plan_live.proofs.Restoring.{one_name}
use Rattle.smk_report.specs.declared.fault.Fault.{Fault}
use Rattle.smk_drive.specs.Moments.{Rules, progress_of, seen}
use Rattle.smk_drive.specs.Refusals.{ChainRefuses}
use Rattle.smk_drive_course.specs.Stands.{AtRest, GoesOn, IsClear, Stand, lists, replanned}
use Rattle.smk_laws_turns.specs.InForce.{HasCommands, IsKeptFor, kept_plan}
use Rattle.smk_laws_turns.specs.Progressing.{IsAlike}
use Rattle.smk_laws_turns.proofs.InForce.{kept_is_last, kept_is_unrefused}
use Rattle.smk_laws_turns.proofs.PlansAlike.{plan_same}
use Rattle.smk_laws_turns.specs.Resting.{HasGoneBy, IsResting, looked_states, refused_command}
use Rattle.smk_laws_turns.proofs.Alike.{only_commands, refused_same}
use Rattle.smk_laws_turns.proofs.Commands.{HaveBegunSo, all_so, first_found, found_in, none_found, refusals, rules_by}
use Rattle.smk_laws_turns.proofs.GoneBy.{first_refused}
use Rattle.smk_laws_turns.proofs.Named.{begun_at}
use Rattle.smk_laws_turns.proofs.Rests.{same_run}

ok_not_err : (f : Fault) → ◌≡◌ {A = Result (Unit {0}) Fault} (Ok tt) (Err f) → ⊥
ok_not_err f h = cc

module _ (nolock : Bool) (read : List ℕ → Option Record) (flow : Flow) (settings : Settings) (entry w : World) (u : Stand) (events : List Event) where
  abbrev R : Rules
  R = rules_by nolock read flow settings

  abbrev image : Image
  image = seen R w

  abbrev done : Progress
  done = progress_of w u.begun

  -- ## The plan is refused

  module _ (base : Base) (live : LivePlan) (is : IsResting R w u base) where
    turned : IsAlike (lives.progress_of base) done
    turned = record { begun = λ n. sym (is.progressed.begun n); running = λ n. sym (is.progressed.running n) }

    pub plan_refused : (refusal : PlanFault) → IsRefusedNow settings base refusal → HasGoneBy R entry w u events base live (Err (fault_in flow refusal))
    plan_refused refusal h =
        let r = h image is.agrees in
        let plan : Plan = with_states base.jobs r.states in
        let first = r.first R refl in
        first_refused R entry w u events base live is (fault_in flow refusal)
        (record {
          plan = plan;
          lists = refl;
          is = plan_same image settings (lives.progress_of base) done turned plan flow (record { derived = is.derived; states = r.table });
          rest = first.0;
          first = sym (refused_same R image (lives.progress_of base) done turned plan) ∙ first.1;
        })

  -- ## The plan was told

  module _ (live : LivePlan) (is : IsResting R w u live.base) (alive : IsLive live) (same : live.settings ≡ settings) where
    agreed : IsAgreed image live.settings live.base
    agreed = subst (λ s. IsAgreed image s live.base) (sym same) is.agrees

    complete : IsComplete image
    complete = seen_is_complete read w is.formed

    made : HasMadeAt (judging_of image live.settings live.base) live.base.jobs live.plan
    made = (alive.now image agreed).made

    planned : IsPlan flow image settings done (kept_plan live)
    planned =
        plan_same image settings (lives.progress_of live.base) done (turned live.base live is) (kept_plan live) flow
        (record { derived = is.derived; states = subst (λ s. HasStates image s (lives.progress_of live.base) (kept_plan live)) same made.states })

    apart_names : (n : ℕ) (j : Job) (p : Phase) → slice_get live.base.jobs.jobs n ≡ Some j → slice_get live.base.phases n ≡ Some p →
        among (begun_in live.base.jobs.jobs live.base.phases) (job_path j) ≡ has_begun p
    apart_names n j p at phase =
        let js = live.base.jobs.jobs in
        let found = jobs flow (sources_of image) live.base.jobs.lists settings.targets in
        let whole : found ≡ js = (derived flow image live.base.jobs.lists settings.targets js complete is.derived).1 in
        let named = in_among (out_paths j.recipe) (job_path j)
        (is_named_so flow (sources_of image) live.base.jobs.lists settings.targets j (subst (λ xs. IsIn xs j) (sym whole) (get_in js n j at))) in
        begun_at js live.base.phases n j p at phase (one_name live.base alive.sound is.agrees.served.apart n j (job_path j) at named)

    so : HaveBegunSo nolock read flow settings image done (kept_plan live) live.base.jobs.jobs live.base.phases
    so n j p at phase = is.progressed.begun (job_path j) ∙ apart_names n j p at phase

    found_all : flat_map (refusals nolock read flow settings image done (kept_plan live)) (zip live.base.jobs.jobs live.plan.states)
        ≡ flat_map (found_in flow settings.cores) (zip live.base.jobs.jobs (looked_states live))
    found_all = all_so nolock read flow settings image done (kept_plan live) live.base.jobs.jobs live.plan.states live.base.phases alive.sound.phases so

    commands_fine : refused_command flow settings live ≡ None → HasCommands R image done (kept_plan live)
    commands_fine none = found_all ∙ none_found flow settings.cores (zip live.base.jobs.jobs (looked_states live)) none

    pub command_refused : (f : Fault) → refused_command flow settings live ≡ Some f → HasGoneBy R entry w u events live.base live (Err f)
    command_refused f some =
        let first = first_found flow settings.cores (zip live.base.jobs.jobs (looked_states live)) f some in
        first_refused R entry w u events live.base live is f
        (record {
          plan = kept_plan live;
          lists = refl;
          is = planned;
          rest = first.rest;
          first = only_commands R image (lives.progress_of live.base) done (turned live.base live is) (kept_plan live) (made.unrefused R (sym same)) ∙ found_all ∙ first.is;
        })

    module _ (none : refused_command flow settings live ≡ None) (known : live.plan.known ≡ []) where
      kept : IsKeptFor R image done live
      kept = record { alive = alive; settings = same; agreed = agreed; alike = turned live.base live is; derived = is.derived; none = known }

      force : LastPlan flow image settings done (lists u) (kept_plan live)
      force = subst (λ L. LastPlan flow image settings done L (kept_plan live)) (sym is.listed) (kept_is_last R image done live kept)

      cleared : IsClear R (replanned (Some (kept_plan live)) u) w events
      cleared =
          record {
            unhalted = is.unhalted;
            at_rest = is.at_rest;
            planned = force;
            unrefused = λ f refuses.
                kept_is_unrefused R image done live f complete kept (commands_fine none) (subst (λ L. ChainRefuses R image done L f) is.listed refuses);
          }

      pub went_on : HasGoneBy R entry w u events live.base live (Ok tt)
      went_on =
          record {
            next = replanned (Some (kept_plan live)) u;
            to = replanned (Some (kept_plan live)) u;
            replanned = AtRest (Some (kept_plan live)) is.at_rest force;
            goes_by = GoesOn cleared;
            same = same_run (Some (kept_plan live)) u;
            halted = is.unhalted;
            plan = λ h. refl;
            clear = λ h. cleared;
            refused = λ f h. absurd (ok_not_err f h);
          }
