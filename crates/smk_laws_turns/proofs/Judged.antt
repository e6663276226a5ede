-- The plan that is kept at a stand of a run that grows: what is refused of it, and what becomes known by it.
use Rattle.std.proofs.Common.{◌≡◌, ℕ, Bool, List, [], sym, ap, subst, ◌∙◌, Option, Some, None}
use Rattle.std.specs.List.{flat_map, slice_get, zip}
use Rattle.smk_world.specs.World.{World, out_paths}
use Rattle.smk_world.specs.Trees.{among}
use Rattle.smk_flow.specs.declared.job.Job.{Job}
use Rattle.smk_flow.specs.Flows.{Flow}
use Rattle.smk_record.specs.declared.record.Record.{Record}
use Rattle.smk_store.specs.Images.{Image}
use Rattle.smk_chain.specs.Derive.{Derived, Listings, derivation}
use Rattle.smk_pick.specs.declared.settings.Settings.{Settings}
use Rattle.smk_plan.specs.States.{HasStates, IsPlan, LastPlan, Progress, job_path, new_listings}
use Rattle.smk_plan_table.specs.Plans.{HasMadeAt}
use Rattle.smk_plan_live.specs.Live.{LivePlan}
use Rattle.smk_plan_live.specs.declared.phase.Phase.{Phase}
use Rattle.smk_plan_live.specs.Lives.{IsAgreed, judging_of}
use Rattle.smk_plan_live.specs.Lives as lives
use Rattle.smk_plan_live.specs.Phases.{begun_in, has_begun}
use Rattle.smk_plan_live.proofs.Restoring.{one_name}
use Rattle.smk_report.specs.declared.fault.Fault.{Fault}
use Rattle.smk_drive.specs.Moments.{Rules, progress_of, seen}
use Rattle.smk_drive.specs.Refusals.{ChainRefuses, PlanRefuses, refused_of}
use Rattle.smk_drive_course.specs.Stands.{Stand}
use Rattle.smk_laws_plan.specs.Current.{IsComplete}
use Rattle.smk_laws_plan.proofs.CurrentLists.{get_in}
use Rattle.smk_laws_plan.proofs.CurrentPaths.{in_among}
use Rattle.smk_laws_history.proofs.CurrentComplete.{seen_is_complete}
use Rattle.smk_laws_turns.specs.InForce.{HasCommands, IsKeptFor, kept_plan}
use Rattle.smk_laws_turns.specs.Progressing.{IsAlike}
use Rattle.smk_laws_turns.proofs.Deriving.{derivation_goes_on}
use Rattle.smk_laws_turns.proofs.InForce.{kept_is_last, kept_is_unrefused}
use Rattle.smk_laws_turns.proofs.PlansAlike.{plan_same}
use Rattle.smk_laws_turns.specs.Resting.{looked_states, refused_command}
use Rattle.smk_laws_turns.proofs.Alike.{only_commands}
use Rattle.smk_laws_turns.proofs.Commands.{HaveBegunSo, all_so, first_found, found_in, none_found, refusals, rules_by}
use Rattle.smk_laws_turns.proofs.Named.{begun_at}
use Rattle.smk_laws_turns.specs.Hubs.{Parts}
use Rattle.smk_laws_turns.specs.Onward.{IsOnward}
use Rattle.smk_laws_turns.proofs.Makers.{is_named}

module _
    (nolock : Bool) (read : List ℕ → Option Record) (flow : Flow) (settings : Settings) (entry w : World) (u : Stand) (h : Parts)
    (at : IsOnward (rules_by nolock read flow settings) entry w u h) where
  abbrev pub R : Rules
  R = rules_by nolock read flow settings

  abbrev pub image : Image
  image = seen R w

  abbrev pub first : Image
  first = seen R entry

  abbrev pub done : Progress
  done = progress_of w u.begun

  abbrev pub live : LivePlan
  live = h.live

  abbrev pub js : List Job
  js = h.live.base.jobs.jobs

  abbrev pub L : Listings
  L = h.live.base.jobs.lists

  -- ## How the plan stands to the folder

  pub complete : IsComplete image
  complete = seen_is_complete read w at.home.formed

  pub complete_first : IsComplete first
  complete_first = seen_is_complete read entry at.home.found

  -- its jobs are those that the folder calls for still
  pub derived_now : derivation flow image L settings.targets ≡ Derived js
  derived_now = derivation_goes_on flow first image L settings.targets js complete_first complete at.ours.sources at.ours.signs at.derived

  pub alike : IsAlike done (lives.progress_of live.base)
  alike = record { begun = at.progressed.begun; running = at.progressed.running }

  turned : IsAlike (lives.progress_of live.base) done
  turned = record { begun = λ n. sym (at.progressed.begun n); running = λ n. sym (at.progressed.running n) }

  agreed : IsAgreed image live.settings live.base
  agreed = subst (λ s. IsAgreed image s live.base) (sym at.settings) at.agrees

  made : HasMadeAt (judging_of image live.settings live.base) live.base.jobs live.plan
  made = (at.live.now image agreed).made

  pub planned : IsPlan flow image settings done (kept_plan live)
  planned =
      plan_same image settings (lives.progress_of live.base) done turned (kept_plan live) flow
      (record { derived = derived_now; states = subst (λ s. HasStates image s (lives.progress_of live.base) (kept_plan live)) at.settings made.states })

  pub known_so : live.plan.known ≡ new_listings image settings done (kept_plan live)
  known_so = made.known ∙ ap (λ s. new_listings image s done (kept_plan live)) at.settings

  -- ## Its commands

  -- a job has begun by its name just where its phase says so
  named_phase :
      (n : ℕ) (j : Job) (p : Phase) → slice_get js n ≡ Some j → slice_get live.base.phases n ≡ Some p →
      among (begun_in js live.base.phases) (job_path j) ≡ has_begun p
  named_phase n j p here phase =
      let named = in_among (out_paths j.recipe) (job_path j) (is_named flow image L settings.targets js complete derived_now j (get_in js n j here)) in
      begun_at js live.base.phases n j p here phase (one_name live.base at.live.sound at.agrees.served.apart n j (job_path j) here named)

  so : HaveBegunSo nolock read flow settings image done (kept_plan live) js live.base.phases
  so n j p here phase = at.progressed.begun (job_path j) ∙ named_phase n j p here phase

  found_all : flat_map (refusals nolock read flow settings image done (kept_plan live)) (zip js live.plan.states)
      ≡ flat_map (found_in flow settings.cores) (zip js (looked_states live))
  found_all = all_so nolock read flow settings image done (kept_plan live) js live.plan.states live.base.phases at.live.sound.phases so

  commands_fine : refused_command flow settings live ≡ None → HasCommands R image done (kept_plan live)
  commands_fine none = found_all ∙ none_found flow settings.cores (zip js (looked_states live)) none

  -- where no command is refused nothing is
  pub unrefused : refused_command flow settings live ≡ None → refused_of R image done (kept_plan live) ≡ []
  unrefused none = only_commands R image (lives.progress_of live.base) done turned (kept_plan live) (made.unrefused R (sym at.settings)) ∙ commands_fine none

  pub barred : (f : Fault) → refused_command flow settings live ≡ Some f → ChainRefuses R image done L f
  barred f some =
      let first = first_found flow settings.cores (zip js (looked_states live)) f some in
      PlanRefuses (kept_plan live) f first.rest planned
      (only_commands R image (lives.progress_of live.base) done turned (kept_plan live) (made.unrefused R (sym at.settings)) ∙ found_all ∙ first.is)

  -- ## The last plan

  module _ (none : refused_command flow settings live ≡ None) (known : live.plan.known ≡ []) where
    kept : IsKeptFor R image done live
    kept = record { alive = at.live; settings = at.settings; agreed = agreed; alike = turned; derived = derived_now; none = known }

    pub last : LastPlan flow image settings done L (kept_plan live)
    last = kept_is_last R image done live kept

    pub clear : (f : Fault) → ChainRefuses R image done L f → ⊥
    clear f refuses = kept_is_unrefused R image done live f complete kept (commands_fine none) refuses
