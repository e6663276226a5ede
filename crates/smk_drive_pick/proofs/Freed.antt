-- A job is free to begin by what is told just where it is by the definitions.
use Rattle.std.proofs.Common.{◌≡◌, ℕ, Bool, false, not, ◌&&◌, List, [], ◌++◌, map, sym, ap, subst, ◌∙◌, Option, Some, None, option_map, refl}
use Rattle.std.specs.Prelude.{slice_index_or}
use Rattle.std.specs.List.{list_all, slice_get, AllZip}
use Rattle.std.proofs.lemmas.Option.{get_or_from_slice_get, slice_get-map}
use Rattle.smk_world.specs.World.{in_paths}
use Rattle.smk_world.specs.Trees.{Path, among}
use Rattle.smk_flow.specs.declared.job.Job.{Job}
use Rattle.smk_chain.specs.declared.jobs.Jobs.{Jobs}
use Rattle.smk_chain.specs.declared.jobs.Maker.{Maker}
use Rattle.smk_trigger.specs.declared.reason.State.{State}
use Rattle.smk_trigger.specs.JobStates.{is_to_run}
use Rattle.smk_pick.specs.declared.settings.Settings.{Settings}
use Rattle.smk_plan.specs.declared.wholes.Wholes.{Wholes}
use Rattle.smk_plan.specs.Sights.{is_whole_made}
use Rattle.smk_plan.specs.States.{awaits, is_at_hand, is_read_now, job_path, kept_state, staged, test_some}
use Rattle.smk_plan_facts.specs.Facts.{IsMade}
use Rattle.smk_plan_facts.specs.Telling.{directories_of, is_told_whole, wholes_in}
use Rattle.smk_plan_states.specs.Judged.{Judging, began, with_states}
use Rattle.smk_plan_states.specs.Lines.{line_of}
use Rattle.smk_plan_states.specs.Ranks.{rank_of}
use Rattle.smk_plan_states.proofs.ByState.{run_of}
use Rattle.smk_plan_states.specs.Served.{AreServed}
use Rattle.smk_plan_states.specs.Tables.{IsTableAt, IsTableOf}
use Rattle.smk_plan_live.specs.Live.{LivePlan}
use Rattle.smk_plan_live.specs.declared.phase.Phase.{Phase}
use Rattle.smk_plan_live.specs.Lives.{IsLive, progress_of}
use Rattle.smk_plan_live.specs.Now.{known_now, seen_now}
use Rattle.smk_plan_live.specs.Phases.{has_begun}
use Rattle.smk_plan_live.proofs.Numbered.{begun_are, running_are}
use Rattle.smk_laws_plan.proofs.CurrentLists.{none_some, some_inj}
use Rattle.smk_laws_plan.proofs.CurrentApart.{JobsApart}
use Rattle.smk_laws_plan.proofs.CurrentRecipes.{map_same}
use Rattle.smk_drive_pick.specs.declared.next.Ground.{Ground}
use Rattle.smk_drive_pick.specs.Picking.{AreToldOf, is_free, plan_of}
use Rattle.smk_drive_pick.specs.Told.{is_missing, lacks_some}
use Rattle.smk_drive_pick.specs.Grounds.{IsGroundOf, is_free_by, lacks_by}
use Rattle.smk_drive_pick.proofs.Links.{first_at, flags_by, map_at, there}
use Rattle.smk_drive_pick.proofs.Lists.{and_over}
use Rattle.smk_drive_pick.proofs.Owners.{jobs_apart_from}
use Rattle.smk_drive_pick.proofs.AtHand.{lacks_is}
use Rattle.smk_drive_pick.proofs.ByRank.{missing_by}

-- what is whole by what is known and was seen now
abbrev pub whole_now : LivePlan → Wholes
whole_now live = wholes_in (known_now live.base) (seen_now live.base) live.base.jobs

module _
    (at : Judging) (live : LivePlan) (told : Ground) (alive : IsLive live) (judged : AreToldOf at live (whole_now live)) (is : IsGroundOf live told) where
  abbrev J : Jobs
  J = live.base.jobs

  abbrev ss : List State
  ss = live.plan.states

  abbrev asked : List Path
  asked = live.settings.targets

  apart : JobsApart J.jobs
  apart = jobs_apart_from J.jobs judged.served.apart

  -- by what is known and was seen now; and by the image
  abbrev seen_whole : Maker → Bool
  seen_whole = is_told_whole (seen_now live.base) (map (directories_of (known_now live.base) (seen_now live.base)) J.jobs)

  abbrev whole : Maker → Bool
  whole = is_whole_made at.image J.jobs

  flags_are : AllZip (λ m f. IsMade J.jobs m → f ≡ whole m) J.makers told.hands.wholes.now
  flags_are =
      subst (AllZip (λ m f. IsMade J.jobs m → f ≡ whole m) J.makers) (sym is.wholes)
      (flags_by (IsMade J.jobs) seen_whole whole J.makers live.flags.makers (alive.flags judged.served).makers (ap (λ (w : Wholes). w.makers) judged.whole))

  -- ## Which jobs are read from

  abbrev reads : Job → Bool
  reads = is_read_now at.image at.settings at.progress (with_states J [])

  tabled : IsTableAt at J live.table
  tabled =
      record {
        told = subst (λ (s : Settings). IsTableOf J s.targets live.table) (sym judged.settings) alive.table;
        served = subst (λ (s : Settings). AreServed J s.targets) (sym judged.settings) judged.served;
      }

  began_are : live.base.began ≡ began at J
  began_are =
      sym (map_same (kept_state at.image at.settings at.progress (with_states J []))
      (kept_state at.image at.settings (progress_of live.base) (with_states J [])) J.jobs (λ j i. judged.progress.running (job_path j))
      ∙ running_are live.base asked at.image at.settings alive.sound alive.named judged.served)

  -- ## One job

  module _ (n : ℕ) (e : Job × State) (staged_there : slice_get (staged (plan_of live)) n ≡ Some e) where
    abbrev j : Job
    j = e.0

    here : slice_get J.jobs n ≡ Some j
    here = first_at J.jobs ss n e staged_there

    begun_is : test_some has_begun (slice_get told.phases.now n) ≡ among at.progress.begun (job_path j)
    begun_is =
        ap (λ ps. test_some has_begun (slice_get ps n)) is.phases ∙ from (slice_get live.base.phases n) (among (progress_of live.base).begun (job_path j)) both
        ∙ sym (judged.progress.begun (job_path j))
      where
        both : option_map has_begun (slice_get live.base.phases n) ≡ Some (among (progress_of live.base).begun (job_path j))
        both =
            sym (slice_get-map has_begun live.base.phases n)
            ∙ ap (λ bs. slice_get bs n) (sym (begun_are live.base asked alive.sound alive.named judged.served))
            ∙ map_at (λ (k : Job). among (progress_of live.base).begun (job_path k)) J.jobs n j here

        from : (o : Option Phase) (b : Bool) → option_map has_begun o ≡ Some b → test_some has_begun o ≡ b
        from None b e = absurd (none_some None b refl e)
        from (Some p) b e = some_inj (has_begun p) b e

    used_is : slice_index_or told.used.items n false ≡ is_read_now at.image at.settings at.progress (plan_of live) j
    used_is =
        ap (λ us. slice_index_or us n false) (is.used at tabled began_are)
        ∙ get_or_from_slice_get (map reads J.jobs) n (reads j) false (map_at reads J.jobs n j here)

    line_is : slice_get told.lines.now n ≡ Some (line_of J asked j)
    line_is = ap (λ ls. slice_get ls n) (is.lines ∙ alive.table.lines) ∙ map_at (line_of J asked) J.jobs n j here

    hands_are :
        not (lacks_by told n) ≡ list_all (is_at_hand at.image at.settings at.progress (plan_of live)) (in_paths j.recipe ++ awaits (plan_of live) j)
    hands_are =
        ap (λ o. not (test_some (lacks_some (is_missing told.hands.ranks.now told.hands.origins.now told.hands.wholes.now)) o)) line_is
        ∙ ap (λ ranks. not (lacks_some (is_missing ranks told.hands.origins.now told.hands.wholes.now) (line_of J asked j))) (is.ranks ∙ judged.ranks)
        ∙ (λ i. not (lacks_some (λ link. missing_by ss told.hands.origins.now told.hands.wholes.now link i) (line_of J asked j)))
        ∙ lacks_is at.image at.settings at.progress J ss judged.each apart judged.served.reads j (there J.jobs n j here)
        told.hands.origins.now told.hands.wholes.now (is.origins ∙ alive.table.origins) flags_are asked

    pub free_is : is_free_by told n (rank_of e.1) ≡ is_free at (plan_of live) e
    free_is =
        (λ i. run_of e.1 i && (not (begun_is i) && (hands_are i && not (used_is i))))
        ∙ sym (and_over (is_to_run e.1) (not (among at.progress.begun (job_path e.0)))
        (list_all (is_at_hand at.image at.settings at.progress (plan_of live)) (in_paths e.0.recipe ++ awaits (plan_of live) e.0))
        (not (is_read_now at.image at.settings at.progress (plan_of live) e.0)))
