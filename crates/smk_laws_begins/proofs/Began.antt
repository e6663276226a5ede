-- The job that is next has begun: what the kept plan is to know and see then is so in the folder.
use Rattle.std.proofs.Common.{◌≡◌, ℕ, Bool, true, false, List, [], ◌∷◌, ◌++◌, refl, sym, ap, subst, ◌∙◌, is_some}
use Rattle.smk_world.specs.declared.event.Event.{Event}
use Rattle.smk_world.specs.World.{World, run}
use Rattle.smk_world.specs.Calls.{HasOwners}
use Rattle.smk_world.specs.Requests.{HasDone}
use Rattle.smk_world.specs.Runs.{Follows}
use Rattle.smk_world.specs.Trees.{Act, Each, IsIn, among, is_path_text}
use Rattle.smk_record.specs.declared.record.Stamp.{Stamp}
use Rattle.smk_flow.specs.declared.job.Job.{Job}
use Rattle.smk_format.specs.Commands.{command as format_command}
use Rattle.smk_pick.specs.declared.room.Ask.{Ask}
use Rattle.smk_pick.specs.Rooms.{threads_in}
use Rattle.smk_plan.specs.States.{Plan, job_path}
use Rattle.smk_laws_plan.proofs.CurrentApart.{JobsApart}
use Rattle.smk_laws_plan.proofs.PlanOne.{derived_apart}
use Rattle.smk_laws_history.proofs.CurrentComplete.{seen_is_complete}
use Rattle.smk_report.specs.Lines.{Text}
use Rattle.smk_job.specs.Jobs.{Underway, begin_requests}
use Rattle.smk_drive.specs.Moments.{Begun, Rules, begun_of, lists_of, progress_of, runs, seen}
use Rattle.smk_plan_live.specs.declared.base.Base.{Base}
use Rattle.smk_plan_live.specs.Carried.{begun}
use Rattle.smk_plan_live.specs.Lives.{IsAgreed}
use Rattle.smk_plan_live.specs.Lives.{progress_of as kept_progress}
use Rattle.smk_drive_pick.specs.Picking.{AreAlike}
use Rattle.smk_drive_step.specs.Beginning.{HasReadAndBegun}
use Rattle.smk_drive_course.specs.Stands.{Stand, moment_of, with_job}
use Rattle.smk_drive_course.specs.Steps.{Deed, IsToBegin, calls_of}
use Rattle.smk_laws_turns.specs.Progressing.{IsStarted}
use Rattle.smk_laws_turns.proofs.Agreeing.{begin_agrees}
use Rattle.smk_laws_turns.proofs.Deriving.{derivation_goes_on}
use Rattle.smk_laws_turns.proofs.Progressing.{begins_alike}
use Rattle.smk_laws_turns.specs.Hubs.{IsAt, IsHome, IsKept, Parts, child_of}
use Rattle.smk_laws_turns.proofs.Homes.{home_stays}
use Rattle.smk_laws_turns.specs.Begun.{BeginDiffers, IsBegunFor}
use Rattle.smk_laws_turns.specs.Resting.{IsResting}
use Rattle.smk_laws_begins.specs.Fitting.{IsFit}
use Rattle.smk_laws_begins.specs.Begins.{MayTake}
use Rattle.smk_laws_begins.proofs.Beside.{is_started, new_runs, other_name, still_runs}
use Rattle.smk_laws_begins.proofs.Picked.{kept, unhalted}
use Rattle.smk_laws_begins.proofs.Resting.{rest_more}
use Rattle.smk_laws_begins.proofs.ToBegin.{IsTaken, planned, to_begin}
use Rattle.smk_laws_plan.proofs.CurrentLists.{get_in}

module _ (begin_differs : BeginDiffers) (act : Act) (rules : Rules) (entry : World) (h : Parts) (s : Stand) (w : World) (before : List Event) (deeds : List Deed) (number : ℕ)
    (at : IsAt rules entry h s w before deeds) (may : MayTake rules.settings h number)
    (j : Job) (known : List Stamp) (made : ℕ) (draws : Bool) (command : Text) (ask : Ask)
    (fit : IsFit rules.settings h number j known made draws command ask) (logged : Each (λ p. is_path_text p ≡ true) j.logs)
    (texts : rules.command ≡ format_command) (x : IsTaken rules entry h s w before deeds number at may j fit.is)
    (going : Underway) (es : List Event) (up : HasReadAndBegun j known made command going w es) (follows : Follows act w es) (owners : HasOwners w) where
  abbrev pub w1 : World
  w1 = run w es

  abbrev pub base : Base
  base = h.live.base

  pub kept_at : IsKept rules entry h s w before
  kept_at = kept rules entry h s w before deeds number at may

  -- what has begun, and the stand with it
  abbrev pub new : Begun
  new = begun_of rules entry (moment_of s w before) (j, x.state)

  abbrev pub u : Stand
  u = with_job new going s

  abbrev pub base1 : Base
  base1 = begun number x.state j base

  pub made_is : going.made ≡ made
  made_is = ap (λ (g : Underway). g.made) up.is

  pub recipe_is : going.recipe ≡ j.recipe
  recipe_is = ap (λ (g : Underway). g.recipe) up.is

  pub to_begin_now : IsToBegin rules entry s w before (j, x.state) going.made going.stamps
  to_begin_now =
      subst (λ n. IsToBegin rules entry s w before (j, x.state) n going.stamps) (sym made_is)
      (to_begin rules entry h s w before deeds number at may j fit.is known made draws command ask fit act x going.stamps up.reads logged up.read up.short)

  pub calls : HasDone (calls_of rules j) up.beginning
  calls =
      subst (λ text. HasDone (begin_requests j.recipe j.logs text) up.beginning)
      (fit.text ∙ ap (λ (f : Job → ℕ → Text). f j (threads_in rules.settings.cores j.threads)) (sym texts)) up.calls

  pub home : IsHome entry w1
  home = home_stays act entry w es follows at.home

  pub differs : IsBegunFor rules entry base.jobs w w1 j
  differs =
      begin_differs act rules entry h s w before deeds (j, x.state) going.made going.stamps es up.reads up.beginning at owners to_begin_now up.events
      up.read.only_read calls follows

  -- ## Children

  unbegun : among (progress_of w s.begun).begun (job_path j) ≡ false
  unbegun = (planned rules entry h s w before deeds number at may j fit.is x).unbegun

  abbrev pub plan : Plan
  plan = (planned rules entry h s w before deeds number at may j fit.is x).plan

  module _ (children : w1.children ≡ w.children ++ child_of going ∷ []) where
    pub other : (b : Begun) → IsIn s.begun b → job_path b.job ≡ job_path j → ⊥
    other = other_name w w1 s.begun j x.state going new children recipe_is unbegun refl refl refl (seen rules w) rules.settings plan

    pub same_run : (b : Begun) → IsIn s.begun b → runs w1 b.job ≡ runs w b.job
    same_run = still_runs w w1 s.begun j x.state going new children recipe_is unbegun refl refl refl (seen rules w) rules.settings plan

    pub its_run : runs w1 j ≡ true
    its_run = new_runs w w1 s.begun j x.state going new children recipe_is unbegun refl refl refl (seen rules w) rules.settings plan

    pub started : IsStarted j x.state (progress_of w s.begun) (progress_of w1 u.begun)
    started = is_started w w1 s.begun j x.state going new children recipe_is unbegun refl refl refl (seen rules w) rules.settings plan

    -- ## What is so then

    pub agrees_now : IsAgreed (seen rules w1) rules.settings base1
    agrees_now =
        begin_agrees (seen rules w) (seen rules w1) rules.settings base number x.state j at.live.sound fit.is kept_at.agrees differs.differs differs.outputs

    pub progressed_now : AreAlike (progress_of w1 u.begun) (kept_progress base1)
    progressed_now =
        let alike =
        begins_alike base number x.state j (progress_of w s.begun) (progress_of w1 u.begun) at.live.sound kept_at.agrees.served.apart fit.is
        (ap is_some fit.named) (record { begun = kept_at.progressed.begun; running = kept_at.progressed.running }) started in
        record { begun = alike.begun; running = alike.running }

    apart : JobsApart base.jobs.jobs
    apart =
        derived_apart rules.flow (seen rules entry) base.jobs.lists rules.settings.targets base.jobs.jobs (seen_is_complete rules.read entry at.home.found) at.derived

    pub resting : IsResting rules w1 u base1
    resting =
        record {
          formed = home.formed;
          unhalted = unhalted rules entry h s w before deeds number at may;
          at_rest =
              rest_more w w1 base.jobs.jobs apart j (get_in base.jobs.jobs number j fit.is) differs.still_gone s.begun new at.planned other same_run its_run
              x.next.clear.at_rest;
          listed = ap (λ o. lists_of o s.from) kept_at.plan;
          agrees = agrees_now;
          progressed = progressed_now;
          derived =
              derivation_goes_on rules.flow (seen rules entry) (seen rules w1) base.jobs.lists rules.settings.targets base.jobs.jobs
              (seen_is_complete rules.read entry at.home.found) (seen_is_complete rules.read w1 home.formed) differs.ours.sources differs.ours.signs at.derived;
        }
