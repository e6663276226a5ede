-- The job that is next, by the plan in force.
use Rattle.std.proofs.Common.{◌≡◌, inl, inr, Bool, true, false, ◌&&◌, not, List, ◌∷◌, ◌++◌, zip, filter, ap, sym, subst, Option, Some, None}
use Rattle.std.specs.Prelude.{nat_le}
use Rattle.std.specs.List.{list_all}
use Rattle.smk_world.specs.declared.event.Event.{Event}
use Rattle.smk_world.specs.World.{World, in_paths}
use Rattle.smk_world.specs.Trees.{IsIn, among}
use Rattle.smk_flow.specs.declared.job.Job.{Job}
use Rattle.smk_flow.specs.Flows.{Flow}
use Rattle.smk_store.specs.Images.{Image}
use Rattle.smk_chain.specs.Derive.{Listings}
use Rattle.smk_trigger.specs.declared.reason.State.{State}
use Rattle.smk_trigger.specs.JobStates.{is_to_run}
use Rattle.smk_pick.specs.declared.settings.Settings.{Settings}
use Rattle.smk_plan.specs.States.{Plan, Progress, IsPlan, LastPlan, Last, Then, awaits, is_at_hand, is_read_now, is_startable, job_path, none_or_one, staged, state_of}
use Rattle.smk_laws_plan.proofs.CurrentLists.{and_left, and_right, filter_in, find_in, flat_in, not_true, zip_in}
use Rattle.smk_drive.specs.Moments.{Rules, IsInForce, Moment, progress_of, seen}
use Rattle.smk_drive.specs.Lawful.{fit_together, running_jobs}
use Rattle.smk_drive_course.specs.Lawful.{is_free_to_start, may_start}
use Rattle.smk_drive_course.specs.Stands.{Stand, moment_of}
use Rattle.smk_drive_course.specs.Steps.{IsNext}

-- the last plan of a chain is a plan
pub last_is_plan :
    (flow : Flow) (image : Image) (settings : Settings) (progress : Progress) (L : Listings) (plan : Plan) →
    LastPlan flow image settings progress L plan → IsPlan flow image settings progress plan
last_is_plan flow image settings progress _ plan (Last _ is done) = is
last_is_plan flow image settings progress _ plan (Then first _ is more rest) = last_is_plan flow image settings progress _ plan rest

one_in : {A : Type 0} (o : Option A) (x : A) → IsIn (none_or_one o) x → o ≡ Some x
one_in None x i = absurd i
one_in (Some y) x (inl e) = ap Some (sym e)
one_in (Some y) x (inr never) = absurd never

-- By the plan in force the job is to run, and hasn't begun; what it needs is at hand; and no child reads what it makes.
pub record IsStarting (rules : Rules) (s : Stand) (w : World) (e : Job × State) : Type 0 where
  pub plan : Plan
  pub in_force : s.plan ≡ Some plan
  pub is_plan : IsPlan rules.flow (seen rules w) rules.settings (progress_of w s.begun) plan
  pub planned : IsIn plan.jobs e.0
  pub state : e.1 ≡ state_of (seen rules w) rules.settings (progress_of w s.begun) plan e.0
  pub to_run : is_to_run e.1 ≡ true
  pub unbegun : among (progress_of w s.begun).begun (job_path e.0) ≡ false
  pub at_hand : list_all (is_at_hand (seen rules w) rules.settings (progress_of w s.begun) plan) (in_paths e.0.recipe ++ awaits plan e.0) ≡ true
  pub unread : is_read_now (seen rules w) rules.settings (progress_of w s.begun) plan e.0 ≡ false

module _ (rules : Rules) (s : Stand) (w : World) (before : List Event) (e : Job × State) (next : IsNext rules s w before e) where
  abbrev moment : Moment
  moment = moment_of s w before

  abbrev free : Plan → Job × State → Bool
  free plan k = is_free_to_start rules moment plan k && fit_together rules (k.0 ∷ running_jobs moment)

  pub starting : IsStarting rules s w e
  starting =
      let all = may_start rules moment in
      let among_them = (find_in (λ (x : Job × State). list_all (λ (k : Job × State). nat_le k.0.priority x.0.priority) all) all e next.first).0 in
      let of_plan = flat_in (λ (plan : Plan). filter (free plan) (staged plan)) (none_or_one s.plan) e among_them in
      let plan = of_plan.0 in
      let force = one_in s.plan plan of_plan.1 in
      let image = seen rules w in
      let progress = progress_of w s.begun in
      let last : IsInForce rules w s.begun s.from (Some plan) = subst (IsInForce rules w s.begun s.from) force next.clear.planned in
      let is = last_is_plan rules.flow image rules.settings progress s.from plan last in
      let passes = filter_in (free plan) (staged plan) e of_plan.2 in
      let there = zip_in (state_of image rules.settings progress plan) plan.jobs e (subst (λ ss. IsIn (zip plan.jobs ss) e) is.states passes.0) in
      let able = and_left (is_free_to_start rules moment plan e) (fit_together rules (e.0 ∷ running_jobs moment)) passes.1 in
      let startable = and_left (is_startable image rules.settings progress plan e) (not (is_read_now image rules.settings progress plan e.0)) able in
      let needs =
      and_right (is_to_run e.1)
      (not (among progress.begun (job_path e.0)) && list_all (is_at_hand image rules.settings progress plan) (in_paths e.0.recipe ++ awaits plan e.0))
      startable in
      record {
        plan = plan;
        in_force = force;
        is_plan = is;
        planned = there.0;
        state = there.1;
        to_run = and_left (is_to_run e.1) _ startable;
        unbegun = not_true (among progress.begun (job_path e.0)) (and_left (not (among progress.begun (job_path e.0))) _ needs);
        at_hand = and_right (not (among progress.begun (job_path e.0))) _ needs;
        unread = not_true (is_read_now image rules.settings progress plan e.0) (and_right (is_startable image rules.settings progress plan e) _ able);
      }
