-- An output that is spent is that of a job of the plan, and has a record.
use Rattle.std.proofs.Common.{◌≡◌, Bool, true, false, ◌&&◌, not, List, [], ◌∷◌, map, zip, refl, sym, ap, subst, ◌∙◌, Option, Some, None, true≢false}
use Rattle.std.specs.Prelude.{if◌then◌else◌}
use Rattle.std.specs.List.{list_any}
use Rattle.smk_world.specs.declared.event.Event.{Event}
use Rattle.smk_world.specs.World.{World, IsFormed, in_paths, out_paths}
use Rattle.smk_world.specs.Trees.{IsIn, Path, among}
use Rattle.smk_flow.specs.declared.job.Job.{Job}
use Rattle.smk_store.specs.Images.{Image, stands}
use Rattle.smk_store.specs.Trust.{is_marked_but, stamp_now_but}
use Rattle.smk_trigger.specs.declared.reason.Reason.{Reason}
use Rattle.smk_trigger.specs.declared.reason.State.{State}
use Rattle.smk_trigger.specs.declared.reason.State.TheVariants.{Open}
use Rattle.smk_trigger.specs.JobStates.{is_clean}
use Rattle.smk_trigger.specs.Reasons.{own_reasons}
use Rattle.smk_plan.specs.States.{IsPlan, Plan, Progress, by_reasons, by_table, is_open_now, is_read_now, is_restored, is_spent, is_temporary, is_to_restore, kept_state, makes_awaited, reasons, staged, state_of, test_some, while_running}
use Rattle.smk_laws_plan.specs.Current.{IsComplete}
use Rattle.smk_laws_plan.proofs.CurrentApart.{record_stands}
use Rattle.smk_laws_plan.proofs.CurrentLists.{and_left, and_right, append_nil_left, zip_in}
use Rattle.smk_laws_plan.proofs.CurrentPaths.{among_in}
use Rattle.smk_laws_plan.proofs.CurrentSame.{kept_record, own_calm}
use Rattle.smk_laws_history.proofs.CurrentComplete.{seen_is_complete}
use Rattle.smk_laws_protocol.proofs.Basics.{some_of}
use Rattle.smk_drive.specs.Moments.{Rules, IsInForce, is_spent_now, progress_of, seen}
use Rattle.smk_drive_course.specs.Stands.{IsClear, Stand, moment_of}
use Rattle.smk_laws_moments.proofs.Next.{last_is_plan}
use Rattle.smk_laws_moments.proofs.Others.{kept_unclean}
use Rattle.smk_laws_turns.proofs.Flagged.{temp_output}

-- ## Words on states

-- what is Clean is so by the table
unkept_clean : (k : Option State) (x : State) → is_clean (while_running k x) ≡ true → is_clean x ≡ true
unkept_clean None x h = h
unkept_clean (Some x) y h = absurd (true≢false (sym h ∙ kept_unclean (Some x) y refl))

table_clean : (b : Bool) (rs : List Reason) (x : Bool) → is_clean (if b then Open else by_reasons rs x) ≡ true → rs ≡ []
table_clean true rs x h = absurd (true≢false (sym h))
table_clean false [] x h = refl
table_clean false (r ∷ rs) x h = absurd (true≢false (sym h))

-- It is an output of this job of the plan, and its record stands.
pub record IsOutputOf (image : Image) (jobs : List Job) (p : Path) : Type 0 where
  pub job : Job
  pub member : IsIn jobs job
  pub is_output : IsIn (out_paths job.recipe) p
  pub kept : stands (image.kept p) ≡ true

module _
    (rules : Rules) (s : Stand) (w : World) (before : List Event) (plan : Plan) (p : Path) (formed : IsFormed w) (clear : IsClear rules s w before)
    (planned : s.plan ≡ Some plan) (spent : is_spent_now rules (moment_of s w before) p ≡ true) where
  abbrev image : Image
  image = seen rules w

  abbrev progress : Progress
  progress = progress_of w s.begun

  complete : IsComplete image
  complete = seen_is_complete rules.read w formed

  is_plan : IsPlan rules.flow image rules.settings progress plan
  is_plan =
      let last : IsInForce rules w s.begun s.from (Some plan) = subst (λ (o : Option Plan). IsInForce rules w s.begun s.from o) planned clear.planned in
      last_is_plan rules.flow image rules.settings progress s.from plan last

  abbrev spends : Job × State → Bool
  spends e = is_spent image rules.settings progress plan e p

  found : (e : Job × State) × IsIn (staged plan) e × (spends e ≡ true)
  found =
      some_of spends (staged plan)
      (sym (ap (test_some (λ (x : Plan). list_any (λ (e : Job × State). is_spent image rules.settings progress x e p) (staged x))) planned) ∙ spent)

  abbrev j : Job
  j = found.0.0

  abbrev states : Job → State
  states k = state_of image rules.settings progress plan k

  there : IsIn plan.jobs j × (found.0.1 ≡ states j)
  there = zip_in states plan.jobs found.0 (subst (λ (ss : List State). IsIn (zip plan.jobs ss) found.0) is_plan.states found.1)

  -- three of the tests
  temporary : is_temporary image rules.settings progress plan j p ≡ true
  temporary = and_left (is_temporary image rules.settings progress plan j p) _ found.2

  clean : is_clean found.0.1 ≡ true
  clean =
      and_left (is_clean found.0.1) _
      (and_right (not (among rules.settings.targets p)) _ (and_right (is_temporary image rules.settings progress plan j p) _ found.2))

  output : IsIn (out_paths j.recipe) p
  output =
      temp_output rules.flow image plan.lists rules.settings.targets plan.jobs complete is_plan.derived j p there.0
      (among_in j.temps p (and_left (among j.temps p) (not (makes_awaited image rules.settings progress plan j)) temporary))

  -- ## Its record

  calm : reasons image rules.settings progress plan j ≡ []
  calm =
      table_clean (is_open_now image rules.settings progress plan j) (reasons image rules.settings progress plan j)
      (is_to_restore image rules.settings progress plan j && not (is_read_now image rules.settings progress plan j))
      (unkept_clean (kept_state image rules.settings progress plan j) (by_table image rules.settings progress plan j) (ap is_clean (sym there.1) ∙ clean))

  its_record : stands (image.kept p) ≡ true
  its_record =
      let left = is_restored image rules.settings progress plan in
      let kept = map image.kept (out_paths j.recipe) in
      let marked = map (is_marked_but image left) (out_paths j.recipe) in
      let stamps = map (λ q. (q, stamp_now_but image left q)) (in_paths j.recipe) in
      let own = own_calm j.recipe kept marked stamps (append_nil_left (own_reasons j.recipe kept marked stamps) _ calm) in
      let r = kept_record image (out_paths j.recipe) p own.present own.readable output in
      (record_stands image complete p r.0 r.1).0

  pub spent_output : IsOutputOf image plan.jobs p
  spent_output = record { job = j; member = there.0; is_output = output; kept = its_record }
