-- Which jobs are held back is what is told of it.
use Rattle.std.proofs.Common.{◌≡◌, Bool, true, false, not, cond, ◌&&◌, ◌||◌, List, [], ◌∷◌, map, zip, refl, sym, ap, ◌∙◌, Option, Some, None, is_none}
use Rattle.std.specs.List.{list_any}
use Rattle.std.proofs.Math.Bool.{or_comm}
use Rattle.smk_world.specs.World.{out_paths}
use Rattle.smk_world.specs.Trees.{Path, first as first_of}
use Rattle.smk_flow.specs.declared.job.Job.{Job}
use Rattle.smk_store.specs.Images.{Image}
use Rattle.smk_chain.specs.declared.jobs.Jobs.{Jobs}
use Rattle.smk_trigger.specs.declared.reason.Reason.{Reason}
use Rattle.smk_trigger.specs.declared.reason.State.{State}
use Rattle.smk_trigger.specs.declared.reason.State.TheVariants.{Open}
use Rattle.smk_trigger.specs.JobStates.{is_clean}
use Rattle.smk_pick.specs.declared.settings.Settings.{Settings}
use Rattle.smk_plan.specs.States.{Progress, HasStates, by_reasons, while_running, kept_state, is_open_now, is_read_now, is_to_restore, is_held_back, reasons}
use Rattle.smk_plan_states.specs.Shapes.{Parts, Paths}
use Rattle.smk_plan_states.specs.Served.{AreServed}
use Rattle.smk_plan_states.specs.Judged.{with_states}
use Rattle.smk_plan_states.specs.Parts.{parts_of, gone_outputs}
use Rattle.smk_plan_states.specs.Paths.{ArePaths, site_at}
use Rattle.smk_plan_states.specs.InUse.{in_use_told, is_in_use_told}
use Rattle.smk_plan_states.specs.First.{is_kept}
use Rattle.smk_plan_states.specs.Held.{is_needed_by, needed_told, is_kept_in, is_held_told, any_held_told}
use Rattle.smk_laws_plan.proofs.CurrentLists.{In}
use Rattle.smk_laws_plan.proofs.CurrentApart.{Apart, JobsApart, own_apart}
use Rattle.smk_laws_plan.proofs.PlanStates.{any_same}
use Rattle.smk_plan_states.proofs.Apart.{jobs_apart_from}
use Rattle.smk_plan_states.proofs.Meaning.{final, needs, restores_from}
use Rattle.smk_plan_states.proofs.Told.{kept_is}
use Rattle.smk_plan_states.proofs.ReadOthers.{read_is}

-- ## One state

held_plain : (restores read : Bool) → (is_clean (by_reasons [] (restores && not read)) && (read && restores)) ≡ (restores && read)
held_plain true true = refl
held_plain true false = refl
held_plain false true = refl
held_plain false false = refl

held_state :
    (o : Option State) (b : Bool) (rs : List Reason) (restores read : Bool) →
    ((is_none o && is_clean (while_running o (cond b Open (by_reasons rs (restores && not read))))) && (read && restores))
    ≡ (is_none o && (not b && (is_none (first_of rs) && (restores && read))))
held_state (Some s) b rs restores read = refl
held_state None true rs restores read = refl
held_state None false (r ∷ rs) restores read = refl
held_state None false [] restores read = held_plain restores read

-- ## Lists

pub any_mapped : {A B C : Type 0} (f : B × C → Bool) (g : A → B) (xs : List A) (ys : List C) → list_any f (zip (map g xs) ys) ≡ list_any (λ (e : A × C). f (g e.0, e.1)) (zip xs ys)
any_mapped f g [] ys = refl
any_mapped f g (x ∷ xs) [] = refl
any_mapped f g (x ∷ xs) (y ∷ ys) = ap (λ b. f (g x, y) || b) (any_mapped f g xs ys)

any_thrice :
    {A B C D : Type 0} (f : B × (C × D) → Bool) (g : A → B) (h : A → C) (k : A → D) (xs : List A) →
    list_any f (zip (map g xs) (zip (map h xs) (map k xs))) ≡ list_any (λ x. f (g x, (h x, k x))) xs
any_thrice f g h k [] = refl
any_thrice f g h k (x ∷ xs) = ap (λ b. f (g x, (h x, k x)) || b) (any_thrice f g h k xs)

-- ## The jobs of a plan

module _
    (image : Image) (settings : Settings) (progress : Progress) (jobs : Jobs) (asked : List Path) (paths : Paths) (parts : List Parts)
    (ss : List State) (running : List (Option State))
    (targets : settings.targets ≡ asked) (served : AreServed jobs asked) (solved : HasStates image settings progress (with_states jobs ss))
    (kept : ArePaths image jobs asked paths) (split : parts ≡ map (parts_of image) jobs.jobs)
    (begun : running ≡ map (kept_state image settings progress (with_states jobs [])) jobs.jobs) where
  abbrev apart : JobsApart jobs.jobs
  apart = jobs_apart_from jobs.jobs served.apart

  abbrev late : Job → State
  late = final image settings progress jobs ss

  abbrev began : Job → Option State
  began = kept_state image settings progress (with_states jobs [])

  abbrev used : Path → Bool
  used = in_use_told (λ q. paths.sites q) parts running

  needed_is : (q : Path) → needed_told parts ss q ≡ needs image settings progress jobs ss q
  needed_is q = ap (λ ms. list_any (is_needed_by q) (zip ms ss)) split ∙ any_mapped (is_needed_by q) (parts_of image) jobs.jobs ss

  used_is : (name : Path) → used name ≡ in_use_told (site_at image jobs) (map (parts_of image) jobs.jobs) (map began jobs.jobs) name
  used_is name = λ i. in_use_told (λ q. kept.sites q i) (split i) (begun i) name

  pub held_one :
      (j : Job) → In j jobs.jobs →
      is_held_told (is_kept_in paths) (needed_told parts ss) used (parts_of image j, (late j, began j)) ≡ is_held_back image settings progress (with_states jobs ss) j
  held_one j here =
      let own : Apart (out_paths j.recipe) = own_apart jobs.jobs j apart here in
      let k : is_kept_in paths (parts_of image j) ≡ is_kept image settings progress (with_states jobs ss) j =
      kept_is image settings progress jobs ss solved apart asked targets served.targets served.reads
      (λ q. paths.targets q) (λ q. paths.awaited q) (λ q. paths.read q) kept.targets kept.awaited kept.read j own in
      let n : list_any (needed_told parts ss) (gone_outputs image j) ≡ list_any (needs image settings progress jobs ss) (gone_outputs image j) =
      any_same (needed_told parts ss) (needs image settings progress jobs ss) (gone_outputs image j) (λ p i. needed_is p) in
      let wanted : (list_any (needed_told parts ss) (gone_outputs image j) || is_kept_in paths (parts_of image j)) ≡ is_to_restore image settings progress (with_states jobs ss) j =
      (λ i. n i || k i)
      ∙ or_comm (list_any (needs image settings progress jobs ss) (gone_outputs image j)) (is_kept image settings progress (with_states jobs ss) j)
      ∙ sym (restores_from image settings progress jobs ss j own) in
      let read : is_in_use_told used (parts_of image j) ≡ is_read_now image settings progress (with_states jobs ss) j =
      read_is image settings progress jobs ss asked served.apart served.reads used used_is j here in
      (λ i. (is_none (began j) && is_clean (late j)) && (read i && wanted i))
      ∙ held_state (began j) (is_open_now image settings progress (with_states jobs ss) j) (reasons image settings progress (with_states jobs ss) j)
      (is_to_restore image settings progress (with_states jobs ss) j) (is_read_now image settings progress (with_states jobs ss) j)

  pub held_is : any_held_told paths parts ss running ≡ list_any (is_held_back image settings progress (with_states jobs ss)) jobs.jobs
  held_is =
      (λ i. list_any (is_held_told (is_kept_in paths) (needed_told parts ss) used) (zip (split i) (zip (solved i) (begun i))))
      ∙ any_thrice (is_held_told (is_kept_in paths) (needed_told parts ss) used) (parts_of image) late began jobs.jobs
      ∙ any_same _ (is_held_back image settings progress (with_states jobs ss)) jobs.jobs held_one
