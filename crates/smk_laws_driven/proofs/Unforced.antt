-- While no job runs and none is forced, the states of a plan don't hang on which jobs have begun.
use Rattle.std.proofs.Common.{◌≡◌, Bool, true, false, not, ◌&&◌, List, [], ◌∷◌, ◌++◌, map, filter, refl, sym, ap, ◌∙◌, true≢false}
use Rattle.std.specs.Prelude.{bytes_eq, if◌then◌else◌}
use Rattle.std.specs.List.{list_all, list_any}
use Rattle.smk_world.specs.World.{in_paths, out_paths}
use Rattle.smk_world.specs.Trees.{Path, among}
use Rattle.smk_flow.specs.declared.job.Job.{Job}
use Rattle.smk_flow.specs.Flows.{Flow}
use Rattle.smk_store.specs.Images.{Image}
use Rattle.smk_store.specs.Trust.{is_marked_but, stamp_now_but}
use Rattle.smk_chain.specs.Derive.{distinct}
use Rattle.smk_trigger.specs.declared.reason.Reason.TheVariants.{Upstream, Forced}
use Rattle.smk_trigger.specs.declared.reason.State.{State}
use Rattle.smk_trigger.specs.declared.reason.State.TheVariants.{Open, Dirty, Restore, Clean}
use Rattle.smk_trigger.specs.JobStates.{is_clean, is_dirty}
use Rattle.smk_trigger.specs.Reasons.{own_reasons, when}
use Rattle.smk_pick.specs.declared.settings.Force.{Force}
use Rattle.smk_pick.specs.declared.settings.Force.TheVariants.{No}
use Rattle.smk_pick.specs.declared.settings.Settings.{Settings}
use Rattle.smk_plan.specs.States.{IsPlan, Plan, by_force, by_reasons, is_open_now, is_read_now, is_restored, is_to_restore, job_path, kept_state, made_by, makes, state_of, while_running}
use Rattle.smk_safe.specs.Exit.{begun_so}

not_both : (b : Bool) → (b && false) ≡ false
not_both true = refl
not_both false = refl

none_forced : (b c : Bool) (force : Force) → force ≡ No → (b && by_force force c) ≡ false
none_forced b c force is = ap (λ x. b && by_force x c) is ∙ not_both b

module _ (image : Image) (settings : Settings) (plan : Plan) (free : settings.force ≡ No) where
  -- the state, by whether the job is forced
  abbrev state_by : List Path → Job → Bool → State
  state_by begun j forced =
      while_running (kept_state image settings (begun_so begun) plan j)
      (if is_open_now image settings (begun_so begun) plan j then Open
      else by_reasons
      (own_reasons j.recipe (map image.kept (out_paths j.recipe)) (map (is_marked_but image (is_restored image settings (begun_so begun) plan)) (out_paths j.recipe))
      (map (λ q. (q, stamp_now_but image (is_restored image settings (begun_so begun) plan) q)) (in_paths j.recipe))
      ++ (map Upstream (filter (made_by plan is_dirty) (distinct bytes_eq (in_paths j.recipe))) ++ when forced Forced))
      (is_to_restore image settings (begun_so begun) plan j && not (is_read_now image settings (begun_so begun) plan j)))

  abbrev forced : List Path → Job → Bool
  forced begun j = not (among begun (job_path j)) && by_force settings.force (list_any (makes j) settings.targets)

  unforced : (begun : List Path) (j : Job) → forced begun j ≡ false
  unforced begun j = none_forced (not (among begun (job_path j))) (list_any (makes j) settings.targets) settings.force free

  pub state_free : (a b : List Path) (j : Job) → state_of image settings (begun_so a) plan j ≡ state_of image settings (begun_so b) plan j
  state_free a b j = ap (state_by a j) (unforced a j) ∙ sym (ap (state_by b j) (unforced b j))

  pub plan_free : (flow : Flow) (a b : List Path) → IsPlan flow image settings (begun_so a) plan → IsPlan flow image settings (begun_so b) plan
  plan_free flow a b is = record { derived = is.derived; states = is.states ∙ (λ i. map (λ j. state_free a b j i) plan.jobs) }

-- ## All Clean

clean_is : (s : State) → is_clean s ≡ true → s ≡ Clean
clean_is Clean h = refl
clean_is Open h = absurd (true≢false (sym h))
clean_is (Dirty rs) h = absurd (true≢false (sym h))
clean_is Restore h = absurd (true≢false (sym h))

front_true : (a b : Bool) → (a && b) ≡ true → (a ≡ true) × (b ≡ true)
front_true true b h = (refl, h)
front_true false b h = absurd (true≢false (sym h))

pub all_clean : (f : Job → State) (js : List Job) → list_all is_clean (map f js) ≡ true → map f js ≡ map (λ (j : Job). Clean) js
all_clean f [] h = refl
all_clean f (j ∷ js) h =
    let both = front_true (is_clean (f j)) (list_all is_clean (map f js)) h in
    let one = clean_is (f j) both.0 in
    let rest = all_clean f js both.1 in
    λ i. one i ∷ rest i
