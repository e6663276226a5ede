-- At the end of a run each field of the commands of jobs that aren't Open has a value, since no plan is refused.
use Rattle.std.proofs.Common.{◌≡◌, Bool, true, false, cond, List, [], ◌∷◌, ◌++◌, flat_map, zip, find, refl, sym, ap, subst, ◌∙◌, Option, Some, None, option_map, is_none, true≢false}
use Rattle.std.specs.Prelude.{bytes_eq}
use Rattle.smk_world.specs.Trees.{Path, IsIn}
use Rattle.smk_pattern.specs.Shapes.{Text}
use Rattle.smk_flow.specs.declared.job.Job.{Job}
use Rattle.smk_flow.specs.Flows.{rule_name}
use Rattle.smk_store.specs.Images.{Image}
use Rattle.smk_chain.specs.Derive.{Listings}
use Rattle.smk_trigger.specs.declared.reason.Reason.{Reason}
use Rattle.smk_trigger.specs.declared.reason.State.{State}
use Rattle.smk_trigger.specs.declared.reason.State.TheVariants.{Open}
use Rattle.smk_trigger.specs.JobStates.{is_open}
use Rattle.smk_plan.specs.States.{IsPlan, Last, LastPlan, Plan, Progress, Then, by_reasons, by_table, is_open_now, job_path, new_listings, reasons, staged, state_of, while_running}
use Rattle.smk_laws_plan.proofs.CurrentLists.{append_nil_right, cons_nil, flat_nil, in_zip}
use Rattle.smk_report.specs.declared.fault.Fault.{Fault}
use Rattle.smk_report.specs.declared.fault.Fault.TheVariants as fault
use Rattle.smk_drive.specs.Moments.{Rules}
use Rattle.smk_drive.specs.Refusals.{ChainRefuses, NextRefuses, PlanRefuses, above_limit, ahead, guarded, incomplete, of_command, refused_of}

-- where no plan of a chain is refused, nothing is refused of the last
pub unrefused :
    (rules : Rules) (image : Image) (progress : Progress) (L : Listings) (plan : Plan) → LastPlan rules.flow image rules.settings progress L plan →
    ((f : Fault) → ¬ ChainRefuses rules image progress L f) → refused_of rules image progress plan ≡ []
unrefused rules image progress L plan (Last p is done) none = go (refused_of rules image progress p) refl
  where
    go : (fs : List Fault) → refused_of rules image progress p ≡ fs → fs ≡ []
    go [] e = refl
    go (f ∷ fs) e = absurd (none f (PlanRefuses p f fs is e))
unrefused rules image progress L plan (Then p last is more rest) none =
    unrefused rules image progress (p.lists ++ new_listings image rules.settings progress p) last rest (λ f r. none f (NextRefuses p f is own more r))
  where
    go : (fs : List Fault) → refused_of rules image progress p ≡ fs → fs ≡ []
    go [] e = refl
    go (f ∷ fs) e = absurd (none f (PlanRefuses p f fs is e))

    own : refused_of rules image progress p ≡ []
    own = go (refused_of rules image progress p) refl

shut_state : (b : Bool) (rs : List Reason) (x : Bool) → b ≡ false → is_open (cond b Open (by_reasons rs x)) ≡ false
shut_state true rs x h = absurd (true≢false h)
shut_state false [] true h = refl
shut_state false [] false h = refl
shut_state false (r ∷ rs) x h = refl

module _ (rules : Rules) (plan : Plan) where
  state_shut :
      (image : Image) (progress : Progress) → progress.running ≡ [] → (j : Job) → is_open_now image rules.settings progress plan j ≡ false →
      is_open (state_of image rules.settings progress plan j) ≡ false
  state_shut image progress rest j h =
      ap (λ (r : List (Path × State)). is_open
      (while_running (option_map (λ (e : Path × State). e.1) (find (λ (e : Path × State). bytes_eq e.0 (job_path j)) r))
      (by_table image rules.settings progress plan j))) rest
      ∙ shut_state (is_open_now image rules.settings progress plan j) (reasons image rules.settings progress plan j) _ h

  told :
      (image : Image) (progress : Progress) (e : Job × State) (o : Option Text) → is_open e.1 ≡ false → of_command rules image progress plan e o ≡ [] →
      is_none o ≡ true
  told image progress e None shut h = refl
  told image progress e (Some word) shut h =
      absurd (cons_nil (fault.UnknownField (rule_name rules.flow e.0.rule) word) []
      (sym (ap (λ b. cond b [] (fault.UnknownField (rule_name rules.flow e.0.rule) word ∷ [])) shut) ∙ h))

  -- nothing is refused of the plan in one image, and it has the states of another
  pub fields_known :
      (a b : Image) (p q : Progress) → refused_of rules a p plan ≡ [] → IsPlan rules.flow b rules.settings q plan → q.running ≡ [] →
      (j : Job) → IsIn plan.jobs j → is_open_now b rules.settings q plan j ≡ false → is_none (rules.missing j) ≡ true
  fields_known a b p q none is rest j i h =
      let one = append_nil_right (incomplete rules a p plan) _ none in
      let two = append_nil_right (guarded rules a p plan) _ one in
      let three = append_nil_right (flat_map (above_limit rules a p plan) (ahead rules a p plan)) _ two in
      let there : IsIn (staged plan) (j, state_of b rules.settings q plan j) =
      subst (λ ss. IsIn (zip plan.jobs ss) (j, state_of b rules.settings q plan j)) (sym is.states)
      (in_zip (state_of b rules.settings q plan) plan.jobs j i) in
      told a p (j, state_of b rules.settings q plan j) (rules.missing j) (state_shut b q rest j h)
      (flat_nil (λ (e : Job × State). of_command rules a p plan e (rules.missing e.0)) (staged plan) (j, state_of b rules.settings q plan j) three there)
