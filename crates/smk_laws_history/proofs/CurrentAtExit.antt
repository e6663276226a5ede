-- The law of current targets in the words of a run: a plan of which nothing is refused has all its commands' fields.
use Rattle.std.proofs.Common.{◌≡◌, Bool, true, false, cond, List, [], ◌∷◌, ◌++◌, map, filter, flat_map, zip, refl, sym, ap, subst, ◌∙◌, Option, Some, None, option_map, is_none, true≢false, Contains, IsTrue}
use Rattle.std.specs.List.{find, list_any}
use Rattle.std.specs.Prelude.{bytes_eq}
use Rattle.smk_world.specs.declared.event.Child.{Child}
use Rattle.smk_world.specs.World.{World}
use Rattle.smk_world.specs.Trees.{Path}
use Rattle.smk_pattern.specs.Shapes.{Text}
use Rattle.smk_flow.specs.declared.job.Job.{Job}
use Rattle.smk_flow.specs.Flows.{rule_name}
use Rattle.smk_world.specs.declared.event.Event.{Event}
use Rattle.smk_report.specs.declared.fault.Fault.{Fault}
use Rattle.smk_chain.specs.Derive.{Listings}
use Rattle.smk_store.specs.Images.{Image}
use Rattle.smk_trigger.specs.declared.reason.Reason.{Reason}
use Rattle.smk_trigger.specs.declared.reason.State.{State}
use Rattle.smk_trigger.specs.declared.reason.State.TheVariants.{Open}
use Rattle.smk_trigger.specs.JobStates.{is_open}
use Rattle.smk_plan.specs.States.{is_restored, Plan, Progress, IsPlan, LastPlan, Last, Then, new_listings, is_open_now, state_of, by_table, by_reasons, while_running, job_path, staged, reasons}
use Rattle.smk_report.specs.declared.fault.Fault.TheVariants as fault
use Rattle.smk_drive.specs.Moments.{Rules, Moment, Begun, IsMoment, AtEntry, AtRest as RestMoment, Between, IsInForce, is_rest, seen, progress_of, is_child_of}
use Rattle.smk_drive.specs.Refusals.{ChainRefuses, PlanRefuses, NextRefuses, refused_of, incomplete, guarded, above_limit, ahead, of_command}
use Rattle.smk_world.specs.World.{reading}
use Rattle.smk_world.specs.Trees.{Act}
use Rattle.smk_store.specs.Trust.{Versions, SumsDiffer}
use Rattle.smk_store.specs.Soundness.{SoundWorld}
use Rattle.smk_chain.specs.Mean.{setting_of}
use Rattle.smk_drive.specs.Refusals.{PlansRefuse}
use Rattle.smk_laws_plan.specs.Current.{SoundPlan, GathersRight}
use Rattle.smk_laws_history.specs.AtExit.{CurrentAtExitIsClean}
use Rattle.smk_laws_history.proofs.CurrentComplete.{seen_is_complete}
use Rattle.smk_laws_history.proofs.CurrentEased.{none_restored, sound_none}
use Rattle.smk_laws_history.proofs.Valid.{records_valid}
use Rattle.smk_laws_plan.proofs.CurrentLists.{In, in_zip, flat_nil, append_nil_right, cons_nil}
use Rattle.smk_laws_plan.proofs.CurrentMeaning.{in_from}
use Rattle.smk_laws_history.proofs.CurrentLaw.{current_means_clean, last_is}

pub none_run : (w : World) (begun : List Begun) → w.children ≡ [] → (progress_of w begun).running ≡ []
none_run w begun h =
    ap (λ (cs : List Child). map (λ (b : Begun). (job_path b.job, b.state)) (filter (λ (b : Begun). list_any (is_child_of b.job) cs) begun)) h
    ∙ ap (map (λ (b : Begun). (job_path b.job, b.state))) (none_kept begun)
  where
    none_kept : (bs : List Begun) → filter (λ (b : Begun). false) bs ≡ []
    none_kept [] = refl
    none_kept (b ∷ bs) = none_kept bs

shut_state : (b : Bool) (rs : List Reason) (x : Bool) → b ≡ false → is_open (cond b Open (by_reasons rs x)) ≡ false
shut_state true rs x h = absurd (true≢false h)
shut_state false [] true h = refl
shut_state false [] false h = refl
shut_state false (r ∷ rs) x h = refl

module _ (rules : Rules) (image : Image) (progress : Progress) (plan : Plan) where
  state_shut : progress.running ≡ [] → (j : Job) → is_open_now image rules.settings progress plan j ≡ false → is_open (state_of image rules.settings progress plan j) ≡ false
  state_shut rest j h =
      ap (λ (r : List (Path × State)). is_open (while_running (option_map (λ (e : Path × State). e.1) (find (λ (e : Path × State). bytes_eq e.0 (job_path j)) r)) (by_table image rules.settings progress plan j))) rest
      ∙ shut_state (is_open_now image rules.settings progress plan j) (reasons image rules.settings progress plan j) _ h

  told : (e : Job × State) (o : Option Text) → is_open e.1 ≡ false → of_command rules image progress plan e o ≡ [] → is_none o ≡ true
  told e None shut h = refl
  told e (Some word) shut h =
      absurd (cons_nil (fault.UnknownField (rule_name rules.flow e.0.rule) word) []
      (sym (ap (λ b. cond b [] (fault.UnknownField (rule_name rules.flow e.0.rule) word ∷ [])) shut) ∙ h))

  fields_known :
      IsPlan rules.flow image rules.settings progress plan → progress.running ≡ [] → refused_of rules image progress plan ≡ [] →
      (j : Job) → Contains plan.jobs j → is_open_now image rules.settings progress plan j ≡ false → is_none (rules.missing j) ≡ true
  fields_known is rest none j i h =
      let one = append_nil_right (incomplete rules image progress plan) _ none in
      let two = append_nil_right (guarded rules image progress plan) _ one in
      let three = append_nil_right (flat_map (above_limit rules image progress plan) (ahead rules image progress plan)) _ two in
      let e : Job × State = (j, state_of image rules.settings progress plan j) in
      let inn : In (j, state_of image rules.settings progress plan j) (staged plan) =
      subst (λ ss. In (j, state_of image rules.settings progress plan j) (zip plan.jobs ss)) (sym is.states)
      (in_zip (state_of image rules.settings progress plan) plan.jobs j (in_from plan.jobs j i)) in
      told (j, state_of image rules.settings progress plan j) (rules.missing j) (state_shut rest j h)
      (flat_nil (λ (e : Job × State). of_command rules image progress plan e (rules.missing e.0)) (staged plan) (j, state_of image rules.settings progress plan j) three inn)

-- the plan of a moment at rest is the one in force then
pub in_force : (rules : Rules) (entry : World) (log : List Event) (m : Moment) → IsMoment rules entry log m → is_rest m.world m.begun ≡ true → IsInForce rules m.world m.begun m.from m.plan
in_force rules entry log m (AtEntry plan is) rest = is
in_force rules entry log m (RestMoment events before e plan was now is) rest = is
in_force rules entry log m (Between events before e was still) rest = absurd (true≢false (sym rest ∙ still))

-- where no plan of a chain is refused, nothing is refused of the last
unrefused :
    (rules : Rules) (image : Image) (progress : Progress) (L : Listings) (plan : Plan) → LastPlan rules.flow image rules.settings progress L plan →
    ((f : Fault) → ¬ ChainRefuses rules image progress L f) → refused_of rules image progress plan ≡ []
unrefused rules image progress L plan (Last p is done) none = go (refused_of rules image progress p) refl
  where
    go : (fs : List Fault) → refused_of rules image progress p ≡ fs → fs ≡ []
    go [] e = refl
    go (f ∷ fs) e = absurd (none f (PlanRefuses p f fs is e))
unrefused rules image progress L plan (Then p last is more rest) none =
    unrefused rules image progress (p.lists ++ new_listings image rules.settings progress p) last rest (λ f r. none f (NextRefuses p f is own more r))
  where
    go : (fs : List Fault) → refused_of rules image progress p ≡ fs → fs ≡ []
    go [] e = refl
    go (f ∷ fs) e = absurd (none f (PlanRefuses p f fs is e))

    own : refused_of rules image progress p ≡ []
    own = go (refused_of rules image progress p) refl

-- what the law asks, at a rest
last_fields :
    (act : Act) (rules : Rules) (entry : World) (log : List Event) (m : Moment) (H : Versions) (plan : Plan) → IsMoment rules entry log m →
    IsTrue (is_rest m.world m.begun) → m.plan ≡ Some plan → SoundWorld (record { read = rules.read; act = act }) m.world H → SumsDiffer H →
    ((f : Fault) → ¬ PlansRefuse rules m f) →
    GathersRight (setting_of rules.flow act (λ j. is_none (rules.missing j)) (seen rules m.world)) (seen rules m.world) rules.settings (progress_of m.world m.begun) plan m.from →
    SoundPlan rules.flow act (λ j. is_none (rules.missing j)) (seen rules m.world) H rules.settings (progress_of m.world m.begun) m.from plan
last_fields act rules entry log m H plan moment at_rest planned sound differ none listed =
    let image = seen rules m.world in
    let progress = progress_of m.world m.begun in
    let last = subst (IsInForce rules m.world m.begun m.from) planned (in_force rules entry log m moment at_rest) in
    let rest = none_run m.world m.begun sound.no_child in
    let is = last_is rules.flow image rules.settings progress m.from plan last in
    record {
      sound = sound_none image (is_restored image rules.settings progress plan) (none_restored image rules.settings progress plan rest) act H sound.now;
      differ = differ;
      complete = seen_is_complete rules.read m.world sound.formed;
      valid = records_valid rules.read m.world.names (λ q. reading (m.world.nodes q));
      listed = listed;
      last = last;
      fields = fields_known rules image progress plan is rest (unrefused rules image progress m.from plan last none);
    }

pub current_at_exit_is_clean : CurrentAtExitIsClean
current_at_exit_is_clean act rules entry log m H plan moment at_rest planned sound differ none listed p inn current =
    current_means_clean rules.flow act (λ j. is_none (rules.missing j)) (seen rules m.world) H rules.settings (progress_of m.world m.begun) m.from plan
    (last_fields act rules entry log m H plan moment at_rest planned sound differ none listed) p inn current
