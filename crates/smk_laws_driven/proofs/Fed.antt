-- What the job that is next reads holds its clean values.
use Rattle.std.proofs.Common.{◌≡◌, inl, inr, Bool, true, false, ◌||◌, cond, List, [], ◌∷◌, ◌++◌, flat_map, zip, refl, sym, ap, subst, ◌∙◌, Option, Some, None, is_none, true≢false}
use Rattle.smk_base.specs.declared.tree.Tree.{Tree}
use Rattle.smk_world.specs.declared.event.Event.{Event}
use Rattle.smk_world.specs.World.{World, IsFormed, in_paths, reading}
use Rattle.smk_world.specs.Trees.{Act, Each, IsIn, Path}
use Rattle.smk_pattern.specs.Shapes.{Text}
use Rattle.smk_pattern.proofs.Names.{numbered_all}
use Rattle.smk_flow.specs.declared.job.Job.{Job}
use Rattle.smk_flow.specs.Flows.{rule_name}
use Rattle.smk_store.specs.Images.{Image, is_source, tree_now}
use Rattle.smk_store.specs.Soundness.{SameSources, Sound}
use Rattle.smk_store.specs.Trust.{SumsDiffer, Versions}
use Rattle.smk_chain.specs.Derive.{job, sources_of}
use Rattle.smk_chain.specs.Mean.{Setting, clean_value, setting_of}
use Rattle.smk_trigger.specs.declared.reason.Reason.{Reason}
use Rattle.smk_trigger.specs.declared.reason.State.{State}
use Rattle.smk_trigger.specs.declared.reason.State.TheVariants.{Open, Dirty, Restore, Clean}
use Rattle.smk_trigger.specs.JobStates.{is_open}
use Rattle.smk_plan.specs.States.{LastPlan, Plan, Progress, awaits, by_reasons, gathers_from, is_at_hand, is_current, is_open_now, is_ready, is_restored, kept_state, reasons, staged, state_of, while_running}
use Rattle.smk_laws_plan.specs.Current.{SoundPlan, eased_by}
use Rattle.smk_laws_plan.proofs.CurrentFills.{bound_fills_from}
use Rattle.smk_laws_plan.proofs.CurrentLists.{all_in, append_nil_right, cons_nil, flat_nil, in_left, in_zip, or_first, or_second}
use Rattle.smk_laws_plan.proofs.CurrentMeaning.{contains_from, in_from, source_chosen}
use Rattle.smk_laws_plan.proofs.CurrentProducts as products
use Rattle.smk_laws_plan.proofs.CurrentProducts.{Planned, ReachedHere}
use Rattle.smk_laws_plan.proofs.CurrentReach.{choice_known}
use Rattle.smk_laws_plan.proofs.PlanOne.{job_makes}
use Rattle.smk_laws_history.proofs.CurrentComplete.{seen_is_complete}
use Rattle.smk_laws_history.proofs.CurrentReads.{reads_are_clean, same_values, wanted_comes}
use Rattle.smk_laws_history.proofs.Valid.{records_valid}
use Rattle.smk_laws_protocol.proofs.Basics.{each_of}
use Rattle.smk_report.specs.declared.fault.Fault.TheVariants as fault
use Rattle.smk_drive.specs.Moments.{IsInForce, Rules, progress_of, seen}
use Rattle.smk_drive.specs.Refusals.{above_limit, ahead, guarded, incomplete, of_command}
use Rattle.smk_drive_course.specs.Stands.{IsClear, Stand}
use Rattle.smk_laws_moments.proofs.Inputs.{maker_is, state_in}
use Rattle.smk_laws_moments.proofs.Next.{IsStarting}
use Rattle.smk_laws_complete.specs.Listed.{AreMeant, all_known}
use Rattle.smk_laws_complete.proofs.Meant.{begun_right}
use Rattle.smk_laws_driven.proofs.Fields.{unrefused}
use Rattle.smk_laws_driven.proofs.Listed.{same_setting}

-- two options of which the first is there
has_maker : (o : Option (Job × State)) (m : Job × State) (ready : Bool) → o ≡ Some m → (is_none o || ready) ≡ true → ready ≡ true
has_maker None m ready e h = absurd (not_none e)
  where
    not_none : None ≡ Some m → ⊥
    not_none x = cc
has_maker (Some n) m ready e h = h

-- ## Fields

shut_state : (o : Option State) (b : Bool) (rs : List Reason) (x : Bool) → b ≡ false → is_open (while_running o (cond b Open (by_reasons rs x))) ≡ false
shut_state o true rs x h = absurd (true≢false h)
shut_state None false [] true h = refl
shut_state None false [] false h = refl
shut_state None false (r ∷ rs) x h = refl
shut_state (Some (Dirty reasons)) false rs x h = refl
shut_state (Some Open) false [] true h = refl
shut_state (Some Open) false [] false h = refl
shut_state (Some Open) false (r ∷ rs) x h = refl
shut_state (Some Restore) false [] true h = refl
shut_state (Some Restore) false [] false h = refl
shut_state (Some Restore) false (r ∷ rs) x h = refl
shut_state (Some Clean) false [] true h = refl
shut_state (Some Clean) false [] false h = refl
shut_state (Some Clean) false (r ∷ rs) x h = refl

module _ (act : Act) (rules : Rules) (entry w : World) (H : Versions) (before : List Event) (s : Stand) (plan : Plan) (differ : SumsDiffer H)
    (formed : IsFormed w) (in_force : s.plan ≡ Some plan) (clear : IsClear rules s w before)
    (planned : Planned rules.flow (seen rules w) rules.settings (progress_of w s.begun) plan)
    (sound : Sound act H (seen rules w) (eased_by (seen rules w) (is_restored (seen rules w) rules.settings (progress_of w s.begun) plan)))
    (entry_formed : IsFormed entry) (same : SameSources (seen rules entry) (seen rules w))
    (meant : AreMeant (setting_of rules.flow act all_known (seen rules entry)) s.from rules.settings.targets) where
  abbrev image : Image
  image = seen rules w

  abbrev progress : Progress
  progress = progress_of w s.begun

  abbrev fields : Job → Bool
  fields j = is_none (rules.missing j)

  last : LastPlan rules.flow image rules.settings progress s.from plan
  last = subst (IsInForce rules w s.begun s.from) in_force clear.planned

  told : (e : Job × State) (o : Option Text) → is_open e.1 ≡ false → of_command rules image progress plan e o ≡ [] → is_none o ≡ true
  told e None shut h = refl
  told e (Some word) shut h =
      absurd (cons_nil (fault.UnknownField (rule_name rules.flow e.0.rule) word) []
      (sym (ap (λ b. cond b [] (fault.UnknownField (rule_name rules.flow e.0.rule) word ∷ [])) shut) ∙ h))

  fields_there : (j : Job) → IsIn plan.jobs j → is_open_now image rules.settings progress plan j ≡ false → fields j ≡ true
  fields_there j i h =
      let none = unrefused rules image progress s.from plan last clear.unrefused in
      let one = append_nil_right (incomplete rules image progress plan) _ none in
      let two = append_nil_right (guarded rules image progress plan) _ one in
      let three = append_nil_right (flat_map (above_limit rules image progress plan) (ahead rules image progress plan)) _ two in
      let there : IsIn (staged plan) (j, state_of image rules.settings progress plan j) =
      subst (λ ss. IsIn (zip plan.jobs ss) (j, state_of image rules.settings progress plan j)) (sym planned.derived.states)
      (in_zip (state_of image rules.settings progress plan) plan.jobs j i) in
      told (j, state_of image rules.settings progress plan j) (rules.missing j)
      (shut_state (kept_state image rules.settings progress plan j) (is_open_now image rules.settings progress plan j) (reasons image rules.settings progress plan j) _ h)
      (flat_nil (λ (e : Job × State). of_command rules image progress plan e (rules.missing e.0)) (staged plan)
      (j, state_of image rules.settings progress plan j) three there)

  meant_now : AreMeant (setting_of rules.flow act all_known image) s.from rules.settings.targets
  meant_now =
      subst (λ (X : Setting). AreMeant X s.from rules.settings.targets)
      (same_setting rules.flow act all_known (seen rules entry) image (seen_is_complete rules.read entry entry_formed) (seen_is_complete rules.read w formed) same)
      meant

  sound_plan : SoundPlan rules.flow act fields image H rules.settings progress s.from plan
  sound_plan =
      record {
        sound = sound;
        differ = differ;
        complete = seen_is_complete rules.read w formed;
        valid = records_valid rules.read w.names (λ q. reading (w.nodes q));
        listed =
            begun_right rules.flow act image H rules.settings progress (seen_is_complete rules.read w formed)
            (records_valid rules.read w.names (λ q. reading (w.nodes q))) differ s.from plan last sound meant_now fields;
        last = last;
        fields = λ j there shut. fields_there j (in_from plan.jobs j there) shut;
      }

  -- ## Inputs at hand are current

  current_input : (j : Job) (q : Path) → IsIn plan.jobs j → IsIn (in_paths j.recipe) q → is_at_hand image rules.settings progress plan q ≡ true →
      is_current image rules.settings progress plan q ≡ true
  current_input j q ij iq hand =
      let came = wanted_comes rules.flow act fields image H rules.settings progress plan planned j q ij (in_left q (in_paths j.recipe) (gathers_from j) iq) in
      let reached : ReachedHere rules.flow act fields image H rules.settings progress plan came.0 q = came.2 in
      elim (choice_known rules.flow (sources_of image) plan.lists came.0 q reached.calm) [
        | inl e ↦ or_first (is_source image q) (is_ready image rules.settings progress plan q) (source_chosen rules.flow (sources_of image) q e)
        | inr c ↦
            let k = job rules.flow plan.lists c.0 in
            let is =
            maker_is rules.flow act image rules.settings progress plan planned k q
            (products.in_plan_here rules.flow act fields image H rules.settings progress plan (bound_fills_from numbered_all) planned came.0 q c.0 reached c.1)
            (job_makes rules.flow (sources_of image) plan.lists q c.0 c.1) in
            or_second (is_source image q) (is_ready image rules.settings progress plan q)
            (has_maker _ (k, state_in rules.flow act image rules.settings progress plan planned k) (is_ready image rules.settings progress plan q) is hand)
      ]

  -- what a clean run makes of the sources that the run found
  abbrev clean_at : Path → Option Tree
  clean_at q = clean_value (setting_of rules.flow act fields (seen rules entry)) q

  pub input_clean : (j : Job) (q : Path) → IsIn plan.jobs j → IsIn (in_paths j.recipe) q → is_at_hand image rules.settings progress plan q ≡ true →
      tree_now image q ≡ clean_at q
  input_clean j q ij iq hand =
      let c =
      reads_are_clean rules.flow act fields image H rules.settings progress s.from plan sound_plan j q (contains_from plan.jobs j ij)
      (contains_from (in_paths j.recipe ++ gathers_from j) q (in_left q (in_paths j.recipe) (gathers_from j) iq)) (current_input j q ij iq hand) in
      c.1
      ∙ sym
      (same_values rules.flow act fields (seen rules entry) image (seen_is_complete rules.read entry entry_formed) (seen_is_complete rules.read w formed) same q
      ∙ c.2)

  -- So all that the job that is next reads is.
  pub next_fed : (e : Job × State) (at : IsStarting rules s w e) → at.plan ≡ plan → Each (λ q. tree_now image q ≡ clean_at q) (in_paths e.0.recipe)
  next_fed e at is =
      each_of (λ q. tree_now image q ≡ clean_at q) (in_paths e.0.recipe) (λ q i.
      input_clean e.0 q (subst (λ (p : Plan). IsIn p.jobs e.0) is at.planned) i
      (subst (λ (p : Plan). is_at_hand image rules.settings progress p q ≡ true) is
      (all_in (is_at_hand image rules.settings progress at.plan) (in_paths e.0.recipe ++ awaits at.plan e.0) q at.at_hand
      (in_left q (in_paths e.0.recipe) (awaits at.plan e.0) i))))
