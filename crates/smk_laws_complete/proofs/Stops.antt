-- What the chain of plans may refuse where each target has a clean value.
use Rattle.std.proofs.Common.{◌≡◌, ◌⊎◌, ℕ, Bool, true, false, cond, ◌&&◌, List, [], ◌∷◌, ◌++◌, filter, flat_map, length, refl, sym, ap, subst, inl, inr, ◌∙◌, arith, Option, Some, None, option_map, find, not, zip, is_none, true≢false}
use Rattle.std.specs.Prelude.{nat_lt, bytes_eq}
use Rattle.smk_base.specs.declared.tree.Amount.{Amount}
use Rattle.smk_world.specs.World.{out_paths}
use Rattle.smk_world.specs.Trees.{Path, Act}
use Rattle.smk_pattern.specs.Shapes.{Text}
use Rattle.smk_pattern.proofs.Names.{numbered_all}
use Rattle.smk_flow.specs.declared.job.Job.{Job}
use Rattle.smk_flow.specs.Flows.{rule_name}
use Rattle.smk_store.specs.Images.{Image}
use Rattle.smk_store.specs.Trust.{Versions, SumsDiffer, none_eased}
use Rattle.smk_store.specs.Soundness.{Sound}
use Rattle.smk_chain.specs.Derive.{Derived, Listings, Refusal, Refused, TooManyPaths, clashes, derivation, jobs, outcome, reach, refused_if, sources_of, spots}
use Rattle.smk_chain.specs.Mean.{setting_of}
use Rattle.smk_trigger.specs.declared.reason.Reason.{Reason}
use Rattle.smk_trigger.specs.declared.reason.State.{State}
use Rattle.smk_trigger.specs.declared.reason.State.TheVariants.{Open}
use Rattle.smk_trigger.specs.JobStates.{is_open}
use Rattle.smk_pick.specs.Rooms.{amount, threads_in}
use Rattle.smk_plan.specs.States.{Plan, Progress, IsPlan, by_reasons, is_open_now, is_read_now, is_to_restore, job_path, kept_state, new_listings, reasons, staged, state_of, while_running}
use Rattle.smk_plan.specs.Sights.{is_guarded}
use Rattle.smk_report.specs.declared.fault.Fault.{Fault}
use Rattle.smk_report.specs.declared.fault.Fault.TheVariants as fault
use Rattle.smk_drive.specs.Moments.{Rules}
use Rattle.smk_drive.specs.Refusals.{ChainRefuses, ComesTo, DerivationRefuses, Here, IsFault, NextRefuses, Onward, PlanRefuses, above_limit, ahead, guarded, has_nul, incomplete, is_ahead, is_running, of_command, refused_of, too_long, unless_empty}
use Rattle.smk_laws_plan.specs.Current.{IsComplete, HasValidRecords}
use Rattle.smk_laws_plan.proofs.CurrentLists.{In, cons_nil, flat_in, in_either, map_in, none_some, zip_in}
use Rattle.smk_laws_plan.proofs.CurrentMeaning.{contains_from}
use Rattle.smk_laws_plan.proofs.CurrentFills.{bound_fills_from}
use Rattle.smk_laws_complete.specs.Derived.{AllHaveValues, GathersAlone}
use Rattle.smk_laws_complete.specs.Planned.{CleanTargetsArePlanned, MayStop, TooMany, Clashing, Incomplete, Protected, AboveLimit, TooLong}
use Rattle.smk_laws_complete.proofs.Calm.{clean_targets_are_derived}
use Rattle.smk_laws_complete.proofs.Came.{AllCame, next_came, none_came, plan_rested, right}

-- ## The first refusal of a derivation

refusal_of : (a b : Refusal) → Refused a ≡ Refused b → a ≡ b
refusal_of a b h = cc

derived_refused : (js : List Job) (r : Refusal) → Derived js ≡ Refused r → ⊥
derived_refused js r h = grind arith

-- if nothing else is refused there are too many paths
first_is : (b : Bool) (js : List Job) (r : Refusal) → outcome (refused_if b TooManyPaths ++ []) js ≡ Refused r → r ≡ TooManyPaths
first_is true js r h = sym (refusal_of TooManyPaths r h)
first_is false js r h = absurd (derived_refused js r h)

-- ## The refusals of a plan

module _ (rules : Rules) (image : Image) (progress : Progress) where
  abbrev May : Fault → Type 0
  May f = MayStop rules image progress f

  many : (f : Fault) → IsFault rules.flow TooManyPaths f → May f
  many f (count, above, e) = subst May (sym e) (TooMany count)

  marked : (paths : List Path) (f : Fault) → In f (unless_empty paths) → May f
  marked [] f h = absurd h
  marked (p ∷ paths) f (inl e) = subst May (sym e) (Incomplete (p ∷ paths))
  marked (p ∷ paths) f (inr h) = absurd h

  long : (rule text : Text) (f : Fault) → In f (too_long rule text) → May f
  long rule text f h = go (has_nul text) h
    where
      one : (bytes : ℕ) → In f (fault.TooLong rule bytes ∷ []) → May f
      one bytes (inl e) = subst May (sym e) (TooLong rule bytes)
      one bytes (inr k) = absurd k

      more : (b : Bool) → In f (cond b (fault.TooLong rule (length text) ∷ []) []) → May f
      more true k = one (length text) k
      more false k = absurd k

      go : (b : Bool) → In f (cond b (fault.TooLong rule 0 ∷ []) (cond (nat_lt 120000 (length text)) (fault.TooLong rule (length text) ∷ []) [])) → May f
      go true k = one 0 k
      go false k = more (nat_lt 120000 (length text)) k

  module _ (plan : Plan) where
    not_complete : (f : Fault) → In f (incomplete rules image progress plan) → May f
    not_complete f h = go rules.settings.rerun_incomplete h
      where
        go : (b : Bool) → In f (cond b [] (unless_empty (filter image.marked (flat_map (λ (j : Job). out_paths j.recipe) (filter (λ j. not (is_running rules image progress plan j)) plan.jobs))))) → May f
        go true k = absurd k
        go false k = marked _ f k

    in_the_way : (f : Fault) → In f (guarded rules image progress plan) → May f
    in_the_way f h =
        let r = map_in fault.Protected (filter (is_guarded image) (flat_map (λ (j : Job). out_paths j.recipe) (ahead rules image progress plan))) f h in
        subst May (sym r.2) (Protected r.0)

    too_much : (j : Job) (f : Fault) → In f (above_limit rules image progress plan j) → May f
    too_much j f h =
        let r =
        map_in (λ (b : Amount). fault.AboveLimit (rule_name rules.flow j.rule) (job_path j) b.name (amount j.amounts b.name) b.count)
        (filter (λ (b : Amount). nat_lt b.count (amount j.amounts b.name)) rules.settings.bounds) f h in
        subst May (sym r.2) (AboveLimit (rule_name rules.flow j.rule) (job_path j) r.0.name (amount j.amounts r.0.name) r.0.count)

    commanded :
        (e : Job × State) (f : Fault) → (is_open e.1 ≡ false → rules.missing e.0 ≡ None) → In f (of_command rules image progress plan e (rules.missing e.0)) → May f
    commanded e f known h = go (rules.missing e.0) refl h
      where
        unknown : (b : Bool) (word : Text) → is_open e.1 ≡ b → rules.missing e.0 ≡ Some word → In f (cond b [] (fault.UnknownField (rule_name rules.flow e.0.rule) word ∷ [])) → May f
        unknown true word s m k = absurd k
        unknown false word s m k = absurd (none_some (rules.missing e.0) word (known s) m)

        text : (b : Bool) → In f (cond b (too_long (rule_name rules.flow e.0.rule) (rules.command e.0 (threads_in rules.settings.cores e.0.threads))) []) → May f
        text true k = long (rule_name rules.flow e.0.rule) (rules.command e.0 (threads_in rules.settings.cores e.0.threads)) f k
        text false k = absurd k

        go : (o : Option Text) → rules.missing e.0 ≡ o → In f (of_command rules image progress plan e o) → May f
        go (Some word) m k = unknown (is_open e.1) word refl m k
        go None m k = text (is_ahead rules image progress plan e) k

    plan_stops :
        (f : Fault) → ((e : Job × State) → In e (staged plan) → is_open e.1 ≡ false → rules.missing e.0 ≡ None) → In f (refused_of rules image progress plan) → May f
    plan_stops f known h = first (in_either f (incomplete rules image progress plan) _ h)
      where
        last : In f (flat_map (λ (e : Job × State). of_command rules image progress plan e (rules.missing e.0)) (staged plan)) → May f
        last k =
            let r = flat_in (λ (e : Job × State). of_command rules image progress plan e (rules.missing e.0)) (staged plan) f k in
            commanded r.0 f (known r.0 r.1) r.2

        third : In f (flat_map (above_limit rules image progress plan) (ahead rules image progress plan)) ⊎ In f (flat_map (λ (e : Job × State). of_command rules image progress plan e (rules.missing e.0)) (staged plan)) → May f
        third (inl k) = let r = flat_in (above_limit rules image progress plan) (ahead rules image progress plan) f k in too_much r.0 f r.2
        third (inr k) = last k

        second :
            In f (guarded rules image progress plan)
            ⊎ In f (flat_map (above_limit rules image progress plan) (ahead rules image progress plan) ++ flat_map (λ (e : Job × State). of_command rules image progress plan e (rules.missing e.0)) (staged plan)) →
            May f
        second (inl k) = in_the_way f k
        second (inr k) = third (in_either f (flat_map (above_limit rules image progress plan) (ahead rules image progress plan)) _ k)

        first :
            In f (incomplete rules image progress plan)
            ⊎ In f (guarded rules image progress plan ++ (flat_map (above_limit rules image progress plan) (ahead rules image progress plan) ++ flat_map (λ (e : Job × State). of_command rules image progress plan e (rules.missing e.0)) (staged plan))) →
            May f
        first (inl k) = not_complete f k
        first (inr k) = second (in_either f (guarded rules image progress plan) _ k)

-- a job that isn't Open in a plan, while no child runs, isn't Open by the table
open_table : (b : Bool) (rs : List Reason) (x : Bool) → is_open (cond b Open (by_reasons rs x)) ≡ false → b ≡ false
open_table true rs x h = absurd (true≢false h)
open_table false rs x h = refl

none_kept : (image : Image) (rules : Rules) (progress : Progress) (plan : Plan) → progress.running ≡ [] → (j : Job) → kept_state image rules.settings progress plan j ≡ None
none_kept image rules progress plan idle j =
    ap (λ (r : List (Path × State)). option_map (λ (e : Path × State). e.1) (find (λ (e : Path × State). bytes_eq e.0 (job_path j)) r)) idle

none_of : (o : Option Text) → is_none o ≡ true → o ≡ None
none_of None h = refl
none_of (Some word) h = absurd (true≢false (sym h))

module _
    (rules : Rules) (act : Act) (image : Image) (H : Versions) (progress : Progress) (f : Fault)
    (alone : GathersAlone rules.flow) (complete : IsComplete image) (valid : HasValidRecords image) (differ : SumsDiffer H) (sound : Sound act H image none_eased)
    (idle : progress.running ≡ []) (values : AllHaveValues (setting_of rules.flow act (λ j. is_none (rules.missing j)) image) rules.settings.targets) where
  abbrev has_fields : Job → Bool
  has_fields j = is_none (rules.missing j)

  abbrev Came : Listings → Type 0
  Came L = AllCame rules.flow act has_fields image H rules.settings progress (bound_fills_from numbered_all) complete idle L

  derivation_stops :
      (L : Listings) → Came L → ComesTo rules image progress [] L → (r : Refusal) → derivation rules.flow image L rules.settings.targets ≡ Refused r → IsFault rules.flow r f →
      MayStop rules image progress f
  derivation_stops L came comes r e is = go (clashes image [] (flat_map spots (jobs rules.flow (sources_of image) L rules.settings.targets))) refl
    where
      go : (cs : List Refusal) → clashes image [] (flat_map spots (jobs rules.flow (sources_of image) L rules.settings.targets)) ≡ cs → MayStop rules image progress f
      go (c ∷ cs) k =
          Clashing f (record { lists = L; refusal = r; comes = comes; refused = e; is_fault = is; clashing = λ none. cons_nil c cs (sym k ∙ none) })
      go [] k =
          let all =
          clean_targets_are_derived (setting_of rules.flow act has_fields image) image L rules.settings.targets alone values
          (right rules.flow act has_fields image H rules.settings progress (bound_fills_from numbered_all) complete idle L k came) ∙ k in
          let many_only =
          first_is (nat_lt 100000 (length (reach rules.flow (sources_of image) L 400 rules.settings.targets))) (jobs rules.flow (sources_of image) L rules.settings.targets) r
          (sym (ap (λ rs. outcome (refused_if (nat_lt 100000 (length (reach rules.flow (sources_of image) L 400 rules.settings.targets))) TooManyPaths ++ rs) (jobs rules.flow (sources_of image) L rules.settings.targets)) all) ∙ e) in
          many rules image progress f (subst (λ x. IsFault rules.flow x f) many_only is)

  known : (plan : Plan) → IsPlan rules.flow image rules.settings progress plan → Came plan.lists → (e : Job × State) → In e (staged plan) → is_open e.1 ≡ false → rules.missing e.0 ≡ None
  known plan is came e h shut =
      let z = zip_in (state_of image rules.settings progress plan) plan.jobs e (subst (λ ss. In e (zip plan.jobs ss)) is.states h) in
      let rest =
      plan_rested rules.flow act has_fields image H rules.settings progress (bound_fills_from numbered_all) complete idle valid differ sound alone values plan is came in
      let state = subst (λ s. is_open s ≡ false) z.1 shut in
      let table =
      subst (λ o. is_open (while_running o (cond (is_open_now image rules.settings progress plan e.0) Open (by_reasons (reasons image rules.settings progress plan e.0) (is_to_restore image rules.settings progress plan e.0 && not (is_read_now image rules.settings progress plan e.0))))) ≡ false)
      (none_kept image rules progress plan idle e.0) state in
      none_of (rules.missing e.0)
      (rest.fields e.0 (contains_from plan.jobs e.0 z.0) (open_table (is_open_now image rules.settings progress plan e.0) (reasons image rules.settings progress plan e.0) _ table))

  chain_stops : (L : Listings) → Came L → ((M : Listings) → ComesTo rules image progress L M → ComesTo rules image progress [] M) → ChainRefuses rules image progress L f → MayStop rules image progress f
  chain_stops L came comes (DerivationRefuses lists r fault e is) = derivation_stops lists came (comes lists (Here lists)) r e is
  chain_stops L came comes (PlanRefuses plan fault rest is e) =
      plan_stops rules image progress plan f (known plan is came) (subst (In f) (sym e) (inl refl))
  chain_stops L came comes (NextRefuses plan fault is none more later) =
      chain_stops (plan.lists ++ new_listings image rules.settings progress plan)
      (next_came rules.flow act has_fields image H rules.settings progress (bound_fills_from numbered_all) complete idle valid differ sound alone values plan is came)
      (λ M to. comes M (Onward plan M is none more to)) later

pub clean_targets_are_planned : CleanTargetsArePlanned
clean_targets_are_planned rules act image H progress f alone complete valid differ sound idle values refuses =
    chain_stops rules act image H progress f alone complete valid differ sound idle values []
    (none_came rules.flow act (λ j. is_none (rules.missing j)) image H rules.settings progress (bound_fills_from numbered_all) complete idle valid differ sound alone values) (λ M to. to) refuses
