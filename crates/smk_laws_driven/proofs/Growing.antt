-- What a chain of plans refuses as a run goes on, whose plans may grow.
use Rattle.std.proofs.Common.{◌≡◌, ◌≢◌, ◌⊎◌, inl, inr, Bool, true, false, cond, ◌&&◌, ◌||◌, List, [], ◌∷◌, ◌++◌, flat_map, length, zip, refl, sym, ap, subst, ◌∙◌, arith, Option, Some, None, is_none, is_some, IsTrue, true≢false, map, filter}
use Rattle.std.specs.Prelude.{nat_lt, not}
use Rattle.std.specs.List.{list_any}
use Rattle.smk_world.specs.World.{World, IsFormed, in_paths, reading}
use Rattle.smk_world.specs.Trees.{Act, Each, IsIn, Path}
use Rattle.smk_pattern.specs.Shapes.{Text}
use Rattle.smk_flow.specs.declared.job.Job.{Job}
use Rattle.smk_choose.specs.Choose.{Sources}
use Rattle.smk_store.specs.Images.{Image}
use Rattle.smk_store.specs.Soundness.{Outside, SameSources, Sound}
use Rattle.smk_store.specs.Trust.{SumsDiffer, Versions}
use Rattle.smk_chain.specs.Derive.{Clash, Deep, Derived, Listings, Refusal, Refused, TooManyPaths, chosen, clashes, derivation, hinders, is_deep, job, job_refusals, jobs, listing, outcome, reach, refused, refused_if, sources_of, spots}
use Rattle.smk_chain.specs.Mean.{Setting, setting_of}
use Rattle.smk_trigger.specs.declared.reason.Reason.{Reason}
use Rattle.smk_trigger.specs.declared.reason.State.{State}
use Rattle.smk_trigger.specs.declared.reason.State.TheVariants.{Open}
use Rattle.smk_trigger.specs.JobStates.{is_open}
use Rattle.smk_pick.specs.declared.settings.Settings.{Settings}
use Rattle.smk_plan.specs.States.{IsPlan, Plan, Progress, awaits, by_reasons, by_table, directory_over, gathers_from, is_at_hand, is_open_now, is_ready, is_restored, kept_state, maker_of, new_listings, nothing_done, reasons, staged, state_of, while_running}
use Rattle.smk_laws_plan.specs.Current.{HasValidRecords, IsComplete, eased_by}
use Rattle.smk_laws_plan.proofs.CurrentLists.{any_none, cons_nil, in_either, in_left, map_in, none_some, not_false, or_left, or_right, zip_in}
use Rattle.smk_laws_plan.proofs.CurrentProducts.{Planned}
use Rattle.smk_laws_plan.proofs.PlanOne.{derived}
use Rattle.smk_laws_history.proofs.CurrentComplete.{seen_is_complete}
use Rattle.smk_laws_history.proofs.CurrentReads.{sources_alike}
use Rattle.smk_laws_history.proofs.Valid.{records_valid}
use Rattle.smk_laws_complete.specs.Derived.{AllHaveValues, AreRight, GathersAlone}
use Rattle.smk_laws_complete.specs.Planned.{MayStop, TooMany}
use Rattle.smk_laws_turns.proofs.Deriving.{derivation_goes_on}
use Rattle.smk_laws_plan.specs.Signs.{HasOwnSigns}
use Rattle.smk_base.specs.Path.{overlaps}
use Rattle.smk_report.specs.declared.fault.Fault.TheVariants as fault
use Rattle.smk_laws_complete.proofs.Calm.{clean_targets_are_derived}
use Rattle.smk_laws_complete.proofs.Goods.{derived_jobs_are_good}
use Rattle.smk_laws_complete.specs.Listed.{AreMeant, all_known}
use Rattle.smk_laws_complete.proofs.Fewer.{sound_fewer}
use Rattle.smk_laws_complete.specs.Valued.{AreMeantBy, IsMeantPlan}
use Rattle.smk_laws_complete.proofs.Newly.{new_are_meant}
use Rattle.smk_laws_complete.proofs.Right.{meant_still, more_are_right}
use Rattle.smk_laws_protocol.specs.Protocol.{RunState, eased}
use Rattle.smk_laws_protocol.specs.Midway.{Midway}
use Rattle.smk_laws_protocol.proofs.Basics.{each_in, each_on}
use Rattle.smk_job.specs.Jobs.{Underway}
use Rattle.smk_report.specs.declared.fault.Fault.{Fault}
use Rattle.smk_drive.specs.Moments.{Rules, progress_of, seen}
use Rattle.smk_drive.specs.Refusals.{ChainRefuses, DerivationRefuses, IsFault, NextRefuses, PlanRefuses, refused_of}
use Rattle.smk_drive_course.specs.Stands.{Stand}
use Rattle.smk_laws_moments.specs.Opened.{AreStillPlanned, IsStateOf}
use Rattle.smk_laws_moments.specs.Courses.{HasChildren}
use Rattle.smk_laws_moments.specs.Staying.{IsDerivedStill, IsListed, IsPlanOfSources, derived_by}
use Rattle.smk_laws_moments.proofs.Gathered.{gathered_source}
use Rattle.smk_laws_moments.proofs.Planned.{derived_are_planned}
use Rattle.smk_laws_turns.proofs.Stays.{derived_on, listed_on}
use Rattle.smk_laws_turns.proofs.StandStates.{state_later}
use Rattle.smk_laws_driven.proofs.Good.{right_at}
use Rattle.smk_laws_driven.proofs.Listed.{same_setting}
use Rattle.smk_laws_driven.proofs.Restored as restored
use Rattle.smk_laws_driven.proofs.Restored.{IsOnce}
use Rattle.smk_laws_driven.specs.Grown.{IsGrownNamed}
use Rattle.smk_laws_driven.proofs.Signed.{signs_on}
use Rattle.smk_laws_driven.proofs.Stopping.{plan_stops}

-- ## Small facts

-- the same stand before any plan, with these listings
abbrev pub standing : Stand → Listings → Stand
standing s L = record s { from = L; plan = None }

open_table : (b : Bool) (rs : List Reason) (x : Bool) → is_open (cond b Open (by_reasons rs x)) ≡ false → b ≡ false
open_table true rs x h = absurd (true≢false h)
open_table false rs x h = refl

refusal_of : (a b : Refusal) → Refused a ≡ Refused b → a ≡ b
refusal_of a b h = cc

derived_refused : (js : List Job) (r : Refusal) → Derived js ≡ Refused r → ⊥
derived_refused js r h = grind arith

-- where there are too many paths that is what is refused
too_many_first : (b : Bool) (rest : List Refusal) (js : List Job) (r : Refusal) → b ≡ true → outcome (refused_if b TooManyPaths ++ rest) js ≡ Refused r →
    r ≡ TooManyPaths
too_many_first true rest js r h e = sym (refusal_of TooManyPaths r e)
too_many_first false rest js r h e = absurd (true≢false (sym h))

-- and where there are not, and nothing else is refused, the jobs are derived
none_refused : (b : Bool) (rest : List Refusal) (js : List Job) → b ≡ false → rest ≡ [] → outcome (refused_if b TooManyPaths ++ rest) js ≡ Derived js
none_refused true rest js h none = absurd (true≢false h)
none_refused false rest js h none = ap (λ rs. outcome rs js) none

-- a clash is of two paths
clash_is :
    (image : Image) (earlier : List Path) (ss : List (Path × Bool)) (r : Refusal) → IsIn (clashes image earlier ss) r →
    (p : Path) × (q : Path) × (r ≡ Clash p q)
clash_is image earlier [] r i = absurd i
clash_is image earlier (s ∷ rest) r i =
    go (in_either r (map (Clash s.0) (filter (overlaps s.0) earlier ++ filter (hinders image s) image.known)) (clashes image (earlier ++ s.0 ∷ []) rest) i)
    (clash_is image (earlier ++ s.0 ∷ []) rest r)
  where
    go :
        IsIn (map (Clash s.0) (filter (overlaps s.0) earlier ++ filter (hinders image s) image.known)) r ⊎ IsIn (clashes image (earlier ++ s.0 ∷ []) rest) r →
        (IsIn (clashes image (earlier ++ s.0 ∷ []) rest) r → (p : Path) × (q : Path) × (r ≡ Clash p q)) → (p : Path) × (q : Path) × (r ≡ Clash p q)
    go (inl k) again = let q = map_in (Clash s.0) (filter (overlaps s.0) earlier ++ filter (hinders image s) image.known) r k in (s.0, q.0, q.2)
    go (inr k) again = again k

-- The first of three lists of refusals is the first, whatever comes behind them; or it comes behind them.
first_of_all :
    (a b c d e : List Refusal) (js ks : List Job) (r : Refusal) → outcome (a ++ (b ++ (c ++ d))) js ≡ Refused r →
    (outcome (a ++ (b ++ (c ++ e))) ks ≡ Refused r) ⊎ IsIn d r
first_of_all (x ∷ a) b c d e js ks r h = inl h
first_of_all [] (x ∷ b) c d e js ks r h = inl h
first_of_all [] [] (x ∷ c) d e js ks r h = inl h
first_of_all [] [] [] (x ∷ d) e js ks r h = inr (inl (sym (refusal_of x r h)))
first_of_all [] [] [] [] e js ks r h = absurd (derived_refused js r h)

none_of : (o : Option Text) → is_none o ≡ true → o ≡ None
none_of None h = refl
none_of (Some word) h = absurd (true≢false (sym h))

some_plan : (p q : Plan) → Some p ≡ Some q → p ≡ q
some_plan p q h = cc

listed_some : (o : Option (List Path)) → o ≢ None → is_some o ≡ true
listed_some None h = absurd (h refl)
listed_some (Some files) h = refl

-- of a job that isn't Open all that it awaits is at hand, and what is ready of what it gathers from is listed
shut_parts :
    (image : Image) (settings : Settings) (progress : Progress) (plan : Plan) (j : Job) → is_open_now image settings progress plan j ≡ false →
    (list_any (λ d. not (is_at_hand image settings progress plan d)) (awaits plan j) ≡ false)
    × (list_any (λ d. is_ready image settings progress plan d && is_none (listing plan.lists d)) (gathers_from j) ≡ false)
shut_parts image settings progress plan j h = (or_left _ _ h, or_left _ _ (or_right _ _ h))

-- the child's job is derived with the listings of the one stand as with those of the other
pub still_with :
    (rules : Rules) (entry : World) (s t : Stand) (L : Listings) (g : Underway) → t.begun ≡ s.begun → IsDerivedStill rules entry (standing s L) g →
    IsDerivedStill rules entry (standing t L) g
still_with rules entry s t L g same d =
    record {
      begun = d.begun;
      has_begun = subst (λ bs. IsIn bs d.begun) (sym same) d.has_begun;
      recipe = d.recipe;
      logs = d.logs;
      derived = d.derived;
      listed = d.listed;
    }

module _ (act : Act) (rules : Rules) (entry : World) (H : Versions) (differ : SumsDiffer H) (found : IsFormed entry) (alone : GathersAlone rules.flow)
    (values : AllHaveValues (setting_of rules.flow act (λ j. is_none (rules.missing j)) (seen rules entry)) rules.settings.targets) where
  abbrev o : Outside
  o = record { read = rules.read; act = act }

  abbrev fields : Job → Bool
  fields j = is_none (rules.missing j)

  -- the workflow from the sources that the run found, and so where each field of a command has a value
  abbrev pub S : Setting
  S = setting_of rules.flow act fields (seen rules entry)

  abbrev pub Known : Setting
  Known = setting_of rules.flow act all_known (seen rules entry)

  abbrev targets : List Path
  targets = rules.settings.targets

  abbrev Named : Fault → Type 0
  Named f = IsGrownNamed act rules entry f

  abbrev pub AreMeantAt : Listings → Type 0
  AreMeantAt L = AreMeant Known L targets

  abbrev pub AreRightAt : Listings → Type 0
  AreRightAt L = AreRight S L targets

  -- Listings with which a chain of plans may begin at a stand: they are meant, and right for the jobs that are derived with them, if these don't clash; and the
  -- jobs whose children run are derived with them, and listed by them.
  pub record IsBase (s : Stand) (L : Listings) : Type 0 where
    pub meant : AreMeant Known L targets
    pub right : (image : Image) → clashes image [] (flat_map spots (derived_by rules entry L)) ≡ [] → AreRight S L targets
    pub running : Each (IsDerivedStill rules entry (standing s L)) s.runs

  module _ (v : World) (formed : IsFormed v) (same : SameSources (seen rules entry) (seen rules v)) (t : Stand) (state : RunState)
      (midway : Midway o entry H state v) (is_state : IsStateOf rules entry t state) (children : HasChildren t v) (once : IsOnce t)
      (sound : Sound act H (seen rules v) (eased state)) where
    abbrev image : Image
    image = seen rules v

    abbrev progress : Progress
    progress = progress_of v t.begun

    complete : IsComplete image
    complete = seen_is_complete rules.read v formed

    complete_first : IsComplete (seen rules entry)
    complete_first = seen_is_complete rules.read entry found

    valid : HasValidRecords image
    valid = records_valid rules.read v.names (λ q. reading (v.nodes q))

    alike : sources_of (seen rules entry) ≡ sources_of image
    alike = sources_alike (seen rules entry) image complete_first complete same

    known_now : Known ≡ setting_of rules.flow act all_known image
    known_now = same_setting rules.flow act all_known (seen rules entry) image complete_first complete same

    setting_now : S ≡ setting_of rules.flow act fields image
    setting_now = same_setting rules.flow act fields (seen rules entry) image complete_first complete same

    -- the jobs that are derived here are those of the entry
    jobs_alike : (L : Listings) → derived_by rules entry L ≡ jobs rules.flow (sources_of image) L targets
    jobs_alike L = ap (λ (X : Sources). jobs rules.flow X L targets) alike

    -- ## One plan

    module _ (plan : Plan) (is_plan : IsPlan rules.flow image rules.settings progress plan) (base : IsBase t plan.lists) where
      abbrev with_plan : Stand
      with_plan = record t { from = plan.lists; plan = Some plan }

      planned : Planned rules.flow image rules.settings progress plan
      planned = record { complete = complete; valid = valid; derived = is_plan }

      of_sources : IsPlanOfSources rules entry plan
      of_sources = record { image = image; progress = progress; complete = complete; sources = same; is_plan = is_plan }

      derived_still : (g : Underway) → IsDerivedStill rules entry (standing t plan.lists) g → IsDerivedStill rules entry with_plan g
      derived_still g d =
          record { begun = d.begun; has_begun = d.has_begun; recipe = d.recipe; logs = d.logs; derived = d.derived; listed = d.listed }

      still : AreStillPlanned with_plan
      still =
          derived_are_planned rules entry with_plan found
          (record {
            running = each_on (IsDerivedStill rules entry (standing t plan.lists)) (IsDerivedStill rules entry with_plan) derived_still t.runs base.running;
            planned = λ p e. subst (IsPlanOfSources rules entry) (some_plan plan p e) of_sources;
          })

      state_with : IsStateOf rules entry with_plan state
      state_with = state_later rules entry t with_plan state (record { begun = refl; runs = refl; halted = λ none. none; broken = refl }) is_state

      sound_plan : Sound act H image (eased_by image (is_restored image rules.settings progress plan))
      sound_plan =
          sound_fewer image (eased_by image (is_restored image rules.settings progress plan)) (eased state)
          (restored.eased_so act rules entry v H with_plan state plan midway state_with still children once refl planned) act H sound

      meant_plan : IsMeantPlan rules.flow act image rules.settings progress plan
      meant_plan =
          record {
            complete = complete;
            valid = valid;
            is_plan = is_plan;
            meant = subst (λ (X : Setting). AreMeant X plan.lists targets) known_now base.meant;
          }

      abbrev new : Listings
      new = new_listings image rules.settings progress plan

      meant_new : AreMeantBy rules.flow act image rules.settings plan new
      meant_new = new_are_meant rules.flow act image rules.settings progress plan meant_plan H differ sound_plan

      -- with what becomes known the chain may go on
      goes_on : (g : Underway) → IsDerivedStill rules entry (standing t plan.lists) g → IsDerivedStill rules entry (standing t (plan.lists ++ new)) g
      goes_on g d =
          record {
            begun = d.begun;
            has_begun = d.has_begun;
            recipe = d.recipe;
            logs = d.logs;
            derived =
                subst (λ js. IsIn js d.begun.job) (sym (jobs_alike (plan.lists ++ new)))
                (derived_on rules.flow image rules.settings progress plan d.begun.job (subst (λ js. IsIn js d.begun.job) (jobs_alike plan.lists) d.derived)
                (listed_there plan.lists d.begun.job d.listed));
            listed = listed_back (plan.lists ++ new) d.begun.job
                (listed_on rules.flow image rules.settings progress plan d.begun.job (listed_there plan.lists d.begun.job d.listed));
          }
        where
          listed_there : (L : Listings) (j : Job) → IsListed (seen rules entry) L j → IsListed image L j
          listed_there L j h = subst (λ (X : Sources). Each (λ d. (X.is d ≡ true) ⊎ (listing L d ≢ None)) (gathers_from j)) alike h

          listed_back : (L : Listings) (j : Job) → IsListed image L j → IsListed (seen rules entry) L j
          listed_back L j h = subst (λ (X : Sources). Each (λ d. (X.is d ≡ true) ⊎ (listing L d ≢ None)) (gathers_from j)) (sym alike) h

      next_base : IsBase t (plan.lists ++ new)
      next_base =
          record {
            meant =
                subst (λ (X : Setting). AreMeant X (plan.lists ++ new) targets) (sym known_now)
                (λ f files e. meant_still (setting_of rules.flow act all_known image) plan.lists new targets f files (meant_new f files e));
            right = λ other clear.
                subst (λ (X : Setting). AreRight X (plan.lists ++ new) targets) (sym setting_now)
                (more_are_right rules.flow act image rules.settings progress plan meant_plan fields new other meant_new
                (subst (λ js. clashes other [] (flat_map spots js) ≡ []) (jobs_alike (plan.lists ++ new)) clear));
            running =
                each_on (IsDerivedStill rules entry (standing t plan.lists)) (IsDerivedStill rules entry (standing t (plan.lists ++ new))) goes_on t.runs
                base.running;
          }

      -- ## Its commands have all their fields

      right_plan : AreRight S plan.lists targets
      right_plan = right_at act rules (seen rules entry) image progress plan fields complete_first complete valid same is_plan base.meant

      has_listings : (j : Job) → IsIn plan.jobs j → ((f : Path) → IsIn (gathers_from j) f → (maker_of plan f ≡ None) ⊎ (listing plan.lists f ≢ None)) →
          rules.missing j ≡ None
      has_listings j ij listed =
          let are = (derived rules.flow image plan.lists targets plan.jobs complete is_plan.derived).1 in
          let c =
          map_in (job rules.flow plan.lists) (chosen rules.flow (sources_of (seen rules entry)) plan.lists targets) j
          (subst (λ js. IsIn js j) (sym (jobs_alike plan.lists ∙ are)) ij) in
          let good =
          derived_jobs_are_good S plan.lists targets alone values right_plan c.0 c.1
          (λ f i. by_listing f (subst (λ (x : Job). IsIn (gathers_from x) f) (sym c.2) i)) in
          none_of (rules.missing j) (ap (λ x. is_none (rules.missing x)) c.2 ∙ good.fields)
        where
          by_listing : (f : Path) → IsIn (gathers_from j) f → IsTrue ((sources_of (seen rules entry)).is f) ⊎ IsTrue (is_some (listing plan.lists f))
          by_listing f i = elim (listed f i) [
            | inl none ↦ inl
                (ap (λ (X : Sources). X.is f) alike
                ∙ gathered_source rules.flow image rules.settings progress plan complete is_plan j f ij i none)
            | inr some ↦ inr (listed_some (listing plan.lists f) some)
          ]

      -- of a job that isn't Open by the table what it gathers from is a source or listed
      shut_listed : (j : Job) → IsIn plan.jobs j → is_open_now image rules.settings progress plan j ≡ false → (f : Path) → IsIn (gathers_from j) f →
          (maker_of plan f ≡ None) ⊎ (listing plan.lists f ≢ None)
      shut_listed j ij shut f i = go (maker_of plan f) refl hand
        where
          hand : is_at_hand image rules.settings progress plan f ≡ true
          hand =
              not_false (is_at_hand image rules.settings progress plan f)
              (any_none (λ d. not (is_at_hand image rules.settings progress plan d)) (awaits plan j) f (shut_parts image rules.settings progress plan j shut).0
              (in_left f (gathers_from j) (flat_map (directory_over plan) (in_paths j.recipe ++ gathers_from j)) i))

          missing : (is_ready image rules.settings progress plan f && is_none (listing plan.lists f)) ≡ false
          missing =
              any_none (λ d. is_ready image rules.settings progress plan d && is_none (listing plan.lists d)) (gathers_from j) f
              (shut_parts image rules.settings progress plan j shut).1 i

          known : (b : Bool) (x : Option (List Path)) → b ≡ true → (b && is_none x) ≡ false → x ≡ None → ⊥
          known true None e h none = true≢false h
          known true (Some files) e h none = none_some (Some files) files none refl
          known false x e h none = true≢false (sym e)

          go : (m : Option (Job × State)) → maker_of plan f ≡ m → (is_none m || is_ready image rules.settings progress plan f) ≡ true →
              (maker_of plan f ≡ None) ⊎ (listing plan.lists f ≢ None)
          go None e h = inl e
          go (Some x) e h = inr (known (is_ready image rules.settings progress plan f) (listing plan.lists f) h missing)

      fields_known : (e : Job × State) → IsIn (staged plan) e → is_open e.1 ≡ false → rules.missing e.0 ≡ None
      fields_known e i shut =
          let z = zip_in (state_of image rules.settings progress plan) plan.jobs e (subst (λ ss. IsIn (zip plan.jobs ss) e) is_plan.states i) in
          go (kept_state image rules.settings progress plan e.0) refl z.0 (subst (λ s. is_open s ≡ false) z.1 shut)
        where
          go : (x : Option State) → kept_state image rules.settings progress plan e.0 ≡ x → IsIn plan.jobs e.0 →
              is_open (while_running (kept_state image rules.settings progress plan e.0) (by_table image rules.settings progress plan e.0)) ≡ false →
              rules.missing e.0 ≡ None
          go None none ij s =
              has_listings e.0 ij
              (shut_listed e.0 ij
              (open_table (is_open_now image rules.settings progress plan e.0) (reasons image rules.settings progress plan e.0) _
              (subst (λ x. is_open (while_running x (by_table image rules.settings progress plan e.0)) ≡ false) none s)))
          go (Some began) kept ij s =
              let g = restored.is_going act rules entry v H with_plan state plan midway state_with still children once refl planned e.0 began ij kept in
              has_listings e.0 ij
              (λ f k. each_in (λ d. (maker_of plan d ≡ None) ⊎ (listing plan.lists d ≢ None)) (gathers_from (g.planned_still).job) f (g.planned_still).listed
              (subst (λ (x : Job). IsIn (gathers_from x) f) g.job k))

      plan_named : (f : Fault) (rest : List Fault) → refused_of rules image progress plan ≡ f ∷ rest → Named f
      plan_named f rest e =
          inl (inl (plan_stops rules (seen rules entry) nothing_done image progress plan f fields_known (subst (λ fs. IsIn fs f) (sym e) (inl refl))))

    -- ## A derivation

    abbrev Own : Listings → Type 0
    Own L = HasOwnSigns (seen rules entry) image (derived_by rules entry L)

    abbrev too_many : Listings → Bool
    too_many L = nat_lt 100000 (length (reach rules.flow (sources_of (seen rules entry)) L 400 targets))

    -- what is refused behind too many paths by the sources of the entry, where these clashes are found
    abbrev behind : Listings → List Refusal → List Refusal
    behind L found_clashes =
        map Deep (filter (is_deep rules.flow (sources_of (seen rules entry)) image L targets) targets)
        ++ (flat_map (refused rules.flow (sources_of (seen rules entry)) L 201) targets ++ found_clashes)

    -- the same refusal by these sources
    refused_alike :
        (L : Listings) (r : Refusal) → derivation rules.flow image L targets ≡ Refused r →
        outcome (refused_if (too_many L) TooManyPaths ++ behind L (clashes image [] (flat_map spots (derived_by rules entry L)))) (derived_by rules entry L)
        ≡ Refused r
    refused_alike L r e =
        subst
        (λ (X : Sources). outcome
        (refused_if (nat_lt 100000 (length (reach rules.flow X L 400 targets))) TooManyPaths
        ++ (map Deep (filter (is_deep rules.flow X image L targets) targets)
        ++ (flat_map (refused rules.flow X L 201) targets ++ clashes image [] (flat_map spots (jobs rules.flow X L targets)))))
        (jobs rules.flow X L targets)
        ≡ Refused r)
        (sym alike) e

    derivation_named :
        (L : Listings) (r : Refusal) (f : Fault) → IsBase t L → Own L → derivation rules.flow image L targets ≡ Refused r → IsFault rules.flow r f → Named f
    derivation_named L r f base own e is = go (clashes (seen rules entry) [] (flat_map spots (derived_by rules entry L))) refl
      where
        many : IsFault rules.flow TooManyPaths f → Named f
        many (count, above, told) = inl (inl (subst (MayStop rules (seen rules entry) nothing_done) (sym told) (TooMany count)))

        -- what is told of a clash
        told :
            (outcome
            (refused_if (too_many L) TooManyPaths
            ++ behind L (clashes (seen rules entry) [] (flat_map spots (derived_by rules entry L))))
            (derived_by rules entry L)
            ≡ Refused r)
            ⊎ IsIn (clashes image [] (flat_map spots (derived_by rules entry L))) r →
            ((r : Refusal) × (derivation rules.flow (seen rules entry) L targets ≡ Refused r) × IsFault rules.flow r f)
            ⊎ ((p : Path) × (q : Path) × (f ≡ fault.Clash p q))
        told (inl h) = inl (r, h, is)
        told (inr i) =
            let c = clash_is image [] (flat_map spots (derived_by rules entry L)) r i in inr (c.0, c.1, subst (λ x. IsFault rules.flow x f) c.2 is)

        clear : clashes (seen rules entry) [] (flat_map spots (derived_by rules entry L)) ≡ [] → (b : Bool) → too_many L ≡ b → Named f
        clear k true b =
            many
            (subst (λ x. IsFault rules.flow x f)
            (too_many_first (too_many L) (behind L (clashes image [] (flat_map spots (derived_by rules entry L)))) (derived_by rules entry L) r b
            (refused_alike L r e))
            is)
        clear k false b =
            let all = clean_targets_are_derived S (seen rules entry) L targets alone values (base.right (seen rules entry) k) ∙ k in
            let derives =
            none_refused (too_many L) (job_refusals rules.flow (sources_of (seen rules entry)) (seen rules entry) L targets) (derived_by rules entry L) b all in
            absurd
            (derived_refused (derived_by rules entry L) r
            (sym
            (derivation_goes_on rules.flow (seen rules entry) image L targets (derived_by rules entry L) complete_first complete same own derives)
            ∙ e))

        go : (cs : List Refusal) → clashes (seen rules entry) [] (flat_map spots (derived_by rules entry L)) ≡ cs → Named f
        go [] k = clear k (too_many L) refl
        go (c ∷ cs) k =
            inr
            (record {
              lists = L;
              meant = base.meant;
              clashing = λ none. cons_nil c cs (sym k ∙ none);
              told =
                  told
                  (first_of_all (refused_if (too_many L) TooManyPaths)
                  (map Deep (filter (is_deep rules.flow (sources_of (seen rules entry)) image L targets) targets))
                  (flat_map (refused rules.flow (sources_of (seen rules entry)) L 201) targets) (clashes image [] (flat_map spots (derived_by rules entry L)))
                  (clashes (seen rules entry) [] (flat_map spots (derived_by rules entry L))) (derived_by rules entry L) (derived_by rules entry L) r
                  (refused_alike L r e));
            })

    -- ## The chain

    pub chain_named : (L : Listings) (f : Fault) → IsBase t L → Own L → ChainRefuses rules image progress L f → Named f
    chain_named L f base own (DerivationRefuses lists r g e is) = derivation_named lists r f base own e is
    chain_named L f base own (PlanRefuses plan g rest is e) = plan_named plan is base f rest e
    chain_named L f base own (NextRefuses plan g is calm more later) =
        chain_named (plan.lists ++ new_listings image rules.settings progress plan) f (next_base plan is base)
        (signs_on rules.flow (sources_of (seen rules entry)) plan.lists (new_listings image rules.settings progress plan)
        (plan.lists ++ new_listings image rules.settings progress plan) targets (seen rules entry) image refl own)
        later
