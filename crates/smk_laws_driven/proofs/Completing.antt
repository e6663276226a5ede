-- Runs by a plan end well where each target has a clean value.
use Rattle.std.proofs.Common.{◌≡◌, ◌⊎◌, inl, inr, ℕ, suc, Bool, true, false, not, List, [], ◌∷◌, ◌++◌, zip, refl, ap, sym, subst, ◌∙◌, Option, None, Ok, Err, Result, true≢false}
use Rattle.std.proofs.lemmas.List.{append-nil, append_assoc}
use Rattle.smk_run.proofs.Running.{done_closed, none_failed}
use Rattle.smk_world.specs.declared.event.Event.{Event}
use Rattle.smk_world.proofs.Runs.{run_append}
use Rattle.smk_world.specs.World.{World, in_paths, run}
use Rattle.smk_world.specs.Runs.{Follows}
use Rattle.smk_world.specs.Trees.{Path, Each}
use Rattle.smk_flow.specs.declared.job.Job.{Job}
use Rattle.smk_store.specs.Images.{seen}
use Rattle.smk_chain.specs.Mean.{setting_of}
use Rattle.smk_trigger.specs.declared.reason.State.{State}
use Rattle.smk_trigger.specs.declared.reason.State.TheVariants.{Open, Dirty, Restore, Clean}
use Rattle.smk_trigger.specs.JobStates.{is_to_run}
use Rattle.smk_report.specs.declared.fault.Fault.{Fault}
use Rattle.smk_job.specs.Jobs.{too_long}
use Rattle.smk_job.specs.Sights.{reads_file}
use Rattle.smk_plan.specs.declared.duty.Duty.{Duty}
use Rattle.smk_plan.specs.declared.duty.Duty.TheVariants as duty
use Rattle.smk_run.specs.declared.stop.Stop.{Stop}
use Rattle.smk_run.specs.declared.stop.Stop.TheVariants as stop
use Rattle.smk_run.specs.declared.tally.Tally.{Tally}
use Rattle.smk_plan.specs.Duties.{AreFor, rests}
use Rattle.smk_run.specs.Duties.{Due, due, due_from, serial_of, unless_rest}
use Rattle.smk_run.specs.Reports.{IsAnswer, stop_fault, named}
use Rattle.smk_run.specs.Runs.{AreInOrder, IsLooked, IsOutcome, IsStopped}
use Rattle.smk_run.specs.Stamps.{Serials}
use Rattle.smk_run.specs.Statuses.{AreGiven}
use Rattle.smk_run.specs.Turns.{Turn, Unbegun, AreTurns, IsTurn, found, is_closed, is_done}
use Rattle.smk_safe.specs.Clean.{IsCleanIn}
use Rattle.smk_safe.specs.Running.{AreArranged}
use Rattle.smk_safe.proofs.Done.{follows_split}
use Rattle.smk_laws_driven.specs.Completing.{EndsWell, MayBreakOff, NoMemory, DeviceFailed, SinkFailed, NoSerial, LongRecord, RunsAreComplete}
use Rattle.smk_laws_driven.specs.Feeding.{AreFed, IsLeftAlone}
use Rattle.smk_laws_driven.specs.Planning.{AreRunOf}
use Rattle.smk_laws_driven.proofs.TurnsSucceeding.{holds_file, told_split}
use Rattle.smk_laws_driven.proofs.Feeding.{fed_turns_succeed, next_turn_is_fed}
use Rattle.smk_laws_driven.proofs.Looking.{inputs_are_found}
use Rattle.smk_laws_driven.proofs.Planning.{planned_turns_are_arranged, planned_turns_are_fed}

each_map : {A : Type 0} (P Q : A → Type 0) → ((x : A) → P x → Q x) → (xs : List A) → Each P xs → Each Q xs
each_map P Q f [] h = tt
each_map P Q f (x ∷ xs) h = (f x h.0, each_map P Q f xs h.1)

-- ## The turns of the jobs that are due

skips : (s : State) (j : Job) (es : List (Job × State)) (ts : List Turn) → is_to_run s ≡ false → AreRunOf es ts → AreRunOf ((j, s) ∷ es) ts
skips Open j es [] h k = tt
skips Open j es (t ∷ ts) h k = k
skips (Dirty reasons) j es ts h k = absurd (true≢false h)
skips Restore j es ts h k = absurd (true≢false h)
skips Clean j es [] h k = tt
skips Clean j es (t ∷ ts) h k = k

runs_next : (s : State) (j : Job) (es : List (Job × State)) (t : Turn) (ts : List Turn) → is_to_run s ≡ true → t.job ≡ j → AreRunOf es ts → AreRunOf ((j, s) ∷ es) (t ∷ ts)
runs_next Open j es t ts h e k = absurd (true≢false (sym h))
runs_next (Dirty reasons) j es t ts h e k = (e, k)
runs_next Restore j es t ts h e k = (e, k)
runs_next Clean j es t ts h e k = absurd (true≢false (sym h))

none_left : (es : List (Job × State)) → AreRunOf es []
none_left [] = tt
none_left (e ∷ es) = tt

rest_of : (b : Bool) → true ≡ not b → b ≡ false
rest_of true h = absurd (true≢false h)
rest_of false h = refl

run_of : (b : Bool) → false ≡ not b → b ≡ true
run_of true h = refl
run_of false h = absurd (true≢false (sym h))

are_run_of :
    (cores : ℕ) (serial : ℕ → Option ℕ) (n : ℕ) (jobs : List Job) (states : List State) (duties : List Duty) (ts : List Turn) → AreFor states duties →
    AreInOrder cores (due_from serial n duties jobs) ts → AreRunOf (zip jobs states) ts
are_run_of cores serial n jobs states duties [] fit order = none_left (zip jobs states)
are_run_of cores serial n jobs [] [] (t ∷ ts) fit order = absurd order
are_run_of cores serial n jobs [] (d ∷ duties) (t ∷ ts) fit order = absurd fit
are_run_of cores serial n jobs (s ∷ states) [] (t ∷ ts) fit order = absurd fit
are_run_of cores serial n [] (s ∷ states) (d ∷ duties) (t ∷ ts) fit order = absurd order
are_run_of cores serial n (j ∷ jobs) (s ∷ states) (d ∷ duties) (t ∷ ts) fit order =
    go d fit.0 order (λ us k. are_run_of cores serial (suc n) jobs states duties us fit.1 k)
  where
    go :
        (d : Duty) → rests d ≡ not (is_to_run s) →
        AreInOrder cores (unless_rest d (record { job = j; serial = serial n }) (due_from serial (suc n) duties jobs)) (t ∷ ts) →
        ((us : List Turn) → AreInOrder cores (due_from serial (suc n) duties jobs) us → AreRunOf (zip jobs states) us) → AreRunOf ((j, s) ∷ zip jobs states) (t ∷ ts)
    go (duty.Rest made) f k next = skips s j (zip jobs states) (t ∷ ts) (rest_of (is_to_run s) f) (next (t ∷ ts) k)
    go (duty.Restore made) f k next = runs_next s j (zip jobs states) t ts (run_of (is_to_run s) f) k.0 (next ts k.4)
    go duty.Run f k next = runs_next s j (zip jobs states) t ts (run_of (is_to_run s) f) k.0 (next ts k.4)

-- ## Turns that are done

-- all turns before the last one
done_before : (cores : ℕ) (dues : List Due) (before : List Turn) (t : Turn) → AreInOrder cores dues (before ++ t ∷ []) → Each (λ (u : Turn). is_done u.course ≡ true) before
done_before cores dues [] t h = tt
done_before cores [] (u ∷ before) t h = absurd h
done_before cores (d ∷ dues) (u ∷ before) t h = (go h.3, done_before cores dues before t h.4)
  where
    more : (us : List Turn) → us ++ t ∷ [] ≡ [] → ⊥
    more [] e = cc
    more (x ∷ us) e = cc

    go : (before ++ t ∷ [] ≡ []) ⊎ (is_done u.course ≡ true) → is_done u.course ≡ true
    go (inl e) = absurd (more before e)
    go (inr e) = e

-- the events of the turns, and those of the last one
turns_split :
    (made : Serials) (before : List Turn) (t : Turn) (w : World) (es : List Event) → AreTurns made (before ++ t ∷ []) w es →
    (first : List Event) × (more : List Event) × (es ≡ first ++ more) × AreTurns made before w first × IsTurn made t (run w first) more
turns_split made [] t w es (first, more, e, is, none) =
    ([], first, e ∙ (ap (λ l. first ++ l) none ∙ append-nil first), refl, is)
turns_split made (u ∷ before) t w es (first, more, e, is, later) =
    let r = turns_split made before t (run w first) more later in (
      first ++ r.0,
      r.1,
      e ∙ (ap (λ l. first ++ l) r.2 ∙ sym (append_assoc first r.0 r.1)),
      (first, r.0, refl, is, r.3),
      subst (λ v. IsTurn made t v r.1) (sym (run_append w first r.0)) r.4,
    )

pub runs_are_complete : RunsAreComplete
runs_are_complete flow o has_fields w v H settings plan cores first duties turns failed ended made es differ sound last alone values plain keeps none owners fit order outcome follows given are =
    go ended outcome
  where
    run_of_plan : AreRunOf (zip plan.jobs plan.states) turns
    run_of_plan = are_run_of cores (serial_of first duties) 0 plan.jobs plan.states duties turns fit order

    fed : (held : List Path) × Each (IsCleanIn (setting_of flow o.act has_fields (seen o.read w)) 200 w) held × Each (IsLeftAlone turns) held × AreFed (setting_of flow o.act has_fields (seen o.read w)) held turns
    fed = planned_turns_are_fed flow o has_fields w H settings plan turns differ sound last alone values plain run_of_plan

    arranged : AreArranged turns
    arranged = planned_turns_are_arranged flow o has_fields w H settings plan turns differ sound last alone values plain run_of_plan

    clean : Each (IsCleanIn (setting_of flow o.act has_fields (seen o.read w)) 200 v) fed.0
    clean =
        each_map (IsCleanIn (setting_of flow o.act has_fields (seen o.read w)) 200 w) (IsCleanIn (setting_of flow o.act has_fields (seen o.read w)) 200 v)
        (λ p h. record { held = h.held; holds = keeps p h.held h.holds; clean = h.clean }) fed.0 fed.1

    never_gone :
        (before : List Turn) (t : Turn) (p : Path) → turns ≡ before ++ t ∷ [] → t.course ≡ Unbegun → t.looked ≡ Err (stop.Gone p) → ⊥
    never_gone before t p e course looked =
        let s = turns_split made before t v es (subst (λ ts. AreTurns made ts v es) e are) in
        let f = follows_split o.act v s.0 s.1 (subst (Follows o.act v) s.2 follows) in
        let g = told_split o.act v s.0 s.1 (subst (AreGiven o.act ⊥ v) s.2 given) in
        let done = done_before cores (due first duties plan.jobs) before t (subst (AreInOrder cores (due first duties plan.jobs)) e order) in
        let closed = each_map (λ (u : Turn). is_done u.course ≡ true) (λ (u : Turn). is_closed u.course ≡ true) (λ u h. done_closed u.course h) before done in
        let next =
        next_turn_is_fed (setting_of flow o.act has_fields (seen o.read w)) made fed.0 before t v s.0 none owners clean
        (subst (λ ts. Each (IsLeftAlone ts) fed.0) e fed.2) (subst AreArranged e arranged) (subst (AreFed (setting_of flow o.act has_fields (seen o.read w)) fed.0) e fed.3) f.0 g.0 s.3 closed in
        inputs_are_found o.act made t (run v s.0) s.1 p next.1.none_runs
        (each_map (IsCleanIn (setting_of flow o.act has_fields (seen o.read w)) 200 (run v s.0)) (λ q. made q ≡ None → reads_file ((run v s.0).nodes q) ≡ true)
        (λ q h k. holds_file ((run v s.0).nodes q) h.held h.holds) (in_paths t.job.recipe) next.2) f.1 s.4 course looked

    stopped : (f : Fault) → IsStopped flow turns failed f → MayBreakOff f
    stopped f h = by_stop h.stop h.is h.answer h.looked
      where
        by_stop :
            (s : Stop) → f ≡ stop_fault (named flow h.last.job) s →
            IsAnswer (too_long h.last.made h.last.job.recipe (found h.last.looked)) h.last.course failed (Err s) → IsLooked h.last.looked s → MayBreakOff f
        by_stop (stop.TooLong bytes) e a l = subst MayBreakOff (sym e) (LongRecord (named flow h.last.job).rule bytes)
        by_stop (stop.Gone p) e a l = absurd (never_gone h.before h.last p h.turns_are a.0 l)
        by_stop stop.Device e a l = subst MayBreakOff (sym e) DeviceFailed
        by_stop stop.Output e a l = subst MayBreakOff (sym e) SinkFailed
        by_stop stop.OutOfMemory e a l = subst MayBreakOff (sym e) NoMemory

    go : (r : Result Tally Fault) → IsOutcome flow (due first duties plan.jobs) turns failed r → EndsWell r
    go (Ok tally) h =
        let done =
        fed_turns_succeed (setting_of flow o.act has_fields (seen o.read w)) made fed.0 turns v es none owners clean fed.2 arranged fed.3 follows given are h.1.closed in
        h.1.first ∙ none_failed flow turns done
    go (Err f) (inl memory) = subst MayBreakOff (sym memory.1) NoMemory
    go (Err f) (inr (inl serials)) = subst MayBreakOff (sym serials.1.is) NoSerial
    go (Err f) (inr (inr h)) = stopped f h
