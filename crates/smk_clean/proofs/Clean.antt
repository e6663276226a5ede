-- A run that ends without a fault leaves clean values.
use Rattle.std.proofs.Common.{◌≡◌, inl, inr, ℕ, suc, Bool, true, false, List, [], ◌∷◌, ◌++◌, flat_map, map, zip, length, arith, refl, ap, sym, subst, ◌∙◌, Option, Some, None, Result, Ok, Err, is_none, if◌then◌else◌, true≢false}
use Rattle.std.proofs.lemmas.List.{append-nil, length-map}
use Rattle.std.proofs.lemmas.Option.{none-some}
use Rattle.smk_chain_walk.proofs.Depths.{front_nil, back_nil}
use Rattle.smk_world.specs.World.{World, IsFormed, run}
use Rattle.smk_world.specs.Devices.{Device, Sunk, HasActed, HasLooked}
use Rattle.smk_world.specs.Trees.{Path, Each, IsIn}
use Rattle.smk_flow.specs.declared.job.Job.{Job}
use Rattle.smk_flow.specs.declared.job.Gather.{Gather}
use Rattle.smk_flow.specs.Flows.{Flow, rule_name}
use Rattle.smk_format.specs.Commands.{missing}
use Rattle.smk_record.specs.Spelling.{ReadsRecords}
use Rattle.smk_store.specs.declared.fault.StoreFault.{StoreFault}
use Rattle.smk_store.specs.Images.{Image, seen}
use Rattle.smk_store.specs.Serials.{greatest_serial, next_serial}
use Rattle.smk_store.specs.Soundness.{Outside, SoundWorld, SameSources}
use Rattle.smk_store.specs.Steadying.{HasTried, steady_requests}
use Rattle.smk_store.specs.Trust.{Versions, SumsDiffer}
use Rattle.smk_pick.specs.declared.settings.Force.TheVariants.{No}
use Rattle.smk_pick.specs.declared.settings.Settings.{Settings}
use Rattle.smk_trigger.specs.declared.reason.State.{State}
use Rattle.smk_trigger.specs.declared.reason.State.TheVariants.{Clean as CleanState}
use Rattle.smk_trigger.specs.JobStates.{is_open}
use Rattle.smk_plan.specs.States.{Plan, IsPlan, LastPlan, Last, gathers_from, is_current, nothing_done, staged, state_of}
use Rattle.smk_laws_protocol.proofs.Basics.{each_in}
use Rattle.smk_chain.specs.Mean.{Setting, setting_of}
use Rattle.smk_laws_plan.specs.Current.{IsClean}
use Rattle.smk_laws_history.proofs.CurrentComplete.{seen_is_complete}
use Rattle.smk_laws_plan.proofs.CurrentMeaning.{contains_from, in_from}
use Rattle.smk_laws_history.proofs.CurrentLaw.{current_means_clean_in_worlds}
use Rattle.smk_laws_history.proofs.CurrentReads.{same_values}
use Rattle.smk_report.specs.declared.fault.Fault.{Fault}
use Rattle.smk_report.specs.declared.fault.Fault.TheVariants as fault
use Rattle.smk_report.specs.Lines.{Text, Named}
use Rattle.smk_drive.specs.Moments.{Rules}
use Rattle.smk_drive.specs.Refusals.{above_limit, ahead, guarded, incomplete, of_command, refused_of}
use Rattle.smk_plan.specs.declared.duty.Duty.{Duty}
use Rattle.smk_run.specs.declared.ending.Ending.{Ending}
use Rattle.smk_run.specs.declared.ending.Ending.TheVariants.{Good, Status, NoOutput, WrongKind, BadMember}
use Rattle.smk_run.specs.declared.tally.Tally.{Tally}
use Rattle.smk_run.specs.Duties.{Due, due, due_from}
use Rattle.smk_run.specs.Reports.{failure, named}
use Rattle.smk_run.specs.Runs.{IsOutcome as IsRunOutcome, course_failure, first_failure, or_later}
use Rattle.smk_run.specs.Turns.{Course, Unbegun, Unstarted, Unclosed, Closed, Turn, is_closed, is_done}
use Rattle.smk_words_reading.specs.declared.asked.RunWords.{RunWords}
use Rattle.smk_cli_entry.specs.declared.asking.Asked.{Asked}
use Rattle.smk_cli_entry.specs.Entry.{IsAskedIn}
use Rattle.smk_make.specs.Closing.{verdict_of}
use Rattle.smk_report.specs.Faults.{of_store}
use Rattle.smk_make.specs.Making.{AreWhatIsMeant, Concludes, GoesOn, NotFirm, NoMemory, Made}
use Rattle.smk_plan_preview.specs.declared.previewing.Previewed.{Previewed}
use Rattle.smk_plan_preview.specs.Previewing.{plan_of, rules_for}
use Rattle.smk_cli_calls.specs.Serving.{settings_of}
use Rattle.smk_cli_calls.specs.Whole.{IsToServe}
use Rattle.smk_laws_refusing.specs.Heeding.{IsSameButLock}
use Rattle.smk_laws_refusing.proofs.Heeding.{last_plans_heed_no_lock, on_both, same_back}
use Rattle.smk_safe.specs.Planned.{IsPlain, IsFit}
use Rattle.smk_safe.specs.Safe.{IsSafeRun}
use Rattle.smk_safe.proofs.Images.{sources_now}
use Rattle.smk_safe.proofs.Planned.{all_shut}
use Rattle.smk_safe.proofs.Stored.{is_top}
use Rattle.smk_safe.specs.Exit.{RunLeavesAllClean, IsAllClean, IsDueRun, all_clean, begun_so}
use Rattle.smk_clean.specs.Clean.{setting_in}
use Rattle.smk_clean.proofs.Chained.{lists_stay, none_new}
use Rattle.smk_clean.proofs.Firsts.{firsts_same}
use Rattle.smk_clean.proofs.Fit.{all_fit}
use Rattle.smk_clean.proofs.Meant.{all_plain, duties_meant, is_plan, makers_told}
use Rattle.smk_cli_calls.specs.OneByOne.{IsPlainFlow}
use Rattle.smk_cli_calls.proofs.Plain.{each_from}
use Rattle.smk_clean.proofs.Safe.{Answer, IsTurnRun, ok_err, started, turns_run, turns_safe}

-- ## Turns without a failure

good_by : (name : Named) (ending : Ending) → failure name ending ≡ None → is_done (Closed ending) ≡ true
good_by name Good e = refl
good_by name (Status n) e = absurd (none-some _ (sym e))
good_by name (NoOutput p) e = absurd (none-some _ (sym e))
good_by name (WrongKind p) e = absurd (none-some _ (sym e))
good_by name (BadMember p) e = absurd (none-some _ (sym e))

done_by : (flow : Flow) (job : Job) (course : Course) → is_closed course ≡ true → course_failure flow job course ≡ None → is_done course ≡ true
done_by flow job Unbegun closed e = absurd (true≢false (sym closed))
done_by flow job Unstarted closed e = absurd (true≢false (sym closed))
done_by flow job Unclosed closed e = absurd (true≢false (sym closed))
done_by flow job (Closed ending) closed e = good_by (named flow job) ending e

both_none : (a b : Option Fault) → or_later a b ≡ None → (a ≡ None) × (b ≡ None)
both_none None b e = (refl, e)
both_none (Some f) b e = absurd (none-some f (sym e))

all_good : (flow : Flow) (ts : List Turn) → Each (λ (t : Turn). is_closed t.course ≡ true) ts → first_failure flow ts ≡ None → Each (λ (t : Turn). is_done t.course ≡ true) ts
all_good flow [] closed e = tt
all_good flow (t ∷ ts) closed e =
    let both = both_none (course_failure flow t.job t.course) (first_failure flow ts) e in
    (done_by flow t.job t.course closed.0 both.0, all_good flow ts closed.1 both.1)

pub no_first : (o : Option Fault) (u : Unit {0}) → ◌≡◌ {A = Answer} (Ok u) (verdict_of o) → o ≡ None
no_first None u e = refl
no_first (Some f) u e = absurd (ok_err u f e)

-- each job that is due had its turn, and is done
record HaveAllTurns (dues : List Due) (ts : List Turn) : Type 0 where
  pub all : length ts ≡ length dues
  pub closed : Each (λ (t : Turn). is_closed t.course ≡ true) ts
  pub done : Each (λ (t : Turn). is_done t.course ≡ true) ts

all_turns : (u : Unit {0}) (flow : Flow) (dues : List Due) (ts : List Turn) (bad : Bool) (ended : Result Tally Fault) → IsRunOutcome flow dues ts bad ended → Concludes ended (Ok u) → HaveAllTurns dues ts
all_turns u flow dues ts bad (Err f) outcome concluded = absurd (ok_err u f concluded)
all_turns u flow dues ts bad (Ok tally) outcome (inl e) =
    let none = no_first tally.first u e in
    record { all = outcome.1.all none; closed = outcome.1.closed; done = all_good flow ts outcome.1.closed (sym outcome.1.first ∙ none) }
all_turns u flow dues ts bad (Ok tally) outcome (inr (f, is, of_report)) = absurd (ok_err u f is)

-- ## Each field has a value

flat_nil : {A B : Type 0} (f : A → List B) (xs : List A) (x : A) → flat_map f xs ≡ [] → IsIn xs x → f x ≡ []
flat_nil f [] x e i = absurd i
flat_nil f (y ∷ xs) x e (inl is) = ap f is ∙ front_nil (f y) (flat_map f xs) e
flat_nil f (y ∷ xs) x e (inr i) = flat_nil f xs x (back_nil (f y) (flat_map f xs) e) i

staged_in : (js : List Job) (ss : List State) (j : Job) → length ss ≡ length js → Each (λ s. is_open s ≡ false) ss → IsIn js j → (s : State) × IsIn (zip js ss) (j, s) × (is_open s ≡ false)
staged_in [] ss j e shut i = absurd i
staged_in (x ∷ js) [] j e shut i = absurd (omega (arith, e))
staged_in (x ∷ js) (s ∷ ss) j e shut (inl is) = (s, inl (ap (λ y. (y, s)) is), shut.0)
staged_in (x ∷ js) (s ∷ ss) j e shut (inr i) = let r = staged_in js ss j (omega (arith, e)) shut.1 i in (r.0, inr r.1, r.2)

fields_there : (rules : Rules) (image : Image) (plan : Plan) → rules.missing ≡ missing → Each (λ s. is_open s ≡ false) plan.states → length plan.states ≡ length plan.jobs → refused_of rules image nothing_done plan ≡ []
    → (j : Job) → IsIn plan.jobs j → is_none (rules.missing j) ≡ true
fields_there rules image plan same shut each none j i =
    let at = staged_in plan.jobs plan.states j each shut i in
    let of_commands = flat_map (λ (e : Job × State). of_command rules image nothing_done plan e (rules.missing e.0)) (staged plan) in
    let of_bounds = flat_map (above_limit rules image nothing_done plan) (ahead rules image nothing_done plan) in
    let commands : of_commands ≡ [] =
    back_nil of_bounds of_commands
    (back_nil (guarded rules image nothing_done plan) (of_bounds ++ of_commands)
    (back_nil (incomplete rules image nothing_done plan) (guarded rules image nothing_done plan ++ (of_bounds ++ of_commands)) none)) in
    go at.0 at.2 (rules.missing j) (flat_nil (λ (e : Job × State). of_command rules image nothing_done plan e (rules.missing e.0)) (staged plan) (j, at.0) commands at.1)
  where
    go : (s : State) → is_open s ≡ false → (m : Option Text) → of_command rules image nothing_done plan (j, s) m ≡ [] → is_none m ≡ true
    go s shut None h = refl
    go s shut (Some word) h = absurd (some_fault (sym (ap (λ b. if b then [] else fault.UnknownField (rule_name rules.flow j.rule) word ∷ []) shut) ∙ h))
      where
        some_fault : {f : Fault} {rest : List Fault} → f ∷ rest ≡ [] → ⊥
        some_fault e = cc

-- ## The exit

-- what is left to do for what is asked: nothing
pub record LeavesNothing (o : Outside) (words : RunWords) (asked : Asked) (v : World) : Type 0 where
  pub plan : Plan
  pub last : (begun : List Path) → LastPlan asked.flow (seen o.read v) (settings_of asked words) (begun_so begun) [] plan
  pub clean : plan.states ≡ map (λ (j : Job). CleanState) plan.jobs
  pub current : (begun : List Path) → Each (λ p. is_current (seen o.read v) (settings_of asked words) (begun_so begun) plan p ≡ true) asked.targets

-- What is so after status 0, of the words as they ask in the folder of the entry, by the folder by which the plan was made.
pub record HasEndedWell (o : Outside) (words : RunWords) (entry w v : World) : Type 0 where
  pub asked : Asked
  pub is_asked : IsAskedIn words entry.nodes (Ok asked)
  pub targets : Each (IsClean (setting_in o w asked.flow) (seen o.read v)) asked.targets
  pub sources : SameSources (seen o.read w) (seen o.read v)
  pub left : words.force ≡ No → LeavesNothing o words asked v
  pub formed : IsFormed v

-- the same by folders that are the same but for the lock
moved_left :
    (o : Outside) (words : RunWords) (asked : Asked) (v x : World) → IsSameButLock (seen o.read v) (seen o.read x) → LeavesNothing o words asked v →
    LeavesNothing o words asked x
moved_left o words asked v x after h = record {
  plan = h.plan;
  last = λ begun. last_plans_heed_no_lock asked.flow (settings_of asked words) (begun_so begun) [] h.plan (seen o.read v) (seen o.read x) after (h.last begun);
  clean = h.clean;
  current = λ begun.
      on_both (λ (i : Image). Each (λ p. is_current i (settings_of asked words) (begun_so begun) h.plan p ≡ true) asked.targets) (λ i l k. k)
      (seen o.read v) (seen o.read x) after
      (h.current begun);
}

pub moved_end :
    (o : Outside) (words : RunWords) (entry w u v x : World) → IsSameButLock (seen o.read w) (seen o.read u) → IsSameButLock (seen o.read v)
    (seen o.read x) → IsFormed x →
    HasEndedWell o words entry u v → HasEndedWell o words entry w x
moved_end o words entry w u v x before after formed h = record {
  asked = h.asked;
  is_asked = h.is_asked;
  targets = on_both (λ (i : Image). Each (IsClean (set i) (seen o.read x)) h.asked.targets) (λ i l k. k) (seen o.read u) (seen o.read w) back
      (on_both (λ (i : Image). Each (IsClean (set (seen o.read u)) i) h.asked.targets) (λ i l k. k) (seen o.read v) (seen o.read x) after h.targets);
  sources = on_both (λ (i : Image). SameSources i (seen o.read x)) (λ i l k. k) (seen o.read u) (seen o.read w) back
      (on_both (λ (i : Image). SameSources (seen o.read u) i) (λ i l k. k) (seen o.read v) (seen o.read x) after h.sources);
  left = λ free. moved_left o words h.asked v x after (h.left free);
  formed = formed;
}
  where
    back : IsSameButLock (seen o.read u) (seen o.read w)
    back = same_back (seen o.read w) (seen o.read u) before

    set : Image → Setting
    set i = setting_of h.asked.flow o.act (λ j. is_none (missing j)) i

module _ (o : Outside) (H : Versions) (w : World) (differ : SumsDiffer H) (sound : SoundWorld o w H) (reads : ReadsRecords o.read) (words : RunWords)
    (entry : World) (asked : Asked)
    (told : Previewed) (to_serve : IsToServe o.read words entry w asked told) (plain : IsPlainFlow asked.flow) where
  abbrev pub plan : Plan
  plan = plan_of told

  abbrev pub settings : Settings
  settings = settings_of asked words

  abbrev pub rules : Rules
  rules = rules_for o.read asked.flow settings

  abbrev pub top : ℕ
  top = greatest_serial told.store

  pub planned : IsPlan asked.flow (seen o.read w) settings nothing_done plan
  planned = is_plan o.read w sound.formed asked plain words told to_serve.plan

  pub plainly : Each IsPlain plan.jobs
  plainly = all_plain o.read w sound.formed asked plain words told to_serve.plan

  pub fields : (j : Job) → IsIn plan.jobs j → is_none (missing j) ≡ true
  fields =
      fields_there rules (seen o.read w) plan refl (all_shut o w asked.flow settings plan sound.formed planned plainly)
      (ap length planned.states ∙ length-map plan.jobs (state_of (seen o.read w) settings nothing_done plan)) to_serve.plan.unrefused

  module _ (v : World) (duties : List Duty) (ts : List Turn) (meant : AreWhatIsMeant told.jobs told.plan.states told.store duties) (fit : Each IsFit ts)
      (r : IsTurnRun o H w differ sound reads words entry asked told to_serve plain v duties ts) where
    abbrev pub ran : IsDueRun o w H asked.flow settings plan ts r.es
    ran = record {
      makers = told.jobs.makers;
      duties = duties;
      cores = words.cores;
      top = top;
      reads = reads;
      differ = differ;
      sound = sound;
      is_top = is_top o w told.store to_serve.plan.stored;
      planned = planned;
      plain = plainly;
      meant = duties_meant o.read w sound.formed asked plain words told to_serve.plan duties meant;
      told = makers_told o.read w sound.formed asked plain words told to_serve.plan;
      in_order = r.in_order;
      fit = fit;
      follows = r.follows;
      is_run = r.is_run;
    }

    abbrev end : World
    end = run w r.es

    safe : IsSafeRun o w H top ts r.es
    safe = turns_safe o H w differ sound reads words entry asked told to_serve plain v duties ts meant fit r

    module _ (exit : RunLeavesAllClean) (free : words.force ≡ No) (all : HaveAllTurns (due (next_serial told.store) duties told.jobs.jobs) ts) where
      all_is : length ts ≡ length (due (Some (suc top)) duties plan.jobs)
      all_is = all.all ∙ ap (λ (f : ℕ → Option ℕ). length (due_from f 0 duties told.jobs.jobs)) (firsts_same top duties)

      sound_end : SoundWorld o end H
      sound_end = safe.at_end all.closed

      sources_stay : SameSources (seen o.read w) (seen o.read end)
      sources_stay = sources_now o w end H sound_end (safe.throughout r.es [] (sym (append-nil r.es)))

      clean : IsAllClean asked.flow (seen o.read end) settings plan
      clean = exit o w H asked.flow settings plan ts r.es ran free (record { all = all_is; done = all.done })

      ended : HasEndedWell o words entry w end
      ended =
          let same : plan.lists ≡ [] = lists_stay o w sound.formed rules plain [] plan to_serve.plan.last in
          let last : LastPlan asked.flow (seen o.read end) settings nothing_done plan.lists (all_clean plan) =
          Last (all_clean plan) (clean.planned []) (none_new o end sound_end.formed rules plain (all_clean plan) (clean.planned [])) in
          record {
            asked = asked;
            is_asked = to_serve.is_asked;
            targets = each_from (IsClean (setting_in o w asked.flow) (seen o.read end)) asked.targets
                (λ p i.
                let c =
                current_means_clean_in_worlds asked.flow o (λ j. is_none (missing j)) end H settings nothing_done plan.lists (all_clean plan) sound_end differ
                (λ j f files there shut gathered told_so. absurd (subst (λ fs. IsIn fs f) (none_gathered j (in_from plan.jobs j there)) (in_from (gathers_from j) f gathered)))
                last refl (λ j there shut. fields j (in_from plan.jobs j there)) p (contains_from asked.targets p i) (each_in (λ q. is_current (seen o.read end) settings nothing_done (all_clean plan) q ≡ true) asked.targets p (clean.current []) i) in
                (c.0, c.1, same_values asked.flow o.act (λ j. is_none (missing j)) (seen o.read w) (seen o.read end) (seen_is_complete o.read w sound.formed) (seen_is_complete o.read end sound_end.formed) sources_stay p ∙ c.2));
            sources = sources_stay;
            left = λ unforced. record {
              plan = all_clean plan;
              last = λ begun. subst (λ L. LastPlan asked.flow (seen o.read end) settings (begun_so begun) L (all_clean plan)) same (clean.last begun);
              clean = refl;
              current = clean.current;
            };
            formed = sound_end.formed;
          }
        where
          none_gathered : (j : Job) → IsIn plan.jobs j → gathers_from j ≡ []
          none_gathered j i = ap (map (λ (g : Gather). g.folder)) (each_in IsPlain plan.jobs j plainly i).gathers_none

  module _ (exit : RunLeavesAllClean) (free : words.force ≡ No) where
    pub goes_clean :
        (u : Unit {0}) (v : World) (old looked firm new : Device) (p q : Sunk) (r : Result (Unit {0}) StoreFault) (bad : Bool) → old.world ≡ Some w → new.world ≡ Some v →
        HasLooked o.act old looked false → HasActed o.act (HasTried (steady_requests told.store) r) looked firm bad →
        (g : GoesOn o.act asked.flow words.cores asked.targets told.jobs told.plan.states told.store (Ok u) firm new p q r) → HasEndedWell o words entry w v
    goes_clean u v old looked firm new p q r bad at ends looking settling (NotFirm f is same unput) = absurd (ok_err u (of_store f) is)
    goes_clean u v old looked firm new p q r bad at ends looking settling (NoMemory t is same unput) = absurd (ok_err u fault.OutOfMemory is)
    goes_clean u v old looked firm new p q r bad at ends looking settling (Made t duties for meant made) =
        let d = made.ran.did v ends in
        let start = started o H w differ sound d.0 old looked firm (HasTried (steady_requests told.store) (Ok t)) bad at looking settling d.1 in
        let run_is = turns_run o H w differ sound reads words entry asked told to_serve plain t d.0 v duties made.turns d.2.0 start made.in_order d.2.1 d.2.2 d.2.3 in
        let fit = all_fit made.turns made.fits in
        let all = all_turns u asked.flow (due (next_serial told.store) duties told.jobs.jobs) made.turns made.failed made.ended made.answer made.concluded in
        subst (HasEndedWell o words entry w) (sym run_is.is) (ended v duties made.turns meant fit run_is exit free all)
