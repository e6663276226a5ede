-- A run again starts nothing.
use Rattle.std.proofs.Common.{◌≡◌, ℕ, suc, false, List, [], ◌∷◌, map, refl, ap, sym, subst, ◌∙◌, Option, Some, Result, Ok}
use Rattle.std.specs.Prelude.{IsSome}
use Rattle.std.proofs.lemmas.Option.{same_Some}
use Rattle.smk_world.specs.World.{World, IsFormed, run}
use Rattle.smk_world.proofs.Names.{formed_run}
use Rattle.smk_record.specs.declared.record.Record.{Record}
use Rattle.smk_record.specs.Spelling.{ReadsRecords}
use Rattle.smk_world.specs.Devices.{Device, Sunk}
use Rattle.smk_world.specs.Runs.{Did}
use Rattle.smk_flow.specs.declared.job.Job.{Job}
use Rattle.smk_flow.specs.Flows.{Flow}
use Rattle.smk_store.specs.declared.fault.StoreFault.{StoreFault}
use Rattle.smk_store.specs.Images.{Image, seen}
use Rattle.smk_store.specs.Serials.{next_serial}
use Rattle.smk_store.specs.Steadying.{all_signs}
use Rattle.smk_store.specs.Soundness.{Outside}
use Rattle.smk_trigger.specs.declared.reason.State.{State}
use Rattle.smk_trigger.specs.declared.reason.State.TheVariants.{Clean}
use Rattle.smk_pick.specs.declared.settings.Settings.{Settings}
use Rattle.smk_plan.specs.States.{Plan, LastPlan, nothing_done}
use Rattle.smk_laws_history.proofs.CurrentComplete.{seen_is_complete}
use Rattle.smk_laws_plan.proofs.PlanOne.{one_last_plan}
use Rattle.smk_report.specs.declared.fault.Fault.{Fault}
use Rattle.smk_plan.specs.declared.duty.Duty.{Duty}
use Rattle.smk_plan.specs.declared.duty.Duty.TheVariants.{Rest, Restore, Run as RunIt}
use Rattle.smk_run.specs.Duties.{Due, due, due_from}
use Rattle.smk_plan.specs.Duties.{AreFor}
use Rattle.smk_run.specs.Runs.{AreInOrder}
use Rattle.smk_run.specs.Turns.{Turn}
use Rattle.smk_words_reading.specs.declared.asked.RunWords.{RunWords}
use Rattle.smk_cli_entry.specs.declared.asking.Asked.{Asked}
use Rattle.smk_cli_entry.specs.Entry.{IsAskedIn}
use Rattle.smk_make.specs.Making.{GoesOn, NotFirm, NoMemory, Made}
use Rattle.smk_plan_preview.specs.declared.previewing.Previewed.{Previewed}
use Rattle.smk_plan_preview.specs.Previewing.{plan_of, rules_for}
use Rattle.smk_plan_preview.proofs.LookedAt.{looks_leave, seen_moved}
use Rattle.smk_cli_calls.proofs.Driving.{rules_are}
use Rattle.smk_cli_calls.specs.Serving.{Went, Refused, Stopped, WasDriven, Worked, Drove, settings_of}
use Rattle.smk_cli_calls.specs.Locking.{Stood, Taken, Unmade, Untaken}
use Rattle.smk_cli_calls.specs.Whole.{AsksFor, HasRun, Heeded, IsRefusal, IsToServe, Unasked, Unheeded}
use Rattle.smk_safe.specs.Exit.{RunLeavesAllClean}
use Rattle.smk_drive.specs.Moments.{Rules}
use Rattle.smk_drive_first.specs.Opening.{AreRules}
use Rattle.smk_laws_refusing.specs.Heeding.{IsSameButLock}
use Rattle.smk_laws_refusing.proofs.Heeding.{last_plans_heed_no_lock}
use Rattle.smk_clean.specs.NothingStarts.{HasStartedNone, IsFirstPlan, StartsNone}
use Rattle.smk_clean.proofs.Quiet.{driven_starts_none}
use Rattle.smk_clean.specs.Again.{HasNoneLeft, NextCallStartsNothing, StartsNothing, turns_made, turns_went, untold_went}
use Rattle.smk_clean.proofs.Asking.{asked_same}
use Rattle.smk_clean.proofs.Ending.{DrivenEnds, ended_well, none_left}
use Rattle.smk_clean.proofs.Locked.{locked_same, served_before}
use Rattle.smk_clean.proofs.Undriven.{told_now}
use Rattle.smk_clean.proofs.Unstarted.{Starts, closed_starts_none, looks_start_none, same_starts_none, starts_then, taking_starts_none, tried_starts_none, turns_start_none}

-- where all jobs are Clean, none is due
none_due : (f : ℕ → Option ℕ) (number : ℕ) (jobs all : List Job) (states : List State) (duties : List Duty) → states ≡ map (λ (j : Job). Clean) all → AreFor states duties → due_from f number duties jobs ≡ []
none_due f number jobs all states [] e h = refl
none_due f number [] all states (d ∷ duties) e h = refl
none_due f number (j ∷ jobs) [] [] (d ∷ duties) e h = absurd h
none_due f number (j ∷ jobs) [] (s ∷ states) (d ∷ duties) e h = cc
none_due f number (j ∷ jobs) (k ∷ all) [] (d ∷ duties) e h = absurd h
none_due f number (j ∷ jobs) (k ∷ all) (s ∷ states) (Rest n ∷ duties) e h = none_due f (suc number) jobs all states duties (tails s states (map (λ (i : Job). Clean) all) e) h.1
  where
    tails : (s : State) (xs ys : List State) → s ∷ xs ≡ Clean ∷ ys → xs ≡ ys
    tails s xs ys e = cc
none_due f number (j ∷ jobs) (k ∷ all) (s ∷ states) (Restore n ∷ duties) e h = cc
none_due f number (j ∷ jobs) (k ∷ all) (s ∷ states) (RunIt ∷ duties) e h = cc

-- and then there are no turns
no_turns : (cores : ℕ) (dues : List Due) (ts : List Turn) → dues ≡ [] → AreInOrder cores dues ts → ts ≡ []
no_turns cores dues [] e h = refl
no_turns cores [] (t ∷ ts) e h = absurd h
no_turns cores (d ∷ dues) (t ∷ ts) e h = cc

states_same : (a b : Plan) → a ≡ b → a.states ≡ b.states
states_same a b e = ap (λ (p : Plan). p.states) e

module _ (o : Outside) (words : RunWords) (w v : World) (formed : IsFormed v) (left : HasNoneLeft o words w v)
    (same : (asked : Asked) → IsAskedIn words w.nodes (Ok asked) → IsAskedIn words v.nodes (Ok asked)) where
  -- the plan that is made again is the one that was left
  plan_again : (asked : Asked) (told : Previewed) → IsToServe o.read words v v asked told → plan_of told ≡ left.plan
  plan_again asked told serve =
      let is : asked ≡ left.asked = asked_same words v.nodes asked left.asked serve.is_asked (same left.asked left.is_asked) in
      one_last_plan left.asked.flow (seen o.read v) (settings_of left.asked words) nothing_done [] (plan_of told) left.plan (seen_is_complete o.read v formed)
      (subst (λ (a : Asked). LastPlan a.flow (seen o.read v) (settings_of a words) nothing_done [] (plan_of told)) is serve.plan.last) (left.last [])

  clean_again : (asked : Asked) (told : Previewed) → IsToServe o.read words v v asked told → told.plan.states ≡ map (λ (j : Job). Clean) left.plan.jobs
  clean_again asked told serve = states_same (plan_of told) left.plan (plan_again asked told serve) ∙ left.clean

  none_made :
      (asked : Asked) (told : Previewed) → IsToServe o.read words v v asked told → (answer : Result (Unit {0}) Fault) (old new : Device) (p q : Sunk)
      (settled : Result (Unit {0}) StoreFault) (g : GoesOn o.act asked.flow words.cores asked.targets told.jobs told.plan.states told.store answer old new p q settled) → turns_made g ≡ []
  none_made asked told serve answer old new p q settled (NotFirm f is unchanged unput) = refl
  none_made asked told serve answer old new p q settled (NoMemory u is unchanged unput) = refl
  none_made asked told serve answer old new p q settled (Made u duties for meant made) =
      no_turns words.cores (due (next_serial told.store) duties told.jobs.jobs) made.turns (none_due _ 0 told.jobs.jobs left.plan.jobs told.plan.states duties (clean_again asked told serve) for) made.in_order

  -- ## What starts nothing

  module _ (reads : ReadsRecords o.read) (asked : Asked) (is : AsksFor words v asked) where
    abbrev settings : Settings
    settings = settings_of asked words

    is_asked : left.asked ≡ asked
    is_asked = asked_same words v.nodes left.asked asked (same left.asked left.is_asked) is

    -- the plan that was left, in a folder that is the same but for the lock
    planned_at : (image : Image) → IsSameButLock (seen o.read v) image → LastPlan asked.flow image settings nothing_done [] left.plan
    planned_at image locked =
        last_plans_heed_no_lock asked.flow settings nothing_done [] left.plan (seen o.read v) image locked
        (subst (λ (a : Asked). LastPlan a.flow (seen o.read v) (settings_of a words) nothing_done [] left.plan) is_asked (left.last []))

    -- so it is the first one of what is driven
    first_plan :
        (rules : Rules) → AreRules asked.flow settings rules → rules.read ≡ o.read → (x : World) → IsSameButLock (seen o.read v) (seen o.read x) →
        IsFirstPlan rules x left.plan
    first_plan rules are reader x locked =
        subst (λ (read : List ℕ → Option Record). LastPlan rules.flow (seen read x) rules.settings nothing_done [] left.plan) (sym reader)
        (subst (λ (flow : Flow). LastPlan flow (seen o.read x) rules.settings nothing_done [] left.plan) (sym are.flow_is)
        (subst (λ (s : Settings). LastPlan asked.flow (seen o.read x) s nothing_done [] left.plan) (sym are.settings_are) (planned_at (seen o.read x) locked)))

    module _ (u : World) (formed_u : IsFormed u) (locked : IsSameButLock (seen o.read v) (seen o.read u)) (answer : Result (Unit {0}) Fault) (old new : Device)
        (p q : Sunk) (at : old.world ≡ Some u) (was : WasDriven o.act words answer asked old new p q) where
      -- what is driven starts nothing, by these rules
      drove_none :
          (rules : Rules) (are : AreRules asked.flow settings rules) → rules.read ≡ o.read → (x : World) → was.looked.world ≡ Some x →
          HasStartedNone o.act (was.drove rules are).deeds was.looked new
      drove_none rules are reader x at_x =
          let d = was.looking.acted.did x at_x in
          let from : d.0 ≡ u = same_Some d.0 u (sym d.1 ∙ at) in
          let formed_x : IsFormed x = subst IsFormed (sym d.2.3) (formed_run d.0 d.2.0 (subst IsFormed (sym from) formed_u)) in
          let as_seen : seen o.read x ≡ seen o.read u =
          ap (seen o.read) d.2.3 ∙ (seen_moved o.read d.0 (run d.0 d.2.0) (looks_leave o.act false d.0 d.2.0 d.2.1 d.2.2) ∙ ap (seen o.read) from) in
          driven_starts_none o.act rules was.driven x left.plan was.looked new p q at_x formed_x
          (first_plan rules are reader x (subst (IsSameButLock (seen o.read v)) (sym as_seen) locked)) left.clean (was.drove rules are)

      drove_starts : Starts o.act old new
      drove_starts = record { did = did }
        where
          rules : Rules
          rules = rules_for o.read asked.flow settings

          are : AreRules asked.flow settings rules
          are = rules_are o.read reads asked.flow settings

          did : Did o.act old.world new.world StartsNone
          did end at_end =
              let x = (was.drove rules are).ran.did end at_end in
              let driven : Starts o.act was.looked new = record { did = (drove_none rules are refl x.0 x.1).ran.did } in
              let both : Starts o.act old new = starts_then (looks_start_none was.looking) driven in
              both.did end at_end

      drove_untold :
          (rules : Rules) (are : AreRules asked.flow settings rules) → rules.read ≡ o.read → IsSome new.world → (was.drove rules are).deeds ≡ []
      drove_untold rules are reader told =
          let end = told_now new.world told in
          let x = (was.drove rules are).ran.did end.0 end.1 in
          (drove_none rules are reader x.0 x.1).untold told

  -- A run in this folder, or under the lock in one that is the same but for it.
  module _ (reads : ReadsRecords o.read) (u : World) (formed_u : IsFormed u) (locked : IsSameButLock (seen o.read v) (seen o.read u))
      (back : (asked : Asked) (told : Previewed) → IsToServe o.read words v u asked told → IsToServe o.read words v v asked told) where
    went_none :
        (answer : Result (Unit {0}) Fault) (old new : Device) (p q : Sunk) → old.world ≡ Some u →
        (h : Went o.act words answer (IsRefusal o.read words v u) (AsksFor words v) (IsToServe o.read words v u) old new p q) →
        Starts o.act old new × (turns_went h ≡ []) × untold_went o.read h
    went_none answer old new p q at (Refused f is why looked) = (looks_start_none looked.looked, refl, tt)
    went_none answer old new p q at (Stopped f is want looked) = (looks_start_none looked.looked, refl, tt)
    went_none answer old new p q at (Drove asked apart is drove) = (
      drove_starts reads asked is u formed_u locked answer old new p q at drove,
      refl,
      drove_untold reads asked is u formed_u locked answer old new p q at drove,
    )
    went_none answer old new p q at (Worked asked told one plans worked) =
        let none = none_made asked told (back asked told plans) answer worked.carried.firm new p q worked.carried.settled worked.carried.goes_on in (
          starts_then (looks_start_none worked.looking)
              (starts_then (tried_starts_none (all_signs told.store) worked.carried.settled worked.carried.settling) (goes worked.carried.settled worked.carried.goes_on none)),
          none,
          tt,
        )
      where
        goes :
            (settled : Result (Unit {0}) StoreFault)
            (g : GoesOn o.act asked.flow words.cores asked.targets told.jobs told.plan.states told.store answer worked.carried.firm new p q settled) →
            turns_made g ≡ [] → Starts o.act worked.carried.firm new
        goes settled (NotFirm f is unchanged unput) none = same_starts_none unchanged
        goes settled (NoMemory x is unchanged unput) none = same_starts_none unchanged
        goes settled (Made x duties for meant made) none = turns_start_none _ made.turns none made.ran

  pub starts_nothing :
      ReadsRecords o.read → (answer : Result (Unit {0}) Fault) (old new : Device) (p q : Sunk) → old.world ≡ Some v →
      (h : HasRun o.act o.read words v answer old new p q) → StartsNothing h
  starts_nothing reads answer old new p q at (Unheeded free went) =
      let none = went_none reads v formed refl (λ asked told serve. serve) answer old new p q at went in
      record { no_child = none.0.did; no_turn = none.1; no_job = none.2 }
  starts_nothing reads answer old new p q at (Unasked f heeds is why looked) =
      record { no_child = (looks_start_none looked.looked).did; no_turn = refl; no_job = tt }
  starts_nothing reads answer old new p q at (Heeded x looked heeds after at_x looking (Unmade is unchanged unput)) =
      record { no_child = (starts_then (looks_start_none looking) (same_starts_none unchanged)).did; no_turn = refl; no_job = tt }
  starts_nothing reads answer old new p q at (Heeded x looked heeds after at_x looking (Stood is stands tried unput)) =
      record { no_child = (starts_then (looks_start_none looking) (taking_starts_none tried)).did; no_turn = refl; no_job = tt }
  starts_nothing reads answer old new p q at (Heeded x looked heeds after at_x looking (Untaken e is tried unput)) =
      record { no_child = (starts_then (looks_start_none looking) (taking_starts_none tried)).did; no_turn = refl; no_job = tt }
  starts_nothing reads answer old new p q at (Heeded x looked heeds after at_x looking (Taken u locked once at_u taken ran)) =
      let formed_x : IsFormed x = subst IsFormed (sym after.is) (formed_run v after.looks formed) in
      let formed_u : IsFormed u = subst IsFormed (sym once.is) (formed_run x once.taking formed_x) in
      let as_locked = locked_same o.act o.read v x u formed after once in
      let none =
      went_none reads u formed_u as_locked (λ asked told serve. served_before o.read words v u asked told as_locked serve) ran.ran locked ran.left p q at_u
      ran.went in
      record {
        no_child =
            (starts_then (looks_start_none looking) (starts_then (taking_starts_none taken) (starts_then none.0 (closed_starts_none ran.closed)))).did;
        no_turn = none.1;
        no_job = none.2;
      }

pub next_starts_nothing : RunLeavesAllClean → DrivenEnds → NextCallStartsNothing
next_starts_nothing exit drives o H words told again w v old new next_old next_new p q next_p next_q at end next_at reads differ sound free served none same
    next =
    let well = ended_well exit drives o H words told w v old new p q at end reads differ sound served none in
    let left = none_left exit drives o words w v free well in
    starts_nothing o words w v well.formed left same reads next.answer next_old next_new next_p next_q next_at next.serves
