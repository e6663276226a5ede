-- In a run after an edit that makes its jobs one after another, each job that has its turn is one that the plan has to run for the edited source.
use Rattle.std.proofs.Common.{◌≡◌, inl, inr, ℕ, suc, Bool, true, false, not, List, [], ◌∷◌, zip, refl, ap, sym, subst, ◌∙◌, Option, Result, true≢false}
use Rattle.smk_world.specs.Devices.{Device, Sunk}
use Rattle.smk_world.specs.Trees.{Path, IsIn}
use Rattle.smk_world.specs.World.{World, IsFormed}
use Rattle.smk_flow.specs.declared.job.Job.{Job}
use Rattle.smk_store.specs.Serials.{next_serial}
use Rattle.smk_store.specs.Soundness.{Outside}
use Rattle.smk_store.specs.Trust.{Versions}
use Rattle.smk_store.specs.declared.fault.StoreFault.{StoreFault}
use Rattle.smk_trigger.specs.JobStates.{is_to_run}
use Rattle.smk_trigger.specs.declared.reason.State.{State}
use Rattle.smk_plan.specs.Duties.{AreFor}
use Rattle.smk_plan.specs.States.{staged}
use Rattle.smk_plan.specs.declared.duty.Duty.TheVariants.{Rest, Restore, Run as RunIt}
use Rattle.smk_plan.specs.declared.duty.Duty.{Duty}
use Rattle.smk_report.specs.declared.fault.Fault.{Fault}
use Rattle.smk_run.specs.Duties.{Due, due, due_from, serial_of}
use Rattle.smk_run.specs.Runs.{AreInOrder}
use Rattle.smk_run.specs.Turns.{Turn}
use Rattle.smk_make.specs.Making.{GoesOn, Made, NoMemory, NotFirm}
use Rattle.smk_plan_preview.specs.Previewing.{plan_of}
use Rattle.smk_plan_preview.specs.declared.previewing.Previewed.{Previewed}
use Rattle.smk_words_reading.specs.declared.asked.RunWords.{RunWords}
use Rattle.smk_cli_entry.specs.declared.asking.Asked.{Asked}
use Rattle.smk_cli_calls.specs.Locking.{Stood, Taken, Unmade, Untaken}
use Rattle.smk_cli_calls.specs.Serving.{Drove, Refused, Stopped, Went, Worked}
use Rattle.smk_cli_calls.specs.Whole.{AsksFor, HasRun, Heeded, IsRefusal, IsToServe, Unasked, Unheeded}
use Rattle.smk_laws_edit.proofs.EditedWorlds.{formed_after}
use Rattle.smk_clean.specs.Again.{CallLeavesNone, turns_made, turns_ran, turns_went}
use Rattle.smk_clean.specs.Safe.{CallIsSafe}
use Rattle.smk_clean.proofs.Locked.{locked_same, served_before}
use Rattle.smk_laws_call.specs.Thrift.{EditedCallTurnsDownstream, HasRunWell, IsLeftEdited, IsPlanIn, IsRunFor}
use Rattle.smk_laws_call.proofs.Done.{sound, tree}
use Rattle.smk_laws_call.proofs.Edited.{downstream}

-- ## Jobs that are due

-- what is no rest is to run
to_run : (s : State) → false ≡ not (is_to_run s) → is_to_run s ≡ true
to_run s h = go (is_to_run s) h
  where
    go : (b : Bool) → false ≡ not b → b ≡ true
    go true h = refl
    go false h = absurd (true≢false (sym h))

-- a job that is due has a state by which it is to run
due_to_run :
    (f : ℕ → Option ℕ) (number : ℕ) (jobs : List Job) (states : List State) (duties : List Duty) → AreFor states duties →
    (d : Due) → IsIn (due_from f number duties jobs) d → (s : State) × IsIn (zip jobs states) (d.job, s) × (is_to_run s ≡ true)
due_to_run f number jobs states [] h d i = absurd i
due_to_run f number [] states (x ∷ duties) h d i = absurd i
due_to_run f number (j ∷ jobs) [] (x ∷ duties) h d i = absurd h
due_to_run f number (j ∷ jobs) (s ∷ states) (Rest made ∷ duties) h d i =
    let r = due_to_run f (suc number) jobs states duties h.1 d i in (r.0, inr r.1, r.2)
due_to_run f number (j ∷ jobs) (s ∷ states) (Restore made ∷ duties) h d (inl e) = (s, inl (λ n. ((e n).job, s)), to_run s h.0)
due_to_run f number (j ∷ jobs) (s ∷ states) (Restore made ∷ duties) h d (inr i) =
    let r = due_to_run f (suc number) jobs states duties h.1 d i in (r.0, inr r.1, r.2)
due_to_run f number (j ∷ jobs) (s ∷ states) (RunIt ∷ duties) h d (inl e) = (s, inl (λ n. ((e n).job, s)), to_run s h.0)
due_to_run f number (j ∷ jobs) (s ∷ states) (RunIt ∷ duties) h d (inr i) =
    let r = due_to_run f (suc number) jobs states duties h.1 d i in (r.0, inr r.1, r.2)

-- turns are of jobs that are due
turn_due : (cores : ℕ) (dues : List Due) (ts : List Turn) → AreInOrder cores dues ts → (t : Turn) → IsIn ts t → (d : Due) × IsIn dues d × (t.job ≡ d.job)
turn_due cores dues [] h t i = absurd i
turn_due cores [] (u ∷ ts) h t i = absurd h
turn_due cores (d ∷ dues) (u ∷ ts) h t (inl e) = (d, inl refl, ap (λ (y : Turn). y.job) e ∙ h.0)
turn_due cores (d ∷ dues) (u ∷ ts) h t (inr i) = let r = turn_due cores dues ts h.4 t i in (r.0, inr r.1, r.2)

-- ## The turns of a run

module _ (none_left : CallLeavesNone) (safe : CallIsSafe) (o : Outside) (H : Versions) (words : RunWords) (w v x : World) (p : Path)
    (ran : HasRunWell o H words w v) (is : IsLeftEdited o words w v x p) where
  formed : IsFormed x
  formed =
      subst IsFormed (sym is.is)
      (formed_after o.read v p is.bytes is.time is.read_only (sound none_left safe o H words w v ran).formed (tree none_left safe o H words w v ran)
      is.source)

  -- what is to run by the plan that is served
  run_for :
      (asked : Asked) (told : Previewed) → IsToServe o.read words x x asked told →
      (j : Job) (s : State) → IsIn (staged (plan_of told)) (j, s) → is_to_run s ≡ true → IsRunFor o words x p j
  run_for asked told serve j s i h =
      let is_plan : IsPlanIn o words x x (plan_of told) = record { asked = asked; is_asked = serve.is_asked; last = serve.plan.last } in
      record {
        plan = plan_of told;
        is_plan = is_plan;
        state = s;
        is_staged = i;
        for_it = (downstream none_left safe o H words w v x p ran is (plan_of told) is_plan).for_it (j, s) i h;
      }

  made_for :
      (asked : Asked) (told : Previewed) → IsToServe o.read words x x asked told → (answer : Result (Unit {0}) Fault) (old new : Device) (a b : Sunk)
      (settled : Result (Unit {0}) StoreFault)
      (g : GoesOn o.act asked.flow words.cores asked.targets told.jobs told.plan.states told.store answer old new a b settled) →
      (t : Turn) → IsIn (turns_made g) t → IsRunFor o words x p t.job
  made_for asked told serve answer old new a b settled (NotFirm f same unchanged unput) t i = absurd i
  made_for asked told serve answer old new a b settled (NoMemory u same unchanged unput) t i = absurd i
  made_for asked told serve answer old new a b settled (Made u duties for meant made) t i =
      let d = turn_due words.cores (due (next_serial told.store) duties told.jobs.jobs) made.turns made.in_order t i in
      let s = due_to_run (serial_of (next_serial told.store) duties) 0 told.jobs.jobs told.plan.states duties for d.0 d.1 in
      subst (IsRunFor o words x p) (sym d.2) (run_for asked told serve d.0.job s.0 s.1 s.2)

  -- in this folder, or under the lock in one that is the same but for it
  went_for :
      (u : World) → ((asked : Asked) (told : Previewed) → IsToServe o.read words x u asked told → IsToServe o.read words x x asked told) →
      (answer : Result (Unit {0}) Fault) (old new : Device) (a b : Sunk)
      (h : Went o.act words answer (IsRefusal o.read words x u) (AsksFor words x) (IsToServe o.read words x u) old new a b) →
      (t : Turn) → IsIn (turns_went h) t → IsRunFor o words x p t.job
  went_for u back answer old new a b (Refused f same why looked) t i = absurd i
  went_for u back answer old new a b (Stopped f same want looked) t i = absurd i
  went_for u back answer old new a b (Drove asked apart asks drove) t i = absurd i
  went_for u back answer old new a b (Worked asked told one plans worked) t i =
      made_for asked told (back asked told plans) answer worked.carried.firm new a b worked.carried.settled worked.carried.goes_on t i

  ran_for :
      (answer : Result (Unit {0}) Fault) (old new : Device) (a b : Sunk) (h : HasRun o.act o.read words x answer old new a b) →
      (t : Turn) → IsIn (turns_ran h) t → IsRunFor o words x p t.job
  ran_for answer old new a b (Unheeded free went) t i = went_for x (λ asked told serve. serve) answer old new a b went t i
  ran_for answer old new a b (Unasked f heeds same why looked) t i = absurd i
  ran_for answer old new a b (Heeded y looked heeds after at_y looking (Unmade same unchanged unput)) t i = absurd i
  ran_for answer old new a b (Heeded y looked heeds after at_y looking (Stood same stands tried unput)) t i = absurd i
  ran_for answer old new a b (Heeded y looked heeds after at_y looking (Untaken e same tried unput)) t i = absurd i
  ran_for answer old new a b (Heeded y looked heeds after at_y looking (Taken u locked once at_u taken done)) t i =
      went_for u
      (λ asked told serve. served_before o.read words x u asked told (locked_same o.act o.read x y u formed after once) serve)
      done.ran locked done.left a b done.went t i

pub edited_turns_downstream : CallLeavesNone → CallIsSafe → EditedCallTurnsDownstream
edited_turns_downstream none_left safe o H words w v x p ran is next t i =
    ran_for none_left safe o H words w v x p ran is next.served.answer next.old next.new next.out_old next.out_new next.served.serves t i
