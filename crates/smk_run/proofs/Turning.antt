-- From the calls and the lines of one job to its turn.
use Rattle.std.proofs.Common.{◌≡◌, ◌⊎◌, ℕ, Bool, true, false, List, [], ◌++◌, refl, ap, sym, subst, ◌∙◌, inl, inr, Option, Some, None, Result, Ok, Err, true≢false}
use Rattle.std.proofs.lemmas.Option.{none-some}
use Rattle.smk_world.specs.declared.event.Event.{Event}
use Rattle.smk_world.specs.declared.event.WorkFault.{WorkFault}
use Rattle.smk_world.specs.declared.event.WorkFault.TheVariants.{Failed as FailedFault, OutOfMemory as MemoryFault}
use Rattle.smk_world.specs.World.{World, run}
use Rattle.smk_world.specs.Calls.{device_failed}
use Rattle.smk_world.specs.Devices.{Device, Sunk, HasEnded}
use Rattle.smk_world.specs.Trees.{Act}
use Rattle.smk_record.specs.declared.record.Stamp.{Stamp}
use Rattle.smk_flow.specs.declared.job.Job.{Job}
use Rattle.smk_job.specs.declared.fault.BeginFault.{BeginFault}
use Rattle.smk_job.specs.declared.fault.BeginFault.TheVariants as begin
use Rattle.smk_job.specs.Jobs.{Underway, underway, HasBegun, IsBegunFor, begin_failed, too_long}
use Rattle.smk_job.specs.Starts.{HasStarted, begun_child}
use Rattle.smk_job.proofs.Starts.{started_ended}
use Rattle.smk_report.specs.Lines.{Text, Named}
use Rattle.smk_run.specs.declared.ending.Ending.{Ending}
use Rattle.smk_run.specs.declared.stop.Stop.{Stop}
use Rattle.smk_run.specs.declared.stop.Stop.TheVariants.{TooLong, Gone, Device as DeviceStop, Output, OutOfMemory}
use Rattle.smk_run.specs.Closings.{HasClosed}
use Rattle.smk_run.specs.Turns.{Course, Unbegun, Unstarted, Unclosed, Closed, HasGoneOn, as_gone, stop_of, left_stop}
use Rattle.smk_run.specs.Reports.{course_text, IsReport, HasReported, HasTurned, IsAnswer, is_whole, is_output}
use Rattle.smk_run.specs.Statuses.{HasGiven}
use Rattle.smk_run.proofs.Ends.{ended_as, ended_nothing}
use Rattle.smk_run.proofs.Texts.{course_of, no_text}
use Rattle.smk_run.proofs.Honest.{given_none, given_then, begun_given}

-- ## A child that runs

gone_on : (j : Underway) (closed : Result Ending WorkFault) (w : World) (es : List Event) → HasClosed j closed w es → HasGoneOn j (course_of closed) w es
gone_on j (Ok ending) w es h = h
gone_on j (Err f) w es h = (f, h)

-- its job was closed so, or not
pub attended : (act : Act) (j : Underway) (name : Named) (closed k : Result Ending WorkFault) (result : Result Ending Stop) (a b : Device) (p q : Sunk)
    → closed ≡ k → IsAnswer None (course_of k) (device_failed k) result
    → HasEnded act (HasClosed j closed) a b (device_failed closed) → HasGiven act a b
    → HasReported (IsReport (is_whole result) (course_text name (course_of k))) p q (is_output result)
    → HasTurned act (HasGoneOn j) name None result a b p q
attended act j name closed k result a b p q same answer ended given text = record {
  course = course_of k;
  failed = device_failed k;
  answer = answer;
  ran = ended_as act (HasClosed j k) (HasGoneOn j (course_of k)) a b (device_failed k) (device_failed k) refl (gone_on j k) (subst (λ x. HasEnded act (HasClosed j x) a b (device_failed x)) same ended);
  given = given;
  text = text;
  fits = λ e. refl;
}

pub untold_answer : (closed : Result Ending WorkFault) → IsAnswer None (course_of closed) (device_failed closed) (Err Output)
untold_answer (Ok ending) = refl
untold_answer (Err f) = refl

pub left_answer : (f : WorkFault) → IsAnswer None Unclosed (device_failed {T = Ending} (Err f)) (Err (left_stop f))
left_answer FailedFault = (refl, refl)
left_answer MemoryFault = refl

-- the line of the end wasn't put
pub cut_answer : (ending : Ending) (stop : Stop) → (stop ≡ Output) ⊎ (stop ≡ OutOfMemory) → IsAnswer None (Closed ending) false (Err stop)
cut_answer ending stop (inl e) = subst (λ s. IsAnswer None (Closed ending) false (Err s)) (sym e) refl
cut_answer ending stop (inr e) = subst (λ s. IsAnswer None (Closed ending) false (Err s)) (sym e) refl

pub cut_whole : (stop : Stop) → (stop ≡ Output) ⊎ (stop ≡ OutOfMemory) → is_whole {T = Ending} (Err stop) ≡ false
cut_whole stop (inl e) = ap (λ s. is_whole {T = Ending} (Err s)) e
cut_whole stop (inr e) = ap (λ s. is_whole {T = Ending} (Err s)) e

-- ## A job that begins

longer : (long : Option ℕ) (course : Course) (failed : Bool) (result : Result Ending Stop) → IsAnswer None course failed result → IsAnswer long course failed result
longer long course failed (Ok ending) h = h
longer long course failed (Err (TooLong bytes)) h = absurd (none-some bytes h.2)
longer long course failed (Err (Gone p)) h = h
longer long course failed (Err DeviceStop) h = h
longer long course failed (Err Output) h = h
longer long course failed (Err OutOfMemory) h = h

begun_and : (job : Job) (command : Text) (made : ℕ) (stamps : List Stamp) (going : Underway) (course : Course) (w : World) (es fs : List Event)
    → going ≡ underway job.recipe job.logs stamps made going.number
    → HasBegun job.recipe job.logs command (Ok going) w es → HasGoneOn going course (run w es) fs → as_gone job command made stamps course w (es ++ fs)
begun_and job command made stamps going Unbegun w es fs is begun gone = absurd gone
begun_and job command made stamps going Unstarted w es fs is begun gone = absurd gone
begun_and job command made stamps going Unclosed w es fs is begun gone = record {
  number = going.number;
  first = es;
  rest = fs;
  events = refl;
  begun = begun.0;
  started = begun.1;
  then_did = subst (λ (u : Underway). HasGoneOn u Unclosed (run w es) fs) is gone;
}
begun_and job command made stamps going (Closed ending) w es fs is begun gone = record {
  number = going.number;
  first = es;
  rest = fs;
  events = refl;
  begun = begun.0;
  started = begun.1;
  then_did = subst (λ (u : Underway). HasGoneOn u (Closed ending) (run w es) fs) is gone;
}

module _ (act : Act) (job : Job) (command : Text) (made : ℕ) (stamps : List Stamp) where
  abbrev pub Began : Result Underway BeginFault → Device → Device → Type 0
  Began r a b = HasStarted act (HasBegun job.recipe job.logs command r) (begun_child r) a b (begin_failed r)

  -- it began, and then its child was attended to
  pub turned : (name called : Named) (going : Underway) (r : Result Underway BeginFault) (result : Result Ending Stop) (a b c : Device) (p q : Sunk)
      → called ≡ name → r ≡ Ok going → IsBegunFor job.recipe job.logs stamps made r → Began r a b → HasTurned act (HasGoneOn going) called None result b c p q
      → HasTurned act (as_gone job command made stamps) name (too_long made job.recipe stamps) result a c p q
  turned name called going r result a b c p q same ok for begun h =
      let well = subst (IsBegunFor job.recipe job.logs stamps made) ok for in
      record {
        course = h.course;
        failed = h.failed;
        answer = longer (too_long made job.recipe stamps) h.course h.failed result h.answer;
        ran = started_ended act (HasBegun job.recipe job.logs command (Ok going)) (HasGoneOn going h.course) (as_gone job command made stamps h.course) (Some going.number) a b c h.failed
            (λ w es fs follows f follows2 g. begun_and job command made stamps going h.course w es fs well.going f g) (subst (λ x. Began x a b) ok begun) h.ran;
        given = given_then act a b c begun.cause.later h.ran.cause.later (begun_given act job.recipe job.logs command r a b begun.did) h.given;
        text = subst (λ n. HasReported (IsReport (is_whole result) (course_text n h.course)) p q (is_output result)) same h.text;
        fits = λ e. well.long;
      }

  -- nothing was done
  pub unturned : (name : Named) (long : Option ℕ) (stop : Stop) (a b : Device) (p : Sunk)
      → b ≡ a → is_output {T = Ending} (Err stop) ≡ false → IsAnswer long Unbegun false (Err stop) → a.running ≡ [] → HasTurned act (as_gone job command made stamps) name long (Err stop) a b p p
  unturned name long stop a b p same quiet answer none =
      subst (λ d. HasTurned act (as_gone job command made stamps) name long (Err stop) a d p p) (sym same) (record {
        course = Unbegun;
        failed = false;
        answer = answer;
        ran = ended_nothing act (as_gone job command made stamps Unbegun) a none (λ w. refl);
        given = given_none act a;
        text = subst (HasReported (IsReport (is_whole {T = Ending} (Err stop)) []) p p) (sym quiet) (no_text (is_whole {T = Ending} (Err stop)) p);
        fits = λ e. absurd (true≢false (sym e));
      })

  -- it didn't begin
  pub not_turned : (name : Named) (r : Result Underway BeginFault) (fault : BeginFault) (a b : Device) (p : Sunk)
      → r ≡ Err fault → IsBegunFor job.recipe job.logs stamps made r → ((fault ≡ begin.Device → ⊥) → b ≡ a) → a.running ≡ [] → Began r a b
      → HasTurned act (as_gone job command made stamps) name (too_long made job.recipe stamps) (Err (stop_of fault)) a b p p
  not_turned name r (begin.TooLong bytes) a b p is for untouched none begun =
      unturned name (too_long made job.recipe stamps) (TooLong bytes) a b p (untouched (λ e. cc)) refl (refl, refl, (subst (IsBegunFor job.recipe job.logs stamps made) is for).long) none
  not_turned name r begin.OutOfMemory a b p is for untouched none begun = unturned name (too_long made job.recipe stamps) OutOfMemory a b p (untouched (λ e. cc)) refl refl none
  not_turned name r begin.Device a b p is for untouched none begun =
      let failed = subst (λ x. Began x a b) is begun in
      record {
        course = Unstarted;
        failed = true;
        answer = (refl, refl);
        ran = record {
          did = failed.did;
          stays = failed.stays;
          cause = failed.cause;
          idle = λ quiet. absurd (true≢false quiet);
        };
        given = begun_given act job.recipe job.logs command r a b begun.did;
        text = no_text true p;
        fits = λ e. (subst (IsBegunFor job.recipe job.logs stamps made) is for).long;
      }
