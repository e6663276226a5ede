-- From the stamps and the run of one job to its turn.
use Rattle.std.proofs.Common.{◌≡◌, ℕ, Bool, true, false, List, [], ◌++◌, map, refl, ap, sym, subst, ◌∙◌, inl, inr, Option, Result, Ok, Err, true≢false}
use Rattle.std.proofs.lemmas.List.{append-nil}
use Rattle.std.specs.List.{list_all, flat_map}
use Rattle.smk_world.specs.declared.event.Event.{Event}
use Rattle.smk_world.specs.declared.recipe.Out.{Out}
use Rattle.smk_world.specs.declared.recipe.OutItem.{OutItem}
use Rattle.smk_world.specs.World.{World, run, in_paths, out_paths, owned_paths}
use Rattle.smk_world.specs.Devices.{Device, Sunk, HasActed, HasEnded}
use Rattle.smk_world.specs.Trees.{Path, Act, Each, is_path_text}
use Rattle.smk_world.proofs.Devices.{ended_acted}
use Rattle.smk_record.specs.declared.record.Stamp.{Stamp}
use Rattle.smk_flow.specs.declared.job.Job.{Job}
use Rattle.smk_flow.specs.Flows.{Flow}
use Rattle.smk_job.specs.Jobs.{too_long}
use Rattle.smk_store_members.proofs.Lists.{each_list_all}
use Rattle.smk_report.specs.Lines.{Text, Named}
use Rattle.smk_report.specs.declared.fault.Fault.{Fault}
use Rattle.smk_report.specs.declared.fault.Fault.TheVariants as fault
use Rattle.smk_run.specs.declared.ending.Ending.{Ending}
use Rattle.smk_run.specs.declared.stop.Stop.{Stop}
use Rattle.smk_run.specs.declared.stop.Stop.TheVariants.{TooLong, Gone, Device as DeviceStop, Output, OutOfMemory}
use Rattle.smk_run.specs.Digesting.{HasDigested, HasInputs}
use Rattle.smk_run.specs.Stamps.{Serials, is_of_look}
use Rattle.smk_run.specs.Turns.{Course, Unbegun, Unstarted, Unclosed, Closed, IsTurn, found, as_gone}
use Rattle.smk_run.specs.Reports as one
use Rattle.smk_run.specs.Reports.{named, course_text, IsReport, HasReported, HasTurned, IsAnswer, failure, stop_fault, is_refusal}
use Rattle.smk_run.specs.Runs.{turn_of, AreWritable, Fits, IsLooked, IsLookedBy, HasTaken, HasHadTurn, IsToldStop, is_whole, is_output}
use Rattle.smk_run.proofs.Seen.{all_join}
use Rattle.smk_run.proofs.Ends.{ended_as, ended_nothing, acted_ended}
use Rattle.smk_run.proofs.Texts.{no_text, reported_as}
use Rattle.smk_run.proofs.Honest.{given_none, given_then, stamped_given}

-- ## The stamps, and then the job

gone_turn : (made : Serials) (job : Job) (command : Text) (serial : ℕ) (stamps : List Stamp) (course : Course) (w : World) (es fs : List Event)
    → HasDigested made (in_paths job.recipe) stamps w es → as_gone job command serial stamps course (run w es) fs → IsTurn made (turn_of job command serial (Ok stamps) course) w (es ++ fs)
gone_turn made job command serial stamps Unbegun w es fs h k =
    subst (λ l. HasDigested made (in_paths job.recipe) stamps w (es ++ l)) (sym k) (subst (λ l. HasDigested made (in_paths job.recipe) stamps w l) (sym (append-nil es)) h)
gone_turn made job command serial stamps Unstarted w es fs h k = record { seen = es; rest = fs; events = refl; stamped = h; then_did = k }
gone_turn made job command serial stamps Unclosed w es fs h k = record { seen = es; rest = fs; events = refl; stamped = h; then_did = k }
gone_turn made job command serial stamps (Closed ending) w es fs h k = record { seen = es; rest = fs; events = refl; stamped = h; then_did = k }

found_why : (stamps : List Stamp) (result : Result Ending Stop) → ((p : Path) → result ≡ Err (Gone p) → ⊥) → IsLookedBy (Ok stamps) result
found_why stamps (Ok ending) never = tt
found_why stamps (Err (TooLong n)) never = (stamps, refl)
found_why stamps (Err (Gone q)) never = absurd (never q refl)
found_why stamps (Err DeviceStop) never = tt
found_why stamps (Err Output) never = tt
found_why stamps (Err OutOfMemory) never = tt

pub taken : (act : Act) (flow : Flow) (made : Serials) (job : Job) (command : Text) (serial : ℕ) (paths : List Path) (stamps : List Stamp) (r : Result (List Stamp) Stop) (result : Result Ending Stop)
    (a b c : Device) (p q : Sunk)
    → paths ≡ in_paths job.recipe → r ≡ Ok stamps → HasActed act (HasInputs made paths r) a b (one.is_device r) → ((x : Path) → result ≡ Err (Gone x) → ⊥)
    → AreWritable serial job.recipe stamps
    → HasTurned act (as_gone job command serial stamps) (named flow job) (too_long serial job.recipe stamps) result b c p q
    → HasTaken act flow made job command serial result a c p q
taken act flow made job command serial paths stamps r result a b c p q at ok seen never writable h =
    let looked : HasActed act (HasInputs made (in_paths job.recipe) (Ok stamps)) a b false
    = subst (λ l. HasActed act (HasInputs made l (Ok stamps)) a b false) at (subst (λ x. HasActed act (HasInputs made paths x) a b (one.is_device x)) ok seen) in
    record {
      looked = Ok stamps;
      why = found_why stamps result never;
      turned = record {
        course = h.course;
        failed = h.failed;
        answer = h.answer;
        ran = acted_ended act (HasInputs made (in_paths job.recipe) (Ok stamps)) (as_gone job command serial stamps h.course) (IsTurn made (turn_of job command serial (Ok stamps) h.course)) a b c h.failed
            (λ w es fs follows f follows2 g. gone_turn made job command serial stamps h.course w es fs f g) looked h.ran;
        given = given_then act a b c looked.cause.later h.ran.cause.later (stamped_given act made (in_paths job.recipe) (Ok stamps) a b looked.did) h.given;
        text = h.text;
        fits = h.fits;
      };
      records = λ e. writable;
    }

look_why : (stop : Stop) → is_of_look stop ≡ true → IsLooked (Err stop) stop
look_why (TooLong n) h = cc
look_why (Gone q) h = refl
look_why DeviceStop h = tt
look_why Output h = tt
look_why OutOfMemory h = tt

look_answer : (long : Option ℕ) (stop : Stop) → is_of_look stop ≡ true → IsAnswer long Unbegun (one.is_device {T = List Stamp} (Err stop)) (Err stop)
look_answer long (TooLong n) h = cc
look_answer long (Gone q) h = (refl, refl)
look_answer long DeviceStop h = (refl, refl)
look_answer long Output h = cc
look_answer long OutOfMemory h = refl

look_text : (stop : Stop) → is_of_look stop ≡ true → one.is_output {T = Ending} (Err stop) ≡ false
look_text (TooLong n) h = refl
look_text (Gone q) h = refl
look_text DeviceStop h = refl
look_text Output h = cc
look_text OutOfMemory h = refl

-- there are no stamps
pub not_taken : (act : Act) (flow : Flow) (made : Serials) (job : Job) (command : Text) (serial : ℕ) (paths : List Path) (stop : Stop) (r : Result (List Stamp) Stop) (a b : Device) (p : Sunk)
    → paths ≡ in_paths job.recipe → r ≡ Err stop → is_of_look stop ≡ true → HasActed act (HasInputs made paths r) a b (one.is_device r) → a.running ≡ []
    → HasTaken act flow made job command serial (Err stop) a b p p
not_taken act flow made job command serial paths stop r a b p at is kind seen none =
    let looked : HasActed act (HasInputs made (in_paths job.recipe) (Err stop)) a b (one.is_device {T = List Stamp} (Err stop))
    = subst (λ l. HasActed act (HasInputs made l (Err stop)) a b (one.is_device {T = List Stamp} (Err stop))) at (subst (λ x. HasActed act (HasInputs made paths x) a b (one.is_device x)) is seen) in
    record {
      looked = Err stop;
      why = look_why stop kind;
      turned = record {
        course = Unbegun;
        failed = one.is_device {T = List Stamp} (Err stop);
        answer = look_answer (too_long serial job.recipe []) stop kind;
        ran = as_turn (ended_acted none looked);
        given = stamped_given act made (in_paths job.recipe) (Err stop) a b looked.did;
        text = subst (HasReported (IsReport (one.is_whole {T = Ending} (Err stop)) []) p p) (sym (look_text stop kind)) (no_text (one.is_whole {T = Ending} (Err stop)) p);
        fits = λ e. absurd (true≢false (sym e));
      };
      records = λ e. absurd (true≢false (sym e));
    }
  where
    as_turn : HasEnded act (HasInputs made (in_paths job.recipe) (Err stop)) a b (one.is_device {T = List Stamp} (Err stop))
        → HasEnded act (IsTurn made (turn_of job command serial (Err stop) Unbegun)) a b (one.is_device {T = List Stamp} (Err stop))
    as_turn h =
        ended_as act (HasInputs made (in_paths job.recipe) (Err stop)) (IsTurn made (turn_of job command serial (Err stop) Unbegun)) a b
        (one.is_device {T = List Stamp} (Err stop)) (one.is_device {T = List Stamp} (Err stop)) refl (λ w es f. f) h

-- nothing was done
pub nothing_taken : (act : Act) (flow : Flow) (made : Serials) (job : Job) (command : Text) (serial : ℕ) (a : Device) (p : Sunk) → a.running ≡ [] → HasTaken act flow made job command serial (Err OutOfMemory) a a p p
nothing_taken act flow made job command serial a p none = record {
  looked = Err OutOfMemory;
  why = tt;
  turned = record {
    course = Unbegun;
    failed = false;
    answer = refl;
    ran = ended_nothing act (IsTurn made (turn_of job command serial (Err OutOfMemory) Unbegun)) a none (λ w. inl tt);
    given = given_none act a;
    text = no_text false p;
    fits = λ e. absurd (true≢false (sym e));
  };
  records = λ e. absurd (true≢false (sym e));
}

-- ## Its answer

-- The job has an output, and its outputs and logs are paths in UTF-8.
pub record MakesPaths (job : Job) : Type 0 where
  pub makes : out_paths job.recipe ≡ [] → ⊥
  pub paths : Each (λ p. is_path_text p ≡ true) (owned_paths job.recipe job.logs)

makes_paths : (job : Job) → (out_paths job.recipe ≡ [] → ⊥) → list_all is_path_text (out_paths job.recipe) ≡ true → list_all is_path_text job.logs ≡ true → MakesPaths job
makes_paths job makes outs logs = record {
  makes = makes;
  paths = each_list_all is_path_text (owned_paths job.recipe job.logs) (all_join is_path_text (out_paths job.recipe) job.logs (owned_paths job.recipe job.logs) refl outs logs);
}

-- by the outputs and the logs that were gone over
pub by_seen : (job : Job) (outputs : List OutItem) (logs : List Path) → (out_paths job.recipe ≡ [] → ⊥) → outputs ≡ job.recipe.outputs → logs ≡ job.logs
    → list_all is_path_text (flat_map (λ (item : OutItem). map (λ (out : Out). out.path) item.outs) outputs) ≡ true → list_all is_path_text logs ≡ true → MakesPaths job
by_seen job outputs logs makes e f outs own =
    makes_paths job makes (subst (λ (items : List OutItem). list_all is_path_text (flat_map (λ (item : OutItem). map (λ (out : Out). out.path) item.outs) items) ≡ true) e outs)
    (subst (λ ps. list_all is_path_text ps ≡ true) f own)

-- a whole that may be a front
weaker : (a b : Sunk) (f : Bool) (text : Text) → HasReported (IsReport true text) a b f → HasReported (IsReport false text) a b f
weaker a b f text h = reported_as (IsReport true text) (IsReport false text) a b f f refl (λ t one. ([], sym one ∙ sym (append-nil t))) h

-- What is put of a turn that was taken, by its answer.
abbrev Told : Text → Result Ending Stop → Sunk → Sunk → Type 0
Told text r p q = HasReported (IsReport (one.is_whole r) text) p q (one.is_output r)

-- and of one that was had
abbrev ToldOf : Text → Result (Option Fault) Fault → Sunk → Sunk → Type 0
ToldOf text r p q = HasReported (IsReport (is_whole r) text) p q (is_output r)

-- the job was closed, and there is memory for its fault
pub had_turn : (act : Act) (flow : Flow) (made : Serials) (job : Job) (command : Text) (serial : ℕ) (ending : Ending) (name : Named) (first : Option Fault) (r : Result Ending Stop) (a b : Device) (p q : Sunk)
    → MakesPaths job → name ≡ named flow job → r ≡ Ok ending → first ≡ failure name ending → HasTaken act flow made job command serial r a b p q
    → HasHadTurn act flow made job command serial (Ok first) a b p q
had_turn act flow made job command serial ending name first r a b p q by_paths called ok is h =
    let t = h.turned in
    let answer : IsAnswer (too_long serial job.recipe (found h.looked)) t.course t.failed (Ok ending) = subst (λ x. IsAnswer (too_long serial job.recipe (found h.looked)) t.course t.failed x) ok t.answer in
    record {
      turn = turn_of job command serial h.looked t.course;
      failed = t.failed;
      job_is = refl;
      command_is = refl;
      made_is = refl;
      answer = (answer.1, (ending, answer.0, is ∙ ap (λ n. failure n ending) called));
      fits = record { makes = by_paths.makes; paths = by_paths.paths; records = h.records; short = t.fits };
      ran = t.ran;
      given = t.given;
      text = subst (λ x. Told (course_text (named flow job) t.course) x p q) ok t.text;
    }

-- the job was closed, and there is no memory for its fault
pub had_turn_untold : (act : Act) (flow : Flow) (made : Serials) (job : Job) (command : Text) (serial : ℕ) (ending : Ending) (r : Result Ending Stop) (a b : Device) (p q : Sunk)
    → MakesPaths job → r ≡ Ok ending → HasTaken act flow made job command serial r a b p q
    → HasHadTurn act flow made job command serial (Err fault.OutOfMemory) a b p q
had_turn_untold act flow made job command serial ending r a b p q by_paths ok h =
    let t = h.turned in
    let answer : IsAnswer (too_long serial job.recipe (found h.looked)) t.course t.failed (Ok ending) = subst (λ x. IsAnswer (too_long serial job.recipe (found h.looked)) t.course t.failed x) ok t.answer in
    record {
      turn = turn_of job command serial h.looked t.course;
      failed = t.failed;
      job_is = refl;
      command_is = refl;
      made_is = refl;
      answer = inl (answer.1, refl);
      fits = record { makes = by_paths.makes; paths = by_paths.paths; records = h.records; short = t.fits };
      ran = t.ran;
      given = t.given;
      text = weaker p q false (course_text (named flow job) t.course) (subst (λ x. Told (course_text (named flow job) t.course) x p q) ok t.text);
    }

whole_stop : (name : Named) (stop : Stop) → one.is_whole {T = Ending} (Err stop) ≡ is_whole {T = Option Fault} (Err (stop_fault name stop))
whole_stop name (TooLong n) = refl
whole_stop name (Gone q) = refl
whole_stop name DeviceStop = refl
whole_stop name Output = refl
whole_stop name OutOfMemory = refl

output_stop : (name : Named) (stop : Stop) → one.is_output {T = Ending} (Err stop) ≡ is_output {T = Option Fault} (Err (stop_fault name stop))
output_stop name (TooLong n) = refl
output_stop name (Gone q) = refl
output_stop name DeviceStop = refl
output_stop name Output = refl
output_stop name OutOfMemory = refl

told_as : (a b : Sunk) (o p w v : Bool) (text : Text) → o ≡ p → w ≡ v → HasReported (IsReport w text) a b o → HasReported (IsReport v text) a b p
told_as a b o p w v text e f h = subst (λ x. HasReported (IsReport v text) a b x) e (subst (λ x. HasReported (IsReport x text) a b o) f h)

refusal_calm : (long : Option ℕ) (course : Course) (failed : Bool) (stop : Stop) → is_refusal stop ≡ true → IsAnswer long course failed (Err stop) → failed ≡ false
refusal_calm long course failed (TooLong n) h k = k.1
refusal_calm long course failed (Gone q) h k = k.1
refusal_calm long course failed DeviceStop h k = cc
refusal_calm long course failed Output h k = cc
refusal_calm long course failed OutOfMemory h k = cc

refusal_text : (p q : Sunk) (stop : Stop) (text : Text) → is_refusal stop ≡ true → Told text (Err stop) p q → ToldOf text (Err fault.OutOfMemory) p q
refusal_text p q (TooLong n) text h k = weaker p q false text k
refusal_text p q (Gone x) text h k = weaker p q false text k
refusal_text p q DeviceStop text h k = absurd (true≢false (sym h))
refusal_text p q Output text h k = absurd (true≢false (sym h))
refusal_text p q OutOfMemory text h k = absurd (true≢false (sym h))

-- the run stops at the job
pub had_turn_stopped : (act : Act) (flow : Flow) (made : Serials) (job : Job) (command : Text) (serial : ℕ) (stop : Stop) (name : Named) (f : Fault) (r : Result Ending Stop) (a b : Device) (p q : Sunk)
    → MakesPaths job → name ≡ named flow job → r ≡ Err stop → IsToldStop name stop f → HasTaken act flow made job command serial r a b p q
    → HasHadTurn act flow made job command serial (Err f) a b p q
had_turn_stopped act flow made job command serial stop name f r a b p q by_paths called is told h = by told
  where
    k : HasTaken act flow made job command serial (Err stop) a b p q
    k = subst (λ x. HasTaken act flow made job command serial x a b p q) is h

    t : HasTurned act (λ course. IsTurn made (turn_of job command serial k.looked course)) (named flow job) (too_long serial job.recipe (found k.looked)) (Err stop) a b p q
    t = k.turned

    it_fits : Fits (turn_of job command serial k.looked t.course)
    it_fits = record { makes = by_paths.makes; paths = by_paths.paths; records = k.records; short = t.fits }

    by : IsToldStop name stop f → HasHadTurn act flow made job command serial (Err f) a b p q
    by (inl e) =
        let same : f ≡ stop_fault (named flow job) stop = e ∙ ap (λ n. stop_fault n stop) called in
        record {
          turn = turn_of job command serial k.looked t.course;
          failed = t.failed;
          job_is = refl;
          command_is = refl;
          made_is = refl;
          answer = inr (stop, same, t.answer, k.why);
          fits = it_fits;
          ran = t.ran;
          given = t.given;
          text = told_as p q (one.is_output {T = Ending} (Err stop)) (is_output {T = Option Fault} (Err f)) (one.is_whole {T = Ending} (Err stop)) (is_whole {T = Option Fault} (Err f)) (course_text (named flow job) t.course)
              (output_stop (named flow job) stop ∙ ap (λ x. is_output {T = Option Fault} (Err x)) (sym same))
              (whole_stop (named flow job) stop ∙ ap (λ x. is_whole {T = Option Fault} (Err x)) (sym same)) t.text;
        }
    by (inr e) = record {
      turn = turn_of job command serial k.looked t.course;
      failed = t.failed;
      job_is = refl;
      command_is = refl;
      made_is = refl;
      answer = inl (refusal_calm (too_long serial job.recipe (found k.looked)) t.course t.failed stop e.1 t.answer, e.0);
      fits = it_fits;
      ran = t.ran;
      given = t.given;
      text = subst (λ x. ToldOf (course_text (named flow job) t.course) (Err x) p q) (sym e.0) (refusal_text p q stop (course_text (named flow job) t.course) e.1 t.text);
    }

-- there is no memory for the command
pub no_turn : (act : Act) (flow : Flow) (made : Serials) (job : Job) (command : Text) (serial : ℕ) (a : Device) (p : Sunk) → MakesPaths job → a.running ≡ [] → HasHadTurn act flow made job command serial (Err fault.OutOfMemory) a a p p
no_turn act flow made job command serial a p by_paths none = record {
  turn = turn_of job command serial (Err OutOfMemory) Unbegun;
  failed = false;
  job_is = refl;
  command_is = refl;
  made_is = refl;
  answer = inl (refl, refl);
  fits = record { makes = by_paths.makes; paths = by_paths.paths; records = λ e. absurd (true≢false (sym e)); short = λ e. absurd (true≢false (sym e)) };
  ran = ended_nothing act (IsTurn made (turn_of job command serial (Err OutOfMemory) Unbegun)) a none (λ w. inl tt);
  given = given_none act a;
  text = no_text false p;
}
