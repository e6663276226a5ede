-- Turns, one after another.
use Rattle.std.proofs.Common.{◌≡◌, ◌≤◌, ℕ, suc, Bool, true, false, List, [], ◌∷◌, ◌++◌, ◌+◌, length, drop, refl, ap, sym, subst, ◌∙◌, inl, inr, Option, Some, None, Result, Ok, Err, append_assoc, arith, true≢false}
use Rattle.std.proofs.lemmas.List.{append-nil}
use Rattle.std.proofs.lemmas.List.Sums.{sum_by-cons}
use Rattle.std.specs.Prelude.{cond}
use Rattle.std.specs.List.{count_by}
use Rattle.smk_world.specs.declared.event.Event.{Event}
use Rattle.smk_world.specs.World.{World, run}
use Rattle.smk_world.specs.Calls.{HasCause}
use Rattle.smk_world.specs.Devices.{Device, Sunk, HasEnded}
use Rattle.smk_world.specs.Trees.{Act, Each}
use Rattle.smk_world.proofs.Devices.{ended_then}
use Rattle.smk_world.proofs.Runs.{run_append}
use Rattle.smk_flow.specs.declared.job.Job.{Job}
use Rattle.smk_flow.specs.Flows.{Flow}
use Rattle.smk_job.specs.Jobs.{too_long}
use Rattle.smk_report.specs.Lines.{Named}
use Rattle.smk_report.specs.declared.fault.Fault.{Fault}
use Rattle.smk_report.specs.declared.fault.Fault.TheVariants as fault
use Rattle.smk_run.specs.declared.ending.Ending.{Ending}
use Rattle.smk_run.specs.declared.ending.Ending.TheVariants.{Good, Status, NoOutput, WrongKind, BadMember}
use Rattle.smk_run.specs.declared.stop.Stop.{Stop}
use Rattle.smk_run.specs.declared.stop.Stop.TheVariants.{TooLong, Gone, Device as DeviceStop, Output, OutOfMemory}
use Rattle.smk_run.specs.declared.tally.Tally.{Tally}
use Rattle.smk_run.specs.Stamps.{Serials}
use Rattle.smk_run.specs.Turns.{Course, Unbegun, Unstarted, Unclosed, Closed, Turn, found, IsTurn, AreTurns, is_done, is_closed, is_good}
use Rattle.smk_run.specs.Reports.{named, course_text, report_of, IsReport, HasReported, IsAnswer, failure, stop_fault}
use Rattle.smk_run.specs.Duties.{Due}
use Rattle.smk_run.specs.Runs.{command_of, or_later, AreInOrder, course_failure, first_failure, IsOutcome, is_whole, is_output, is_device, is_device_fault, HasRun, IsTurnAnswer, HasHadTurn, HasRunSoFar, Fits}
use Rattle.smk_run.proofs.Coming.{got_at}
use Rattle.smk_run.proofs.Ends.{ended_nothing}
use Rattle.smk_run.proofs.Texts.{no_text, reported_more}
use Rattle.smk_run.proofs.Honest.{given_none, given_then}

-- ## Events

pub turns_next : (made : Serials) (ts : List Turn) (t : Turn) (w : World) (es fs : List Event) → AreTurns made ts w es → IsTurn made t (run w es) fs → AreTurns made (ts ++ t ∷ []) w (es ++ fs)
turns_next made [] t w es fs h k =
    (fs, [], ap (λ l. l ++ fs) h ∙ sym (append-nil fs), subst (λ l. IsTurn made t (run w l) fs) h k, refl)
turns_next made (u ∷ ts) t w es fs (first, more, is, one, rest) k = (
  first,
  more ++ fs,
  ap (λ l. l ++ fs) is ∙ append_assoc first more fs,
  one,
  turns_next made ts t (run w first) more fs rest (subst (λ v. IsTurn made t v fs) (ap (run w) is ∙ run_append w first more) k),
)

ran_turn : (act : Act) (made : Serials) (ts : List Turn) (t : Turn) (a b c : Device) (f : Bool) → HasEnded act (AreTurns made ts) a b false → HasEnded act (IsTurn made t) b c f → HasEnded act (AreTurns made (ts ++ t ∷ [])) a c f
ran_turn act made ts t a b c f h k =
    ended_then act (AreTurns made ts) (IsTurn made t) (AreTurns made (ts ++ t ∷ [])) a b c f (λ w es fs follows x follows2 y. turns_next made ts t w es fs x y) h k

-- ## Lines

report_next : (flow : Flow) (ts : List Turn) (t : Turn) → report_of flow (ts ++ t ∷ []) ≡ report_of flow ts ++ course_text (named flow t.job) t.course
report_next flow [] t = append-nil (course_text (named flow t.job) t.course)
report_next flow (u ∷ ts) t =
    ap (λ l. course_text (named flow u.job) u.course ++ l) (report_next flow ts t)
    ∙ sym (append_assoc (course_text (named flow u.job) u.course) (report_of flow ts) (course_text (named flow t.job) t.course))

told_next : (flow : Flow) (ts : List Turn) (t : Turn) (whole : Bool) (p q r : Sunk) (f : Bool)
    → HasReported (IsReport true (report_of flow ts)) p q false → HasReported (IsReport whole (course_text (named flow t.job) t.course)) q r f
    → HasReported (IsReport whole (report_of flow (ts ++ t ∷ []))) p r f
told_next flow ts t whole p q r f h k =
    subst (λ l. HasReported (IsReport whole l) p r f) (sym (report_next flow ts t)) (reported_more (report_of flow ts) (course_text (named flow t.job) t.course) whole p q r f h k)

-- ## Order

in_order_next : (cores : ℕ) (dues rest : List Due) (due : Due) (ts : List Turn) (t : Turn)
    → AreInOrder cores dues ts → Each (λ (u : Turn). is_done u.course ≡ true) ts
    → drop (length ts) dues ≡ due ∷ rest → t.job ≡ due.job → t.command ≡ command_of cores due.job → due.serial ≡ Some t.made
    → AreInOrder cores dues (ts ++ t ∷ [])
in_order_next cores dues rest due [] t h done is same command serial =
    subst (λ l. AreInOrder cores l (t ∷ [])) (sym is) (same, command, serial, inl refl, tt)
in_order_next cores [] rest due (u ∷ ts) t h done is same command serial = absurd h
in_order_next cores (d ∷ dues) rest due (u ∷ ts) t h done is same command serial =
    (h.0, h.1, h.2, inr done.0, in_order_next cores dues rest due ts t h.4 done.1 is same command serial)

each_next : (P : Turn → Type 0) (ts : List Turn) (t : Turn) → Each P ts → P t → Each P (ts ++ t ∷ [])
each_next P [] t h k = (k, tt)
each_next P (u ∷ ts) t h k = (h.0, each_next P ts t h.1 k)

length_next : (ts : List Turn) (t : Turn) → length (ts ++ t ∷ []) ≡ suc (length ts)
length_next [] t = refl
length_next (u ∷ ts) t = ap suc (length_next ts t)

-- ## The next turn

good_is : (name : Named) (ending : Ending) → failure name ending ≡ None → is_good ending ≡ true
good_is name Good h = refl
good_is name (Status n) h = cc
good_is name (NoOutput p) h = cc
good_is name (WrongKind p) h = cc
good_is name (BadMember p) h = cc

done_is : (course : Course) (name : Named) (ending : Ending) → course ≡ Closed ending → failure name ending ≡ None → is_done course ≡ true
done_is course name ending is none = ap is_done is ∙ good_is name ending none

module _ (act : Act) (flow : Flow) (cores : ℕ) (dues : List Due) (made : Serials) where
  pub so_far_start : (a : Device) (p : Sunk) → a.running ≡ [] → HasRunSoFar act flow cores dues made 0 a a p p
  so_far_start a p none = record {
    turns = [];
    counted = refl;
    done = tt;
    in_order = tt;
    fits = tt;
    ran = ended_nothing act (AreTurns made []) a none (λ w. refl);
    given = given_none act a;
    text = no_text true p;
  }

-- the next job that is due, and its serial
pub record IsNext (dues : List Due) (count : ℕ) (due : Due) (rest : List Due) (serial : ℕ) : Type 0 where
  pub is : drop count dues ≡ due ∷ rest
  pub serial_is : due.serial ≡ Some serial

-- what a turn of the next one did
abbrev pub HadNext : Act → Flow → ℕ → Due → Serials → ℕ → Result (Option Fault) Fault → Device → Device → Sunk → Sunk → Type 0
HadNext act flow cores due made serial result a b p q = HasHadTurn act flow made due.job (command_of cores due.job) serial result a b p q

next_in_order : (act : Act) (flow : Flow) (cores : ℕ) (dues rest : List Due) (due : Due) (made : Serials) (count serial : ℕ) (result : Result (Option Fault) Fault) (a b c : Device) (p q r : Sunk)
    → IsNext dues count due rest serial → (h : HasRunSoFar act flow cores dues made count a b p q) → (k : HadNext act flow cores due made serial result b c q r)
    → AreInOrder cores dues (h.turns ++ k.turn ∷ [])
next_in_order act flow cores dues rest due made count serial result a b c p q r n h k =
    in_order_next cores dues rest due h.turns k.turn h.in_order h.done (ap (λ i. drop i dues) h.counted ∙ n.is) k.job_is k.command_is (n.serial_is ∙ ap Some (sym k.made_is))

-- the text of a turn, by its answer
abbrev Told : Flow → Turn → Result (Option Fault) Fault → Sunk → Sunk → Type 0
Told flow t result p q = HasReported (IsReport (is_whole result) (course_text (named flow t.job) t.course)) p q (is_output result)

pub so_far_next : (act : Act) (flow : Flow) (cores : ℕ) (dues rest : List Due) (due : Due) (made : Serials) (count serial : ℕ) (result : Result (Option Fault) Fault) (a b c : Device) (p q r : Sunk)
    → IsNext dues count due rest serial → result ≡ Ok None
    → HasRunSoFar act flow cores dues made count a b p q → HadNext act flow cores due made serial result b c q r
    → HasRunSoFar act flow cores dues made (count + 1) a c p r
so_far_next act flow cores dues rest due made count serial result a b c p q r n is h k =
    let answer = subst (λ x. IsTurnAnswer flow k.turn k.failed x) is k.answer in
    record {
      turns = h.turns ++ k.turn ∷ [];
      counted = length_next h.turns k.turn ∙ omega (arith, h.counted);
      done = each_next (λ (u : Turn). is_done u.course ≡ true) h.turns k.turn h.done (done_is k.turn.course (named flow k.turn.job) answer.1.0 answer.1.1 (sym answer.1.2));
      in_order = next_in_order act flow cores dues rest due made count serial result a b c p q r n h k;
      fits = each_next Fits h.turns k.turn h.fits k.fits;
      ran = ran_turn act made h.turns k.turn a b c false h.ran (subst (HasEnded act (IsTurn made k.turn) b c) answer.0 k.ran);
      given = given_then act a b c h.ran.cause.later k.ran.cause.later h.given k.given;
      text = told_next flow h.turns k.turn true p q r false h.text (subst (λ x. Told flow k.turn x q r) is k.text);
    }

-- ## The end of a run

none_some : (x : Option Fault) (f : Fault) → x ≡ None → x ≡ Some f → ⊥
none_some x f h k = cc

pub done_closed : (course : Course) → is_done course ≡ true → is_closed course ≡ true
done_closed Unbegun h = cc
done_closed Unstarted h = cc
done_closed Unclosed h = cc
done_closed (Closed ending) h = refl

all_closed : (ts : List Turn) → Each (λ (t : Turn). is_done t.course ≡ true) ts → Each (λ (t : Turn). is_closed t.course ≡ true) ts
all_closed [] h = tt
all_closed (t ∷ ts) h = (done_closed t.course h.0, all_closed ts h.1)

one_more : (t : Turn) (ts : List Turn) → count_by (λ (u : Turn). is_done u.course) (t ∷ ts) ≡ cond (is_done t.course) 1 0 + count_by (λ (u : Turn). is_done u.course) ts
one_more t ts = sum_by-cons (λ (u : Turn). cond (is_done u.course) 1 0) t ts

count_done : (ts : List Turn) → Each (λ (t : Turn). is_done t.course ≡ true) ts → count_by (λ (t : Turn). is_done t.course) ts ≡ length ts
count_done [] h = refl
count_done (t ∷ ts) h =
    let e : count_by (λ (u : Turn). is_done u.course) (t ∷ ts) ≡ 1 + count_by (λ (u : Turn). is_done u.course) ts
    = one_more t ts ∙ ap (λ b. cond b 1 0 + count_by (λ (u : Turn). is_done u.course) ts) h.0 in
    omega (arith, e, count_done ts h.1)

count_undone : (ts : List Turn) (t : Turn) → Each (λ (u : Turn). is_done u.course ≡ true) ts → is_done t.course ≡ false → count_by (λ (u : Turn). is_done u.course) (ts ++ t ∷ []) ≡ length ts
count_undone [] t h k =
    let e : count_by (λ (u : Turn). is_done u.course) (t ∷ []) ≡ 0 + 0 = one_more t [] ∙ ap (λ b. cond b 1 0 + 0) k in
    omega (arith, e)
count_undone (u ∷ ts) t h k =
    let e : count_by (λ (v : Turn). is_done v.course) (u ∷ (ts ++ t ∷ [])) ≡ 1 + count_by (λ (v : Turn). is_done v.course) (ts ++ t ∷ [])
    = one_more u (ts ++ t ∷ []) ∙ ap (λ b. cond b 1 0 + count_by (λ (v : Turn). is_done v.course) (ts ++ t ∷ [])) h.0 in
    omega (arith, e, count_undone ts t h.1 k)

good_none : (name : Named) (ending : Ending) → is_good ending ≡ true → failure name ending ≡ None
good_none name Good h = refl
good_none name (Status n) h = cc
good_none name (NoOutput p) h = cc
good_none name (WrongKind p) h = cc
good_none name (BadMember p) h = cc

pub done_none : (flow : Flow) (job : Job) (course : Course) → is_done course ≡ true → course_failure flow job course ≡ None
done_none flow job Unbegun h = refl
done_none flow job Unstarted h = refl
done_none flow job Unclosed h = refl
done_none flow job (Closed ending) h = good_none (named flow job) ending h

or_none : (x : Option Fault) → or_later x None ≡ x
or_none None = refl
or_none (Some f) = refl

pub none_failed : (flow : Flow) (ts : List Turn) → Each (λ (t : Turn). is_done t.course ≡ true) ts → first_failure flow ts ≡ None
none_failed flow [] h = refl
none_failed flow (t ∷ ts) h = ap (λ x. or_later x (first_failure flow ts)) (done_none flow t.job t.course h.0) ∙ none_failed flow ts h.1

last_failed : (flow : Flow) (ts : List Turn) (t : Turn) → Each (λ (u : Turn). is_done u.course ≡ true) ts → first_failure flow (ts ++ t ∷ []) ≡ course_failure flow t.job t.course
last_failed flow [] t h = or_none (course_failure flow t.job t.course)
last_failed flow (u ∷ ts) t h = ap (λ x. or_later x (first_failure flow (ts ++ t ∷ []))) (done_none flow u.job u.course h.0) ∙ last_failed flow ts t h.1

not_good : (name : Named) (ending : Ending) (f : Fault) → Some f ≡ failure name ending → is_good ending ≡ false
not_good name Good f h = cc
not_good name (Status n) f h = refl
not_good name (NoOutput p) f h = refl
not_good name (WrongKind p) f h = refl
not_good name (BadMember p) f h = refl

-- how many jobs were done and failed, and the fault of the first one that failed
pub record IsCounted (tally : Tally) (done failed : ℕ) (first : Option Fault) : Type 0 where
  pub started_is : tally.started ≡ done + failed
  pub done_is : tally.done ≡ done
  pub failed_is : tally.failed ≡ failed
  pub first_is : tally.first ≡ first

-- all jobs are done
pub run_done : (act : Act) (flow : Flow) (cores : ℕ) (dues : List Due) (made : Serials) (count : ℕ) (tally : Tally) (a b : Device) (p q : Sunk)
    → count ≡ length dues → IsCounted tally count 0 None
    → HasRunSoFar act flow cores dues made count a b p q
    → HasRun act flow cores dues made (Ok tally) a b p q
run_done act flow cores dues made count tally a b p q all is h = record {
  turns = h.turns;
  failed = false;
  in_order = h.in_order;
  answer = (
    refl,
    record {
      closed = all_closed h.turns h.done;
      started = omega (arith, is.started_is, h.counted);
      done = is.done_is ∙ sym h.counted ∙ sym (count_done h.turns h.done);
      failed = omega (arith, is.started_is, is.done_is, is.failed_is);
      first = is.first_is ∙ sym (none_failed flow h.turns h.done);
      all = λ e. h.counted ∙ all;
    },
  );
  fits = h.fits;
  ran = h.ran;
  given = h.given;
  text = h.text;
}

-- a job failed
pub run_failed : (act : Act) (flow : Flow) (cores : ℕ) (dues rest : List Due) (due : Due) (made : Serials) (count serial : ℕ) (result : Result (Option Fault) Fault) (what : Fault) (tally : Tally) (a b c : Device) (p q r : Sunk)
    → IsNext dues count due rest serial → result ≡ Ok (Some what) → IsCounted tally count 1 (Some what)
    → HasRunSoFar act flow cores dues made count a b p q → HadNext act flow cores due made serial result b c q r
    → HasRun act flow cores dues made (Ok tally) a c p r
run_failed act flow cores dues rest due made count serial result what tally a b c p q r n ok is h k =
    let answer = subst (λ x. IsTurnAnswer flow k.turn k.failed x) ok k.answer in
    let ending : Ending = answer.1.0 in
    let at : k.turn.course ≡ Closed ending = answer.1.1 in
    let first : Some what ≡ failure (named flow k.turn.job) ending = answer.1.2 in
    record {
      turns = h.turns ++ k.turn ∷ [];
      failed = k.failed;
      in_order = next_in_order act flow cores dues rest due made count serial result a b c p q r n h k;
      answer = (
        answer.0,
        record {
          closed = each_next (λ (u : Turn). is_closed u.course ≡ true) h.turns k.turn (all_closed h.turns h.done) (ap is_closed at);
          started = is.started_is ∙ omega (arith, h.counted) ∙ sym (length_next h.turns k.turn);
          done = is.done_is ∙ sym h.counted ∙ sym (count_undone h.turns k.turn h.done (ap is_done at ∙ not_good (named flow k.turn.job) ending what first));
          failed = omega (arith, is.started_is, is.done_is, is.failed_is);
          first = is.first_is ∙ first ∙ sym (ap (course_failure flow k.turn.job) at) ∙ sym (last_failed flow h.turns k.turn h.done);
          all = λ e. absurd (none_some tally.first what e is.first_is);
        },
      );
      fits = each_next Fits h.turns k.turn h.fits k.fits;
      ran = ran_turn act made h.turns k.turn a b c k.failed h.ran k.ran;
      given = given_then act a b c h.ran.cause.later k.ran.cause.later h.given k.given;
      text = told_next flow h.turns k.turn true p q r false h.text (subst (λ x. Told flow k.turn x q r) ok k.text);
    }

-- the run stops at a job
pub run_stopped : (act : Act) (flow : Flow) (cores : ℕ) (dues rest : List Due) (due : Due) (made : Serials) (count serial : ℕ) (result : Result (Option Fault) Fault) (f : Fault) (a b c : Device) (p q r : Sunk)
    → IsNext dues count due rest serial → result ≡ Err f
    → HasRunSoFar act flow cores dues made count a b p q → HadNext act flow cores due made serial result b c q r
    → HasRun act flow cores dues made (Err f) a c p r
run_stopped act flow cores dues rest due made count serial result f a b c p q r n is h k = record {
  turns = h.turns ++ k.turn ∷ [];
  failed = k.failed;
  in_order = next_in_order act flow cores dues rest due made count serial result a b c p q r n h k;
  answer = by (subst (λ x. IsTurnAnswer flow k.turn k.failed x) is k.answer);
  fits = each_next Fits h.turns k.turn h.fits k.fits;
  ran = ran_turn act made h.turns k.turn a b c k.failed h.ran k.ran;
  given = given_then act a b c h.ran.cause.later k.ran.cause.later h.given k.given;
  text = told_next flow h.turns k.turn (is_whole {T = Tally} (Err f)) p q r (is_output {T = Tally} (Err f)) h.text (subst (λ x. Told flow k.turn x q r) is k.text);
}
  where
    by : IsTurnAnswer flow k.turn k.failed (Err f) → IsOutcome flow dues (h.turns ++ k.turn ∷ []) k.failed (Err f)
    by (inl x) = inl x
    by (inr (stop, e, answer, looked)) = inr (inr (record { before = h.turns; last = k.turn; stop = stop; turns_are = refl; is = e; answer = answer; looked = looked }))

-- there is no serial
pub run_serials : (act : Act) (flow : Flow) (cores : ℕ) (dues rest : List Due) (due : Due) (made : Serials) (count : ℕ) (a b : Device) (p q : Sunk)
    → drop count dues ≡ due ∷ rest → due.serial ≡ None
    → HasRunSoFar act flow cores dues made count a b p q
    → HasRun act flow cores dues made (Err fault.Serials) a b p q
run_serials act flow cores dues rest due made count a b p q next none h = record {
  turns = h.turns;
  failed = false;
  in_order = h.in_order;
  answer = inr (inl (refl, record { is = refl; next = due; is_next = got_at dues rest (length h.turns) due (ap (λ i. drop i dues) h.counted ∙ next); none = none; done = h.done }));
  fits = h.fits;
  ran = h.ran;
  given = h.given;
  text = h.text;
}

-- there is no memory, and nothing was done
pub run_not : (act : Act) (flow : Flow) (cores : ℕ) (dues : List Due) (made : Serials) (a : Device) (p : Sunk) → a.running ≡ [] → HasRun act flow cores dues made (Err fault.OutOfMemory) a a p p
run_not act flow cores dues made a p none = record {
  turns = [];
  failed = false;
  in_order = tt;
  answer = inl (refl, refl);
  fits = tt;
  ran = ended_nothing act (AreTurns made []) a none (λ w. refl);
  given = given_none act a;
  text = no_text false p;
}

-- there are no more turns than jobs that are due
few_turns : (cores : ℕ) (dues : List Due) (ts : List Turn) → AreInOrder cores dues ts → length ts ≤ length dues
few_turns cores dues [] h = omega arith
few_turns cores [] (t ∷ ts) h = absurd h
few_turns cores (due ∷ dues) (t ∷ ts) h =
    let more = few_turns cores dues ts h.4 in
    omega (arith, more)

pub all_turns : (act : Act) (flow : Flow) (cores : ℕ) (dues : List Due) (made : Serials) (count : ℕ) (a b : Device) (p q : Sunk)
    → length dues ≤ count → HasRunSoFar act flow cores dues made count a b p q → count ≡ length dues
all_turns act flow cores dues made count a b p q le h =
    let few = few_turns cores dues h.turns h.in_order in
    omega (arith, le, few, h.counted)

-- the same jobs and serials
pub run_as : (act : Act) (flow : Flow) (cores : ℕ) (ds dues : List Due) (m made : Serials) (r : Result Tally Fault) (a b : Device) (p q : Sunk)
    → ds ≡ dues → m ≡ made → HasRun act flow cores ds m r a b p q → HasRun act flow cores dues made r a b p q
run_as act flow cores ds dues m made r a b p q e f h =
    subst (λ x. HasRun act flow cores dues x r a b p q) f (subst (λ x. HasRun act flow cores x m r a b p q) e h)

-- ## A fault of the device

stop_device : (name : Named) (stop : Stop) (long : Option ℕ) (course : Course) (failed : Bool) → is_device_fault (stop_fault name stop) ≡ true → IsAnswer long course failed (Err stop) → failed ≡ true
stop_device name (TooLong bytes) long course failed h answer = absurd (true≢false (sym h))
stop_device name (Gone p) long course failed h answer = absurd (true≢false (sym h))
stop_device name DeviceStop long course failed h answer = answer.1
stop_device name Output long course failed h answer = absurd (true≢false (sym h))
stop_device name OutOfMemory long course failed h answer = absurd (true≢false (sym h))

-- it comes only where a call of the device failed
pub device_outcome : (flow : Flow) (dues : List Due) (turns : List Turn) (failed : Bool) (r : Result Tally Fault) → is_device r ≡ true → IsOutcome flow dues turns failed r → failed ≡ true
device_outcome flow dues turns failed (Ok tally) h answer = absurd (true≢false (sym h))
device_outcome flow dues turns failed (Err f) h (inl x) = absurd (true≢false (sym h ∙ ap is_device_fault x.1))
device_outcome flow dues turns failed (Err f) h (inr (inl x)) = absurd (true≢false (sym h ∙ ap is_device_fault x.1.is))
device_outcome flow dues turns failed (Err f) h (inr (inr x)) =
    stop_device (named flow x.last.job) x.stop (too_long x.last.made x.last.job.recipe (found x.last.looked)) x.last.course failed (sym (ap is_device_fault x.is) ∙ h) x.answer

-- so such a fault of a run has its cause
pub run_cause : (act : Act) (flow : Flow) (cores : ℕ) (dues : List Due) (made : Serials) (r : Result Tally Fault) (a b : Device) (p q : Sunk)
    → HasRun act flow cores dues made r a b p q → HasCause a.faults b.faults (is_device r)
run_cause act flow cores dues made r a b p q h = record { later = h.ran.cause.later; rose = λ e. h.ran.cause.rose (device_outcome flow dues h.turns h.failed r e h.answer) }
