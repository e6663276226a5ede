-- What is put, and the lines of one job.
use Rattle.std.proofs.Common.{◌≡◌, Bool, true, false, [], ◌++◌, take, drop, refl, ap, sym, subst, ◌∙◌, Result, Ok, Err, arith, append_assoc, true≢false}
use Rattle.std.specs.Prelude.{is_ok, is_err}
use Rattle.std.proofs.lemmas.List.{append-nil, take_all, take-append-drop}
use Rattle.smk_world.specs.Calls.{Rose}
use Rattle.smk_world.specs.declared.event.Failed.{Failed}
use Rattle.smk_world.specs.declared.event.WorkFault.{WorkFault}
use Rattle.smk_world.specs.declared.event.WorkFault.TheVariants.{Failed as FailedFault, OutOfMemory as MemoryFault}
use Rattle.smk_world.specs.Devices.{Sunk, HasPut}
use Rattle.smk_report.specs.Lines.{Text, Named, start_line}
use Rattle.smk_run.specs.declared.ending.Ending.{Ending}
use Rattle.smk_run.specs.Turns.{Course, Unclosed, Closed, left_stop}
use Rattle.smk_run.specs.Reports.{end_line, course_text, IsFront, IsReport, HasReported, is_whole, is_output}

-- ## Any text

-- nothing was put
pub reported_nothing : (P : Text → Type 0) (a : Sunk) → P [] → HasReported P a a false
reported_nothing P a start = record {
  told = λ now e. (now, e, ([], start, sym (append-nil now)));
  stays = λ quiet some. some;
  cause = record { later = omega arith; rose = λ failure. absurd (true≢false (sym failure)) };
  quiet = λ quiet. refl;
}

-- a put, whole or in part
pub reported_put : (text : Text) (a b : Sunk) (r : Result (Unit {0}) Failed) → HasPut a b text r → HasReported (IsReport (is_ok r) text) a b (is_err r)
reported_put text a b (Ok u) h = record {
  told = λ now e. let k = h.put.told now e in (k.0, k.1, (take k.2.0 text, take_all k.2.0 text (let full = k.2.2 refl in omega (arith, full)), k.2.3));
  stays = λ quiet some. h.put.stays some refl;
  cause = h.cause;
  quiet = λ quiet. h.quiet;
}
reported_put text a b (Err e) h = record {
  told = λ now e. let k = h.put.told now e in (k.0, k.1, (take k.2.0 text, (drop k.2.0 text, sym (take-append-drop k.2.0 text)), k.2.3));
  stays = λ quiet. absurd (true≢false quiet);
  cause = h.cause;
  quiet = λ quiet. absurd (true≢false quiet);
}

-- of what holds of the text as well
pub reported_as : (P Q : Text → Type 0) (a b : Sunk) (f g : Bool) → f ≡ g → ((t : Text) → P t → Q t) → HasReported P a b f → HasReported Q a b g
reported_as P Q a b f g same more h = record {
  told = λ now e. let k = h.told now e in (k.0, k.1, (k.2.0, more k.2.0 k.2.1, k.2.2));
  stays = λ quiet. h.stays (same ∙ quiet);
  cause = record { later = h.cause.later; rose = λ failure. h.cause.rose (same ∙ failure) };
  quiet = λ quiet. h.quiet (same ∙ quiet);
}

-- one text after another
pub reported_then : (P Q R : Text → Type 0) (a b c : Sunk) (f : Bool) → ((s t : Text) → P s → Q t → R (s ++ t)) → HasReported P a b false → HasReported Q b c f → HasReported R a c f
reported_then P Q R a b c f both h k = record {
  told = λ now e.
      let m = k.told now e in
      let n = h.told m.0 m.1 in
      (n.0, n.1, (n.2.0 ++ m.2.0, both n.2.0 m.2.0 n.2.1 m.2.1, m.2.2 ∙ ap (λ l. l ++ m.2.0) n.2.2 ∙ append_assoc n.0 n.2.0 m.2.0));
  stays = λ quiet some. k.stays quiet (h.stays refl some);
  cause = record {
    later = (let same = h.quiet refl in let le = k.cause.later in omega (arith, same, le));
    rose = λ failure. subst (λ n. Rose n c.faults) (h.quiet refl) (k.cause.rose failure);
  };
  quiet = λ quiet. k.quiet quiet ∙ h.quiet refl;
}

pub report_after : (whole : Bool) (x y text : Text) → IsReport whole y text → IsReport whole (x ++ y) (x ++ text)
report_after true x y text h = ap (λ l. x ++ l) h
report_after false x y text h = (h.0, ap (λ l. x ++ l) h.1 ∙ sym (append_assoc x text h.0))

-- a front or the whole of what follows what was put
pub reported_more : (x y : Text) (whole : Bool) (a b c : Sunk) (f : Bool) → HasReported (IsReport true x) a b false → HasReported (IsReport whole y) b c f → HasReported (IsReport whole (x ++ y)) a c f
reported_more x y whole a b c f h k =
    reported_then (IsReport true x) (IsReport whole y) (IsReport whole (x ++ y)) a b c f
    (λ s t one more. subst (λ l. IsReport whole (x ++ y) (l ++ t)) (sym one) (report_after whole x y t more)) h k

-- ## One job

-- how far the turn came of a job whose command was started
abbrev pub course_of : Result Ending WorkFault → Course
course_of (Ok ending) = Closed ending
course_of (Err f) = Unclosed

start_front : (name : Named) (closed : Result Ending WorkFault) (text : Text) → IsFront text (start_line name) → IsFront text (course_text name (course_of closed))
start_front name (Ok ending) text h = (h.0 ++ end_line name ending, ap (λ l. l ++ end_line name ending) h.1 ∙ append_assoc text h.0 (end_line name ending))
start_front name (Err f) text h = h

-- the start's line wasn't put whole
pub untold_text : (name : Named) (closed : Result Ending WorkFault) (line : Text) (a b : Sunk)
    → line ≡ start_line name → HasReported (IsReport false line) a b true → HasReported (IsReport false (course_text name (course_of closed))) a b true
untold_text name closed line a b is h =
    reported_as (IsReport false line) (IsReport false (course_text name (course_of closed))) a b true true refl (λ t front. start_front name closed t (subst (IsFront t) is front)) h

-- the start's line alone is due, and was put
pub started_text : (name : Named) (f : WorkFault) (line : Text) (a b : Sunk) → line ≡ start_line name → HasReported (IsReport true line) a b false
    → HasReported (IsReport (is_whole {T = Ending} (Err (left_stop f))) (start_line name)) a b (is_output {T = Ending} (Err (left_stop f)))
started_text name FailedFault line a b is h = reported_as (IsReport true line) (IsReport true (start_line name)) a b false false refl (λ t one. one ∙ is) h
started_text name MemoryFault line a b is h =
    reported_as (IsReport true line) (IsReport false (start_line name)) a b false false refl (λ t one. ([], sym (one ∙ is) ∙ sym (append-nil t))) h

-- the start's line was put, and then the end's or a front of it
pub ended_text : (name : Named) (ending : Ending) (whole : Bool) (line : Text) (a b c : Sunk) (f : Bool)
    → line ≡ start_line name → HasReported (IsReport true line) a b false → HasReported (IsReport whole (end_line name ending)) b c f → HasReported (IsReport whole (course_text name (Closed ending))) a c f
ended_text name ending whole line a b c f is h k =
    reported_more (start_line name) (end_line name ending) whole a b c f (subst (λ l. HasReported (IsReport true l) a b false) is h) k

-- nothing was put
pub no_text : (whole : Bool) (a : Sunk) → HasReported (IsReport whole []) a a false
no_text true a = reported_nothing (IsReport true []) a refl
no_text false a = reported_nothing (IsReport false []) a ([], refl)
