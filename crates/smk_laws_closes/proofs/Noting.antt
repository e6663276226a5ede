-- The end of a job was put and counted, from the calls.
use Rattle.std.proofs.Common.{◌≡◌, ◌≢◌, ◌&&◌, ℕ, Bool, true, false, [], refl, sym, ap, subst, ◌∙◌, inl, inr, Option, Some, None, Result, Ok, Err, is_ok}
use Rattle.std.specs.Prelude.{IfErr, IfOk, IsSome, OnErr, OnOk, is_none, is_some, option_map}
use Rattle.std.specs.List.{slice_get}
use Rattle.smk_world.specs.Devices.{Device, HasActed, Sunk}
use Rattle.smk_world.specs.Trees.{Act}
use Rattle.smk_flow.specs.declared.job.Job.{Job}
use Rattle.smk_flow.specs.Flows.{Flow}
use Rattle.smk_pick.specs.declared.settings.Settings.{Settings}
use Rattle.smk_report.specs.Lines.{Named, Text}
use Rattle.smk_report.specs.declared.fault.Fault.{Fault}
use Rattle.smk_report.specs.declared.fault.Fault.TheVariants as fault
use Rattle.smk_plan_live.specs.Live.{LivePlan}
use Rattle.smk_run.specs.declared.ending.Ending.{Ending as End}
use Rattle.smk_run.specs.declared.ending.Ending.TheVariants.{BadMember, Good, NoOutput, Status, WrongKind}
use Rattle.smk_run.specs.declared.tally.Tally.{Tally}
use Rattle.smk_run.specs.Reports.{HasReported, end_line}
use Rattle.smk_run.specs.Runs.{is_output}
use Rattle.smk_run.specs.Turns.{is_good}
use Rattle.smk_run.proofs.Texts.{reported_as, reported_nothing}
use Rattle.smk_drive.specs.Reports.{named_job}
use Rattle.smk_drive_course.specs.Driven.{device_failed}
use Rattle.smk_drive_step.specs.Telling.{IsPutIf}
use Rattle.smk_laws_turns.specs.Hubs.{Parts}
use Rattle.smk_drive_hub.specs.Keeping.{heeded}
use Rattle.smk_drive_hub.specs.Turned.{IsBarelyMore}
use Rattle.smk_laws_closes.specs.Closes.{HasTended, IsLineFault, counted_end}
use Rattle.smk_laws_closes.specs.Ending.{HasEndedSo}
use Rattle.smk_laws_closes.specs.Learning.{IsSamePlan}
use Rattle.smk_laws_closes.specs.Lines.{IsEndPut, end_text, first_answer}
use Rattle.smk_laws_closes.specs.Tending.{HasTendedOf}
use Rattle.smk_world.proofs.Devices.{acted_as}
use Rattle.smk_laws_closes.proofs.Counting.{heeded_halt, heeded_live, heeded_next, heeded_places, heeded_room, heeded_tally, heeded_telling}

-- ## The line

pub good_text : (done : Text) (name : Named) (how : End) → is_good how ≡ true → end_text done name how ≡ done
good_text done name Good h = refl
good_text done name (Status n) h = absurd (never h)
  where
    never : false ≡ true → ⊥
    never e = cc
good_text done name (NoOutput p) h = absurd (never h)
  where
    never : false ≡ true → ⊥
    never e = cc
good_text done name (WrongKind p) h = absurd (never h)
  where
    never : false ≡ true → ⊥
    never e = cc
good_text done name (BadMember p) h = absurd (never h)
  where
    never : false ≡ true → ⊥
    never e = cc

pub bad_text : (done : Text) (name : Named) (how : End) → is_good how ≡ false → end_text done name how ≡ end_line name how
bad_text done name Good h = absurd (never h)
  where
    never : true ≡ false → ⊥
    never e = cc
bad_text done name (Status n) h = refl
bad_text done name (NoOutput p) h = refl
bad_text done name (WrongKind p) h = refl
bad_text done name (BadMember p) h = refl

put_is : (old ok : Bool) (line text : Text) → IsPutIf old ok line text → IsEndPut old (old && ok) line text
put_is true true line text h = h
put_is true false line text h = h
put_is false ok line text h = h

-- the line was put
pub put_line :
    (old new : Bool) (line : Text) (result : Result (Unit {0}) Fault) (p q : Sunk) → new ≡ (old && is_ok result) → HasReported (IsPutIf old (is_ok result) line) p q (is_output result) →
    HasReported (IsEndPut old new line) p q (is_output result)
put_line old new line result p q is put =
    subst (λ b. HasReported (IsEndPut old b line) p q (is_output result)) (sym is)
    (reported_as (IsPutIf old (is_ok result) line) (IsEndPut old (old && is_ok result) line) p q (is_output result) (is_output result) refl
    (λ t h. put_is old (is_ok result) line t h) put)

-- where the line could be made
pub same_line : {E : Type 0} (r : Result Text E) (a b : Text) → b ≡ a → IfOk r (λ l. l ≡ a) → IfOk r (λ l. l ≡ b)
same_line (Ok l) a b same h = h ∙ sym same
same_line (Err e) a b same h = tt

none_is : (old new : Bool) (line : Text) → new ≡ false → IsEndPut old new line []
none_is true new line e = subst (λ b. IsEndPut true b line []) (sym e) (line, refl)
none_is false new line e = refl

-- there was no line to put
pub no_line : (old new : Bool) (line : Text) (p : Sunk) → new ≡ false → HasReported (IsEndPut old new line) p p (is_output {T = Unit {0}} (Err fault.OutOfMemory))
no_line old new line p e = reported_nothing (IsEndPut old new line) p (none_is old new line e)

pub put_faults : (result : Result (Unit {0}) Fault) → IfErr result (λ f. f ≡ fault.Output) → IfErr result IsLineFault
put_faults (Ok u) h = tt
put_faults (Err f) h = inl h

pub put_whole : (old new : Bool) (result : Result (Unit {0}) Fault) → new ≡ (old && is_ok result) → OnOk result (new ≡ old)
put_whole true new (Ok u) e = e
put_whole false new (Ok u) e = e
put_whole old new (Err f) e = tt

pub put_cut : (old new : Bool) (result : Result (Unit {0}) Fault) → new ≡ (old && is_ok result) → OnErr result (new ≡ false)
put_cut old new (Ok u) e = tt
put_cut true new (Err f) e = e
put_cut false new (Err f) e = e

-- ## Two answers

same_output : (put counted : Result (Unit {0}) Fault) → IfErr counted (λ f. f ≡ fault.OutOfMemory) → is_output (first_answer put counted) ≡ is_output put
same_output (Ok u) (Ok v) h = refl
same_output (Ok u) (Err f) h = ap (λ (g : Fault). is_output {T = Unit {0}} (Err g)) h
same_output (Err f) counted h = refl

module _ (put counted : Result (Unit {0}) Fault) (err : IfErr counted (λ f. f ≡ fault.OutOfMemory)) where
  pub both_told : (P : Text → Type 0) (p q : Sunk) → HasReported P p q (is_output put) → HasReported P p q (is_output (first_answer put counted))
  both_told P p q told = reported_as P P p q (is_output put) (is_output (first_answer put counted)) (sym (same_output put counted err)) (λ t h. h) told

  pub both_lost : IfErr put IsLineFault → IfErr (first_answer put counted) IsLineFault
  both_lost lost = by put counted err lost
    where
      by : (a b : Result (Unit {0}) Fault) → IfErr b (λ f. f ≡ fault.OutOfMemory) → IfErr a IsLineFault → IfErr (first_answer a b) IsLineFault
      by (Ok u) (Ok v) e l = tt
      by (Ok u) (Err f) e l = inr e
      by (Err f) b e l = l

  pub both_whole : (old new : Bool) → OnOk put (new ≡ old) → OnOk (first_answer put counted) (new ≡ old)
  both_whole old new whole = by put counted whole
    where
      by : (a b : Result (Unit {0}) Fault) → OnOk a (new ≡ old) → OnOk (first_answer a b) (new ≡ old)
      by (Ok u) (Ok v) w = w
      by (Ok u) (Err f) w = tt
      by (Err f) b w = tt

  pub both_silent : (old new : Bool) → OnOk put (new ≡ old) → OnErr put (new ≡ false) → old ≡ false → new ≡ false
  both_silent old new whole cut none = by put whole cut
    where
      by : (a : Result (Unit {0}) Fault) → OnOk a (new ≡ old) → OnErr a (new ≡ false) → new ≡ false
      by (Ok u) w x = w ∙ none
      by (Err f) w x = x

  pub both_cut : (new : Bool) → OnErr put (new ≡ false) → is_output (first_answer put counted) ≡ true → new ≡ false
  both_cut new cut lost = by put cut (sym (same_output put counted err) ∙ lost)
    where
      by : (a : Result (Unit {0}) Fault) → OnErr a (new ≡ false) → is_output a ≡ true → new ≡ false
      by (Ok u) x l = absurd (never l)
        where
          never : false ≡ true → ⊥
          never e = cc
      by (Err f) x l = x

  pub both_counted : (A : Type 0) → OnOk counted A → OnOk (first_answer put counted) A
  both_counted A well = by put counted well
    where
      by : (a b : Result (Unit {0}) Fault) → OnOk b A → OnOk (first_answer a b) A
      by (Ok u) (Ok v) w = w
      by (Ok u) (Err f) w = tt
      by (Err f) b w = tt

pub told_by_both :
    {P : Text → Type 0} {p q : Sunk} (put counted result : Result (Unit {0}) Fault) → result ≡ first_answer put counted →
    IfErr counted (λ f. f ≡ fault.OutOfMemory) → HasReported P p q (is_output put) → HasReported P p q (is_output result)
told_by_both {P} {p} {q} put counted result is err told =
    subst (λ (r : Result (Unit {0}) Fault). HasReported P p q (is_output r)) (sym is) (both_told put counted err P p q told)

-- ## The end of a job

answered_by : (a : Result (Unit {0}) Fault) (A : Type 0) → OnOk a A → a ≡ Ok tt → A
answered_by (Ok u) A h e = h
answered_by (Err f) A h e = absurd (never e)
  where
    never : ◌≡◌ {A = Result (Unit {0}) Fault} (Err f) (Ok tt) → ⊥
    never x = cc

pub ended_so :
    (act : Act) (flow : Flow) (settings : Settings) (h k : Parts) (number : ℕ) (done : Text) (how : End) (a b : Device) (p q : Sunk) (job : Job) (answer outcome : Result (Unit {0}) Fault)
    (tally : Tally) (telling : Bool) (new : LivePlan) →
    slice_get h.live.base.jobs.jobs number ≡ Some job →
    k ≡ heeded outcome (record (heeded answer (record h { tally = tally; telling = telling })) { live = new }) →
    IfErr answer IsLineFault →
    OnOk answer (tally ≡ counted_end flow job how h.tally) →
    IsBarelyMore h.tally tally →
    OnOk answer (telling ≡ h.telling) →
    (h.telling ≡ false → telling ≡ false) →
    (is_output answer ≡ true → telling ≡ false) →
    HasReported (IsEndPut h.telling telling (end_text done (named_job flow job) how)) p q (is_output answer) →
    IsSamePlan h.live new →
    HasActed act (HasTendedOf flow settings number (is_good how) (heeded answer (record h { tally = tally; telling = telling })).halt.fault h.live new outcome) a b (device_failed outcome) →
    IfErr outcome (λ f. f ≢ fault.Output) →
    HasEndedSo act flow settings h k number done how a b p q
ended_so act flow settings h k number done how a b p q job answer outcome tally telling new is k_is lost counted barely whole silent cut text plan acted other =
    let m : Parts = record h { tally = tally; telling = telling } in
    let n : Parts = heeded answer m in
    let live_is : k.live ≡ new = ap (λ (x : Parts). x.live) k_is ∙ heeded_live outcome (record n { live = new }) in
    let tally_is : k.tally ≡ tally = ap (λ (x : Parts). x.tally) k_is ∙ (heeded_tally outcome (record n { live = new }) ∙ heeded_tally answer m) in
    let telling_is : k.telling ≡ telling = ap (λ (x : Parts). x.telling) k_is ∙ (heeded_telling outcome (record n { live = new }) ∙ heeded_telling answer m) in
    record {
      job = job;
      answer = answer;
      noted = n;
      outcome = outcome;
      is = is;
      notes = record {
        live = heeded_live answer m;
        room = heeded_room answer m;
        places = heeded_places answer m;
        next = heeded_next answer m;
        halt = heeded_halt answer m h refl;
        counted = λ well. heeded_tally answer m ∙ answered_by answer (tally ≡ counted_end flow job how h.tally) counted well;
        lost = lost;
      };
      kept = k_is ∙ ap (λ (x : LivePlan). heeded outcome (record n { live = x })) (sym live_is);
      acted =
          acted_as act (HasTendedOf flow settings number (is_good how) n.halt.fault h.live new outcome) (λ v es. HasTended flow settings number job how n v k.live outcome es) a b
          (device_failed outcome) (device_failed outcome) refl
          (λ w es tended.
          subst (λ (x : LivePlan). HasTended flow settings number job how n w x outcome es) (sym live_is) (tended job how n is refl (heeded_live answer m) refl)) acted;
      plan = subst (IsSamePlan h.live) (sym live_is) plan;
      counts = subst (IsBarelyMore h.tally) (sym tally_is) barely;
      other = other;
      whole = subst (λ t. OnOk answer (t ≡ h.telling)) (sym telling_is) whole;
      silent = λ e. telling_is ∙ silent e;
      cut = λ e. telling_is ∙ cut e;
      text = subst (λ t. HasReported (IsEndPut h.telling t (end_text done (named_job flow job) how)) p q (is_output answer)) (sym telling_is) text;
    }

-- the same, where the parts after the first answer are told by an equation
pub ended_by :
    (act : Act) (flow : Flow) (settings : Settings) (h m k : Parts) (number : ℕ) (done : Text) (how : End) (good : Bool) (a b : Device) (p q : Sunk) (job : Job)
    (answer outcome : Result (Unit {0}) Fault) (tally : Tally) (telling : Bool) (new : LivePlan) →
    good ≡ is_good how →
    m ≡ heeded answer (record h { tally = tally; telling = telling }) →
    k ≡ heeded outcome (record m { live = new }) →
    slice_get h.live.base.jobs.jobs number ≡ Some job →
    IfErr answer IsLineFault →
    OnOk answer (tally ≡ counted_end flow job how h.tally) →
    IsBarelyMore h.tally tally →
    OnOk answer (telling ≡ h.telling) →
    (h.telling ≡ false → telling ≡ false) →
    (is_output answer ≡ true → telling ≡ false) →
    HasReported (IsEndPut h.telling telling (end_text done (named_job flow job) how)) p q (is_output answer) →
    IsSamePlan m.live new →
    HasActed act (HasTendedOf flow settings number good m.halt.fault m.live new outcome) a b (device_failed outcome) →
    IfErr outcome (λ f. f ≢ fault.Output) → HasEndedSo act flow settings h k number done how a b p q
ended_by act flow settings h m k number done how good a b p q job answer outcome tally telling new good_is m_is k_is is lost counted barely whole silent cut text plan acted other =
    let n : Parts = heeded answer (record h { tally = tally; telling = telling }) in
    let live_is : m.live ≡ h.live = ap (λ (x : Parts). x.live) m_is ∙ heeded_live answer (record h { tally = tally; telling = telling }) in
    ended_so act flow settings h k number done how a b p q job answer outcome tally telling new is
    (k_is ∙ ap (λ (x : Parts). heeded outcome (record x { live = new })) m_is) lost counted barely whole silent cut text
    (subst (λ (x : LivePlan). IsSamePlan x new) live_is plan)
    (subst (λ (x : LivePlan). HasActed act (HasTendedOf flow settings number (is_good how) n.halt.fault x new outcome) a b (device_failed outcome)) live_is
    (subst (λ o. HasActed act (HasTendedOf flow settings number (is_good how) o m.live new outcome) a b (device_failed outcome)) (ap (λ (x : Parts). x.halt.fault) m_is)
    (subst (λ t. HasActed act (HasTendedOf flow settings number t m.halt.fault m.live new outcome) a b (device_failed outcome)) good_is acted)))
    other

-- there is a job of the number
pub some_job : {A B : Type 0} (f : A → B) (found : Option A) (o : Option B) → option_map f found ≡ o → is_none found ≡ false → IsSome o
some_job f None o same h = absurd (never h)
  where
    never : true ≡ false → ⊥
    never e = cc
some_job f (Some x) o same h = subst (λ y. IsSome y) same refl

pub no_job_there : {A B : Type 0} (f : A → B) (found : Option A) (o : Option B) → option_map f found ≡ o → is_none found ≡ true → o ≡ None
no_job_there f None o same h = sym same
no_job_there f (Some x) o same h = absurd (never h)
  where
    never : false ≡ true → ⊥
    never e = cc

pub never_none : {C A B : Type 0} (f : A → B) (found : Option A) (o : Option B) → option_map f found ≡ o → found ≡ None → IsSome o → C
never_none f found o same none some = absurd (never (sym (ap (λ x. is_some x) (sym same ∙ ap (option_map f) none)) ∙ some))
  where
    never : false ≡ true → ⊥
    never e = cc
