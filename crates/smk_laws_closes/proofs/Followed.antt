-- What was done once a child had ended, from its parts.
use Rattle.std.proofs.Common.{◌≡◌, ◌≢◌, ◌⊎◌, ℕ, Bool, true, false, [], ◌∷◌, refl, arith, sym, ap, subst, ◌∙◌, inl, inr, Option, Some, None, Result, Ok, Err}
use Rattle.std.specs.Prelude.{IfErr, OnOk}
use Rattle.std.specs.List.{slice_get}
use Rattle.smk_world.specs.declared.event.WorkFault.{WorkFault}
use Rattle.smk_world.specs.declared.event.WorkFault.TheVariants as work
use Rattle.smk_world.specs.Calls as calls
use Rattle.smk_world.specs.Devices.{Device, HasActed, Sunk}
use Rattle.smk_world.specs.Trees.{Act}
use Rattle.smk_world.proofs.Devices.{acted_as, acted_nothing, acted_then}
use Rattle.smk_flow.specs.Flows.{Flow}
use Rattle.smk_pick.specs.declared.settings.Settings.{Settings}
use Rattle.smk_report.specs.declared.fault.Fault.{Fault}
use Rattle.smk_report.specs.declared.fault.Fault.TheVariants as fault
use Rattle.smk_run.specs.declared.ending.Ending.{Ending as End}
use Rattle.smk_run.specs.Closings.{HasSettled}
use Rattle.smk_run.specs.Runs.{is_output}
use Rattle.smk_run.proofs.Texts.{reported_as, reported_nothing}
use Rattle.smk_plan_live.specs.Lives.{IsLive}
use Rattle.smk_drive_course.specs.Driven.{device_failed}
use Rattle.smk_drive_course.specs.Steps.{Closed}
use Rattle.smk_drive_step.specs.declared.children.Child.{Child}
use Rattle.smk_drive_step.specs.Crews.{is_device, or_later}
use Rattle.smk_drive_step.specs.Telling.{work_fault}
use Rattle.smk_laws_turns.specs.Hubs.{Parts}
use Rattle.smk_laws_turns.specs.Turning.{faulted}
use Rattle.smk_drive_hub.specs.Keeping.{heeded}
use Rattle.smk_laws_closes.specs.Endings.{told_end}
use Rattle.smk_laws_closes.specs.Closes.{HasClosedFor, HasTended, IsCut, IsDone, IsLeft, IsLineFault, IsNone}
use Rattle.smk_laws_closes.specs.Ending.{HasEndedSo}
use Rattle.smk_laws_closes.specs.Lines.{IsEndPut, IsLineOf, end_text}
use Rattle.smk_drive.specs.Reports.{named_job}
use Rattle.smk_run.specs.Reports.{HasReported, end_line}
use Rattle.smk_run.specs.declared.ending.Ending.TheVariants.{BadMember, Good, NoOutput, Status, WrongKind}
use Rattle.smk_laws_closes.specs.Turns.{HasFollowed, IsHaltedOn, TellsEnd}
use Rattle.smk_laws_closes.proofs.EndLines.{tells_end, tells_nothing}
use Rattle.smk_laws_closes.proofs.Halts.{on_answer, on_fault, on_then}

never : {A : Type 0} → true ≡ false → A
never h = absurd (go h)
  where
    go : true ≡ false → ⊥
    go e = cc

one_fault : (f g : Fault) → Some f ≡ Some g → f ≡ g
one_fault f g h = cc

some_fault : (f : Fault) → Some f ≡ None → ⊥
some_fault f h = cc

no_fault : {A : Type 0} (f : Fault) → None ≡ Some f → A
no_fault f h = absurd (go h)
  where
    go : None ≡ Some f → ⊥
    go e = cc

-- ## No job was closed

module _ (act : Act) (flow : Flow) (settings : Settings) (h : Parts) (c : Child) (status : ℕ) (alive : IsLive h.live) where
  -- a fault came, and nothing was put
  faulted_only :
      (f : Fault) (a b : Device) (p : Sunk) → f ≢ fault.Output → HasActed act (λ v es. HasClosedFor flow settings h c status v es (faulted f h) []) a b (is_device f) →
      HasFollowed act flow settings h (faulted f h) c status a b p p
  faulted_only f a b p other acted =
      record {
        deeds = [];
        failure = is_device f;
        lost = false;
        acted = acted;
        places = refl;
        room = refl;
        plan = record { alive = alive; settings_stay = refl; jobs_stay = refl };
        halts = on_fault f h.halt;
        counts = record { started = omega arith; done = omega arith; failed = omega arith };
        silent = λ x. silenced x;
        missing = λ was is none. some_fault (or_later h.halt.fault f) none;
        outputs = λ x. first h.halt.fault refl x;
        text =
            reported_nothing (TellsEnd flow h (faulted f h) c []) p
            (λ line sound whole. tells_nothing flow h (faulted f h) refl (λ g x. (on_fault f h.halt).stays g x));
      }
    where
      silenced : (h.telling ≡ false) ⊎ (false ≡ true) → h.telling ≡ false
      silenced (inl x) = x
      silenced (inr x) = never (sym x)

      first : (o : Option Fault) → h.halt.fault ≡ o → Some (or_later o f) ≡ Some fault.Output → (h.halt.fault ≡ Some fault.Output) ⊎ (false ≡ true)
      first None none x = absurd (other (one_fault f fault.Output x))
      first (Some g) came x = inl (came ∙ x)

  -- the plan has no such job
  pub not_found : (a : Device) (p : Sunk) → slice_get h.live.base.jobs.jobs c.job ≡ None → HasFollowed act flow settings h (faulted fault.OutOfMemory h) c status a a p p
  not_found a p none =
      faulted_only fault.OutOfMemory a a p other (acted_nothing act _ a (λ w. IsNone (faulted fault.OutOfMemory h) [] none tt))
    where
      other : fault.OutOfMemory ≡ fault.Output → ⊥
      other x = cc

  -- it couldn't be closed
  pub not_closed :
      (why : WorkFault) (a b : Device) (p : Sunk) → HasActed act (HasSettled c.going (Err why) status) a b (calls.device_failed {T = End} (Err why)) →
      HasFollowed act flow settings h (faulted (work_fault why) h) c status a b p p
  not_closed work.Failed a b p acted =
      faulted_only fault.Device a b p other (acted_as act _ _ a b true true refl (λ w es settled. IsCut settled) acted)
    where
      other : fault.Device ≡ fault.Output → ⊥
      other x = cc
  not_closed work.OutOfMemory a b p acted =
      faulted_only fault.OutOfMemory a b p other (acted_as act _ _ a b false false refl (λ w es settled. IsLeft settled) acted)
    where
      other : fault.OutOfMemory ≡ fault.Output → ⊥
      other x = cc

-- ## The job was closed

line_quiet : (a : Result (Unit {0}) Fault) → IfErr a IsLineFault → device_failed a ≡ false
line_quiet (Ok u) h = refl
line_quiet (Err f) (inl e) = ap (λ (g : Fault). device_failed {T = Unit {0}} (Err g)) e
line_quiet (Err f) (inr e) = ap (λ (g : Fault). device_failed {T = Unit {0}} (Err g)) e

module _ (act : Act) (flow : Flow) (settings : Settings) (h k : Parts) (c : Child) (status : ℕ) (how : End) (a b d : Device) (p q : Sunk)
    (settled : HasActed act (HasSettled c.going (Ok how) status) a b false) (e : HasEndedSo act flow settings h k c.job c.done how b d p q) where
  acted : HasActed act (λ v es. HasClosedFor flow settings h c status v es k (Closed e.job (told_end how) ∷ [])) a d (device_failed e.outcome)
  acted =
      acted_then act (HasSettled c.going (Ok how) status) (λ v es. HasTended flow settings c.job e.job how e.noted v k.live e.outcome es)
      (λ v es. HasClosedFor flow settings h c status v es k (Closed e.job (told_end how) ∷ [])) a b d (device_failed e.outcome)
      (λ w es fs follows closed later tended.
      IsDone k (Closed e.job (told_end how) ∷ [])
      (record {
        job = e.job;
        how = how;
        closing = es;
        tending = fs;
        answer = e.answer;
        noted = e.noted;
        new = k.live;
        outcome = e.outcome;
        is = e.is;
        events = refl;
        closed = closed;
        notes = e.notes;
        tended = tended;
        kept = e.kept;
        deeds_are = refl;
      })) settled e.acted

  halts_noted : IsHaltedOn h.halt e.noted.halt false
  halts_noted =
      subst (λ x. IsHaltedOn h.halt x false) (sym e.notes.halt)
      (subst (IsHaltedOn h.halt (heeded e.answer h).halt) (line_quiet e.answer e.notes.lost) (on_answer e.answer h))

  halts : IsHaltedOn h.halt k.halt (device_failed e.outcome)
  halts =
      subst (λ (m : Parts). IsHaltedOn h.halt m.halt (device_failed e.outcome)) (sym e.kept)
      (on_then h.halt e.noted.halt (heeded e.outcome (record e.noted { live = k.live })).halt false (device_failed e.outcome) halts_noted
      (on_answer e.outcome (record e.noted { live = k.live })))

  places : k.places ≡ h.places
  places = ap (λ (m : Parts). m.places) e.kept ∙ (same e.outcome (record e.noted { live = k.live }) ∙ e.notes.places)
    where
      same : (x : Result (Unit {0}) Fault) (m : Parts) → (heeded x m).places ≡ m.places
      same (Ok u) m = refl
      same (Err f) m = refl

  room : k.room ≡ h.room
  room = ap (λ (m : Parts). m.room) e.kept ∙ (same e.outcome (record e.noted { live = k.live }) ∙ e.notes.room)
    where
      same : (x : Result (Unit {0}) Fault) (m : Parts) → (heeded x m).room ≡ m.room
      same (Ok u) m = refl
      same (Err f) m = refl

  -- the first fault of what is kept now
  now_fault : k.halt.fault ≡ (heeded e.outcome (record e.noted { live = k.live })).halt.fault
  now_fault = ap (λ (m : Parts). m.halt.fault) e.kept

  outputs : k.halt.fault ≡ Some fault.Output → (h.halt.fault ≡ Some fault.Output) ⊎ (is_output e.answer ≡ true)
  outputs x = by h.halt.fault refl
    where
      later : (o : Result (Unit {0}) Fault) → IfErr o (λ f. f ≢ fault.Output) → (m : Parts) → m.halt.fault ≡ None → (heeded o m).halt.fault ≡ Some fault.Output → ⊥
      later (Ok u) other m none y = no_fault fault.Output (sym none ∙ y)
      later (Err f) other m none y = other (one_fault f fault.Output (ap (λ o. Some (or_later o f)) (sym none) ∙ y))

      noted_by : (n : Result (Unit {0}) Fault) → e.noted.halt ≡ (heeded n h).halt → h.halt.fault ≡ None → is_output n ≡ true ⊎ (e.noted.halt.fault ≡ None)
      noted_by (Ok u) is none = inr (ap (λ t. t.fault) is ∙ none)
      noted_by (Err f) is none =
          inl (ap (λ (g : Fault). is_output {T = Unit {0}} (Err g))
          (one_fault f fault.Output
          (ap (λ o. Some (or_later o f)) (sym none)
          ∙ (ap (λ t. t.fault) (sym is) ∙ (sym (halts_stay f (ap (λ t. t.fault) is ∙ ap (λ o. Some (or_later o f)) none)) ∙ x)))))
        where
          halts_stay : (g : Fault) → e.noted.halt.fault ≡ Some g → k.halt.fault ≡ e.noted.halt.fault
          halts_stay g came = (on_k.stays g came) ∙ sym came
            where
              on_k : IsHaltedOn e.noted.halt k.halt (device_failed e.outcome)
              on_k = subst (λ (m : Parts). IsHaltedOn e.noted.halt m.halt (device_failed e.outcome)) (sym e.kept) (on_answer e.outcome (record e.noted { live = k.live }))

      by : (o : Option Fault) → h.halt.fault ≡ o → (h.halt.fault ≡ Some fault.Output) ⊎ (is_output e.answer ≡ true)
      by (Some g) came = inl (came ∙ (sym (halts.stays g came) ∙ x))
      by None none =
          elim (noted_by e.answer e.notes.halt none) [
            | inl y ↦ inr y
            | inr y ↦ absurd (later e.outcome e.other (record e.noted { live = k.live }) y (sym now_fault ∙ x))
          ]

  lost_for : h.telling ≡ true → k.telling ≡ false → h.halt.fault ≡ None → (f : Fault) × (k.halt.fault ≡ Some f) × IsLineFault f
  lost_for was is none = by e.answer e.notes.halt e.notes.lost e.whole
    where
      by : (n : Result (Unit {0}) Fault) → e.noted.halt ≡ (heeded n h).halt → IfErr n IsLineFault → OnOk n (k.telling ≡ h.telling) → (f : Fault) × (k.halt.fault ≡ Some f) × IsLineFault f
      by (Ok u) same lost whole = never (sym was ∙ (sym whole ∙ is))
      by (Err f) same lost whole =
          let came : e.noted.halt.fault ≡ Some f = ap (λ t. t.fault) same ∙ ap (λ o. Some (or_later o f)) none in
          let on_k : IsHaltedOn e.noted.halt k.halt (device_failed e.outcome) =
          subst (λ (m : Parts). IsHaltedOn e.noted.halt m.halt (device_failed e.outcome)) (sym e.kept) (on_answer e.outcome (record e.noted { live = k.live })) in
          (f, on_k.stays f came, lost)

  missing : (h.telling ≡ false → h.halt.fault ≢ None) → k.telling ≡ false → k.halt.fault ≢ None
  missing was is none = by h.halt.fault refl h.telling refl
    where
      by : (o : Option Fault) → h.halt.fault ≡ o → (t : Bool) → h.telling ≡ t → ⊥
      by (Some g) came t told = some_fault g (sym (halts.stays g came) ∙ none)
      by None came false told = was told came
      by None came true told = let x = lost_for told is came in some_fault x.0 (sym x.1 ∙ none)

  silenced : (h.telling ≡ false) ⊎ (is_output e.answer ≡ true) → k.telling ≡ false
  silenced (inl x) = e.silent x
  silenced (inr x) = e.cut x

  line_is : IsLineOf flow h.live c → end_text c.done (named_job flow e.job) how ≡ end_line (named_job flow e.job) how
  line_is line = by how
    where
      by : (x : End) → end_text c.done (named_job flow e.job) x ≡ end_line (named_job flow e.job) x
      by Good = line e.job e.is
      by (Status n) = refl
      by (NoOutput r) = refl
      by (WrongKind r) = refl
      by (BadMember r) = refl

  text : HasReported (TellsEnd flow h k c (Closed e.job (told_end how) ∷ [])) p q (is_output e.answer)
  text =
      reported_as (IsEndPut h.telling k.telling (end_text c.done (named_job flow e.job) how)) (TellsEnd flow h k c (Closed e.job (told_end how) ∷ [])) p q (is_output e.answer)
      (is_output e.answer) refl
      (λ t put line sound whole.
      tells_end flow h k e.job how t (subst (λ x. IsEndPut h.telling k.telling x t) (line_is line) put) halts.stays lost_for e.silent sound whole) e.text

  pub closed_so : HasFollowed act flow settings h k c status a d p q
  closed_so =
      record {
        deeds = Closed e.job (told_end how) ∷ [];
        failure = device_failed e.outcome;
        lost = is_output e.answer;
        acted = acted;
        places = places;
        room = room;
        plan = e.plan;
        halts = halts;
        counts = e.counts;
        silent = silenced;
        missing = missing;
        outputs = outputs;
        text = text;
      }
