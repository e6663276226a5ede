-- The job that is next doesn't begin: what the run makes of it.
use Rattle.std.proofs.Common.{◌≡◌, ◌⊎◌, ◌+◌, ℕ, Bool, true, false, List, [], filter, length, refl, sym, ap, subst, ◌∙◌, inl, inr, None, Err}
use Rattle.std.specs.Prelude.{if◌then◌else◌}
use Rattle.smk_world.specs.declared.event.Event.{Event}
use Rattle.smk_world.specs.World.{World}
use Rattle.smk_world.specs.Devices.{AreLooks}
use Rattle.smk_world.specs.Requests.{IsCutShort}
use Rattle.smk_world.specs.Runs.{Follows}
use Rattle.smk_world.specs.Trees.{Act, Each, is_path_text}
use Rattle.smk_record.specs.declared.record.Stamp.{Stamp}
use Rattle.smk_flow.specs.declared.job.Job.{Job}
use Rattle.smk_flow.specs.Flows.{Flow, rule_name}
use Rattle.smk_store.specs.Images.{record_at}
use Rattle.smk_store.specs.Trust.{made_at}
use Rattle.smk_trigger.specs.JobStates.{is_restore}
use Rattle.smk_pick.specs.declared.room.Ask.{Ask}
use Rattle.smk_pick.specs.declared.settings.Settings.{Settings}
use Rattle.smk_pick.specs.Rooms.{threads_in}
use Rattle.smk_plan.specs.States.{job_path, test_some}
use Rattle.smk_report.specs.Lines.{Text}
use Rattle.smk_report.specs.declared.fault.Fault.{Fault}
use Rattle.smk_report.specs.declared.fault.Fault.TheVariants as fault
use Rattle.smk_job.specs.Jobs.{begin_requests}
use Rattle.smk_job.specs.declared.fault.BeginFault.{BeginFault}
use Rattle.smk_job.specs.declared.fault.BeginFault.TheVariants.{Device, OutOfMemory, TooLong}
use Rattle.smk_drive.specs.Moments.{Rules, greatest, seen}
use Rattle.smk_drive.specs.Moments.{draws as draws_of}
use Rattle.smk_drive_step.specs.Beginning.{HasTakenUp, IsCutOff, IsTooLong}
use Rattle.smk_drive_step.specs.Crews.{is_device}
use Rattle.smk_drive_course.specs.Stands.{Refuses, Stand, broken_by_device}
use Rattle.smk_drive_course.specs.Steps.{Deed}
use Rattle.smk_drive_first.specs.Opening.{AreRules}
use Rattle.smk_laws_turns.specs.Going.{HasGoneTo}
use Rattle.smk_laws_turns.specs.Hubs.{IsAt, IsKept, Parts}
use Rattle.smk_laws_turns.specs.Turning.{faulted}
use Rattle.smk_laws_turns.proofs.Turning.{beginning_breaks, halt_leads, reading_breaks}
use Rattle.smk_laws_turns.proofs.Homes.{home_stays, looks_leave_ours}
use Rattle.smk_laws_begins.specs.Fitting.{IsFit, IsUnfit, is_restored}
use Rattle.smk_laws_begins.specs.Noting.{IsBeginFault}
use Rattle.smk_laws_begins.specs.Begins.{IsNextAs, MayTake}
use Rattle.smk_laws_begins.proofs.Leads.{gone_one}
use Rattle.smk_laws_begins.proofs.Picked.{kept, next_as, unhalted}
use Rattle.smk_laws_begins.proofs.Refused.{length_refused, serials_refused}
use Rattle.smk_laws_begins.proofs.Serial.{unfit_is, zip_at}
use Rattle.smk_laws_begins.proofs.ToBegin.{IsTaken, serial, stamped, taken, to_begin}

module _ (rules : Rules) (entry : World) (h : Parts) (s : Stand) (w : World) (before : List Event) (deeds : List Deed) (number : ℕ)
    (at : IsAt rules entry h s w before deeds) (may : MayTake rules.settings h number) where
  none_came : s.halted ≡ None
  none_came = unhalted rules entry h s w before deeds number at may

  -- no job begins any more, for this fault, once the folder was looked at
  halts :
      (act : Act) (f : Fault) (es : List Event) → ((s.halted ≡ None) × Refuses rules entry s w before f) ⊎ ((f ≡ fault.Output) ⊎ (f ≡ fault.OutOfMemory)) →
      is_device f ≡ false → AreLooks false es → Follows act w es → (s.broken ≡ true → es ≡ []) → HasGoneTo rules entry (faulted f h) s w before es deeds []
  halts act f es cause other looks follows quiet =
      gone_one rules entry (faulted f h) s w before es deeds []
      (halt_leads rules entry h s w before deeds es f at cause other looks quiet (home_stays act entry w es follows at.home)
      (λ whole. looks_leave_ours act false rules entry w h.live.base.jobs.jobs es looks follows (at.ours whole)))

  unbroken : {es : List Event} → s.broken ≡ true → es ≡ []
  unbroken broken = absurd (at.faulted broken none_came)

  out_of_memory : (act : Act) (f : Fault) (es : List Event) → f ≡ fault.OutOfMemory → AreLooks false es → Follows act w es → HasGoneTo rules entry (faulted f h) s w before es deeds []
  out_of_memory act f es is looks follows = halts act f es (inr (inr is)) (ap is_device is) looks follows unbroken

  -- ## Before anything is done

  full : IsNextAs rules h s w before number → is_restored h.live number ≡ false → h.next ≡ None → Refuses rules entry s w before fault.Serials
  full n drawn none =
      let parts = zip_at h.live.base.jobs.jobs h.live.plan.states number n.job n.staged_at in
      let was : IsKept rules entry h s w before = kept rules entry h s w before deeds number at may in
      let top = greatest rules (seen rules entry) + (1 + length (filter (draws_of rules) s.begun)) in
      let restore : is_restore n.job.1 ≡ false = sym (ap (test_some is_restore) parts.1) ∙ drawn in
      serials_refused rules entry s w before n.job n.next
      (ap (λ b. if b then made_at (record_at (seen rules w) (job_path n.job.0)) else top) restore ∙ unfit_is top was.reach (sym was.serial ∙ none))

  pub unfit_leads : (act : Act) (f : Fault) → IsUnfit h number f → HasGoneTo rules entry (faulted f h) s w before [] deeds []
  unfit_leads act f (inl is) = out_of_memory act f [] is refl tt
  unfit_leads act f (inr u) =
      let refused = full (next_as rules entry h s w before deeds number at may) u.1 u.2 in
      halts act f [] (inl (none_came, subst (Refuses rules entry s w before) (sym u.0) refused)) (ap is_device u.0) refl tt unbroken

  -- ## Once sources have been read

  module _ (act : Act) (flow : Flow) (settings : Settings) (by : AreRules flow settings rules) (j : Job) (known : List Stamp) (made : ℕ) (draws : Bool) (command : Text) (ask : Ask)
      (fit : IsFit rules.settings h number j known made draws command ask) (logged : Each (λ p. is_path_text p ≡ true) j.logs) where
    x : IsTaken rules entry h s w before deeds number at may j fit.is
    x = taken rules entry h s w before deeds number at may j fit.is

    too_long :
        (bytes : ℕ) (f : Fault) (es : List Event) → IsTooLong j known made bytes w es →
        (f ≡ fault.TooLong (rule_name flow j.rule) bytes) ⊎ (f ≡ fault.OutOfMemory) → Follows act w es → HasGoneTo rules entry (faulted f h) s w before es deeds []
    too_long bytes f es long (inr is) follows = out_of_memory act f es is long.read.only_read follows
    too_long bytes f es long (inl is) follows =
        let refused : Refuses rules entry s w before (fault.TooLong (rule_name rules.flow j.rule) bytes) =
        length_refused rules entry s w before (j, x.state) x.next made long.stamps
        (serial rules entry h s w before deeds number at may j fit.is known made draws command ask fit x)
        (stamped rules entry h s w before deeds number at may j fit.is known made draws command ask fit act x long.stamps long.read.stamped) bytes fit.fits long.long in
        halts act f es
        (inl (none_came, subst (Refuses rules entry s w before) (sym (is ∙ ap (λ fl. fault.TooLong (rule_name fl j.rule) bytes) (sym by.flow_is))) refused))
        (ap is_device is) long.read.only_read follows unbroken

    device_fails : (f : Fault) (es : List Event) → f ≡ fault.Device → AreLooks true es ⊎ IsCutOff j known made command w es → Follows act w es → HasGoneTo rules entry (faulted f h) s w before es deeds []
    device_fails f es is (inl looks) follows =
        subst (λ g. HasGoneTo rules entry (faulted g h) s w before es deeds []) (sym is)
        (gone_one rules entry (faulted fault.Device h) s w before es deeds []
        (reading_breaks rules entry h s w before deeds es (broken_by_device s) at
        (record { job = (j, x.state); next = x.next; reads = looks; deeds_are = refl; leaves = refl }) (home_stays act entry w es follows at.home)))
    device_fails f es is (inr cut) follows =
        let begins =
        to_begin rules entry h s w before deeds number at may j fit.is known made draws command ask fit act x cut.stamps cut.reads logged cut.read cut.short in
        let calls =
        subst (λ text. IsCutShort (begin_requests j.recipe j.logs text) cut.beginning)
        (fit.text ∙ ap (λ (c : Job → ℕ → Text). c j (threads_in rules.settings.cores j.threads)) (sym by.texts)) cut.calls in
        subst (λ g. HasGoneTo rules entry (faulted g h) s w before es deeds []) (sym is)
        (gone_one rules entry (faulted fault.Device h) s w before es deeds []
        (beginning_breaks rules entry h s w before deeds es (broken_by_device s) at
        (record {
          job = (j, x.state);
          made = made;
          stamps = cut.stamps;
          reads = cut.reads;
          beginning = cut.beginning;
          to_begin = begins;
          events = cut.events;
          only_read = cut.read.only_read;
          calls = calls;
          deeds_are = refl;
          leaves = refl;
        }) (home_stays act entry w es follows at.home)))

    pub unbegun_leads :
        (why : BeginFault) (f : Fault) (es : List Event) → HasTakenUp j known made command (Err why) w es → IsBeginFault (rule_name flow j.rule) why f → Follows act w es →
        HasGoneTo rules entry (faulted f h) s w before es deeds []
    unbegun_leads (TooLong bytes) f es up is follows = too_long bytes f es up is follows
    unbegun_leads Device f es up is follows = device_fails f es is up follows
    unbegun_leads OutOfMemory f es up is follows = out_of_memory act f es is up follows
