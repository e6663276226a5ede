-- The job that is next is to begin with the stamps and the serial that were told.
use Rattle.std.proofs.Common.{◌≡◌, ◌+◌, ℕ, Bool, true, false, not, List, ◌++◌, map, filter, length, refl, sym, ap, subst, ◌∙◌, Some, None, Ok}
use Rattle.std.specs.Prelude.{if◌then◌else◌}
use Rattle.std.specs.List.{slice_get}
use Rattle.std.proofs.lemmas.Option.{same_Some}
use Rattle.smk_world.specs.declared.event.Event.{Event}
use Rattle.smk_world.specs.World.{World, in_paths, reading}
use Rattle.smk_world.specs.Trees.{Act, Each, is_path_text}
use Rattle.smk_record.specs.declared.record.Stamp.{Stamp}
use Rattle.smk_pattern.specs.Reading.{or_empty}
use Rattle.smk_flow.specs.declared.job.Job.{Job}
use Rattle.smk_store.specs.Images.{Image, record_at}
use Rattle.smk_store.specs.Trust.{made_at, stamp_now}
use Rattle.smk_trigger.specs.declared.reason.State.{State}
use Rattle.smk_trigger.specs.JobStates.{is_restore}
use Rattle.smk_pick.specs.declared.room.Ask.{Ask}
use Rattle.smk_plan.specs.States.{awaits, is_at_hand, job_path, test_some}
use Rattle.smk_plan.specs.Summed.{records_by}
use Rattle.smk_laws_plan.proofs.CurrentLists.{all_in, in_left}
use Rattle.smk_laws_plan.proofs.CurrentProducts.{Planned}
use Rattle.smk_laws_history.proofs.CurrentComplete.{seen_is_complete}
use Rattle.smk_laws_history.proofs.Valid.{records_valid}
use Rattle.smk_laws_protocol.proofs.Basics.{each_of}
use Rattle.smk_report.specs.Lines.{Text}
use Rattle.smk_job.specs.Jobs.{too_long}
use Rattle.smk_drive.specs.Moments.{Rules, greatest, progress_of, seen, serial_of}
use Rattle.smk_drive.specs.Moments.{draws as draws_of}
use Rattle.smk_plan_live.specs.declared.base.Base.{Base}
use Rattle.smk_plan_live.proofs.Learned.{facts_are}
use Rattle.smk_drive_step.specs.Beginning.{HasRead}
use Rattle.smk_drive_step.specs.Stamping.{AreDigested}
use Rattle.smk_drive_course.specs.Stands.{Stand, moment_of}
use Rattle.smk_drive_course.specs.Steps.{Deed, IsNext, IsToBegin}
use Rattle.smk_laws_moments.proofs.Next.{IsStarting, starting}
use Rattle.smk_laws_turns.specs.Hubs.{IsAt, IsKept, Parts}
use Rattle.smk_laws_begins.specs.Fitting.{IsFit, is_restored as is_restored_job, serial_of as serial_by}
use Rattle.smk_laws_begins.specs.Begins.{MayTake}
use Rattle.smk_laws_begins.proofs.Inputs.{input_clear}
use Rattle.smk_laws_begins.proofs.Picked.{agrees, kept, next_as}
use Rattle.smk_laws_begins.proofs.Serial.{again, drawn, fits_is, serial_kept, zip_at}
use Rattle.smk_laws_begins.proofs.Told.{counted, counts, told_as}
use Rattle.smk_laws_begins.proofs.Stamped.{IsClearInput, all_stamps}

module _ (rules : Rules) (entry : World) (h : Parts) (s : Stand) (w : World) (before : List Event) (deeds : List Deed) (number : ℕ)
    (at : IsAt rules entry h s w before deeds) (may : MayTake rules.settings h number) (j : Job) (is : slice_get h.live.base.jobs.jobs number ≡ Some j) where
  abbrev image : Image
  image = seen rules w

  abbrev b : Base
  b = h.live.base

  -- The job of the number is next, with the state that it has.
  pub record IsTaken : Type 0 where
    pub state : State
    pub has_state : slice_get h.live.plan.states number ≡ Some state
    pub next : IsNext rules s w before (j, state)

  pub taken : IsTaken
  taken =
      let n = next_as rules entry h s w before deeds number at may in
      let parts = zip_at b.jobs.jobs h.live.plan.states number n.job n.staged_at in
      let own : n.job.0 ≡ j = same_Some n.job.0 j (sym parts.0 ∙ is) in
      record { state = n.job.1; has_state = parts.1; next = subst (λ x. IsNext rules s w before (x, n.job.1)) own n.next }

  -- ## Stamps

  pub planned : (x : IsTaken) → IsStarting rules s w (j, x.state)
  planned x = starting rules s w before (j, x.state) x.next

  pub plan_sound : (x : IsTaken) → Planned rules.flow image rules.settings (progress_of w s.begun) (planned x).plan
  plan_sound x =
      record {
        complete = seen_is_complete rules.read w at.home.formed;
        valid = records_valid rules.read w.names (λ q. reading (w.nodes q));
        derived = (planned x).is_plan;
      }

  clear : Act → (x : IsTaken) → Each (IsClearInput image) (in_paths j.recipe)
  clear act x =
      let p = planned x in
      each_of (IsClearInput image) (in_paths j.recipe) (λ q i.
      input_clear rules.flow act image rules.settings (progress_of w s.begun) p.plan (plan_sound x) j q p.planned i
      (all_in (is_at_hand image rules.settings (progress_of w s.begun) p.plan) (in_paths j.recipe ++ awaits p.plan j) q p.at_hand
      (in_left q (in_paths j.recipe) (awaits p.plan j) i)))

  module _ (known : List Stamp) (made : ℕ) (draws : Bool) (command : Text) (ask : Ask)
      (fit : IsFit rules.settings h number j known made draws command ask) where
    pub stamped : Act → (x : IsTaken) (stamps : List Stamp) → AreDigested w (in_paths j.recipe) known stamps → map Some stamps ≡ map (stamp_now image) (in_paths j.recipe)
    stamped act x stamps digested =
        let agreed = agrees rules entry h s w before deeds number at may in
        all_stamps rules.read w (counted image h.live.settings b agreed) (records_by image.kept j) (in_paths j.recipe) fit.facts.stamps known stamps
        (counts image h.live.settings b agreed number j is) (clear act x)
        (told_as image h.live.settings b agreed number j fit.facts at.live.texts is
        (sym (facts_are h.live.settings b at.live.sound h.live.flags.forced (at.live.flags agreed.served).forced number) ∙ fit.has_facts))
        fit.stamps.all digested

    -- ## The serial

    abbrev next_serial : ℕ
    next_serial = greatest rules (seen rules entry) + (1 + length (filter (draws_of rules) s.begun))

    abbrev old_serial : ℕ
    old_serial = made_at (record_at image (job_path j))

    restores : (x : IsTaken) → is_restored_job h.live number ≡ is_restore x.state
    restores x = ap (test_some is_restore) x.has_state

    pub serial : (x : IsTaken) → made ≡ serial_of rules entry (moment_of s w before) j x.state
    serial x = go (is_restore x.state) refl
      where
        kept_at : IsKept rules entry h s w before
        kept_at = kept rules entry h s w before deeds number at may

        name_is : job_path j ≡ fit.name
        name_is = ap or_empty fit.named

        draws_if : (c : Bool) → is_restore x.state ≡ c → draws ≡ not c
        draws_if c e = fit.draws_are ∙ ap not (restores x ∙ e)

        go : (c : Bool) → is_restore x.state ≡ c → made ≡ (if is_restore x.state then old_serial else next_serial)
        go true e =
            let again_serial = subst (λ d. serial_by h.live d h.next fit.name ≡ Ok made) (draws_if true e) fit.serial in
            sym (ap (λ p. made_at (record_at image p)) name_is ∙ serial_kept b image fit.name made (kept_at.agrees.kept fit.name) (again h.live h.next fit.name made again_serial))
            ∙ sym (ap (λ c. if c then old_serial else next_serial) e)
        go false e =
            let drawn_serial = subst (λ d. serial_by h.live d h.next fit.name ≡ Ok made) (draws_if false e) fit.serial in
            sym (fits_is next_serial made (sym kept_at.serial ∙ drawn h.live h.next fit.name made drawn_serial))
            ∙ sym (ap (λ c. if c then old_serial else next_serial) e)

    -- ## It is to begin

    pub to_begin :
        Act → (x : IsTaken) (stamps : List Stamp) (reads : List Event) → Each (λ p. is_path_text p ≡ true) j.logs → HasRead j known made stamps w reads →
        too_long made j.recipe stamps ≡ None → IsToBegin rules entry s w before (j, x.state) made stamps
    to_begin act x stamps reads logged read short =
        record {
          next = x.next;
          logged = logged;
          serial = serial x;
          stamped = stamped act x stamps read.stamped;
          fits = fit.fits;
          writable = read.writable;
          short = short;
        }
