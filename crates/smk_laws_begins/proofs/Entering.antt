-- A run comes to its start.
use Rattle.std.proofs.Common.{◌≡◌, ◌≤◌, inl, true, false, List, length, arith, refl, sym, subst, Option, Result, Ok, Err}
use Rattle.std.specs.Prelude.{is_none}
use Rattle.std.specs.List.{list_all}
use Rattle.smk_world.specs.Devices.{Device}
use Rattle.smk_world.specs.Trees.{Act}
use Rattle.smk_world.proofs.Devices.{acted_as}
use Rattle.smk_flow.specs.Flows.{Flow}
use Rattle.smk_store.specs.Unowned.{NoneOwned}
use Rattle.smk_pick.specs.declared.settings.Settings.{Settings}
use Rattle.smk_report.specs.declared.fault.Fault.{Fault}
use Rattle.smk_report.specs.declared.fault.Fault.TheVariants as fault
use Rattle.smk_job.specs.Jobs.{Underway}
use Rattle.smk_run.specs.declared.tally.Tally.{Tally}
use Rattle.smk_plan_live.specs.Lives.{IsLive}
use Rattle.smk_plan_preview.specs.Faults.{device_failed, is_sink}
use Rattle.smk_drive.specs.Moments.{Rules, seen}
use Rattle.smk_drive_step.specs.declared.children.Child.{Child}
use Rattle.smk_drive_first.specs.declared.opening.Opened.{Opened}
use Rattle.smk_drive_first.specs.Opening.{AreRules, HasOpened, IsOutcome, NoMemory}
use Rattle.smk_laws_turns.specs.Hubs.{Parts}
use Rattle.smk_drive_hub.specs.Keeping.{IsAtStart}
use Rattle.smk_laws_begins.specs.Sources.{are_made_or_seen}
use Rattle.smk_laws_begins.specs.Standing.{taken}
use Rattle.smk_laws_begins.specs.Stepping.{IsWithin}
use Rattle.smk_laws_begins.specs.Whole.{EntersAs, HasBegunRun, IsNew}
use Rattle.smk_laws_begins.proofs.Sources.{seen_are_sources}
use Rattle.smk_laws_begins.proofs.Whole.{none_going}

module _ (act : Act) (flow : Flow) (settings : Settings) (a b : Device) where
  -- it has opened, and stands at its start
  pub entered :
      (r : Result Opened Fault) (o : Opened) (h : Parts) →
      r ≡ Ok o →
      HasOpened act flow settings r a b →
      IsLive o.live →
      are_made_or_seen o.live.base ≡ true → IsAtStart settings o.live o.next h → HasBegunRun act flow settings (Ok h) a b
  entered r o h is opened live seen_so start =
      let well : HasOpened act flow settings (Ok o) a b = subst (λ x. HasOpened act flow settings x a b) is opened in
      record {
        acted =
            acted_as act (λ w es. NoneOwned w → (rules : Rules) → AreRules flow settings rules → IsOutcome rules w es (Ok o))
            (λ w es. NoneOwned w → (rules : Rules) → AreRules flow settings rules → EntersAs rules settings w es (Ok h)) a b false false refl
            (λ w es told none rules by.
            let x = told none rules by in
            record {
              found = o;
              opens = x.0;
              is = x.1;
              sources = λ p among. seen_are_sources (seen rules w) rules.settings o.live.base p x.1.agrees seen_so among;
              start = start;
            })
            well.acted;
        is_new = record { found = o; start = start; alive = subst IsLive (sym start.live_is) live };
        no_sink = tt;
      }

  -- it has opened, and there is no memory to come to its start
  pub unentered : (r : Result Opened Fault) (o : Opened) → r ≡ Ok o → HasOpened act flow settings r a b → HasBegunRun act flow settings (Err fault.OutOfMemory) a b
  unentered r o is opened =
      let well : HasOpened act flow settings (Ok o) a b = subst (λ x. HasOpened act flow settings x a b) is opened in
      record {
        acted =
            acted_as act (λ w es. NoneOwned w → (rules : Rules) → AreRules flow settings rules → IsOutcome rules w es (Ok o))
            (λ w es. NoneOwned w → (rules : Rules) → AreRules flow settings rules → EntersAs rules settings w es (Err fault.OutOfMemory)) a b false
            (device_failed {T = Parts} (Err fault.OutOfMemory)) refl (λ w es told none rules by. NoMemory (Ok tt) (inl refl) (told none rules by).0) well.acted;
        is_new = tt;
        no_sink = refl;
      }

  -- it hasn't opened
  pub unopened : (r : Result Opened Fault) (f : Fault) → r ≡ Err f → is_sink f ≡ false → HasOpened act flow settings r a b → HasBegunRun act flow settings (Err f) a b
  unopened r f is no_sink opened =
      let ill : HasOpened act flow settings (Err f) a b = subst (λ x. HasOpened act flow settings x a b) is opened in
      record {
        acted =
            acted_as act (λ w es. NoneOwned w → (rules : Rules) → AreRules flow settings rules → IsOutcome rules w es (Err f))
            (λ w es. NoneOwned w → (rules : Rules) → AreRules flow settings rules → EntersAs rules settings w es (Err f)) a b
            (device_failed {T = Opened} (Err f)) (device_failed {T = Parts} (Err f)) refl (λ w es told none rules by. told none rules by) ill.acted;
        is_new = tt;
        no_sink = no_sink;
      }

-- ## Counts

none_taken : (places : List (Option Child)) → list_all is_none places ≡ true → taken places ≤ 0
none_taken places free = subst (λ (gs : List Underway). length gs ≤ 0) (sym (none_going places free)) (omega arith)

-- nothing was done, and no child runs
pub start_is_within : (settings : Settings) (h : Parts) → IsNew settings h → IsWithin 0 h
start_is_within settings h new =
    let zero_tally = new.start.tally in
    record {
      started = subst (λ (t : Tally). t.started ≤ 0) (sym zero_tally) (omega arith);
      done = subst (λ (t : Tally). t.done ≤ 0) (sym zero_tally) (omega arith);
      failed = subst (λ (t : Tally). t.failed ≤ 0) (sym zero_tally) (omega arith);
      places = none_taken h.places new.start.places;
    }
