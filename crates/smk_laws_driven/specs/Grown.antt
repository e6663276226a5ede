-- How a run with jobs side by side ends where each target has a clean value, also of a workflow with checkpoints and directories, whose plans grow.
use Rattle.std.specs.Prelude.{◌≡◌, ◌≢◌, ◌⊎◌, [], Some, None, Result, Ok, Err}
use Rattle.std.specs.List.{flat_map}
use Rattle.smk_world.specs.Calls.{Rose}
use Rattle.smk_world.specs.Devices.{Device, Sunk}
use Rattle.smk_world.specs.World.{World}
use Rattle.smk_world.specs.Trees.{Act, Path}
use Rattle.smk_record.specs.Spelling.{ReadsRecords}
use Rattle.smk_store.specs.Images.{Image}
use Rattle.smk_store.specs.Soundness.{Outside, SoundWorld}
use Rattle.smk_store.specs.Trust.{SumsDiffer, Versions}
use Rattle.smk_chain.specs.Derive.{Listings, Refusal, Refused, clashes, derivation, jobs, sources_of, spots}
use Rattle.smk_chain.specs.Mean.{setting_of}
use Rattle.smk_report.specs.declared.fault.Fault.{Fault}
use Rattle.smk_report.specs.declared.fault.Fault.TheVariants as fault
use Rattle.smk_laws_complete.specs.Derived.{AllHaveValues, GathersAlone}
use Rattle.smk_laws_complete.specs.Listed.{AreMeant, all_known}
use Rattle.smk_drive.specs.Moments.{Rules, seen}
use Rattle.smk_drive.specs.Refusals.{IsFault}
use Rattle.smk_drive_course.specs.declared.ending.End.{End}
use Rattle.smk_drive_course.specs.Driven.{HasDriven}
use Rattle.smk_laws_driven.specs.Ended.{setting_in}
use Rattle.smk_laws_driven.specs.Named.{IsNamed}

-- Directories become known, with the files of their clean values, or those that the job of an output makes of such. With these listings the derivation from the
-- folder of the entry is refused, and its own jobs clash, with one another or with what is known there. What is told is the first refusal of it; or another of
-- two paths that clash, where the run has made one of them by then.
-- It can't be told at the entry: the jobs that clash are known by the files of a directory that wasn't made yet. Nor is a clash all that may be told: of a
-- directory that two of these jobs make the listing is that of the one, and what is asked of the other may be missing in it, which is told first.
pub record GrowsToClash (act : Act) (rules : Rules) (first : Image) (f : Fault) : Type 0 where
  pub lists : Listings
  pub meant : AreMeant (setting_of rules.flow act all_known first) lists rules.settings.targets
  pub clashing : clashes first [] (flat_map spots (jobs rules.flow (sources_of first) lists rules.settings.targets)) ≢ []
  pub told :
      ((r : Refusal) × (derivation rules.flow first lists rules.settings.targets ≡ Refused r) × IsFault rules.flow r f)
      ⊎ ((p : Path) × (q : Path) × (f ≡ fault.Clash p q))

-- The run may be refused as one is whose plans don't grow, break off, or grow to a clash.
abbrev pub IsGrownNamed : Act → Rules → World → Fault → Type 0
IsGrownNamed act rules w f = IsNamed rules w f ⊎ GrowsToClash act rules (seen rules w) f

-- no job failed, or the fault is such a one
abbrev pub EndsGrown : Act → Rules → World → Result End Fault → Type 0
EndsGrown act rules w (Ok end) = end.first ≡ None
EndsGrown act rules w (Err f) = IsGrownNamed act rules w f

-- A run from a folder that is sound for versions of which no two different contents have the same SHA-256, of any workflow, with checkpoints and directories
-- too, where each target has a clean value: a fault with which it ends is such a one, also where spent outputs were removed.
abbrev pub GrowingFaultsAreNamed : Type 0
GrowingFaultsAreNamed =
    (o : Outside) (rules : Rules) (H : Versions) (f : Fault) (w v : World) (old new : Device) (out_old out_new : Sunk) →
    old.world ≡ Some w →
    new.world ≡ Some v →
    rules.read ≡ o.read →
    ReadsRecords o.read →
    SumsDiffer H →
    SoundWorld o w H →
    GathersAlone rules.flow →
    AllHaveValues (setting_in o rules w) rules.settings.targets →
    HasDriven o.act rules (Err f) old new out_old out_new → IsGrownNamed o.act rules w f

-- And where no count of faults rose it has no failed job when it comes to its end.
abbrev pub GrowingIsComplete : Type 0
GrowingIsComplete =
    (o : Outside) (rules : Rules) (H : Versions) (result : Result End Fault) (w v : World) (old new : Device) (out_old out_new : Sunk) →
    old.world ≡ Some w →
    new.world ≡ Some v →
    rules.read ≡ o.read →
    ReadsRecords o.read →
    SumsDiffer H →
    SoundWorld o w H →
    GathersAlone rules.flow →
    AllHaveValues (setting_in o rules w) rules.settings.targets →
    ¬ (Rose old.faults new.faults) → HasDriven o.act rules result old new out_old out_new → EndsGrown o.act rules w result
