-- What is known of a run from its call.
use Rattle.std.proofs.Common.{◌≡◌, ℕ, List, Option, Some, None, Bool, true, not, is_some, refl, subst}
use Rattle.smk_world.specs.World.{World}
use Rattle.smk_world.specs.Devices.{Device, Sunk}
use Rattle.smk_world_mem.specs.Act.{mem_act}
use Rattle.smk_record.specs.declared.record.Record.{Record}
use Rattle.smk_record.specs.Spelling.{ReadsRecords}
use Rattle.smk_words_reading.specs.declared.asked.Asked.TheVariants.{Run}
use Rattle.smk_report.specs.declared.fault.Fault.{Fault}
use Rattle.smk_cli_calls.specs.Whole.{HasServed}
use Rattle.smk_trial.specs.Running.{asked_run, Ran}

pub no_fault : (fault : Option Fault) (well : Bool) → is_some fault ≡ not well → well ≡ true → fault ≡ None
no_fault None well some is = refl
no_fault (Some f) well some is = cc

-- it was served, and has no fault
pub ran : (w v : World) (fault : Option Fault) (old new : Device) (out_old out_new : Sunk) →
    old.world ≡ Some w → new.world ≡ Some v → fault ≡ None →
    ((read : List ℕ → Option Record) → ReadsRecords read → HasServed mem_act read (Run asked_run) w fault old new out_old out_new) → Ran w v
ran w v fault old new out_old out_new begins ends none served = record {
  old = old;
  new = new;
  out_old = out_old;
  out_new = out_new;
  begins = begins;
  ends = ends;
  served = λ read reads. subst (λ f. HasServed mem_act read (Run asked_run) w f old new out_old out_new) none (served read reads);
}
