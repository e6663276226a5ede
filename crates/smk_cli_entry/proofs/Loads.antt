-- A fault of loading that `?` carries on as one of the call.
use Rattle.std.proofs.Common.{◌≡◌, List, ℕ, false, Result, Ok, Err, refl, ap, sym, ◌∙◌}
use Rattle.std.specs.Prelude.{IfErr, IsErrAnd}
use Rattle.smk_flaws.specs.declared.fault.LoadFault.{LoadFault}
use Rattle.smk_flaws.specs.declared.fault.LoadFault.TheVariants as load
use Rattle.smk_base.specs.declared.tree.Pair.{Pair}
use Rattle.smk_eval_files.specs.Looks.{Nodes}
use Rattle.smk_eval.specs.Faults as loading
use Rattle.smk_eval.specs.Loading.{loaded, Gives}
use Rattle.smk_report.specs.declared.fault.Fault.{Fault}
use Rattle.smk_report.specs.Faults.{of_load}
use Rattle.smk_cli_entry.specs.declared.reading.Reading.{Reading}
use Rattle.smk_cli_entry.specs.Faults.{is_told, is_device, is_sink, device_failed}
use Rattle.smk_cli_entry.specs.Entry.{IsReadIn}

pub same_device : (f : LoadFault) → loading.is_device f ≡ is_device (of_load f)
same_device (load.Flawed flaw) = refl
same_device load.Device = refl
same_device load.OutOfMemory = refl

pub same_told : (f : LoadFault) → is_told (of_load f) ≡ loading.is_told f
same_told (load.Flawed flaw) = refl
same_told load.Device = refl
same_told load.OutOfMemory = refl

-- no fault of a sink
pub no_sink_of : (f : LoadFault) → is_sink (of_load f) ≡ false
no_sink_of (load.Flawed flaw) = refl
no_sink_of load.Device = refl
no_sink_of load.OutOfMemory = refl

pub load_no_sink : (f : LoadFault) (g : Fault) → g ≡ of_load f → is_sink g ≡ false
load_no_sink f g is = ap is_sink is ∙ no_sink_of f

pub carried_no_sink : {A : Type 0} (e : LoadFault) (s : Result A Fault) → IsErrAnd s (λ f. f ≡ of_load e) → IfErr s (λ f. is_sink f ≡ false)
carried_no_sink e (Ok a) is = absurd is
carried_no_sink e (Err f) is = load_no_sink e f is

-- the device failed in the one exactly where it did in the other
pub carried_device : {B : Type 0} (e : LoadFault) (s : Result B Fault) → IsErrAnd s (λ f. f ≡ of_load e) → loading.is_device e ≡ device_failed s
carried_device e (Ok b) is = absurd is
carried_device e (Err f) is = same_device e ∙ ap is_device (sym is)

-- a refusal is that of the file's workflow
pub carried_refusal : (nodes : Nodes) (file : List ℕ) (sets : List Pair) (e : LoadFault) (s : Result Reading Fault) → IsErrAnd s (λ f. f ≡ of_load e)
    → Gives (loaded nodes file sets) (Err e) → IsReadIn nodes file sets s
carried_refusal nodes file sets e (Ok reading) is h = absurd is
carried_refusal nodes file sets e (Err f) is h = λ told. (e, sym (same_told e) ∙ ap is_told (sym is) ∙ told, h, is)
