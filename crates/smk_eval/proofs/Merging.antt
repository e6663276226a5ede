-- Configurations, step by step.
use Rattle.std.proofs.Common.{◌≡◌, inl, ℕ, List, Bool, true, false, Some, None, Result, Ok, Err, refl, ap, sym, subst, ◌∙◌}
use Rattle.std.specs.Prelude.{IsUtf8, IsErrAnd, if◌then◌else◌}
use Rattle.std.specs.Str.{is_utf8}
use Rattle.std.proofs.lemmas.Str.{IsUtf8-from_is_utf8, is_utf8-from_IsUtf8}
use Rattle.serde_json.specs.Data.{Members}
use Rattle.smk_config.specs.declared.config.Config.{Config}
use Rattle.smk_config.specs.Settings.{configured}
use Rattle.smk_flow.specs.Flows.{Flow}
use Rattle.smk_flaws.specs.declared.flaw.Flaw.TheVariants.{BadConfig}
use Rattle.smk_flaws.specs.declared.fault.FileFault.{FileFault}
use Rattle.smk_flaws.specs.declared.fault.FileFault.TheVariants as file
use Rattle.smk_flaws.specs.declared.fault.LoadFault.{LoadFault}
use Rattle.smk_flaws.specs.declared.fault.LoadFault.TheVariants.{Flawed}
use Rattle.smk_flaws.specs.Faults.{of_file}
use Rattle.smk_eval_files.specs.Reading as reading
use Rattle.smk_eval.specs.Faults.{is_told, is_device, device_failed, from_files, and_then}
use Rattle.smk_eval.specs.Configured.{Configures}
use Rattle.smk_eval.specs.Loading.{object_or, config_in, Gives}

pub config_read : (name source : List ℕ) (m : Members) → IsUtf8 source × (configured source ≡ Some m) → config_in name source ≡ Ok m
config_read name source m h =
    ap (λ b. object_or name (if b then configured source else None)) (is_utf8-from_IsUtf8 source h.0) ∙ ap (object_or name) h.1

pub config_bad : (name source : List ℕ) (f : LoadFault) → f ≡ Flawed (BadConfig name) → (IsUtf8 source → configured source ≡ None) → config_in name source ≡ Err f
config_bad name source f is h = go (is_utf8 source) refl ∙ ap Err (sym is)
  where
    go : (b : Bool) → is_utf8 source ≡ b → object_or name (if b then configured source else None) ≡ Err (Flawed (BadConfig name))
    go true e = ap (object_or name) (h (IsUtf8-from_is_utf8 source e))
    go false e = refl

-- a fault of a file keeps its kind
pub same_device : (f : FileFault) → reading.is_device f ≡ is_device (of_file f)
same_device (file.Flawed flaw) = refl
same_device file.Device = refl
same_device file.OutOfMemory = refl

pub same_told : (f : FileFault) → is_told (of_file f) ≡ reading.is_told f
same_told (file.Flawed flaw) = refl
same_told file.Device = refl
same_told file.OutOfMemory = refl

-- what a fault of files says of all that follows
pub file_fault : {A B : Type 0} (m : Result A FileFault) (k : A → Result B LoadFault) (f : FileFault) (e : LoadFault) → reading.Answers m (Err f) → e ≡ of_file f
    → is_told e ≡ true → and_then (from_files m) k ≡ Err e
file_fault m k f e h is told =
    ap (λ r. and_then (from_files r) k) (h (sym (same_told f) ∙ ap is_told (sym is) ∙ told)) ∙ ap Err (sym is)

-- ## A fault of files that `?` carries on

-- the device failed in the one exactly where it did in the other
pub carried_device : {A B : Type 0} {r : Result A FileFault} {e : FileFault} (s : Result B LoadFault) → r ≡ Err e → IsErrAnd s (λ f. f ≡ of_file e) → reading.device_failed r ≡ device_failed s
carried_device (Ok b) was is = absurd is
carried_device {e = e} (Err f) was is = ap reading.device_failed was ∙ same_device e ∙ ap is_device (sym is)

-- what it says of a configuration
pub carried_config : {A : Type 0} (m : Result A FileFault) (k : A → Result Members LoadFault) (r : Result A FileFault) (e : FileFault) (s : Result Config LoadFault)
    → r ≡ Err e → IsErrAnd s (λ f. f ≡ of_file e) → reading.Answers m r → Configures s (and_then (from_files m) k)
carried_config m k r e (Ok config) was is h = absurd is
carried_config m k r e (Err f) was is h = file_fault m k e f (subst (reading.Answers m) was h) is

-- what it says of a workflow
pub carried_flow : {A : Type 0} (m : Result A FileFault) (k : A → Result Flow LoadFault) (r : Result A FileFault) (e : FileFault) (s : Result Flow LoadFault)
    → r ≡ Err e → IsErrAnd s (λ f. f ≡ of_file e) → reading.Answers m r → Gives (and_then (from_files m) k) s
carried_flow m k r e (Ok flow) was is h = absurd is
carried_flow m k r e (Err f) was is h = λ told. inl (file_fault m k e f (subst (reading.Answers m) was h) is told)
