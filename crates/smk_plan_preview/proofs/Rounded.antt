-- The steps of a round, put together.
use Rattle.std.proofs.Common.{◌≡◌, ◌⊎◌, inl, inr, ℕ, false, List, [], ◌∷◌, refl, sym, ap, subst, ◌∙◌, Option, Some, None, Result, Ok, Err}
use Rattle.std.specs.Prelude.{IfOk, IfErr}
use Rattle.std.specs.List.{zip}
use Rattle.std.proofs.lemmas.Option.{none-some}
use Rattle.smk_flow.specs.Flows.{Flow}
use Rattle.smk_record.specs.declared.record.Record.{Record}
use Rattle.smk_store.specs.Images.{Image}
use Rattle.smk_chain.specs.declared.jobs.Jobs.{Jobs}
use Rattle.smk_chain.specs.Derive.{Listings}
use Rattle.smk_pick.specs.declared.settings.Settings.{Settings}
use Rattle.smk_plan.specs.declared.plan.Plan.{Plan as Told}
use Rattle.smk_format.specs.Refused.{command_fault, fault_at, fault_in, state_fault, or_later}
use Rattle.smk_trigger.specs.declared.reason.State.{State}
use Rattle.smk_trigger.specs.declared.reason.State.TheVariants.{Open, Dirty, Restore, Clean}
use Rattle.smk_flow.specs.declared.job.Job.{Job}
use Rattle.smk_report.specs.Lines.{Text}
use Rattle.smk_report.specs.declared.fault.Fault.{Fault}
use Rattle.smk_report.specs.declared.fault.Fault.TheVariants as fault
use Rattle.smk_plan_preview.specs.declared.rounds.Round.{Round}
use Rattle.smk_plan_preview.specs.Faults.{is_device, is_sink, device_failed}
use Rattle.smk_world.specs.Trees.{Path}
use Rattle.smk_plan_preview.specs.Rounds.{AreReady, Derives, HasRound}
use Rattle.smk_plan_preview.specs.Fitness.{AreFit}
use Rattle.smk_plan_preview.specs.Steps.{HasLengths, AreSound, IsGood, Plans}
use Rattle.smk_plan_preview.proofs.Chains.{round_made, command_refused, planned_refused}

-- ## Faults of commands

at_quiet : (rule : Text) (m : Option Text) (n : Option ℕ) (f : Fault) → fault_at rule m n ≡ Some f → (is_device f ≡ false) × (is_sink f ≡ false)
at_quiet rule (Some word) n f k = let same : fault.UnknownField rule word ≡ f = cc in (sym (ap is_device same), sym (ap is_sink same))
at_quiet rule None (Some bytes) f k = let same : fault.TooLong rule bytes ≡ f = cc in (sym (ap is_device same), sym (ap is_sink same))
at_quiet rule None None f k = absurd (none-some f k)

fault_quiet : (s : State) (rule : Text) (m : Option Text) (n : Option ℕ) (f : Fault) → fault_in s rule m n ≡ Some f → (is_device f ≡ false) × (is_sink f ≡ false)
fault_quiet Open rule m n f h = absurd (none-some f h)
fault_quiet (Dirty reasons) rule m n f h = at_quiet rule m n f h
fault_quiet Restore rule m n f h = at_quiet rule m n f h
fault_quiet Clean rule m n f h = at_quiet rule m None f h

commands_quiet : (flow : Flow) (cores : ℕ) (es : List (Job × State)) (f : Fault) → command_fault flow cores es ≡ Some f → (is_device f ≡ false) × (is_sink f ≡ false)
commands_quiet flow cores [] f h = absurd (none-some f h)
commands_quiet flow cores (e ∷ es) f h = go (state_fault flow cores e.0 e.1) refl (commands_quiet flow cores es f)
  where
    go : (o : Option Fault) → state_fault flow cores e.0 e.1 ≡ o → (command_fault flow cores es ≡ Some f → (is_device f ≡ false) × (is_sink f ≡ false)) → (is_device f ≡ false) × (is_sink f ≡ false)
    go None is again = again (sym (ap (λ o. or_later o (command_fault flow cores es)) is) ∙ h)
    go (Some g) is again = fault_quiet e.1 _ _ _ f (is ∙ sym (ap (λ o. or_later o (command_fault flow cores es)) is) ∙ h)

-- a fault of a check of commands is none of the device or a sink
pub check_quiet : (flow : Flow) (cores : ℕ) (es : List (Job × State)) (f : Fault) → (f ≡ fault.OutOfMemory) ⊎ (command_fault flow cores es ≡ Some f) → (is_device f ≡ false) × (is_sink f ≡ false)
check_quiet flow cores es f (inl memory) = (ap is_device memory, ap is_sink memory)
check_quiet flow cores es f (inr bad) = commands_quiet flow cores es f bad

-- ## A check of the commands

pub checked_device : (flow : Flow) (settings : Settings) (jobs : Jobs) (plan : Told) (r : Result Round Fault) → IfErr r (λ f. (f ≡ fault.OutOfMemory) ⊎ (command_fault flow settings.cores (zip jobs.jobs plan.states) ≡ Some f)) → device_failed r ≡ false
checked_device flow settings jobs plan (Ok x) bad = refl
checked_device flow settings jobs plan (Err f) bad = (check_quiet flow settings.cores (zip jobs.jobs plan.states) f bad).0

pub checked_sink : (flow : Flow) (settings : Settings) (jobs : Jobs) (plan : Told) (r : Result Round Fault) → IfErr r (λ f. (f ≡ fault.OutOfMemory) ⊎ (command_fault flow settings.cores (zip jobs.jobs plan.states) ≡ Some f)) → IfErr r (λ f. is_sink f ≡ false)
checked_sink flow settings jobs plan (Ok x) bad = tt
checked_sink flow settings jobs plan (Err f) bad = (check_quiet flow settings.cores (zip jobs.jobs plan.states) f bad).1

pub checked_jobs : (jobs : Jobs) (plan : Told) (r : Result Round Fault) → IfOk r (λ x. (x.jobs ≡ jobs) × (x.plan ≡ plan)) → IfOk r (λ x. x.jobs ≡ jobs)
checked_jobs jobs plan (Ok x) same = same.0
checked_jobs jobs plan (Err f) same = tt

pub checked_sound : (flow : Flow) (settings : Settings) (jobs : Jobs) (plan : Told) (r : Result Round Fault) → HasLengths jobs settings plan → IfOk r (λ x. (x.jobs ≡ jobs) × (x.plan ≡ plan))
    → IfOk r (λ x. command_fault flow settings.cores (zip jobs.jobs plan.states) ≡ None) → IfOk r (AreSound flow settings)
checked_sound flow settings jobs plan (Ok x) lengths same good =
    subst (AreSound flow settings) (λ i. record { jobs = sym same.0 i; plan = sym same.1 i }) (record { lengths = lengths; commands = good })
checked_sound flow settings jobs plan (Err f) lengths same good = tt

pub checked_told : (read : List ℕ → Option Record) (flow : Flow) (settings : Settings) (image : Image) (jobs : Jobs) (plan : Told) (p : Result Told Fault) (r : Result Round Fault) → p ≡ Ok plan → Plans flow image settings jobs p
    → AreReady flow settings.targets jobs.lists image jobs → IfOk r (λ x. (x.jobs ≡ jobs) × (x.plan ≡ plan))
    → IfOk r (λ x. command_fault flow settings.cores (zip jobs.jobs plan.states) ≡ None) → IfErr r (λ f. (f ≡ fault.OutOfMemory) ⊎ (command_fault flow settings.cores (zip jobs.jobs plan.states) ≡ Some f))
    → HasRound read flow settings image jobs.lists r
checked_told read flow settings image jobs plan p (Ok x) is made ready same good bad =
    round_made read flow settings image jobs plan x same.0 same.1 good ready (subst (Plans flow image settings jobs) is made)
checked_told read flow settings image jobs plan p (Err f) is made ready same good bad = λ told.
    command_refused read flow settings image jobs plan f bad ready (subst (Plans flow image settings jobs) is made) told

pub planned_told : (read : List ℕ → Option Record) (flow : Flow) (settings : Settings) (image : Image) (jobs : Jobs) (p : Result Told Fault) (f : Fault) → p ≡ Err f → Plans flow image settings jobs p
    → AreReady flow settings.targets jobs.lists image jobs → HasRound read flow settings image jobs.lists (Err f)
planned_told read flow settings image jobs p f is refused ready = λ told. planned_refused read flow settings image jobs f ready (subst (Plans flow image settings jobs) is refused told)

-- ## With the listings that were asked for

pub lists_of : (r : Result Round Fault) (jobs : Jobs) (L : Listings) → jobs.lists ≡ L → IfOk r (λ x. x.jobs ≡ jobs) → IfOk r (λ x. x.jobs.lists ≡ L)
lists_of (Ok x) jobs L lists same = ap (λ (j : Jobs). j.lists) same ∙ lists
lists_of (Err f) jobs L lists same = tt

pub good_of : (flow : Flow) (settings : Settings) (r : Result Round Fault) (jobs : Jobs) → AreFit jobs → IfOk r (λ x. x.jobs ≡ jobs) → IfOk r (AreSound flow settings) → IfOk r (λ x. IsGood flow settings x.jobs x.plan)
good_of flow settings (Ok x) jobs fit same sound = record { fit = subst AreFit (sym same) fit; lengths = sound.lengths; commands = sound.commands }
good_of flow settings (Err f) jobs fit same sound = tt

pub ready_as : (flow : Flow) (targets : List Path) (image : Image) (jobs : Jobs) (d : Result Jobs Fault) (L : Listings) → d ≡ Ok jobs → jobs.lists ≡ L → Derives flow targets L image d → AreReady flow targets jobs.lists image jobs
ready_as flow targets image jobs d L is lists h = subst (λ (l : Listings). AreReady flow targets l image jobs) (sym lists) (subst (Derives flow targets L image) is h)

pub round_as : (read : List ℕ → Option Record) (flow : Flow) (settings : Settings) (image : Image) (r : Result Round Fault) (jobs : Jobs) (L : Listings) → jobs.lists ≡ L → HasRound read flow settings image jobs.lists r → HasRound read flow settings image L r
round_as read flow settings image r jobs L lists h = subst (λ (l : Listings). HasRound read flow settings image l r) lists h
