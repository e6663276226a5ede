-- Kinds of faults, as a preview and as the call have them; and plans that can be made.
use Rattle.std.proofs.Common.{◌≡◌, refl, subst, Result, Ok, Err}
use Rattle.std.specs.Prelude.{IfOk}
use Rattle.smk_flow.specs.Flows.{Flow}
use Rattle.smk_pick.specs.declared.settings.Settings.{Settings}
use Rattle.smk_report.specs.declared.fault.Fault.{Fault}
use Rattle.smk_cli_entry.specs.Faults as call
use Rattle.smk_make.specs.Making.{IsFit}
use Rattle.smk_plan_preview.specs.declared.previewing.Previewed.{Previewed}
use Rattle.smk_plan_preview.specs.Faults as preview
use Rattle.smk_plan_preview.specs.Steps.{IsGood}

pub device_same : {T : Type 0} (r : Result T Fault) → preview.device_failed r ≡ call.device_failed r
device_same (Ok t) = refl
device_same (Err f) = refl

-- what is planned can be made
pub fit_by : (flow : Flow) (given settings : Settings) (r : Result Previewed Fault) → given ≡ settings → IfOk r (λ p. IsGood flow given p.jobs p.plan) → IfOk r (λ p. IsFit flow settings.cores p.jobs p.plan.states)
fit_by flow given settings (Ok p) same h =
    let good = subst (λ s. IsGood flow s p.jobs p.plan) same h in
    record { runnable = good.fit.runnable; lower = good.fit.lower; befores = good.fit.befores; states = good.lengths.states; commands = good.commands }
fit_by flow given settings (Err f) same h = tt
