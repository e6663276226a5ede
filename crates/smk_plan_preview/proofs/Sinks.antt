-- No fault of a part that only looks is one of a sink.
use Rattle.std.proofs.Common.{◌≡◌, false, refl, ap, ◌∙◌}
use Rattle.smk_store.specs.declared.fault.StoreFault.{StoreFault}
use Rattle.smk_store.specs.declared.fault.StoreFault.TheVariants as store
use Rattle.smk_chain.specs.declared.fault.ChainFault.{ChainFault}
use Rattle.smk_chain.specs.declared.fault.ChainFault.TheVariants as chain
use Rattle.smk_chain.specs.declared.fault.SightFault.{SightFault}
use Rattle.smk_chain.specs.declared.fault.SightFault.TheVariants as sight
use Rattle.smk_plan.specs.declared.fault.LookFault.{LookFault}
use Rattle.smk_plan.specs.declared.fault.LookFault.TheVariants as look
use Rattle.smk_report.specs.declared.fault.Fault.{Fault}
use Rattle.smk_report.specs.Faults.{of_store}
use Rattle.smk_plan_preview.specs.Faults.{is_sink, of_sight, of_look, of_chain}

of_store_no_sink : (f : StoreFault) → is_sink (of_store f) ≡ false
of_store_no_sink (store.StampSeen p) = refl
of_store_no_sink store.Device = refl
of_store_no_sink store.OutOfMemory = refl

of_sight_no_sink : (f : SightFault) → is_sink (of_sight f) ≡ false
of_sight_no_sink (sight.TooManyPaths n) = refl
of_sight_no_sink sight.Device = refl
of_sight_no_sink sight.OutOfMemory = refl

of_look_no_sink : (f : LookFault) → is_sink (of_look f) ≡ false
of_look_no_sink look.Device = refl
of_look_no_sink look.OutOfMemory = refl

of_chain_no_sink : (f : ChainFault) → is_sink (of_chain f) ≡ false
of_chain_no_sink (chain.NoRule p) = refl
of_chain_no_sink (chain.NoInput p rule wanted) = refl
of_chain_no_sink (chain.Ambiguous p a b) = refl
of_chain_no_sink (chain.Deep p) = refl
of_chain_no_sink (chain.Clash p other) = refl
of_chain_no_sink (chain.MissingMember p) = refl
of_chain_no_sink (chain.NoCommand rule) = refl
of_chain_no_sink chain.OutOfMemory = refl

pub store_no_sink : (f : StoreFault) (g : Fault) → g ≡ of_store f → is_sink g ≡ false
store_no_sink f g is = ap is_sink is ∙ of_store_no_sink f

pub sight_no_sink : (f : SightFault) (g : Fault) → g ≡ of_sight f → is_sink g ≡ false
sight_no_sink f g is = ap is_sink is ∙ of_sight_no_sink f

pub look_no_sink : (f : LookFault) (g : Fault) → g ≡ of_look f → is_sink g ≡ false
look_no_sink f g is = ap is_sink is ∙ of_look_no_sink f

pub chain_no_sink : (f : ChainFault) (g : Fault) → g ≡ of_chain f → is_sink g ≡ false
chain_no_sink f g is = ap is_sink is ∙ of_chain_no_sink f
