-- What is derived, as an answer of a preview.
use Rattle.std.proofs.Common.{◌≡◌, true, false, List, [], refl, sym, ap, subst, ◌∙◌, Result, Ok, Err, true≢false}
use Rattle.std.specs.Prelude.{IfOk, IfErr}
use Rattle.smk_world.specs.Trees.{Path}
use Rattle.smk_flow.specs.Flows.{Flow}
use Rattle.smk_choose.specs.declared.sources.Sources.{Sources as Told}
use Rattle.smk_choose.specs.Told.{told_by}
use Rattle.smk_store.specs.Images.{Image}
use Rattle.smk_store.specs.Stores.{Known as Entry}
use Rattle.smk_store.specs.Loading.{IsStoreOf}
use Rattle.smk_chain.specs.declared.jobs.Jobs.{Jobs}
use Rattle.smk_chain.specs.declared.fault.ChainFault.{ChainFault}
use Rattle.smk_chain.specs.declared.fault.ChainFault.TheVariants as chain
use Rattle.smk_chain.specs.Derive.{Listings, jobs, job_refusals}
use Rattle.smk_chain.specs.Told.{TellsFirst}
use Rattle.smk_chain_derive.specs.Clashes.{ListsKnown}
use Rattle.smk_chain_walk.specs.Links.{AreLinked}
use Rattle.smk_plan_facts.specs.Facts.{NamesAll}
use Rattle.smk_plan.specs.Runnable.{AreRunnable}
use Rattle.smk_report.specs.declared.fault.Fault.{Fault}
use Rattle.smk_report.specs.declared.fault.Fault.TheVariants as fault
use Rattle.smk_plan_preview.specs.Faults.{is_told, is_device, is_sink, device_failed, as_call, of_chain}
use Rattle.smk_plan_preview.specs.Fitness.{AreFit}
use Rattle.smk_plan_preview.specs.Rounds.{IsSighted, Derives}
use Rattle.smk_plan_preview.proofs.Derivations.{chain_refused}
use Rattle.smk_plan_preview.proofs.Agreed.{ready_of, befores_each}

quiet_fault : (e : ChainFault) → is_device (of_chain e) ≡ false
quiet_fault (chain.NoRule p) = refl
quiet_fault (chain.NoInput p rule wanted) = refl
quiet_fault (chain.Ambiguous p a b) = refl
quiet_fault (chain.Deep p) = refl
quiet_fault (chain.Clash p other) = refl
quiet_fault (chain.MissingMember p) = refl
quiet_fault (chain.NoCommand rule) = refl
quiet_fault chain.OutOfMemory = refl

pub chain_quiet : (d : Result Jobs ChainFault) (s : Result Jobs Fault) → s ≡ as_call of_chain d → device_failed s ≡ false
chain_quiet (Ok m) s is = ap device_failed is
chain_quiet (Err e) s is = ap device_failed is ∙ quiet_fault e

ok_as : (d : Result Jobs ChainFault) (s : Result Jobs Fault) (P : Jobs → Type 0) → s ≡ as_call of_chain d → IfOk d P → IfOk s P
ok_as (Ok m) s P is h = subst (λ (v : Result Jobs Fault). IfOk v P) (sym is) h
ok_as (Err e) s P is h = subst (λ (v : Result Jobs Fault). IfOk v P) (sym is) h

pub chain_lists : (L : Listings) (d : Result Jobs ChainFault) (s : Result Jobs Fault) → s ≡ as_call of_chain d → IfOk d (λ m. m.lists ≡ L) → IfOk s (λ m. m.lists ≡ L)
chain_lists L d s is h = ok_as d s (λ (m : Jobs). m.lists ≡ L) is h

pub chain_fit : (flow : Flow) (targets : List Path) (L : Listings) (sources : Told) (d : Result Jobs ChainFault) (s : Result Jobs Fault) → s ≡ as_call of_chain d → IfOk d AreRunnable
    → IfOk d (λ m. m.jobs ≡ jobs flow (told_by sources) L targets) → IfOk d (AreLinked flow (told_by sources) L targets) → IfOk s AreFit
chain_fit flow targets L sources (Ok m) s is runnable are links =
    subst (λ (v : Result Jobs Fault). IfOk v AreFit) (sym is) (record { runnable = runnable; lower = links.lower; befores = befores_each flow (told_by sources) L targets m are links })
chain_fit flow targets L sources (Err e) s is runnable are links = subst (λ (v : Result Jobs Fault). IfOk v AreFit) (sym is) tt

pub chain_told : (flow : Flow) (targets : List Path) (L : Listings) (sources : Told) (store : List Entry) (d : Result Jobs ChainFault) (s : Result Jobs Fault) → s ≡ as_call of_chain d
    → IfOk d (λ m. (image : Image) → IsStoreOf image store → ListsKnown image → job_refusals flow (told_by sources) image L targets ≡ [])
    → IfOk d (λ m. m.jobs ≡ jobs flow (told_by sources) L targets) → IfOk d (AreLinked flow (told_by sources) L targets)
    → IfErr d (λ e. (image : Image) → IsStoreOf image store → ListsKnown image → TellsFirst flow (job_refusals flow (told_by sources) image L targets) e)
    → (image : Image) → NamesAll image → IsStoreOf image store → ListsKnown image → IsSighted flow targets L image sources → Derives flow targets L image s
chain_told flow targets L sources store (Ok m) s is none are links tells image names st listed sighted =
    subst (λ (v : Result Jobs Fault). Derives flow targets L image v) (sym is) (ready_of flow targets L image sources m sighted (none image st listed) are links names listed)
chain_told flow targets L sources store (Err e) s is none are links tells image names st listed sighted =
    subst (λ (v : Result Jobs Fault). Derives flow targets L image v) (sym is) (λ told. chain_refused flow targets L image sources e sighted (tells image st listed) told)

-- ## With a copy of the listings

pub lists_as : (s : Result Jobs Fault) (copy L : Listings) → copy ≡ L → IfOk s (λ m. m.lists ≡ copy) → IfOk s (λ m. m.lists ≡ L)
lists_as s copy L same h = subst (λ (l : Listings). IfOk s (λ (m : Jobs). m.lists ≡ l)) same h

pub derives_as : (flow : Flow) (targets : List Path) (sources : Told) (image : Image) (s : Result Jobs Fault) (copy L : Listings) → copy ≡ L → IsSighted flow targets L image sources
    → (IsSighted flow targets copy image sources → Derives flow targets copy image s) → Derives flow targets L image s
derives_as flow targets sources image s copy L same sighted h =
    subst (λ (l : Listings). Derives flow targets l image s) same (h (subst (λ (l : Listings). IsSighted flow targets l image sources) (sym same) sighted))

pub memory_quiet : (f : Fault) → f ≡ fault.OutOfMemory → is_device f ≡ false
memory_quiet f is = ap is_device is

pub memory_sink : (f : Fault) → f ≡ fault.OutOfMemory → is_sink f ≡ false
memory_sink f is = ap is_sink is

pub memory_untold : (f : Fault) (P : Type 0) → f ≡ fault.OutOfMemory → is_told f ≡ true → P
memory_untold f P is told = absurd (true≢false (sym told ∙ ap is_told is))
