-- What the parts tell beside children that run.
use Rattle.std.proofs.Common.{◌≡◌, ◌<◌, ℕ, true, List, refl, sym, subst, Option, Some, Result, Ok, Err, true≢false}
use Rattle.std.specs.Prelude.{IfErr, IfOk}
use Rattle.smk_world.specs.World.{World}
use Rattle.smk_world.specs.Devices.{Device, WhereTold}
use Rattle.smk_world.specs.Trees.{Path}
use Rattle.smk_record.specs.declared.record.Record.{Record}
use Rattle.smk_record.specs.Spelling.{ReadsRecords}
use Rattle.smk_flow.specs.Flows.{Flow}
use Rattle.smk_choose.specs.declared.sources.Sources.{Sources as Told}
use Rattle.smk_choose.specs.Told.{told_by}
use Rattle.smk_store.specs.declared.fault.StoreFault.{StoreFault}
use Rattle.smk_store.specs.Images.{Image, seen}
use Rattle.smk_store.specs.Loading.{IsStoreOf, store_folder}
use Rattle.smk_store.specs.Stores.{Known}
use Rattle.smk_store.specs.Unowned.{IsUnownedUnder}
use Rattle.smk_chain.specs.declared.fault.SightFault.{SightFault}
use Rattle.smk_chain.specs.declared.fault.SightFault.TheVariants as sight
use Rattle.smk_chain.specs.declared.jobs.Jobs.{Jobs}
use Rattle.smk_chain.specs.Derive.{Listings, sources_of}
use Rattle.smk_chain_sight.specs.Disk.{IsOwnedCovered}
use Rattle.smk_chain_sight.specs.Sight.{IsLarge, Suffices}
use Rattle.smk_plan.specs.declared.fault.LookFault.{LookFault}
use Rattle.smk_plan.specs.declared.seen.Sight.{Sight}
use Rattle.smk_plan_look.specs.Seeing.{AreSeenUnowned, AreSummedUnowned}
use Rattle.smk_report.specs.declared.fault.Fault.{Fault}
use Rattle.smk_report.specs.Faults.{of_store}
use Rattle.smk_plan_preview.specs.Faults.{as_call, of_look, of_sight}
use Rattle.smk_plan_preview.specs.Rounds.{Sights}

-- ## The store

abbrev IsLoaded : Device → List Known → Type 0
IsLoaded d store = WhereTold d (λ w. IsUnownedUnder w.nodes store_folder → (read : List ℕ → Option Record) → ReadsRecords read → IsStoreOf (seen read w) store)

pub store_told : (d : Device) (r : Result (List Known) StoreFault) (s : Result (List Known) Fault) → s ≡ as_call of_store r → IfOk r (IsLoaded d) → IfOk s (IsLoaded d)
store_told d (Ok store) s is h = subst (λ (v : Result (List Known) Fault). IfOk v (IsLoaded d)) (sym is) h
store_told d (Err f) s is h = subst (λ (v : Result (List Known) Fault). IfOk v (IsLoaded d)) (sym is) tt

-- ## Sources

-- of the world in which the look was, with the store of its image
abbrev Where : Device → List Known → (Image → Type 0) → Type 0
Where d store P = WhereTold d (λ w. IsOwnedCovered w store → (read : List ℕ → Option Record) → IsStoreOf (seen read w) store → P (seen read w))

pub sight_told :
    (flow : Flow) (targets : List Path) (L : Listings) (d : Device) (store : List Known) (r : Result Told SightFault) (s : Result Told Fault) →
    s ≡ as_call of_sight r →
    IfOk r (λ sources. Where d store (λ image. Suffices flow (sources_of image) L targets (told_by sources))) →
    IfErr r (λ f. (count : ℕ) → f ≡ sight.TooManyPaths count → (100000 < count) × Where d store (λ image. IsLarge flow (sources_of image) L targets)) →
    (w : World) → d.world ≡ Some w → IsOwnedCovered w store →
    (read : List ℕ → Option Record) → IsStoreOf (seen read w) store → Sights flow targets L (seen read w) s
sight_told flow targets L d store (Ok sources) s is told many w at covered read st =
    let t = told w at covered read st in
    subst (λ v. Sights flow targets L (seen read w) v) (sym is) (record { few = t.few; reached = t.same; same = t.same_derivation (seen read w) })
sight_told flow targets L d store (Err (sight.TooManyPaths n)) s is told many w at covered read st =
    let m = many n refl in
    subst (λ v. Sights flow targets L (seen read w) v) (sym is) (λ h. record { count = n; is = refl; found = m.0; many = m.1 w at covered read st })
sight_told flow targets L d store (Err sight.Device) s is told many w at covered read st =
    subst (λ v. Sights flow targets L (seen read w) v) (sym is) (λ h. absurd (true≢false (sym h)))
sight_told flow targets L d store (Err sight.OutOfMemory) s is told many w at covered read st =
    subst (λ v. Sights flow targets L (seen read w) v) (sym is) (λ h. absurd (true≢false (sym h)))

-- ## Outputs and sources

abbrev AreSeen : Device → Jobs → List Sight → Type 0
AreSeen d jobs sights = WhereTold d (λ w. (read : List ℕ → Option Record) → AreSeenUnowned w (seen read w) jobs sights)

pub look_told :
    (d : Device) (jobs : Jobs) (r : Result (List Sight) LookFault) (s : Result (List Sight) Fault) → s ≡ as_call of_look r → IfOk r (AreSeen d jobs) → IfOk s (AreSeen d jobs)
look_told d jobs (Ok sights) s is h = subst (λ (v : Result (List Sight) Fault). IfOk v (AreSeen d jobs)) (sym is) h
look_told d jobs (Err f) s is h = subst (λ (v : Result (List Sight) Fault). IfOk v (AreSeen d jobs)) (sym is) tt

abbrev AreSummedBy : Device → Jobs → List Known → List Sight → Type 0
AreSummedBy d jobs store sights = WhereTold d (λ w. (read : List ℕ → Option Record) → IsStoreOf (seen read w) store → AreSummedUnowned w (seen read w) jobs sights)

pub look_summed :
    (d : Device) (jobs : Jobs) (store : List Known) (r : Result (List Sight) LookFault) (s : Result (List Sight) Fault) →
    s ≡ as_call of_look r → IfOk r (AreSummedBy d jobs store) → IfOk s (AreSummedBy d jobs store)
look_summed d jobs store (Ok sights) s is h = subst (λ (v : Result (List Sight) Fault). IfOk v (AreSummedBy d jobs store)) (sym is) h
look_summed d jobs store (Err f) s is h = subst (λ (v : Result (List Sight) Fault). IfOk v (AreSummedBy d jobs store)) (sym is) tt
