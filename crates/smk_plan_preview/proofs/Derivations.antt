-- What is told of sources, and what is derived by it.
use Rattle.std.proofs.Common.{◌≡◌, ◌<◌, ℕ, true, List, [], ◌∷◌, ◌++◌, length, refl, sym, ap, subst, ◌∙◌, Option, Some, Result, Ok, Err, true≢false}
use Rattle.std.specs.Prelude.{IfOk, IfErr}
use Rattle.std.proofs.lemmas.Bool.{le-ltb, lt-ltb}
use Rattle.std.proofs.lemmas.Option.{same_Some, none-some}
use Rattle.smk_world.specs.World.{World}
use Rattle.smk_world.specs.Devices.{Device, WhereTold}
use Rattle.smk_world.specs.Trees.{Path}
use Rattle.smk_flow.specs.declared.job.Job.{Job}
use Rattle.smk_flow.specs.Flows.{Flow}
use Rattle.smk_choose.specs.declared.sources.Sources.{Sources as Told}
use Rattle.smk_choose.specs.Told.{told_by}
use Rattle.smk_record.specs.declared.record.Record.{Record}
use Rattle.smk_store.specs.Images.{Image, seen}
use Rattle.smk_store.specs.Stores.{Known as Entry}
use Rattle.smk_store.specs.Loading.{IsStoreOf}
use Rattle.smk_store.specs.Unowned.{NoneOwned}
use Rattle.smk_chain.specs.declared.fault.ChainFault.{ChainFault}
use Rattle.smk_chain.specs.declared.fault.SightFault.{SightFault}
use Rattle.smk_chain.specs.declared.fault.SightFault.TheVariants as sight
use Rattle.smk_chain.specs.Derive.{Listings, Refusal, TooManyPaths, Deep, NoRule, NoInput, TwoJobs, MissingMember, NoCommand, Clash, Derived, Refused, sources_of, jobs, job_refusals, refused_if, outcome, derivation, reach}
use Rattle.smk_chain.specs.Told.{first_told, told_refusal, TellsFirst}
use Rattle.smk_chain_sight.specs.Sight.{IsSmall, IsLarge, Suffices}
use Rattle.smk_chain_sight.specs.Disk.{IsOwnedCovered}
use Rattle.smk_report.specs.declared.fault.Fault.{Fault}
use Rattle.smk_drive.specs.Refusals.{IsFault}
use Rattle.smk_plan_preview.specs.Faults.{is_told, as_call, of_sight, of_chain}
use Rattle.smk_plan_preview.specs.Rounds.{HasTooMany, IsSighted, Sights, IsRefusedFirst}

-- where no child owns a place, what it owns is covered
none_covered : (w : World) (store : List Entry) → NoneOwned w → IsOwnedCovered w store
none_covered w store none = λ q path owned. absurd (none q owned)

-- ## Sources

-- of the world in which the look was, with the store of its image
abbrev pub Where : Device → List Entry → (Image → Type 0) → Type 0
Where d store P = WhereTold d (λ w. IsOwnedCovered w store → (read : List ℕ → Option Record) → IsStoreOf (seen read w) store → P (seen read w))

pub sights : (flow : Flow) (targets : List Path) (L : Listings) (d : Device) (store : List Entry) (r : Result Told SightFault) (s : Result Told Fault) → s ≡ as_call of_sight r
    → IfOk r (λ sources. Where d store (λ image. Suffices flow (sources_of image) L targets (told_by sources)))
    → IfErr r (λ f. (count : ℕ) → f ≡ sight.TooManyPaths count → (100000 < count) × Where d store (λ image. IsLarge flow (sources_of image) L targets))
    → (w : World) → d.world ≡ Some w → NoneOwned w → (read : List ℕ → Option Record) → IsStoreOf (seen read w) store → Sights flow targets L (seen read w) s
sights flow targets L d store (Ok sources) s is told many w at none read st =
    let t = told w at (none_covered w store none) read st in
    subst (λ v. Sights flow targets L (seen read w) v) (sym is) (record { few = t.few; reached = t.same; same = t.same_derivation (seen read w) })
sights flow targets L d store (Err (sight.TooManyPaths n)) s is told many w at none read st =
    let m = many n refl in
    subst (λ v. Sights flow targets L (seen read w) v) (sym is) (λ h. record { count = n; is = refl; found = m.0; many = m.1 w at (none_covered w store none) read st })
sights flow targets L d store (Err sight.Device) s is told many w at none read st = subst (λ v. Sights flow targets L (seen read w) v) (sym is) (λ h. absurd (true≢false (sym h)))
sights flow targets L d store (Err sight.OutOfMemory) s is told many w at none read st = subst (λ v. Sights flow targets L (seen read w) v) (sym is) (λ h. absurd (true≢false (sym h)))

-- ## Refusals

fault_told : (flow : Flow) (r : Refusal) (e : ChainFault) → told_refusal flow r ≡ Some e → IsFault flow r (of_chain e)
fault_told flow TooManyPaths e h = absurd (none-some e h)
fault_told flow (Deep p) e h = ap of_chain (sym (same_Some _ e h))
fault_told flow (NoRule p) e h = ap of_chain (sym (same_Some _ e h))
fault_told flow (NoInput p rule wanted) e h = ap of_chain (sym (same_Some _ e h))
fault_told flow (TwoJobs p a b) e h = ap of_chain (sym (same_Some _ e h))
fault_told flow (MissingMember p) e h = ap of_chain (sym (same_Some _ e h))
fault_told flow (NoCommand rule) e h = ap of_chain (sym (same_Some _ e h))
fault_told flow (Clash p other) e h = ap of_chain (sym (same_Some _ e h))

-- where this is told first, the derivation is refused with it
first_refused : (flow : Flow) (rs : List Refusal) (js : List Job) (e : ChainFault) → first_told flow rs ≡ Some e → (r : Refusal) × (outcome rs js ≡ Refused r) × IsFault flow r (of_chain e)
first_refused flow [] js e h = absurd (none-some e h)
first_refused flow (r ∷ rs) js e h = (r, refl, fault_told flow r e h)

-- where there aren't too many paths, the derivation is that of the jobs
pub small_derivation : (flow : Flow) (image : Image) (L : Listings) (targets : List Path) → IsSmall flow (sources_of image) L targets
    → derivation flow image L targets ≡ outcome (job_refusals flow (sources_of image) image L targets) (jobs flow (sources_of image) L targets)
small_derivation flow image L targets few =
    ap (λ b. outcome (refused_if b TooManyPaths ++ job_refusals flow (sources_of image) image L targets) (jobs flow (sources_of image) L targets))
    (le-ltb 100000 (length (reach flow (sources_of image) L 400 targets)) few.less)

large_derivation : (flow : Flow) (image : Image) (L : Listings) (targets : List Path) → IsLarge flow (sources_of image) L targets → derivation flow image L targets ≡ Refused TooManyPaths
large_derivation flow image L targets many =
    ap (λ b. outcome (refused_if b TooManyPaths ++ job_refusals flow (sources_of image) image L targets) (jobs flow (sources_of image) L targets))
    (lt-ltb 100000 (length (reach flow (sources_of image) L 400 targets)) many.more)

pub many_refused : (flow : Flow) (targets : List Path) (L : Listings) (image : Image) (f : Fault) → HasTooMany flow targets L image f → IsRefusedFirst flow targets L image f
many_refused flow targets L image f h = record { refusal = TooManyPaths; first = large_derivation flow image L targets h.many; is = (h.count, h.found, h.is) }

pub chain_refused : (flow : Flow) (targets : List Path) (L : Listings) (image : Image) (sources : Told) (e : ChainFault) → IsSighted flow targets L image sources
    → TellsFirst flow (job_refusals flow (told_by sources) image L targets) e → is_told (of_chain e) ≡ true → IsRefusedFirst flow targets L image (of_chain e)
chain_refused flow targets L image sources e sighted tells told =
    let r = first_refused flow (job_refusals flow (told_by sources) image L targets) (jobs flow (told_by sources) L targets) e
    (tells (λ memory. true≢false (sym told ∙ ap (λ (x : ChainFault). is_told (of_chain x)) memory))) in
    record { refusal = r.0; first = small_derivation flow image L targets sighted.few ∙ sym sighted.same ∙ r.1; is = r.2 }

pub chain_derived : (flow : Flow) (targets : List Path) (L : Listings) (image : Image) (sources : Told) (js : List Job) → IsSighted flow targets L image sources
    → job_refusals flow (told_by sources) image L targets ≡ [] → js ≡ jobs flow (told_by sources) L targets → derivation flow image L targets ≡ Derived js
chain_derived flow targets L image sources js sighted none are =
    small_derivation flow image L targets sighted.few ∙ sym sighted.same
    ∙ ap (λ rs. outcome rs (jobs flow (told_by sources) L targets)) none ∙ ap Derived (sym are)
