-- What a load tells.
use Rattle.std.proofs.Common.{◌≡◌, ◌≢◌, false, List, subst, ap, ℕ, Option, Some, Result, Ok, Err}
use Rattle.std.specs.Prelude.{IfOk, IfErr}
use Rattle.smk_world.specs.Devices.{Device, WhereTold, HasLooked}
use Rattle.smk_world.specs.Trees.{Path, Act}
use Rattle.smk_world.specs.World.{World}
use Rattle.smk_world.proofs.Devices.{looked_as}
use Rattle.smk_record.specs.declared.record.Record.{Record}
use Rattle.smk_record.specs.Reading.{record_in}
use Rattle.smk_record.specs.Spelling.{ReadsRecords}
use Rattle.smk_record.proofs.Exact.{reads_records}
use Rattle.smk_store.specs.declared.fault.StoreFault.{StoreFault}
use Rattle.smk_store.specs.declared.fault.StoreFault.TheVariants.{StampSeen}
use Rattle.smk_store.specs.Faults.{store_failed}
use Rattle.smk_store.specs.Images as images
use Rattle.smk_store.specs.Loading.{IsStoreOf, store_folder}
use Rattle.smk_store.specs.Stores.{Known}
use Rattle.smk_store.specs.Unowned.{IsUnownedUnder, NoneOwned}
use Rattle.smk_keep_forget.specs.Seen.{seen}

-- the store has what stands, where no child owns a place
abbrev pub Tells : Device → List Known → Type 0
Tells d ks = WhereTold d (λ w. IsUnownedUnder w.nodes store_folder → (read : List ℕ → Option Record) → ReadsRecords read → IsStoreOf (images.seen read w) ks)

pub loaded_now : (d : Device) (r : Result (List Known) StoreFault) (ks : List Known) → r ≡ Ok ks → IfOk r (Tells d) → (w : World) → d.world ≡ Some w → NoneOwned w → IsStoreOf (seen w) ks
loaded_now d r ks is h w at free =
    let told : Tells d ks = subst (λ x. IfOk x (Tells d)) is h in
    told w at (λ q inside. free q) record_in reads_records

pub loaded_quietly : (act : Act) (a b : Device) (r : Result (List Known) StoreFault) (ks : List Known) → r ≡ Ok ks → HasLooked act a b (store_failed r) → HasLooked act a b false
loaded_quietly act a b r ks is h = looked_as (ap store_failed is) h

pub not_loaded : (act : Act) (a b : Device) (r : Result (List Known) StoreFault) (f : StoreFault) → r ≡ Err f → HasLooked act a b (store_failed r) → HasLooked act a b (store_failed {T = List Known} (Err f))
not_loaded act a b r f is h = looked_as (ap store_failed is) h

pub never_stamp : (r : Result (List Known) StoreFault) (f : StoreFault) → r ≡ Err f → IfErr r (λ fault. (p : List ℕ) → fault ≢ StampSeen p) → (q : Path) → f ≡ StampSeen q → ⊥
never_stamp r f is h = subst (λ x. IfErr x (λ fault. (p : List ℕ) → fault ≢ StampSeen p)) is h
