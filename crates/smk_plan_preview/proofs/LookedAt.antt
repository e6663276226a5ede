-- Looks, by answers of the parts and of a preview.
use Rattle.std.proofs.Common.{◌≡◌, ◌≢◌, ℕ, Bool, true, false, List, [], ◌∷◌, map, refl, sym, ap, ap₂, subst, ◌∙◌, Option, Some, None, Result, Ok, Err, true≢false}
use Rattle.std.specs.Prelude.{IsSome, is_some, IsErrAnd, IfOk, IfErr}
use Rattle.std.proofs.lemmas.Option.{same_Some}
use Rattle.smk_world.specs.declared.event.Call.{Call}
use Rattle.smk_world.specs.declared.event.Call.TheVariants.{Looked, ReadFile, ReadFolder, Written, Created, Removed, MadeParents, Settled, Protected, Started, Waited}
use Rattle.smk_world.specs.declared.event.Change.{Change}
use Rattle.smk_world.specs.declared.event.Event.{Event}
use Rattle.smk_world.specs.declared.event.NodeState.{NodeState}
use Rattle.smk_world.specs.declared.event.NodeState.TheVariants.{Owned}
use Rattle.smk_world.specs.World.{World, after, run, names_after, add_names, reading}
use Rattle.smk_world.specs.Calls.{Lets}
use Rattle.smk_world.specs.Devices.{Device, WhereTold, HasLooked, is_look, AreLooks}
use Rattle.smk_world.specs.Runs.{Follows}
use Rattle.smk_world.specs.Trees.{Path, Act}
use Rattle.smk_world.proofs.Devices.{looks_nodes}
use Rattle.smk_record.specs.declared.record.Record.{Record}
use Rattle.smk_store.specs.declared.fault.StoreFault.{StoreFault}
use Rattle.smk_store.specs.declared.fault.StoreFault.TheVariants as store
use Rattle.smk_store.specs.Images.{seen, image_by}
use Rattle.smk_store.specs.Faults.{store_failed}
use Rattle.smk_store.specs.Loading.{store_folder, IsStoreOf}
use Rattle.smk_store.specs.Unowned.{IsUnownedUnder, NoneOwned}
use Rattle.smk_store.specs.Stores.{Known}
use Rattle.smk_record.specs.Spelling.{ReadsRecords}
use Rattle.smk_chain.specs.declared.jobs.Jobs.{Jobs}
use Rattle.smk_chain.specs.declared.fault.SightFault.{SightFault}
use Rattle.smk_chain.specs.declared.fault.SightFault.TheVariants as sight
use Rattle.smk_chain_sight.specs.Sight.{sight_failed}
use Rattle.smk_report.specs.declared.fault.Fault.{Fault}
use Rattle.smk_report.specs.declared.fault.Fault.TheVariants as fault
use Rattle.smk_plan.specs.declared.fault.LookFault.{LookFault}
use Rattle.smk_plan.specs.declared.fault.LookFault.TheVariants as look
use Rattle.smk_plan.specs.declared.seen.Sight.{Sight}
use Rattle.smk_plan.specs.Sights.{IsSeenOf}
use Rattle.smk_plan.specs.Summed.{AreSummed}
use Rattle.smk_plan_look.specs.Seeing.{look_failed, AreSeenUnowned, AreSummedUnowned}
use Rattle.smk_plan_look.proofs.Images.{seen_of, summed_of}
use Rattle.smk_plan_facts.specs.Facts.{TellSources}
use Rattle.smk_report.specs.Faults.{of_store}
use Rattle.smk_plan_preview.specs.Faults.{device_failed, is_told, is_device, is_sink, as_call, of_sight, of_look}

-- ## Answers

store_cases : {A : Type 0} (r : Result A StoreFault) → store_failed r ≡ device_failed (as_call of_store r)
store_cases (Ok a) = refl
store_cases (Err (store.StampSeen p)) = refl
store_cases (Err store.Device) = refl
store_cases (Err store.OutOfMemory) = refl

pub store_same : {A : Type 0} (r : Result A StoreFault) (s : Result A Fault) → s ≡ as_call of_store r → store_failed r ≡ device_failed s
store_same r s is = store_cases r ∙ sym (ap device_failed is)

sight_cases : {A : Type 0} (r : Result A SightFault) → sight_failed r ≡ device_failed (as_call of_sight r)
sight_cases (Ok a) = refl
sight_cases (Err (sight.TooManyPaths n)) = refl
sight_cases (Err sight.Device) = refl
sight_cases (Err sight.OutOfMemory) = refl

pub sight_same : {A : Type 0} (r : Result A SightFault) (s : Result A Fault) → s ≡ as_call of_sight r → sight_failed r ≡ device_failed s
sight_same r s is = sight_cases r ∙ sym (ap device_failed is)

look_cases : {A : Type 0} (r : Result A LookFault) → look_failed r ≡ device_failed (as_call of_look r)
look_cases (Ok a) = refl
look_cases (Err look.Device) = refl
look_cases (Err look.OutOfMemory) = refl

pub look_same : {A : Type 0} (r : Result A LookFault) (s : Result A Fault) → s ≡ as_call of_look r → look_failed r ≡ device_failed s
look_same r s is = look_cases r ∙ sym (ap device_failed is)

pub look_untold : {A : Type 0} (r : Result A LookFault) (s : Result A Fault) → s ≡ as_call of_look r → IfErr s (λ f. is_told f ≡ false)
look_untold (Ok a) s is = subst (λ v. IfErr v (λ f. is_told f ≡ false)) (sym is) tt
look_untold (Err look.Device) s is = subst (λ v. IfErr v (λ f. is_told f ≡ false)) (sym is) refl
look_untold (Err look.OutOfMemory) s is = subst (λ v. IfErr v (λ f. is_told f ≡ false)) (sym is) refl

pub store_untold : {A : Type 0} (r : Result A StoreFault) (s : Result A Fault) → s ≡ as_call of_store r → IfErr r (λ f. (p : List ℕ) → f ≡ store.StampSeen p → ⊥) → IfErr s (λ f. is_told f ≡ false)
store_untold (Ok a) s is h = subst (λ v. IfErr v (λ f. is_told f ≡ false)) (sym is) h
store_untold (Err (store.StampSeen p)) s is h = absurd (h p refl)
store_untold (Err store.Device) s is h = subst (λ v. IfErr v (λ f. is_told f ≡ false)) (sym is) refl
store_untold (Err store.OutOfMemory) s is h = subst (λ v. IfErr v (λ f. is_told f ≡ false)) (sym is) refl

-- ## What looks leave

empty_names : (left : List Change) (names : List Path) → left ≡ [] → add_names (map (λ (c : Change). c.place) left) names ≡ names
empty_names left names e = ap (λ (cs : List Change). add_names (map (λ (c : Change). c.place) cs) names) e

look_names : (act : Act) (w : World) (call : Call) (left : List Change) (names : List Path) → is_look call ≡ true → Lets act w call left → names_after call left names ≡ names
look_names act w (Looked p (Ok s)) left names h lets = empty_names left names lets.0
look_names act w (Looked p (Err e)) left names h lets = empty_names left names lets
look_names act w (ReadFile p limit (Ok f)) left names h lets = empty_names left names lets.0
look_names act w (ReadFile p limit (Err e)) left names h lets = empty_names left names lets
look_names act w (ReadFolder p (Ok l)) left names h lets = empty_names left names lets.0
look_names act w (ReadFolder p (Err e)) left names h lets = empty_names left names lets
look_names act w (Written p bytes r) left names h lets = absurd (true≢false (sym h))
look_names act w (Created p r) left names h lets = absurd (true≢false (sym h))
look_names act w (Removed p r) left names h lets = absurd (true≢false (sym h))
look_names act w (MadeParents p r) left names h lets = absurd (true≢false (sym h))
look_names act w (Settled ps r) left names h lets = absurd (true≢false (sym h))
look_names act w (Protected p r) left names h lets = absurd (true≢false (sym h))
look_names act w (Started recipe logs command r) left names h lets = absurd (true≢false (sym h))
look_names act w (Waited r) left names h lets = absurd (true≢false (sym h))

looks_names : (act : Act) (f : Bool) (w : World) (es : List Event) → Follows act w es → AreLooks f es → (run w es).names ≡ w.names
looks_names act f w [] follows h = refl
looks_names act f w (e ∷ []) follows h = look_names act w e.call e.left w.names h.0 follows.0.lets
looks_names act f w (e ∷ (g ∷ es)) follows h = looks_names act f (after w e) (g ∷ es) follows.1 h.2 ∙ look_names act w e.call e.left w.names h.0 follows.0.lets

pub some_of : {A : Type 0} (o : Option A) → IsSome o → (x : A) × (o ≡ Some x)
some_of None h = absurd (true≢false (sym h))
some_of (Some x) h = (x, refl)

-- nothing has come or gone
pub record IsSameFolder (w v : World) : Type 0 where
  pub nodes : v.nodes ≡ w.nodes
  pub names : v.names ≡ w.names

pub looks_leave : (act : Act) (f : Bool) (w : World) (es : List Event) → Follows act w es → AreLooks f es → IsSameFolder w (run w es)
looks_leave act f w es follows h = record { nodes = looks_nodes f w es h; names = looks_names act f w es follows h }

-- looks leave the folder as it is
pub moved : {act : Act} {a b : Device} {f : Bool} (w v : World) → HasLooked act a b f → a.world ≡ Some w → b.world ≡ Some v → IsSameFolder w v
moved {act} {f = f} w v looked at told =
    let d = looked.acted.did v told in
    let same : d.0 ≡ w = same_Some d.0 w (sym d.1 ∙ at) in
    let left = looks_leave act f d.0 d.2.0 d.2.1 d.2.2 in
    record {
      nodes = ap (λ (u : World). u.nodes) d.2.3 ∙ left.nodes ∙ ap (λ (u : World). u.nodes) same;
      names = ap (λ (u : World). u.names) d.2.3 ∙ left.names ∙ ap (λ (u : World). u.names) same;
    }

-- where none of them failed, it is told on
pub kept : {act : Act} {a b : Device} (w : World) → HasLooked act a b false → a.world ≡ Some w → (v : World) × (b.world ≡ Some v) × IsSameFolder w v
kept {b = b} w looked at =
    let v = some_of b.world (looked.acted.stays refl (ap is_some at)) in
    (v.0, v.1, moved w v.0 looked at v.1)

pub seen_moved : (read : List ℕ → Option Record) (w v : World) → IsSameFolder w v → seen read v ≡ seen read w
seen_moved read w v same = ap₂ (λ (names : List Path) (nodes : Path → NodeState). image_by read names (λ q. reading (nodes q))) same.names same.nodes

pub none_still : (w v : World) → v.nodes ≡ w.nodes → NoneOwned w → NoneOwned v
none_still w v same none = subst (λ (n : Path → NodeState). (q : Path) → n q ≢ Owned) (sym same) none

-- what is loaded is the store of the folder
pub store_told : (d : Device) (r : Result (List Known) StoreFault) (s : Result (List Known) Fault) → s ≡ as_call of_store r
    → IfOk r (λ store. WhereTold d (λ w. IsUnownedUnder w.nodes store_folder → (read : List ℕ → Option Record) → ReadsRecords read → IsStoreOf (seen read w) store))
    → IfOk s (λ store. WhereTold d (λ w. NoneOwned w → (read : List ℕ → Option Record) → ReadsRecords read → IsStoreOf (seen read w) store))
store_told d (Ok store) s is h =
    subst (λ (v : Result (List Known) Fault). IfOk v (λ store. WhereTold d (λ w. NoneOwned w → (read : List ℕ → Option Record) → ReadsRecords read → IsStoreOf (seen read w) store))) (sym is)
    (λ w at none read reads. h w at (λ q under. none q) read reads)
store_told d (Err f) s is h =
    subst (λ (v : Result (List Known) Fault). IfOk v (λ store. WhereTold d (λ w. NoneOwned w → (read : List ℕ → Option Record) → ReadsRecords read → IsStoreOf (seen read w) store))) (sym is) tt

-- ## The fault of a call is handed on

pub err_is : {A : Type 0} (s : Result A Fault) (x : Fault) → IsErrAnd s (λ y. y ≡ x) → s ≡ Err x
err_is (Ok a) x h = absurd h
err_is (Err y) x h = ap (λ (z : Fault). Err z) h

pub failed_on : {A B : Type 0} (r : Result A Fault) (s : Result B Fault) (x : Fault) → r ≡ Err x → IsErrAnd s (λ y. y ≡ x) → device_failed r ≡ device_failed s
failed_on r s x is h = ap device_failed is ∙ sym (ap device_failed (err_is s x h))

pub sink_as : {A B : Type 0} (r : Result A Fault) (s : Result B Fault) (x : Fault) → r ≡ Err x → IsErrAnd s (λ y. y ≡ x) → IfErr r (λ f. is_sink f ≡ false) → IfErr s (λ f. is_sink f ≡ false)
sink_as r s x is h sink = subst (λ v. IfErr v (λ f. is_sink f ≡ false)) (sym (err_is s x h)) (subst (λ v. IfErr v (λ f. is_sink f ≡ false)) is sink)

-- what stands at the outputs and the sources is seen
pub look_told : (d : Device) (jobs : Jobs) (r : Result (List Sight) LookFault) (s : Result (List Sight) Fault) → s ≡ as_call of_look r
    → IfOk r (λ sights. WhereTold d (λ w. (read : List ℕ → Option Record) → AreSeenUnowned w (seen read w) jobs sights))
    → IfOk s (λ sights. WhereTold d (λ w. NoneOwned w → (read : List ℕ → Option Record) → IsSeenOf (seen read w) jobs sights))
look_told d jobs (Ok sights) s is h =
    subst (λ v. IfOk v (λ sights. WhereTold d (λ w. NoneOwned w → (read : List ℕ → Option Record) → IsSeenOf (seen read w) jobs sights))) (sym is)
    (λ w at none read. seen_of w (seen read w) jobs sights none (h w at read))
look_told d jobs (Err f) s is h =
    subst (λ v. IfOk v (λ sights. WhereTold d (λ w. NoneOwned w → (read : List ℕ → Option Record) → IsSeenOf (seen read w) jobs sights))) (sym is) h

-- and the digests are told without which the records can't be judged
pub look_summed : (d : Device) (jobs : Jobs) (store : List Known) (r : Result (List Sight) LookFault) (s : Result (List Sight) Fault) → s ≡ as_call of_look r
    → IfOk r (λ sights. WhereTold d (λ w. (read : List ℕ → Option Record) → IsStoreOf (seen read w) store → AreSummedUnowned w (seen read w) jobs sights))
    → IfOk s (λ sights. WhereTold d (λ w. NoneOwned w → (read : List ℕ → Option Record) → IsStoreOf (seen read w) store → TellSources (seen read w) jobs → AreSummed (seen read w) jobs sights))
look_summed d jobs store (Ok sights) s is h =
    subst (λ v. IfOk v (λ sights. WhereTold d (λ w. NoneOwned w → (read : List ℕ → Option Record) → IsStoreOf (seen read w) store → TellSources (seen read w) jobs → AreSummed (seen read w) jobs sights))) (sym is)
    (λ w at none read stored told. summed_of w (seen read w) jobs sights none told (h w at read stored))
look_summed d jobs store (Err f) s is h =
    subst (λ v. IfOk v (λ sights. WhereTold d (λ w. NoneOwned w → (read : List ℕ → Option Record) → IsStoreOf (seen read w) store → TellSources (seen read w) jobs → AreSummed (seen read w) jobs sights))) (sym is) h

pub memory_quiet : {A B : Type 0} (r : Result A Fault) (s : Result B Fault) (x : Fault) → r ≡ Err x → IsErrAnd s (λ y. y ≡ x) → IfErr r (λ f. f ≡ fault.OutOfMemory) → device_failed s ≡ false
memory_quiet r s x is h memory = ap device_failed (err_is s x h) ∙ ap is_device (subst (λ v. IfErr v (λ f. f ≡ fault.OutOfMemory)) is memory)
