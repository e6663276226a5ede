-- From the looks and reads at a job's inputs to their stamps with digests.
use Rattle.std.proofs.Common.{◌≡◌, ◌≢◌, ℕ, Bool, false, true, List, [], ◌∷◌, ◌++◌, length, refl, ap, sym, subst, ◌∙◌, inl, inr, Option, Some, None, Ok, Err}
use Rattle.std.specs.List.{AllZip}
use Rattle.smk_base.specs.declared.sum.Sum.{Sum as Digest}
use Rattle.smk_world.specs.declared.event.Event.{Event}
use Rattle.smk_world.specs.declared.event.NodeState.{NodeState}
use Rattle.smk_world.specs.declared.event.NodeState.TheVariants.{Owned}
use Rattle.smk_world.specs.World.{World, run, reading}
use Rattle.smk_world.specs.Calls.{failed}
use Rattle.smk_world.specs.Devices.{Device, WhereTold, HasActed, HasLooked, AreLooks, is_look}
use Rattle.smk_world.specs.Trees.{Path, Act}
use Rattle.smk_world.proofs.Devices.{acted_as, acted_then, looks_append, looks_nodes}
use Rattle.smk_record.specs.declared.record.Stamp.{Stamp}
use Rattle.smk_digest.specs.declared.fault.SumFault.{SumFault}
use Rattle.smk_digest.specs.declared.fault.SumFault.TheVariants as fault
use Rattle.smk_digest.specs.Digests.{AreSums, sum_in, sum_failed}
use Rattle.smk_job.proofs.Acts.{acted_in}
use Rattle.smk_run.specs.declared.stop.Stop.{Stop}
use Rattle.smk_run.specs.declared.stop.Stop.TheVariants.{TooLong, Gone, Device as DeviceStop, Output, OutOfMemory}
use Rattle.smk_run.specs.Stamps.{Serials, IsStamped, AreStamped, HasStamped, is_of_look}
use Rattle.smk_run.specs.Digesting.{HasInputs, HasReadPart, AreDigested, sources_among, sum_stop, summed}
use Rattle.smk_run.specs.Reports.{is_device_stop}
use Rattle.smk_run.proofs.Digested.{are_digested}
use Rattle.smk_run.proofs.Stamping.{all_part}

-- ## Looks

look_one : (m : Option ℕ) (p : Path) (s : Stamp) (es : List Event) → IsStamped m p s es → AreLooks false es
look_one (Some serial) p s es h = subst (AreLooks false) (sym h.1) refl
look_one None p s es (e, is, timed) = subst (AreLooks false) (sym is) (ap is_look timed.2, ap failed timed.2)

-- where all have their stamps, only looks were made
pub only_looks : (made : Serials) (ps : List Path) (ss : List Stamp) (es : List Event) → AreStamped made ps ss es → AreLooks false es
only_looks made [] [] es h = subst (AreLooks false) (sym h) refl
only_looks made [] (s ∷ ss) es h = absurd h
only_looks made (p ∷ ps) [] es h = absurd h
only_looks made (p ∷ ps) (s ∷ ss) es (first, more, is, one, rest) =
    subst (AreLooks false) (sym is) (looks_append false first more (look_one (made p) p s first one) (only_looks made ps ss more rest))

-- ## Digests

-- why there are no digests is what looks may end with
pub of_sums : (x : SumFault) (stop : Stop) → stop ≡ sum_stop x → is_of_look stop ≡ true
of_sums fault.Device stop same = ap is_of_look same
of_sums fault.OutOfMemory stop same = ap is_of_look same

-- sources were read, which have these digests
abbrev HasSums : List Path → List (Option Digest) → World → List Event → Type 0
HasSums sources sums w es = AreLooks false es × AreSums w sources sums

module _ (act : Act) (made : Serials) (ps : List Path) (seen : List Stamp) (a b : Device) where
  -- no stamps were found
  pub unlooked : (stop : Stop) → HasActed act (HasStamped made ps (Err stop)) a b (is_device_stop stop) → HasActed act (HasInputs made ps (Err stop)) a b (is_device_stop stop)
  unlooked stop h = acted_as act (HasStamped made ps (Err stop)) (HasInputs made ps (Err stop)) a b (is_device_stop stop) (is_device_stop stop) refl (λ w es f. by stop w es f) h
    where
      by : (stop : Stop) (w : World) (es : List Event) → HasStamped made ps (Err stop) w es → HasInputs made ps (Err stop) w es
      by (TooLong n) w es f = inl f
      by (Gone p) w es f = f
      by DeviceStop w es f = inl f
      by Output w es f = inl f
      by OutOfMemory w es f = inl f

  -- there is no memory for the sources
  pub unlisted : HasActed act (HasStamped made ps (Ok seen)) a b false → HasActed act (HasInputs made ps (Err OutOfMemory)) a b false
  unlisted h = acted_as act (HasStamped made ps (Ok seen)) (HasInputs made ps (Err OutOfMemory)) a b false false refl (λ w es f. inl (all_part made ps seen es f)) h

  -- looks, and then reads, of which the last one may have failed
  part_read : (c : Device) (f : Bool) → HasActed act (HasStamped made ps (Ok seen)) a b false → HasLooked act b c f → HasActed act (λ w es. HasReadPart made ps es) a c f
  part_read c f h k =
      acted_then act (HasStamped made ps (Ok seen)) (λ w es. AreLooks f es) (λ w es. HasReadPart made ps es) a b c f
      (λ w es fs follows stamped follows2 only. record { looks = es; reads = fs; events = refl; seen = seen; stamped = stamped; failure = f; only_read = only }) h k.acted

  -- there are no digests
  pub unsummed : (c : Device) (x : SumFault) (stop : Stop) → stop ≡ sum_stop x → HasActed act (HasStamped made ps (Ok seen)) a b false → HasLooked act b c (sum_failed {T = List (Option Digest)} (Err x))
      → HasActed act (HasInputs made ps (Err stop)) a c (is_device_stop stop)
  unsummed c x stop same h k = subst (λ s. HasActed act (HasInputs made ps (Err s)) a c (is_device_stop s)) (sym same) (by x k)
    where
      by : (x : SumFault) → HasLooked act b c (sum_failed {T = List (Option Digest)} (Err x)) → HasActed act (HasInputs made ps (Err (sum_stop x))) a c (is_device_stop (sum_stop x))
      by fault.Device g = acted_as act (λ w es. HasReadPart made ps es) (HasInputs made ps (Err DeviceStop)) a c true true refl (λ w es part. inr part) (part_read c true h g)
      by fault.OutOfMemory g = acted_as act (λ w es. HasReadPart made ps es) (HasInputs made ps (Err OutOfMemory)) a c false false refl (λ w es part. inr part) (part_read c false h g)

  -- there is no memory for the stamps
  pub unmade : (c : Device) → HasActed act (HasStamped made ps (Ok seen)) a b false → HasLooked act b c false → HasActed act (HasInputs made ps (Err OutOfMemory)) a c false
  unmade c h k = acted_as act (λ w es. HasReadPart made ps es) (HasInputs made ps (Err OutOfMemory)) a c false false refl (λ w es part. inr part) (part_read c false h k)

  -- the stamps with the digests
  pub inputs_ready : (c : Device) (sources : List Path) (sums : List (Option Digest)) (stamps : List Stamp) → sources ≡ sources_among made ps → length seen ≡ length ps → stamps ≡ summed made ps seen sums
      → HasActed act (HasStamped made ps (Ok seen)) a b false → HasLooked act b c false → WhereTold b (λ w. AreSums w sources sums) → HasActed act (HasInputs made ps (Ok stamps)) a c false
  inputs_ready c sources sums stamps among len are h k told =
      acted_then act (HasStamped made ps (Ok seen)) (HasSums sources sums) (HasInputs made ps (Ok stamps)) a b c false
      (λ w es fs follows stamped follows2 read.
      let same : (run w es).nodes ≡ w.nodes = looks_nodes false w es (only_looks made ps seen es stamped) in
      let so : AreSums w (sources_among made ps) sums
      = subst (λ (ns : Path → NodeState). AllZip (λ (p : Path) (s : Option Digest). ns p ≢ Owned → s ≡ sum_in (reading (ns p))) (sources_among made ps) sums) same
      (subst (λ qs. AreSums (run w es) qs sums) among read.1) in
      record {
        looks = es;
        reads = fs;
        events = refl;
        seen = seen;
        stamped = stamped;
        only_read = read.0;
        digested = subst (AreDigested w made ps seen) (sym are) (are_digested w made ps seen sums len so);
      })
      h
      (acted_in act (λ w es. AreLooks false es) (HasSums sources sums) b c false false refl (λ w es at only. (only, told w at)) k.acted)
