-- A job with directories among its outputs is kept or abandoned by what stands at them.
use Rattle.std.proofs.Common.{◌≡◌, inl, inr, ℕ, Bool, true, false, List, [], ◌∷◌, map, length, refl, sym, ap, subst, ◌∙◌, Result, Ok, Err}
use Rattle.std.specs.Prelude.{IfOk}
use Rattle.std.proofs.lemmas.List.{length-map}
use Rattle.smk_base.specs.Place.{record_place}
use Rattle.smk_world.specs.declared.event.Event.{Event}
use Rattle.smk_world.specs.declared.event.WorkFault.{WorkFault}
use Rattle.smk_world.specs.declared.event.WorkFault.TheVariants.{Failed as FailedFault, OutOfMemory as MemoryFault}
use Rattle.smk_world.specs.declared.recipe.Out.{Out}
use Rattle.smk_world.specs.World.{World, out_paths}
use Rattle.smk_world.specs.Calls.{HasOwners, device_failed}
use Rattle.smk_world.specs.Devices.{Device, WhereTold, HasActed, HasCarried}
use Rattle.smk_world.specs.Requests.{Request, HasDone, IsCutShort}
use Rattle.smk_world.specs.Trees.{Path, Act, outs_of}
use Rattle.smk_world.proofs.Devices.{acted_as}
use Rattle.smk_record.specs.declared.record.Member.{Member}
use Rattle.smk_store.specs.declared.places.JobPlaces.{JobPlaces}
use Rattle.smk_store.specs.Steps.{places_of}
use Rattle.smk_job.specs.declared.fault.CloseFault.{CloseFault}
use Rattle.smk_job.specs.declared.fault.CloseFault.TheVariants.{Device as DeviceFault, OutOfMemory as NoMemory}
use Rattle.smk_job.specs.declared.folders.View.{View}
use Rattle.smk_job.specs.declared.folders.View.TheVariants.{Records, Wrongly}
use Rattle.smk_job.specs.declared.sight.Wrong.{Wrong}
use Rattle.smk_job.specs.Jobs.{Underway, bytes_with, IsReady, LetsClose, keep_requests, lose_requests, finish_requests}
use Rattle.smk_job.specs.Sights.{Nodes, AreKnown, AreSeen, IsSeenWrong, IsBlind, AreLookedAt, HasSeen, HasFinished, close_failed, wrong_fault, path_at}
use Rattle.smk_job.specs.Views.{core, bytes_of, bytes_all, AreGood, HasViewed, HasLookedThrough, IsSized, close_fault}
use Rattle.smk_job.proofs.Acts.{acted_in}
use Rattle.smk_job.proofs.Finishing.{seen_then, known_outs, lost_as, as_wrong, wrong_quiet}
use Rattle.smk_job.proofs.Outs.{paths_same}

-- ## The calls of a job

all_with : (j : Underway) (outs : List Out) (ms : List (List Member)) → bytes_all (core j.recipe j.stamps j.made) outs ms ≡ bytes_with j (map (λ (out : Out). out.path) outs) ms
all_with j [] ms = refl
all_with j (o ∷ outs) [] = refl
all_with j (o ∷ outs) (m ∷ ms) = ap (λ (t : List (List ℕ)). bytes_of (core j.recipe j.stamps j.made) o.path m ∷ t) (all_with j outs ms)

module _ (j : Underway) (outs : List Out) (places : JobPlaces) (old : List (List ℕ)) (ready : IsReady j.recipe j.logs j.stamps j.made outs places old) where
  pub each_sized : (records : List (List ℕ)) → length records ≡ length outs → length records ≡ length places.records
  each_sized records size =
      size ∙ sym (length-map outs (λ (out : Out). out.path)) ∙ ap length (ap (map (λ (out : Out). out.path)) ready.outputs ∙ paths_same j.recipe.outputs)
      ∙ sym (length-map (out_paths j.recipe) record_place) ∙ ap (λ (x : JobPlaces). length x.records) (sym ready.at_places)

  kept_with : (records : List (List ℕ)) (ms : List (List Member)) → records ≡ bytes_all (core j.recipe j.stamps j.made) outs ms → keep_requests places records ≡ finish_requests j ms
  kept_with records ms is =
      ap (λ (x : JobPlaces). keep_requests x records) ready.at_places
      ∙ ap (keep_requests (places_of (out_paths j.recipe) j.logs)) (is ∙ all_with j outs ms ∙ ap (λ (ps : List Path). bytes_with j ps ms) (ap (map (λ (out : Out). out.path)) ready.outputs ∙ paths_same j.recipe.outputs))

  good_seen : (ns : Nodes) (records : List (List ℕ)) (Q : List Request → List Event → Type 0) (es : List Event) → HasSeen (AreGood (core j.recipe j.stamps j.made) ns outs records) (Q (keep_requests places records)) es
      → (ms : List (List Member)) × HasSeen (AreSeen ns (outs_of j.recipe) ms) (Q (finish_requests j ms)) es
  good_seen ns records Q es h = (
    h.seen.0,
    record {
      looks = h.looks;
      rest = h.rest;
      events = h.events;
      seen = subst (λ (os : List Out). AreSeen ns os h.seen.0 h.looks) ready.outputs h.seen.1;
      done = subst (λ (rs : List Request). Q rs h.rest) (kept_with records h.seen.0 h.seen.2) h.done;
    },
  )

  module _ (act : Act) (a : Device) (owners : WhereTold a HasOwners) (lets : WhereTold a (λ w. LetsClose w j.recipe)) where
    closed_by : (c : Device) (f : Bool) (P Q : World → List Event → Type 0) → ((w : World) (es : List Event) → P w es → Q w es) → HasActed act (λ w es. AreKnown w.nodes outs → P w es) a c f → HasActed act Q a c f
    closed_by c f P Q more h =
        acted_in act (λ w es. AreKnown w.nodes outs → P w es) Q a c f f refl (λ w es at did. more w es (did (known_outs w j.recipe outs ready.outputs (owners w at) (lets w at)))) h

    viewed_as : (b : Device) (v : View) (r : Result View WorkFault) → r ≡ Ok v → HasActed act (HasLookedThrough (core j.recipe j.stamps j.made) outs r) a b (device_failed r)
        → HasActed act (λ w es. AreKnown w.nodes outs → HasViewed (core j.recipe j.stamps j.made) w.nodes outs (Ok v) es) a b false
    viewed_as b v r is h =
        acted_as act (HasLookedThrough (core j.recipe j.stamps j.made) outs (Ok v)) (λ w es. AreKnown w.nodes outs → HasViewed (core j.recipe j.stamps j.made) w.nodes outs (Ok v) es) a b false false refl (λ w es so. so.viewed)
        (subst (λ x. HasActed act (HasLookedThrough (core j.recipe j.stamps j.made) outs x) a b (device_failed x)) is h)

    pub all_kept : (b c : Device) (records : List (List ℕ)) (r : Result View WorkFault) → r ≡ Ok (Records records) → HasActed act (HasLookedThrough (core j.recipe j.stamps j.made) outs r) a b (device_failed r)
        → HasCarried act (keep_requests places records) b c false → HasActed act (HasFinished j (Ok tt)) a c false
    all_kept b c records r is looks done =
        closed_by c false (λ w es. HasSeen (AreGood (core j.recipe j.stamps j.made) w.nodes outs records) (HasDone (keep_requests places records)) es) (HasFinished j (Ok tt)) (λ w es h. good_seen w.nodes records HasDone es h)
        (seen_then act outs (λ ns es. AreGood (core j.recipe j.stamps j.made) ns outs records es) (keep_requests places records) a b c false (viewed_as b (Records records) r is looks) done)

    pub kept_cut : (b c : Device) (records : List (List ℕ)) (r : Result View WorkFault) → r ≡ Ok (Records records) → HasActed act (HasLookedThrough (core j.recipe j.stamps j.made) outs r) a b (device_failed r)
        → HasCarried act (keep_requests places records) b c true → HasActed act (HasFinished j (Err DeviceFault)) a c true
    kept_cut b c records r is looks cut =
        closed_by c true (λ w es. HasSeen (AreGood (core j.recipe j.stamps j.made) w.nodes outs records) (IsCutShort (keep_requests places records)) es) (HasFinished j (Err DeviceFault))
        (λ w es h. inr (inl (good_seen w.nodes records IsCutShort es h)))
        (seen_then act outs (λ ns es. AreGood (core j.recipe j.stamps j.made) ns outs records es) (keep_requests places records) a b c true (viewed_as b (Records records) r is looks) cut)

    pub all_lost : (b c : Device) (i : ℕ) (x : Wrong) (p : Path) (fault : CloseFault) (r : Result View WorkFault) → r ≡ Ok (Wrongly i x) → p ≡ path_at outs i → fault ≡ wrong_fault x p
        → HasActed act (HasLookedThrough (core j.recipe j.stamps j.made) outs r) a b (device_failed r) → HasCarried act (lose_requests places) b c false → HasActed act (HasFinished j (Err fault)) a c (close_failed (Err fault))
    all_lost b c i x p fault r is at fault_is looks done =
        subst (λ (f : CloseFault). HasActed act (HasFinished j (Err f)) a c (close_failed (Err f))) (sym (fault_is ∙ ap (wrong_fault x) at))
        (subst (λ g. HasActed act (HasFinished j (Err (wrong_fault x (path_at outs i)))) a c g) (sym (wrong_quiet x (path_at outs i)))
        (closed_by c false (λ w es. HasSeen (IsSeenWrong w.nodes outs (wrong_fault x (path_at outs i))) (HasDone (lose_requests places)) es) (HasFinished j (Err (wrong_fault x (path_at outs i))))
        (λ w es h. as_wrong j outs places old ready x (path_at outs i) w es h)
        (seen_then act outs (λ ns es. IsSeenWrong ns outs (wrong_fault x (path_at outs i)) es) (lose_requests places) a b c false (viewed_as b (Wrongly i x) r is looks) done)))

    pub lost_cut : (b c : Device) (i : ℕ) (x : Wrong) (r : Result View WorkFault) → r ≡ Ok (Wrongly i x) → HasActed act (HasLookedThrough (core j.recipe j.stamps j.made) outs r) a b (device_failed r)
        → HasCarried act (lose_requests places) b c true → HasActed act (HasFinished j (Err DeviceFault)) a c true
    lost_cut b c i x r is looks cut =
        closed_by c true (λ w es. HasSeen (IsSeenWrong w.nodes outs (wrong_fault x (path_at outs i))) (IsCutShort (lose_requests places)) es) (HasFinished j (Err DeviceFault))
        (λ w es h. inr (inr (
          wrong_fault x (path_at outs i),
          record {
            looks = h.looks;
            rest = h.rest;
            events = h.events;
            seen = subst (λ (os : List Out). IsSeenWrong w.nodes os (wrong_fault x (path_at outs i)) h.looks) ready.outputs h.seen;
            done = subst (λ (rs : List Request). IsCutShort rs h.rest) (lost_as j outs places old ready) h.done;
          },
        )))
        (seen_then act outs (λ ns es. IsSeenWrong ns outs (wrong_fault x (path_at outs i)) es) (lose_requests places) a b c true (viewed_as b (Wrongly i x) r is looks) cut)

    pub looks_failed : (b : Device) (x : WorkFault) (fault : CloseFault) (r : Result View WorkFault) → r ≡ Err x → fault ≡ close_fault x → HasActed act (HasLookedThrough (core j.recipe j.stamps j.made) outs r) a b (device_failed r)
        → HasActed act (HasFinished j (Err fault)) a b (close_failed (Err fault))
    looks_failed b x fault r is fault_is looks =
        subst (λ (f : CloseFault). HasActed act (HasFinished j (Err f)) a b (close_failed (Err f))) (sym fault_is)
        (by x (subst (λ y. HasActed act (HasLookedThrough (core j.recipe j.stamps j.made) outs y) a b (device_failed y)) is looks))
      where
        known : (x : WorkFault) (f : Bool) → HasActed act (HasLookedThrough (core j.recipe j.stamps j.made) outs (Err x)) a b f → HasActed act (λ w es. AreKnown w.nodes outs → HasViewed (core j.recipe j.stamps j.made) w.nodes outs (Err x) es) a b f
        known x f h = acted_as act (HasLookedThrough (core j.recipe j.stamps j.made) outs (Err x)) (λ w es. AreKnown w.nodes outs → HasViewed (core j.recipe j.stamps j.made) w.nodes outs (Err x) es) a b f f refl (λ w es so. so.viewed) h

        by : (x : WorkFault) → HasActed act (HasLookedThrough (core j.recipe j.stamps j.made) outs (Err x)) a b (device_failed {T = View} (Err x)) → HasActed act (HasFinished j (Err (close_fault x))) a b (close_failed (Err (close_fault x)))
        by FailedFault h =
            closed_by b true (λ w es. IsBlind outs es) (HasFinished j (Err DeviceFault)) (λ w es blind. inl (subst (λ (os : List Out). IsBlind os es) ready.outputs blind)) (known FailedFault true h)
        by MemoryFault h =
            closed_by b false (λ w es. AreLookedAt outs es) (HasFinished j (Err NoMemory)) (λ w es seen. subst (λ (os : List Out). AreLookedAt os es) ready.outputs seen) (known MemoryFault false h)

pub sized_as : (n : ℕ) (r : Result View WorkFault) (records : List (List ℕ)) → r ≡ Ok (Records records) → IfOk r (λ view. IsSized n view) → length records ≡ n
sized_as n r records e h = subst (λ (x : Result View WorkFault). IfOk x (λ view. IsSized n view)) e h
