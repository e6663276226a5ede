-- A job whose outputs are files is kept or abandoned by what stands at them.
use Rattle.std.proofs.Common.{◌≡◌, ◌≢◌, ◌⊎◌, inl, inr, ℕ, Bool, true, false, ◌||◌, List, [], ◌∷◌, ◌++◌, map, refl, sym, ap, subst, ◌∙◌, Option, Some, None, Result, Ok, Err, filter, true≢false}
use Rattle.std.specs.Prelude.{is_err, not, if◌then◌else◌}
use Rattle.std.specs.List.{list_any}
use Rattle.std.proofs.lemmas.Bool.{or_left, or_right, or_parts}
use Rattle.smk_base.specs.Path.{is_at_or_under, overlaps}
use Rattle.smk_base.proofs.Under.{never_both, or_cases, overlaps_above_both}
use Rattle.smk_world.specs.declared.event.Child.{Child}
use Rattle.smk_world.specs.declared.event.Event.{Event}
use Rattle.smk_world.specs.declared.event.Failed.{Failed}
use Rattle.smk_world.specs.declared.recipe.Out.{Out}
use Rattle.smk_world.specs.declared.recipe.Recipe.{Recipe}
use Rattle.smk_world.specs.World.{World, out_paths, in_paths, owned_paths, is_within}
use Rattle.smk_world.specs.Calls.{HasOwners, owned_now, used_now, any_overlap}
use Rattle.smk_world.specs.Devices.{Device, WhereTold, HasActed, HasCarried}
use Rattle.smk_world.specs.Requests.{Request, HasDone, IsCutShort, Carries}
use Rattle.smk_world.specs.Trees.{Path, Act, outs_of, folders_of}
use Rattle.smk_world.proofs.Devices.{acted_then, acted_as}
use Rattle.smk_store.specs.declared.places.JobPlaces.{JobPlaces}
use Rattle.smk_store.specs.Steps.{places_of}
use Rattle.smk_job.specs.declared.fault.CloseFault.{CloseFault}
use Rattle.smk_job.specs.declared.fault.CloseFault.TheVariants.{Device as DeviceFault}
use Rattle.smk_job.specs.declared.sight.Wrong.{Wrong}
use Rattle.smk_job.specs.declared.sight.Wrong.TheVariants.{Absent, OtherKind, Unlisted}
use Rattle.smk_job.specs.Jobs.{Underway, bare_bytes, bytes_with, IsReady, LetsClose, keep_requests, lose_requests, finish_requests, abandon_requests}
use Rattle.smk_job.specs.Sights.{Nodes, AreKnown, AreSeen, IsSeenWrong, IsBlind, HasSeen, HasFinished, is_folder_out, nones, wrong_fault, path_at, HasSettled, HasSeenFiles, HasSettledFiles, close_failed}
use Rattle.smk_job.proofs.Acts.{acted_in}
use Rattle.smk_job.proofs.Outs.{paths_same}

-- ## After the looks

-- the looks, and then these calls: all of them, or up to one that failed
pub seen_then : (act : Act) (outs : List Out) (P : Nodes → List Event → Type 0) (rs : List Request) (a b c : Device) (f : Bool)
    → HasActed act (λ w es. AreKnown w.nodes outs → P w.nodes es) a b false → HasCarried act rs b c f → HasActed act (λ w es. AreKnown w.nodes outs → HasSeen (P w.nodes) (Carries rs (not f)) es) a c f
seen_then act outs P rs a b c f before now =
    acted_then act (λ w es. AreKnown w.nodes outs → P w.nodes es) (λ w es. Carries rs (not f) es) (λ w es. AreKnown w.nodes outs → HasSeen (P w.nodes) (Carries rs (not f)) es) a b c f
    (λ w es fs follows seen more done known. record { looks = es; rest = fs; events = refl; seen = seen known; done = done }) before now.acted

module _ (act : Act) (outs : List Out) (places : JobPlaces) (records : List (List ℕ)) where
  -- a look failed
  pub settled_blindly : (a b : Device) (f : Failed) (r : Result (Option (ℕ × Wrong)) Failed) → is_err r ≡ true → HasActed act (HasSeenFiles outs (Err f)) a b true → HasActed act (HasSettledFiles outs places records r) a b (is_err r)
  settled_blindly a b f (Ok x) bad h = absurd (true≢false (sym bad))
  settled_blindly a b f (Err e) bad h = acted_as act (HasSeenFiles outs (Err f)) (HasSettledFiles outs places records (Err e)) a b true true refl (λ w es blind known. inl (blind known)) h

  -- all were files
  pub settled_well : (a b c : Device) (found : Option (ℕ × Wrong)) → found ≡ None → HasActed act (HasSeenFiles outs (Ok found)) a b false → HasCarried act (keep_requests places records) b c false
      → HasActed act (HasSettledFiles outs places records (Ok None)) a c false
  settled_well a b c found is before now =
      seen_then act outs (λ ns es. AreSeen ns outs (nones outs) es) (keep_requests places records) a b c false (subst (λ x. HasActed act (HasSeenFiles outs (Ok x)) a b false) is before) now

  pub settled_uncut : (a b c : Device) (found : Option (ℕ × Wrong)) (r : Result (Option (ℕ × Wrong)) Failed) → found ≡ None → is_err r ≡ true
      → HasActed act (HasSeenFiles outs (Ok found)) a b false → HasCarried act (keep_requests places records) b c true → HasActed act (HasSettledFiles outs places records r) a c (is_err r)
  settled_uncut a b c found (Ok x) is bad before now = absurd (true≢false (sym bad))
  settled_uncut a b c found (Err e) is bad before now =
      acted_as act (λ w es. AreKnown w.nodes outs → HasSeen (AreSeen w.nodes outs (nones outs)) (IsCutShort (keep_requests places records)) es) (HasSettledFiles outs places records (Err e)) a c true true refl
      (λ w es h known. inr (inl (h known)))
      (seen_then act outs (λ ns es. AreSeen ns outs (nones outs) es) (keep_requests places records) a b c true (subst (λ x. HasActed act (HasSeenFiles outs (Ok x)) a b false) is before) now)

  -- one was not
  pub settled_wrongly : (a b c : Device) (found : Option (ℕ × Wrong)) (at : ℕ × Wrong) → found ≡ Some at → HasActed act (HasSeenFiles outs (Ok found)) a b false → HasCarried act (lose_requests places) b c false
      → HasActed act (HasSettledFiles outs places records (Ok (Some at))) a c false
  settled_wrongly a b c found (i, x) is before now =
      seen_then act outs (λ ns es. IsSeenWrong ns outs (wrong_fault x (path_at outs i)) es) (lose_requests places) a b c false (subst (λ y. HasActed act (HasSeenFiles outs (Ok y)) a b false) is before) now

  pub settled_lost : (a b c : Device) (found : Option (ℕ × Wrong)) (at : ℕ × Wrong) (r : Result (Option (ℕ × Wrong)) Failed) → found ≡ Some at → is_err r ≡ true
      → HasActed act (HasSeenFiles outs (Ok found)) a b false → HasCarried act (lose_requests places) b c true → HasActed act (HasSettledFiles outs places records r) a c (is_err r)
  settled_lost a b c found (i, x) (Ok y) is bad before now = absurd (true≢false (sym bad))
  settled_lost a b c found (i, x) (Err e) is bad before now =
      acted_as act (λ w es. AreKnown w.nodes outs → HasSeen (IsSeenWrong w.nodes outs (wrong_fault x (path_at outs i))) (IsCutShort (lose_requests places)) es) (HasSettledFiles outs places records (Err e)) a c true true refl
      (λ w es h known. inr (inr (wrong_fault x (path_at outs i), h known)))
      (seen_then act outs (λ ns es. IsSeenWrong ns outs (wrong_fault x (path_at outs i)) es) (lose_requests places) a b c true (subst (λ y. HasActed act (HasSeenFiles outs (Ok y)) a b false) is before) now)

-- ## Where no child uses an output, none owns what stands there

within_split : (q : Path) (ps qs : List Path) → is_within q (ps ++ qs) ≡ true → (is_within q ps ≡ true) ⊎ (is_within q qs ≡ true)
within_split q [] qs h = inr h
within_split q (x ∷ ps) qs h = elim (or_cases (is_at_or_under q x) (is_within q (ps ++ qs)) h) [
  | inl e ↦ inl (or_left (is_at_or_under q x) (is_within q ps) e)
  | inr m ↦ elim (within_split q ps qs m) [ inl l ↦ inl (or_right (is_at_or_under q x) (is_within q ps) l) | inr r ↦ inr r ]
]

any_left : (p : Path) (ps qs : List Path) → list_any (overlaps p) ps ≡ true → list_any (overlaps p) (ps ++ qs) ≡ true
any_left p [] qs h = absurd (true≢false (sym h))
any_left p (x ∷ ps) qs h = elim (or_cases (overlaps p x) (list_any (overlaps p) ps) h) [
  | inl e ↦ or_left (overlaps p x) (list_any (overlaps p) (ps ++ qs)) e
  | inr m ↦ or_right (overlaps p x) (list_any (overlaps p) (ps ++ qs)) (any_left p ps qs m)
]

any_right : (p : Path) (ps qs : List Path) → list_any (overlaps p) qs ≡ true → list_any (overlaps p) (ps ++ qs) ≡ true
any_right p [] qs h = h
any_right p (x ∷ ps) qs h = or_right (overlaps p x) (list_any (overlaps p) (ps ++ qs)) (any_right p ps qs h)

any_within : (p q : Path) → is_at_or_under q p ≡ true → (ps : List Path) → is_within q ps ≡ true → list_any (overlaps p) ps ≡ true
any_within p q at [] h = absurd (true≢false (sym h))
any_within p q at (x ∷ ps) h = elim (or_cases (is_at_or_under q x) (is_within q ps) h) [
  | inl e ↦ or_left (overlaps p x) (list_any (overlaps p) ps) (overlaps_above_both q p x at e)
  | inr m ↦ or_right (overlaps p x) (list_any (overlaps p) ps) (any_within p q at ps m)
]

overlap_used : (cs : List Child) (p q : Path) → is_at_or_under q p ≡ true → is_within q (owned_now cs) ≡ true → list_any (overlaps p) (used_now cs) ≡ true
overlap_used [] p q at within = absurd (true≢false (sym within))
overlap_used (c ∷ cs) p q at within = elim (within_split q (owned_paths c.recipe c.logs) (owned_now cs) within) [
  | inl here ↦ any_left p (in_paths c.recipe ++ owned_paths c.recipe c.logs) (used_now cs) (any_right p (in_paths c.recipe) (owned_paths c.recipe c.logs) (any_within p q at (owned_paths c.recipe c.logs) here))
  | inr more ↦ any_right p (in_paths c.recipe ++ owned_paths c.recipe c.logs) (used_now cs) (overlap_used cs p q at more)
]

known_each : (w : World) → HasOwners w → (outs : List Out) → any_overlap (map (λ (out : Out). out.path) outs) (used_now w.children) ≡ false → AreKnown w.nodes outs
known_each w owners [] h = tt
known_each w owners (o ∷ outs) h = (
  λ q at owned. never_both (list_any (overlaps o.path) (used_now w.children)) (overlap_used w.children o.path q at (owners q owned)) (or_parts (list_any (overlaps o.path) (used_now w.children)) (any_overlap (map (λ (out : Out). out.path) outs) (used_now w.children)) h).0,
  known_each w owners outs (or_parts (list_any (overlaps o.path) (used_now w.children)) (any_overlap (map (λ (out : Out). out.path) outs) (used_now w.children)) h).1,
)

pub known_outs : (w : World) (recipe : Recipe) (outs : List Out) → outs ≡ outs_of recipe → HasOwners w → LetsClose w recipe → AreKnown w.nodes outs
known_outs w recipe outs are owners lets =
    known_each w owners outs (ap (λ ps. any_overlap ps (used_now w.children)) (ap (map (λ (out : Out). out.path)) are ∙ paths_same recipe.outputs) ∙ lets.apart)

-- ## As the job's calls

bare_with : (j : Underway) (outs : List Out) → bytes_with j (map (λ (out : Out). out.path) outs) (nones outs) ≡ map (bare_bytes j.made j.recipe j.stamps) (map (λ (out : Out). out.path) outs)
bare_with j [] = refl
bare_with j (o ∷ outs) = ap (λ t. bare_bytes j.made j.recipe j.stamps o.path ∷ t) (bare_with j outs)

-- the bytes of the records, where no output has members
pub bare_records : (j : Underway) → bytes_with j (out_paths j.recipe) (nones (outs_of j.recipe)) ≡ map (bare_bytes j.made j.recipe j.stamps) (out_paths j.recipe)
bare_records j =
    ap (λ ps. bytes_with j ps (nones (outs_of j.recipe))) (sym (paths_same j.recipe.outputs)) ∙ bare_with j (outs_of j.recipe)
    ∙ ap (map (bare_bytes j.made j.recipe j.stamps)) (paths_same j.recipe.outputs)

-- the device didn't fail
pub wrong_quiet : (x : Wrong) (p : Path) → close_failed (Err (wrong_fault x p)) ≡ false
wrong_quiet Absent p = refl
wrong_quiet OtherKind p = refl
wrong_quiet Unlisted p = refl

module _ (j : Underway) (outs : List Out) (places : JobPlaces) (records : List (List ℕ)) (ready : IsReady j.recipe j.logs j.stamps j.made outs places records) where
  pub at_outputs : places.outputs ≡ map (λ (out : Out). out.path) outs
  at_outputs = ap (λ (x : JobPlaces). x.outputs) ready.at_places ∙ sym (paths_same j.recipe.outputs) ∙ ap (map (λ (out : Out). out.path)) (sym ready.outputs)

  kept_as : keep_requests places records ≡ finish_requests j (nones (outs_of j.recipe))
  kept_as =
      ap (λ (x : JobPlaces). keep_requests x records) ready.at_places
      ∙ ap (keep_requests (places_of (out_paths j.recipe) j.logs)) (ready.bytes ∙ sym (bare_records j))

  pub lost_as : lose_requests places ≡ abandon_requests j
  lost_as = ap lose_requests ready.at_places

  as_done : (w : World) (es : List Event) → HasSettled outs places records (Ok None) w.nodes es → HasFinished j (Ok tt) w es
  as_done w es h = (
    nones (outs_of j.recipe),
    record {
      looks = h.looks;
      rest = h.rest;
      events = h.events;
      seen = subst (λ os. AreSeen w.nodes os (nones os) h.looks) ready.outputs h.seen;
      done = subst (λ rs. HasDone rs h.rest) kept_as h.done;
    },
  )

  pub abandoned : (fault : CloseFault) (w : World) (es : List Event) → HasSeen (IsSeenWrong w.nodes outs fault) (HasDone (lose_requests places)) es → HasSeen (IsSeenWrong w.nodes (outs_of j.recipe) fault) (HasDone (abandon_requests j)) es
  abandoned fault w es h = record {
    looks = h.looks;
    rest = h.rest;
    events = h.events;
    seen = subst (λ os. IsSeenWrong w.nodes os fault h.looks) ready.outputs h.seen;
    done = subst (λ rs. HasDone rs h.rest) lost_as h.done;
  }

  pub as_wrong : (x : Wrong) (p : Path) (w : World) (es : List Event) → HasSeen (IsSeenWrong w.nodes outs (wrong_fault x p)) (HasDone (lose_requests places)) es → HasFinished j (Err (wrong_fault x p)) w es
  as_wrong Absent p w es h = abandoned (wrong_fault Absent p) w es h
  as_wrong OtherKind p w es h = abandoned (wrong_fault OtherKind p) w es h
  as_wrong Unlisted p w es h = abandoned (wrong_fault Unlisted p) w es h

  as_unclosed : (f : Failed) (w : World) (es : List Event) → HasSettled outs places records (Err f) w.nodes es → HasFinished j (Err DeviceFault) w es
  as_unclosed f w es (inl h) = inl (subst (λ os. IsBlind os es) ready.outputs h)
  as_unclosed f w es (inr (inl h)) =
      inr (inl (
        nones (outs_of j.recipe),
        record {
          looks = h.looks;
          rest = h.rest;
          events = h.events;
          seen = subst (λ os. AreSeen w.nodes os (nones os) h.looks) ready.outputs h.seen;
          done = subst (λ rs. IsCutShort rs h.rest) kept_as h.done;
        },
      ))
  as_unclosed f w es (inr (inr (fault, h))) =
      inr (inr (
        fault,
        record {
          looks = h.looks;
          rest = h.rest;
          events = h.events;
          seen = subst (λ os. IsSeenWrong w.nodes os fault h.looks) ready.outputs h.seen;
          done = subst (λ rs. IsCutShort rs h.rest) lost_as h.done;
        },
      ))

  module _ (act : Act) (a b : Device) (owners : WhereTold a HasOwners) (lets : WhereTold a (λ w. LetsClose w j.recipe)) where
    finished_by : (r : Result (Option (ℕ × Wrong)) Failed) (s : Result (Unit {0}) CloseFault) → is_err r ≡ close_failed s → ((w : World) (es : List Event) → HasSettled outs places records r w.nodes es → HasFinished j s w es)
        → HasActed act (HasSettledFiles outs places records r) a b (is_err r) → HasActed act (HasFinished j s) a b (close_failed s)
    finished_by r s same more h =
        acted_in act (HasSettledFiles outs places records r) (HasFinished j s) a b (is_err r) (close_failed s) same
        (λ w es at settled. more w es (settled (known_outs w j.recipe outs ready.outputs (owners w at) (lets w at)))) h

    pub finished_well : (r : Result (Option (ℕ × Wrong)) Failed) → r ≡ Ok None → HasActed act (HasSettledFiles outs places records r) a b (is_err r) → HasActed act (HasFinished j (Ok tt)) a b false
    finished_well r e h = finished_by (Ok None) (Ok tt) refl as_done (subst (λ x. HasActed act (HasSettledFiles outs places records x) a b (is_err x)) e h)

    pub finished_wrong : (r : Result (Option (ℕ × Wrong)) Failed) (i : ℕ) (x : Wrong) (p : Path) (fault : CloseFault) → r ≡ Ok (Some (i, x)) → p ≡ path_at outs i → fault ≡ wrong_fault x p
        → HasActed act (HasSettledFiles outs places records r) a b (is_err r) → HasActed act (HasFinished j (Err fault)) a b (close_failed (Err fault))
    finished_wrong r i x p fault e at is h =
        subst (λ f. HasActed act (HasFinished j (Err f)) a b (close_failed (Err f))) (sym (is ∙ ap (wrong_fault x) at))
        (finished_by (Ok (Some (i, x))) (Err (wrong_fault x (path_at outs i))) (sym (wrong_quiet x (path_at outs i))) (as_wrong x (path_at outs i))
        (subst (λ y. HasActed act (HasSettledFiles outs places records y) a b (is_err y)) e h))

    pub finished_badly : (r : Result (Option (ℕ × Wrong)) Failed) (f : Failed) → r ≡ Err f → HasActed act (HasSettledFiles outs places records r) a b (is_err r) → HasActed act (HasFinished j (Err DeviceFault)) a b true
    finished_badly r f e h = finished_by (Err f) (Err DeviceFault) refl (as_unclosed f) (subst (λ x. HasActed act (HasSettledFiles outs places records x) a b (is_err x)) e h)

-- ## Directories

filtered : (o : Out) (outs : List Out) (b : Bool) → (list_any is_folder_out outs ≡ true → map (λ (out : Out). out.path) (filter (λ (out : Out). is_folder_out out) outs) ≢ [])
    → (b || list_any is_folder_out outs) ≡ true → map (λ (out : Out). out.path) (if b then o ∷ filter (λ (out : Out). is_folder_out out) outs else filter (λ (out : Out). is_folder_out out) outs) ≢ []
filtered o outs true more h = λ k. cc
filtered o outs false more h = more h

some_folders : (outs : List Out) → list_any is_folder_out outs ≡ true → map (λ (out : Out). out.path) (filter (λ (out : Out). is_folder_out out) outs) ≢ []
some_folders [] h = absurd (true≢false (sym h))
some_folders (o ∷ outs) h = filtered o outs (is_folder_out o) (some_folders outs) h

pub has_folders : (recipe : Recipe) → list_any is_folder_out (outs_of recipe) ≡ true → folders_of recipe ≢ []
has_folders recipe h = some_folders (outs_of recipe) h
