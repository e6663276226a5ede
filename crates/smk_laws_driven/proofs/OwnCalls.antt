-- What the calls of one job leave: what stands at paths that its outputs and logs don't overlap.
use Rattle.std.proofs.Common.{◌≡◌, ℕ, Bool, true, false, List, [], ◌∷◌, ◌++◌, refl, sym, ap, subst, inl, inr, Result, true≢false}
use Rattle.std.specs.List.{list_any}
use Rattle.smk_base.specs.Path.{is_path, overlaps}
use Rattle.smk_world.specs.declared.event.Call.{Call}
use Rattle.smk_world.specs.declared.event.Call.TheVariants.{Looked, ReadFile, ReadFolder, Written, Created, Removed, MadeParents, Settled, Protected, Started, Waited}
use Rattle.smk_world.specs.declared.event.Event.{Event}
use Rattle.smk_world.specs.declared.recipe.Recipe.{Recipe}
use Rattle.smk_world.specs.World.{World, after, out_paths, owned_paths, run}
use Rattle.smk_world.specs.Calls.{any_overlap}
use Rattle.smk_world.specs.Devices.{AreLooks, is_look}
use Rattle.smk_world.specs.Requests.{HasDone, Request, request}
use Rattle.smk_world.specs.Requests.Request.{Look, ReadUpTo, ListFolder, Write, Create, Remove, MakeParents, Settle, Protect, Start, Wait}
use Rattle.smk_world.specs.Trees.{Each, IsIn, Path}
use Rattle.smk_flow.specs.declared.job.Job.{Job}
use Rattle.smk_store.specs.Steps.{mark_requests, places_of}
use Rattle.smk_job.specs.Jobs.{Underway, begin_requests, clear_requests}
use Rattle.smk_keep.specs.Keeping.{protect_requests}
use Rattle.smk_laws_protocol.proofs.Basics.{each_on, none_of}
use Rattle.smk_run.specs.declared.ending.Ending.{Ending}
use Rattle.smk_run.specs.Closings.{IsClosedBy}
use Rattle.smk_run.proofs.Calls.{EachCall, cut_each, done_each}
use Rattle.smk_keep.specs.declared.fault.KeepFault.{KeepFault}
use Rattle.smk_drive_course.specs.Steps.{GuardingFails, HasGuarded, IsTended, LooksFail, Tended, Unguarded}
use Rattle.smk_plan.specs.States.{job_path}
use Rattle.smk_laws_moments.specs.Owning.{IsOwnCall}
use Rattle.smk_laws_turns.specs.Leaving.{AreOwnCalls}
use Rattle.smk_laws_turns.specs.Places.{IsSameUnder}
use Rattle.smk_laws_turns.proofs.Leaving.{own_calls_leave}
use Rattle.smk_laws_turns.proofs.Off.{paths_are_off}
use Rattle.smk_laws_turns.proofs.Signs.{Spares}
use Rattle.smk_laws_turns.proofs.Requests.{IsOwn, begins_each, beginning_own, closing_of, own_call, protects_each, done_last}
use Rattle.smk_base.specs.Place.{mark_place}

-- ## Which calls are its own

look_own : (j : Job) (w : World) (call : Call) → is_look call ≡ true → IsOwnCall j w call
look_own j w (Looked p r) h = tt
look_own j w (ReadFile p limit r) h = tt
look_own j w (ReadFolder p r) h = tt
look_own j w (Settled ps r) h = tt
look_own j w (Protected p r) h = absurd (true≢false (sym h))
look_own j w (Written p bytes r) h = absurd (true≢false (sym h))
look_own j w (Created p r) h = absurd (true≢false (sym h))
look_own j w (Removed p r) h = absurd (true≢false (sym h))
look_own j w (MadeParents p r) h = absurd (true≢false (sym h))
look_own j w (Started recipe logs command r) h = absurd (true≢false (sym h))
look_own j w (Waited r) h = absurd (true≢false (sym h))

pub looks_own : (j : Job) (failure : Bool) (w : World) (es : List Event) → AreLooks failure es → AreOwnCalls j w es
looks_own j failure w [] h = tt
looks_own j failure w (e ∷ []) h = (look_own j w e.call h.0, tt)
looks_own j failure w (e ∷ (f ∷ es)) h = (look_own j w e.call h.0, looks_own j failure (after w e) (f ∷ es) h.2)

each_own : (j : Job) (w : World) (es : List Event) → EachCall (IsOwn j) es → AreOwnCalls j w es
each_own j w [] h = tt
each_own j w (e ∷ es) h = (own_call j w e.call h.0, each_own j (after w e) es h.1)

pub own_more : (j : Job) (w : World) (es fs : List Event) → AreOwnCalls j w es → AreOwnCalls j (run w es) fs → AreOwnCalls j w (es ++ fs)
own_more j w [] fs a b = b
own_more j w (e ∷ es) fs a b = (a.0, own_more j (after w e) es fs a.1 b)

-- ## Its beginning

abbrev recipe_in : Recipe → Request → Recipe
recipe_in other (Start recipe logs command) = recipe
recipe_in other (Look p) = other
recipe_in other (ReadUpTo p limit) = other
recipe_in other (ListFolder p) = other
recipe_in other (Write p bytes) = other
recipe_in other (Create p) = other
recipe_in other (Remove p) = other
recipe_in other (MakeParents p) = other
recipe_in other (Settle ps) = other
recipe_in other (Protect p) = other
recipe_in other Wait = other

abbrev logs_in : Request → List Path
logs_in (Start recipe logs command) = logs
logs_in (Look p) = []
logs_in (ReadUpTo p limit) = []
logs_in (ListFolder p) = []
logs_in (Write p bytes) = []
logs_in (Create p) = []
logs_in (Remove p) = []
logs_in (MakeParents p) = []
logs_in (Settle ps) = []
logs_in (Protect p) = []
logs_in Wait = []

abbrev is_start : Request → Bool
is_start (Start recipe logs command) = true
is_start (Look p) = false
is_start (ReadUpTo p limit) = false
is_start (ListFolder p) = false
is_start (Write p bytes) = false
is_start (Create p) = false
is_start (Remove p) = false
is_start (MakeParents p) = false
is_start (Settle ps) = false
is_start (Protect p) = false
is_start Wait = false

start_own : (j : Job) (command : List ℕ) (w : World) (call : Call) → request call ≡ Start j.recipe j.logs command → IsOwnCall j w call
start_own j command w (Started r l c x) h = (ap (recipe_in r) h, ap logs_in h)
start_own j command w (Looked p r) h = tt
start_own j command w (ReadFile p limit r) h = tt
start_own j command w (ReadFolder p r) h = tt
start_own j command w (Settled ps r) h = tt
start_own j command w (Written p bytes r) h = absurd (true≢false (sym (ap is_start h)))
start_own j command w (Created p r) h = absurd (true≢false (sym (ap is_start h)))
start_own j command w (Removed p r) h = absurd (true≢false (sym (ap is_start h)))
start_own j command w (MadeParents p r) h = absurd (true≢false (sym (ap is_start h)))
start_own j command w (Protected p r) h = absurd (true≢false (sym (ap is_start h)))
start_own j command w (Waited r) h = absurd (true≢false (sym (ap is_start h)))

pub begin_own : (j : Job) (command : List ℕ) (w : World) (es : List Event) → HasDone (begin_requests j.recipe j.logs command) es → AreOwnCalls j w es
begin_own j command w es done =
    let rs = mark_requests (places_of (out_paths j.recipe) j.logs) ++ clear_requests (out_paths j.recipe) (owned_paths j.recipe j.logs) in
    let d = done_last rs (Start j.recipe j.logs command) es done in
    let first = each_own j w d.0 (done_each (IsOwn j) rs d.0 (each_on _ (IsOwn j) (beginning_own j) rs (begins_each j)) d.3) in
    subst (AreOwnCalls j w) (sym d.2) (own_more j w d.0 (d.1 ∷ []) first (start_own j command (run w d.0) (d.1).call d.4, tt))

-- ## How it is closed

settle_own : (j : Job) (ps : List Path) (w : World) (call : Call) → request call ≡ Settle ps → IsOwn j (request call)
settle_own j ps w call h = subst (IsOwn j) (sym h) tt

pub close_own :
    (j : Job) (going : Underway) → Each (λ p. is_path p ≡ true) (out_paths j.recipe) → j.recipe ≡ going.recipe → j.logs ≡ going.logs → (how : Ending) (status : ℕ)
    (seen_in w : World) (es : List Event) → IsClosedBy going how status seen_in es → AreOwnCalls j w es
close_own j going paths recipe logs how status seen_in w es closed =
    let c = closing_of j (job_path j) paths going recipe logs how status seen_in es closed in
    let first = each_own j w c.front (each_on (λ (e : Event). IsOwn j (request e.call) × Spares (mark_place (job_path j)) (request e.call))
    (λ (e : Event). IsOwn j (request e.call)) (λ e h. h.0) c.front c.calls) in
    subst (AreOwnCalls j w) (sym c.events)
    (own_more j w c.front (c.last ∷ []) first
    (own_call j (run w c.front) c.last.call (settle_own j _ (run w c.front) c.last.call c.settles), tt))

pub guard_own :
    (j : Job) (guards : List Path) (w : World) (es : List Event) → ((p : Path) → IsIn guards p → IsIn (out_paths j.recipe) p) → HasGuarded guards es →
    AreOwnCalls j w es
guard_own j [] w es outs done = subst (AreOwnCalls j w) (sym done) tt
guard_own j (p ∷ guards) w es outs done = each_own j w es (done_each (IsOwn j) (protect_requests (p ∷ guards)) es (protects_each j (p ∷ guards) outs) done)

-- and what is done at its outputs afterwards
pub tend_own :
    (j : Job) (guards : List Path) (answer : Result (Unit {0}) KeepFault) (w : World) (es : List Event) →
    ((p : Path) → IsIn guards p → IsIn (out_paths j.recipe) p) → IsTended guards answer es → AreOwnCalls j w es
tend_own j guards answer w es outs (Tended guarding looks guarded looked) =
    own_more j w guarding looks (guard_own j guards w guarding outs guarded) (looks_own j false (run w guarding) looks looked)
tend_own j guards answer w es outs Unguarded = tt
tend_own j guards answer w es outs (GuardingFails guarding cut) =
    each_own j w guarding (cut_each (IsOwn j) (protect_requests guards) guarding (protects_each j guards outs) cut)
tend_own j guards answer w es outs (LooksFail guarding looks guarded looked) =
    own_more j w guarding looks (guard_own j guards w guarding outs guarded) (looks_own j true (run w guarding) looks looked)

-- ## What they leave

none_over : (ps qs : List Path) (p q : Path) → any_overlap ps qs ≡ false → IsIn ps p → IsIn qs q → overlaps p q ≡ false
none_over ps qs p q h i k = none_of (overlaps p) qs q (none_of (λ (x : Path). list_any (overlaps x) qs) ps p h i) k

each_free : (ps qs all : List Path) (q : Path) → any_overlap all qs ≡ false → IsIn qs q → ((p : Path) → IsIn ps p → IsIn all p) → Each (λ s. overlaps s q ≡ false) ps
each_free [] qs all q h k sub = tt
each_free (p ∷ ps) qs all q h k sub = (none_over all qs p q h (sub p (inl refl)) k, each_free ps qs all q h k (λ x i. sub x (inr i)))

-- what stands at such a path
pub own_leaves :
    (j : Job) (w : World) (es : List Event) (qs : List Path) (q : Path) → AreOwnCalls j w es → any_overlap (owned_paths j.recipe j.logs) qs ≡ false → IsIn qs q →
    is_path q ≡ true → IsSameUnder w (run w es) q
own_leaves j w es qs q own apart i path =
    own_calls_leave j w es q own (paths_are_off j q path (each_free (owned_paths j.recipe j.logs) qs (owned_paths j.recipe j.logs) q apart i (λ p k. k)))
