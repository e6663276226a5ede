-- Which statuses are told: a wait's by the device, and none else.
use Rattle.std.proofs.Common.{◌≡◌, ◌≢◌, ◌≤◌, ℕ, List, [], ◌∷◌, ◌++◌, map, refl, sym, subst, Option, Some, Result, Ok, Err}
use Rattle.smk_base.specs.Place.{mark_place, record_place, note_place}
use Rattle.smk_base.specs.declared.tree.Tree.{Tree}
use Rattle.smk_world.specs.declared.event.Call.{Call}
use Rattle.smk_world.specs.declared.event.Call.TheVariants.{Looked, ReadFile, ReadFolder, Written, Created, Removed, MadeParents, Settled, Protected, Started, Waited}
use Rattle.smk_world.specs.declared.event.Child.{Child}
use Rattle.smk_world.specs.declared.event.Ended.{Ended}
use Rattle.smk_world.specs.declared.event.Event.{Event}
use Rattle.smk_world.specs.declared.event.Failed.{Failed}
use Rattle.smk_world.specs.declared.event.WorkFault.{WorkFault}
use Rattle.smk_world.specs.declared.recipe.Recipe.{Recipe}
use Rattle.smk_world.specs.World.{World, after, run, out_paths, owned_paths, child_numbered}
use Rattle.smk_world.specs.Calls.{ContentsAre, Rose, device_failed}
use Rattle.smk_world.specs.Requests.{Request, request}
use Rattle.smk_world.specs.Requests.Request.{Look, ReadUpTo, ListFolder, Write, Create, Remove, MakeParents, Settle, Protect, Start, Wait}
use Rattle.smk_world.specs.Devices.{Device, WhereTold, HasCalled, HasActed}
use Rattle.smk_world.specs.Runs.{Did}
use Rattle.smk_world.specs.Trees.{Path, Act, Each}
use Rattle.smk_world.proofs.Runs.{did_both}
use Rattle.smk_store.specs.Steps.{make_each, remove_each, write_each, mark_requests, drop_requests, unmark_requests, places_of}
use Rattle.smk_record.specs.declared.record.Stamp.{Stamp}
use Rattle.smk_job.specs.declared.fault.BeginFault.{BeginFault}
use Rattle.smk_job.specs.declared.fault.BeginFault.TheVariants as begin
use Rattle.smk_job.specs.Jobs.{Underway, HasBegun, parents_each, clear_requests, begin_requests, put_all_requests, keep_requests, drop_all_requests, lose_requests, bytes_with}
use Rattle.smk_run.specs.declared.ending.Ending.{Ending}
use Rattle.smk_run.specs.declared.stop.Stop.{Stop}
use Rattle.smk_run.specs.Closings.{wait_event, HasSettled}
use Rattle.smk_run.specs.Digesting.{HasInputs}
use Rattle.smk_run.specs.Stamps.{Serials}
use Rattle.smk_run.specs.Statuses.{IsGiven, AreGiven, HasGiven}
use Rattle.smk_run.proofs.Calls.{EachCall, OfLooks, OfClosing, each_append, done_each, cut_each, has_inputs_each, settled_each}
use Rattle.smk_run.proofs.Closes.{did_first}
use Rattle.smk_run.proofs.Ends.{did_as}
use Rattle.smk_run.proofs.Rising.{rose_earlier, rose_later}

-- ## Events

pub given_weaker : (act : Act) (A B : Type 0) (w : World) (es : List Event) → (A → B) → AreGiven act A w es → AreGiven act B w es
given_weaker act A B w [] less h = tt
given_weaker act A B w (e ∷ es) less h = (by e.call h.0, given_weaker act A B (after w e) es less h.1)
  where
    by : (c : Call) → IsGiven act A w c → IsGiven act B w c
    by (Waited (Ok ended)) k = λ c is trees at other. less (k c is trees at other)
    by (Waited (Err e)) k = tt
    by (Looked p r) k = tt
    by (ReadFile p limit r) k = tt
    by (ReadFolder p r) k = tt
    by (Written p bytes r) k = tt
    by (Created p r) k = tt
    by (Removed p r) k = tt
    by (MadeParents p r) k = tt
    by (Settled ps r) k = tt
    by (Protected p r) k = tt
    by (Started recipe logs command r) k = tt

pub given_append : (act : Act) (A : Type 0) (w : World) (es fs : List Event) → AreGiven act A w es → AreGiven act A (run w es) fs → AreGiven act A w (es ++ fs)
given_append act A w [] fs h k = k
given_append act A w (e ∷ es) fs h k = (h.0, given_append act A (after w e) es fs h.1 k)

did_given_both : (act : Act) (A B C : Type 0) (a b c : Option World) → (A → C) → (B → C) → Did act a b (AreGiven act A) → Did act b c (AreGiven act B) → Did act a c (AreGiven act C)
did_given_both act A B C a b c less fewer h k =
    did_both act (AreGiven act A) (AreGiven act B) (AreGiven act C) a b c h k
    (λ w es fs follows f follows2 g. given_append act C w es fs (given_weaker act A C w es less f) (given_weaker act B C (run w es) fs fewer g))

-- one function after another
pub given_then : (act : Act) (a b c : Device) → a.faults ≤ b.faults → b.faults ≤ c.faults → HasGiven act a b → HasGiven act b c → HasGiven act a c
given_then act a b c le more h k =
    did_given_both act (Rose a.faults b.faults) (Rose b.faults c.faults) (Rose a.faults c.faults) a.world b.world c.world
    (rose_later a.faults b.faults c.faults le more) (rose_earlier a.faults b.faults c.faults le) h k

-- ## Calls that are no wait

-- it is no wait
abbrev pub IsQuiet : Request → Type 0
IsQuiet (Look p) = Unit {0}
IsQuiet (ReadUpTo p limit) = Unit {0}
IsQuiet (ListFolder p) = Unit {0}
IsQuiet (Write p bytes) = Unit {0}
IsQuiet (Create p) = Unit {0}
IsQuiet (Remove p) = Unit {0}
IsQuiet (MakeParents p) = Unit {0}
IsQuiet (Settle ps) = Unit {0}
IsQuiet (Protect p) = Unit {0}
IsQuiet (Start recipe logs command) = Unit {0}
IsQuiet Wait = ⊥

pub quiet_given : (act : Act) (A : Type 0) (w : World) (es : List Event) → EachCall IsQuiet es → AreGiven act A w es
quiet_given act A w [] h = tt
quiet_given act A w (e ∷ es) h = (by e.call h.0, quiet_given act A (after w e) es h.1)
  where
    by : (c : Call) → IsQuiet (request c) → IsGiven act A w c
    by (Waited r) k = absurd k
    by (Looked p r) k = tt
    by (ReadFile p limit r) k = tt
    by (ReadFolder p r) k = tt
    by (Written p bytes r) k = tt
    by (Created p r) k = tt
    by (Removed p r) k = tt
    by (MadeParents p r) k = tt
    by (Settled ps r) k = tt
    by (Protected p r) k = tt
    by (Started recipe logs command r) k = tt

quiet_both : (rs qs : List Request) → Each IsQuiet rs → Each IsQuiet qs → Each IsQuiet (rs ++ qs)
quiet_both rs qs h k = each_append IsQuiet rs qs h k

quiet_remove : (ps : List Path) → Each IsQuiet (remove_each ps)
quiet_remove [] = tt
quiet_remove (p ∷ ps) = (tt, quiet_remove ps)

quiet_parents : (ps : List Path) → Each IsQuiet (parents_each ps)
quiet_parents [] = tt
quiet_parents (p ∷ ps) = (tt, quiet_parents ps)

quiet_make : (ps : List Path) → Each IsQuiet (make_each ps)
quiet_make [] = tt
quiet_make (p ∷ ps) = (tt, (tt, quiet_make ps))

quiet_write : (ps : List Path) (bytes : List (List ℕ)) → Each IsQuiet (write_each ps bytes)
quiet_write [] bytes = tt
quiet_write (p ∷ ps) [] = tt
quiet_write (p ∷ ps) (b ∷ bytes) = (tt, (tt, quiet_write ps bytes))

quiet_unmark : (outs logs : List Path) → Each IsQuiet (unmark_requests (places_of outs logs))
quiet_unmark outs logs = quiet_both (remove_each (map mark_place outs)) (Settle (map mark_place outs) ∷ []) (quiet_remove (map mark_place outs)) (tt, tt)

quiet_begin : (recipe : Recipe) (logs : List Path) (command : List ℕ) → Each IsQuiet (begin_requests recipe logs command)
quiet_begin recipe logs command =
    let outs = out_paths recipe in
    let marking = map mark_place outs ++ map note_place logs in
    quiet_both (mark_requests (places_of outs logs) ++ clear_requests outs (owned_paths recipe logs)) (Start recipe logs command ∷ [])
    (quiet_both (mark_requests (places_of outs logs)) (clear_requests outs (owned_paths recipe logs))
    (quiet_both (make_each marking) (Settle marking ∷ []) (quiet_make marking) (tt, tt))
    (quiet_both (remove_each outs) (parents_each (owned_paths recipe logs)) (quiet_remove outs) (quiet_parents (owned_paths recipe logs))))
    (tt, tt)

quiet_keep : (outs logs : List Path) (bytes : List (List ℕ)) → Each IsQuiet (keep_requests (places_of outs logs) bytes)
quiet_keep outs logs bytes =
    quiet_both (put_all_requests (places_of outs logs) bytes) (unmark_requests (places_of outs logs))
    (tt, quiet_both (write_each (map record_place outs) bytes) (Settle (map record_place outs) ∷ []) (quiet_write (map record_place outs) bytes) (tt, tt))
    (quiet_unmark outs logs)

quiet_lose : (outs logs : List Path) → Each IsQuiet (lose_requests (places_of outs logs))
quiet_lose outs logs =
    quiet_both (drop_all_requests (places_of outs logs)) (unmark_requests (places_of outs logs))
    (quiet_both (remove_each outs) (drop_requests (places_of outs logs)) (quiet_remove outs)
    (quiet_both (remove_each (map record_place outs)) (Settle (outs ++ map record_place outs) ∷ []) (quiet_remove (map record_place outs)) (tt, tt)))
    (quiet_unmark outs logs)

quiet_looks : OfLooks IsQuiet
quiet_looks = record { look = λ p. tt; read = λ p limit. tt; listed = λ p. tt }

quiet_closing : (j : Underway) → OfClosing IsQuiet j
quiet_closing j = record {
  looks = quiet_looks;
  finish = λ members. quiet_keep (out_paths j.recipe) j.logs (bytes_with j (out_paths j.recipe) members);
  abandon = quiet_lose (out_paths j.recipe) j.logs;
}

-- ## Parts of a turn

-- nothing is done
pub given_none : (act : Act) (a : Device) → HasGiven act a a
given_none act a = λ w e. (w, e, ([], tt, tt, refl))

-- looks at inputs
pub stamped_given : (act : Act) (made : Serials) (ps : List Path) (r : Result (List Stamp) Stop) (a b : Device) → Did act a.world b.world (HasInputs made ps r) → HasGiven act a b
stamped_given act made ps r a b h =
    did_as act (HasInputs made ps r) (AreGiven act (Rose a.faults b.faults)) a.world b.world h
    (λ w es f. quiet_given act (Rose a.faults b.faults) w es (has_inputs_each IsQuiet quiet_looks made ps r w es f))

begun_quiet : (recipe : Recipe) (logs : List Path) (command : List ℕ) (r : Result Underway BeginFault) (w : World) (es : List Event) → HasBegun recipe logs command r w es → EachCall IsQuiet es
begun_quiet recipe logs command (Ok going) w es h = done_each IsQuiet (begin_requests recipe logs command) es (quiet_begin recipe logs command) h.0
begun_quiet recipe logs command (Err (begin.TooLong bytes)) w es h = subst (EachCall IsQuiet) (sym h) tt
begun_quiet recipe logs command (Err begin.Device) w es h = cut_each IsQuiet (begin_requests recipe logs command) es (quiet_begin recipe logs command) h
begun_quiet recipe logs command (Err begin.OutOfMemory) w es h = subst (EachCall IsQuiet) (sym h) tt

-- the beginning of a job
pub begun_given : (act : Act) (recipe : Recipe) (logs : List Path) (command : List ℕ) (r : Result Underway BeginFault) (a b : Device) → Did act a.world b.world (HasBegun recipe logs command r) → HasGiven act a b
begun_given act recipe logs command r a b h =
    did_as act (HasBegun recipe logs command r) (AreGiven act (Rose a.faults b.faults)) a.world b.world h
    (λ w es f. quiet_given act (Rose a.faults b.faults) w es (begun_quiet recipe logs command r w es f))

-- what is done once a child has ended
settled_given : (act : Act) (j : Underway) (r : Result Ending WorkFault) (status : ℕ) (a b : Device) → Did act a.world b.world (HasSettled j r status) → HasGiven act a b
settled_given act j r status a b h =
    did_as act (HasSettled j r status) (AreGiven act (Rose a.faults b.faults)) a.world b.world h
    (λ w es f. quiet_given act (Rose a.faults b.faults) w es (settled_each IsQuiet j (quiet_closing j) r status w es f))

-- ## The wait

-- the device's word on the status of a child that ended
abbrev pub IsOtherStatus : Act → Device → Device → Ended → Type 0
IsOtherStatus act old new ended =
    WhereTold old (λ w. (c : Child) → child_numbered ended.number w.children ≡ Some c → (trees : List Tree) → ContentsAre w c.recipe trees → ended.status ≢ (act c.recipe trees).status → Rose old.faults new.faults)

waited_given : (act : Act) (ended : Ended) (a b : Device) → IsOtherStatus act a b ended → HasCalled act a b (Waited (Ok ended)) → HasGiven act a b
waited_given act ended a b other now = λ w1 e.
    let h = now.world.told w1 e in (h.0, h.1, (wait_event ended h.2.0 ∷ [], (h.2.1, tt), ((λ c is trees at differ. other h.0 h.1 c is trees at differ), tt), h.2.2))

pub closed_given : (act : Act) (j : Underway) (r : Result Ending WorkFault) (ended : Ended) (a b c : Device)
    → IsOtherStatus act a b ended → HasCalled act a b (Waited (Ok ended)) → HasActed act (HasSettled j r ended.status) b c (device_failed r) → HasGiven act a c
closed_given act j r ended a b c other now settled =
    given_then act a b c now.cause.later settled.cause.later (waited_given act ended a b other now) (settled_given act j r ended.status b c settled.did)

-- the wait failed
pub unwaited_given : (act : Act) (e : Failed) (a b : Device) → HasCalled act a b (Waited (Err e)) → HasGiven act a b
unwaited_given act e a b now = did_first act (AreGiven act (Rose a.faults b.faults)) a.world b.world (Waited (Err e)) now.world (λ w left lets. (tt, tt))
