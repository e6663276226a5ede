-- Where a job was taken up nothing was waited for.
use Rattle.std.proofs.Common.{Bool, true, false, ℕ, List, [], ◌∷◌, ◌++◌, inl, inr, Result, Ok, Err}
use Rattle.smk_world.specs.declared.event.Event.{Event}
use Rattle.smk_world.specs.Devices.{AreLooks}
use Rattle.smk_world.specs.Requests.{Request, request}
use Rattle.smk_world.specs.Requests.Request.{Create, ListFolder, Look, MakeParents, Protect, ReadUpTo, Remove, Settle, Start, Wait, Write}
use Rattle.smk_world.specs.Trees.{Each, Path}
use Rattle.smk_world.specs.World.{World, out_paths, owned_paths}
use Rattle.smk_world.specs.declared.recipe.Recipe.{Recipe}
use Rattle.smk_record.specs.declared.record.Stamp.{Stamp}
use Rattle.smk_flow.specs.declared.job.Job.{Job}
use Rattle.smk_store.specs.Steps.{mark_requests, places_of}
use Rattle.smk_laws_protocol.proofs.Basics.{each_on}
use Rattle.smk_job.specs.Jobs.{Underway, begin_requests, clear_requests}
use Rattle.smk_job.specs.declared.fault.BeginFault.{BeginFault}
use Rattle.smk_job.specs.declared.fault.BeginFault.TheVariants.{Device, OutOfMemory, TooLong}
use Rattle.smk_run.proofs.Calls.{EachCall, cut_each, done_each, each_append, each_then}
use Rattle.smk_run.proofs.Honest.{IsQuiet}
use Rattle.smk_drive_step.specs.Beginning.{HasTakenUp}
use Rattle.smk_laws_moments.proofs.ChildrenOf.{begin_quiet}
use Rattle.smk_laws_moments.proofs.QuietCalls as moments
use Rattle.smk_laws_moments.proofs.QuietCalls.{looks_quiet}

no_wait : (r : Request) → moments.IsQuiet r → IsQuiet r
no_wait (Look p) h = tt
no_wait (ReadUpTo p limit) h = tt
no_wait (ListFolder p) h = tt
no_wait (Write p bytes) h = tt
no_wait (Create p) h = tt
no_wait (Remove p) h = tt
no_wait (MakeParents p) h = tt
no_wait (Settle ps) h = tt
no_wait (Protect p) h = tt
no_wait (Start recipe logs command) h = tt
no_wait Wait h = h

looks : (failure : Bool) (es : List Event) → AreLooks failure es → EachCall IsQuiet es
looks failure es h = each_on (λ (e : Event). moments.IsQuiet (request e.call)) (λ (e : Event). IsQuiet (request e.call)) (λ e. no_wait (request e.call)) es (looks_quiet failure es h)

begins : (recipe : Recipe) (logs : List Path) (command : List ℕ) → Each IsQuiet (begin_requests recipe logs command)
begins recipe logs command =
    let front = mark_requests (places_of (out_paths recipe) logs) ++ clear_requests (out_paths recipe) (owned_paths recipe logs) in
    each_append IsQuiet front (Start recipe logs command ∷ []) (each_on moments.IsQuiet IsQuiet no_wait front (begin_quiet recipe logs)) (tt, tt)

pub taken_up_quiet :
    (j : Job) (known : List Stamp) (made : ℕ) (command : List ℕ) (result : Result Underway BeginFault) (w : World) (es : List Event) →
    HasTakenUp j known made command result w es → EachCall IsQuiet es
taken_up_quiet j known made command (Ok going) w es h =
    each_then IsQuiet es h.reads h.beginning h.events (looks false h.reads h.read.only_read)
    (done_each IsQuiet (begin_requests j.recipe j.logs command) h.beginning (begins j.recipe j.logs command) h.calls)
taken_up_quiet j known made command (Err (TooLong bytes)) w es h = looks false es h.read.only_read
taken_up_quiet j known made command (Err Device) w es (inl h) = looks true es h
taken_up_quiet j known made command (Err Device) w es (inr h) =
    each_then IsQuiet es h.reads h.beginning h.events (looks false h.reads h.read.only_read)
    (cut_each IsQuiet (begin_requests j.recipe j.logs command) h.beginning (begins j.recipe j.logs command) h.calls)
taken_up_quiet j known made command (Err OutOfMemory) w es h = looks false es h
