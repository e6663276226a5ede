-- What is done once a child has ended starts none and waits for none.
use Rattle.std.proofs.Common.{ℕ, Bool, true, false, List, [], ◌∷◌, ◌++◌, refl, sym, subst, Result, Ok, Err, append-nil}
use Rattle.smk_world.specs.declared.event.Call.{Call}
use Rattle.smk_world.specs.declared.event.Call.TheVariants.{Created, Looked, MadeParents, Protected, ReadFile, ReadFolder, Removed, Settled, Started, Waited, Written}
use Rattle.smk_world.specs.declared.event.Event.{Event}
use Rattle.smk_world.specs.declared.event.WorkFault.TheVariants as work
use Rattle.smk_world.specs.Requests.{request}
use Rattle.smk_world.specs.World.{World, after, run}
use Rattle.smk_world.specs.Devices.{AreLooks}
use Rattle.smk_world.proofs.Devices.{looks_append}
use Rattle.smk_world.specs.Trees.{Act}
use Rattle.smk_flow.specs.Flows.{Flow}
use Rattle.smk_flow.specs.declared.job.Job.{Job}
use Rattle.smk_pick.specs.declared.settings.Settings.{Settings}
use Rattle.smk_report.specs.declared.fault.Fault.{Fault}
use Rattle.smk_keep.specs.declared.fault.KeepFault.TheVariants as keep
use Rattle.smk_plan_live.specs.Live.{LivePlan}
use Rattle.smk_run.specs.declared.ending.Ending.{Ending as End}
use Rattle.smk_run.specs.Statuses.{AreGiven, IsGiven}
use Rattle.smk_run.proofs.Calls.{EachCall, settled_each}
use Rattle.smk_drive_step.specs.declared.children.Child.{Child}
use Rattle.smk_drive_course.specs.Steps.{Deed, GuardingFails, HasGuarded, LooksFail, Tended, guards_of}
use Rattle.smk_laws_moments.proofs.QuietCalls.{IsQuiet, calls_more, closing_quiet, looks_quiet, tended_quiet}
use Rattle.smk_laws_turns.specs.Hubs.{Parts}
use Rattle.smk_laws_closes.specs.Closes.{GuardFails, HasClosedFor, HasTended, IsCut, IsDone, IsLeft, IsNone, IsUnguarded, Learns, WasHalted}
use Rattle.smk_laws_turns.specs.GrowingRounds.{Grows, HasGrownOn, IsBarred, IsRefused, IsWhole, LacksMemory}
use Rattle.smk_laws_turns.specs.GrowingRounds as growing
use Rattle.smk_laws_closes.specs.Learning.{HasLearnt, IsToldOf, LookFails, LooksShort}

pub quiet_is_given : (act : Act) (A : Type 0) (w : World) (es : List Event) → EachCall IsQuiet es → AreGiven act A w es
quiet_is_given act A w [] each = tt
quiet_is_given act A w (e ∷ es) each = (by e.call each.0, quiet_is_given act A (after w e) es each.1)
  where
    by : (c : Call) → IsQuiet (request c) → IsGiven act A w c
    by (Looked p r) h = tt
    by (ReadFile p limit r) h = tt
    by (ReadFolder p r) h = tt
    by (Written p bytes r) h = tt
    by (Created p r) h = tt
    by (Removed p r) h = tt
    by (MadeParents p r) h = tt
    by (Settled ps r) h = tt
    by (Protected p r) h = tt
    by (Started recipe logs command r) h = tt
    by (Waited r) h = absurd h

learnt_quiet :
    (flow : Flow) (settings : Settings) (number : ℕ) (j : Job) (how : End) (old new : LivePlan) (w : World) (guarding looks : List Event) (answer : Result (Unit {0}) Fault) →
    HasGuarded (guards_of j how) guarding → HasLearnt flow settings number j old new w looks answer → EachCall IsQuiet (guarding ++ looks)
learnt_quiet flow settings number j how old new w guarding looks answer guards (LookFails looked) =
    tended_quiet (guards_of j how) (Err keep.Device) (guarding ++ looks) (LooksFail guarding looks guards looked)
learnt_quiet flow settings number j how old new w guarding looks answer guards (LooksShort looked) =
    tended_quiet (guards_of j how) (Ok tt) (guarding ++ looks) (Tended guarding looks guards looked)
learnt_quiet flow settings number j how old new w guarding looks answer guards (IsToldOf o a looked outcome answers other) =
    tended_quiet (guards_of j how) (Ok tt) (guarding ++ looks) (Tended guarding looks guards looked)

pub tending_quiet :
    (flow : Flow) (settings : Settings) (number : ℕ) (j : Job) (how : End) (h : Parts) (w : World) (new : LivePlan) (answer : Result (Unit {0}) Fault) (es : List Event) →
    HasTended flow settings number j how h w new answer es → EachCall IsQuiet es
tending_quiet flow settings number j how h w new answer es IsUnguarded = tt
tending_quiet flow settings number j how h w new answer es (GuardFails guarding cut) = tended_quiet (guards_of j how) (Err keep.Device) guarding (GuardingFails guarding cut)
tending_quiet flow settings number j how h w new answer es (WasHalted guarding f guards came) =
    subst (EachCall IsQuiet) (append-nil guarding) (tended_quiet (guards_of j how) (Ok tt) (guarding ++ []) (Tended guarding [] guards refl))
tending_quiet flow settings number j how h w new answer es (Learns guarding looks new1 answer1 guards none plan learnt) =
    learnt_quiet flow settings number j how h.live new1 _ guarding looks answer1 guards learnt

pub closed_quiet :
    (flow : Flow) (settings : Settings) (h : Parts) (c : Child) (status : ℕ) (w : World) (es : List Event) (k : Parts) (deeds : List Deed) →
    HasClosedFor flow settings h c status w es k deeds → EachCall IsQuiet es
closed_quiet flow settings h c status w es k deeds (IsLeft settled) = settled_each IsQuiet c.going (closing_quiet c.going) (Err work.OutOfMemory) status w es settled
closed_quiet flow settings h c status w es k deeds (IsCut settled) = settled_each IsQuiet c.going (closing_quiet c.going) (Err work.Failed) status w es settled
closed_quiet flow settings h c status w es k deeds (IsDone k1 deeds1 d) =
    subst (EachCall IsQuiet) (sym d.events)
    (calls_more d.closing d.tending (settled_each IsQuiet c.going (closing_quiet c.going) (Ok d.how) status w d.closing d.closed)
    (tending_quiet flow settings c.job d.job d.how d.noted _ d.new d.outcome d.tending d.tended))
closed_quiet flow settings h c status w es k deeds (IsNone k1 deeds1 none quiet) = quiet

-- as the plan grows the folder is looked at
grown_looks :
    (flow : Flow) (settings : Settings) (w : World) (h k : Parts) (es : List Event) → HasGrownOn flow settings w h k es → (failed : Bool) × AreLooks failed es
grown_looks flow settings w h k es (IsWhole w1 h1 unrefused whole) = (false, refl)
grown_looks flow settings w h k es (Grows w1 h1 m k1 looks more unrefused some looked by rest) =
    let later = grown_looks flow settings (run w1 looks) m k1 more rest in (later.0, looks_append later.0 looks more looked later.1)
grown_looks flow settings w h k es (IsRefused w1 h1 f looks other unrefused some looked by) = (false, looked)
grown_looks flow settings w h k es (IsBarred w1 h1 f other refused) = (false, refl)
grown_looks flow settings w h k es (growing.LookFails w1 h1 looks looked) = (true, looked)
grown_looks flow settings w h k es (LacksMemory w1 h1 looks looked) = (false, looked)

pub grown_quiet : (flow : Flow) (settings : Settings) (w : World) (h k : Parts) (es : List Event) → HasGrownOn flow settings w h k es → EachCall IsQuiet es
grown_quiet flow settings w h k es grown = let looks = grown_looks flow settings w h k es grown in looks_quiet looks.0 es looks.1
