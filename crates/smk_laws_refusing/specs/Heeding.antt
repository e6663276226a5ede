-- What hangs on the lock: nothing by which jobs are planned.
use Rattle.std.specs.Prelude.{◌≡◌, ℕ, Bool, List, [], ◌∷◌, Option}
use Rattle.smk_base.specs.Place.{lock_place}
use Rattle.smk_world.specs.World.{World, IsFormed}
use Rattle.smk_flow.specs.Flows.{Flow}
use Rattle.smk_record.specs.declared.record.Record.{Record}
use Rattle.smk_store.specs.Images.{Image, seen}
use Rattle.smk_chain.specs.Derive.{Listings}
use Rattle.smk_pick.specs.declared.settings.Settings.{Settings}
use Rattle.smk_plan.specs.States.{Plan, Progress, LastPlan}
use Rattle.smk_report.specs.declared.fault.Fault.{Fault}
use Rattle.smk_drive.specs.Moments.{Rules}
use Rattle.smk_drive.specs.Refusals.{ChainRefuses}
use Rattle.smk_plan_preview.specs.declared.previewing.Previewed.{Previewed}
use Rattle.smk_plan_preview.specs.Previewing.{IsPreviewed}
use Rattle.smk_keep_lock.specs.Changing.{ChangesOnly}

-- the same folder, but for the lock
abbrev pub with_lock : Image → Bool → Image
with_lock image locked = record image { locked = locked }

abbrev pub IsSameButLock : Image → Image → Type 0
IsSameButLock a b = b ≡ with_lock a b.locked

-- Where nothing has changed but the lock and folders above it, the folder reads as before but for the lock.
abbrev pub LockChangesItselfAlone : Type 0
LockChangesItselfAlone =
    (read : List ℕ → Option Record) (w v : World) →
    IsFormed w → IsFormed v → ChangesOnly (lock_place ∷ []) (lock_place ∷ []) w v → IsSameButLock (seen read w) (seen read v)

-- In folders that are the same but for the lock the chain of plans has the same refusals.
abbrev pub RefusalsHeedNoLock : Type 0
RefusalsHeedNoLock =
    (rules : Rules) (progress : Progress) (L : Listings) (f : Fault) (a b : Image) →
    IsSameButLock a b → ChainRefuses rules a progress L f → ChainRefuses rules b progress L f

-- And the same last plans.
abbrev pub LastPlansHeedNoLock : Type 0
LastPlansHeedNoLock =
    (flow : Flow) (settings : Settings) (progress : Progress) (L : Listings) (plan : Plan) (a b : Image) →
    IsSameButLock a b → LastPlan flow a settings progress L plan → LastPlan flow b settings progress L plan

-- So what is told of the plan for a call is the same.
abbrev pub PreviewsHeedNoLock : Type 0
PreviewsHeedNoLock =
    (read : List ℕ → Option Record) (flow : Flow) (settings : Settings) (told : Previewed) (a b : Image) →
    IsSameButLock a b → IsPreviewed read flow settings a told → IsPreviewed read flow settings b told
