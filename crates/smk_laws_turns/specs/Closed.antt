-- How the folder differs once a child was waited for, and its job closed or left.
use Rattle.std.specs.Prelude.{◌≡◌, true, false, List, ◌∷◌, ◌++◌, None, Ok}
use Rattle.smk_base.specs.Place.{mark_place}
use Rattle.smk_world.specs.declared.event.Change.{Change}
use Rattle.smk_world.specs.declared.event.Ended.{Ended}
use Rattle.smk_world.specs.declared.event.Event.{Event}
use Rattle.smk_world.specs.Calls.{HasOwners}
use Rattle.smk_world.specs.Runs.{Follows}
use Rattle.smk_world.specs.Trees.{Act, IsIn, Path, among, outs_of}
use Rattle.smk_world.specs.World.{World, after, out_paths, run}
use Rattle.smk_flow.specs.declared.job.Job.{Job}
use Rattle.smk_record.specs.Spelling.{ReadsRecords}
use Rattle.smk_job.specs.Jobs.{Underway}
use Rattle.smk_job.specs.Sights.{AreLookedAt}
use Rattle.smk_run.specs.declared.ending.Ending.{Ending as End}
use Rattle.smk_run.specs.Closings.{IsClosedBy, wait_event}
use Rattle.smk_drive.specs.Moments.{Rules, is_gone, seen}
use Rattle.smk_drive_course.specs.Stands.{Stand}
use Rattle.smk_drive_course.specs.Steps.{Deed, IsTended, IsWaitFor, guards_of}
use Rattle.smk_laws_turns.specs.Changing.{DiffersAt}
use Rattle.smk_laws_turns.specs.Hubs.{IsAt, IsOurs, Parts}
use Rattle.smk_laws_turns.specs.Guarded.{IsGuardedSince}

-- The folder once a job with these outputs was closed: as long as no fault has come it differs from the one before at these outputs, and else not; no mark of
-- them stands, or may come back, and those of others stand as they did; and it has what the run found and its own.
pub record IsClosedFor (rules : Rules) (entry : World) (h : Parts) (s : Stand) (w v : World) (outs : List Path) : Type 0 where
  pub differs : s.halted ≡ None → DiffersAt (seen rules w) (seen rules v) h.live.base.jobs rules.settings.targets outs
  pub unmarked : (q : Path) → among outs q ≡ true → (seen rules v).marked q ≡ false
  pub gone : (q : Path) → among outs q ≡ true → is_gone (v.nodes (mark_place q)) ≡ true
  pub others : (q : Path) → among outs q ≡ false → v.nodes (mark_place q) ≡ w.nodes (mark_place q)
  pub ours : IsOurs rules entry h.live.base.jobs.jobs v

module _ (rules : Rules) (entry : World) (h : Parts) (s : Stand) (w : World) (before : List Event) (deeds : List Deed) where
  -- So it is once a child was waited for and its job closed.
  abbrev pub CloseDiffers : Type 0
  CloseDiffers =
      (act : Act) (going : Underway) (ended : Ended) (left : List Change) (closing : List Event) (how : End) →
      IsAt rules entry h s w before deeds →
      HasOwners w →
      ReadsRecords rules.read →
      s.broken ≡ false →
      IsWaitFor going ended s →
      IsClosedBy going how ended.status (after w (wait_event ended left)) closing →
      Follows act w (wait_event ended left ∷ closing) →
      IsClosedFor rules entry h s w (run w (wait_event ended left ∷ closing)) (out_paths going.recipe)

  -- So it is still once its outputs were made read-only, and the folder was looked at, which leaves all but their flags.
  abbrev pub TendDiffers : Type 0
  TendDiffers =
      (act : Act) (going : Underway) (ended : Ended) (left : List Change) (closing tending : List Event) (how : End) (j : Job) →
      IsAt rules entry h s w before deeds →
      HasOwners w →
      ReadsRecords rules.read →
      s.broken ≡ false →
      IsWaitFor going ended s →
      IsIn h.live.base.jobs.jobs j →
      j.recipe ≡ going.recipe →
      IsClosedBy going how ended.status (after w (wait_event ended left)) closing →
      IsTended (guards_of j how) (Ok tt) tending →
      Follows act w ((wait_event ended left ∷ closing) ++ tending) →
      IsClosedFor rules entry h s w (run w ((wait_event ended left ∷ closing) ++ tending)) (out_paths going.recipe)
      × IsGuardedSince rules j
      (run w (wait_event ended left ∷ closing)) (run w ((wait_event ended left ∷ closing) ++ tending))

  -- A child was waited for, and then its job's outputs were looked at alone: the marks stay.
  abbrev pub LeftOurs : Type 0
  LeftOurs =
      (act : Act) (going : Underway) (ended : Ended) (left : List Change) (looks : List Event) →
      IsAt rules entry h s w before deeds →
      HasOwners w →
      s.broken ≡ false →
      IsWaitFor going ended s →
      AreLookedAt (outs_of going.recipe) looks →
      Follows act w (wait_event ended left ∷ looks) →
      IsOurs rules entry h.live.base.jobs.jobs (run w (wait_event ended left ∷ looks))

  -- What the job of a child that ended guards are its outputs.
  abbrev pub GuardsAreOutputs : Type 0
  GuardsAreOutputs =
      (j : Job) (how : End) (p : Path) →
      IsAt rules entry h s w before deeds →
      IsIn h.live.base.jobs.jobs j → IsIn (guards_of j how) p → IsIn (out_paths j.recipe) p
