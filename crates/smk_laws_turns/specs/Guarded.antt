-- Outputs of a job that was closed were made read-only, which leaves the plan in force and what is refused of it.
use Rattle.std.specs.Prelude.{◌≡◌, ◌⊎◌, false, List, Option, Some, None}
use Rattle.smk_base.specs.Path.{overlaps}
use Rattle.smk_base.specs.Place.{mark_place}
use Rattle.smk_world.specs.declared.event.Event.{Event}
use Rattle.smk_world.specs.declared.event.Node.{Node}
use Rattle.smk_world.specs.declared.event.Node.TheVariants.{Directory, Regular}
use Rattle.smk_world.specs.Trees.{Each, IsIn, Path}
use Rattle.smk_world.specs.World.{IsFormed, World, out_paths, reading}
use Rattle.smk_flow.specs.declared.job.Job.{Job}
use Rattle.smk_chain.specs.Derive.{jobs, sources_of}
use Rattle.smk_plan.specs.Sights.{is_guarded}
use Rattle.smk_plan.specs.States.{Plan, job_path}
use Rattle.smk_report.specs.declared.fault.Fault.{Fault}
use Rattle.smk_report.specs.declared.fault.Fault.TheVariants as fault
use Rattle.smk_drive.specs.Moments.{Begun, Rules, progress_of, seen}
use Rattle.smk_drive.specs.Refusals.{ChainRefuses}
use Rattle.smk_drive_course.specs.Stands.{GoesBy, IsReplanned, Stand, lists}
use Rattle.smk_laws_moments.specs.Staying.{IsListed}

-- a node, be it read-only or not
abbrev pub bare_node : Option Node → Option Node
bare_node None = None
bare_node (Some Directory) = Some Directory
bare_node (Some (Regular bytes time read_only)) = Some (Regular bytes time false)

-- Since the world v, in which this job was closed, nothing has changed but what is read-only at its outputs.
pub record IsGuardedSince (rules : Rules) (j : Job) (v x : World) : Type 0 where
  pub formed : IsFormed v
  pub formed_now : IsFormed x
  pub names : x.names ≡ v.names
  pub nodes : (q : Path) → bare_node (reading (x.nodes q)) ≡ bare_node (reading (v.nodes q))
  pub children : x.children ≡ v.children
  pub marks : (q : Path) → x.nodes (mark_place q) ≡ v.nodes (mark_place q)
  pub guarded : (q : Path) → Each (λ p. overlaps p q ≡ false) (out_paths j.recipe) → is_guarded (seen rules x) q ≡ is_guarded (seen rules v) q

-- So the plan that is made anew once the outputs were made read-only is the one that is made anew before, and what the run makes of the stand is the same: where
-- some plan is in force, or where this is refused of its chain. The job is derived with the listings of the plan before, and listed by them.
abbrev pub PlanBeforeGuarding : Type 0
PlanBeforeGuarding =
    (rules : Rules) (entry v x : World) (j : Job) (b : Begun) (u next t : Stand) (events now : List Event) →
    IsGuardedSince rules j v x →
    IsIn u.begun b →
    job_path b.job ≡ job_path j →
    u.halted ≡ None →
    IsIn (jobs rules.flow (sources_of (seen rules x)) (lists u) rules.settings.targets) j →
    IsListed (seen rules x) (lists u) j →
    IsReplanned rules u x next →
    GoesBy rules entry next x now t →
    (t.halted ≡ None → (plan : Plan) × (t.plan ≡ Some plan)) →
    ((f : Fault) → t.halted ≡ Some f → (f ≡ fault.OutOfMemory) ⊎ ChainRefuses rules (seen rules x) (progress_of x u.begun) (lists u) f) →
    IsReplanned rules u v next × GoesBy rules entry next v events t
