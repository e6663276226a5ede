-- Jobs that are derived still are jobs of the plan in force; and a run of the protocol keeps the sources.
use Rattle.std.proofs.Common.{◌≡◌, ◌≢◌, ◌⊎◌, ℕ, true, List, refl, sym, ap, subst, inl, inr, ◌∙◌, Option, Some, None, option_map}
use Rattle.smk_world.specs.declared.event.Node.{Node}
use Rattle.smk_world.specs.World.{World, IsFormed, node_in, reading, reads}
use Rattle.smk_world.specs.Trees.{Path, Each, IsIn}
use Rattle.smk_world.proofs.Names.{reads_may_stay, reads_there}
use Rattle.smk_flow.specs.declared.job.Job.{Job}
use Rattle.smk_choose.specs.Choose.{Sources}
use Rattle.smk_record.specs.declared.record.Record.{Record}
use Rattle.smk_store.specs.Images.{image_by, image_of, is_source, source_at}
use Rattle.smk_store.specs.Images as images
use Rattle.smk_store.specs.Soundness.{told}
use Rattle.smk_chain.specs.Derive.{Listings, jobs, listing, sources_of}
use Rattle.smk_plan.specs.States.{Plan, gathers_from, maker_of}
use Rattle.smk_laws_plan.proofs.PlanOne.{derived}
use Rattle.smk_laws_history.proofs.CurrentComplete.{seen_is_complete}
use Rattle.smk_laws_history.proofs.CurrentReads.{sources_alike}
use Rattle.smk_laws_protocol.proofs.Basics.{each_on}
use Rattle.smk_job.specs.Jobs.{Underway}
use Rattle.smk_drive.specs.Moments.{Rules, lists_of, seen}
use Rattle.smk_drive_course.specs.Stands.{Stand, lists}
use Rattle.smk_laws_moments.specs.Opened.{IsPlannedStill}
use Rattle.smk_laws_moments.specs.Staying.{DerivedArePlanned, IsDerivedStill, IsListed, IsPlanOfSources, MidwayKeepsSources, derived_by}
use Rattle.smk_laws_moments.proofs.Gathered.{source_made_by_none}

module _ (rules : Rules) (entry : World) (s : Stand) (formed : IsFormed entry) (plan : Plan) (in_force : s.plan ≡ Some plan) (of : IsPlanOfSources rules entry plan) where
  sources_then : sources_of (seen rules entry) ≡ sources_of of.image
  sources_then = sources_alike (seen rules entry) of.image (seen_is_complete rules.read entry formed) of.complete of.sources

  all_lists : lists s ≡ plan.lists
  all_lists = ap (λ (o : Option Plan). lists_of o s.from) in_force

  pub planned_jobs : derived_by rules entry (lists s) ≡ plan.jobs
  planned_jobs =
      ap (derived_by rules entry) all_lists
      ∙ (ap (λ (S : Sources). jobs rules.flow S plan.lists rules.settings.targets) sources_then
      ∙ (derived rules.flow of.image plan.lists rules.settings.targets plan.jobs of.complete of.is_plan.derived).1)

  listed_by : (j : Job) → IsListed (seen rules entry) (lists s) j → Each (λ d. (maker_of plan d ≡ None) ⊎ (listing plan.lists d ≢ None)) (gathers_from j)
  listed_by j listed =
      each_on (λ d. (is_source (seen rules entry) d ≡ true) ⊎ (listing plan.lists d ≢ None)) (λ d. (maker_of plan d ≡ None) ⊎ (listing plan.lists d ≢ None)) one (gathers_from j)
      (subst (λ (ls : Listings). IsListed (seen rules entry) ls j) all_lists listed)
    where
      one : (d : Path) → (is_source (seen rules entry) d ≡ true) ⊎ (listing plan.lists d ≢ None) → (maker_of plan d ≡ None) ⊎ (listing plan.lists d ≢ None)
      one d (inl source) =
          inl
          (source_made_by_none rules.flow of.image rules.settings of.progress plan of.complete of.is_plan d
          (sym (ap (λ (S : Sources). S.is d) sources_then) ∙ source))
      one d (inr known) = inr known

  still_planned : (going : Underway) → IsDerivedStill rules entry s going → IsPlannedStill s plan going
  still_planned going d =
      record {
        job = d.begun.job;
        planned = subst (λ js. IsIn js d.begun.job) planned_jobs d.derived;
        recipe = d.recipe;
        logs = d.logs;
        begun = d.begun;
        has_begun = d.has_begun;
        is_job = refl;
        listed = listed_by d.begun.job d.listed;
      }

pub derived_are_planned : DerivedArePlanned
derived_are_planned rules entry s formed are plan e =
    each_on (IsDerivedStill rules entry s) (IsPlannedStill s plan) (still_planned rules entry s formed plan e (are.planned plan e)) s.runs are.running

-- ## The sources in a run of the protocol

-- a path's source goes by what reads where, whatever the names are
source_by : (read : List ℕ → Option Record) (names more : List Path) (nodes there : Path → Option Node) → nodes ≡ there → (p : Path) →
    option_map told (source_at (image_by read names nodes) p) ≡ option_map told (source_at (image_by read more there) p)
source_by read names more nodes there same p = ap (λ (f : Path → Option Node). option_map told (source_at (image_by read names f) p)) same

pub midway_keeps_sources : MidwayKeepsSources
midway_keeps_sources o rules entry H state w same midway p =
    let crash = midway.images.sources (reads w) (reads_may_stay w midway.images.formed) p in
    let now : option_map told (source_at (image_of o.read (reads w)) p) ≡ option_map told (source_at (images.seen o.read w) p) =
    source_by o.read (Rattle.smk_world.specs.World.places_in (reads w)) w.names (node_in (reads w)) (λ q. reading (w.nodes q)) (λ i q. reads_there w q midway.images.formed i) p in
    subst (λ read. option_map told (source_at (images.seen read w) p) ≡ option_map told (source_at (images.seen read entry) p)) (sym same) (sym now ∙ crash)
