-- What the run goes by once the folder was looked at is what it goes by right after the closing.
use Rattle.std.proofs.Common.{◌≡◌, ◌≢◌, ◌⊎◌, true, false, List, ◌∷◌, ◌++◌, sym, ap, subst, ◌∙◌, inl, inr, Some, None}
use Rattle.smk_world.specs.declared.event.Event.{Event}
use Rattle.smk_world.specs.Devices.{AreLooks}
use Rattle.smk_world.specs.Runs.{Follows}
use Rattle.smk_world.specs.Trees.{IsIn, Path}
use Rattle.smk_world.specs.World.{World}
use Rattle.smk_store.specs.Images.{is_source}
use Rattle.smk_choose.specs.Choose.{Sources}
use Rattle.smk_chain.specs.Derive.{Listings, listing, sources_of}
use Rattle.smk_chain.specs.Derive as derive
use Rattle.smk_plan.specs.States.{Plan, gathers_from, job_path}
use Rattle.smk_report.specs.declared.fault.Fault.{Fault}
use Rattle.smk_report.specs.declared.fault.Fault.TheVariants as fault
use Rattle.smk_drive.specs.Moments.{Begun, seen}
use Rattle.smk_drive.specs.Moments as moments
use Rattle.smk_drive.specs.Refusals.{ChainRefuses}
use Rattle.smk_drive_course.specs.Stands.{GoesBy, IsReplanned, Stand, lists}
use Rattle.smk_drive_course.specs.Steps.{HasGuarded, guards_of}
use Rattle.smk_laws_protocol.proofs.Basics.{each_on, in_here}
use Rattle.smk_laws_history.proofs.CurrentComplete.{seen_is_complete}
use Rattle.smk_laws_history.proofs.CurrentReads.{sources_alike}
use Rattle.smk_laws_plan.proofs.PlanOne.{derived}
use Rattle.smk_laws_moments.specs.Staying.{IsListed}
use Rattle.smk_laws_closes.specs.Endings.{told_end}
use Rattle.smk_laws_closes.proofs.Around.{with_end}
use Rattle.smk_laws_closes.proofs.Basis.{Closing, begun_job, closed_world, its, its_begun, jobs, of_plan, wait, without}
use Rattle.smk_laws_closes.proofs.Laws.{Laws}
use Rattle.smk_laws_closes.proofs.Tended.{closed_for, derived_now, guarded_since, split, tended_home, tended_world}

module _ (l : Laws) (x : Closing) (guarding looks : List Event) (guards : HasGuarded (guards_of x.job x.how) guarding) (quiet : AreLooks false looks)
    (follows : Follows x.act x.w ((wait x ∷ x.closing) ++ (guarding ++ looks))) (unhalted : x.s.halted ≡ None) where
  abbrev now : World
  now = tended_world l x guarding looks guards quiet follows

  -- the plan before had the listings of the kept one
  pub listed : lists (without x) ≡ x.h.live.base.jobs.lists
  listed = ap (λ p. moments.lists_of p x.s.from) (x.at.kept unhalted).plan

  same_sources : sources_of (seen x.rules x.entry) ≡ sources_of (seen x.rules now)
  same_sources =
      sources_alike (seen x.rules x.entry) (seen x.rules now) (seen_is_complete x.rules.read x.entry x.at.home.found)
      (seen_is_complete x.rules.read now (tended_home l x guarding looks guards quiet follows).formed) (closed_for l x guarding looks guards quiet follows).ours.sources

  -- its job is derived and listed by them still
  its_derived : IsIn (derive.jobs x.rules.flow (sources_of (seen x.rules now)) (lists (without x)) x.rules.settings.targets) x.job
  its_derived =
      subst (λ (ls : Listings). IsIn (derive.jobs x.rules.flow (sources_of (seen x.rules now)) ls x.rules.settings.targets) x.job) (sym listed)
      (subst (λ js. IsIn js x.job)
      (sym (derived x.rules.flow (seen x.rules now) x.h.live.base.jobs.lists x.rules.settings.targets (jobs x)
      (seen_is_complete x.rules.read now (tended_home l x guarding looks guards quiet follows).formed) (derived_now l x guarding looks guards quiet follows)).1)
      (of_plan x))

  its_listed : IsListed (seen x.rules now) (lists (without x)) x.job
  its_listed =
      subst (λ (ls : Listings). IsListed (seen x.rules now) ls x.job) (sym listed)
      (subst (IsListed (seen x.rules now) x.h.live.base.jobs.lists) (begun_job x)
      (each_on (λ d. (is_source (seen x.rules x.entry) d ≡ true) ⊎ (listing x.h.live.base.jobs.lists d ≢ None))
      (λ d. (is_source (seen x.rules now) d ≡ true) ⊎ (listing x.h.live.base.jobs.lists d ≢ None)) one (gathers_from (its_begun x).job)
      (x.at.listed (its_begun x) (its x).has_begun)))
    where
      one :
          (d : Path) → (is_source (seen x.rules x.entry) d ≡ true) ⊎ (listing x.h.live.base.jobs.lists d ≢ None) →
          (is_source (seen x.rules now) d ≡ true) ⊎ (listing x.h.live.base.jobs.lists d ≢ None)
      one d (inl source) = inl (ap (λ (s : Sources). s.is d) (sym same_sources) ∙ source)
      one d (inr known) = inr known

  -- its job, with its end
  abbrev ended_begun : Begun
  ended_begun = with_end (its_begun x) (told_end x.how)

  ended_in : IsIn (without x).begun ended_begun
  ended_in =
      let s = split l x guarding looks guards quiet follows unhalted in
      subst (λ bs. IsIn bs ended_begun) (sym s.are) (in_here s.front s.back ended_begun)

  -- where some plan is in force then, or this is refused of its chain
  pub bridged :
      (next t : Stand) → IsReplanned x.rules (without x) now next →
      GoesBy x.rules x.entry next now (x.before ++ ((wait x ∷ x.closing) ++ (guarding ++ looks))) t →
      (t.halted ≡ None → (plan : Plan) × (t.plan ≡ Some plan)) →
      ((f : Fault) → t.halted ≡ Some f →
      (f ≡ fault.OutOfMemory) ⊎ ChainRefuses x.rules (seen x.rules now) (moments.progress_of now (without x).begun) (lists (without x)) f) →
      IsReplanned x.rules (without x) (closed_world x) next × GoesBy x.rules x.entry next (closed_world x) (x.before ++ wait x ∷ x.closing) t
  bridged next t replanned goes_by planned refused =
      l.plan_before_guarding x.rules x.entry (closed_world x) now x.job ended_begun (without x) next t (x.before ++ wait x ∷ x.closing)
      (x.before ++ ((wait x ∷ x.closing) ++ (guarding ++ looks))) (guarded_since l x guarding looks guards quiet follows) ended_in (ap job_path (begun_job x)) unhalted
      its_derived its_listed replanned goes_by planned refused
