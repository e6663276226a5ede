-- What the job that is next gathers from are sources, or have a listing.
use Rattle.std.proofs.Common.{◌≡◌, ◌≢◌, ◌⊎◌, inl, inr, true, List, ◌++◌, sym, ap, subst, ◌∙◌, Some, None, flat_map}
use Rattle.smk_world.specs.declared.event.Event.{Event}
use Rattle.smk_world.specs.World.{World, IsFormed, in_paths}
use Rattle.smk_world.specs.Trees.{IsIn, Path}
use Rattle.smk_flow.specs.declared.job.Job.{Job}
use Rattle.smk_choose.specs.Choose.{Sources}
use Rattle.smk_store.specs.Images.{Image, is_source}
use Rattle.smk_store.specs.Soundness.{SameSources}
use Rattle.smk_chain.specs.Derive.{listing}
use Rattle.smk_trigger.specs.declared.reason.State.{State}
use Rattle.smk_plan.specs.States.{LastPlan, Plan, awaits, directory_over, gathers_from, is_at_hand}
use Rattle.smk_laws_plan.specs.Current.{IsComplete}
use Rattle.smk_laws_plan.proofs.CurrentLists.{all_in, in_left, in_right}
use Rattle.smk_laws_history.proofs.CurrentComplete.{seen_is_complete}
use Rattle.smk_laws_history.proofs.CurrentReads.{sources_alike}
use Rattle.smk_laws_protocol.proofs.Basics.{each_of}
use Rattle.smk_drive.specs.Moments.{IsInForce, Rules, progress_of, seen}
use Rattle.smk_drive_course.specs.Stands.{Stand}
use Rattle.smk_drive_course.specs.Steps.{IsNext}
use Rattle.smk_laws_moments.specs.Staying.{IsListed}
use Rattle.smk_laws_moments.proofs.Gathered.{at_hand_is_listed}
use Rattle.smk_laws_moments.proofs.StandsOn.{last_done}
use Rattle.smk_laws_moments.proofs.Next.{IsStarting, starting}

same_some : (x y : Plan) → Some x ≡ Some y → x ≡ y
same_some x y h = cc

-- the directory is a source of the image, or has a listing
abbrev IsThere : Image → Plan → Path → Type 0
IsThere image plan d = (is_source image d ≡ true) ⊎ (listing plan.lists d ≢ None)

-- so it is by the listings of the plan in force, where the folder has the sources that the run found
pub next_is_listed :
    (rules : Rules) (entry : World) (s : Stand) (w : World) (before : List Event) (e : Job × State) (plan : Plan) →
    IsFormed entry →
    IsFormed w →
    SameSources (seen rules entry) (seen rules w) → s.plan ≡ Some plan → IsNext rules s w before e → IsListed (seen rules entry) plan.lists e.0
next_is_listed rules entry s w before e plan formed formed_now same in_force next =
    subst (λ (p : Plan). IsListed (seen rules entry) p.lists e.0) is (each_of (IsThere (seen rules entry) p.plan) (gathers_from e.0) there)
  where
    p : IsStarting rules s w e
    p = starting rules s w before e next

    is : p.plan ≡ plan
    is = same_some p.plan plan (sym p.in_force ∙ in_force)

    chain : LastPlan rules.flow (seen rules w) rules.settings (progress_of w s.begun) s.from p.plan
    chain = subst (IsInForce rules w s.begun s.from) p.in_force next.clear.planned

    complete : IsComplete (seen rules w)
    complete = seen_is_complete rules.read w formed_now

    from_entry : (d : Path) → IsThere (seen rules w) p.plan d → IsThere (seen rules entry) p.plan d
    from_entry d (inl source) =
        inl
        (ap (λ (S : Sources). S.is d) (sources_alike (seen rules entry) (seen rules w) (seen_is_complete rules.read entry formed) complete same)
        ∙ source)
    from_entry d (inr known) = inr known

    there : (d : Path) → IsIn (gathers_from e.0) d → IsThere (seen rules entry) p.plan d
    there d g =
        from_entry d
        (at_hand_is_listed rules.flow (seen rules w) rules.settings (progress_of w s.begun) p.plan complete p.is_plan e.0 d
        (last_done rules (seen rules w) (progress_of w s.begun) s.from p.plan chain) p.planned g
        (all_in (is_at_hand (seen rules w) rules.settings (progress_of w s.begun) p.plan) (in_paths e.0.recipe ++ awaits p.plan e.0) d p.at_hand
        (in_right d (in_paths e.0.recipe) (awaits p.plan e.0)
        (in_left d (gathers_from e.0) (flat_map (directory_over p.plan) (in_paths e.0.recipe ++ gathers_from e.0)) g))))
