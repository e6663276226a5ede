-- What the children of a run own while its plan grows: outputs and logs of jobs that run, which are marked and noted.
use Rattle.std.proofs.Common.{◌≡◌, ◌⊎◌, inl, inr, true, false, ◌||◌, List, [], ◌∷◌, Option, Some, None, refl, sym, ap, subst, ◌∙◌}
use Rattle.std.specs.List.{slice_get}
use Rattle.smk_base.specs.Path.{is_at_or_under, is_path, is_under, overlaps}
use Rattle.smk_base.proofs.Apart.{path-own}
use Rattle.smk_base.proofs.Under.{at_or_under_cases, never_both, or_cases, or_first, or_second, overlaps_above_both}
use Rattle.smk_world.specs.declared.event.Child.{Child as WorldChild}
use Rattle.smk_world.specs.declared.event.NodeState.TheVariants.{Owned}
use Rattle.smk_world.specs.declared.recipe.Recipe.{Recipe}
use Rattle.smk_world.specs.Calls.{owned_now}
use Rattle.smk_world.specs.Trees.{IsIn, Path}
use Rattle.smk_world.specs.World.{World, folders_above, is_within, out_paths, owned_paths}
use Rattle.smk_flow.specs.declared.job.Job.{Job}
use Rattle.smk_store.specs.Images.{Image, is_covered, is_known, stands}
use Rattle.smk_store.specs.Loading.{store_folder}
use Rattle.smk_store.specs.Unowned.{IsUnownedUnder}
use Rattle.smk_chain_sight.proofs.Stand.{covered_under}
use Rattle.smk_plan_live.specs.declared.phase.Phase.TheVariants.{Running}
use Rattle.smk_job.specs.Jobs.{Underway}
use Rattle.smk_drive.specs.Moments.{Begun, Rules, seen}
use Rattle.smk_drive_step.specs.declared.children.Child.{Child}
use Rattle.smk_drive_step.specs.Crews.{going_in, goings}
use Rattle.smk_drive_course.specs.Stands.{Stand}
use Rattle.std.specs.List.{list_any}
use Rattle.smk_laws_plan.specs.Current.{IsComplete}
use Rattle.smk_laws_plan.proofs.CurrentLists.{flat_in, get_in, in_either, map_in}
use Rattle.smk_laws_plan.proofs.CurrentPaths.{in_among}
use Rattle.smk_laws_history.proofs.CurrentComplete.{seen_is_complete}
use Rattle.smk_laws_moments.proofs.Spots.{owned}
use Rattle.smk_laws_turns.specs.Growing.{IsBeside}
use Rattle.smk_laws_turns.specs.Hubs.{IsSigned, Parts, child_of}
use Rattle.smk_laws_turns.specs.Onward.{IsOnward}
use Rattle.smk_laws_turns.proofs.Makers.{owned_is_path}

-- ## Lists

-- a child in a place
seated : (places : List (Option Child)) (g : Underway) → IsIn (goings places) g → (c : Child) × IsIn places (Some c) × (g ≡ c.going)
seated places g i = let o = flat_in going_in places g i in go o.0 o.1 o.2
  where
    go : (o : Option Child) → IsIn places o → IsIn (going_in o) g → (c : Child) × IsIn places (Some c) × (g ≡ c.going)
    go None io k = absurd k
    go (Some c) io (inl e) = (c, io, e)
    go (Some c) io (inr k) = absurd k

within_in : (q : Path) (ps : List Path) → is_within q ps ≡ true → (p : Path) × IsIn ps p × (is_at_or_under q p ≡ true)
within_in q [] h = absurd (never_both false h refl)
within_in q (p ∷ ps) h = go (or_cases (is_at_or_under q p) (is_within q ps) h) (within_in q ps)
  where
    go : (is_at_or_under q p ≡ true) ⊎ (is_within q ps ≡ true) → (is_within q ps ≡ true → (r : Path) × IsIn ps r × (is_at_or_under q r ≡ true)) →
        (r : Path) × IsIn (p ∷ ps) r × (is_at_or_under q r ≡ true)
    go (inl at) deeper = (p, inl refl, at)
    go (inr later) deeper = let r = deeper later in (r.0, inr r.1, r.2)

owned_in : (cs : List WorldChild) (q : Path) → IsIn (owned_now cs) q → (c : WorldChild) × IsIn cs c × IsIn (owned_paths c.recipe c.logs) q
owned_in [] q i = absurd i
owned_in (c ∷ cs) q i = go (in_either q (owned_paths c.recipe c.logs) (owned_now cs) i) (owned_in cs q)
  where
    go :
        IsIn (owned_paths c.recipe c.logs) q ⊎ IsIn (owned_now cs) q →
        (IsIn (owned_now cs) q → (d : WorldChild) × IsIn cs d × IsIn (owned_paths d.recipe d.logs) q) →
        (d : WorldChild) × IsIn (c ∷ cs) d × IsIn (owned_paths d.recipe d.logs) q
    go (inl k) later = (c, inl refl, k)
    go (inr k) later = let r = later k in (r.0, inr r.1, r.2)

-- what is known at a path covers it and all that is under it
covered_by : (image : Image) (q p : Path) → is_at_or_under q p ≡ true → is_known image p ≡ true → is_covered image q ≡ true
covered_by image q p at known = go (at_or_under_cases q p at)
  where
    here : is_covered image p ≡ true
    here = or_first (is_known image p) (list_any (is_known image) (folders_above p)) known

    go : (q ≡ p) ⊎ (is_under q p ≡ true) → is_covered image q ≡ true
    go (inl e) = ap (is_covered image) e ∙ here
    go (inr under) = covered_under image q p here under

-- ## Children

-- The child is that of this job of the plan, which has begun and runs.
pub record IsChildAt (h : Parts) (begun : List Begun) (recipe : Recipe) (logs : List Path) : Type 0 where
  pub place : Child
  pub placed : IsIn h.places (Some place)
  pub job : Job
  pub is : slice_get h.live.base.jobs.jobs place.job ≡ Some job
  pub of_plan : IsIn h.live.base.jobs.jobs job
  pub same_recipe : job.recipe ≡ recipe
  pub same_logs : job.logs ≡ logs
  pub as_begun : Begun
  pub has_begun : IsIn begun as_begun
  pub is_job : as_begun.job ≡ job
  pub runs : slice_get h.live.base.phases place.job ≡ Some Running

-- A child's job and a path that it owns, at or above this one.
pub record IsOwnedBy (h : Parts) (begun : List Begun) (cs : List WorldChild) (q : Path) : Type 0 where
  pub child : WorldChild
  pub runs_now : IsIn cs child
  pub of : IsChildAt h begun child.recipe child.logs
  pub path : Path
  pub owns : IsIn (owned_paths child.recipe child.logs) path
  pub of_job : IsIn (owned of.job) path
  pub inside : is_at_or_under q path ≡ true

module _ (rules : Rules) (entry w : World) (u : Stand) (h : Parts) (at : IsOnward rules entry w u h) where
  abbrev js : List Job
  js = h.live.base.jobs.jobs

  abbrev image : Image
  image = seen rules w

  complete_first : IsComplete (seen rules entry)
  complete_first = seen_is_complete rules.read entry at.home.found

  job_of : (g : Underway) → IsIn u.runs g → IsChildAt h u.begun g.recipe g.logs
  job_of g i =
      let c = seated h.places g (at.crew.placed g i) in
      let of = at.theirs c.0 c.1 in
      record {
        place = c.0;
        placed = c.1;
        job = of.job;
        is = of.is;
        of_plan = get_in js c.0.job of.job of.is;
        same_recipe = of.recipe ∙ sym (ap (λ (x : Underway). x.recipe) c.2);
        same_logs = of.logs ∙ sym (ap (λ (x : Underway). x.logs) c.2);
        as_begun = of.as_begun;
        has_begun = of.has_begun;
        is_job = of.is_job;
        runs = at.running c.0 c.1;
      }

  job_of_child : (c : WorldChild) → IsIn w.children c → IsChildAt h u.begun c.recipe c.logs
  job_of_child c i =
      let g = map_in child_of u.runs c (subst (λ cs. IsIn cs c) at.children i) in
      subst (λ (x : WorldChild). IsChildAt h u.begun x.recipe x.logs) (sym g.2) (job_of g.0 g.1)

  pub owner_of : (q : Path) → w.nodes q ≡ Owned → IsOwnedBy h u.begun w.children q
  owner_of q is =
      let o = within_in q (owned_now w.children) (at.owners q is) in
      let c = owned_in w.children o.0 o.1 in
      let of = job_of_child c.0 c.1 in
      let owns : owned_paths c.0.recipe c.0.logs ≡ owned of.job = λ i. owned_paths (sym of.same_recipe i) (sym of.same_logs i) in
      record {
        child = c.0;
        runs_now = c.1;
        of = of;
        path = o.0;
        owns = c.2;
        of_job = subst (λ ps. IsIn ps o.0) owns c.2;
        inside = o.2;
      }

  owner_path : (q : Path) (by : IsOwnedBy h u.begun w.children q) → is_path by.path ≡ true
  owner_path q by =
      owned_is_path rules.flow (seen rules entry) h.live.base.jobs.lists rules.settings.targets js complete_first at.derived by.of.job by.path by.of.of_plan by.of_job

  -- what a child owns is marked or noted
  owner_known : (q : Path) (by : IsOwnedBy h u.begun w.children q) → is_known image by.path ≡ true
  owner_known q by = go (in_either by.path (out_paths by.child.recipe) by.child.logs by.owns)
    where
      signed : IsSigned image by.child.recipe by.child.logs
      signed = at.ours.signed by.child by.runs_now

      go : IsIn (out_paths by.child.recipe) by.path ⊎ IsIn by.child.logs by.path → is_known image by.path ≡ true
      go (inl out) =
          or_second (stands (image.kept by.path)) (image.marked by.path || image.noted by.path)
          (or_first (image.marked by.path) (image.noted by.path) (signed.marked by.path (in_among (out_paths by.child.recipe) by.path out)))
      go (inr log) =
          or_second (stands (image.kept by.path)) (image.marked by.path || image.noted by.path)
          (or_second (image.marked by.path) (image.noted by.path) (signed.noted by.path (in_among by.child.logs by.path log)))

  own_is_free : IsUnownedUnder w.nodes store_folder
  own_is_free q under owned =
      let by = owner_of q owned in
      never_both (overlaps store_folder by.path) (overlaps_above_both q store_folder by.path under by.inside)
      (path-own by.path store_folder (owner_path q by) refl).overlapped

  pub beside : IsBeside rules.read w
  beside =
      record {
        own = own_is_free;
        covered = λ store stored q text owned.
            let by = owner_of q owned in stored.covered q ∙ covered_by image q by.path by.inside (owner_known q by);
      }
