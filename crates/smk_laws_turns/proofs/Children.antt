-- What the children of a run own are users' paths; and what looks leave.
use Rattle.std.proofs.Common.{◌≡◌, ◌⊎◌, inl, inr, true, List, [], ◌∷◌, Option, Some, None, refl, sym, ap, subst, ◌∙◌}
use Rattle.smk_base.specs.Path.{is_at_or_under, is_path}
use Rattle.smk_base.proofs.Apart.{path-own}
use Rattle.smk_base.proofs.Under.{never_both}
use Rattle.smk_world.specs.declared.event.Child.{Child as WorldChild}
use Rattle.smk_world.specs.declared.event.Event.{Event}
use Rattle.smk_world.specs.Calls.{HasOwners, owned_now}
use Rattle.smk_world.specs.Trees.{IsIn, Path}
use Rattle.smk_world.specs.World.{World, owned_paths, reading}
use Rattle.smk_flow.specs.declared.job.Job.{Job}
use Rattle.smk_store.specs.Images.{image_by}
use Rattle.smk_store.specs.Soundness.{SameSources}
use Rattle.smk_job.specs.Jobs.{Underway}
use Rattle.smk_laws_job.specs.Laws.{HasOwnFolder}
use Rattle.smk_laws_history.proofs.CurrentComplete.{seen_is_complete}
use Rattle.smk_laws_plan.proofs.CurrentLists.{flat_in, get_in, in_either, map_in}
use Rattle.smk_drive.specs.Moments.{Rules, seen}
use Rattle.smk_drive_step.specs.declared.children.Child.{Child}
use Rattle.smk_drive_step.specs.Crews.{going_in, goings}
use Rattle.smk_drive_course.specs.Stands.{Stand}
use Rattle.smk_drive_course.specs.Steps.{Deed}
use Rattle.smk_laws_moments.proofs.LooksLike.{IsLike}
use Rattle.smk_laws_plan.specs.Signs.{HasOwnSigns}
use Rattle.smk_laws_turns.specs.Hubs.{IsAt, IsOurs, IsSigned, Parts, child_of}
use Rattle.smk_laws_turns.proofs.JobPaths.{owned, owned_path}
use Rattle.smk_laws_turns.proofs.Ours.{within_some}

-- ## Lists

seated : (places : List (Option Child)) (g : Underway) → IsIn (goings places) g → (c : Child) × IsIn places (Some c) × (g ≡ c.going)
seated places g i = let o = flat_in going_in places g i in go o.0 o.1 o.2
  where
    go : (o : Option Child) → IsIn places o → IsIn (going_in o) g → (c : Child) × IsIn places (Some c) × (g ≡ c.going)
    go None io k = absurd k
    go (Some c) io (inl e) = (c, io, e)
    go (Some c) io (inr k) = absurd k

owned_in : (cs : List WorldChild) (q : Path) → IsIn (owned_now cs) q → (c : WorldChild) × IsIn cs c × IsIn (owned_paths c.recipe c.logs) q
owned_in [] q i = absurd i
owned_in (c ∷ cs) q i = go (in_either q (owned_paths c.recipe c.logs) (owned_now cs) i) (owned_in cs q)
  where
    go :
        IsIn (owned_paths c.recipe c.logs) q ⊎ IsIn (owned_now cs) q →
        (IsIn (owned_now cs) q → (d : WorldChild) × IsIn cs d × IsIn (owned_paths d.recipe d.logs) q) →
        (d : WorldChild) × IsIn (c ∷ cs) d × IsIn (owned_paths d.recipe d.logs) q
    go (inl k) later = (c, inl refl, k)
    go (inr k) later = let r = later k in (r.0, inr r.1, r.2)

module _
    (rules : Rules) (entry : World) (h : Parts) (s : Stand) (w : World) (before : List Event) (deeds : List Deed) (at : IsAt rules entry h s w before deeds)
  where
    abbrev js : List Job
    js = h.live.base.jobs.jobs

    -- the job of a child that runs
    job_of : (g : Underway) → IsIn s.runs g → (j : Job) × IsIn js j × (owned j ≡ owned_paths g.recipe g.logs)
    job_of g i =
        let c = seated h.places g (at.crew.placed g i) in
        let of = at.theirs c.0 c.1 in
        let recipe = of.recipe ∙ sym (ap (λ (x : Underway). x.recipe) c.2) in
        let logs = of.logs ∙ sym (ap (λ (x : Underway). x.logs) c.2) in
        (of.job, get_in js c.0.job of.job of.is, λ n. owned_paths (recipe n) (logs n))

    child_path : (c : WorldChild) (p : Path) → IsIn w.children c → IsIn (owned_paths c.recipe c.logs) p → is_path p ≡ true
    child_path c p i ip =
        let g = map_in child_of s.runs c (subst (λ (cs : List WorldChild). IsIn cs c) at.children i) in
        let j = job_of g.0 g.1 in
        let there : IsIn (owned_paths g.0.recipe g.0.logs) p = subst (λ (x : WorldChild). IsIn (owned_paths x.recipe x.logs) p) g.2 ip in
        owned_path rules.flow (seen rules entry) h.live.base.jobs.lists rules.settings.targets js (seen_is_complete rules.read entry at.home.found) at.derived j.0
        p j.1 (subst (λ ps. IsIn ps p) (sym j.2) there)

    -- no child owns a place in the engine's folder
    pub own_folder_is_free : HasOwners w → HasOwnFolder w
    own_folder_is_free owners q inside is =
        let p = within_some (owned_now w.children) q (owners q is) in
        let c = owned_in w.children p.0 p.1 in
        never_both (is_at_or_under q p.0) p.2 (path-own p.0 q (child_path c.0 p.0 c.1 c.2) inside).at_or_over

-- the run's own is there still where the folder was only looked at
pub ours_stay : (rules : Rules) (entry w v : World) (jobs : List Job) → IsLike w v → IsOurs rules entry jobs w → IsOurs rules entry jobs v
ours_stay rules entry w v jobs like ours =
    let seen_same : seen rules w ≡ seen rules v = λ i. image_by rules.read (like.0 i) (λ q. reading (like.1 i q)) in
    record {
      sources = subst (SameSources (seen rules entry)) seen_same ours.sources;
      signs = subst (λ x. HasOwnSigns (seen rules entry) x jobs) seen_same ours.signs;
      gone = subst (λ x. HasOwnSigns x (seen rules entry) jobs) seen_same ours.gone;
      signed = λ c i. subst (λ x. IsSigned x c.recipe c.logs) seen_same (ours.signed c (subst (λ cs. IsIn cs c) (sym like.2) i));
    }
