-- What plans are whose listings tell what a clean run makes.
use Rattle.std.specs.Prelude.{◌≡◌, Bool, List, [], ◌++◌, Some}
use Rattle.std.specs.List.{flat_map}
use Rattle.smk_world.specs.Trees.{Act, IsIn, Path}
use Rattle.smk_flow.specs.declared.job.Job.{Job}
use Rattle.smk_flow.specs.Flows.{Candidate, Flow}
use Rattle.smk_store.specs.Images.{Image}
use Rattle.smk_store.specs.Soundness.{Sound}
use Rattle.smk_store.specs.Trust.{SumsDiffer, Versions}
use Rattle.smk_chain.specs.Derive.{Listings, chosen, clashes, jobs, listing, sources_of, spots}
use Rattle.smk_chain.specs.Mean.{setting_of}
use Rattle.smk_pick.specs.declared.settings.Settings.{Settings}
use Rattle.smk_plan.specs.States.{IsPlan, Plan, Progress, is_restored, new_listings}
use Rattle.smk_laws_plan.specs.Current.{HasValidRecords, IsComplete, eased_by}
use Rattle.smk_laws_complete.specs.Derived.{AllHaveValues, AreRight, GathersAlone, HasListings, IsGoodJob}
use Rattle.smk_laws_complete.specs.Listed.{AreMeant, IsMeant, all_known}

-- A plan in a complete image, with listings that are meant: those of clean values of directories from which its jobs gather, or of what its jobs make of clean
-- values at their outputs.
pub record IsMeantPlan (flow : Flow) (act : Act) (image : Image) (settings : Settings) (progress : Progress) (plan : Plan) : Type 0 where
  pub complete : IsComplete image
  pub valid : HasValidRecords image
  pub is_plan : IsPlan flow image settings progress plan
  pub meant : AreMeant (setting_of flow act all_known image) plan.lists settings.targets

-- P of each such plan
abbrev pub OfMeantPlan : (Flow → Act → Image → Settings → Progress → Plan → Type 0) → Type 0
OfMeantPlan P =
    (flow : Flow) (act : Act) (image : Image) (settings : Settings) (progress : Progress) (plan : Plan) →
    IsMeantPlan flow act image settings progress plan → P flow act image settings progress plan

-- Its listings are right for its jobs, whichever fields of commands have values.
abbrev pub MeantAreRight : Type 0
MeantAreRight =
    OfMeantPlan
    (λ flow act image settings progress plan. (has_fields : Job → Bool) →
    AreRight (setting_of flow act has_fields image) plan.lists settings.targets)

-- So where each target has a clean value each of its jobs whose listings are known succeeds on clean inputs.
abbrev pub MeantJobsAreGood : Type 0
MeantJobsAreGood =
    OfMeantPlan
    (λ flow act image settings progress plan. (has_fields : Job → Bool) (c : Candidate) →
    GathersAlone flow →
    AllHaveValues (setting_of flow act has_fields image) settings.targets →
    IsIn (chosen flow (sources_of image) plan.lists settings.targets) c →
    HasListings (setting_of flow act has_fields image) plan.lists c → IsGoodJob (setting_of flow act has_fields image) plan.lists c)

-- each of these listings is one that is meant by the plan
abbrev pub AreMeantBy : Flow → Act → Image → Settings → Plan → Listings → Type 0
AreMeantBy flow act image settings plan more =
    (f : Path) (files : List Path) →
    listing (plan.lists ++ more) f ≡ Some files → IsMeant (setting_of flow act all_known image) plan.lists settings.targets f files

-- With what becomes known by the plan, in an image that is sound, where the marks of jobs that run as a Restore are left out, all listings are such.
abbrev pub NewAreMeant : Type 0
NewAreMeant =
    OfMeantPlan
    (λ flow act image settings progress plan. (H : Versions) →
    SumsDiffer H →
    Sound act H image (eased_by image (is_restored image settings progress plan)) →
    AreMeantBy flow act image settings plan (new_listings image settings progress plan))

-- With such listings besides, the listings are right for the jobs that are derived with them, if these don't clash.
abbrev pub MoreAreRight : Type 0
MoreAreRight =
    OfMeantPlan
    (λ flow act image settings progress plan. (has_fields : Job → Bool) (more : Listings) (other : Image) →
    AreMeantBy flow act image settings plan more →
    clashes other [] (flat_map spots (jobs flow (sources_of image) (plan.lists ++ more) settings.targets)) ≡ [] →
    AreRight (setting_of flow act has_fields image) (plan.lists ++ more) settings.targets)
