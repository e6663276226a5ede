-- What derived jobs read, and what targets are, are sources or made by jobs.
use Rattle.std.proofs.Common.{◌≡◌, ◌⊎◌, inl, inr, ℕ, Bool, true, List, flat_map, sym, ap, subst, ◌∙◌, None}
use Rattle.smk_world.specs.Trees.{Act, IsIn, Path}
use Rattle.smk_world.specs.World.{in_paths}
use Rattle.smk_pattern.proofs.Names.{numbered_all}
use Rattle.smk_flow.specs.declared.job.Job.{Job}
use Rattle.smk_flow.specs.Flows.{Candidate, Flow}
use Rattle.smk_store.specs.Images.{Image, is_source}
use Rattle.smk_store.specs.Trust.{Versions}
use Rattle.smk_choose.specs.Choose.{Make, Source, choose}
use Rattle.smk_chain.specs.Derive.{Derived, Listings, derivation, job, sources_of, walk}
use Rattle.smk_pick.specs.declared.settings.Settings.{Settings}
use Rattle.smk_plan.specs.States.{IsPlan, Plan, gathers_from, makes, nothing_done}
use Rattle.smk_laws_plan.specs.Current.{HasValidRecords, IsComplete}
use Rattle.smk_pattern.specs.Bound.{BoundFills}
use Rattle.smk_laws_plan.proofs.CurrentFills.{bound_fills_from}
use Rattle.smk_laws_plan.proofs.CurrentLists.{in_left}
use Rattle.smk_laws_plan.proofs.CurrentMeaning.{source_chosen}
use Rattle.smk_laws_plan.proofs.CurrentProducts.{Planned}
use Rattle.smk_laws_plan.proofs.CurrentProducts as products
use Rattle.smk_laws_plan.proofs.CurrentReach.{Reached, choice_known}
use Rattle.smk_laws_plan.proofs.PlanOne.{has_plan, job_makes}
use Rattle.smk_laws_history.proofs.CurrentReads.{wanted_comes}

-- a source, or made by one of these jobs
abbrev pub IsSourceOrMade : Image → List Job → Path → Type 0
IsSourceOrMade image js q = (is_source image q ≡ true) ⊎ ((m : Job) × IsIn js m × (makes m q ≡ true))

module _
    (flow : Flow) (image : Image) (L : Listings) (settings : Settings) (js : List Job) (complete : IsComplete image) (valid : HasValidRecords image)
    (is : derivation flow image L settings.targets ≡ Derived js) where
  abbrev nothing : Act
  nothing r trees = record { status = 0; outputs = List.[] }

  abbrev fields : Job → Bool
  fields j = true

  abbrev versions : Versions
  versions p t = None

  abbrev fills : BoundFills
  fills = bound_fills_from numbered_all

  abbrev plan : Plan
  plan = (has_plan flow image settings nothing_done L js complete is).0

  its_plan : IsPlan flow image settings nothing_done plan
  its_plan = (has_plan flow image settings nothing_done L js complete is).1

  same_jobs : plan.jobs ≡ js
  same_jobs =
      jobs_inj plan.jobs js
      (sym its_plan.derived
      ∙ (ap (λ (lists : Listings). derivation flow image lists settings.targets) (has_plan flow image settings nothing_done L js complete is).2 ∙ is))
    where
      jobs_inj : (x y : List Job) → Derived x ≡ Derived y → x ≡ y
      jobs_inj x y e = cc

  planned : Planned flow image settings nothing_done plan
  planned = record { complete = complete; valid = valid; derived = its_plan }

  abbrev ReachedThere : ℕ → Path → Type 0
  ReachedThere n q = Reached flow (sources_of image) plan.lists (flat_map (walk flow (sources_of image) plan.lists 200) settings.targets) n q

  reached_kind : (n : ℕ) (q : Path) → ReachedThere n q → IsSourceOrMade image js q
  reached_kind n q reached = go (choice_known flow (sources_of image) plan.lists n q reached.calm)
    where
      go : (choose flow (sources_of image) q ≡ Source) ⊎ ((c : Candidate) × (choose flow (sources_of image) q ≡ Make c)) → IsSourceOrMade image js q
      go (inl e) = inl (source_chosen flow (sources_of image) q e)
      go (inr (c, e)) =
          inr (
            job flow plan.lists c,
            subst (λ (ks : List Job). IsIn ks (job flow plan.lists c)) same_jobs
                (products.in_plan_here flow nothing fields image versions settings nothing_done plan fills planned n q c reached e),
            job_makes flow (sources_of image) plan.lists q c e,
          )

  pub target_kind : (q : Path) → IsIn settings.targets q → IsSourceOrMade image js q
  target_kind q i = reached_kind 200 q (products.target_reached flow nothing fields image versions settings nothing_done plan fills planned q i)

  pub input_kind : (k : Job) (q : Path) → IsIn js k → IsIn (in_paths k.recipe) q → IsSourceOrMade image js q
  input_kind k q ik iq =
      let w =
      wanted_comes flow nothing fields image versions settings nothing_done plan planned k q (subst (λ (ks : List Job). IsIn ks k) (sym same_jobs) ik)
      (in_left q (in_paths k.recipe) (gathers_from k) iq)
      in reached_kind w.0 q w.2
