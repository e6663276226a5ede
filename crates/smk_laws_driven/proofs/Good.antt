-- Where each target has a clean value the jobs whose children run can't fail on clean inputs.
use Rattle.std.proofs.Common.{Bool, ◌≡◌, ◌≢◌, ◌⊎◌, inl, inr, true, List, refl, sym, ap, subst, Option, Some, None, is_none, is_some}
use Rattle.smk_world.specs.World.{World, IsFormed, reading}
use Rattle.smk_world.specs.Trees.{Act, IsIn, Path}
use Rattle.smk_flow.specs.declared.job.Job.{Job}
use Rattle.smk_flow.specs.Flows.{Candidate}
use Rattle.smk_store.specs.Images.{Image, is_source}
use Rattle.smk_store.specs.Soundness.{SameSources}
use Rattle.smk_chain.specs.Derive.{chosen, job, listing, sources_of}
use Rattle.smk_chain.specs.Mean.{Setting, setting_of}
use Rattle.smk_plan.specs.States.{IsPlan, Plan, Progress, gathers_from}
use Rattle.smk_laws_plan.specs.Current.{HasValidRecords, IsComplete}
use Rattle.smk_laws_plan.proofs.CurrentLists.{map_in}
use Rattle.smk_laws_history.proofs.CurrentComplete.{seen_is_complete}
use Rattle.smk_laws_history.proofs.CurrentLaw.{last_is}
use Rattle.smk_laws_history.proofs.Valid.{records_valid}
use Rattle.smk_laws_complete.specs.Derived.{AllHaveValues, AreRight, GathersAlone, HasListings, IsGoodJob}
use Rattle.smk_laws_complete.proofs.Goods.{derived_jobs_are_good}
use Rattle.smk_laws_complete.specs.Listed.{AreMeant, all_known}
use Rattle.smk_laws_complete.proofs.Right.{meant_are_right}
use Rattle.smk_laws_protocol.proofs.Basics.{each_in}
use Rattle.smk_job.specs.Jobs.{Underway}
use Rattle.smk_drive.specs.Moments.{IsInForce, Rules, lists_of, progress_of, seen}
use Rattle.smk_drive_course.specs.Stands.{Stand, lists}
use Rattle.smk_laws_moments.specs.Staying.{IsDerivedStill}
use Rattle.smk_laws_driven.proofs.Leaving.{clear_plan}
use Rattle.smk_laws_driven.proofs.Lasting.{WasClear, clear_force}
use Rattle.smk_laws_driven.proofs.Listed.{same_setting}

listed_some : (o : Option (List Path)) → o ≢ None → is_some o ≡ true
listed_some None h = absurd (h refl)
listed_some (Some files) h = refl

-- listings that are meant are right for the jobs of a plan, from whichever folder with the same sources
pub right_at :
    (act : Act) (rules : Rules) (first image : Image) (progress : Progress) (plan : Plan) (fields : Job → Bool) → IsComplete first → IsComplete image →
    HasValidRecords image → SameSources first image → IsPlan rules.flow image rules.settings progress plan →
    AreMeant (setting_of rules.flow act all_known first) plan.lists rules.settings.targets →
    AreRight (setting_of rules.flow act fields first) plan.lists rules.settings.targets
right_at act rules first image progress plan fields complete complete_now valid same is meant =
    subst (λ (X : Setting). AreRight X plan.lists rules.settings.targets) (sym (same_setting rules.flow act fields first image complete complete_now same))
    (meant_are_right rules.flow act image rules.settings progress plan
    (record {
      complete = complete_now;
      valid = valid;
      is_plan = is;
      meant =
          subst (λ (X : Setting). AreMeant X plan.lists rules.settings.targets) (same_setting rules.flow act all_known first image complete complete_now same)
          meant;
    })
    fields)

module _ (act : Act) (rules : Rules) (entry : World) (formed_first : IsFormed entry) where
  abbrev fields : Job → Bool
  fields j = is_none (rules.missing j)

  abbrev pub S : Setting
  S = setting_of rules.flow act fields (seen rules entry)

  abbrev Known : Setting
  Known = setting_of rules.flow act all_known (seen rules entry)

  -- The listings of all plans so far are right, where a plan is in force.
  pub stand_right :
      (s : Stand) (w : World) → IsFormed w → SameSources (seen rules entry) (seen rules w) → WasClear act rules entry s w →
      AreMeant Known (lists s) rules.settings.targets → AreRight S (lists s) rules.settings.targets
  stand_right s w formed same clear meant =
      let p = clear_plan rules s clear.there clear.events clear.formed clear.clear in
      let lists_are : lists s ≡ (p.0).lists = ap (λ x. lists_of x s.from) p.1 in
      let force = subst (IsInForce rules w s.begun s.from) p.1 (clear_force act rules entry s w clear) in
      subst (λ L. AreRight S L rules.settings.targets) (sym lists_are)
      (right_at act rules (seen rules entry) (seen rules w) (progress_of w s.begun) p.0 fields (seen_is_complete rules.read entry formed_first)
      (seen_is_complete rules.read w formed) (records_valid rules.read w.names (λ q. reading (w.nodes q))) same
      (last_is rules.flow (seen rules w) rules.settings (progress_of w s.begun) s.from p.0 force)
      (subst (λ L. AreMeant Known L rules.settings.targets) lists_are meant))

  -- The job of a child that runs is good.
  module _ (s : Stand) (right : AreRight S (lists s) rules.settings.targets) (alone : GathersAlone rules.flow) (values : AllHaveValues S rules.settings.targets)
      (g : Underway) (still : IsDerivedStill rules entry s g) where
    pub by : (c : Candidate) × IsIn (chosen S.flow S.sources (lists s) rules.settings.targets) c × (still.begun.job ≡ job S.flow (lists s) c)
    by = map_in (job rules.flow (lists s)) (chosen rules.flow (sources_of (seen rules entry)) (lists s) rules.settings.targets) still.begun.job still.derived

    has : HasListings S (lists s) by.0
    has f i =
        elim
        (each_in (λ d. (is_source (seen rules entry) d ≡ true) ⊎ (listing (lists s) d ≢ None)) (gathers_from still.begun.job) f still.listed
        (subst (λ (x : Job). IsIn (gathers_from x) f) (sym by.2) i)) [
          | inl e ↦ inl e
          | inr some ↦ inr (listed_some (listing (lists s) f) some)
        ]

    pub good : IsGoodJob S (lists s) by.0
    good = derived_jobs_are_good S (lists s) rules.settings.targets alone values right by.0 by.1 has
