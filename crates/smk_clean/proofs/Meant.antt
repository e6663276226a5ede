-- What the plan for what is asked tells of its jobs.
use Rattle.std.proofs.Common.{◌≡◌, ℕ, true, List, [], flat_map, refl, ap, sym, subst, ◌∙◌, Option, Some, None, is_some}
use Rattle.smk_laws_history.proofs.CurrentLaw.{last_is}
use Rattle.smk_world.specs.World.{World, IsFormed, out_paths}
use Rattle.smk_world.specs.Trees.{Each, IsIn}
use Rattle.smk_record.specs.declared.record.Record.{Record}
use Rattle.smk_flow.specs.declared.job.Job.{Job}
use Rattle.smk_flow.specs.Flows.{Flow}
use Rattle.smk_words_reading.specs.declared.asked.RunWords.{RunWords}
use Rattle.smk_store.specs.Images.{Image, core_at, seen}
use Rattle.smk_store.specs.Trust.{holder}
use Rattle.smk_chain.specs.Derive.{distinct, job, same_candidate, sources_of, walk}
use Rattle.smk_pick.specs.declared.settings.Settings.{Settings}
use Rattle.smk_plan.specs.States.{Plan, IsPlan, nothing_done, makes}
use Rattle.smk_laws_protocol.proofs.Basics.{each_in}
use Rattle.smk_laws_plan.specs.Current.{IsComplete}
use Rattle.smk_laws_history.proofs.CurrentComplete.{seen_is_complete}
use Rattle.smk_laws_plan.proofs.CurrentLists.{distinct_in, flat_in, map_in}
use Rattle.smk_laws_plan.proofs.CurrentPaths.{in_among}
use Rattle.smk_laws_plan.proofs.CurrentWalked.{walked_chosen}
use Rattle.smk_laws_plan.proofs.PlanOne.{chosen_makes, derived}
use Rattle.smk_plan.specs.declared.duty.Duty.{Duty}
use Rattle.smk_plan_duties.specs.Meaning.{IsSpokenFor, AreMeant}
use Rattle.smk_make.specs.Making.{AreWhatIsMeant}
use Rattle.smk_cli_entry.specs.declared.asking.Asked.{Asked}
use Rattle.smk_plan_preview.specs.declared.previewing.Previewed.{Previewed}
use Rattle.smk_plan_preview.specs.Previewing.{plan_of}
use Rattle.smk_cli_calls.specs.Serving.{IsPlanFor, settings_of}
use Rattle.smk_safe.specs.Planned.{IsPlain}
use Rattle.smk_safe.proofs.Images.{holder_own}
use Rattle.smk_safe.proofs.Planned.{plain_makes}
use Rattle.smk_safe.specs.Dues.{TellsMakers}
use Rattle.smk_plan_preview.proofs.Agreed.{own_records}
use Rattle.smk_cli_calls.specs.OneByOne.{IsPlainFlow}
use Rattle.smk_cli_calls.proofs.Plain.{each_from}
use Rattle.smk_clean.proofs.Plain.{planned_plain}
use Rattle.smk_clean.proofs.Told.{tells_makers}

-- each job of a plan makes something
making : (flow : Flow) (image : Image) (settings : Settings) (plan : Plan) → IsComplete image → IsPlan flow image settings nothing_done plan → Each IsPlain plan.jobs → (j : Job) → IsIn plan.jobs j → out_paths j.recipe ≡ [] → ⊥
making flow image settings plan complete is_plan plain j i none =
    let L = plan.lists in
    let all = flat_map (walk flow (sources_of image) L 200) settings.targets in
    let is = derived flow image L settings.targets plan.jobs complete is_plan.derived in
    let m = map_in (job flow L) (distinct same_candidate all) j (subst (λ js. IsIn js j) (sym is.1) i) in
    let u = flat_in (walk flow (sources_of image) L 200) settings.targets m.0 (distinct_in same_candidate all m.0 m.1) in
    let p = walked_chosen flow (sources_of image) L 200 u.0 m.0 u.2 in
    let made : makes j p.0 ≡ true = ap (λ (k : Job). makes k p.0) m.2 ∙ chosen_makes flow image L settings.targets plan.jobs complete is_plan.derived p.0 m.0 p.1 in
    subst (λ ps. IsIn ps p.0) none (plain_makes j p.0 (each_in IsPlain plan.jobs j plain i) made)

-- the record of what a plain job makes speaks for it
spoken : (image : Image) (j : Job) → IsPlain j → IsSpokenFor image j
spoken image j plain q made each =
    let i = plain_makes j q plain made in
    (q, own (core_at image q) refl (each_in (λ p. is_some (core_at image p) ≡ true) (out_paths j.recipe) q each i), in_among (out_paths j.recipe) q i)
  where
    own : (o : Option Record) → core_at image q ≡ o → is_some o ≡ true → holder image q ≡ Some q
    own None e h = cc
    own (Some r) e h = holder_own image q r e

module _ (read : List ℕ → Option Record) (w : World) (formed : IsFormed w) (asked : Asked) (plain : IsPlainFlow asked.flow) (words : RunWords) (told : Previewed) (is : IsPlanFor read asked words w told) where
  abbrev image : Image
  image = seen read w

  abbrev settings : Settings
  settings = settings_of asked words

  abbrev plan : Plan
  plan = plan_of told

  pub is_plan : IsPlan asked.flow image settings nothing_done plan
  is_plan = last_is asked.flow image settings nothing_done [] plan is.last

  pub all_plain : Each IsPlain plan.jobs
  all_plain = planned_plain asked.flow image settings nothing_done plan (seen_is_complete read w formed) plain is_plan

  pub makers_told : TellsMakers told.jobs.makers plan
  makers_told = tells_makers image settings told.jobs told.plan.states is_plan.states asked.targets is.served

  pub duties_meant : (duties : List Duty) → AreWhatIsMeant told.jobs told.plan.states told.store duties → AreMeant image plan.jobs plan.states duties
  duties_meant duties meant =
      meant image settings [] asked.targets is.stored
      (record {
        solved = is_plan.states;
        served = is.served;
        making = each_from (λ (j : Job). out_paths j.recipe ≡ [] → ⊥) told.jobs.jobs (making asked.flow image settings plan (seen_is_complete read w formed) is_plan all_plain);
        spoken = each_from (IsSpokenFor image) told.jobs.jobs (λ j i. spoken image j (each_in IsPlain told.jobs.jobs j all_plain i));
        owned = own_records read w;
      })
