-- What has a flag is an output of its job.
use Rattle.std.proofs.Common.{◌≡◌, List, filter, sym, subst}
use Rattle.smk_world.specs.World.{out_paths}
use Rattle.smk_world.specs.Trees.{Path, Each, IsIn}
use Rattle.smk_pattern.specs.Reading.{fill}
use Rattle.smk_flow.specs.declared.job.Job.{Job}
use Rattle.smk_flow.specs.declared.rule.Flag.{Flag}
use Rattle.smk_flow.specs.declared.rule.Flag.TheVariants.{Temp, Protected}
use Rattle.smk_flow.specs.declared.rule.FlaggedText.{FlaggedText}
use Rattle.smk_flow.specs.Flows.{Flow, outs, outputs}
use Rattle.smk_flow.specs.Jobs.{flagged, is_flagged}
use Rattle.smk_store.specs.Images.{Image}
use Rattle.smk_chain.specs.Derive.{Derived, Listings, derivation}
use Rattle.smk_laws_plan.specs.Current.{IsComplete}
use Rattle.smk_laws_plan.proofs.CurrentLists.{filter_in, in_map, map_in}
use Rattle.smk_laws_protocol.proofs.Basics.{each_of}
use Rattle.smk_laws_moments.proofs.OwnSites.{IsOfRule, of_rule, outs_are}

module _ (flow : Flow) (image : Image) (L : Listings) (targets : List Path) (js : List Job) (complete : IsComplete image)
    (is : derivation flow image L targets ≡ Derived js) where
  flagged_output : (flag : Flag) (k : Job) (p : Path) (r : IsOfRule flow image L targets js complete is k) →
      IsIn (flagged r.candidate.binding flag (outs r.candidate.part)) p → IsIn (out_paths k.recipe) p
  flagged_output flag k p r i =
      let c = r.candidate in
      let text = λ (o : FlaggedText). fill c.binding o.text in
      let o = map_in text (filter (is_flagged flag) (outs c.part)) p i in
      let made = subst (λ q. IsIn (outputs flow c) q) (sym o.2) (in_map text (outs c.part) o.0 (filter_in (is_flagged flag) (outs c.part) o.0 o.1).0) in
      subst (λ (j : Job). IsIn (out_paths j.recipe) p) (sym r.is_job) (subst (λ ps. IsIn ps p) (sym (outs_are flow image L targets js complete is c)) made)

  pub temp_output : (k : Job) (p : Path) → IsIn js k → IsIn k.temps p → IsIn (out_paths k.recipe) p
  temp_output k p ik i = let r = of_rule flow image L targets js complete is k ik in flagged_output Temp k p r (subst (λ (j : Job). IsIn j.temps p) r.is_job i)

  pub guard_outputs : (k : Job) → IsIn js k → Each (IsIn (out_paths k.recipe)) k.guards
  guard_outputs k ik =
      let r = of_rule flow image L targets js complete is k ik in
      each_of (IsIn (out_paths k.recipe)) k.guards (λ p i. flagged_output Protected k p r (subst (λ (j : Job). IsIn j.guards p) r.is_job i))
