-- The inputs of a job that are at hand: sources, or products whose record has no mark.
use Rattle.std.proofs.Common.{◌≡◌, inl, inr, ℕ, Bool, true, false, ◌&&◌, ◌||◌, not, sym, ap, ◌∙◌, Option, Some, None, true≢false}
use Rattle.std.specs.Prelude.{is_none}
use Rattle.smk_world.specs.World.{in_paths}
use Rattle.smk_world.specs.Trees.{Act, IsIn, Path}
use Rattle.smk_flow.specs.declared.job.Job.{Job}
use Rattle.smk_flow.specs.Flows.{Candidate, Flow}
use Rattle.smk_pattern.proofs.Names.{numbered_all}
use Rattle.smk_pattern.specs.Bound.{BoundFills}
use Rattle.smk_store.specs.Images.{Image}
use Rattle.smk_store.specs.Trust.{Versions}
use Rattle.smk_choose.specs.Choose.{Make, choose}
use Rattle.smk_chain.specs.Derive.{job, sources_of}
use Rattle.smk_trigger.specs.declared.reason.State.{State}
use Rattle.smk_pick.specs.declared.settings.Settings.{Settings}
use Rattle.smk_plan.specs.States.{Plan, Progress, gathers_from, is_at_hand, is_ready, is_restored, maker_of}
use Rattle.smk_laws_plan.proofs.CurrentChosen.{chosen_viable}
use Rattle.smk_laws_plan.proofs.CurrentFills.{bound_fills_from}
use Rattle.smk_laws_plan.proofs.CurrentLists.{in_left}
use Rattle.smk_laws_plan.proofs.CurrentMeaning.{source_chosen}
use Rattle.smk_laws_plan.proofs.CurrentProducts as products
use Rattle.smk_laws_plan.proofs.CurrentProducts.{Planned, ReachedHere}
use Rattle.smk_laws_plan.proofs.CurrentReach.{choice_known}
use Rattle.smk_laws_plan.proofs.PlanOne.{job_makes}
use Rattle.smk_laws_history.proofs.CurrentReads.{wanted_comes}
use Rattle.smk_laws_moments.proofs.Inputs.{maker_is, state_in}
use Rattle.smk_laws_begins.proofs.Stamped.{IsClearInput, IsProduct, IsSource}

-- two options of which the first is there
has_maker : (o : Option (Job × State)) (m : Job × State) (ready : Bool) → o ≡ Some m → (is_none o || ready) ≡ true → ready ≡ true
has_maker None m ready e h = absurd (not_none e)
  where
    not_none : None ≡ Some m → ⊥
    not_none x = cc
has_maker (Some n) m ready e h = h

module _
    (flow : Flow) (act : Act) (image : Image) (settings : Settings) (progress : Progress) (plan : Plan)
    (rest : Planned flow image settings progress plan) where
  abbrev fields : Job → Bool
  fields j = true

  abbrev versions : Versions
  versions p t = None

  abbrev fills : BoundFills
  fills = bound_fills_from numbered_all

  abbrev Comes : Path → Type 0
  Comes q = (n : ℕ) × ReachedHere flow act fields image versions settings progress plan n q

  unmarked : (a b : Bool) → b ≡ false → (a && not b) ≡ false → a ≡ false
  unmarked true b x y = absurd (true≢false (sym (ap not x) ∙ y))
  unmarked false b x y = y

  product_clear :
      (q : Path) (c : Candidate) → Comes q → choose flow (sources_of image) q ≡ Make c → is_ready image settings progress plan q ≡ true → IsClearInput image q
  product_clear q c reached e ready =
      let parts = products.ready_parts flow act fields image versions settings progress plan fills rest reached.0 q c reached.1 e ready in
      let found = products.quiet_product flow act fields image versions settings progress plan fills rest reached.0 q c reached.1 e parts.0 in
      let h = found.0 in
      let product = found.2 in
      let left = products.not_restored flow act fields image versions settings progress plan fills rest reached.0 q c h reached.1 e ready product.is_output in
      IsProduct h (chosen_viable flow (sources_of image) q c e).1 product.holds
      (unmarked (image.marked h) (is_restored image settings progress plan h) left product.unmarked)

  pub input_clear :
      (j : Job) (q : Path) → IsIn plan.jobs j → IsIn (in_paths j.recipe) q → is_at_hand image settings progress plan q ≡ true → IsClearInput image q
  input_clear j q ij iq hand =
      let comes = wanted_comes flow act fields image versions settings progress plan rest j q ij (in_left q (in_paths j.recipe) (gathers_from j) iq) in
      let reached : Comes q = (comes.0, comes.2) in
      elim (choice_known flow (sources_of image) plan.lists reached.0 q reached.1.calm) [
        | inl e ↦ IsSource (source_chosen flow (sources_of image) q e)
        | inr c ↦
            let k = job flow plan.lists c.0 in
            let planned = products.in_plan_here flow act fields image versions settings progress plan fills rest reached.0 q c.0 reached.1 c.1 in
            let is = maker_is flow act image settings progress plan rest k q planned (job_makes flow (sources_of image) plan.lists q c.0 c.1) in
            product_clear q c.0 reached c.1
            (has_maker (maker_of plan q) (k, state_in flow act image settings progress plan rest k) (is_ready image settings progress plan q) is hand)
      ]
