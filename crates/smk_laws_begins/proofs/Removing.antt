-- One output more is removed, and the plan is told of it.
use Rattle.std.proofs.Common.{◌≡◌, Bool, true, false, List, [], ◌∷◌, refl, sym, ap, subst, ◌∙◌, Some, None, Result}
use Rattle.std.specs.Prelude.{IsTrue}
use Rattle.smk_world.specs.declared.event.Event.{Event}
use Rattle.smk_world.specs.declared.recipe.Out.{Out}
use Rattle.smk_world.specs.Requests.{HasDone}
use Rattle.smk_world.specs.Requests.Request.{Remove}
use Rattle.smk_world.specs.Runs.{Follows}
use Rattle.smk_world.specs.Trees.{Act, Each, IsIn, Path, outs_of}
use Rattle.smk_world.specs.World.{World, after, out_paths}
use Rattle.smk_flow.specs.declared.job.Job.{Job}
use Rattle.smk_flow.specs.Flows.{Flow}
use Rattle.smk_store.specs.Stores.{entry_of}
use Rattle.smk_chain.specs.declared.jobs.Jobs.{Jobs}
use Rattle.smk_chain.specs.Derive.{Derived, derivation}
use Rattle.smk_laws_history.proofs.CurrentComplete.{seen_is_complete}
use Rattle.smk_laws_plan.proofs.CurrentPaths.{in_among}
use Rattle.smk_pick.specs.declared.settings.Settings.{Settings}
use Rattle.smk_plan.specs.Sights.{IsSeenAs}
use Rattle.smk_plan_facts.specs.Telling.{kept_of}
use Rattle.smk_plan_live.specs.declared.base.Base.{Base}
use Rattle.smk_plan_live.specs.Live.{LivePlan}
use Rattle.smk_plan_live.specs.Carried.{spent}
use Rattle.smk_plan_live.specs.Lives.{IsAgreed}
use Rattle.smk_plan_live.specs.Lives as lives
use Rattle.smk_plan_live.specs.Now.{known_now, seen_now}
use Rattle.smk_report.specs.declared.fault.Fault.{Fault}
use Rattle.smk_drive.specs.Moments.{Moment, Rules, is_spent_now, lists_of, progress_of, seen}
use Rattle.smk_drive_pick.specs.Picking.{AreAlike}
use Rattle.smk_drive_pick.specs.Spending.{spent_now}
use Rattle.smk_drive_course.specs.Stands.{Stand, moment_of}
use Rattle.smk_drive_course.specs.Steps.{Deed, IsAsListed}
use Rattle.smk_drive_first.specs.Opening.{AreRules}
use Rattle.smk_laws_turns.proofs.Agreeing.{spend_agrees}
use Rattle.smk_laws_turns.proofs.Deriving.{derivation_goes_on}
use Rattle.smk_laws_moments.proofs.Rests.{rest_mono}
use Rattle.smk_laws_begins.specs.Picked.{judging_at}
use Rattle.smk_laws_begins.proofs.Judged.{judged_as_kept}
use Rattle.smk_laws_begins.proofs.PickedOf.{spent_as_kept}
use Rattle.smk_laws_protocol.proofs.Basics.{each_in}
use Rattle.smk_laws_turns.proofs.Homes.{home_stays}
use Rattle.smk_laws_turns.specs.Begun.{IsSpentFor}
use Rattle.smk_laws_turns.proofs.FolderSpending.{spend_differs}
use Rattle.smk_laws_turns.proofs.SpentOutput.{spent_output}
use Rattle.smk_laws_turns.specs.Hubs.{IsAt, IsHome, IsKept, Parts, plan_of}
use Rattle.smk_laws_turns.specs.Resting.{HasGoneBy, IsAnswerOf, IsResting}
use Rattle.smk_laws_turns.proofs.Answered.{rest_goes_by}
use Rattle.smk_laws_begins.specs.Sweeping.{IsFirstSpent}
use Rattle.smk_laws_begins.proofs.Firmly.{children_kept, progress_same}
use Rattle.smk_laws_begins.proofs.Spending.{each_output, first_in, get_of_in, gone_removed, jobs_spent, progress_spent}

-- What is picked as spent by the plan that is kept, at a stand where no fault has come.
pub record IsPickedToSpend (rules : Rules) (k : Parts) (u : Stand) (v : World) (events : List Event) (p : Path) : Type 0 where
  pub is_spent : IsTrue (is_spent_now rules (moment_of u v events) p)
  pub if_seen :
      IsSeenAs (seen rules v) (seen_now k.live.base) p → kept_of (entry_of (known_now k.live.base) p) ≡ (seen rules v).kept p → IsAsListed (seen rules v) p

module _
    (rules : Rules) (entry : World) (k : Parts) (u : Stand) (v : World) (events : List Event) (deeds : List Deed) (at : IsAt rules entry k u v events deeds)
    (unhalted : u.halted ≡ None) where
  abbrev kept : IsKept rules entry k u v events
  kept = at.kept unhalted

  abbrev m : Moment
  m = moment_of u v events

  pub unbroken : u.broken ≡ false
  unbroken = go u.broken refl
    where
      go : (b : Bool) → u.broken ≡ b → u.broken ≡ false
      go true e = absurd (at.faulted e unhalted)
      go false e = e

  agreed : IsAgreed (seen rules v) k.live.settings k.live.base
  agreed = subst (λ s. IsAgreed (seen rules v) s k.live.base) (sym at.settings) kept.agrees

  pub picked : (p : Path) → IsFirstSpent k.live (Some p) → IsPickedToSpend rules k u v events p
  picked p found =
      let judged = judged_as_kept rules m k.live found.wholes at.live at.settings kept.progressed agreed found.whole in
      let all = found.spent (judging_at rules m) judged.0 judged.1 in
      let is_in : IsIn (spent_now (judging_at rules m) k.live) p = subst (λ ps. IsIn ps p) all (first_in found.paths p found.first_one) in
      let so = spent_as_kept rules m k.live p at.home.tree kept.plan is_in in
      record { is_spent = so.0; if_seen = so.1 }

  -- all that is under it is listed in its record
  pub listed : (p : Path) → IsFirstSpent k.live (Some p) → IsAsListed (seen rules v) p
  listed p found =
      let pick = picked p found in
      let o = spent_output rules u v events (plan_of k.live) p at.home.formed kept.clear kept.plan pick.is_spent in
      let all =
      each_in (λ (j : Job). Each (λ (x : Out). IsSeenAs (seen rules v) (seen_now k.live.base) x.path) (outs_of j.recipe)) k.live.base.jobs.jobs o.job
      kept.agrees.sighted.outputs o.member in
      pick.if_seen (each_output (IsSeenAs (seen rules v) (seen_now k.live.base)) o.job p all (in_among (out_paths o.job.recipe) p o.is_output)) (kept.agrees.kept p)

  -- ## It is removed

  module _ (act : Act) (p : Path) (e : Event) (found : IsFirstSpent k.live (Some p)) (done : HasDone (Remove p ∷ []) (e ∷ []))
      (follows : Follows act v (e ∷ [])) where
    pub spent_for : IsSpentFor rules entry k.live.base.jobs v (after v e) p
    spent_for =
        spend_differs act rules entry k.live.base.jobs u v events (plan_of k.live) p e
        (record { formed = at.home.found; derived = at.derived; sourced = at.sourced }) at.home.formed (at.ours unbroken) kept.clear kept.plan refl
        (picked p found).is_spent done follows

    pub children_stay : (after v e).children ≡ v.children
    children_stay = children_kept e.call (Remove p) v.children done.0 refl

    pub home_then : IsHome entry (after v e)
    home_then = home_stays act entry v (e ∷ []) follows at.home

    abbrev base : Base
    base = spent p k.live.base

    agrees_then : IsAgreed (seen rules (after v e)) rules.settings base
    agrees_then =
        let o = spent_for in
        let n = get_of_in k.live.base.jobs.jobs o.job o.member in
        spend_agrees (seen rules v) (seen rules (after v e)) rules.settings k.live.base n.0 o.job p at.live.sound n.1 o.is_output kept.agrees o.differs o.output

    progressed_then : AreAlike (progress_of (after v e) u.begun) (lives.progress_of base)
    progressed_then =
        subst (λ x. AreAlike x (lives.progress_of base)) (sym (progress_same v (after v e) u.begun children_stay))
        (subst (AreAlike (progress_of v u.begun)) (sym (progress_spent p k.live.base)) kept.progressed)

    derived_then : derivation rules.flow (seen rules (after v e)) k.live.base.jobs.lists rules.settings.targets ≡ Derived k.live.base.jobs.jobs
    derived_then =
        derivation_goes_on rules.flow (seen rules entry) (seen rules (after v e)) k.live.base.jobs.lists rules.settings.targets k.live.base.jobs.jobs
        (seen_is_complete rules.read entry at.home.found) (seen_is_complete rules.read (after v e) home_then.formed) spent_for.ours.sources spent_for.ours.signs
        at.derived

    pub resting : IsResting rules (after v e) u base
    resting =
        record {
          formed = home_then.formed;
          unhalted = unhalted;
          at_rest = rest_mono v (after v e) u.begun (sym children_stay) (gone_removed act v p e done follows) kept.clear.at_rest;
          listed = ap (λ o. lists_of o u.from) kept.plan ∙ ap (λ (js : Jobs). js.lists) (sym (jobs_spent p k.live.base));
          agrees = agrees_then;
          progressed = progressed_then;
          derived =
              subst (λ (js : Jobs). derivation rules.flow (seen rules (after v e)) js.lists rules.settings.targets ≡ Derived js.jobs)
              (sym (jobs_spent p k.live.base)) derived_then;
        }

    pub gone_by :
        (flow : Flow) (settings : Settings) (later : LivePlan) (answer : Result (Unit {0}) Fault) (now : List Event) → AreRules flow settings rules →
        IsAnswerOf flow settings base later answer → HasGoneBy rules entry (after v e) u now base later answer
    gone_by flow settings later answer now are is_answer =
        rest_goes_by rules entry (after v e) u now flow settings base later answer are resting is_answer
