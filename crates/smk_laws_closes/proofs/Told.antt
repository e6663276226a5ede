-- The plan that is kept was told of the end of a job: it agrees with the folder; and the run goes by what was refused, if something was.
use Rattle.std.proofs.lemmas.Option.{same_Some}
use Rattle.std.proofs.Common.{◌≡◌, ◌⊎◌, true, false, List, [], ◌∷◌, ◌++◌, map, refl, sym, ap, subst, ◌∙◌, inl, inr, Some, None, Err, is_some, option_map}
use Rattle.smk_world.specs.declared.event.Event.{Event}
use Rattle.smk_world.specs.Devices.{AreLooks}
use Rattle.smk_world.specs.Runs.{Follows}
use Rattle.smk_world.specs.Trees.{Path, among, first}
use Rattle.smk_world.specs.World.{World, out_paths}
use Rattle.smk_flow.specs.declared.job.Job.{Job}
use Rattle.smk_flow.specs.Flows.{Flow}
use Rattle.smk_pick.specs.declared.settings.Settings.{Settings}
use Rattle.smk_chain.specs.Derive.{Listings}
use Rattle.smk_plan.specs.States.{Plan}
use Rattle.smk_plan_live.specs.declared.base.Base.{Base}
use Rattle.smk_plan_live.specs.Live.{LivePlan}
use Rattle.smk_plan_live.specs.Carried.{has_name}
use Rattle.smk_plan_live.specs.Lives.{IsAgreed, progress_of}
use Rattle.smk_plan_live.specs.Phases.{has_begun}
use Rattle.smk_report.specs.declared.fault.Fault.{Fault}
use Rattle.smk_report.specs.declared.fault.Fault.TheVariants as fault
use Rattle.smk_drive.specs.Moments.{seen}
use Rattle.smk_drive.specs.Moments as moments
use Rattle.smk_drive.specs.Refusals.{ChainRefuses, PlanRefuses}
use Rattle.smk_drive_outcome.specs.declared.outcome.Outcome.{Outcome}
use Rattle.smk_drive_pick.specs.Picking.{AreAlike}
use Rattle.smk_drive_course.specs.Stands.{GoesBy, IsReplanned, lists}
use Rattle.smk_drive_course.specs.Steps.{HasGuarded, guards_of}
use Rattle.smk_drive_first.specs.Opening.{AreRules}
use Rattle.smk_laws_turns.specs.Changing.{DiffersAt}
use Rattle.smk_laws_turns.specs.Progressing.{IsAlike, IsEnded}
use Rattle.smk_laws_turns.proofs.Agreeing.{close_agrees}
use Rattle.smk_laws_turns.proofs.Progressing.{closes_alike}
use Rattle.smk_laws_turns.specs.Hubs.{IsKept}
use Rattle.smk_laws_turns.specs.Resting.{HasGoneBy, IsFirstRefused, IsReplyOf, IsResting}
use Rattle.smk_laws_closes.specs.Endings.{told_end}
use Rattle.smk_laws_closes.specs.Learning.{IsOutcomeIn, closed_base}
use Rattle.smk_laws_closes.proofs.Bridged.{bridged, listed}
use Rattle.smk_laws_closes.proofs.Basis.{Closing, begun_job, child_in, closed_world, its_begun, makes, recipe, wait, without}
use Rattle.smk_laws_closes.proofs.Laws.{Laws}
use Rattle.smk_laws_closes.proofs.Progress.{ends_progress}
use Rattle.smk_laws_closes.proofs.Tended.{at_rest, closed_for, derived_now, guarded_world, outcomes, split, tended_home, tended_world}

-- a job with an output has a name
named_by : (ps : List Path) → ¬ (ps ≡ []) → is_some (first ps) ≡ true
named_by [] some = absurd (some refl)
named_by (p ∷ ps) some = refl

module _ (l : Laws) (x : Closing) (guarding looks : List Event) (guards : HasGuarded (guards_of x.job x.how) guarding) (quiet : AreLooks false looks)
    (follows : Follows x.act x.w ((wait x ∷ x.closing) ++ (guarding ++ looks))) (unhalted : x.s.halted ≡ None) (o : Outcome)
    (outcome : IsOutcomeIn x.job o (guarded_world l x guarding looks guards quiet follows)) where
  abbrev now : World
  now = tended_world l x guarding looks guards quiet follows

  abbrev kept : IsKept x.rules x.entry x.h x.s x.w x.before
  kept = x.at.kept unhalted

  abbrev pub base : Base
  base = closed_base x.c.job o x.h.live.base

  abbrev pub events_now : List Event
  events_now = x.before ++ ((wait x ∷ x.closing) ++ (guarding ++ looks))

  pub agrees_now : IsAgreed (seen x.rules now) x.rules.settings base
  agrees_now =
      let d = closed_for l x guarding looks guards quiet follows in
      close_agrees (seen x.rules x.w) (seen x.rules now) x.rules.settings x.h.live.base x.c.job x.job o x.at.live.sound x.is kept.agrees
      (subst (λ r. DiffersAt (seen x.rules x.w) (seen x.rules now) x.h.live.base.jobs x.rules.settings.targets (out_paths r)) (sym (recipe x)) (d.differs unhalted))
      (λ q i. d.unmarked q (ap (λ r. among (out_paths r) q) (sym (recipe x)) ∙ i)) (outcomes l x guarding looks guards quiet follows o outcome)

  has_its_name : has_name x.job ≡ true
  has_its_name = ap (λ r. is_some (first (out_paths r))) (recipe x) ∙ named_by (out_paths x.c.going.recipe) (makes x)

  alike_now : IsAlike (moments.progress_of now (without x).begun) (progress_of base)
  alike_now =
      let p = kept.progressed in
      closes_alike x.h.live.base x.c.job x.job (map Some o.entries) (map Some o.sights) (moments.progress_of x.w x.s.begun)
      (moments.progress_of now (without x).begun) x.at.live.sound kept.agrees.served.apart x.is has_its_name
      (ap (option_map has_begun) (kept.running x.c (child_in x)))
      (record { begun = p.begun; running = p.running })
      (subst (λ (j : Job). IsEnded j (moments.progress_of x.w x.s.begun) (moments.progress_of now (without x).begun)) (begun_job x)
      (ends_progress x.w now x.s.begun (without x).begun (its_begun x) (told_end x.how) (split l x guarding looks guards quiet follows unhalted)))

  pub progressed_now : AreAlike (moments.progress_of now (without x).begun) (progress_of base)
  progressed_now = record { begun = alike_now.begun; running = alike_now.running }

  resting : IsResting x.rules now (without x) base
  resting =
      record {
        formed = (tended_home l x guarding looks guards quiet follows).formed;
        unhalted = unhalted;
        at_rest = at_rest l x guarding looks guards quiet follows unhalted;
        listed = listed l x guarding looks guards quiet follows unhalted;
        agrees = agrees_now;
        progressed = progressed_now;
        derived = derived_now l x guarding looks guards quiet follows;
      }

  -- ## This is refused, or memory was wanting

  module _ (flow : Flow) (settings : Settings) (by : AreRules flow settings x.rules) (new : LivePlan) (f : Fault)
      (answers : IsReplyOf flow settings (closed_base x.c.job o x.h.live.base) new (Err f)) where
    pub gone : HasGoneBy x.rules x.entry now (without x) events_now base new (Err f)
    gone = l.rest_goes_by x.rules x.entry now (without x) events_now flow settings base new (Err f) by resting answers

    planned_by : gone.to.halted ≡ None → (plan : Plan) × (gone.to.plan ≡ Some plan)
    planned_by none = absurd (never (sym gone.halted ∙ none))
      where
        never : Some f ≡ None → ⊥
        never h = cc

    refused_by :
        (g : Fault) → gone.to.halted ≡ Some g →
        (g ≡ fault.OutOfMemory) ⊎ ChainRefuses x.rules (seen x.rules now) (moments.progress_of now (without x).begun) (lists (without x)) g
    refused_by g halted = go (gone.refused g (ap Err (same_Some f g (sym gone.halted ∙ halted))))
      where
        go : (g ≡ fault.OutOfMemory) ⊎ IsFirstRefused x.rules now (without x).begun base.jobs g →
            (g ≡ fault.OutOfMemory) ⊎ ChainRefuses x.rules (seen x.rules now) (moments.progress_of now (without x).begun) (lists (without x)) g
        go (inl e) = inl e
        go (inr r) =
            inr
            (subst (λ (ls : Listings). ChainRefuses x.rules (seen x.rules now) (moments.progress_of now (without x).begun) ls g)
            (r.lists ∙ sym (listed l x guarding looks guards quiet follows unhalted)) (PlanRefuses r.plan g r.rest r.is r.first))

    -- so it is right after the closing, too
    pub refused_then : IsReplanned x.rules (without x) (closed_world x) gone.next × GoesBy x.rules x.entry gone.next (closed_world x) (x.before ++ wait x ∷ x.closing) gone.to
    refused_then = bridged l x guarding looks guards quiet follows unhalted gone.next gone.to gone.replanned gone.goes_by planned_by refused_by
