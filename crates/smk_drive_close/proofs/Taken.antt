-- What was found is taken in.
use Rattle.std.proofs.Common.{◌≡◌, ◌≢◌, ◌⊎◌, inl, inr, List, ℕ, map, refl, sym, ap, subst, ◌∙◌, Option, Result, Ok, Err}
use Rattle.std.specs.Prelude.{OnErr, OnOk}
use Rattle.smk_flow.specs.Flows.{Flow}
use Rattle.smk_store.specs.Stores.{Known}
use Rattle.smk_chain.specs.declared.jobs.Jobs.{Jobs}
use Rattle.smk_plan.specs.declared.fault.PlanFault.{PlanFault}
use Rattle.smk_plan.specs.declared.fault.PlanFault.TheVariants as refused
use Rattle.smk_plan.specs.declared.seen.Sight.{Sight}
use Rattle.smk_plan_table.specs.Plans.{fault_in}
use Rattle.smk_plan_live.specs.Changes.{HasGrown, IsRefusedGrown}
use Rattle.smk_plan_live.specs.Live.{LivePlan}
use Rattle.smk_report.specs.declared.fault.Fault.{Fault}
use Rattle.smk_report.specs.declared.fault.Fault.TheVariants as fault
use Rattle.smk_drive_step.specs.declared.children.Child.{Child}
use Rattle.smk_drive_step.specs.Crews.{goings, renumbered}
use Rattle.smk_laws_turns.specs.Hubs.{Parts, asks_in}
use Rattle.smk_laws_turns.specs.Moving.{moved}
use Rattle.smk_laws_turns.specs.GrownIn.{HaveLines}
use Rattle.smk_drive_close.specs.Numbers.{place_number}
use Rattle.smk_drive_close.specs.Rounds.{HasMoved, IsGrowthRefused, IsTakenIn}
use Rattle.smk_drive_close.proofs.Moved.{moved_asks, moved_goings, moved_lines, renumbered_moved}

-- the plan has grown, and the children got these numbers
pub taken_in :
    (jobs : Jobs) (store : List Known) (fresh : List Sight) (h : Parts) (live : LivePlan) (numbers : List ℕ) (places : List (Option Child)) →
    HasGrown jobs store fresh h.live live →
    numbers ≡ map (place_number h.live.base.jobs.jobs jobs.jobs) h.places →
    places ≡ renumbered numbers h.places → IsTakenIn jobs store fresh h (record h { live = live; places = places })
taken_in jobs store fresh h live numbers places grown are now =
    record {
      grown = grown;
      is =
          ap (λ ps. record h { live = live; places = ps }) (now ∙ (ap (λ ns. renumbered ns h.places) are ∙ renumbered_moved h.live.base.jobs.jobs jobs.jobs h.places));
    }

-- the plan that would come is refused
pub growth_refused :
    (flow : Flow) (jobs : Jobs) (store : List Known) (fresh : List Sight) (live : LivePlan) (refusal : PlanFault) (f : Fault) →
    (f ≡ fault_in flow refusal) ⊎ (f ≡ fault.OutOfMemory) →
    (refusal ≢ refused.OutOfMemory → IsRefusedGrown live.settings jobs store fresh live.base refusal) →
    (f ≡ fault.OutOfMemory) ⊎ IsGrowthRefused flow jobs store fresh live f
growth_refused flow jobs store fresh live refusal f (inr memory) h = inl memory
growth_refused flow jobs store fresh live (refused.Incomplete paths) f (inl e) h = inr (record { refusal = refused.Incomplete paths; refused = h (λ o. not_memory o); is = e })
  where
    not_memory : refused.Incomplete paths ≡ refused.OutOfMemory → ⊥
    not_memory o = cc
growth_refused flow jobs store fresh live (refused.Protected p) f (inl e) h = inr (record { refusal = refused.Protected p; refused = h (λ o. not_memory o); is = e })
  where
    not_memory : refused.Protected p ≡ refused.OutOfMemory → ⊥
    not_memory o = cc
growth_refused flow jobs store fresh live (refused.AboveLimit rule p name asked bound) f (inl e) h =
    inr (record { refusal = refused.AboveLimit rule p name asked bound; refused = h (λ o. not_memory o); is = e })
  where
    not_memory : refused.AboveLimit rule p name asked bound ≡ refused.OutOfMemory → ⊥
    not_memory o = cc
growth_refused flow jobs store fresh live refused.OutOfMemory f (inl e) h = inl e

-- ## What has changed

pub moved_not : (flow : Flow) (h k : Parts) → k ≡ h → HasMoved flow h k
moved_not flow h k same = subst (HasMoved flow h) (sym same) (record { others = refl; goings = refl; asks = refl; lines = λ lines. lines })

pub moved_then : (flow : Flow) (h k m : Parts) → HasMoved flow h k → HasMoved flow k m → HasMoved flow h m
moved_then flow h k m first second =
    record {
      others = subst (λ (x : Parts). m ≡ record x { live = m.live; places = m.places }) first.others second.others;
      goings = second.goings ∙ first.goings;
      asks = second.asks ∙ first.asks;
      lines = λ lines. second.lines (first.lines lines);
    }

pub taken_moved : (flow : Flow) (jobs : Jobs) (store : List Known) (fresh : List Sight) (h k : Parts) → IsTakenIn jobs store fresh h k → HasMoved flow h k
taken_moved flow jobs store fresh h k taken =
    let olds = h.live.base.jobs.jobs in
    let now : k.places ≡ moved olds jobs.jobs h.places = ap (λ (x : Parts). x.places) taken.is in
    record {
      others = taken.is ∙ ap (λ ps. record h { live = k.live; places = ps }) (sym now);
      goings = ap goings now ∙ moved_goings olds jobs.jobs h.places;
      asks = ap asks_in now ∙ moved_asks olds jobs.jobs h.places;
      lines = λ lines.
          subst (HaveLines flow k.live) (sym now)
          (moved_lines flow h.live k.live jobs.jobs h.places (ap (λ (js : Jobs). js.jobs) taken.grown.base.now) lines);
    }

pub taken_or_not :
    (flow : Flow) (jobs : Jobs) (store : List Known) (fresh : List Sight) (h k : Parts) (r : Result (Unit {0}) Fault) →
    OnOk r (IsTakenIn jobs store fresh h k) → OnErr r (k ≡ h) → HasMoved flow h k
taken_or_not flow jobs store fresh h k (Ok u) taken same = taken_moved flow jobs store fresh h k taken
taken_or_not flow jobs store fresh h k (Err f) taken same = moved_not flow h k same
