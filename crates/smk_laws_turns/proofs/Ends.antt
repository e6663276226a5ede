-- Where a run goes whose plan has grown: by the plan that has come, or by what was refused of its chain, or memory is wanting.
use Rattle.std.proofs.Common.{◌≡◌, ◌≢◌, ◌⊎◌, inl, inr, ℕ, Bool, List, [], ◌++◌, refl, sym, ap, subst, ◌∙◌, Option, Some, None}
use Rattle.std.proofs.lemmas.Option.{none-some, same_Some}
use Rattle.smk_world.specs.declared.event.Event.{Event}
use Rattle.smk_world.specs.World.{World}
use Rattle.smk_flow.specs.Flows.{Flow}
use Rattle.smk_record.specs.declared.record.Record.{Record}
use Rattle.smk_record.specs.Spelling.{ReadsRecords}
use Rattle.smk_store.specs.Images.{Image}
use Rattle.smk_store.specs.Stores.{Known}
use Rattle.smk_chain.specs.declared.jobs.Jobs.{Jobs}
use Rattle.smk_chain.specs.Derive.{Derived, Listings, derivation}
use Rattle.smk_pick.specs.declared.settings.Settings.{Settings}
use Rattle.smk_plan.specs.declared.fault.PlanFault.{PlanFault}
use Rattle.smk_plan.specs.declared.seen.Sight.{Sight}
use Rattle.smk_plan.specs.States.{IsPlan, LastPlan, Plan, Progress}
use Rattle.smk_plan_states.specs.Judged.{with_states}
use Rattle.smk_plan_table.specs.Plans.{IsRefusedAt, fault_in}
use Rattle.smk_plan_live.specs.declared.base.Base.{Base}
use Rattle.smk_plan_live.specs.Changes.{IsGrown}
use Rattle.smk_plan_live.specs.Lives.{IsRefusedNow, IsSound, judging_of}
use Rattle.smk_plan_live.specs.Lives as lives
use Rattle.smk_plan_preview.specs.Rounds.{IsRefusedFirst}
use Rattle.smk_plan_preview.proofs.Derivations.{many_refused}
use Rattle.smk_report.specs.declared.fault.Fault.{Fault}
use Rattle.smk_report.specs.declared.fault.Fault.TheVariants as fault
use Rattle.smk_drive.specs.Moments.{Rules, progress_of, seen}
use Rattle.smk_drive.specs.Refusals.{ChainRefuses, DerivationRefuses, PlanRefuses}
use Rattle.smk_drive_course.specs.Refusals.{PlansAreRefused}
use Rattle.smk_drive_step.specs.Crews.{or_later}
use Rattle.smk_drive_course.specs.Stands.{AtRest, GoesBy, GoesOn, IsClear, IsRefused, LacksMemory, Stand, first_fault, halted_by, replanned}
use Rattle.smk_drive_course.specs.Stands as stands
use Rattle.smk_laws_turns.specs.InForce.{kept_plan}
use Rattle.smk_laws_turns.specs.Progressing.{IsAlike}
use Rattle.smk_laws_turns.proofs.PlansAlike.{plan_same}
use Rattle.smk_laws_turns.specs.Growing.{IsMoreOf, IsMoreRefusal, Refuses, TooMany}
use Rattle.smk_laws_turns.specs.Resting.{refused_command}
use Rattle.smk_laws_turns.proofs.Alike.{refused_same}
use Rattle.smk_laws_turns.proofs.Commands.{rules_by}
use Rattle.smk_laws_turns.proofs.Rests.{in_force}
use Rattle.smk_laws_turns.specs.Hubs.{Parts}
use Rattle.smk_laws_turns.specs.Turning.{faulted}
use Rattle.smk_laws_turns.specs.GrowingRounds.{IsRefusedBy, OfJobs, OfPlan}
use Rattle.smk_laws_turns.specs.Onward.{HasGrownBy, IsOnward}
use Rattle.smk_laws_turns.proofs.Beside.{beside}
use Rattle.smk_laws_turns.proofs.Chains.{last_from, refuses_from, unrefused_from}
use Rattle.smk_laws_turns.proofs.Further.{agrees_so, progressed_so}
use Rattle.smk_laws_turns.proofs.Judged.{barred, clear, complete, last}
use Rattle.smk_laws_turns.proofs.TakenLaws.{Laws}
use Rattle.smk_laws_turns.proofs.Rounds.{are_rules, comes_further}

module _
    (nolock : Bool) (read : List ℕ → Option Record) (reads : ReadsRecords read) (flow : Flow) (settings : Settings) (entry w : World) (u : Stand)
    (events : List Event) (h : Parts) (at : IsOnward (rules_by nolock read flow settings) entry w u h) (fresh : h.halt.fault ≡ None) where
  abbrev R : Rules
  R = rules_by nolock read flow settings

  abbrev now : Image
  now = seen R w

  abbrev done : Progress
  done = progress_of w u.begun

  abbrev lists : Listings
  lists = h.live.base.jobs.lists

  abbrev news : Listings
  news = h.live.plan.known

  -- ## A fault comes

  abbrev IsCause : Fault → Type 0
  IsCause f = (f ≡ fault.OutOfMemory) ⊎ ChainRefuses R now done (stands.lists u) f

  goes_halted : (f : Fault) (plan : Option Plan) → IsCause f → GoesBy R entry (replanned plan u) w events (halted_by f (replanned plan u))
  goes_halted f plan (inl memory) =
      subst (λ x. GoesBy R entry (replanned plan u) w events (halted_by x (replanned plan u))) (sym memory) LacksMemory
  goes_halted f plan (inr refuses) = IsRefused f at.unhalted (PlansAreRefused f at.at_rest refuses)

  first_is : (f : Fault) → (faulted f h).halt.fault ≡ Some f
  first_is f = ap (λ o. Some (or_later o f)) fresh

  pub ends_by : (f : Fault) → IsCause f → HasGrownBy R entry w u events (faulted f h)
  ends_by f cause =
      let p = in_force R w u.begun (stands.lists u) at.home.formed in
      record {
        next = replanned p.0 u;
        to = halted_by f (replanned p.0 u);
        replanned = AtRest p.0 at.at_rest p.1;
        goes_by = goes_halted f p.0 cause;
        same = record { begun = refl; runs = refl; broken = refl };
        halted = ap (λ o. first_fault o f) at.unhalted ∙ sym (first_is f);
        plan = λ none. absurd (none-some f (sym none ∙ first_is f));
        clear = λ none. absurd (none-some f (sym none ∙ first_is f));
        known = λ none. absurd (none-some f (sym none ∙ first_is f));
        refused = λ g is. subst IsCause (same_Some f g (sym (first_is f) ∙ is)) cause;
      }

  pub barred_by : (f : Fault) → refused_command flow settings h.live ≡ Some f → HasGrownBy R entry w u events (faulted f h)
  barred_by f some = ends_by f (inr (refuses_from R now done (stands.lists u) lists f at.comes (barred nolock read flow settings entry w u h at f some)))

  -- ## Nothing more becomes known

  module _ (none : refused_command flow settings h.live ≡ None) (known : news ≡ []) where
    force : LastPlan flow now settings done (stands.lists u) (kept_plan h.live)
    force = last_from R now done (stands.lists u) lists (kept_plan h.live) at.comes (last nolock read flow settings entry w u h at none known)

    cleared : IsClear R (replanned (Some (kept_plan h.live)) u) w events
    cleared =
        record {
          unhalted = at.unhalted;
          at_rest = at.at_rest;
          planned = force;
          unrefused = λ f refuses.
              unrefused_from R now done (complete nolock read flow settings entry w u h at) (stands.lists u) lists f at.comes
              (clear nolock read flow settings entry w u h at none known f) refuses;
        }

    pub whole_by : HasGrownBy R entry w u events h
    whole_by =
        record {
          next = replanned (Some (kept_plan h.live)) u;
          to = replanned (Some (kept_plan h.live)) u;
          replanned = AtRest (Some (kept_plan h.live)) at.at_rest force;
          goes_by = GoesOn cleared;
          same = record { begun = refl; runs = refl; broken = refl };
          halted = at.unhalted ∙ sym fresh;
          plan = λ e. refl;
          clear = λ e. cleared;
          known = λ e. known;
          refused = λ f is. absurd (none-some f (sym fresh ∙ is));
        }

  -- ## A round is refused

  derivation_refused : (f : Fault) → IsRefusedFirst flow settings.targets (lists ++ news) now f → ChainRefuses R now done (lists ++ news) f
  derivation_refused f r = DerivationRefuses (lists ++ news) r.refusal f r.first r.is

  jobs_refused : (f : Fault) → IsMoreRefusal read flow settings w h.live f → ChainRefuses R now done (lists ++ news) f
  jobs_refused f (TooMany many) = derivation_refused f (many_refused flow settings.targets (lists ++ news) now f many)
  jobs_refused f (Refuses r) = derivation_refused f r

  module _
      (l : Laws) (jobs : Jobs) (store : List Known) (sights : List Sight) (more : IsMoreOf read flow settings w h.live jobs store sights) (base : Base)
      (sound : IsSound base) (grown : IsGrown jobs store sights h.live.base base) (refusal : PlanFault)
      (refused : IsRefusedNow h.live.settings base refusal) where
    refused_at : IsRefusedAt (judging_of now settings base) base.jobs refusal
    refused_at =
        subst (λ s. IsRefusedNow s base refusal) at.settings refused now
        (agrees_so nolock read flow settings entry w u h at jobs store sights more l base sound grown)

    turned : IsAlike (lives.progress_of base) done
    turned =
        let p = progressed_so nolock read flow settings entry w u h at jobs store sights more l base sound grown in
        record { begun = λ n. sym (p.begun n); running = λ n. sym (p.running n) }

    abbrev plan : Plan
    plan = with_states base.jobs refused_at.states

    is_plan : IsPlan flow now settings done plan
    is_plan =
        plan_same now settings (lives.progress_of base) done turned plan flow
        (record {
          derived = subst (λ (x : Jobs). derivation flow now x.lists settings.targets ≡ Derived x.jobs) (sym grown.now) more.ready.derived;
          states = refused_at.table;
        })

    plan_refused : ChainRefuses R now done (lists ++ news) (fault_in flow refusal)
    plan_refused =
        let first = refused_at.first R refl in
        subst (λ ls. ChainRefuses R now done ls (fault_in flow refusal)) (ap (λ (x : Jobs). x.lists) grown.now ∙ more.lists)
        (PlanRefuses plan (fault_in flow refusal) first.0 is_plan (sym (refused_same R now (lives.progress_of base) done turned plan) ∙ first.1))

  round_refused : Laws → (f : Fault) → IsRefusedBy flow settings w h f → ChainRefuses R now done (lists ++ news) f
  round_refused l f (OfJobs told) = jobs_refused f (told R (are_rules nolock read reads flow settings entry w u h at) (beside R entry w u h at))
  round_refused l f (OfPlan jobs store sights refusal told is same) =
      subst (ChainRefuses R now done (lists ++ news)) (sym same)
      (plan_refused l jobs store sights (told R (are_rules nolock read reads flow settings entry w u h at) (beside R entry w u h at)) is.base is.sound is.grown refusal
      is.refused)

  -- so the chain from the listings of the plan before is refused
  pub refused_so :
      Laws → (f : Fault) → refused_command flow settings h.live ≡ None → news ≢ [] → IsRefusedBy flow settings w h f → ChainRefuses R now done (stands.lists u) f
  refused_so l f none some refused =
      refuses_from R now done (stands.lists u) (lists ++ news) f (comes_further nolock read reads flow settings entry w u h at none some) (round_refused l f refused)
