-- Plans, one after another.
use Rattle.std.proofs.Common.{◌≡◌, ◌⊎◌, inl, inr, ◌≢◌, ℕ, true, List, [], ◌∷◌, ◌++◌, refl, sym, ap, ap₂, subst, ◌∙◌, Option, Some, None, Result, Ok, Err, true≢false}
use Rattle.std.specs.List.{flat_map, zip}
use Rattle.smk_world.specs.Trees.{Path}
use Rattle.smk_flow.specs.declared.job.Job.{Job}
use Rattle.smk_flow.specs.Flows.{Flow}
use Rattle.smk_format.specs.Commands.{missing}
use Rattle.smk_record.specs.declared.record.Record.{Record}
use Rattle.smk_store.specs.Images.{Image}
use Rattle.smk_chain.specs.declared.jobs.Jobs.{Jobs}
use Rattle.smk_chain.specs.Derive.{Listings}
use Rattle.smk_trigger.specs.declared.reason.State.{State}
use Rattle.smk_pick.specs.declared.settings.Settings.{Settings}
use Rattle.smk_plan.specs.declared.plan.Plan.{Plan as Told}
use Rattle.smk_plan.specs.declared.fault.PlanFault.{PlanFault}
use Rattle.smk_plan.specs.declared.fault.PlanFault.TheVariants as refused
use Rattle.smk_plan.specs.States.{Plan, LastPlan, nothing_done, new_listings}
use Rattle.smk_plan.specs.States.LastPlan.{Last, Then}
use Rattle.smk_format.specs.Refused.{command_fault}
use Rattle.smk_report.specs.declared.fault.Fault.{Fault}
use Rattle.smk_report.specs.declared.fault.Fault.TheVariants as fault
use Rattle.smk_drive.specs.Moments.{Rules}
use Rattle.smk_drive.specs.Refusals.{refused_of, incomplete, guarded, above_limit, ahead, of_command, ChainRefuses}
use Rattle.smk_drive.specs.Refusals.ChainRefuses.{DerivationRefuses, PlanRefuses, NextRefuses}
use Rattle.smk_plan_states.specs.Judged.{with_states}
use Rattle.smk_plan_table.specs.Plans.{HasMade, IsRefused, fault_in}
use Rattle.smk_plan_preview.specs.declared.rounds.Round.{Round}
use Rattle.smk_plan_preview.specs.Faults.{is_told}
use Rattle.smk_plan_preview.specs.Previewing.{rules_for}
use Rattle.smk_choose.specs.declared.sources.Sources.{Sources}
use Rattle.std.specs.Prelude.{IsErrAnd}
use Rattle.smk_plan_preview.proofs.LookedAt.{err_is}
use Rattle.smk_plan_preview.proofs.Derivations.{many_refused}
use Rattle.smk_plan_preview.specs.Rounds.{AreReady, Sights, IsSighted, Derives, IsRefusedFirst, plan_in, IsRound, HasRound, Leads, IsLast, HasChain}
use Rattle.smk_plan_preview.specs.Steps.{IsPlanRefused}
use Rattle.smk_plan_preview.proofs.Commands.{commands_fine, commands_refused}

-- ## A plan that is refused

pub plan_refused : (flow : Flow) (image : Image) (settings : Settings) (jobs : Jobs) (f : PlanFault) (g : Fault) → (g ≡ fault_in flow f) ⊎ (g ≡ fault.OutOfMemory) → (f ≢ refused.OutOfMemory → IsRefused image settings [] jobs f)
    → is_told g ≡ true → IsPlanRefused flow image settings jobs g
plan_refused flow image settings jobs f g (inr memory) h told = absurd (true≢false (sym told ∙ ap is_told memory))
plan_refused flow image settings jobs f g (inl is) h told =
    let r = h (λ memory. true≢false (sym told ∙ ap is_told (is ∙ ap (fault_in flow) memory))) in
    record {
      states = r.states;
      table = r.table;
      first = λ rules flow_is settings_are.
          let e = r.first rules settings_are in
          (e.0, e.1 ∙ ap (λ x. x ∷ e.0) (ap (λ (y : Flow). fault_in y f) flow_is ∙ sym is));
    }

module _ (read : List ℕ → Option Record) (flow : Flow) (settings : Settings) (image : Image) where
  abbrev rules : Rules
  rules = rules_for read flow settings

  -- the derivation is refused
  pub derivation_refused : (L : Listings) (f : Fault) → IsRefusedFirst flow settings.targets L image f → ChainRefuses rules image nothing_done L f
  derivation_refused L f h = DerivationRefuses L h.refusal f h.first h.is

  -- the plan is refused, but for commands
  pub planned_refused : (jobs : Jobs) (f : Fault) → AreReady flow settings.targets jobs.lists image jobs → IsPlanRefused flow image settings jobs f → ChainRefuses rules image nothing_done jobs.lists f
  planned_refused jobs f ready h =
      let e = h.first rules refl refl in
      PlanRefuses (with_states jobs h.states) f e.0 (record { derived = ready.derived; states = h.table }) e.1

  -- all that is refused is so of commands
  of_commands : (plan : Plan) → incomplete rules image nothing_done plan ≡ [] → guarded rules image nothing_done plan ≡ [] → flat_map (above_limit rules image nothing_done plan) (ahead rules image nothing_done plan) ≡ []
      → refused_of rules image nothing_done plan ≡ flat_map (λ (e : Job × State). of_command rules image nothing_done plan e (missing e.0)) (zip plan.jobs plan.states)
  of_commands plan a b c =
      let commands = flat_map (λ (e : Job × State). of_command rules image nothing_done plan e (missing e.0)) (zip plan.jobs plan.states) in
      ap (λ fs. fs ++ (guarded rules image nothing_done plan ++ (flat_map (above_limit rules image nothing_done plan) (ahead rules image nothing_done plan) ++ commands))) a
      ∙ ap (λ fs. fs ++ (flat_map (above_limit rules image nothing_done plan) (ahead rules image nothing_done plan) ++ commands)) b
      ∙ ap (λ fs. fs ++ commands) c

  -- the plan, of which nothing is refused
  pub round_made : (jobs : Jobs) (told : Told) (r : Round) → r.jobs ≡ jobs → r.plan ≡ told → command_fault flow settings.cores (zip jobs.jobs told.states) ≡ None
      → AreReady flow settings.targets jobs.lists image jobs → HasMade image settings [] jobs told → IsRound read flow settings image r
  round_made jobs told r same_jobs same_plan good ready made =
      subst (IsRound read flow settings image) (λ i. record { jobs = sym same_jobs i; plan = sym same_plan i })
      (record {
        plan = record { derived = ready.derived; states = made.states };
        current = made.current;
        known = made.known;
        unrefused =
            let u = made.unrefused rules refl in
            of_commands (with_states jobs told.states) u.complete u.unguarded u.within ∙ commands_fine read flow settings image (with_states jobs told.states) (zip jobs.jobs told.states) good;
        served = ready.served;
      })

  -- a command is refused
  pub command_refused : (jobs : Jobs) (told : Told) (f : Fault) → (f ≡ fault.OutOfMemory) ⊎ (command_fault flow settings.cores (zip jobs.jobs told.states) ≡ Some f)
      → AreReady flow settings.targets jobs.lists image jobs → HasMade image settings [] jobs told → is_told f ≡ true → ChainRefuses rules image nothing_done jobs.lists f
  command_refused jobs told f (inl memory) ready made is = absurd (true≢false (sym is ∙ ap is_told memory))
  command_refused jobs told f (inr bad) ready made is =
      let u = made.unrefused rules refl in
      let plan = with_states jobs told.states in
      let first = commands_refused read flow settings image plan (zip jobs.jobs told.states) f bad in
      PlanRefuses plan f first.rest (record { derived = ready.derived; states = made.states }) (of_commands plan u.complete u.unguarded u.within ∙ first.is)

  -- ## The chain

  pub leads_begun : (L : Listings) → L ≡ [] → Leads read flow settings image L
  leads_begun L none = subst (Leads read flow settings image) (sym none) (record { last = λ p h. h; refused = λ f h. h })

  longer : (L new : Listings) (r : Round) → r.jobs.lists ≡ L → new ≡ L ++ r.plan.known → IsRound read flow settings image r → new ≡ r.jobs.lists ++ new_listings image settings nothing_done (plan_in r)
  longer L new r lists e round = e ∙ ap₂ ◌++◌ (sym lists) round.known

  some_known : (r : Round) → IsRound read flow settings image r → (r.plan.known ≡ [] → ⊥) → new_listings image settings nothing_done (plan_in r) ≢ []
  some_known r round some none = some (round.known ∙ none)

  pub leads_next : (L new : Listings) (r : Round) → r.jobs.lists ≡ L → new ≡ L ++ r.plan.known → (r.plan.known ≡ [] → ⊥) → IsRound read flow settings image r → Leads read flow settings image L → Leads read flow settings image new
  leads_next L new r lists e some round leads =
      record {
        last = λ p h.
            leads.last p
            (subst (λ (l : Listings). LastPlan flow image settings nothing_done l p) lists
            (Then (plan_in r) p round.plan (some_known r round some) (subst (λ (l : Listings). LastPlan flow image settings nothing_done l p) (longer L new r lists e round) h)));
        refused = λ f h.
            leads.refused f
            (subst (λ (l : Listings). ChainRefuses rules image nothing_done l f) lists
            (NextRefuses (plan_in r) f round.plan round.unrefused (some_known r round some) (subst (λ (l : Listings). ChainRefuses rules image nothing_done l f) (longer L new r lists e round) h)));
      }

  pub last_round : (L : Listings) (r : Round) → r.jobs.lists ≡ L → r.plan.known ≡ [] → IsRound read flow settings image r → Leads read flow settings image L → IsLast read flow settings image r
  last_round L r lists none round leads =
      record {
        last = leads.last (plan_in r) (subst (λ (l : Listings). LastPlan flow image settings nothing_done l (plan_in r)) lists (Last (plan_in r) round.plan (sym round.known ∙ none)));
        current = round.current;
        unrefused = round.unrefused;
        served = round.served;
      }

  -- what is refused of a round is refused of the chain
  pub round_refused : (L : Listings) (r : Result Round Fault) (f : Fault) → r ≡ Err f → HasRound read flow settings image L r → Leads read flow settings image L → is_told f ≡ true → ChainRefuses rules image nothing_done [] f
  round_refused L r f is h leads told = leads.refused f (subst (HasRound read flow settings image L) is h told)

  pub round_ok : (L : Listings) (r : Result Round Fault) (x : Round) → r ≡ Ok x → HasRound read flow settings image L r → IsRound read flow settings image x
  round_ok L r x is h = subst (HasRound read flow settings image L) is h

  -- too many paths, or a refusal of the derivation
  pub sight_told : (L : Listings) (r : Result Sources Fault) (f : Fault) → r ≡ Err f → Sights flow settings.targets L image r → HasRound read flow settings image L (Err f)
  sight_told L r f is h = λ told. derivation_refused L f (many_refused flow settings.targets L image f (subst (Sights flow settings.targets L image) is h told))

  pub derivation_told : (L : Listings) (r : Result Jobs Fault) (f : Fault) → r ≡ Err f → Derives flow settings.targets L image r → HasRound read flow settings image L (Err f)
  derivation_told L r f is h = λ told. derivation_refused L f (subst (Derives flow settings.targets L image) is h told)

pub sighted_ok : (flow : Flow) (targets : List Path) (L : Listings) (image : Image) (r : Result Sources Fault) (sources : Sources) → r ≡ Ok sources → Sights flow targets L image r → IsSighted flow targets L image sources
sighted_ok flow targets L image r sources is h = subst (Sights flow targets L image) is h

pub chain_refused : (read : List ℕ → Option Record) (flow : Flow) (settings : Settings) (image : Image) (L : Listings) (r s : Result Round Fault) (x : Fault) → r ≡ Err x → IsErrAnd s (λ y. y ≡ x)
    → HasRound read flow settings image L r → Leads read flow settings image L → HasChain read flow settings image s
chain_refused read flow settings image L r s x is h round leads =
    subst (HasChain read flow settings image) (sym (err_is s x h)) (λ told. round_refused read flow settings image L r x is round leads told)
