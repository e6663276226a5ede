-- What a run makes of a stand by each answer of the kept plan.
use Rattle.std.proofs.Common.{◌≡◌, inl, inr, List, sym, subst, Result, Ok, Err}
use Rattle.smk_world.specs.declared.event.Event.{Event}
use Rattle.smk_world.specs.World.{World}
use Rattle.smk_flow.specs.Flows.{Flow}
use Rattle.smk_pick.specs.declared.settings.Settings.{Settings}
use Rattle.smk_plan_live.specs.declared.base.Base.{Base}
use Rattle.smk_plan_live.specs.Live.{LivePlan}
use Rattle.smk_report.specs.declared.fault.Fault.{Fault}
use Rattle.smk_drive.specs.Moments.{Rules}
use Rattle.smk_drive_course.specs.Stands.{Stand}
use Rattle.smk_drive_first.specs.Opening.{AreRules}
use Rattle.smk_laws_turns.specs.Resting.{HasGoneBy, IsAnswerOf, IsRefusalOf, IsResting, OfCommand, OfPlan, RestGoesBy}
use Rattle.smk_laws_turns.proofs.Commands.{rules_by}
use Rattle.smk_laws_turns.proofs.GoneBy.{lacks_memory}
use Rattle.smk_laws_turns.proofs.Resting.{command_refused, plan_refused, went_on}

-- for these rules
abbrev HasEachGone : Rules → World → World → Stand → List Event → Flow → Settings → Base → LivePlan → Result (Unit {0}) Fault → Type 0
HasEachGone rules entry w u events flow settings base live answer =
    IsResting rules w u base → IsAnswerOf flow settings base live answer → HasGoneBy rules entry w u events base live answer

module _ (rules : Rules) (entry w : World) (u : Stand) (events : List Event) (flow : Flow) (settings : Settings) where
  abbrev S : Rules
  S = rules_by rules.nolock rules.read flow settings

  refusal_by :
      (base : Base) (live : LivePlan) (f : Fault) → IsResting S w u base → IsRefusalOf flow settings base live f → HasGoneBy S entry w u events base live (Err f)
  refusal_by base live f is (OfPlan refusal h same) =
      subst (λ x. HasGoneBy S entry w u events base live (Err x)) (sym same)
      (plan_refused rules.nolock rules.read flow settings entry w u events base live is refusal h)
  refusal_by base live f is (OfCommand told some) =
      subst (λ b. HasGoneBy S entry w u events b live (Err f)) told.base_is
      (command_refused rules.nolock rules.read flow settings entry w u events live (subst (IsResting S w u) (sym told.base_is) is) told.alive told.settings_are f some)

  each_gone :
      (base : Base) (live : LivePlan) (answer : Result (Unit {0}) Fault) → HasEachGone S entry w u events flow settings base live answer
  each_gone base live (Ok a) is (told, none, known) =
      subst (λ b. HasGoneBy S entry w u events b live (Ok tt)) told.base_is
      (went_on rules.nolock rules.read flow settings entry w u events live (subst (IsResting S w u) (sym told.base_is) is) told.alive told.settings_are none known)
  each_gone base live (Err f) is (inl memory) =
      subst (λ x. HasGoneBy S entry w u events base live (Err x)) (sym memory) (lacks_memory S entry w u events base live is)
  each_gone base live (Err f) is (inr refusal) = refusal_by base live f is refusal

  -- such rules are these
  same_rules : AreRules flow settings rules → S ≡ rules
  same_rules are =
      λ i.
      record {
        flow = sym are.flow_is i;
        settings = sym are.settings_are i;
        nolock = rules.nolock;
        read = rules.read;
        missing = sym are.fields i;
        command = sym are.texts i;
      }

pub rest_goes_by : RestGoesBy
rest_goes_by rules entry w u events flow settings base live answer are is h =
    subst (λ r. HasEachGone r entry w u events flow settings base live answer) (same_rules rules entry w u events flow settings are)
    (each_gone rules entry w u events flow settings base live answer) is h
