-- What is refused of commands, as it is looked for and as a plan has it.
use Rattle.std.proofs.Common.{◌≡◌, ℕ, Bool, true, false, List, [], ◌∷◌, ◌++◌, length, refl, sym, ap, ◌∙◌, Option, Some, None}
use Rattle.std.specs.Prelude.{nat_lt, min, if◌then◌else◌}
use Rattle.std.specs.List.{flat_map}
use Rattle.smk_flow.specs.declared.job.Job.{Job}
use Rattle.smk_flow.specs.Flows.{Flow, rule_name}
use Rattle.smk_format.specs.Commands.{missing, command, excess}
use Rattle.smk_record.specs.declared.record.Record.{Record}
use Rattle.smk_store.specs.Images.{Image}
use Rattle.smk_trigger.specs.declared.reason.State.{State}
use Rattle.smk_trigger.specs.declared.reason.State.TheVariants.{Open, Dirty, Restore, Clean}
use Rattle.smk_pick.specs.declared.settings.Settings.{Settings}
use Rattle.smk_plan.specs.States.{Plan, nothing_done}
use Rattle.smk_format.specs.Refused.{fault_at, fault_in, state_fault, command_fault, or_later}
use Rattle.smk_report.specs.Lines.{Text}
use Rattle.smk_report.specs.declared.fault.Fault.{Fault}
use Rattle.smk_report.specs.declared.fault.Fault.TheVariants as fault
use Rattle.smk_drive.specs.Refusals.{has_nul, too_long, of_command}
use Rattle.smk_plan_preview.specs.Previewing.{rules_for}

abbrev listed : Option Fault → List Fault
listed None = []
listed (Some f) = f ∷ []

too_long_same : (rule text : Text) → too_long rule text ≡ listed (fault_at rule None (excess text))
too_long_same rule text = by (has_nul text) (nat_lt 120000 (length text))
  where
    by : (b c : Bool) → (if b then fault.TooLong rule 0 ∷ [] else (if c then fault.TooLong rule (length text) ∷ [] else [])) ≡ listed (fault_at rule None (if b then Some 0 else (if c then Some (length text) else None)))
    by true c = refl
    by false true = refl
    by false false = refl

module _ (read : List ℕ → Option Record) (flow : Flow) (settings : Settings) (image : Image) (plan : Plan) where
  abbrev refusals : Job × State → List Fault
  refusals e = of_command (rules_for read flow settings) image nothing_done plan e (missing e.0)

  one_by : (j : Job) (s : State) (m : Option Text) → of_command (rules_for read flow settings) image nothing_done plan (j, s) m ≡ listed (fault_in s (rule_name flow j.rule) m (excess (command j (min j.threads settings.cores))))
  one_by j Open (Some word) = refl
  one_by j Open None = refl
  one_by j (Dirty reasons) (Some word) = refl
  one_by j (Dirty reasons) None = too_long_same (rule_name flow j.rule) (command j (min j.threads settings.cores))
  one_by j Restore (Some word) = refl
  one_by j Restore None = too_long_same (rule_name flow j.rule) (command j (min j.threads settings.cores))
  one_by j Clean (Some word) = refl
  one_by j Clean None = refl

  one_same : (e : Job × State) → refusals e ≡ listed (state_fault flow settings.cores e.0 e.1)
  one_same e = one_by e.0 e.1 (missing e.0)

  none_some : (f : Fault) → None ≡ Some f → ⊥
  none_some f e = cc

  some_none : (f : Fault) → Some f ≡ None → ⊥
  some_none f e = cc

  same_some : (f g : Fault) → Some f ≡ Some g → f ≡ g
  same_some f g e = cc

  -- where none is found nothing is refused
  pub commands_fine : (es : List (Job × State)) → command_fault flow settings.cores es ≡ None → flat_map refusals es ≡ []
  commands_fine [] h = refl
  commands_fine (e ∷ es) h = go (state_fault flow settings.cores e.0 e.1) refl (commands_fine es)
    where
      go : (o : Option Fault) → state_fault flow settings.cores e.0 e.1 ≡ o → (command_fault flow settings.cores es ≡ None → flat_map refusals es ≡ []) → flat_map refusals (e ∷ es) ≡ []
      go None is again =
          ap (λ fs. fs ++ flat_map refusals es) (one_same e ∙ ap listed is)
          ∙ again (sym (ap (λ o. or_later o (command_fault flow settings.cores es)) is) ∙ h)
      go (Some f) is again = absurd (some_none f (sym (ap (λ o. or_later o (command_fault flow settings.cores es)) is) ∙ h))

  pub record IsFirst (f : Fault) (fs : List Fault) : Type 0 where
    pub rest : List Fault
    pub is : fs ≡ f ∷ rest

  -- the first that is found is refused first
  pub commands_refused : (es : List (Job × State)) (f : Fault) → command_fault flow settings.cores es ≡ Some f → IsFirst f (flat_map refusals es)
  commands_refused [] f h = absurd (none_some f h)
  commands_refused (e ∷ es) f h = go (state_fault flow settings.cores e.0 e.1) refl (commands_refused es f)
    where
      go : (o : Option Fault) → state_fault flow settings.cores e.0 e.1 ≡ o → (command_fault flow settings.cores es ≡ Some f → IsFirst f (flat_map refusals es)) → IsFirst f (flat_map refusals (e ∷ es))
      go None is again =
          let r = again (sym (ap (λ o. or_later o (command_fault flow settings.cores es)) is) ∙ h) in
          record { rest = r.rest; is = ap (λ fs. fs ++ flat_map refusals es) (one_same e ∙ ap listed is) ∙ r.is }
      go (Some g) is again =
          let same : g ≡ f = same_some g f (sym (ap (λ o. or_later o (command_fault flow settings.cores es)) is) ∙ h) in
          record { rest = flat_map refusals es; is = ap (λ fs. fs ++ flat_map refusals es) (one_same e ∙ ap listed is) ∙ ap (λ x. x ∷ flat_map refusals es) same }
