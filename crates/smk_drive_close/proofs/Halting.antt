-- Where no fault has come nothing is refused of commands.
use Rattle.std.proofs.Common.{◌≡◌, true, false, List, refl, sym, ap, subst, ◌∙◌, Option, Some, None, Result, Ok, Err}
use Rattle.std.specs.Prelude.{OnOk}
use Rattle.std.specs.Option.{is_none}
use Rattle.smk_flow.specs.Flows.{Flow}
use Rattle.smk_pick.specs.declared.settings.Settings.{Settings}
use Rattle.smk_report.specs.declared.fault.Fault.{Fault}
use Rattle.smk_drive_step.specs.declared.children.Child.{Child}
use Rattle.smk_drive_step.specs.Crews.{IsPutFor, goings, or_later}
use Rattle.smk_laws_turns.specs.Resting.{refused_command}
use Rattle.smk_laws_turns.specs.Hubs.{Parts}
use Rattle.smk_laws_turns.specs.Turning.{faulted}
use Rattle.smk_drive_hub.specs.Keeping.{heeded}
use Rattle.smk_drive_hub.specs.Turned.{IsTakenFrom}

some_none : (f : Fault) → Some f ≡ None → ⊥
some_none f e = cc

-- a fault has come
pub is_faulted : {A : Type 0} (f : Fault) (h k : Parts) → k ≡ faulted f h → k.halt.fault ≡ None → A
is_faulted f h k is none = absurd (some_none (or_later h.halt.fault f) (sym (ap (λ (x : Parts). x.halt.fault) is) ∙ none))

-- whether one has
pub is_halted : (o : Option Fault) → is_none o ≡ false → o ≡ None → ⊥
is_halted o some none = never (sym (ap is_none none) ∙ some)
  where
    never : true ≡ false → ⊥
    never e = cc

pub is_unhalted : (o : Option Fault) → is_none o ≡ true → o ≡ None
is_unhalted None e = refl
is_unhalted (Some f) e = absurd (never e)
  where
    never : false ≡ true → ⊥
    never e = cc

-- what was told of the plan is heeded
pub heeded_commands :
    (flow : Flow) (settings : Settings) (answer : Result (Unit {0}) Fault) (h k : Parts) →
    k ≡ heeded answer h →
    OnOk answer (h.halt.fault ≡ None → refused_command flow settings h.live ≡ None) → k.halt.fault ≡ None → refused_command flow settings k.live ≡ None
heeded_commands flow settings (Ok u) h k is good none =
    subst (λ (x : Parts). refused_command flow settings x.live ≡ None) (sym is) (good (sym (ap (λ (x : Parts). x.halt.fault) is) ∙ none))
heeded_commands flow settings (Err f) h k is good none = is_faulted f h k is none

-- the child was taken, and of the others just numbers have changed
pub taken_from :
    (c : Child) (were left are : List (Option Child)) → IsPutFor (Some c) None were left → goings are ≡ goings left → IsTakenFrom c were are
taken_from c were left are put same = record { left = left; put = put; goings = same }

pub always_so : {T : Type 0} (P Q : Type 0) (r : Result (Unit {0}) T) → OnOk r P → OnOk r (Q → P)
always_so P Q (Ok u) h = λ q. h
always_so P Q (Err f) h = tt
