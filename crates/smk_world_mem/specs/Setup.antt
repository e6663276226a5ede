-- What the setup of a workspace has fail.
use Rattle.std.specs.Prelude.{◌≡◌, ◌<◌, ◌≤◌, ◌+◌, ℕ, zero, suc, Bool, true, false, ◌||◌, List, [], ◌∷◌, Option, None, Some, Ok, nat_lt, nat_eq, if◌then◌else◌}
use Rattle.std.specs.List.{list_any}
use Rattle.std.specs.Coded.{le_prop}
use Rattle.smk_world.specs.declared.event.Call.{Call}
use Rattle.smk_world.specs.declared.event.Call.TheVariants.{Waited}
use Rattle.smk_world.specs.declared.event.Event.{Event}
use Rattle.smk_world_nodes.specs.Steps.{replay, empty_world}
use Rattle.smk_world_nodes.specs.declared.step.Step.{Step}

abbrev pub is_past : Option ℕ → ℕ → Bool
is_past None number = false
is_past (Some last) number = nat_lt last number

-- the call of this number is to fail
abbrev pub fails_at : List ℕ → Option ℕ → ℕ → Bool
fails_at failing stop_after number = is_past stop_after number || list_any (λ n. nat_eq n number) failing

-- how many of the first calls are to fail
abbrev pub failing_calls : List ℕ → Option ℕ → ℕ → ℕ
failing_calls failing stop_after zero = 0
failing_calls failing stop_after (suc n) = failing_calls failing stop_after n + (if fails_at failing stop_after (suc n) then 1 else 0)

abbrev pub killed_end : List ℕ → Call → ℕ
killed_end killed (Waited (Ok ended)) = if list_any (λ n. nat_eq n ended.number) killed then 1 else 0
killed_end killed call = 0

-- how many children ended that are to be killed
abbrev pub killed_ends : List ℕ → List Event → ℕ
killed_ends killed [] = 0
killed_ends killed (e ∷ es) = killed_end killed e.call + killed_ends killed es

-- Each fault has a cause: a call that is to fail, or the end of a child that is to be killed.
pub record HasCauses (failing : List ℕ) (stop_after : Option ℕ) (killed : List ℕ) (calls faults next : ℕ) (log : List Event) : Type 0 where
  pub counted : faults ≤ failing_calls failing stop_after calls + killed_ends killed log
  pub numbered : next ≤ calls + 1

-- Where the world is told and the calls can be counted, each fault has a cause.
abbrev pub Caused : Bool → List ℕ → Option ℕ → List ℕ → ℕ → ℕ → ℕ → List Step → Type 0
Caused told failing stop_after killed calls faults next steps = told ≡ true → calls < 18446744073709551615 → HasCauses failing stop_after killed calls faults next (replay empty_world steps).log

pub Caused-prop : (told : Bool) (failing : List ℕ) (stop_after : Option ℕ) (killed : List ℕ) (calls faults next : ℕ) (steps : List Step) → IsProp (Caused told failing stop_after killed calls faults next steps)
Caused-prop told failing stop_after killed calls faults next steps = λ f g i told_is counts. record {
  counted = le_prop (f told_is counts).counted (g told_is counts).counted i;
  numbered = le_prop (f told_is counts).numbered (g told_is counts).numbered i;
}
