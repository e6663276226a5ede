-- One more call, and one more fact of the world before.
use Rattle.std.proofs.Common.{◌≡◌, Bool, true, false, List, [], ◌∷◌, ◌++◌, refl, sym, subst, ◌∙◌, Some}
use Rattle.smk_world.specs.declared.event.Call.{Call}
use Rattle.smk_world.specs.declared.event.Change.{Change}
use Rattle.smk_world.specs.declared.event.Event.{Event}
use Rattle.smk_world.specs.World.{World, run}
use Rattle.smk_world.specs.Calls.{Lets, failed}
use Rattle.smk_world.specs.Devices.{Device, WhereTold, HasCalled, HasActed, keeps_children}
use Rattle.smk_world.specs.Runs.{Follows}
use Rattle.smk_world.specs.Trees.{Act}
use Rattle.smk_world.proofs.Devices.{acted_call, acted_then, unused_still}
use Rattle.smk_store.specs.declared.places.JobPlaces.{JobPlaces}
use Rattle.smk_job.specs.Jobs.{AreFree}

-- one more call
pub acted_more : (act : Act) (P R : World → List Event → Type 0) (a b c : Device) (call : Call) → keeps_children call ≡ true
    → ((w : World) (es : List Event) (left : List Change) → Follows act w es → P w es → Lets act (run w es) call left → R w (es ++ record { call = call; left = left } ∷ []))
    → HasActed act P a b false → HasCalled act b c call → HasActed act R a c (failed call)
acted_more act P R a b c call same more before now =
    acted_then act P (λ w es. (left : List Change) × (es ≡ record { call = call; left = left } ∷ []) × Lets act w call left) R a b c (failed call)
    (λ w es fs follows p follows2 q. subst (λ t. R w (es ++ t)) (sym q.1) (more w es q.0 follows p q.2)) before
    (acted_call act (λ w es. (left : List Change) × (es ≡ record { call = call; left = left } ∷ []) × Lets act w call left) b c call same (λ w left lets. (left, refl, lets)) now)

-- what holds of the events as well, in the world before
pub acted_in : (act : Act) (P Q : World → List Event → Type 0) (a b : Device) (f g : Bool) → f ≡ g → ((w : World) (es : List Event) → a.world ≡ Some w → P w es → Q w es) → HasActed act P a b f → HasActed act Q a b g
acted_in act P Q a b f g same more h =
    record {
      did = λ w1 e. let d = h.did w1 e in (d.0, d.1, (d.2.0, d.2.1, more d.0 d.2.0 d.1 d.2.2, d.2.3));
      stays = λ quiet some. h.stays (same ∙ quiet) some;
      cause = record { later = h.cause.later; rose = λ failure. h.cause.rose (same ∙ failure) };
      running = h.running;
      children = h.children;
    }

-- what no running child uses is used by none
pub free_still : {act : Act} {P : World → List Event → Type 0} {a b : Device} {f : Bool} (places : JobPlaces) → HasActed act P a b f → WhereTold a (AreFree places) → WhereTold b (AreFree places)
free_still places h free = λ w at. record {
  outputs = unused_still places.outputs h (λ v e. (free v e).outputs) w at;
  records = unused_still places.records h (λ v e. (free v e).records) w at;
  marks = unused_still places.marks h (λ v e. (free v e).marks) w at;
}
