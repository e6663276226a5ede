-- What is true of the events that a function added, by the world before them.
use Rattle.std.proofs.Common.{◌≡◌, Bool, List, ◌∙◌}
use Rattle.smk_world.specs.declared.event.Event.{Event}
use Rattle.smk_world.specs.World.{World}
use Rattle.smk_world.specs.Devices.{Device, WhereTold, HasActed}
use Rattle.smk_world.specs.Runs.{Follows}
use Rattle.smk_world.specs.Trees.{Act}

pub acted_more : (act : Act) (P Q : World → List Event → Type 0) (a b : Device) (f g : Bool) → f ≡ g
    → WhereTold a (λ w. (es : List Event) → Follows act w es → P w es → Q w es) → HasActed act P a b f → HasActed act Q a b g
acted_more act P Q a b f g same more h =
    record {
      did = λ w1 e. let d = h.did w1 e in (d.0, d.1, (d.2.0, d.2.1, more d.0 d.1 d.2.0 d.2.1 d.2.2, d.2.3));
      stays = λ quiet some. h.stays (same ∙ quiet) some;
      cause = record { later = h.cause.later; rose = λ failure. h.cause.rose (same ∙ failure) };
      running = h.running;
      children = h.children;
    }
