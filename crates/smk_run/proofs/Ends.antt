-- What a function did with a device, told otherwise.
use Rattle.std.proofs.Common.{◌≡◌, ◌≤◌, Bool, false, List, [], ◌++◌, refl, ◌∙◌, Option, arith}
use Rattle.smk_world.specs.declared.event.Event.{Event}
use Rattle.smk_world.specs.World.{World, run}
use Rattle.smk_world.specs.Devices.{Device, HasActed, HasEnded}
use Rattle.smk_world.specs.Runs.{Did, Follows}
use Rattle.smk_world.specs.Trees.{Act}
use Rattle.smk_world.proofs.Runs.{did_both}
use Rattle.smk_world.proofs.Devices.{acted_nothing, ended_acted}
use Rattle.smk_run.proofs.Rising.{rose_earlier}

-- what holds of the events as well
pub did_as : (act : Act) (P Q : World → List Event → Type 0) (a b : Option World) → Did act a b P → ((w : World) (es : List Event) → P w es → Q w es) → Did act a b Q
did_as act P Q a b h more = λ w1 e. let d = h w1 e in (d.0, d.1, (d.2.0, d.2.1, more d.0 d.2.0 d.2.2, d.2.3))

pub ended_as : (act : Act) (P Q : World → List Event → Type 0) (a b : Device) (f g : Bool) → f ≡ g → ((w : World) (es : List Event) → P w es → Q w es) → HasEnded act P a b f → HasEnded act Q a b g
ended_as act P Q a b f g same more h =
    record {
      did = did_as act P Q a.world b.world h.did more;
      stays = λ quiet some. h.stays (same ∙ quiet) some;
      cause = record { later = h.cause.later; rose = λ failure. h.cause.rose (same ∙ failure) };
      idle = λ quiet. h.idle (same ∙ quiet);
    }

-- nothing was done
pub ended_nothing : (act : Act) (P : World → List Event → Type 0) (a : Device) → a.running ≡ [] → ((w : World) → P w []) → HasEnded act P a a false
ended_nothing act P a none start = ended_acted none (acted_nothing act P a start)

-- the same children ran, and then all ended
pub acted_ended : (act : Act) (P Q R : World → List Event → Type 0) (a b c : Device) (f : Bool)
    → ((w : World) (es fs : List Event) → Follows act w es → P w es → Follows act (run w es) fs → Q (run w es) fs → R w (es ++ fs))
    → HasActed act P a b false → HasEnded act Q b c f → HasEnded act R a c f
acted_ended act P Q R a b c f both first second =
    record {
      did = did_both act P Q R a.world b.world c.world first.did second.did both;
      stays = λ quiet some. second.stays quiet (first.stays refl some);
      cause = record {
        later = omega (arith, first.cause.later, second.cause.later);
        rose = λ failure. rose_earlier a.faults b.faults c.faults first.cause.later (second.cause.rose failure);
      };
      idle = second.idle;
    }
