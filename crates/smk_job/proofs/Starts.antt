-- A child is started after other calls, and others follow.
use Rattle.std.proofs.Common.{◌≡◌, inl, inr, ℕ, ◌≤◌, Bool, false, List, [], ◌∷◌, ◌++◌, refl, ap, ◌∙◌, arith, Option, None, Result, Ok, Err}
use Rattle.std.specs.Prelude.{is_err}
use Rattle.smk_world.specs.declared.event.Call.TheVariants.{Started}
use Rattle.smk_world.specs.declared.event.Change.{Change}
use Rattle.smk_world.specs.declared.event.Event.{Event}
use Rattle.smk_world.specs.declared.event.Failed.{Failed}
use Rattle.smk_world.specs.declared.recipe.Recipe.{Recipe}
use Rattle.smk_world.specs.World.{World, run}
use Rattle.smk_world.specs.Calls.{Lets, Rose}
use Rattle.smk_world.specs.Devices.{Device, HasCalled, HasActed, HasEnded, running_after}
use Rattle.smk_world.specs.Runs.{Follows}
use Rattle.smk_world.specs.Trees.{Path, Act}
use Rattle.smk_world.proofs.Runs.{did_more, did_both}
use Rattle.smk_job.specs.Starts.{HasStarted, with_child, started_child}

further : (a b c : ℕ) → a ≤ b → Rose b c → Rose a c
further a b c le (inl lt) = inl (omega (arith, le, lt))
further a b c le (inr e) = inr e

-- no child was started
pub started_acted : (act : Act) (P : World → List Event → Type 0) (a b : Device) (f : Bool) → HasActed act P a b f → HasStarted act P None a b f
started_acted act P a b f h = record { did = h.did; stays = h.stays; cause = h.cause; running = h.running }

-- what holds of the events as well
pub started_as : (act : Act) (P Q : World → List Event → Type 0) (child : Option ℕ) (a b : Device) (f : Bool) → ((w : World) (es : List Event) → P w es → Q w es) → HasStarted act P child a b f → HasStarted act Q child a b f
started_as act P Q child a b f more h =
    record {
      did = λ w1 e. let d = h.did w1 e in (d.0, d.1, (d.2.0, d.2.1, more d.0 d.2.0 d.2.2, d.2.3));
      stays = h.stays;
      cause = h.cause;
      running = h.running;
    }

child_after : (recipe : Recipe) (logs : List Path) (command : List ℕ) (r : Result ℕ Failed) (old mid : List ℕ) → mid ≡ old → running_after (Started recipe logs command r) mid ≡ with_child (started_child r) old
child_after recipe logs command (Ok n) old mid same = ap (λ ns. ns ++ n ∷ []) same
child_after recipe logs command (Err e) old mid same = same

-- a command was started last, or that failed
pub started_call : (act : Act) (P Q : World → List Event → Type 0) (a b c : Device) (recipe : Recipe) (logs : List Path) (command : List ℕ) (r : Result ℕ Failed)
    → ((w : World) (es : List Event) (left : List Change) → Follows act w es → P w es → Lets act (run w es) (Started recipe logs command r) left → Q w (es ++ record { call = Started recipe logs command r; left = left } ∷ []))
    → HasActed act P a b false → HasCalled act b c (Started recipe logs command r) → HasStarted act Q (started_child r) a c (is_err r)
started_call act P Q a b c recipe logs command r more before now =
    record {
      did = did_more act P Q a.world b.world c.world (Started recipe logs command r) before.did now.world (λ w es left follows p h. more w es left follows p h.lets);
      stays = λ quiet some. now.world.stays (before.stays refl some) quiet;
      cause = record {
        later = omega (arith, before.cause.later, now.cause.later);
        rose = λ failure. further a.faults b.faults c.faults before.cause.later (now.cause.rose failure);
      };
      running = now.running ∙ child_after recipe logs command r a.running b.running before.running;
    }

-- and then no child runs
pub started_ended : (act : Act) (P Q R : World → List Event → Type 0) (child : Option ℕ) (a b c : Device) (f : Bool)
    → ((w : World) (es fs : List Event) → Follows act w es → P w es → Follows act (run w es) fs → Q (run w es) fs → R w (es ++ fs))
    → HasStarted act P child a b false → HasEnded act Q b c f → HasEnded act R a c f
started_ended act P Q R child a b c f both first second =
    record {
      did = did_both act P Q R a.world b.world c.world first.did second.did both;
      stays = λ quiet some. second.stays quiet (first.stays refl some);
      cause = record {
        later = omega (arith, first.cause.later, second.cause.later);
        rose = λ failure. further a.faults b.faults c.faults first.cause.later (second.cause.rose failure);
      };
      idle = second.idle;
    }

-- none was started, and none ran
pub ended_started : (act : Act) (P : World → List Event → Type 0) (a b : Device) (f : Bool) → a.running ≡ [] → HasStarted act P None a b f → HasEnded act P a b f
ended_started act P a b f none h = record { did = h.did; stays = h.stays; cause = h.cause; idle = λ quiet. h.running ∙ none }
