-- A plan is made anew at each stand, be one in force or none.
use Rattle.std.proofs.Common.{◌≡◌, inl, inr, Bool, true, false, List, refl, Option, Some, None}
use Rattle.smk_world.specs.World.{IsFormed, World}
use Rattle.smk_chain.specs.Derive.{Listings}
use Rattle.smk_laws_history.proofs.CurrentComplete.{seen_is_complete}
use Rattle.smk_drive.specs.Moments.{Begun, IsInForce, Rules, is_rest, progress_of, seen}
use Rattle.smk_plan.specs.States.{Plan}
use Rattle.smk_drive_course.proofs.HasMoment.{IsSettled, settled}
use Rattle.smk_drive_course.specs.Stands.{AtRest, Between, Stand, lists, replanned}
use Rattle.smk_laws_turns.specs.Resting.{AnyIsReplanned, HasReplanned, IsSameRun}

-- there is a plan in force, or none
pub in_force : (rules : Rules) (w : World) (begun : List Begun) (L : Listings) → IsFormed w → (plan : Option Plan) × IsInForce rules w begun L plan
in_force rules w begun L formed =
    go (settled rules.flow (seen rules w) rules.settings (progress_of w begun) (seen_is_complete rules.read w formed) L)
  where
    go : IsSettled rules.flow (seen rules w) rules.settings (progress_of w begun) (seen_is_complete rules.read w formed) L → (plan : Option Plan) × IsInForce rules w begun L plan
    go (inl (plan, last)) = (Some plan, last)
    go (inr none) = (None, none)

pub same_run : (plan : Option Plan) (u : Stand) → IsSameRun u (replanned plan u)
same_run plan u = record { begun = refl; runs = refl; broken = refl }

any_by : (rules : Rules) (w : World) (u : Stand) → IsFormed w → (b : Bool) → is_rest w u.begun ≡ b → HasReplanned rules w u
any_by rules w u formed true at =
    let p = in_force rules w u.begun (lists u) formed in
    record { next = replanned p.0 u; replanned = AtRest p.0 at p.1; same = same_run p.0 u; halted = refl }
any_by rules w u formed false at =
    record { next = u; replanned = Between at; same = record { begun = refl; runs = refl; broken = refl }; halted = refl }

pub any_is_replanned : AnyIsReplanned
any_is_replanned rules w u formed = any_by rules w u formed (is_rest w u.begun) refl
