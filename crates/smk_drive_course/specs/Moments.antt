-- What a run has started, and what is said of each event of its log.
use Rattle.std.specs.Prelude.{◌≡◌, Bool, true, false, List, [], ◌∷◌, ◌++◌, filter, bytes_eq, Ok}
use Rattle.std.specs.List.{list_any}
use lib.Pointwise.{pointwise}
use Rattle.smk_world.specs.declared.event.Call.{Call}
use Rattle.smk_world.specs.declared.event.Call.TheVariants.{Started}
use Rattle.smk_world.specs.declared.event.Event.{Event}
use Rattle.smk_world.specs.World.{World, IsFormed, out_paths}
use Rattle.smk_world.specs.Devices.{is_look}
use Rattle.smk_flow.specs.declared.job.Job.{Job}
use Rattle.smk_drive.specs.Moments.{Rules, Moment, Begun, IsMoment}

-- the call started a child of this job
abbrev pub starts : Job → Call → Bool
starts j (Started recipe logs command (Ok number)) = pointwise bytes_eq (out_paths recipe) (out_paths j.recipe)
starts j call = false

-- a child of this job was started
abbrev pub was_started : List Event → Begun → Bool
was_started events b = list_any (λ (e : Event). starts b.job e.call) events

-- the jobs of which a child was started; a job may have begun without
abbrev pub started : Moment → List Begun
started m = filter (was_started m.events) m.begun

-- ## The moments of a log

-- P of each event of the log, with the moment before it
abbrev pub AtEachEvent : Rules → World → List Event → (Moment → Event → Type 0) → Type 0
AtEachEvent rules entry log P =
    (events : List Event) (e : Event) (rest : List Event) (m : Moment) → log ≡ events ++ e ∷ rest → IsMoment rules entry events m → P m e

-- After some events there is no other moment than this one: at each rest there is one plan in force, or none.
abbrev pub OneMoment : Type 0
OneMoment =
    (rules : Rules) (entry : World) (events : List Event) (a b : Moment) →
    IsFormed entry → IsMoment rules entry events a → IsMoment rules entry events b → a ≡ b

-- After any events there is a moment.
abbrev pub HasMoment : Type 0
HasMoment = (rules : Rules) (entry : World) (events : List Event) → IsFormed entry → (m : Moment) × IsMoment rules entry events m

-- the same jobs have begun, and the same plan is in force
pub record IsStill (before now : Moment) : Type 0 where
  pub begun : now.begun ≡ before.begun
  pub plan : now.plan ≡ before.plan
  pub lists : now.lists ≡ before.lists

-- So it is after a look.
abbrev pub LooksKeepMoments : Type 0
LooksKeepMoments =
    (rules : Rules) (entry : World) (events : List Event) (call : Call) (before now : Moment) →
    IsFormed entry →
    is_look call ≡ true →
    IsMoment rules entry events before → IsMoment rules entry (events ++ record { call = call; left = [] } ∷ []) now → IsStill before now
