-- What a round of a sweep did, and a whole sweep.
use Rattle.std.specs.Prelude.{◌≡◌, ◌≢◌, Bool, true, false, List, [], ◌∷◌, ◌++◌, None, Result, Ok, Err}
use Rattle.smk_world.specs.declared.event.Event.{Event}
use Rattle.smk_world.specs.Devices.{Device, HasActed, HasCarried}
use Rattle.smk_world.specs.Requests.{Request}
use Rattle.smk_world.specs.Requests.Request.{Settle}
use Rattle.smk_world.specs.Trees.{Act, Path}
use Rattle.smk_world.specs.World.{World}
use Rattle.smk_flow.specs.Flows.{Flow}
use Rattle.smk_pick.specs.declared.settings.Settings.{Settings}
use Rattle.smk_plan_live.specs.Live.{LivePlan}
use Rattle.smk_plan_live.specs.Carried.{spent}
use Rattle.smk_report.specs.declared.fault.Fault.{Fault}
use Rattle.smk_report.specs.declared.fault.Fault.TheVariants as fault
use Rattle.smk_run.specs.Statuses.{HasGiven}
use Rattle.smk_drive.specs.Moments.{Rules}
use Rattle.smk_drive_step.specs.Crews.{is_device}
use Rattle.smk_drive_course.specs.Stands.{Stand}
use Rattle.smk_drive_course.specs.Steps.{Deed}
use Rattle.smk_drive_first.specs.Opening.{AreRules}
use Rattle.smk_laws_turns.specs.Hubs.{IsAt, Parts}
use Rattle.smk_laws_turns.specs.Resting.{IsAnswerOf}
use Rattle.smk_laws_begins.specs.Sweeping.{IsLaterPlan, IsSweptNot, IsSweptShort, IsSweptTo, with_live}
use Rattle.smk_drive_begin.specs.declared.rounds.Round.{Round}
use Rattle.smk_drive_begin.specs.declared.rounds.Round.TheVariants.{Removed, Done, Halted, Broken}

-- ## Rounds

abbrev pub is_broken : Round → Bool
is_broken Removed = false
is_broken Done = false
is_broken (Halted f) = false
is_broken Broken = true

-- From where the run stood these outputs were removed, with what came of the last round.
abbrev pub IsRoundOf :
    Rules → World → Parts → Stand → World → List Event → List Deed → LivePlan → List Path → Round → List Event → Type 0
IsRoundOf rules entry h s w before deeds live paths Removed es = IsSweptTo rules entry h s w before deeds live paths es
IsRoundOf rules entry h s w before deeds live paths Done es = IsSweptTo rules entry h s w before deeds live paths es
IsRoundOf rules entry h s w before deeds live paths (Halted f) es = IsSweptShort rules entry h s w before deeds live paths es f
IsRoundOf rules entry h s w before deeds live paths Broken es = IsSweptNot rules entry h s w before deeds live es

-- wherever the run stood, by whichever such rules, where no fault had come
abbrev pub SweepsOn : Flow → Settings → Parts → LivePlan → List Path → Round → World → List Event → Type 0
SweepsOn flow settings h live paths round w es =
    (rules : Rules) (entry : World) (s : Stand) (before : List Event) (deeds : List Deed) →
    AreRules flow settings rules →
    IsAt rules entry h s w before deeds → s.halted ≡ None → IsRoundOf rules entry h s w before deeds live paths round es

-- a fault of a plan or of memory, where one came
abbrev pub IsQuiet : Round → Type 0
IsQuiet Removed = Unit {0}
IsQuiet Done = Unit {0}
IsQuiet (Halted f) = (is_device f ≡ false) × (f ≢ fault.Output)
IsQuiet Broken = Unit {0}

-- What rounds did, from what was kept before them to what is kept after them, which differs in the plan alone.
pub record HasSwept (act : Act) (flow : Flow) (settings : Settings) (h k : Parts) (paths : List Path) (round : Round) (old new : Device) : Type 0 where
  pub acted : HasActed act (SweepsOn flow settings h k.live paths round) old new (is_broken round)
  pub given : HasGiven act old new
  pub only_plan : k ≡ with_live k.live h
  pub later : IsLaterPlan h.live k.live
  pub quiet : IsQuiet round

-- ## The end of a sweep

-- the call that makes removals firm, if any were made
abbrev pub settle_requests : List Path → List Request
settle_requests [] = []
settle_requests (p ∷ paths) = Settle (p ∷ paths) ∷ []

-- what is answered, where that call didn't fail
abbrev pub answer_by : Round → Result (Unit {0}) Fault
answer_by Removed = Ok tt
answer_by Done = Ok tt
answer_by (Halted f) = Err f
answer_by Broken = Err fault.Device

-- These were made firm after the last round, unless a call had failed; and this is answered.
pub data IsConcluded (act : Act) (paths : List Path) (round : Round) (old new : Device) : Result (Unit {0}) Fault → Type 0 where
  Firm : is_broken round ≡ false → HasCarried act (settle_requests paths) old new false → IsConcluded act paths round old new (answer_by round)
  Unfirm : is_broken round ≡ false → HasCarried act (settle_requests paths) old new true → IsConcluded act paths round old new (Err fault.Device)
  WasBroken : is_broken round ≡ true → new ≡ old → IsConcluded act paths round old new (Err fault.Device)

-- These were made firm, and this is answered as it was to be; or the call failed.
pub data IsFirm (act : Act) (paths : List Path) (answer : Result (Unit {0}) Fault) : Result (Unit {0}) Fault → Device → Device → Type 0 where
  IsAsWas : (old new : Device) → HasCarried act (settle_requests paths) old new false → IsFirm act paths answer answer old new
  HasFailed : (old new : Device) → HasCarried act (settle_requests paths) old new true → IsFirm act paths answer (Err fault.Device) old new

-- ## One round

-- what a round came to, by what the plan answered
abbrev pub round_of : Result (Unit {0}) Fault → Round
round_of (Ok u) = Removed
round_of (Err f) = Halted f

-- The plan was told that this output was removed.
pub record IsToldRound (flow : Flow) (settings : Settings) (p : Path) (live later : LivePlan) (round : Round) : Type 0 where
  pub later_plan : IsLaterPlan live later
  pub answer : Result (Unit {0}) Fault
  pub is : round ≡ round_of answer
  pub answered : live.settings ≡ settings → IsAnswerOf flow settings (spent p live.base) later answer
  pub quiet : IsQuiet round

-- A round added these to the outputs that were removed.
pub record HasRound (act : Act) (flow : Flow) (settings : Settings) (h k : Parts) (were are : List Path) (round : Round) (old new : Device) : Type 0 where
  pub paths : List Path
  pub taken : are ≡ were ++ paths
  pub swept : HasSwept act flow settings h k paths round old new
