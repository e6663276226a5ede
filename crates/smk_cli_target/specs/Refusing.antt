-- The first refusal that a call meets.
use Rattle.std.specs.Prelude.{◌≡◌, ◌⊎◌, Bool, true, false, List, [], ◌∷◌, IsTrue, Some}
use Rattle.smk_world.specs.declared.event.Event.{Event}
use Rattle.smk_world.specs.World.{World, IsFormed}
use Rattle.smk_world.specs.Trees.{Path}
use Rattle.smk_pattern.specs.Shapes.{Text}
use Rattle.smk_flow.specs.Flows.{Flow}
use Rattle.smk_plan.specs.States.{nothing_done}
use Rattle.smk_report.specs.declared.fault.Fault.{Fault}
use Rattle.smk_report.specs.declared.fault.Fault.TheVariants as fault
use Rattle.smk_drive.specs.Moments.{Rules}
use Rattle.smk_drive.specs.Refusals.{ChainRefuses}
use Rattle.smk_drive_course.specs.Refusals.{IsSameFault, RunRefuses}
use Rattle.smk_words_reading.specs.declared.asked.Asked.TheVariants.{Run, Preview, Forget}
use Rattle.smk_words_reading.specs.declared.asked.RunWords.{RunWords}
use Rattle.smk_words_reading.specs.Asks.{IsAsked, LacksCores, AreUnread}
pub use Rattle.smk_keep_forget.specs.Seen.{is_let_in, seen_before, forgotten, seen_in_turn, forgettable}
use Rattle.smk_cli_target.specs.Files.{ReadsAs, FailsToRead, GoesBy, bad_target, seen}

-- ## Before anything is done

-- the words ask for a run or a listing of this
abbrev pub AsksToMake : List Text → RunWords → Type 0
AsksToMake words w = IsAsked words (Run w) ⊎ IsAsked words (Preview w)

-- What is refused before anything is done, in the order in which it is looked for: the words; what the files say; a target; the lock.
pub data RefusesAtOnce (words : List Text) (entry : World) : Fault → Type 0 where
  WordsRefuse : AreUnread words → RefusesAtOnce words entry fault.BadWords
  CoresRefuse : LacksCores words → RefusesAtOnce words entry fault.NoCores
  FilesRefuse : (w : RunWords) (f : Fault) → AsksToMake words w → FailsToRead w entry f → RefusesAtOnce words entry f
  TargetRefuses :
      (w : RunWords) (flow : Flow) (word : Text) →
      AsksToMake words w → ReadsAs w entry flow → bad_target flow w ≡ Some word → RefusesAtOnce words entry (fault.BadTarget word)
  LockRefusesRun :
      (w : RunWords) (rules : Rules) →
      IsAsked words (Run w) → GoesBy w entry rules → w.nolock ≡ false → IsTrue (seen entry).locked → RefusesAtOnce words entry fault.Locked
  LockRefusesForgetting :
      (paths : List Path) → IsAsked words (Forget paths false) → IsTrue (seen entry).locked → RefusesAtOnce words entry fault.Locked

-- faults that are told of nothing else
abbrev pub is_met_at_once : Fault → Bool
is_met_at_once fault.BadWords = true
is_met_at_once fault.NoCores = true
is_met_at_once (fault.Workflow flaw) = true
is_met_at_once (fault.BadTarget word) = true
is_met_at_once fault.Locked = true
is_met_at_once f = false

-- ## All of them

-- The first refusal that a call meets: at once; the time of a file at or under a path to forget, in its turn; or of the plans, of a run
-- at its entry or at a rest, of a listing at its entry.
pub data Refuses (words : List Text) (entry : World) (log : List Event) : Fault → Type 0 where
  AtOnce : (f : Fault) → RefusesAtOnce words entry f → Refuses words entry log f
  StampRefuses :
      (paths : List Path) (nolock : Bool) (q : Path) (rest : List Path) →
      IsAsked words (Forget paths nolock) →
      IsTrue (is_let_in nolock entry) → seen_in_turn (seen entry) paths ≡ q ∷ rest → Refuses words entry log (fault.StampSeen q)
  OfRun :
      (w : RunWords) (rules : Rules) (f : Fault) →
      IsAsked words (Run w) → GoesBy w entry rules → IsTrue (is_let_in w.nolock entry) → RunRefuses rules entry log f → Refuses words entry log f
  OfListing :
      (w : RunWords) (rules : Rules) (f : Fault) →
      IsAsked words (Preview w) → GoesBy w entry rules → ChainRefuses rules (seen entry) nothing_done [] f → Refuses words entry log f

-- A call meets one first refusal; only the count of too many paths may be any.
abbrev pub MeetsOne : Type 0
MeetsOne =
    (words : List Text) (entry : World) (log : List Event) (f g : Fault) →
    IsFormed entry → Refuses words entry log f → Refuses words entry log g → IsSameFault f g

-- ## Refusals that may stand although a clean run gives the targets

abbrev pub IsNamed : Fault → Type 0
IsNamed fault.Locked = Unit {0}
IsNamed (fault.TooManyPaths count) = Unit {0}
IsNamed (fault.Incomplete paths) = Unit {0}
IsNamed (fault.Protected path) = Unit {0}
IsNamed (fault.AboveLimit rule path name asked bound) = Unit {0}
IsNamed (fault.TooLong rule bytes) = Unit {0}
IsNamed fault.Serials = Unit {0}
IsNamed (fault.Clash path other) = Unit {0}
IsNamed f = ⊥

-- those of a listing
abbrev pub IsNamedInListing : Fault → Type 0
IsNamedInListing fault.Locked = ⊥
IsNamedInListing fault.Serials = ⊥
IsNamedInListing f = IsNamed f

-- those of `--cleanup-metadata`
abbrev pub IsNamedInForgetting : Fault → Type 0
IsNamedInForgetting fault.Locked = Unit {0}
IsNamedInForgetting (fault.StampSeen path) = Unit {0}
IsNamedInForgetting f = ⊥

abbrev pub none_named : Fault → Type 0
none_named f = ⊥
