-- Which answers `--cleanup-metadata` has, by the folder as it is called.
use Rattle.std.specs.Prelude.{◌≡◌, Bool, true, false, List, [], ◌∷◌, Result, Ok, Err, IsTrue}
use Rattle.smk_world.specs.declared.event.Event.{Event}
use Rattle.smk_world.specs.Runs.{Follows}
use Rattle.smk_world.specs.Trees.{Path, Act, Each, is_path_text}
use Rattle.smk_world.specs.World.{World, IsFormed, run}
use Rattle.smk_keep_forget.specs.declared.fault.ForgetFault.{ForgetFault}
use Rattle.smk_keep_forget.specs.declared.fault.ForgetFault.TheVariants.{Locked, StampSeen, Device, Output, OutOfMemory}
use Rattle.smk_keep_forget.specs.Cleaning.{HasCleaned}
use Rattle.smk_keep_forget.specs.Seen.{seen, is_let_in, seen_in_turn, forgettable}
use Rattle.smk_laws_keys.specs.Keys.{AreForgotten}

-- The call may answer so: done where it is let in and no time was seen before; `Locked` where it isn't let in; `StampSeen` with the first path
-- whose time was seen, path by path; and a put comes only where it is let in.
abbrev pub IsMet : List Path → Bool → Result (Unit {0}) ForgetFault → World → Type 0
IsMet paths nolock (Ok u) entry = IsTrue (is_let_in nolock entry) × (seen_in_turn (seen entry) paths ≡ [])
IsMet paths nolock (Err Locked) entry = is_let_in nolock entry ≡ false
IsMet paths nolock (Err (StampSeen q)) entry = IsTrue (is_let_in nolock entry) × ((rest : List Path) × (seen_in_turn (seen entry) paths ≡ q ∷ rest))
IsMet paths nolock (Err Device) entry = Unit {0}
IsMet paths nolock (Err Output) entry = IsTrue (is_let_in nolock entry)
IsMet paths nolock (Err OutOfMemory) entry = Unit {0}

abbrev pub CleaningMeetsStamps : Type 0
CleaningMeetsStamps =
    (act : Act) (paths : List Path) (nolock : Bool) (answer : Result (Unit {0}) ForgetFault) (w : World) (log : List Event) →
    IsFormed w → Each (λ p. is_path_text p ≡ true) paths → Follows act w log → HasCleaned paths nolock answer w log → IsMet paths nolock answer w

-- Where a path is refused, those before it are forgotten.
abbrev pub RefusedLeavesFront : Type 0
RefusedLeavesFront =
    (act : Act) (paths : List Path) (nolock : Bool) (q : Path) (w : World) (log : List Event) →
    IsFormed w →
    Each (λ p. is_path_text p ≡ true) paths →
    Follows act w log → HasCleaned paths nolock (Err (StampSeen q)) w log → AreForgotten (forgettable (seen w) paths) (run w log)
