-- Laws of `--unlock` and `--cleanup-metadata`.
use Rattle.std.specs.Prelude.{◌≡◌, Bool, true, false, not, List, [], ◌∷◌, ◌++◌, map, Result, Ok, Err}
use Rattle.smk_base.specs.Place.{lock_place, record_place, mark_place, note_place}
use Rattle.smk_world.specs.declared.event.Event.{Event}
use Rattle.smk_world.specs.Runs.{Follows}
use Rattle.smk_world.specs.Trees.{Path, Act, Each, is_path_text}
use Rattle.smk_world.specs.World.{World, run, reading}
use Rattle.smk_record.specs.Reading.{record_in}
use Rattle.smk_store.specs.Images.{is_known}
use Rattle.smk_store.specs.Safety.{KeepsSound}
use Rattle.smk_store.specs.Soundness.{Outside}
use Rattle.smk_store.specs.Unowned.{NoneOwned}
use Rattle.smk_keep_lock.specs.declared.fault.UnlockFault.{UnlockFault}
use Rattle.smk_keep_lock.specs.Changing.{ChangesOnly, IsSame}
use Rattle.smk_keep_lock.specs.Unlocking.{HasRemoved}
use Rattle.smk_keep_lock.specs.Unlocking as unlocking
use Rattle.smk_keep_forget.specs.declared.fault.ForgetFault.{ForgetFault}
use Rattle.smk_keep_forget.specs.declared.fault.ForgetFault.TheVariants.{Locked}
use Rattle.smk_keep_forget.specs.Answers.{is_device}
use Rattle.smk_keep_forget.specs.Cleaning.{HasCleaned}
use Rattle.smk_keep_forget.specs.Seen.{seen}

-- how records read, and what commands do
abbrev pub outside : Act → Outside
outside act = record { read = record_in; act = act }

-- ## Crashes

-- What `--unlock` does keeps soundness; to its end, where no call failed.
abbrev pub UnlockingIsSafe : Type 0
UnlockingIsSafe =
    (act : Act) (answer : Result (Unit {0}) UnlockFault) (w : World) (log : List Event) →
    Follows act w log → HasRemoved answer w log → KeepsSound (outside act) w log [] (not (unlocking.is_device answer))

-- So does what `--cleanup-metadata` does, but at and under the paths that it forgets.
abbrev pub CleaningIsSafe : Type 0
CleaningIsSafe =
    (act : Act) (paths : List Path) (nolock : Bool) (answer : Result (Unit {0}) ForgetFault) (w : World) (log : List Event) →
    Each (λ p. is_path_text p ≡ true) paths →
    NoneOwned w → Follows act w log → HasCleaned paths nolock answer w log → KeepsSound (outside act) w log paths (not (is_device answer))

-- ## What is left

-- the lock, and what is known of some paths
abbrev pub own_places : List Path → List Path
own_places paths = lock_place ∷ (map record_place paths ++ (map mark_place paths ++ map note_place paths))

-- nothing is known of the paths
abbrev pub AreForgotten : List Path → World → Type 0
AreForgotten paths w = Each (λ p. is_known (seen w) p ≡ false) paths

-- Nothing has changed but what is known of the paths, and the lock with its folders. Unless a call failed the lock is as it was; and where all is done
-- nothing is known of the paths. Where the lock stood all is as it was.
pub record LeavesLittle (paths : List Path) (answer : Result (Unit {0}) ForgetFault) (entry exit : World) : Type 0 where
  pub only : ChangesOnly (own_places paths) (lock_place ∷ []) entry exit
  pub lock : is_device answer ≡ false → reading (exit.nodes lock_place) ≡ reading (entry.nodes lock_place)
  pub all : answer ≡ Ok tt → AreForgotten paths exit
  pub same : answer ≡ Err Locked → IsSame entry exit

abbrev pub CleaningLeavesLittle : Type 0
CleaningLeavesLittle =
    (act : Act) (paths : List Path) (nolock : Bool) (answer : Result (Unit {0}) ForgetFault) (w : World) (log : List Event) →
    Follows act w log → HasCleaned paths nolock answer w log → LeavesLittle paths answer w (run w log)
