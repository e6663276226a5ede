-- What a call of the program gives in a folder that came by such calls, by edits, removals and crashes.
use Rattle.std.specs.Prelude.{◌≡◌, Bool, true, List, [], ◌++◌, Option, Some}
use Rattle.smk_world.specs.declared.event.Event.{Event}
use Rattle.smk_world.specs.World.{World, Nodes, run, world_of}
use Rattle.smk_world.specs.Calls.{Rose}
use Rattle.smk_world.specs.Devices.{Device, Sunk}
use Rattle.smk_world.specs.Folders.{IsLeft}
use Rattle.smk_world.specs.Trees.{Path, Act, Each, is_path_text}
use Rattle.smk_store.specs.Trust.{Versions}
use Rattle.smk_store.specs.Safety.{with_sources}
use Rattle.smk_report.specs.declared.fault.Fault.{Fault}
use Rattle.smk_words_reading.specs.declared.asked.Asked.{Asked as Request}
use Rattle.smk_words_reading.specs.declared.asked.Asked.TheVariants.{Run, Forget}
use Rattle.smk_words_reading.specs.declared.asked.RunWords.{RunWords}
use Rattle.smk_keep_forget.specs.Seen.{seen}
use Rattle.smk_laws_keys.specs.Keys.{outside}
use Rattle.smk_laws_call.specs.Headline.{Came, IsCalled, RunGives, SumsDifferIn}

-- ## A run

-- What was done is a call for a run that led from the one folder to the other, and the headline is so of it.
pub record HasGivenRun (act : Act) (words : RunWords) (told : Option Fault) (w v : World) (old new : Device) (out_old out_new : Sunk) : Type 0 where
  pub called : IsCalled (outside act) (Run words) told w v
  pub device : (called.old ≡ old) × (called.new ≡ new)
  pub output : (called.out_old ≡ out_old) × (called.out_new ≡ out_new)
  pub gives : RunGives (outside act) words told w v called

-- So it is in each folder that came, where no two different contents that sources had on the way have the same SHA-256.
abbrev pub RunsGive : Act → RunWords → Option Fault → Device → Device → Sunk → Sunk → Type 0
RunsGive act words told old new out_old out_new =
    (w v : World) (H : Versions) (came : Came act w H) →
    SumsDifferIn act w H came → old.world ≡ Some w → new.world ≡ Some v → HasGivenRun act words told w v old new out_old out_new

-- ## The folder that is left

-- The folder that is left came likewise, under a premise, where no child runs; and so did whatever a crash leaves after any event of the call.
pub record ComesOn (act : Act) (premise : Type 0) (w v : World) (H : Versions) : Type 0 where
  pub ended : premise → v.children ≡ [] → Came act v (with_sources H (seen v))
  pub crashed :
      (log events rest : List Event) (nodes : Nodes) →
      v ≡ run w log →
      log ≡ events ++ rest → IsLeft (run w events) nodes → Came act (world_of nodes) (with_sources H (seen (world_of nodes)))

abbrev pub IsQuiet : Device → Device → Type 0
IsQuiet old new = Rose old.faults new.faults → ⊥

-- So it is of a run or a listing in each folder that came,
abbrev pub MakesCome : Act → Device → Device → Type 0
MakesCome act old new = (w v : World) (H : Versions) → Came act w H → old.world ≡ Some w → new.world ≡ Some v → ComesOn act (Unit {0}) w v H

abbrev pub AreTexts : Request → Type 0
AreTexts request = (paths : List Path) (nolock : Bool) → request ≡ Forget paths nolock → Each (λ p. is_path_text p ≡ true) paths

-- and of `--unlock` and `--cleanup-metadata`, of paths that are texts; of its end where no call of the device failed.
abbrev pub KeepsCome : Act → Request → Device → Device → Type 0
KeepsCome act request old new =
    (w v : World) (H : Versions) → AreTexts request → Came act w H → old.world ≡ Some w → new.world ≡ Some v → ComesOn act (IsQuiet old new) w v H
