-- On what children are started.
use Rattle.std.specs.Prelude.{◌≡◌, ◌⊎◌, ℕ, true, List, ◌∷◌, ◌++◌, Result, IsTrue}
use Rattle.smk_world.specs.declared.recipe.Recipe.{Recipe}
use Rattle.smk_world.specs.declared.event.Call.TheVariants.{Started}
use Rattle.smk_world.specs.declared.event.Event.{Event}
use Rattle.smk_world.specs.declared.event.Failed.{Failed}
use Rattle.smk_world.specs.World.{World, run, in_paths}
use Rattle.smk_world.specs.Runs.{Follows}
use Rattle.smk_world.specs.Trees.{Path, Each, kind_in}
use Rattle.smk_record.specs.declared.record.Record.{Record}
use Rattle.smk_store.specs.Images.{Image, seen, is_file, is_source, is_whole}
use Rattle.smk_store.specs.Trust.{Versions, SumsDiffer, Speaks, none_eased}
use Rattle.smk_store.specs.Soundness.{Outside, SoundWorld}
use Rattle.smk_laws_protocol.specs.Protocol.{RunState, Runs}
use Rattle.smk_laws_protocol.specs.Midway.{IsTop, at_entry}

-- Nothing is unfinished there: it is a source; or a whole output, or a file in one, whose record reads and has no mark.
pub data IsFinished (image : Image) (q : Path) : Type 0 where
  ASource : is_source image q ≡ true → IsFinished image q
  AnOutput :
      (h : Path) (r : Record) →
      Speaks image none_eased q h r → IsTrue (is_whole image h (kind_in r.recipe h)) → (q ≡ h) ⊎ IsTrue (is_file image q) → IsFinished image q

-- Each child of the log was started on such inputs.
abbrev pub StartsOnFinished : Outside → World → List Event → Type 0
StartsOnFinished o w log =
    (events rest : List Event) (e : Event) (recipe : Recipe) (logs : List Path) (command : List ℕ) (r : Result ℕ Failed) →
    log ≡ events ++ e ∷ rest → e.call ≡ Started recipe logs command r → Each (IsFinished (seen o.read (run w events))) (in_paths recipe)

-- So it is of a run of the protocol from a folder that is sound for versions of which no two different contents have the same SHA-256.
abbrev pub RunsStartOnFinished : Type 0
RunsStartOnFinished =
    (o : Outside) (entry : World) (H : Versions) (top : ℕ) (log : List Event) (s : RunState) →
    SumsDiffer H → SoundWorld o entry H → IsTop o entry top → Follows o.act entry log → Runs o (at_entry o top) entry log s → StartsOnFinished o entry log
