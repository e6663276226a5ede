use Rattle.std.specs.Prelude.{◌≡◌, Some}
use Rattle.smk_world.specs.World.{World}
use Rattle.smk_world_mem.specs.Work.{world_in, faults_in, setup_in}
use Rattle.smk_gen.specs.Files.{source_files}
use Rattle.smk_gen.specs.Made.{IsAfterPuts}
use Rattle.smk_gen.proofs.filling.place_sources.Given as goal

abbrev pub invariant-loop-before : goal.invariant-loop-before
invariant-loop-before l =
    ((w : World) → world_in l.work ≡ Some w → IsAfterPuts (source_files l.seed l.before) w)
    × (faults_in l.work ≡ faults_in l.initial.work)
    × (setup_in l.work ≡ setup_in l.initial.work)
