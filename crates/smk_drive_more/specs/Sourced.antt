-- What is told of paths that no job makes.
use Rattle.std.specs.Prelude.{Bool, true, false, is_some, ◌||◌}
use Rattle.smk_world.specs.declared.event.WorkFault.{WorkFault}
use Rattle.smk_world.specs.declared.event.WorkFault.TheVariants.{Failed, OutOfMemory}
use Rattle.smk_store.specs.Images.{Image, is_source}
use Rattle.smk_chain.specs.declared.jobs.Maker.{Maker}

-- a job makes the path of the maker, or it is a source
abbrev pub is_made_or_source : Image → Maker → Bool
is_made_or_source image m = is_some m.job || is_source image m.path

-- a call failed
abbrev pub is_failed : WorkFault → Bool
is_failed Failed = true
is_failed OutOfMemory = false
