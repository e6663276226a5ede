use Rattle.std.proofs.Common.{take}
use Rattle.std.specs.List.{flat_map}
use Rattle.smk_plan_look.specs.Gathering.{HasAdded, source_path}
use Rattle.smk_plan_look.proofs.paths.add_sources.Given as goal

abbrev pub invariant-loop-maker : goal.invariant-loop-maker
invariant-loop-maker l = HasAdded l.fn.paths l.paths (flat_map source_path (take l.maker-index l.makers))
